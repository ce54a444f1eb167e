-- The items that a session hears, and what is true of it after one more.
use Rattle.std.proofs.Common.{◌≡◌, inl, inr, ℕ, Bool, true, false, List, [], ◌∷◌, ◌++◌, length, refl, sym, ◌∙◌, ap, subst, append_assoc, append-nil, arith}
use Rattle.std.proofs.lemmas.Bool.{false≢true}
use Rattle.std.proofs.lemmas.Grind.{flat_map-append}
use Rattle.frame_layout.specs.Items.{count_bytes}
use Rattle.frame_layout.specs.Values.{UpValue, login}
use Rattle.item_streams.specs.Streams.{Item, place_after}
use Rattle.shelf.specs.Shelf.{ShelfView}
use Rattle.trial_model.specs.declared.outcome.ServerEnd.TheVariants as Server
use Rattle.trial_model.specs.Frames.{Frame, counts_of}
use Rattle.trial_server.specs.Serving.{IsRefused, Serves}
use Rattle.trial_server.proofs.Admitting.{serves-up}
use Rattle.trial_wire.specs.Hearing.{Hears, IsOver, answers, as_frames, device_in, failed, frame_by, items_in, refused}

-- Frames that were served, and then more.
pub serves-append : (imei : ℕ) (bad : Bool) (fs gs : List Frame) (a b c : ShelfView) → Serves imei false fs a b → Serves imei bad gs b c → Serves imei bad (fs ++ gs) a c
serves-append imei bad [] gs a b c (good, same) later = subst (λ v. Serves imei bad gs v c) same later
serves-append imei bad (f ∷ fs) gs a b c (inl (mid, admitted, rest)) later = inl (mid, admitted, serves-append imei bad fs gs mid b c rest later)
serves-append imei bad (f ∷ fs) gs a b c (inr (never, none, r)) later = absurd (false≢true never)

pub frames-push : (is : List (Item UpValue)) (i : Item UpValue) → as_frames (is ++ i ∷ []) ≡ as_frames is ++ frame_by i.end i.value
frames-push is i = flat_map-append (λ (x : Item UpValue). frame_by x.end x.value) is (i ∷ []) ∙ ap (λ l. as_frames is ++ l) (append-nil (frame_by i.end i.value))

pub counts-append : (xs ys : List Frame) → counts_of (xs ++ ys) ≡ counts_of xs ++ counts_of ys
counts-append xs ys = flat_map-append (λ (f : Frame). count_bytes (length f.records)) xs ys

-- an item more, after a first one
answers-push : (i : Item UpValue) (is : List (Item UpValue)) (x : Item UpValue) → answers true ((i ∷ is) ++ x ∷ []) ≡ answers true (i ∷ is) ++ counts_of (frame_by x.end x.value)
answers-push i is x = ap (λ l. 1 ∷ l) (ap counts_of (frames-push is x) ∙ counts-append (as_frames is) (frame_by x.end x.value))

pub place-last : (place : ℕ) (is : List (Item UpValue)) (x : Item UpValue) → place_after place (is ++ x ∷ []) ≡ x.end
place-last place [] x = refl
place-last place (i ∷ is) x = place-last i.end is x

no-old : (xs ys : List (Item UpValue)) → [] ≡ xs ++ ys → xs ≡ []
no-old [] ys e = refl
no-old (x ∷ xs) ys e = absurd (let q : ◌≡◌ {A = List (Item UpValue)} [] (x ∷ (xs ++ ys)) = e in cc)

no-news : (xs ys : List (Item UpValue)) → [] ≡ xs ++ ys → ys ≡ []
no-news [] ys e = sym e
no-news (x ∷ xs) ys e = absurd (let q : ◌≡◌ {A = List (Item UpValue)} [] (x ∷ (xs ++ ys)) = e in cc)

module _ (known : ℕ → Bool) (old : List (Item UpValue)) (start : ShelfView) where
  -- a shelf that was up is up while a session goes on
  pub hears-up : (items : List (Item UpValue)) (down : List ℕ) (s : ShelfView) → Hears known old start items down s → s.down ≡ false
  hears-up items down s h = serves-up (device_in items) (as_frames h.news) start s h.up h.serves

  friend-now : (i : Item UpValue) (is : List (Item UpValue)) (down : List ℕ) (s : ShelfView) → Hears known old start (i ∷ is) down s → known (device_in (i ∷ is)) ≡ true
  friend-now i is down s h = elim h.friend [
    | inl none ↦ absurd (let q : ◌≡◌ {A = List (Item UpValue)} (i ∷ is) [] = none in cc)
    | inr friend ↦ friend
  ]

  down-now : (i : Item UpValue) (is : List (Item UpValue)) (down : List ℕ) (s : ShelfView) → Hears known old start (i ∷ is) down s → down ≡ answers true (i ∷ is)
  down-now i is down s h = h.down_is ∙ ap (λ k. answers k (i ∷ is)) (friend-now i is down s h)

  -- an item after the login, with its frames, which were admitted
  pub hears-item : (i : Item UpValue) (is : List (Item UpValue)) (x : Item UpValue) (fs : List Frame) (down : List ℕ) (s t : ShelfView) → frame_by x.end x.value ≡ fs → Serves (device_in (i ∷ is)) false fs s t
      → Hears known old start (i ∷ is) down s → Hears known old start ((i ∷ is) ++ x ∷ []) (down ++ counts_of fs) t
  hears-item i is x fs down s t frames admitted h = record {
    up = h.up;
    down_is = ap (λ d. d ++ counts_of fs) (down-now i is down s h) ∙ (ap (λ gs. answers true (i ∷ is) ++ counts_of gs) (sym frames) ∙ (sym (answers-push i is x)
        ∙ ap (λ k. answers k ((i ∷ is) ++ x ∷ [])) (sym (friend-now i is down s h))));
    friend = inr (friend-now i is down s h);
    news = h.news ++ x ∷ [];
    split = ap (λ l. l ++ x ∷ []) h.split ∙ append_assoc old h.news (x ∷ []);
    serves = subst (λ gs. Serves (device_in (i ∷ is)) false gs start t) (ap (λ gs. as_frames h.news ++ gs) (sym frames) ∙ sym (frames-push h.news x))
        (serves-append (device_in (i ∷ is)) false (as_frames h.news) fs start s t h.serves admitted);
  }

  -- the login of a device that is known: 1 is written
  pub hears-login : (who end : ℕ) (down : List ℕ) (s : ShelfView) → known who ≡ true → Hears known old start [] down s → Hears known old start (record { value = login who; end = end } ∷ []) (down ++ 1 ∷ []) s
  hears-login who end down s friend h =
      let x : Item UpValue = record { value = login who; end = end } in
      let same : s ≡ start = (let now : Serves 0 false (as_frames []) start s = subst (λ is. Serves 0 false (as_frames is) start s) (no-news old h.news h.split) h.serves in now.1) in
      record {
        up = h.up;
        down_is = ap (λ d. d ++ 1 ∷ []) h.down_is ∙ ap (λ k. answers k (x ∷ [])) (sym friend);
        friend = inr friend;
        news = x ∷ [];
        split = ap (λ l. l ++ x ∷ []) (sym (no-old old h.news h.split));
        serves = (refl, same);
      }

  -- the login of a stranger: 0 is written, and it is over
  pub over-refused : (who end : ℕ) (bytes down : List ℕ) (s : ShelfView) → known who ≡ false → items_in bytes ≡ record { value = login who; end = end } ∷ [] → length bytes ≡ end
      → Hears known old start [] down s → IsOver known old start bytes (down ++ 0 ∷ []) s (Server.Unknown who)
  over-refused who end bytes down s stranger items at h =
      let x : Item UpValue = record { value = login who; end = end } in
      let same : s ≡ start = (let now : Serves 0 false (as_frames []) start s = subst (λ is. Serves 0 false (as_frames is) start s) (no-news old h.news h.split) h.serves in now.1) in
      refused x items (no-old old h.news h.split) (ap (λ is. known (device_in is)) items ∙ stranger) (at ∙ sym (ap (place_after 0) items)) (ap (λ d. d ++ 0 ∷ []) h.down_is) same
      (ap (λ is. Server.Unknown (device_in is)) (sym items))

  -- a packet in which the medium failed: it is over, with nothing written
  pub over-failed : (faults : ℕ) (i : Item UpValue) (is : List (Item UpValue)) (x : Item UpValue) (f : Frame) (bytes down : List ℕ) (s t : ShelfView) → frame_by x.end x.value ≡ f ∷ [] → IsRefused (device_in (i ∷ is)) f.records s t
      → items_in bytes ≡ (i ∷ is) ++ x ∷ [] → length bytes ≡ x.end → Hears known old start (i ∷ is) down s → IsOver known old start bytes down t (Server.MediumFault faults)
  over-failed faults i is x f bytes down s t frame r items at h =
      let served : Serves (device_in (i ∷ is)) true (as_frames h.news ++ f ∷ []) start t =
      serves-append (device_in (i ∷ is)) true (as_frames h.news) (f ∷ []) start s t h.serves (inr (refl, refl, r)) in
      let now : Serves (device_in (i ∷ is)) true (as_frames (h.news ++ x ∷ [])) start t =
      subst (λ gs. Serves (device_in (i ∷ is)) true gs start t) (ap (λ gs. as_frames h.news ++ gs) (sym frame) ∙ sym (frames-push h.news x)) served in
      failed faults i is x h.news items h.split (ap (λ l. known (device_in l)) items ∙ friend-now i is down s h) (at ∙ sym (ap (place_after 0) items ∙ place-last 0 (i ∷ is) x)) (omega (arith, ap length frame))
      (down-now i is down s h) (subst (λ l. Serves (device_in l) true (as_frames (h.news ++ x ∷ [])) start t) (sym items) now) refl
