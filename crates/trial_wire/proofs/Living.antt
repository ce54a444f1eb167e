-- The server's half of a connection: a session that heard the first bytes of what a device sent, in the words of the log.
use Rattle.std.proofs.Common.{◌≡◌, ◌≤◌, ◌<◌, inl, inr, ℕ, ◌-◌, ◌^◌, Bool, true, false, List, [], ◌∷◌, ◌++◌, length, take, refl, sym, ◌∙◌, ap, subst, arith, append_assoc, append-nil, length-append, length-take-le, take_at, if◌then◌else◌}
use Rattle.std.proofs.lemmas.Bool.{cases_lt, false≢true, true≢false}
use Rattle.std.proofs.lemmas.Bool.Decides.{eqb_tells, leb_tells}
use Rattle.std.proofs.lemmas.Grind.{flat_map-append}
use Rattle.layout.specs.Rows.{fault, judge}
use Rattle.frame_layout.specs.UpRows.{up_rows}
use Rattle.frame_layout.specs.Values.{UpValue, login, packet, response}
use Rattle.item_streams.specs.Streams.{Item, ended_by, next_rows, place_after}
use Rattle.item_streams.proofs.StreamLaws.{add_up}
use Rattle.session_core.proofs.Reading.{up_stream}
use Rattle.shelf.specs.Shelf.{ShelfView}
use Rattle.tracker_session.specs.Sending.{AreSentBodies, stream_up}
use Rattle.trial_model.specs.declared.outcome.ConnectionOutcome.{ConnectionOutcome}
use Rattle.trial_model.specs.declared.outcome.ServerEnd.{ServerEnd}
use Rattle.trial_model.specs.declared.outcome.ServerEnd.TheVariants as Server
use Rattle.trial_model.specs.Answers.{counted_of, inside_of, is_fault, last_end}
use Rattle.trial_model.specs.Delivery.{delivered_of}
use Rattle.trial_model.specs.Frames.{Frame, counts_of, frames_of, frames_within, login_size}
use Rattle.trial_server.specs.Serving.{Serves}
use Rattle.trial_wire.specs.Connections.{IsEndNow, IsHeard, IsOwnEnd}
use Rattle.trial_wire.specs.Hearing.{Hears, IsOver, answers, as_frames, device_in, end_now, frame_by, items_in, rest_in}
use Rattle.trial_wire.specs.Hearing as hearing
use Rattle.trial_wire.proofs.Filters.{frames-rise, none-low}
use Rattle.trial_wire.proofs.Hearing.{frames-push}
use Rattle.trial_wire.proofs.Reading.{items_at, none-broken, packets-taken, place-taken, taken-long, taken-short}

module _ (bodies : List (List ℕ)) (are : AreSentBodies bodies) (c : ConnectionOutcome) (digits : c.imei < 10 ^ 15) (up_is : c.up ≡ stream_up c.imei bodies) (within : c.up_given ≤ length c.up) where
  abbrev pub bytes : List ℕ
  bytes = take c.up_given c.up

  abbrev pub packets : List (Item UpValue)
  packets = ended_by c.up_given (items_at 17 bodies are)

  abbrev pub first : Item UpValue
  first = record { value = login c.imei; end = 17 }

  in-stream : c.up_given ≤ length (stream_up c.imei bodies)
  in-stream = subst (λ u. c.up_given ≤ length u) up_is within

  pub short-items : c.up_given < login_size → items_in bytes ≡ []
  short-items few = ap (λ u. items_in (take c.up_given u)) up_is ∙ taken-short c.imei bodies are digits c.up_given in-stream few

  pub long-items : login_size ≤ c.up_given → items_in bytes ≡ first ∷ packets
  long-items long = ap (λ u. items_in (take c.up_given u)) up_is ∙ taken-long c.imei bodies are digits c.up_given in-stream long

  pub packets-are : as_frames packets ≡ delivered_of c
  packets-are = packets-taken c.imei bodies are digits c.up_given in-stream ∙ ap (frames_within c.up_given) (sym up_is)

  none-short : c.up_given < login_size → delivered_of c ≡ []
  none-short few = none-low login_size c.up_given (frames_of c.up) (frames-rise c.up) (omega arith)

  -- all frames among the items
  pub all-frames : as_frames (items_in bytes) ≡ delivered_of c
  all-frames = elim (cases_lt c.up_given login_size) as (λ _. as_frames (items_in bytes) ≡ delivered_of c) [
    | inl few ↦ ap as_frames (short-items few) ∙ sym (none-short few)
    | inr long ↦ ap as_frames (long-items long) ∙ packets-are
  ]

  pub device-is : login_size ≤ c.up_given → device_in (items_in bytes) ≡ c.imei
  device-is long = ap device_in (long-items long)

  place-is : login_size ≤ c.up_given → place_after 0 (items_in bytes) ≡ last_end login_size (delivered_of c)
  place-is long = ap (place_after 0) (long-items long) ∙ (place-taken c.imei bodies are digits c.up_given in-stream ∙ ap (λ u. last_end login_size (frames_within c.up_given u)) (sym up_is))

  -- the bytes of the unfinished item
  pub inside-is : inside_of c ≡ length (rest_in bytes)
  inside-is =
      let sum = add_up (up_rows false) (up_rows true) 0 bytes up_stream in
      let size = length-take-le c.up_given c.up within in
      elim (leb_tells login_size c.up_given) as (λ _. inside_of c ≡ length (rest_in bytes)) [
        | inl long ↦ rw long.0 (let at = place-is long.1 in omega (arith, sum, size, at))
        | inr few ↦ rw few.0 (let at = ap (place_after 0) (short-items few.1) in omega (arith, sum, size, at))
      ]

  -- the frames on this line, by the device
  serves-own : (bad : Bool) (fs : List Frame) (start now : ShelfView) → (c.up_given < login_size → fs ≡ []) → (c.up_given < login_size → bad ≡ false) → Serves (device_in (items_in bytes)) bad fs start now → Serves c.imei bad fs start now
  serves-own bad fs start now none good s = elim (cases_lt c.up_given login_size) as (λ _. Serves c.imei bad fs start now) [
    | inl few ↦ (
        let empty : Serves (device_in (items_in bytes)) bad [] start now = subst (λ gs. Serves (device_in (items_in bytes)) bad gs start now) (none few) s in
        subst (λ gs. Serves c.imei bad gs start now) (sym (none few)) (empty.0, empty.1))
    | inr long ↦ subst (λ k. Serves k bad fs start now) (device-is long) s
  ]

  module _ (known : ℕ → Bool) (old : List (Item UpValue)) (start now : ShelfView) where
    -- A session that goes on.
    module _ (h : Hears known old start (items_in bytes) c.down now) where
      pub going-heard : is_fault c.server ≡ false → IsHeard (known c.imei) c
      going-heard good = record {
        within = within;
        without_login = λ few. h.down_is ∙ ap (λ is. answers (known (device_in is)) is) (short-items few);
        stranger = λ long unknown. absurd (elim h.friend as (λ _. ⊥) [
          | inl none ↦ (let q : ◌≡◌ {A = List (Item UpValue)} (first ∷ packets) [] = sym (long-items long) ∙ none in absurd (cons-none _ _ q))
          | inr friend ↦ false≢true (sym unknown ∙ (ap known (sym (device-is long)) ∙ friend))
        ]);
        counts = λ long friend.
            h.down_is ∙ (ap (λ is. answers (known (device_in is)) is) (long-items long) ∙ (ap (λ k. answers k (first ∷ packets)) friend
            ∙ ap (λ fs. 1 ∷ counts_of fs) (packets-are ∙ sym (ap (λ b. if b then take (length (delivered_of c) - 1) (delivered_of c) else delivered_of c) good))));
        uncounted = λ bad. absurd (true≢false (sym bad ∙ good));
      }
        where
          cons-none : (x : Item UpValue) (xs : List (Item UpValue)) → x ∷ xs ≡ [] → ⊥
          cons-none x xs e = let q : ◌≡◌ {A = List (Item UpValue)} (x ∷ xs) [] = e in cc

      -- the frames that it heard on this line
      pub going-split : delivered_of c ≡ as_frames old ++ as_frames h.news
      going-split = sym all-frames ∙ (ap as_frames h.split ∙ flat_map-append (λ (i : Item UpValue). frame_by i.end i.value) old h.news)

      pub going-serves : Serves c.imei false (as_frames h.news) start now
      going-serves = serves-own false (as_frames h.news) start now (λ few. no-news old h.news (sym (short-items few) ∙ h.split)) (λ few. refl) h.serves
        where
          no-news : (xs ys : List (Item UpValue)) → [] ≡ xs ++ ys → as_frames ys ≡ []
          no-news [] ys e = ap as_frames (sym e)
          no-news (x ∷ xs) ys e = absurd (let q : ◌≡◌ {A = List (Item UpValue)} [] (x ∷ (xs ++ ys)) = e in cc)

    -- its end, if the connection ended now
    pub going-end : c.server ≡ end_now (length (rest_in bytes)) → IsEndNow c c.server
    going-end is = subst (IsEndNow c) (sym is) (split (length (rest_in bytes)) inside-is)
      where
        split : (have : ℕ) → inside_of c ≡ have → IsEndNow c (end_now have)
        split have inside = elim (eqb_tells have 0) as (λ _. IsEndNow c (end_now have)) [
          | inl none ↦ rw none.0 (inside ∙ none.1)
          | inr some ↦ rw some.0 (inside, omega (arith, some.1))
        ]

    -- A session that ended: what it wrote, why it ended, and the frames that it heard on this line.
    pub record HasEnded (end : ServerEnd) : Type 0 where
      pub heard : IsHeard (known c.imei) c
      pub own : IsOwnEnd c end
      pub failed : Bool
      pub fault : is_fault end ≡ failed
      pub frames : List Frame
      pub split : delivered_of c ≡ as_frames old ++ frames
      pub serves : Serves c.imei failed frames start now
      -- it took the bytes up to its last item
      pub long : login_size ≤ c.up_given
      pub at : c.up_given ≡ last_end login_size (delivered_of c)

    never-short : (x : Item UpValue) (xs : List (Item UpValue)) → items_in bytes ≡ x ∷ xs → login_size ≤ c.up_given
    never-short x xs items = elim (cases_lt c.up_given login_size) as (λ _. login_size ≤ c.up_given) [
      | inl few ↦ absurd (let q : ◌≡◌ {A = List (Item UpValue)} [] (x ∷ xs) = sym (short-items few) ∙ items in cc)
      | inr long ↦ long
    ]

    rest-same : (x y : Item UpValue) (xs ys : List (Item UpValue)) → x ∷ xs ≡ y ∷ ys → (x ≡ y) × (xs ≡ ys)
    rest-same x y xs ys e = (cc, cc)

    ends-at : login_size ≤ c.up_given → length bytes ≡ place_after 0 (items_in bytes) → c.up_given ≡ last_end login_size (delivered_of c)
    ends-at long at = sym (length-take-le c.up_given c.up within) ∙ (at ∙ place-is long)

    one-frame : (x : Item UpValue) → length (frame_by x.end x.value) ≤ 1
    one-frame x = by x.value
      where
        by : (v : UpValue) → length (frame_by x.end v) ≤ 1
        by (login imei) = omega arith
        by (packet head body) = omega arith
        by (response body) = omega arith

    pub over-ended : (end : ServerEnd) → IsOver known old start bytes c.down now end → c.server ≡ end → (end ≡ Server.NoMemory → ⊥) → HasEnded end
    over-ended end (hearing.refused i items none_old unknown at down same end_is) server memory =
        let long = never-short i [] items in
        let stranger : known c.imei ≡ false = ap known (sym (device-is long)) ∙ unknown in
        let none : packets ≡ [] = (rest-same first i packets [] (sym (long-items long) ∙ items)).1 in
        let delivered : delivered_of c ≡ [] = sym packets-are ∙ ap as_frames none in
        let who : end ≡ Server.Unknown c.imei = end_is ∙ ap (λ k. Server.Unknown k) (device-is long) in
        record {
          heard = record {
            within = within;
            without_login = λ few. absurd (omega (arith, few, long));
            stranger = λ _ _. (down, server ∙ who);
            counts = λ _ friend. absurd (false≢true (sym stranger ∙ friend));
            uncounted = λ bad. absurd (false≢true (sym (ap is_fault (server ∙ who)) ∙ bad));
          };
          own = subst (IsOwnEnd c) (sym who) (down, refl);
          failed = false;
          fault = ap is_fault who;
          frames = [];
          split = delivered ∙ sym (append-nil (as_frames old) ∙ ap as_frames none_old);
          serves = (refl, same);
          long = long;
          at = ends-at long at;
        }
    over-ended end (hearing.failed faults i front last news items split friend at one down serves end_is) server memory =
        let long = never-short i (front ++ last ∷ []) items in
        let known_is : known c.imei ≡ true = ap known (sym (device-is long)) ∙ friend in
        let bad : is_fault c.server ≡ true = ap is_fault (server ∙ end_is) in
        let parts = rest-same first i packets (front ++ last ∷ []) (sym (long-items long) ∙ items) in
        let delivered : delivered_of c ≡ as_frames front ++ frame_by last.end last.value = sym packets-are ∙ (ap as_frames parts.1 ∙ frames-push front last) in
        let size : length (frame_by last.end last.value) ≡ 1 = (let most = one-frame last in omega arith) in
        let counted : counted_of c ≡ as_frames front =
        ap (λ b. if b then take (length (delivered_of c) - 1) (delivered_of c) else delivered_of c) bad
        ∙ (ap (λ fs. take (length fs - 1) fs) delivered ∙ (ap (λ k. take k (as_frames front ++ frame_by last.end last.value)) (let sum = length-append (as_frames front) (frame_by last.end last.value) in let e : length (as_frames front ++ frame_by last.end last.value) - 1 ≡ length (as_frames front) = omega (arith, sum, size) in e)
        ∙ take_at (as_frames front) (frame_by last.end last.value) (length (as_frames front)) refl)) in
        record {
          heard = record {
            within = within;
            without_login = λ few. absurd (omega (arith, few, long));
            stranger = λ _ unknown. absurd (false≢true (sym unknown ∙ known_is));
            counts = λ _ _. down ∙ ap (λ fs. 1 ∷ counts_of fs) (sym counted);
            uncounted = λ _. subst (λ fs. 1 ≤ length fs) (sym delivered) (omega (arith, length-append (as_frames front) (frame_by last.end last.value), size));
          };
          own = subst (IsOwnEnd c) (sym end_is) tt;
          failed = true;
          fault = ap is_fault end_is;
          frames = as_frames (news ++ last ∷ []);
          split = sym all-frames ∙ (ap as_frames (items ∙ (ap (λ l. l ++ last ∷ []) split ∙ append_assoc old news (last ∷ []))) ∙ flat_map-append (λ (x : Item UpValue). frame_by x.end x.value) old (news ++ last ∷ []));
          serves = subst (λ k. Serves k true (as_frames (news ++ last ∷ [])) start now) (device-is long) serves;
          long = long;
          at = ends-at long at;
        }
    over-ended end (hearing.broken found judged answered end_is) server memory =
        absurd (none-broken c.imei bodies are digits c.up_given in-stream found.kind found.place
        (subst (λ u. judge (next_rows (up_rows false) (up_rows true) (items_in (take c.up_given u))) 0 (rest_in (take c.up_given u)) ≡ fault found.kind found.place) up_is judged))
    over-ended end (hearing.starved end_is) server memory = absurd (memory end_is)
