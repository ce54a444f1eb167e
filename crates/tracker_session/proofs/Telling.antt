-- A round over a link that tells its bytes, told by its batches.
use Rattle.std.proofs.Common.{◌≡◌, ◌⊎◌, inl, inr, ◌≢◌, ℕ, zero, suc, ◌+◌, ◌<◌, ◌≤◌, ◌^◌, Bool, true, false, List, [], ◌∷◌, ◌++◌, length, take, drop, Option, Some, None, Ok, Err, Result, refl, sym, ap, subst, ◌∙◌, append_assoc, append-nil, arith, length-append}
use Rattle.std.proofs.lemmas.List.{append_cancel_left, map-append, take_all}
use Rattle.std.proofs.lemmas.Grind.{flat_map-append}
use Rattle.std.proofs.Math.Seq.{take-append_seam, drop-append_seam}
use Rattle.std.specs.List.{flat_map}
use Rattle.avl_values.specs.Record.{Record}
use Rattle.avl_values.specs.declared.errors.MediumFault.{MediumFault}
use Rattle.layout.specs.Bytes.{AreBytes}
use Rattle.layout.specs.Rows.{Verdict, short, fault}
use Rattle.layout.proofs.Numbers.{bytes-append, bytes-front}
use Rattle.item_streams.specs.Readers.{ReadsAs}
use Rattle.item_streams.specs.Streams.{Item, Reading, reading_of, values, with_items}
use Rattle.links.specs.Links.{Moves, Traffic, with_more}
use Rattle.frame_layout.specs.DownRows.{down_rows, down_verdict}
use Rattle.frame_layout.specs.Items.{IsDownItem, count_bytes, frame_of, login_of}
use Rattle.frame_layout.specs.Readings.{down_reading, orders_of}
use Rattle.frame_layout.specs.Values.{DownValue, answer, count}
use Rattle.flash_ring.specs.Entries.{held_of}
use Rattle.flash_ring.specs.Held.{AreSound, Held}
use Rattle.flash_ring.specs.Records.{recs_in}
use Rattle.flash_ring.specs.Ring.{RingView}
use Rattle.tracker_session.specs.Responses.{ShellMeaning}
use Rattle.tracker_session.specs.RingRounds.{RoundsRing}
use Rattle.tracker_session.specs.RoundStates.{AllFit, Fits, IsWaiting, Round, RoundState, after, counts, next, starts, text, writes}
use Rattle.tracker_session.specs.Rounds.{Ends, IsRound, Rests, Stops, cut, empty, stands_at, talked}
use Rattle.tracker_session.specs.Sending.{AreSentBodies}
use Rattle.tracker_session.specs.Talks.{AreDecided, HeardAll, HearsNoCommand, IsTalkEnd, RoundTalks, WaitsForAnswer, WaitsForCount, counts_by, records_by}
use Rattle.tracker_session.specs.WholeRounds.{TalksWhere}
use Rattle.tracker_session.specs.declared.heard.Got.TheVariants as got
use Rattle.tracker_session.specs.declared.round_end.RoundEnd.{RoundEnd}
use Rattle.tracker_session.specs.declared.round_end.RoundEnd.TheVariants as end
use Rattle.tracker_session.proofs.Bodies.{bodies-one, bodies-records, bodies_of, frames-bytes, recs-some}
use Rattle.tracker_session.proofs.Draining.{adds-after, adds-next, adds-starts, one_if}
use Rattle.tracker_session.proofs.RecordBytes.{login-bytes}
use Rattle.tracker_session.proofs.Releasing.{AreGiven, count-recs, given-after, given-back, given-front, given-next, given-starts, next-accepted, stay-accepted}
use Rattle.tracker_session.proofs.Sents.{Sent, counted-all, heard_by, nothing-written, sent-items, sent-last}
use Rattle.tracker_session.proofs.Spelled.{ArePlain, IsPlaced, IsPlain, never-broken, none-taken, plain-front, plain-items, plain-last, reading-placed, reading-spelled, spelled}

-- What was sent and heard at the end of a talk, by where the round stands then.
pub record IsTold {S : Type 0} (r : Round S) (result : Result RoundEnd MediumFault) (taken written : List ℕ) (d : RoundState S) : Type 0 where
  pub bodies : List (List ℕ)
  pub back : List ℕ
  pub are : AreSentBodies bodies
  pub held : AreDecided (held_of r.slots) bodies
  pub few : length bodies ≤ r.most
  pub written_is : written ≡ flat_map frame_of bodies
  pub ends : IsTalkEnd result taken bodies d.frames back
  pub records : records_by (take d.frames bodies) ≡ recs_in r.slots d.closed

-- the first of some bodies
front-of : (xs ys : List (List ℕ)) (n : ℕ) → length xs ≡ n → take n (xs ++ ys) ≡ xs
front-of xs ys n size = ap (λ (k : ℕ). take k (xs ++ ys)) (sym size) ∙ take-append_seam xs ys

back-of : (xs ys : List (List ℕ)) (n : ℕ) → length xs ≡ n → drop n (xs ++ ys) ≡ ys
back-of xs ys n size = ap (λ (k : ℕ). drop k (xs ++ ys)) (sym size) ∙ drop-append_seam xs ys

-- a count that stands at its place is one
count-bounds : (k : ℕ) → IsPlaced (count k) → (0 < k) × (k < 2 ^ 32)
count-bounds k p = by p.after_answer p.is
  where
    by : (b : Bool) → IsDownItem b (count k) (count_bytes k) → (0 < k) × (k < 2 ^ 32)
    by false is = absurd is
    by true is = (is.some, is.fits)

module _ {S : Type 0} (m : ShellMeaning S) (r : Round S) (sound : AreSound r.slots) where
  -- of a round after some items
  abbrev at : List DownValue → RoundState S
  at vs = after m r (starts r) vs

  given-at : (vs : List DownValue) → AreGiven r.slots ((at vs).closed ++ (at vs).batch)
  given-at vs = given-after m r (starts r) vs (given-starts m r)

  -- one batch is outstanding
  one-out : (d : RoundState S) (written heard : List ℕ) (s : Sent m r d written heard) → AreGiven r.slots (d.closed ++ d.batch) → 0 < length d.batch → length s.out ≡ 1
  one-out d written heard s given some = ap length s.waiting ∙ bodies-one (recs_in r.slots d.batch) (recs-some r.slots d.batch (given-back r.slots d.closed d.batch given) some)

  -- the round waits for a count, or for the login's answer
  waits-count : (d : RoundState S) (written heard : List ℕ) (s : Sent m r d written heard) → AreGiven r.slots (d.closed ++ d.batch) → d.accepted ≡ true → IsWaiting d → WaitsForCount (s.counted ++ s.out) d.frames
  waits-count d written heard s given accepted waits =
      let one = one-out d written heard s given (waits accepted) in
      let frames = s.frames in
      record { one_more = length-append s.counted s.out ∙ omega arith }

  waits-answer : (d : RoundState S) (written heard : List ℕ) (s : Sent m r d written heard) → d.accepted ≡ false → WaitsForAnswer (s.counted ++ s.out) d.frames
  waits-answer d written heard s fresh =
      let none = s.before fresh in
      record { none_sent = ap (λ (xs : List (List ℕ)). xs ++ s.out) none.0 ∙ none.1; none_heard = sym s.frames ∙ ap length none.0 }

  -- what was heard after the login was accepted, and before
  heard-counts : (d : RoundState S) (written heard : List ℕ) (s : Sent m r d written heard) → d.accepted ≡ true → heard ≡ 1 ∷ counts_by (take d.frames (s.counted ++ s.out))
  heard-counts d written heard s accepted =
      s.heard_is ∙ ap (λ (b : Bool). heard_by b s.counted) accepted ∙ ap (λ (xs : List (List ℕ)). 1 ∷ counts_by xs) (sym (front-of s.counted s.out d.frames s.frames))

  heard-nothing : (d : RoundState S) (written heard : List ℕ) (s : Sent m r d written heard) → d.accepted ≡ false → heard ≡ []
  heard-nothing d written heard s fresh = s.heard_is ∙ ap (λ (b : Bool). heard_by b s.counted) fresh

  -- told by what was sent so far
  told : (result : Result RoundEnd MediumFault) (d : RoundState S) (taken back written heard : List ℕ) (s : Sent m r d written heard) → IsTalkEnd result taken (s.counted ++ s.out) d.frames back → IsTold r result taken written d
  told result d taken back written heard s ends = record {
    bodies = s.counted ++ s.out;
    back = back;
    are = s.are;
    held = s.held;
    few = (let left = s.left in omega arith);
    written_is = s.written_is;
    ends = ends;
    records = ap records_by (front-of s.counted s.out d.frames s.frames) ∙ s.records;
  }

  -- It rests: the link's end, or bytes that are no item.
  rests-told : (result : Result RoundEnd MediumFault) (verdict : Verdict DownValue) (taken : List ℕ) (items : List (Item DownValue)) (rest : List ℕ) → AreBytes taken → ReadsAs down_rows false taken items rest verdict
      → AllFit m r (starts r) (values items) → ArePlain (values items) → IsWaiting (at (values items))
      → ((bodies : List (List ℕ)) (heard : ℕ) → WaitsForAnswer bodies heard → taken ≡ rest → AreBytes rest → down_verdict false rest ≡ verdict → IsTalkEnd result taken bodies heard [])
      → ((bodies : List (List ℕ)) (heard : ℕ) → WaitsForCount bodies heard → taken ≡ (1 ∷ counts_by (take heard bodies)) ++ rest → down_verdict true rest ≡ verdict → IsTalkEnd result taken bodies heard [])
      → IsTold r result taken (text m r (starts r) (values items)) (at (values items))
  rests-told result verdict taken [] rest known reading fit plain waits first later =
      let s = sent-items m r [] sound fit plain in
      let same : taken ≡ rest = reading-spelled taken rest [] known reading.is in
      told result (starts r) taken [] [] [] s (first (s.counted ++ s.out) 0 (waits-answer (starts r) [] [] s refl) same (subst AreBytes same known) reading.judged)
  rests-told result verdict taken (i ∷ items) rest known reading fit plain waits first later =
      let vs = values (i ∷ items) in
      let s = sent-items m r vs sound fit plain in
      let accepted : (at vs).accepted ≡ true = stay-accepted m r (next m r (starts r) i.value) (values items) (next-accepted m r (starts r) i.value fit.0) fit.1 in
      let same : taken ≡ flat_map spelled vs ++ rest = reading-spelled taken rest (i ∷ items) known reading.is in
      told result (at vs) taken [] (text m r (starts r) vs) (flat_map spelled vs) s
      (later (s.counted ++ s.out) (at vs).frames (waits-count (at vs) _ _ s (given-at vs) accepted waits) (same ∙ ap (λ (b : List ℕ). b ++ rest) (heard-counts (at vs) _ _ s accepted)) reading.judged)

  -- It stops at an item: what was taken is what was heard, that item, and what wasn't looked at.
  module _ (taken : List ℕ) (heard back : List ℕ) (items : List (Item DownValue)) (last : Item DownValue) (known : AreBytes taken) (split : taken ≡ heard ++ back)
      (reading : down_reading false heard ≡ record { items = items ++ last ∷ []; rest = [] }) (fit : AllFit m r (starts r) (values items)) (plain : ArePlain (values items)) where
    heard-bytes : AreBytes heard
    heard-bytes = bytes-front heard back (subst AreBytes split known)

    abbrev vs : List DownValue
    vs = values items

    abbrev sent : Sent m r (at vs) (text m r (starts r) vs) (flat_map spelled vs)
    sent = sent-items m r vs sound fit plain

    heard-is : heard ≡ flat_map spelled vs ++ spelled last.value
    heard-is =
        reading-spelled heard [] (items ++ last ∷ []) heard-bytes reading ∙ append-nil (flat_map spelled (values (items ++ last ∷ [])))
        ∙ ap (flat_map spelled) (map-append (λ (x : Item DownValue). x.value) items (last ∷ [])) ∙ flat_map-append spelled vs (last.value ∷ []) ∙ ap (λ (b : List ℕ). flat_map spelled vs ++ b) (append-nil (spelled last.value))

    taken-is : (v : DownValue) → last.value ≡ v → taken ≡ (flat_map spelled vs ++ spelled v) ++ back
    taken-is v e = split ∙ ap (λ (b : List ℕ). b ++ back) heard-is ∙ ap (λ (w : DownValue). (flat_map spelled vs ++ spelled w) ++ back) e

    -- before the login's answer nothing else was heard
    answer-taken : (b : ℕ) → last.value ≡ answer b → (at vs).accepted ≡ false → taken ≡ (b ∷ []) ++ back
    answer-taken b e fresh = taken-is (answer b) e ∙ ap (λ (x : List ℕ). (x ++ b ∷ []) ++ back) (heard-nothing (at vs) _ _ sent fresh)

    -- the login was refused
    refused-told : last.value ≡ answer 0 → (at vs).accepted ≡ false → IsTold r (Ok end.Refused) taken (text m r (starts r) vs) (at vs)
    refused-told e fresh = told (Ok end.Refused) (at vs) taken back (text m r (starts r) vs) (flat_map spelled vs) sent (waits-answer (at vs) _ _ sent fresh, answer-taken 0 e fresh)

    -- another byte
    login-told : (b : ℕ) → last.value ≡ answer b → (at vs).accepted ≡ false → (b ≢ 0) → (b ≢ 1) → IsTold r (Ok (end.WrongAnswer (got.Login b))) taken (text m r (starts r) vs) (at vs)
    login-told b e fresh zero_not one_not =
        told (Ok (end.WrongAnswer (got.Login b))) (at vs) taken back (text m r (starts r) vs) (flat_map spelled vs) sent (waits-answer (at vs) _ _ sent fresh, answer-taken b e fresh, zero_not, one_not)

    -- another count
    count-told : (k : ℕ) → last.value ≡ count k → (at vs).accepted ≡ true → IsWaiting (at vs) → (((at vs).batch ≡ []) ⊎ (k ≢ length (at vs).batch)) → IsTold r (Ok (end.WrongAnswer (got.Count k))) taken (text m r (starts r) vs) (at vs)
    count-told k e accepted waits other =
        let P : DownValue → Type 0 = λ v. IsPlaced v in
        let bounds = count-bounds k (subst P e (reading-placed heard [] items last heard-bytes reading)) in
        let d = at vs in
        let is = taken-is (count k) e ∙ append_assoc (flat_map spelled vs) (count_bytes k) back ∙ ap (λ (x : List ℕ). x ++ (count_bytes k ++ back)) (heard-counts d _ _ sent accepted) in
        told (Ok (end.WrongAnswer (got.Count k))) d taken back (text m r (starts r) vs) (flat_map spelled vs) sent
        (waits-count d _ _ sent (given-at vs) accepted waits, is, bounds.0, bounds.1, λ same. not-own (waits accepted) (same ∙ out-size) other)
      where
        out-size : length (records_by (drop (at vs).frames (sent.counted ++ sent.out))) ≡ length (at vs).batch
        out-size =
            ap (λ (xs : List (List ℕ)). length (records_by xs)) (back-of sent.counted sent.out (at vs).frames sent.frames ∙ sent.waiting)
            ∙ ap length (bodies-records (recs_in r.slots (at vs).batch) sent.batch) ∙ count-recs r.slots (at vs).batch (given-back r.slots (at vs).closed (at vs).batch (given-at vs))

        not-own : 0 < length (at vs).batch → k ≡ length (at vs).batch → (((at vs).batch ≡ []) ⊎ (k ≢ length (at vs).batch)) → ⊥
        not-own some same (inl none) = let size = ap length none in omega arith
        not-own some same (inr differs) = differs same

    -- all that was sent was counted
    done-told : (n : ℕ) → Fits m r (at vs) last.value → IsPlain last.value → (next m r (at vs) last.value).batch ≡ [] → n ≡ length (next m r (at vs) last.value).closed → 1 ≤ (next m r (at vs) last.value).frames
        → IsTold r (Ok (end.Done n)) taken (text m r (starts r) vs) (next m r (at vs) last.value)
    done-told n fits is_plain none size some =
        let d = next m r (at vs) last.value in
        let s = sent-last m r vs last.value sound fit plain fits is_plain in
        let given = given-next m r (at vs) last.value (given-at vs) in
        let out : s.out ≡ [] = s.waiting ∙ ap (λ (ks : List ℕ). bodies_of (recs_in r.slots ks)) none in
        let all : s.counted ++ s.out ≡ s.counted = ap (λ (xs : List (List ℕ)). s.counted ++ xs) out ∙ append-nil s.counted in
        let count_all : length (s.counted ++ s.out) ≡ d.frames = ap length all ∙ s.frames in
        let is : taken ≡ (1 ∷ counts_by (s.counted ++ s.out)) ++ back = taken-is last.value refl
        ∙ ap (λ (x : List ℕ). x ++ back) (heard-counts d _ _ s (next-accepted m r (at vs) last.value fits) ∙ ap (λ (xs : List (List ℕ)). 1 ∷ counts_by xs) (front-of s.counted s.out d.frames s.frames ∙ sym all)) in
        let records : length (records_by (s.counted ++ s.out)) ≡ length d.closed = ap (λ (xs : List (List ℕ)). length (records_by xs)) all ∙ ap length s.records ∙ count-recs r.slots d.closed (given-front r.slots d.closed d.batch given).opens in
        let heard_all : HeardAll taken (s.counted ++ s.out) d.frames back = record { is = is; all = sym count_all; some = omega arith } in
        let P : List ℕ → Type 0 = λ w. IsTold r (Ok (end.Done n)) taken w d in
        let written : text m r (starts r) vs ++ writes m r (at vs) last.value ≡ text m r (starts r) vs = ap (λ (b : List ℕ). text m r (starts r) vs ++ b) (nothing-written m r (at vs) last.value is_plain none) ∙ append-nil (text m r (starts r) vs) in
        subst P written (told (Ok (end.Done n)) d taken back _ _ s (heard_all, size ∙ sym records))

    -- the medium failed as the last batch was released
    failed-told : (failed : MediumFault) → Fits m r (at vs) last.value → last.value ≡ count (length (at vs).batch) → IsTold r (Err failed) taken (text m r (starts r) vs) (counts m r (at vs))
    failed-told failed fits e =
        let d = at vs in
        let P : DownValue → Type 0 = λ v. Fits m r d v in
        let c = counted-all m r d (text m r (starts r) vs) (flat_map spelled vs) (length d.batch) (given-at vs) sent (subst P e fits) in
        let frames = c.frames in
        let whole : take (d.frames + 1) (sent.counted ++ sent.out) ≡ sent.counted ++ sent.out = take_all (d.frames + 1) (sent.counted ++ sent.out) (omega arith) in
        record {
          bodies = sent.counted ++ sent.out;
          back = back;
          are = c.are;
          held = c.held;
          few = (let left = c.left in omega arith);
          written_is = c.written_is;
          ends = record { is = taken-is (count (length d.batch)) e ∙ ap (λ (b : List ℕ). b ++ back) c.heard_is; all = sym frames; some = omega arith };
          records = ap records_by whole ∙ c.records;
        }

  -- no command is among the items that were heard
  plain-stops : (taken heard back : List ℕ) (items : List (Item DownValue)) (last : Item DownValue) → down_reading false taken ≡ with_items (items ++ last ∷ []) (reading_of (down_rows true) (down_rows true) (length heard) back)
      → orders_of (down_reading false taken).items ≡ [] → ArePlain (values (items ++ last ∷ []))
  plain-stops taken heard back items last reads_on none =
      let later = (reading_of (down_rows true) (down_rows true) (length heard) back).items in
      plain-front (items ++ last ∷ []) later (plain-items ((items ++ last ∷ []) ++ later) (ap (λ (k : Reading DownValue). orders_of k.items) (sym reads_on) ∙ none))

  module _ (old new : RingView) (t : S) (rose : Type 0) (steady : rose → ⊥) (open_slots : held_of old.slots ≡ [] → ⊥) (some_batch : 0 < r.most) where
    -- done with a batch
    done-some : (n : ℕ) (taken : List ℕ) (d : RoundState S) (x y : Option Traffic) (s : Stops m r rose (Ok (end.Done n)) taken d old new t x y) → 1 ≤ (next m r (at (values s.items)) s.last.value).frames
    done-some n taken d x y s =
        let e = next m r (at (values s.items)) s.last.value in
        let a = adds-next m r (at (values s.items)) s.last.value s.stops.0 (adds-after m r (starts r) (values s.items) s.fits (adds-starts m r)) in
        elim s.stops.4 as (λ _. 1 ≤ e.frames) [
          | inl spent ↦ (let all = a.all in let none = ap one_if s.stops.2 in omega arith)
          | inr none_held ↦ some-frames e.frames (λ none. open_slots (ap (λ (v : RingView). held_of v.slots) (sym (s.stops.1.untouched none)) ∙ none_held))
        ]
      where
        some-frames : (k : ℕ) → (k ≡ 0 → ⊥) → 1 ≤ k
        some-frames zero never = absurd (never refl)
        some-frames (suc k) never = omega arith

    stops-told : (result : Result RoundEnd MediumFault) (taken : List ℕ) (d : RoundState S) (x y : Option Traffic) → AreBytes taken → (s : Stops m r rose result taken d old new t x y) → orders_of (down_reading false taken).items ≡ []
        → IsTold r result taken (text m r (starts r) (values s.items)) (stands_at m r result (at (values s.items)) s.last.value) × (s.then_ ≡ [])
    stops-told (Ok (end.Done n)) taken d x y known s none =
        let p = plain-stops taken s.heard s.back s.items s.last s.reads_on none in
        (done-told taken s.heard s.back s.items s.last known s.split s.reading s.fits (plain-front s.items (s.last ∷ []) p) n s.stops.0 (plain-last s.items s.last p) s.stops.2 s.stops.3 (done-some n taken d x y s), s.stops.5)
    stops-told (Ok end.Empty) taken d x y known s none = absurd s.stops
    stops-told (Ok end.Refused) taken d x y known s none =
        let p = plain-stops taken s.heard s.back s.items s.last s.reads_on none in
        (refused-told taken s.heard s.back s.items s.last known s.split s.reading s.fits (plain-front s.items (s.last ∷ []) p) s.stops.0 s.stops.1, s.stops.3)
    stops-told (Ok end.Broken) taken d x y known s none = absurd (steady s.stops.3)
    stops-told (Ok (end.WrongAnswer (got.Login b))) taken d x y known s none =
        let p = plain-stops taken s.heard s.back s.items s.last s.reads_on none in
        let w = s.stops.0 in
        (login-told taken s.heard s.back s.items s.last known s.split s.reading s.fits (plain-front s.items (s.last ∷ []) p) b w.0 w.1 w.2 w.3, s.stops.2)
    stops-told (Ok (end.WrongAnswer (got.Count k))) taken d x y known s none =
        let p = plain-stops taken s.heard s.back s.items s.last s.reads_on none in
        let w = s.stops.0 in
        (count-told taken s.heard s.back s.items s.last known s.split s.reading s.fits (plain-front s.items (s.last ∷ []) p) k w.0 w.1 s.waits w.2, s.stops.2)
    stops-told (Ok (end.WrongAnswer (got.Frame found))) taken d x y known s none = absurd s.stops.0
    stops-told (Ok end.TooManyCommands) taken d x y known s none =
        let p = plain-stops taken s.heard s.back s.items s.last s.reads_on none in
        let P : DownValue → Type 0 = λ v. IsPlain v in
        absurd (subst P s.stops.0.1 (plain-last s.items s.last p))
    stops-told (Err failed) taken d x y known s none =
        let p = plain-stops taken s.heard s.back s.items s.last s.reads_on none in
        (failed-told taken s.heard s.back s.items s.last known s.split s.reading s.fits (plain-front s.items (s.last ∷ []) p) failed s.stops.0 s.stops.1, s.stops.3)

    -- what was written, and what it is where no command was heard
    abbrev Tells : Result RoundEnd MediumFault → List ℕ → RoundState S → Option Traffic → Option Traffic → Type 0
    Tells result taken d x y = (written : List ℕ) × Moves taken written x y × (orders_of (down_reading false taken).items ≡ [] → IsTold r result taken written d)

    by-stops : (result : Result RoundEnd MediumFault) (taken : List ℕ) (d : RoundState S) (x y : Option Traffic) → AreBytes taken → Stops m r rose result taken d old new t x y → Tells result taken d x y
    by-stops result taken d x y known s = (
      text m r (starts r) (values s.items) ++ s.then_,
      s.wire,
      λ none. (let told_it = stops-told result taken d x y known s none in
          let P : List ℕ × RoundState S → Type 0 = λ z. IsTold r result taken z.0 z.1 in
          let written : text m r (starts r) (values s.items) ≡ text m r (starts r) (values s.items) ++ s.then_ = sym (append-nil (text m r (starts r) (values s.items))) ∙ ap (λ (b : List ℕ). text m r (starts r) (values s.items) ++ b) (sym told_it.1) in
          subst P (λ i. (written i, sym s.state i)) told_it.0),
    )

    by-rests : (result : Result RoundEnd MediumFault) (verdict : Verdict DownValue) (taken : List ℕ) (d : RoundState S) (x y : Option Traffic) → AreBytes taken → Rests m r verdict taken d old new t x y
        → ((bodies : List (List ℕ)) (heard : ℕ) (rest : List ℕ) → WaitsForAnswer bodies heard → taken ≡ rest → AreBytes rest → down_verdict false rest ≡ verdict → IsTalkEnd result taken bodies heard [])
        → ((bodies : List (List ℕ)) (heard : ℕ) (rest : List ℕ) → WaitsForCount bodies heard → taken ≡ (1 ∷ counts_by (take heard bodies)) ++ rest → down_verdict true rest ≡ verdict → IsTalkEnd result taken bodies heard [])
        → Tells result taken d x y
    by-rests result verdict taken d x y known s first later = (
      text m r (starts r) (values s.items),
      s.wire,
      λ none. (let P : RoundState S → Type 0 = λ z. IsTold r result taken (text m r (starts r) (values s.items)) z in
          let plain = plain-items s.items (ap (λ (k : Reading DownValue). orders_of k.items) (sym s.reading.is) ∙ none) in
          subst P (sym s.state) (rests-told result verdict taken s.items s.rest known s.reading s.fits plain (subst (λ (k : RoundState S). IsWaiting k) s.state s.waits) (λ bodies heard. first bodies heard s.rest) (λ bodies heard. later bodies heard s.rest))),
    )

    ends-told : (result : Result RoundEnd MediumFault) (taken : List ℕ) (d : RoundState S) (x y : Option Traffic) → AreBytes taken → Ends m r rose result taken d old new t x y → Tells result taken d x y
    ends-told (Ok (end.Done n)) taken d x y known s = by-stops (Ok (end.Done n)) taken d x y known s
    ends-told (Ok end.Empty) taken d x y known s = by-stops (Ok end.Empty) taken d x y known s
    ends-told (Ok end.Refused) taken d x y known s = by-stops (Ok end.Refused) taken d x y known s
    ends-told (Ok end.Broken) taken d x y known s = elim s as (λ _. Tells (Ok end.Broken) taken d x y) [
      | inl rests ↦ by-rests (Ok end.Broken) short taken d x y known rests (λ bodies heard rest waits is p e. (refl, inl (waits, is ∙ none-taken rest p e))) (λ bodies heard rest waits is e. (refl, inr (waits, (rest, is, e))))
      | inr stops ↦ by-stops (Ok end.Broken) taken d x y known stops
    ]
    ends-told (Ok (end.WrongAnswer (got.Login b))) taken d x y known s = by-stops (Ok (end.WrongAnswer (got.Login b))) taken d x y known s
    ends-told (Ok (end.WrongAnswer (got.Count k))) taken d x y known s = by-stops (Ok (end.WrongAnswer (got.Count k))) taken d x y known s
    ends-told (Ok (end.WrongAnswer (got.Frame found))) taken d x y known s =
        by-rests (Ok (end.WrongAnswer (got.Frame found))) (fault found.kind found.place) taken d x y known s (λ bodies heard rest waits is p e. absurd (never-broken rest found.kind found.place p e)) (λ bodies heard rest waits is e. (waits, (rest, is, e), refl))
    ends-told (Ok end.TooManyCommands) taken d x y known s = by-stops (Ok end.TooManyCommands) taken d x y known s
    ends-told (Err failed) taken d x y known s = by-stops (Err failed) taken d x y known s

    -- the login, and then what followed
    module _ (same : r.slots ≡ old.slots) where
      talks : (result : Result RoundEnd MediumFault) (taken : List ℕ) (d : RoundState S) (before after_ : Traffic) (z : Option Traffic) → AreBytes taken → Moves [] (login_of r.imei) (Some before) z → Ends m r rose result taken d old new t z (Some after_)
          → RoundsRing result d.frames (recs_in old.slots d.closed) old new → HearsNoCommand before after_ → RoundTalks r.imei r.most result old new before after_
      talks result taken d before after_ z known login ends ring quiet =
          let P : Option Traffic → Type 0 = λ k. Ends m r rose result taken d old new t k (Some after_) in
          let q = ends-told result taken d (Some (with_more [] (login_of r.imei) before)) (Some after_) known (subst P login ends) in
          let moved : after_ ≡ with_more taken q.0 (with_more [] (login_of r.imei) before) = some-same after_ _ q.1 in
          let both : after_ ≡ with_more taken (login_of r.imei ++ q.0) before = moved
          ∙ ap (λ (x : List ℕ × List ℕ). let k : Traffic = record { taken = x.0; written = x.1 } in k) (λ i. (ap (λ (b : List ℕ). b ++ taken) (append-nil before.taken) i, append_assoc before.written (login_of r.imei) q.0 i)) in
          let same_taken : quiet.taken ≡ taken = append_cancel_left before.taken quiet.taken taken (ap (λ (k : Traffic). k.taken) (sym quiet.moves) ∙ ap (λ (k : Traffic). k.taken) both) in
          let it = q.2 (ap (λ (b : List ℕ). orders_of (down_reading false b).items) (sym same_taken) ∙ quiet.none) in
          let H : List (Option Held) → Type 0 = λ slots. AreDecided (held_of slots) it.bodies in
          let R : List Record → Type 0 = λ rs. RoundsRing result d.frames rs old new in
          let released : recs_in old.slots d.closed ≡ records_by (take d.frames it.bodies) = ap (λ (s : List (Option Held)). recs_in s d.closed) (sym same) ∙ sym it.records in
          record {
            taken = taken;
            written = login_of r.imei ++ q.0;
            moves = both;
            taken_bytes = known;
            written_bytes = bytes-append (login_of r.imei) q.0 (login-bytes r.imei) (subst AreBytes (sym it.written_is) (frames-bytes it.bodies it.are));
            bodies = it.bodies;
            heard = d.frames;
            back = it.back;
            are = it.are;
            held = subst H same it.held;
            few = it.few;
            written_is = ap (λ (b : List ℕ). login_of r.imei ++ b) it.written_is;
            ends = it.ends;
            ring = subst R released ring;
          }
        where
          or_this : Traffic → Option Traffic → Traffic
          or_this a None = a
          or_this a (Some b) = b

          some-same : (a b : Traffic) → Some a ≡ Some b → a ≡ b
          some-same a b e = ap (λ (o : Option Traffic). or_this a o) e

      pub round-talks : (result : Result RoundEnd MediumFault) (d : RoundState S) (x y : Option Traffic) → IsRound m r rose d old new t x y result → RoundsRing result d.frames (recs_in old.slots d.closed) old new → TalksWhere r.imei r.most result old new x y
      round-talks result d None y goes ring = tt
      round-talks result d (Some before) None goes ring = tt
      round-talks result d (Some before) (Some after_) (empty none is_start is shell told_) ring = absurd (open_slots none)
      round-talks result d (Some before) (Some after_) (cut is_start is shell part up) ring = absurd (steady up)
      round-talks result d (Some before) (Some after_) (talked same_result taken z login known ends) ring = talks result taken d before after_ z known login ends ring
