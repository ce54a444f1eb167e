-- What was sent and heard so far, in batches.
use Rattle.std.proofs.Common.{◌≡◌, ℕ, ◌+◌, ◌<◌, Bool, true, false, List, [], ◌∷◌, ◌++◌, length, refl, sym, ap, subst, ◌∙◌, append_assoc, append-nil, arith, length-append}
use Rattle.std.proofs.lemmas.Bool.{false≢true}
use Rattle.std.specs.List.{AllByRecursion, Contains, flat_map}
use Rattle.std.proofs.lemmas.Grind.{flat_map-append}
use Rattle.std.proofs.lemmas.List.Elements.{filter_map-append}
use Rattle.avl_values.specs.Record.{Record}
use Rattle.record_layout.specs.RecordsOf.{records_of}
use Rattle.frame_layout.specs.Items.{count_bytes, frame_of}
use Rattle.frame_layout.specs.Values.{DownValue, answer, count, order}
use Rattle.flash_ring.specs.Entries.{held_of}
use Rattle.flash_ring.specs.Held.{AreSound, rec_at}
use Rattle.flash_ring.specs.Records.{recs_in}
use Rattle.flash_ring.proofs.Batches.{held_of-no_more}
use Rattle.flash_ring.proofs.Closes.{may-close_all}
use Rattle.tracker_session.specs.Batches.{frame_in}
use Rattle.tracker_session.specs.Responses.{ShellMeaning}
use Rattle.tracker_session.specs.RoundStates.{AllFit, Fits, Round, RoundState, accepts, after, counts, next, next_batch, sends, slots_now, starts, text, writes}
use Rattle.tracker_session.specs.Sending.{AreSentBodies}
use Rattle.tracker_session.specs.Talks.{AreDecided, counts_by, records_by}
use Rattle.tracker_session.proofs.Bodies.{IsSoundBatch, bodies-counts, bodies-decided, bodies-one, bodies-records, bodies-sent, bodies_of, decided-append, frame-bodies, picks, recs-closed, recs-some, sent-append, sound-closed}
use Rattle.tracker_session.proofs.Releasing.{AreGiven, count-recs, given-after, given-back, given-next, given-starts}
use Rattle.tracker_session.proofs.Spelled.{ArePlain, IsPlain, spelled}

pub counts-append : (xs ys : List (List ℕ)) → counts_by (xs ++ ys) ≡ counts_by xs ++ counts_by ys
counts-append xs ys = flat_map-append (λ (b : List ℕ). count_bytes (length (records_of b))) xs ys

pub records-append : (xs ys : List (List ℕ)) → records_by (xs ++ ys) ≡ records_by xs ++ records_by ys
records-append xs ys = flat_map-append records_of xs ys

frames-append : (xs ys : List (List ℕ)) → flat_map frame_of (xs ++ ys) ≡ flat_map frame_of xs ++ flat_map frame_of ys
frames-append xs ys = flat_map-append frame_of xs ys

each-more : {P Q : Record → Type 0} → ((r : Record) → P r → Q r) → (rs : List Record) → AllByRecursion P rs → AllByRecursion Q rs
each-more f [] each = tt
each-more f (r ∷ rs) each = (f r each.0, each-more f rs each.1)

-- the bytes heard: nothing before the login's answer, and then it and the counts
abbrev pub heard_by : Bool → List (List ℕ) → List ℕ
heard_by true bodies = 1 ∷ counts_by bodies
heard_by false bodies = []

module _ {S : Type 0} (m : ShellMeaning S) (r : Round S) where
  -- All batches that were sent, of which the first were counted, and at most one is outstanding.
  pub record Sent (d : RoundState S) (written heard : List ℕ) : Type 0 where
    pub counted : List (List ℕ)
    pub out : List (List ℕ)
    pub are : AreSentBodies (counted ++ out)
    pub held : AreDecided (held_of r.slots) (counted ++ out)
    pub written_is : written ≡ flat_map frame_of (counted ++ out)
    pub heard_is : heard ≡ heard_by d.accepted counted
    pub frames : length counted ≡ d.frames
    pub records : records_by counted ≡ recs_in r.slots d.closed
    pub waiting : out ≡ bodies_of (recs_in r.slots d.batch)
    pub batch : IsSoundBatch (recs_in r.slots d.batch)
    pub before : d.accepted ≡ false → (counted ≡ []) × (out ≡ [])
    pub left : length (counted ++ out) + d.left ≡ r.most

  -- nothing yet
  pub sent-none : IsSoundBatch [] → Sent (starts r) [] []
  sent-none none = record { counted = []; out = []; are = tt; held = tt; written_is = refl; heard_is = refl; frames = refl; records = refl; waiting = refl; batch = none; before = λ _. (refl, refl); left = omega arith }

  -- All that was sent is counted, and now the next batch may go out.
  pub record AllCounted (d : RoundState S) (bodies : List (List ℕ)) (written heard : List ℕ) : Type 0 where
    pub are : AreSentBodies bodies
    pub held : AreDecided (held_of r.slots) bodies
    pub written_is : written ≡ flat_map frame_of bodies
    pub heard_is : heard ≡ 1 ∷ counts_by bodies
    pub frames : length bodies ≡ d.frames
    pub records : records_by bodies ≡ recs_in r.slots d.closed
    pub left : length bodies + d.left ≡ r.most

  -- the login was accepted
  pub accepted-all : (d : RoundState S) (written heard : List ℕ) → Sent d written heard → d.accepted ≡ false → AllCounted (accepts m r d) [] written (heard ++ 1 ∷ [])
  accepted-all d written heard s fresh =
      let none = s.before fresh in
      let both : s.counted ++ s.out ≡ [] = ap (λ (xs : List (List ℕ)). xs ++ s.out) none.0 ∙ none.1 in
      let nothing : heard ≡ [] = s.heard_is ∙ ap (λ (b : Bool). heard_by b s.counted) fresh in
      record {
        are = tt;
        held = tt;
        written_is = s.written_is ∙ ap (flat_map frame_of) both;
        heard_is = ap (λ (b : List ℕ). b ++ 1 ∷ []) nothing;
        frames = ap length (sym none.0) ∙ s.frames;
        records = ap records_by (sym none.0) ∙ s.records;
        left = ap (λ (xs : List (List ℕ)). length xs + d.left) (sym both) ∙ s.left;
      }

  -- the outstanding batch was counted
  pub counted-all : (d : RoundState S) (written heard : List ℕ) (n : ℕ) → AreGiven r.slots (d.closed ++ d.batch) → (s : Sent d written heard) → Fits m r d (count n) → AllCounted (counts m r d) (s.counted ++ s.out) written (heard ++ count_bytes n)
  counted-all d written heard n given s fits =
      let opens = given-back r.slots d.closed d.batch given in
      let recs = recs_in r.slots d.batch in
      let size : length recs ≡ length d.batch = count-recs r.slots d.batch opens in
      let some : 0 < length recs = recs-some r.slots d.batch opens fits.1 in
      let one : length s.out ≡ 1 = ap length s.waiting ∙ bodies-one recs some in
      let own : counts_by s.out ≡ count_bytes n = ap counts_by s.waiting ∙ bodies-counts recs s.batch some ∙ ap count_bytes (size ∙ sym fits.2) in
      record {
        are = s.are;
        held = s.held;
        written_is = s.written_is;
        heard_is = ap (λ (b : List ℕ). b ++ count_bytes n) (s.heard_is ∙ ap (λ (b : Bool). heard_by b s.counted) fits.0)
            ∙ ap (λ (b : List ℕ). 1 ∷ (counts_by s.counted ++ b)) (sym own) ∙ ap (λ (b : List ℕ). 1 ∷ b) (sym (counts-append s.counted s.out));
        frames = length-append s.counted s.out ∙ (let f = s.frames in omega arith);
        records = records-append s.counted s.out ∙ ap (λ (x : List Record × List Record). x.0 ++ x.1) (λ i. (s.records i, (ap records_by s.waiting ∙ bodies-records recs s.batch) i)) ∙ sym (filter_map-append (rec_at r.slots) d.closed d.batch);
        left = s.left;
      }

  -- the next batch goes out
  pub sends-next : (d : RoundState S) (bodies : List (List ℕ)) (written heard : List ℕ) → AreSound r.slots → d.accepted ≡ true → AllCounted d bodies written heard → Sent (sends m r d) (written ++ frame_in (slots_now m r d) (next_batch m r d)) heard
  sends-next d bodies written heard sound accepted c =
      let slots = slots_now m r d in
      let batch = next_batch m r d in
      let p = picks d.left r.sends slots (sound-closed d.closed r.slots sound) in
      let same : recs_in slots batch ≡ recs_in r.slots batch = recs-closed d.closed batch r.slots p.opens in
      let out = bodies_of (recs_in slots batch) in
      let P : List Record → Type 0 = IsSoundBatch in
      let before : (rec : Record) → Contains (held_of slots) rec → Contains (held_of r.slots) rec = λ rec has. held_of-no_more d.closed r.slots slots (may-close_all d.closed r.slots) rec has in
      record {
        counted = bodies;
        out = out;
        are = sent-append bodies out c.are (bodies-sent (recs_in slots batch) p.sound);
        held = decided-append (held_of r.slots) bodies out c.held (bodies-decided (held_of r.slots) (recs_in slots batch) p.sound (each-more before (recs_in slots batch) p.held));
        written_is = ap (λ (x : List ℕ × List ℕ). x.0 ++ x.1) (λ i. (c.written_is i, frame-bodies (recs_in slots batch) i)) ∙ sym (frames-append bodies out);
        heard_is = c.heard_is ∙ ap (λ (b : Bool). heard_by b bodies) (sym accepted);
        frames = c.frames;
        records = c.records;
        waiting = ap bodies_of same;
        batch = subst P same p.sound;
        before = λ fresh. absurd (false≢true (sym fresh ∙ accepted));
        left = (let less = p.less in let all = c.left in omega (arith, length-append bodies out));
      }

  -- one more item that isn't a command
  sent-next : (d : RoundState S) (v : DownValue) (written heard : List ℕ) → AreSound r.slots → AreGiven r.slots (d.closed ++ d.batch) → Fits m r d v → IsPlain v → Sent d written heard → Sent (next m r d v) (written ++ writes m r d v) (heard ++ spelled v)
  sent-next d (answer b) written heard sound given fits plain s =
      let P : ℕ → Type 0 = λ k. Sent (next m r d (answer b)) (written ++ writes m r d (answer b)) (heard ++ k ∷ []) in
      subst P (sym fits.1) (sends-next (accepts m r d) [] written (heard ++ 1 ∷ []) sound refl (accepted-all d written heard s fits.0))
  sent-next d (count n) written heard sound given fits plain s = sends-next (counts m r d) (s.counted ++ s.out) written (heard ++ count_bytes n) sound fits.0 (counted-all d written heard n given s fits)
  sent-next d (order body) written heard sound given fits plain s = absurd plain

  -- and some of them
  sent-after : (d : RoundState S) (vs : List DownValue) (written heard : List ℕ) → AreSound r.slots → AreGiven r.slots (d.closed ++ d.batch) → AllFit m r d vs → ArePlain vs → Sent d written heard
      → Sent (after m r d vs) (written ++ text m r d vs) (heard ++ flat_map spelled vs)
  sent-after d [] written heard sound given fit plain s =
      let P : List ℕ × List ℕ → Type 0 = λ x. Sent d x.0 x.1 in subst P (λ i. (sym (append-nil written) i, sym (append-nil heard) i)) s
  sent-after d (v ∷ vs) written heard sound given fit plain s =
      let one = sent-next d v written heard sound given fit.0 plain.0 s in
      let all = sent-after (next m r d v) vs (written ++ writes m r d v) (heard ++ spelled v) sound (given-next m r d v given) fit.1 plain.1 one in
      let P : List ℕ × List ℕ → Type 0 = λ x. Sent (after m r (next m r d v) vs) x.0 x.1 in
      subst P (λ i. (append_assoc written (writes m r d v) (text m r (next m r d v) vs) i, append_assoc heard (spelled v) (flat_map spelled vs) i)) all

  -- of a round's items from its start
  pub sent-items : (vs : List DownValue) → AreSound r.slots → AllFit m r (starts r) vs → ArePlain vs → Sent (after m r (starts r) vs) (text m r (starts r) vs) (flat_map spelled vs)
  sent-items vs sound fit plain = sent-after (starts r) vs [] [] sound (given-starts m r) fit plain (sent-none (picks 0 r.sends r.slots sound).sound)

  pub sent-last : (vs : List DownValue) (v : DownValue) → AreSound r.slots → AllFit m r (starts r) vs → ArePlain vs → Fits m r (after m r (starts r) vs) v → IsPlain v
      → Sent (next m r (after m r (starts r) vs) v) (text m r (starts r) vs ++ writes m r (after m r (starts r) vs) v) (flat_map spelled vs ++ spelled v)
  sent-last vs v sound fit plain fits is_plain = sent-next (after m r (starts r) vs) v (text m r (starts r) vs) (flat_map spelled vs) sound (given-after m r (starts r) vs (given-starts m r)) fits is_plain (sent-items vs sound fit plain)

  pub nothing-written : (d : RoundState S) (v : DownValue) → IsPlain v → (next m r d v).batch ≡ [] → writes m r d v ≡ []
  nothing-written d (answer b) plain none = ap (frame_in (slots_now m r (accepts m r d))) none
  nothing-written d (count n) plain none = ap (frame_in (slots_now m r (counts m r d))) none
  nothing-written d (order body) plain none = absurd plain
