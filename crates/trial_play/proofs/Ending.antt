-- The headline, from what is true of a trial after its last line.
use Rattle.std.proofs.Common.{◌≡◌, ◌≤◌, ◌⊎◌, inl, inr, ℕ, suc, ◌+◌, ◌==◌, ◌||◌, Bool, true, false, List, [], ◌∷◌, ◌++◌, fold, length, map, slice_get, Some, if◌then◌else◌, refl, sym, ◌∙◌, ap, subst, arith, eqb-true, length-append}
use Rattle.std.specs.List.{All, AllZip, Any, Contains}
use Rattle.std.proofs.lemmas.List.{get_or-map, length-map}
use Rattle.std.proofs.lemmas.List.Elements.{All-contains, All-cons, All-nil, All-weaker}
use Rattle.std.proofs.lemmas.Option.{get_or_from_slice_get, slice_get_within}
use Rattle.avl_values.specs.Record.{Record}
use Rattle.flash_ring.specs.Entries.{held_of}
use Rattle.flash_ring.specs.Held.{IsPart}
use Rattle.journey_script.specs.Laws.{AreDistinct, is_device}
use Rattle.record_lists.specs.SameRecord.{is_same}
use Rattle.record_lists.proofs.EachOnce.{once-all, once-none}
use Rattle.record_lists.proofs.SameRecord.{records-tell}
use Rattle.shelf.specs.Archive.{recs_for}
use Rattle.shelf.specs.Shelf.{ShelfView}
use Rattle.trial_model.specs.declared.outcome.ConnectionOutcome.{ConnectionOutcome}
use Rattle.trial_model.specs.declared.outcome.DeviceOutcome.{DeviceOutcome}
use Rattle.trial_model.specs.declared.script.ScriptLine.{ScriptLine}
use Rattle.trial_model.specs.Acquired.{IsAcquired}
use Rattle.trial_model.specs.Answers.{HasAnswers, counted_of}
use Rattle.trial_model.specs.Connections.{ConnectionHistory, connections_of, up_to}
use Rattle.trial_model.specs.Cover.{IsBelow}
use Rattle.trial_model.specs.Cut.{IsCutRightly}
use Rattle.trial_model.specs.Decisions.{Decision, DeviceHistory, history_of, records_decided, steps_of}
use Rattle.trial_model.specs.Delivery.{archived_of, delivered_of, heard_of}
use Rattle.trial_model.specs.Evidence.{HasEvidence}
use Rattle.trial_model.specs.Frames.{frames_of, records_in}
use Rattle.trial_model.specs.Kept.{EachFrom, Kept, earlier_records, ends_of}
use Rattle.trial_model.specs.Logs.{HasWholeLog, answers_to}
use Rattle.trial_model.specs.NothingLost.{HasLostNothing}
use Rattle.trial_model.specs.OnlyOnce.{HasOnlyAcquired}
use Rattle.trial_model.specs.Overwritten.{Eviction, IsEviction, IsOverwrittenInOrder}
use Rattle.trial_model.specs.RecordLists.{AreIn, add_once, first_places, is_listed}
use Rattle.trial_model.specs.Script.{Device, Script, devices_of, lines_of}
use Rattle.trial_model.specs.WholeRounds.{EmptiesBatch, IsWholeRound}
use Rattle.trial_device.specs.Sides.{IsElsewhere, IsSideSound, Side}
use Rattle.trial_server.specs.Archives.{IsRightList}
use Rattle.trial_server.proofs.Containing.{adds-have, adds-only, in-itself, in-right, in-then}
use Rattle.trial_wire.specs.Connections.{Connection, IsHeard}
use Rattle.trial_wire.proofs.Logs.{answers-most, heard-counted}
use Rattle.trial_wire.proofs.Passing.{up_to-least}
use Rattle.trial_play.specs.Outcomes.{device_outcome, outcome_of}
use Rattle.trial_play.specs.Trials.{AreSidesSound, IsSoundBy, IsTrialSound, TrialState, counted_in, cover_by, earlier_by, given_in, heard_in, history_in, known_by, logs_of}
use Rattle.trial_play.proofs.Decided.{decided-front, earlier-is}
use Rattle.trial_play.proofs.Evidence.{given-delivered, given-of, in-frames, records-any, records-at, records-less, sent-decided}
use Rattle.trial_play.proofs.KeptLogs.{logs-length}
use Rattle.trial_play.proofs.Places.{get-beside, get-map}
use Rattle.trial_play.proofs.Whole.{whole-round}

-- Lists of records.

tail-in : (y : Record) (ys : List Record) → AreIn (y ∷ ys) ys
tail-in y ys = in-right (y ∷ []) ys ys (in-itself ys)

part-in : (xs ys : List Record) → IsPart xs ys → AreIn ys xs
part-in [] ys part = All-nil (Contains ys)
part-in (x ∷ xs) [] part = absurd part
part-in (x ∷ xs) (y ∷ ys) (inl (same, rest)) = All-cons (Contains (y ∷ ys)) x xs (0, omega arith, sym same) (in-then (y ∷ ys) ys xs (tail-in y ys) (part-in xs ys rest))
part-in (x ∷ xs) (y ∷ ys) (inr rest) = in-then (y ∷ ys) ys (x ∷ xs) (tail-in y ys) (part-in (x ∷ xs) ys rest)

first-in : (rs : List Record) → AreIn (first_places rs) rs
first-in rs = adds-have [] rs

in-first : (rs : List Record) → AreIn rs (first_places rs)
in-first rs = adds-only rs [] rs (All-nil (Contains rs)) (in-itself rs)

length-once : (before rs : List Record) → length (fold add_once before rs) ≤ length before + length rs
length-once before [] = omega arith
length-once before (r ∷ rs) = omega (arith, length-once (add_once before r) rs, one before r)
  where
    one : (before : List Record) (r : Record) → length (add_once before r) ≤ length before + 1
    one before r = split (is_listed before r)
      where
        split : (b : Bool) → length (if b then before else before ++ r ∷ []) ≤ length before + 1
        split true = omega arith
        split false = omega (arith, length-append before (r ∷ []))

-- Decisions and their records.

at-decided : (ds : List Decision) (k : ℕ) (e : Decision) (r : Record) → slice_get ds k ≡ Some e → e.rec ≡ r → Contains (records_decided ds) r
at-decided ds k e r at is =
    let low = slice_get_within ds k e at in
    (k, omega (arith, low, length-map ds (λ (d : Decision). d.rec)), get_or-map (λ (d : Decision). d.rec) ds k e r low ∙ (ap (λ (d : Decision). d.rec) (get_or_from_slice_get ds k e e at) ∙ is))

any-decided : (ds : List Decision) (r : Record) → Any (λ (e : Decision). IsBelow e.cover e.cost × (e.rec ≡ r)) ds → Contains (records_decided ds) r
any-decided ds r a =
    (a.0, (let low = a.2 in omega (arith, low, length-map ds (λ (d : Decision). d.rec))), get_or-map (λ (d : Decision). d.rec) ds a.0 a.1 r a.2 ∙ (ap (λ (d : Decision). d.rec) a.3 ∙ a.4.1))

evicted-decided : (slots : ℕ) (ds : List Decision) (rs : List Record) (es : List Eviction) → AllZip (IsEviction slots ds) rs es → AreIn (records_decided ds) rs
evicted-decided slots ds [] es all = All-nil (Contains (records_decided ds))
evicted-decided slots ds (r ∷ rs) [] all = absurd all
evicted-decided slots ds (r ∷ rs) (e ∷ es) all = All-cons (Contains (records_decided ds)) r rs (at-decided ds e.place all.0.decision r all.0.decided all.0.is_record) (evicted-decided slots ds rs es all.1)

-- Place by place.

each-from : (P : ℕ → ConnectionHistory → ConnectionOutcome → Type 0) (m : ℕ) (hs : List ConnectionHistory) (logs : List ConnectionOutcome) → length logs ≡ length hs
    → ((n k : ℕ) (h : ConnectionHistory) (c : ConnectionOutcome) → k ≡ m + n → slice_get hs n ≡ Some h → slice_get logs n ≡ Some c → P k h c) → EachFrom P m hs logs
each-from P m [] [] same step = tt
each-from P m [] (c ∷ logs) same step = absurd (omega (arith, same))
each-from P m (h ∷ hs) [] same step = absurd (omega (arith, same))
each-from P m (h ∷ hs) (c ∷ logs) same step = (step 0 m h c (omega arith) refl refl, each-from P (m + 1) hs logs (omega (arith, same)) (λ n k g d at at_g at_d. step (suc n) k g d (omega (arith, at)) at_g at_d))

pub zip-map : (P : Device → DeviceOutcome → Type 0) (Q : Device → Side → Type 0) (f : Side → DeviceOutcome) (xs : List Device) (ds : List Side)
    → ((k : ℕ) (x : Device) (d : Side) → slice_get xs k ≡ Some x → Q x d → P x (f d)) → AllZip Q xs ds → AllZip P xs (map f ds)
zip-map P Q f [] [] step all = tt
zip-map P Q f [] (d ∷ ds) step all = absurd all
zip-map P Q f (x ∷ xs) [] step all = absurd all
zip-map P Q f (x ∷ xs) (d ∷ ds) step all = (step 0 x d refl all.0, zip-map P Q f xs ds (λ k y e at q. step (suc k) y e at q) all.1)

-- the archived records of a device of the trial
archived-is : (shelf : ShelfView) (heard : ℕ → List Record) (history : Device → DeviceHistory) (imei : ℕ) (xs : List Device) (ds : List Side) → AreSidesSound heard history xs ds → is_device imei xs ≡ true
    → archived_of imei (map (device_outcome shelf) ds) ≡ recs_for imei shelf.list
archived-is shelf heard history imei [] ds all is = absurd (let q : ◌≡◌ {A = Bool} false true = is in cc)
archived-is shelf heard history imei (x ∷ xs) [] all is = absurd all
archived-is shelf heard history imei (x ∷ xs) (d ∷ ds) all is =
    let device : d.device.imei ≡ x.imei = ap (λ (y : Device). y.imei) all.0.0 in
    subst (λ n. (if n == imei then recs_for n shelf.list else archived_of imei (map (device_outcome shelf) ds)) ≡ recs_for imei shelf.list) (sym device)
    (split (λ there. archived-is shelf heard history imei xs ds all.1 there) (x.imei == imei) refl is)
  where
    split : (is_device imei xs ≡ true → archived_of imei (map (device_outcome shelf) ds) ≡ recs_for imei shelf.list) → (b : Bool) → (x.imei == imei) ≡ b → (b || is_device imei xs) ≡ true
        → (if b then recs_for x.imei shelf.list else archived_of imei (map (device_outcome shelf) ds)) ≡ recs_for imei shelf.list
    split later true own there = ap (λ n. recs_for n shelf.list) (eqb-true x.imei imei own)
    split later false other there = later there

module _ (devices : List Device) (lines : List ScriptLine) (t : TrialState) (s : IsTrialSound devices lines t)
    (placed : (n : ℕ) (h : ConnectionHistory) → slice_get (connections_of lines) n ≡ Some h → is_device h.opening.imei devices ≡ true) (distinct : AreDistinct devices) where
  abbrev logs : List ConnectionOutcome
  logs = logs_of t.connections

  abbrev hs : List ConnectionHistory
  hs = connections_of lines

  abbrev outcomes : List DeviceOutcome
  outcomes = map (device_outcome t.shelf) t.sides

  pub many : length logs ≡ length hs
  many = logs-length t.connections ∙ s.server.connections.as_many

  archive : IsRightList (given_in hs logs) (counted_in logs) t.shelf.list
  archive = s.server.archive.list s.server.up

  pub log-at : (n : ℕ) (h : ConnectionHistory) (c : ConnectionOutcome) → slice_get hs n ≡ Some h → slice_get logs n ≡ Some c → (w : Connection) × (c ≡ w.log) × IsSoundBy devices lines logs n h w
  log-at n h c at_h at_c = (let r = get-map (λ (w : Connection). w.log) t.connections n c at_c in (r.0, r.2, s.server.connections.each n h r.0 at_h r.1))

  -- What was heard was counted, and what was counted is archived.

  heard-low : (n : ℕ) (h : ConnectionHistory) (w : Connection) → IsSoundBy devices lines logs n h w → w.log.down_given ≤ length w.log.down
  heard-low n h w sound = omega (arith, sound.log.down, up_to-least h.opening.down (answers_to (up_to h.opening.up (length w.log.up)) w.log), answers-most (up_to h.opening.up (length w.log.up)) w.log)

  heard-archived : (imei : ℕ) → AreIn (recs_for imei t.shelf.list) (heard_in logs imei)
  heard-archived imei = in-then (recs_for imei t.shelf.list) (counted_in logs imei) (heard_in logs imei) (archive.keeps imei) (records-less heard_of counted_of imei logs each)
    where
      each : (n : ℕ) (c : ConnectionOutcome) → slice_get logs n ≡ Some c → AreIn (records_in (counted_of c)) (records_in (heard_of c))
      each n c at =
          let h = get-beside logs hs n c many at in
          let l = log-at n h.0 c h.1 at in
          subst (λ (z : ConnectionOutcome). AreIn (records_in (counted_of z)) (records_in (heard_of z))) (sym l.1) (heard-counted (known_by devices h.0) l.0.log l.2.heard (heard-low n h.0 l.0 l.2))

  counted-archived : (n : ℕ) (h : ConnectionHistory) (c : ConnectionOutcome) → slice_get hs n ≡ Some h → slice_get logs n ≡ Some c → c.imei ≡ h.opening.imei → AreIn (archived_of h.opening.imei outcomes) (records_in (counted_of c))
  counted-archived n h c at_h at_c imei =
      subst (λ rs. AreIn rs (records_in (counted_of c))) (sym (archived-is t.shelf (heard_in logs) (history_in lines logs) h.opening.imei devices t.sides s.sides (placed n h at_h)))
      (subst (λ i. AreIn (recs_for i t.shelf.list) (records_in (counted_of c))) imei
      (in-then (recs_for c.imei t.shelf.list) (counted_in logs c.imei) (records_in (counted_of c)) (archive.keeps c.imei) (records-at counted_of logs n c at_c)))

  -- The fields of connections.

  pub kept-logs : EachFrom (λ n h c. HasWholeLog (earlier_by devices logs h) h c) 0 hs logs
  kept-logs = each-from (λ n h c. HasWholeLog (earlier_by devices logs h) h c) 0 hs logs many
      (λ n k h c at at_h at_c. (let l = log-at n h c at_h at_c in subst (λ (z : ConnectionOutcome). HasWholeLog (earlier_by devices logs h) h z) (sym l.1) l.2.log))

  answers-at : (n : ℕ) (h : ConnectionHistory) (c : ConnectionOutcome) → slice_get hs n ≡ Some h → slice_get logs n ≡ Some c → HasAnswers lines logs (known_by devices h) (archived_of h.opening.imei outcomes) (cover_by h) n h c
  answers-at n h c at_h at_c =
      let l = log-at n h c at_h at_c in
      let sound = l.2 in
      let w = l.0 in
      let stored = counted-archived n h w.log at_h (at_c ∙ ap Some l.1) sound.log.imei in
      subst (λ (z : ConnectionOutcome). HasAnswers lines logs (known_by devices h) (archived_of h.opening.imei outcomes) (cover_by h) n h z) (sym l.1) (record {
        answered = record {
          without_login = sound.heard.without_login;
          stranger = λ long unknown. (sound.heard.stranger long unknown).0;
          counts = sound.heard.counts;
          uncounted = sound.heard.uncounted;
          stored = in-frames (archived_of h.opening.imei outcomes) (counted_of w.log) stored;
        };
        server = sound.server;
        device = sound.device;
      })

  pub kept-answers : EachFrom (λ n h c. HasAnswers lines logs (known_by devices h) (archived_of h.opening.imei outcomes) (cover_by h) n h c) 0 hs logs
  kept-answers = each-from (λ n h c. HasAnswers lines logs (known_by devices h) (archived_of h.opening.imei outcomes) (cover_by h) n h c) 0 hs logs many
      (λ n k h c at at_h at_c. subst (λ m. HasAnswers lines logs (known_by devices h) (archived_of h.opening.imei outcomes) (cover_by h) m h c) (omega (arith, at)) (answers-at n h c at_h at_c))

  round-at : (n : ℕ) (h : ConnectionHistory) (c : ConnectionOutcome) → slice_get hs n ≡ Some h → slice_get logs n ≡ Some c → IsWholeRound (known_by devices h) h.opening (archived_of h.opening.imei outcomes) c
  round-at n h c at_h at_c known whole =
      let l = log-at n h c at_h at_c in
      let sound = l.2 in
      let w = l.0 in
      subst (λ (z : ConnectionOutcome). EmptiesBatch h.opening.drains (archived_of h.opening.imei outcomes) z z.device) (sym l.1)
      (whole-round (earlier_by devices logs h) h w.log sound.log (subst (λ b. IsHeard b w.log) known sound.heard) sound.early whole (cover_by h) (archived_of h.opening.imei outcomes) sound.device sound.done
      (counted-archived n h w.log at_h (at_c ∙ ap Some l.1) sound.log.imei))

  pub kept-rounds : EachFrom (λ n h c. IsWholeRound (known_by devices h) h.opening (archived_of h.opening.imei outcomes) c) 0 hs logs
  kept-rounds = each-from (λ n h c. IsWholeRound (known_by devices h) h.opening (archived_of h.opening.imei outcomes) c) 0 hs logs many (λ n k h c at at_h at_c. round-at n h c at_h at_c)

  -- What is archived of a device was delivered in a log of its own.
  pub archived-delivered : (imei : ℕ) → All (λ r. Any (λ c. (c.imei ≡ imei) × Contains (records_in (delivered_of c)) r) logs) (recs_for imei t.shelf.list)
  archived-delivered imei =
      let same = given-delivered imei hs logs many (λ n h c at_h at_c. (let l = log-at n h c at_h at_c in subst (λ (z : ConnectionOutcome). z.up_given ≡ up_to h.allowed (length z.up)) (sym l.1) l.2.log.up)) in
      All-weaker (Contains (given_in hs logs imei)) (λ r. Any (λ c. (c.imei ≡ imei) × Contains (records_in (delivered_of c)) r) logs)
      (λ r has. records-any delivered_of imei logs r (subst (λ rs. Contains rs r) same has)) (recs_for imei t.shelf.list) (archive.evidence imei)

  -- One device.
  module _ (k : ℕ) (d : Side) (at : slice_get devices k ≡ Some d.device) (sound : IsSideSound (heard_in logs d.device.imei) (history_in lines logs d.device) d) where
    abbrev imei : ℕ
    imei = d.device.imei

    abbrev now : DeviceHistory
    now = history_in lines logs d.device

    abbrev decided : List Record
    decided = records_decided now.decisions

    abbrev out : DeviceOutcome
    out = device_outcome t.shelf d

    abbrev held : List Record
    held = held_of d.ring.slots

    acquired-in : (rs : List Record) → AreIn decided rs → AreIn d.acquired rs
    acquired-in rs all = subst (λ acquired. AreIn acquired rs) (sym sound.acquired) (in-then (first_places decided) decided rs (first-in decided) all)

    all-acquired : (P : Record → Type 0) → All P decided → All P d.acquired
    all-acquired P all = subst (All P) (sym sound.acquired) (All-weaker (Contains decided) P (λ r has. All-contains P decided r all has) (first_places decided) (in-first decided))

    given-decided : AreIn decided (given_in hs logs imei)
    given-decided = given-of decided imei hs logs each
      where
        each : (n : ℕ) (h : ConnectionHistory) (c : ConnectionOutcome) → slice_get hs n ≡ Some h → slice_get logs n ≡ Some c → c.imei ≡ imei → AreIn decided (records_in (frames_of c.up))
        each n h c at_h at_c own =
            let l = log-at n h c at_h at_c in
            let w = l.0 in
            let begins = s.server.connections.begins n h at_h in
            let steps = steps_of h.before (ends_of logs) in
            let who : h.opening.imei ≡ imei = sym l.2.log.imei ∙ (ap (λ (z : ConnectionOutcome). z.imei) (sym l.1) ∙ own) in
            let path : earlier_by devices logs h ≡ records_decided (history_of d.device steps).decisions = ap (λ i. earlier_records i devices steps) who ∙ earlier-is devices k d.device steps distinct at in
            let front : AreIn decided (records_decided (history_of d.device steps).decisions) =
            subst (λ ls. AreIn (records_decided (history_of d.device (steps_of ls (ends_of logs))).decisions) (records_decided (history_of d.device steps).decisions)) (sym begins.is)
            (decided-front d.device h.before begins.rest (ends_of logs)) in
            let sent = subst (λ rs. AreIn rs (records_in (frames_of w.log.up))) path (sent-decided w.log.device (earlier_by devices logs h) w.log l.2.log.sent) in
            subst (λ (z : ConnectionOutcome). AreIn decided (records_in (frames_of z.up))) (sym l.1) (in-then decided (records_decided (history_of d.device steps).decisions) (records_in (frames_of w.log.up)) front sent)

    only-acquired : HasOnlyAcquired out
    only-acquired = record {
      flash = acquired-in (first_places held) (in-then decided held (first_places held) (part-in held decided sound.held.decided) (in-first held));
      archived = acquired-in (recs_for imei t.shelf.list) (in-then decided (given_in hs logs imei) (recs_for imei t.shelf.list) given-decided (archive.evidence imei));
      cut = acquired-in d.cut (All-weaker (λ r. Any (λ (e : Decision). IsBelow e.cover e.cost × (e.rec ≡ r)) now.decisions) (Contains decided) (any-decided now.decisions) d.cut sound.cut_only);
      overwritten = acquired-in d.overwritten (evicted-decided d.device.slots now.decisions d.overwritten sound.overwritten.evictions sound.overwritten.each);
      flash_once = once-all is_same records-tell [] held once-none;
      archived_once = archive.once imei;
      cut_once = sound.cut_once;
      overwritten_once = sound.overwritten_once;
    }

    held-flash : (r : Record) → Contains held r → Contains (first_places held) r
    held-flash r has = All-contains (Contains (first_places held)) held r (first-in held) has

    heard-record : (r : Record) → Contains (heard_in logs imei) r → Contains (recs_for imei t.shelf.list) r
    heard-record r has = All-contains (Contains (recs_for imei t.shelf.list)) (heard_in logs imei) r (heard-archived imei) has

    lost-nothing : HasLostNothing out
    lost-nothing = all-acquired (λ r. Contains out.flash r ⊎ Contains out.archived r ⊎ Contains out.overwritten r ⊎ Contains out.cut r)
        (All-weaker (λ r. Contains held r ⊎ IsElsewhere (heard_in logs imei) d r) (λ r. Contains out.flash r ⊎ Contains out.archived r ⊎ Contains out.overwritten r ⊎ Contains out.cut r) each decided sound.held.nothing_lost)
      where
        each : (r : Record) → Contains held r ⊎ IsElsewhere (heard_in logs imei) d r → Contains out.flash r ⊎ Contains out.archived r ⊎ Contains out.overwritten r ⊎ Contains out.cut r
        each r (inl there) = inl (held-flash r there)
        each r (inr (inl heard)) = inr (inl (heard-record r heard))
        each r (inr (inr rest)) = inr (inr rest)

    has-evidence : HasEvidence logs out
    has-evidence = record {
      delivered = archived-delivered imei;
      heard = all-acquired Shown (All-weaker (λ r. Contains held r ⊎ IsElsewhere (heard_in logs imei) d r) Shown each decided sound.held.nothing_lost);
    }
      where
        Shown : Record → Type 0
        Shown r = Contains out.flash r ⊎ Contains out.overwritten r ⊎ Contains out.cut r ⊎ (Contains out.archived r × Any (λ c. (c.imei ≡ out.imei) × Contains (records_in (heard_of c)) r) logs)

        each : (r : Record) → Contains held r ⊎ IsElsewhere (heard_in logs imei) d r → Shown r
        each r (inl there) = inl (held-flash r there)
        each r (inr (inl heard)) = inr (inr (inr (heard-record r heard, records-any heard_of imei logs r heard)))
        each r (inr (inr (inl overwritten))) = inr (inl overwritten)
        each r (inr (inr (inr cut))) = inr (inr (inl cut))

    cut-rightly : IsCutRightly now.decisions out
    cut-rightly = record { wherever = sound.cut_wherever; only_where = sound.cut_only }

    evicted-in-order : IsOverwrittenInOrder d.device.slots now.decisions out
    evicted-in-order = (sound.overwritten.evictions, sound.overwritten.each, sound.overwritten.rising)

    room-kept : length out.flash ≤ now.load
    room-kept = omega (arith, length-once [] held, sound.held.few)

  -- The fields of devices.
  each-device : (P : Device → DeviceOutcome → Type 0)
      → ((k : ℕ) (d : Side) → slice_get devices k ≡ Some d.device → IsSideSound (heard_in logs d.device.imei) (history_in lines logs d.device) d → P d.device (device_outcome t.shelf d)) → AllZip P devices outcomes
  each-device P step = zip-map P (λ x d. (d.device ≡ x) × IsSideSound (heard_in logs x.imei) (history_in lines logs x) d) (device_outcome t.shelf) devices t.sides
      (λ k x d at q. subst (λ (y : Device). P y (device_outcome t.shelf d)) q.0
      (step k d (at ∙ ap Some (sym q.0)) (subst (λ (y : Device). IsSideSound (heard_in logs y.imei) (history_in lines logs y) d) (sym q.0) q.1))) s.sides

  pub kept-acquired : AllZip (λ device d. IsAcquired device (history_in lines logs device) d) devices outcomes
  kept-acquired = each-device (λ device d. IsAcquired device (history_in lines logs device) d) (λ k d at sound. record { imei = refl; acquired = sound.acquired })

  pub kept-once : AllZip (λ device d. HasOnlyAcquired d) devices outcomes
  kept-once = each-device (λ device d. HasOnlyAcquired d) only-acquired

  pub kept-nothing-lost : AllZip (λ device d. HasLostNothing d) devices outcomes
  kept-nothing-lost = each-device (λ device d. HasLostNothing d) lost-nothing

  pub kept-cut : AllZip (λ device d. IsCutRightly (history_in lines logs device).decisions d) devices outcomes
  kept-cut = each-device (λ device d. IsCutRightly (history_in lines logs device).decisions d) cut-rightly

  pub kept-overwritten : AllZip (λ device d. IsOverwrittenInOrder device.slots (history_in lines logs device).decisions d) devices outcomes
  kept-overwritten = each-device (λ device d. IsOverwrittenInOrder device.slots (history_in lines logs device).decisions d) evicted-in-order

  pub kept-evidence : AllZip (λ device d. HasEvidence logs d) devices outcomes
  kept-evidence = each-device (λ device d. HasEvidence logs d) has-evidence

  pub kept-room : AllZip (λ device d. length d.flash ≤ (history_in lines logs device).load) devices outcomes
  kept-room = each-device (λ device d. length d.flash ≤ (history_in lines logs device).load) room-kept

-- The headline, whole.
pub kept-whole : (script : Script) (t : TrialState) → IsTrialSound (devices_of (lines_of script)) (lines_of script) t
    → ((n : ℕ) (h : ConnectionHistory) → slice_get (connections_of (lines_of script)) n ≡ Some h → is_device h.opening.imei (devices_of (lines_of script)) ≡ true) → AreDistinct (devices_of (lines_of script))
    → Kept script (outcome_of t)
kept-whole script t s placed distinct =
    let lines = lines_of script in
    let devices = devices_of lines in
    record {
      acquired = kept-acquired devices lines t s placed distinct;
      only_once = kept-once devices lines t s placed distinct;
      nothing_lost = kept-nothing-lost devices lines t s placed distinct;
      cut = kept-cut devices lines t s placed distinct;
      overwritten = kept-overwritten devices lines t s placed distinct;
      logs = kept-logs devices lines t s placed distinct;
      evidence = kept-evidence devices lines t s placed distinct;
      answers = kept-answers devices lines t s placed distinct;
      whole_rounds = record { rounds = kept-rounds devices lines t s placed distinct; room = kept-room devices lines t s placed distinct };
    }
