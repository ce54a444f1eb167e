-- The benches that are handed back: each flash, and the archive as its entries are.
use Rattle.std.proofs.Common.{◌≡◌, ◌≤◌, ℕ, suc, ◌==◌, ◌||◌, Bool, true, false, List, [], ◌∷◌, ◌++◌, length, map, slice_get, Option, Some, None, if◌then◌else◌, refl, sym, ◌∙◌, ap, subst, arith, eq-eqb, eqb-true, length-append}
use Rattle.std.specs.List.{All, AllZip, Any, Contains}
use Rattle.std.proofs.lemmas.Bool.{false≢true}
use Rattle.std.proofs.lemmas.List.Elements.{All-cons, All-head, All-nil, All-tail, All-weaker}
use Rattle.std.proofs.lemmas.Option.{slice_get-get_or}
use Rattle.avl_values.specs.Record.{Record}
use Rattle.archive_journal.specs.Body.{EntryValue}
use Rattle.archive_journal.specs.Entries.{entries_of}
use Rattle.archive_journal.proofs.Somes.{entries-some}
use Rattle.flash_ring.specs.Entries.{held_of}
use Rattle.flash_ring.specs.Slot.{IsFlash, slots_of}
use Rattle.journey_script.specs.Laws.{AreDistinct, HasLaws, is_device}
use Rattle.medium_model.specs.Content.{Content}
use Rattle.medium_model.specs.Images.{IsSame, IsSettled}
use Rattle.medium_model.specs.State.{IfTold}
use Rattle.shelf.specs.Archive.{archived, recs_for}
use Rattle.shelf.specs.Shelf.{HasList, ShelfView}
use Rattle.shelf.proofs.Laws.{archived-once, reads-hold}
use Rattle.trial_model.specs.declared.outcome.ConnectionOutcome.{ConnectionOutcome}
use Rattle.trial_model.specs.declared.script.ScriptLine.{ScriptLine}
use Rattle.trial_model.specs.Connections.{ConnectionHistory, connections_of}
use Rattle.trial_model.specs.Decisions.{DeviceHistory}
use Rattle.trial_model.specs.Delivery.{delivered_of}
use Rattle.trial_model.specs.Frames.{records_in}
use Rattle.trial_model.specs.RecordLists.{first_places}
use Rattle.trial_model.specs.Script.{Device, Script, devices_of, lines_of}
use Rattle.trial_device.specs.Sides.{IsSideSound, Side}
use Rattle.trial_server.specs.Archives.{AreRightEntries}
use Rattle.trial_play.specs.OnMedia.{AreFlashes, HasFlash, KeptOnMedia, benches_of}
use Rattle.trial_play.specs.Outcomes.{device_outcome, outcome_of}
use Rattle.trial_play.specs.Plays.{PlaysAll}
use Rattle.trial_play.specs.Starting.{StartsTrial}
use Rattle.trial_play.specs.Trials.{AreSidesSound, IsTrialSound, TrialState, counted_in, given_in, heard_in, history_in, logs_of}
use Rattle.trial_play.proofs.Ending.{archived-delivered, log-at, many, zip-map}
use Rattle.trial_play.proofs.Places.{get-beside}
use Rattle.trial_play.proofs.Starting.{script-sound}

told-map : (P Q : Content → Type 0) (o : Option Content) → ((c : Content) → P c → Q c) → IfTold o P → IfTold o Q
told-map P Q None step told = tt
told-map P Q (Some c) step told = step c told

told-both : (P Q R : Content → Type 0) (o : Option Content) → ((c : Content) → P c → Q c → R c) → IfTold o P → IfTold o Q → IfTold o R
told-both P Q R None step p q = tt
told-both P Q R (Some c) step p q = step c p q

-- Flashes.

flash-one : (shelf : ShelfView) (x : Device) (heard : List Record) (h : DeviceHistory) (d : Side) → d.device ≡ x → IsSideSound heard h d → HasFlash x.slots d.ring.medium (device_outcome shelf d)
flash-one shelf x heard h d is sound =
    let size : length d.ring.slots ≡ x.slots = sound.slots ∙ ap (λ (y : Device). y.slots) is in
    record {
      is = told-map (IsSettled (IsFlash (length d.ring.slots)) (slots_of (length d.ring.slots)) (IsSame d.ring.slots)) (λ c. first_places (held_of d.ring.slots) ≡ first_places (held_of (slots_of x.slots c.reads))) d.ring.medium.content
          (λ c settled. ap (λ slots. first_places (held_of slots)) (sym settled.holds ∙ ap (λ n. slots_of n c.reads) size)) sound.durable.medium.settled;
    }

flashes-of : (shelf : ShelfView) (heard : ℕ → List Record) (history : Device → DeviceHistory) (xs : List Device) (ds : List Side) → AreSidesSound heard history xs ds
    → AreFlashes xs (map (λ (d : Side). d.ring.medium) ds) (map (device_outcome shelf) ds)
flashes-of shelf heard history [] [] all = tt
flashes-of shelf heard history [] (d ∷ ds) all = absurd all
flashes-of shelf heard history (x ∷ xs) [] all = absurd all
flashes-of shelf heard history (x ∷ xs) (d ∷ ds) all = (flash-one shelf x (heard x.imei) (history x) d all.0.0 all.0.1, flashes-of shelf heard history xs ds all.1)

-- Entries.

longer : (e f : EntryValue) (es : List EntryValue) → 1 ≤ length (archived f.imei es) → 1 ≤ length (archived f.imei (e ∷ es))
longer e f es some = split (e.imei == f.imei)
  where
    split : (b : Bool) → 1 ≤ length (if b then e.records ++ archived f.imei es else archived f.imei es)
    split true = omega (arith, some, length-append e.records (archived f.imei es))
    split false = some

entries-archived : (es : List EntryValue) → All (λ (e : EntryValue). 1 ≤ length e.records) es → All (λ (e : EntryValue). 1 ≤ length (archived e.imei es)) es
entries-archived [] all = All-nil (λ (e : EntryValue). 1 ≤ length (archived e.imei []))
entries-archived (e ∷ es) all =
    All-cons (λ (f : EntryValue). 1 ≤ length (archived f.imei (e ∷ es))) e es
    (subst (λ b. 1 ≤ length (if b then e.records ++ archived e.imei es else archived e.imei es)) (sym (eq-eqb e.imei e.imei refl))
    (omega (arith, All-head (λ (f : EntryValue). 1 ≤ length f.records) e es all, length-append e.records (archived e.imei es))))
    (All-weaker (λ (f : EntryValue). 1 ≤ length (archived f.imei es)) (λ (f : EntryValue). 1 ≤ length (archived f.imei (e ∷ es))) (λ f some. longer e f es some) es
    (entries-archived es (All-tail (λ (f : EntryValue). 1 ≤ length f.records) e es all)))

some-of : (P : Record → Type 0) (rs : List Record) → 1 ≤ length rs → All P rs → (r : Record) × P r
some-of P [] some all = absurd (omega arith)
some-of P (r ∷ rs) some all = (r, All-head P r rs all)

device-among : (imei : ℕ) (xs : List Device) → is_device imei xs ≡ true → Contains (map (λ (d : Device). d.imei) xs) imei
device-among imei [] is = absurd (false≢true is)
device-among imei (x ∷ xs) is = split (λ there. device-among imei xs there) (x.imei == imei) refl is
  where
    split : (is_device imei xs ≡ true → Contains (map (λ (d : Device). d.imei) xs) imei) → (b : Bool) → (x.imei == imei) ≡ b → (b || is_device imei xs) ≡ true → Contains (map (λ (d : Device). d.imei) (x ∷ xs)) imei
    split later true own there = (0, omega arith, eqb-true x.imei imei own)
    split later false other there = (let c = later there in (suc c.0, omega (arith, c.1), c.2))

module _ (devices : List Device) (lines : List ScriptLine) (t : TrialState) (s : IsTrialSound devices lines t)
    (placed : (n : ℕ) (h : ConnectionHistory) → slice_get (connections_of lines) n ≡ Some h → is_device h.opening.imei devices ≡ true) (distinct : AreDistinct devices) where
  abbrev logs : List ConnectionOutcome
  logs = logs_of t.connections

  abbrev hs : List ConnectionHistory
  hs = connections_of lines

  right : IfTold t.shelf.medium.content (λ c. AreRightEntries (given_in hs logs) (counted_in logs) (entries_of c.reads))
  right = reads-hold t.shelf (AreRightEntries (given_in hs logs) (counted_in logs)) (s.server.archive.durable s.server.up) s.server.archive.images

  archived-list : (c : Content) → HasList t.shelf.list c → AreRightEntries (given_in hs logs) (counted_in logs) (entries_of c.reads) → (imei : ℕ) → archived imei (entries_of c.reads) ≡ recs_for imei t.shelf.list
  archived-list c list are imei = archived-once imei (entries_of c.reads) are.each_once ∙ ap (recs_for imei) list.is

  -- whose records are archived is a device of the script
  archived-device : (imei : ℕ) → 1 ≤ length (recs_for imei t.shelf.list) → Contains (map (λ (d : Device). d.imei) devices) imei
  archived-device imei some =
      let found = some-of (λ r. Any (λ c. (c.imei ≡ imei) × Contains (records_in (delivered_of c)) r) logs) (recs_for imei t.shelf.list) some (archived-delivered devices lines t s placed distinct imei) in
      let a = found.1 in
      let c = a.1 in
      let at : slice_get logs a.0 ≡ Some c = slice_get-get_or logs a.0 c a.2 ∙ ap Some a.3 in
      let h = get-beside logs hs a.0 c (many devices lines t s placed distinct) at in
      let l = log-at devices lines t s placed distinct a.0 h.0 c h.1 at in
      let who : h.0.opening.imei ≡ imei = sym l.2.log.imei ∙ (ap (λ (z : ConnectionOutcome). z.imei) (sym l.1) ∙ a.4.0) in
      subst (Contains (map (λ (d : Device). d.imei) devices)) who (device-among h.0.opening.imei devices (placed a.0 h.0 h.1))

  pub archive-device : IfTold t.shelf.medium.content (λ c. AllZip (λ device d. d.archived ≡ archived device.imei (entries_of c.reads)) devices (map (device_outcome t.shelf) t.sides))
  archive-device = told-both (HasList t.shelf.list) (λ c. AreRightEntries (given_in hs logs) (counted_in logs) (entries_of c.reads))
      (λ c. AllZip (λ device d. d.archived ≡ archived device.imei (entries_of c.reads)) devices (map (device_outcome t.shelf) t.sides)) t.shelf.medium.content
      (λ c list are. zip-map (λ device d. d.archived ≡ archived device.imei (entries_of c.reads)) (λ x d. (d.device ≡ x) × IsSideSound (heard_in logs x.imei) (history_in lines logs x) d) (device_outcome t.shelf) devices t.sides
      (λ k x d at q. ap (λ (y : Device). recs_for y.imei t.shelf.list) q.0 ∙ sym (archived-list c list are x.imei)) s.sides)
      (s.server.archive.durable s.server.up).reads right

  pub archive-others : IfTold t.shelf.medium.content (λ c. All (λ (e : EntryValue). Contains (map (λ (d : Device). d.imei) devices) e.imei) (entries_of c.reads))
  archive-others = told-both (HasList t.shelf.list) (λ c. AreRightEntries (given_in hs logs) (counted_in logs) (entries_of c.reads))
      (λ c. All (λ (e : EntryValue). Contains (map (λ (d : Device). d.imei) devices) e.imei) (entries_of c.reads)) t.shelf.medium.content
      (λ c list are. All-weaker (λ (e : EntryValue). 1 ≤ length (archived e.imei (entries_of c.reads))) (λ (e : EntryValue). Contains (map (λ (d : Device). d.imei) devices) e.imei)
      (λ e some. archived-device e.imei (subst (λ rs. 1 ≤ length rs) (archived-list c list are e.imei) some)) (entries_of c.reads) (entries-archived (entries_of c.reads) (entries-some c.reads)))
      (s.server.archive.durable s.server.up).reads right

pub kept-on-media : (script : Script) (t new : TrialState) → HasLaws (lines_of script) → StartsTrial (devices_of (lines_of script)) t → PlaysAll (devices_of (lines_of script)) [] (lines_of script) t new
    → KeptOnMedia script (outcome_of new) (benches_of new)
kept-on-media script t new laws starts plays =
    let lines = lines_of script in
    let devices = devices_of lines in
    let s = script-sound script t new starts plays in
    record {
      flashes = flashes-of new.shelf (heard_in (logs_of new.connections)) (history_in lines (logs_of new.connections)) devices new.sides s.sides;
      archive = archive-device devices lines new s laws.placed laws.distinct;
      no_other = archive-others devices lines new s laws.placed laws.distinct;
    }
