-- What the lines of a script do to a device that is driven by it, and what happens meanwhile (this project's own).
use Rattle.std.specs.Prelude.{◌≡◌, ◌⊎◌, ℕ, ◌==◌, if◌then◌else◌, Bool, true, false, List, [], ◌∷◌, ◌++◌, length, Ok}
use Rattle.std.specs.List.{filter}
use Rattle.acquisition.specs.Deciding.{decided}
use Rattle.acquisition.specs.Settings.{AcquisitionSettings}
use Rattle.acquisition.specs.Watching.{Watching, powered_up}
use Rattle.acquisition.specs.declared.fix.Fix.{Fix}
use Rattle.avl_values.specs.Causes.{Rose}
use Rattle.avl_values.specs.Record.{Record}
use Rattle.avl_values.specs.declared.order.Order.{Order}
use Rattle.doors.specs.Doors.{IsUnused}
use Rattle.flash_ring.specs.Entries.{held_of}
use Rattle.flash_ring.specs.Held.{is_full, next_of}
use Rattle.flash_ring.specs.Ring.{IsDurable, RingView}
use Rattle.fmb_drive.specs.Log.{Connection, Event, connected, lost}
use Rattle.medium_model.specs.State.{IfTold, IsRun}
use Rattle.tracker_session.specs.Keeping as keeping
use Rattle.tracker_session.specs.Responses.{ShellMeaning}
use Rattle.tracker_session.specs.RoundStates.{Round}
use Rattle.tracker_session.specs.WholeRounds.{IsWholeRound}
use Rattle.tracker_session.specs.Shells.{plain_answer}
use Rattle.tracker_session.specs.Turns.{BreaksWith}
use Rattle.tracker_session.specs.declared.shell.PlainShell.{PlainShell}
use Rattle.record_lists.specs.SameRecord.{is_same}
use Rattle.trial_model.specs.Cover.{is_who}
use Rattle.trial_model.specs.Script.{Script}
use Rattle.trial_model.specs.declared.script.ScriptLine.{ScriptLine}
use Rattle.trial_model.specs.declared.script.ScriptLine.TheVariants as Line
use Rattle.trial_model.specs.declared.script.Who.TheVariants as Who

-- the device that is driven: its IMEI, in which order it sends, and what it acquires records by
pub record Driver : Type 0 where
  pub imei : ℕ
  pub order : Order
  pub settings : AcquisitionSettings

-- a device as it runs: its ring, and what it remembers since power-up
pub record Stage : Type 0 where
  pub ring : RingView
  pub watching : Watching

-- how often a record stands in a list
abbrev pub times : Record → List Record → ℕ
times r records = length (filter (λ s. is_same s r) records)

-- The records of two pairs of lists are the same, counted with repeats.
pub record AreSame (gained kept : List Record) : Type 0 where
  pub each : (r : Record) → times r gained ≡ times r kept
  pub number : length gained ≡ length kept

-- the first of these records is given up
abbrev pub lost_first : List Record → List Event
lost_first [] = []
lost_first (r ∷ rs) = lost r ∷ []

-- a full ring gives up its oldest record for a new one
abbrev pub gives_up : RingView → List Event
gives_up v = if is_full v.slots then lost_first (held_of v.slots) else []

-- these records were kept, one after the other
pub data Stores : List Record → RingView → List Event → RingView → Type 0 where
  none : (a : RingView) → Stores [] a [] a
  more : (rs : List Record) (r : Record) (a b c : RingView) (log : List Event) → Stores rs a log b → keeping.Keeps r false b c → Stores (rs ++ r ∷ []) a (log ++ gives_up b) c

-- the shell that answers commands
abbrev pub plain : ShellMeaning PlainShell
plain = record { says = λ shell text. plain_answer text; obeyed = λ shell text. shell }

-- the round of a connection
abbrev pub round_with : ℕ → Order → Connection → PlainShell → Round PlainShell
round_with imei order c shell = record { imei = imei; sends = order; slots = c.before.slots; most = c.most; shell = shell }

-- A connection was a round: its end is the one for the bytes that were taken from the link and written to it, and the records of the
-- batches that were counted are no longer held.
pub record IsConnected (imei : ℕ) (order : Order) (c : Connection) : Type 0 where
  pub unused : IsUnused c.given
  pub first : PlainShell
  pub last : PlainShell
  pub round : IsWholeRound plain (round_with imei order c first) (Rose c.given.faults c.back.faults) c.before c.after last c.given.told c.back.told (Ok c.end)
  pub broken : BreaksWith (Ok c.end) c.given c.back
  pub released : AreSame (held_of c.after.slots ++ c.released) (held_of c.before.slots)
  pub durable : IsDurable c.after
  pub run : IsRun c.before.medium c.after.medium ⊥

-- a `round` or `drain` line with at most this number of batches
pub record Connects (d : Driver) (at limit : ℕ) (a : Stage) (events : List Event) (b : Stage) : Type 0 where
  pub c : Connection
  pub is : IsConnected d.imei d.order c
  pub line : c.line ≡ at
  pub most : c.most ≡ limit
  pub before : c.before ≡ a.ring
  pub after : b ≡ record a { ring = c.after }
  pub log : events ≡ connected c ∷ []

-- The power was lost between two lines and came back: the flash holds what it held, the ring goes on after its greatest sequence, and
-- what was remembered is forgotten.
pub record PowersUp (a b : Stage) : Type 0 where
  pub slots : IfTold a.ring.medium.content (λ c. b.ring.slots ≡ a.ring.slots)
  pub next : b.ring.next ≡ next_of b.ring.slots
  pub watching : b.watching ≡ powered_up
  pub durable : IsDurable b.ring
  pub run : IsRun a.ring.medium b.ring.medium ⊥

-- the fix's records were kept
pub record Acquires (d : Driver) (fix : Fix) (a : Stage) (log : List Event) (b : Stage) : Type 0 where
  pub stores : Stores (decided d.settings a.watching fix).records a.ring log b.ring
  pub watching : b.watching ≡ (decided d.settings a.watching fix).watching

abbrev pub IsQuiet : Stage → List Event → Stage → Type 0
IsQuiet a log b = (log ≡ []) × (b ≡ a)

-- what holds where this is the device's own line, and where it isn't
abbrev pub WhereOwn : Bool → Type 0 → Type 0 → Type 0
WhereOwn true P Q = P
WhereOwn false P Q = Q

-- What a line does. Lines that only a trial can play do nothing: a script with one of them is refused.
abbrev pub DoesLine : Driver → ℕ → ScriptLine → Stage → List Event → Stage → Type 0
DoesLine d n (Line.Device imei codec slots order period distance angle speed known) a log b = IsQuiet a log b
DoesLine d n (Line.Setting imei setting) a log b = IsQuiet a log b
DoesLine d n (Line.Fix imei fix) a log b = WhereOwn (imei == d.imei) (Acquires d fix a log b) (IsQuiet a log b)
DoesLine d n (Line.Round imei piece up down) a log b = Connects d n 1 a log b
DoesLine d n (Line.Drain imei piece) a log b = Connects d n 4294967295 a log b
DoesLine d n (Line.Late connection bytes) a log b = IsQuiet a log b
DoesLine d n (Line.Close connection) a log b = IsQuiet a log b
DoesLine d n (Line.Power who) a log b = WhereOwn (is_who (Who.Device d.imei) who) ((log ≡ []) × PowersUp a b) (IsQuiet a log b)
DoesLine d n (Line.Fuse who calls tear) a log b = IsQuiet a log b

-- these lines were done, one after the other
pub data Runs (d : Driver) : Script → Stage → List Event → Stage → Type 0 where
  begins : (a : Stage) → Runs d [] a [] a
  goes_on : (lines : Script) (line : ℕ × ScriptLine) (a b c : Stage) (log more : List Event) → Runs d lines a log b → DoesLine d line.0 line.1 b more c → Runs d (lines ++ line ∷ []) a (log ++ more) c

-- ---- what had happened when it was broken off

-- a ring may have given up its oldest record
abbrev pub MayGiveUp : RingView → List Event → Type 0
MayGiveUp v log = (log ≡ []) ⊎ (log ≡ gives_up v)

-- Of these records some first ones were kept, up to this ring, and then that may have given up one more.
pub record BeginsStores (records : List Record) (a : RingView) (log : List Event) (now : RingView) : Type 0 where
  pub kept : List Record
  pub rest : List Record
  pub parts : records ≡ kept ++ rest
  pub before : List Event
  pub more : List Event
  pub stores : Stores kept a before now
  pub gives : MayGiveUp now more
  pub joined : log ≡ before ++ more

-- no connection is in the log, or one is
pub data BeginsConnection (imei : ℕ) (order : Order) : ℕ → ℕ → RingView → List Event → RingView → Type 0 where
  unlogged : (at limit : ℕ) (a : RingView) → BeginsConnection imei order at limit a [] a
  logged : (c : Connection) → IsConnected imei order c → BeginsConnection imei order c.line c.most c.before (connected c ∷ []) c.after

abbrev pub StaysAt : Stage → List Event → RingView → Type 0
StaysAt a log now = (log ≡ []) × (now ≡ a.ring)

-- of a line: the ring is as it stood then
abbrev pub BeginsLine : Driver → ℕ → ScriptLine → Stage → List Event → RingView → Type 0
BeginsLine d n (Line.Device imei codec slots order period distance angle speed known) a log now = StaysAt a log now
BeginsLine d n (Line.Setting imei setting) a log now = StaysAt a log now
BeginsLine d n (Line.Fix imei fix) a log now = WhereOwn (imei == d.imei) (BeginsStores (decided d.settings a.watching fix).records a.ring log now) (StaysAt a log now)
BeginsLine d n (Line.Round imei piece up down) a log now = BeginsConnection d.imei d.order n 1 a.ring log now
BeginsLine d n (Line.Drain imei piece) a log now = BeginsConnection d.imei d.order n 4294967295 a.ring log now
BeginsLine d n (Line.Late connection bytes) a log now = StaysAt a log now
BeginsLine d n (Line.Close connection) a log now = StaysAt a log now
BeginsLine d n (Line.Power who) a log now = StaysAt a log now
BeginsLine d n (Line.Fuse who calls tear) a log now = StaysAt a log now

-- of a script: some first lines were done, and the next one was broken off
pub record Begins (d : Driver) (script : Script) (a : Stage) (log : List Event) (now : RingView) : Type 0 where
  pub done : Script
  pub line : ℕ × ScriptLine
  pub rest : Script
  pub parts : script ≡ done ++ line ∷ rest
  pub b : Stage
  pub before : List Event
  pub more : List Event
  pub runs : Runs d done a before b
  pub begins : BeginsLine d line.0 line.1 b more now
  pub joined : log ≡ before ++ more
