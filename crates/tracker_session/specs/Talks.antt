-- What a round did over a link that tells its bytes, where no command was heard: said of the batches that were sent, by their data
-- bodies, and of the counts that came back.
use Rattle.std.specs.Prelude.{◌≡◌, ◌≢◌, ◌⊎◌, ℕ, ◌+◌, ◌<◌, ◌≤◌, ◌^◌, true, false, List, [], ◌∷◌, ◌++◌, length, take, drop, Result, Ok, Err}
use Rattle.std.specs.List.{All, AllByRecursion, Contains, flat_map}
use Rattle.avl_values.specs.Record.{Record}
use Rattle.avl_values.specs.declared.errors.MediumFault.{MediumFault}
use Rattle.layout.specs.Bytes.{AreBytes}
use Rattle.layout.specs.Rows.{short, fault}
use Rattle.record_layout.specs.RecordsOf.{records_of}
use Rattle.links.specs.Links.{Traffic, with_more}
use Rattle.frame_layout.specs.DownRows.{down_verdict}
use Rattle.frame_layout.specs.Items.{count_bytes}
use Rattle.frame_layout.specs.Readings.{down_reading, orders_of}
use Rattle.flash_ring.specs.Entries.{held_of}
use Rattle.flash_ring.specs.Ring.{RingView}
use Rattle.tracker_session.specs.RingRounds.{RoundsRing}
use Rattle.tracker_session.specs.Sending.{AreSentBodies, stream_up}
use Rattle.tracker_session.specs.declared.heard.Got.TheVariants as got
use Rattle.tracker_session.specs.declared.round_end.RoundEnd.{RoundEnd}
use Rattle.tracker_session.specs.declared.round_end.RoundEnd.TheVariants as end

-- the own counts of batches
abbrev pub counts_by : List (List ℕ) → List ℕ
counts_by bodies = flat_map (λ b. count_bytes (length (records_of b))) bodies

-- the records of batches
abbrev pub records_by : List (List ℕ) → List Record
records_by bodies = flat_map records_of bodies

-- each record of each batch is in a list
abbrev pub AreDecided : List Record → List (List ℕ) → Type 0
AreDecided listed [] = Unit {0}
AreDecided listed (b ∷ bodies) = All (Contains listed) (records_of b) × AreDecided listed bodies

-- the login was accepted, the first of these batches were counted, and one more is outstanding
pub record WaitsForCount (bodies : List (List ℕ)) (heard : ℕ) : Type 0 where
  pub one_more : length bodies ≡ heard + 1

-- before the login's answer
pub record WaitsForAnswer (bodies : List (List ℕ)) (heard : ℕ) : Type 0 where
  pub none_sent : bodies ≡ []
  pub none_heard : heard ≡ 0

-- The login's answer, and the own counts of all batches, at least of one.
pub record HeardAll (taken : List ℕ) (bodies : List (List ℕ)) (heard : ℕ) (back : List ℕ) : Type 0 where
  pub is : taken ≡ (1 ∷ counts_by bodies) ++ back
  pub all : heard ≡ length bodies
  pub some : 1 ≤ length bodies

-- How it ended, by the bytes taken, the batches, and how many of them were counted. `back` are the bytes of the last piece that weren't
-- looked at, since the round had ended.
abbrev pub IsTalkEnd : Result RoundEnd MediumFault → List ℕ → List (List ℕ) → ℕ → List ℕ → Type 0
IsTalkEnd (Ok (end.Done n)) taken bodies heard back = HeardAll taken bodies heard back × (n ≡ length (records_by bodies))
IsTalkEnd (Ok end.Empty) taken bodies heard back = ⊥
IsTalkEnd (Ok end.Refused) taken bodies heard back = WaitsForAnswer bodies heard × (taken ≡ (0 ∷ []) ++ back)
-- The link's end came before an answer, or inside a count. Nothing is left, since all was looked at.
IsTalkEnd (Ok end.Broken) taken bodies heard back = (back ≡ [])
    × ((WaitsForAnswer bodies heard × (taken ≡ [])) ⊎ (WaitsForCount bodies heard × ((rest : List ℕ) × (taken ≡ (1 ∷ counts_by (take heard bodies)) ++ rest) × (down_verdict true rest ≡ short))))
-- another byte than 00 and 01
IsTalkEnd (Ok (end.WrongAnswer (got.Login b))) taken bodies heard back = WaitsForAnswer bodies heard × (taken ≡ (b ∷ []) ++ back) × (b ≢ 0) × (b ≢ 1)
-- a count that isn't that of the outstanding batch
IsTalkEnd (Ok (end.WrongAnswer (got.Count k))) taken bodies heard back = WaitsForCount bodies heard × (taken ≡ (1 ∷ counts_by (take heard bodies)) ++ (count_bytes k ++ back)) × (0 < k) × (k < 2 ^ 32)
    × (k ≢ length (records_by (drop heard bodies)))
-- no count, and no command
IsTalkEnd (Ok (end.WrongAnswer (got.Frame found))) taken bodies heard back = WaitsForCount bodies heard
    × ((rest : List ℕ) × (taken ≡ (1 ∷ counts_by (take heard bodies)) ++ rest) × (down_verdict true rest ≡ fault found.kind found.place)) × (back ≡ [])
IsTalkEnd (Ok end.TooManyCommands) taken bodies heard back = ⊥
IsTalkEnd (Err failed) taken bodies heard back = HeardAll taken bodies heard back

-- The bytes that a link took in between, and that no command is in them.
pub record HearsNoCommand (before after : Traffic) : Type 0 where
  pub taken : List ℕ
  pub written : List ℕ
  pub moves : after ≡ with_more taken written before
  pub none : orders_of (down_reading false taken).items ≡ []

-- The batches, in order, and what of the link's bytes they are. Each record of a batch was held, and just the records of the batches
-- whose own counts were heard were released.
pub record RoundTalks (imei most : ℕ) (result : Result RoundEnd MediumFault) (old new : RingView) (before after : Traffic) : Type 0 where
  pub taken : List ℕ
  pub written : List ℕ
  pub moves : after ≡ with_more taken written before
  pub taken_bytes : AreBytes taken
  pub written_bytes : AreBytes written
  pub bodies : List (List ℕ)
  pub heard : ℕ
  pub back : List ℕ
  pub are : AreSentBodies bodies
  pub held : AreDecided (held_of old.slots) bodies
  pub few : length bodies ≤ most
  pub written_is : written ≡ stream_up imei bodies
  pub ends : IsTalkEnd result taken bodies heard back
  pub ring : RoundsRing result heard (records_by (take heard bodies)) old new

-- The bytes taken are the first that an end writes which answers rightly: `01` and the own counts of the batches, or `00`.
pub data AreRightAnswers (taken : List ℕ) (bodies : List (List ℕ)) : Type 0 where
  counts : (more : List ℕ) → taken ++ more ≡ 1 ∷ counts_by bodies → AreRightAnswers taken bodies
  refuses : (more : List ℕ) → taken ++ more ≡ 0 ∷ [] → AreRightAnswers taken bodies

-- How a round ends over such answers: none is wrong, and each byte that was taken was looked at.
abbrev pub IsRightEnd : Result RoundEnd MediumFault → List ℕ → List (List ℕ) → ℕ → Type 0
IsRightEnd (Ok (end.Done n)) taken bodies heard = (taken ≡ 1 ∷ counts_by bodies) × (heard ≡ length bodies) × (1 ≤ length bodies) × (n ≡ length (records_by bodies))
IsRightEnd (Ok end.Empty) taken bodies heard = ⊥
IsRightEnd (Ok end.Refused) taken bodies heard = (taken ≡ 0 ∷ []) × (bodies ≡ []) × (heard ≡ 0)
IsRightEnd (Ok end.Broken) taken bodies heard = ((taken ≡ []) × (bodies ≡ []) × (heard ≡ 0))
    ⊎ ((rest : List ℕ) × (taken ≡ 1 ∷ (counts_by (take heard bodies) ++ rest)) × (length rest < 4) × (length bodies ≡ heard + 1))
IsRightEnd (Ok (end.WrongAnswer got)) taken bodies heard = ⊥
IsRightEnd (Ok end.TooManyCommands) taken bodies heard = ⊥
IsRightEnd (Err failed) taken bodies heard = (taken ≡ 1 ∷ counts_by bodies) × (heard ≡ length bodies) × (1 ≤ length bodies)

-- Where the other end answers rightly, no round ends with a wrong answer.
abbrev pub RightAnswersEndRight : Type 0
RightAnswersEndRight = (result : Result RoundEnd MediumFault) (taken : List ℕ) (bodies : List (List ℕ)) (heard : ℕ) (back : List ℕ) → AreSentBodies bodies → AreRightAnswers taken bodies → IsTalkEnd result taken bodies heard back
    → IsRightEnd result taken bodies heard

-- An end that writes one byte and then counts, none of them 0, writes no command, wherever its bytes are cut off.
abbrev pub CountsHoldNoCommand : Type 0
CountsHoldNoCommand = (b : ℕ) (ns taken more : List ℕ) → b < 256 → AllByRecursion (λ n. (0 < n) × (n < 2 ^ 32)) ns → taken ++ more ≡ b ∷ flat_map count_bytes ns → orders_of (down_reading false taken).items ≡ []
