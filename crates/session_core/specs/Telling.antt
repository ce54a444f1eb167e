-- A session in words over all that it took: the text, the counts and the orders.
use Rattle.std.specs.Prelude.{◌≡◌, ℕ, ◌+◌, ◌<◌, Bool, false, List, [], ◌∷◌, ◌++◌, length}
use Rattle.record_layout.specs.RecordsOf.{count_of}
use Rattle.frame_layout.specs.Readings.{packets_of, up_reading}
use Rattle.session_core.specs.declared.served.Served.{Served}
use Rattle.session_core.specs.declared.served.SessionEnd.{SessionEnd}
use Rattle.session_core.specs.declared.served.SessionEnd.TheVariants.{Ended, EndedInside, LinkFault, Broken, Unknown, MediumFault, Down, LongEnough, NoMemory}
use Rattle.session_core.specs.Courses.{said_in}
use Rattle.session_core.specs.Talks.{Meaning, nobody, text, after, orders_in}

-- how many records bodies have
abbrev pub total_records : List (List ℕ) → ℕ
total_records [] = 0
total_records (body ∷ bodies) = count_of body + total_records bodies

-- The text is written whole where all that was taken was dealt with, or the device isn't known.
abbrev pub IsAllWritten : SessionEnd → List ℕ → Type 0
IsAllWritten Ended unwritten = unwritten ≡ []
IsAllWritten (EndedInside have) unwritten = unwritten ≡ []
IsAllWritten (LongEnough most) unwritten = unwritten ≡ []
IsAllWritten (Broken found) unwritten = unwritten ≡ []
IsAllWritten (Unknown imei) unwritten = unwritten ≡ []
IsAllWritten LinkFault unwritten = Unit {0}
IsAllWritten (MediumFault faults) unwritten = Unit {0}
IsAllWritten (Down faults) unwritten = Unit {0}
IsAllWritten NoMemory unwritten = Unit {0}

-- There the orders are those that the text's calls leave.
abbrev pub OrdersAre : {O : Type 0} → SessionEnd → O → O → Type 0
OrdersAre Ended p q = p ≡ q
OrdersAre (EndedInside have) p q = p ≡ q
OrdersAre (LongEnough most) p q = p ≡ q
OrdersAre (Broken found) p q = p ≡ q
OrdersAre (Unknown imei) p q = p ≡ q
OrdersAre LinkFault p q = Unit {0}
OrdersAre (MediumFault faults) p q = Unit {0}
OrdersAre (Down faults) p q = Unit {0}
OrdersAre NoMemory p q = Unit {0}

-- which data frames in the bytes taken weren't counted: none, at least one, or any; a stranger's are never counted
abbrev pub MayBeUncounted : SessionEnd → List (List ℕ) → List (List ℕ) → Type 0
MayBeUncounted Ended counted others = others ≡ []
MayBeUncounted (EndedInside have) counted others = others ≡ []
MayBeUncounted (LongEnough most) counted others = others ≡ []
MayBeUncounted (Broken found) counted others = others ≡ []
MayBeUncounted (Unknown imei) counted others = counted ≡ []
MayBeUncounted LinkFault counted others = Unit {0}
MayBeUncounted (MediumFault faults) counted others = 0 < length others
MayBeUncounted (Down faults) counted others = 0 < length others
MayBeUncounted NoMemory counted others = Unit {0}

-- A session, over all that it took: what was written begins the text of the items, and is all of it where the end says so; the
-- counts are those of the first data frames.
pub record IsTold {O : Type 0} (m : Meaning O) (known : ℕ → Bool) (o p : O) (served : Served) (taken written : List ℕ) : Type 0 where
  pub unwritten : List ℕ
  pub begins : text m known (nobody o) (said_in taken) ≡ written ++ unwritten
  pub all : IsAllWritten served.end unwritten
  pub orders : OrdersAre served.end p (orders_in (after m known (nobody o) (said_in taken)))
  pub counted : List (List ℕ)
  pub others : List (List ℕ)
  pub packets_are : packets_of (up_reading false taken).items ≡ counted ++ others
  pub frames : served.frames ≡ length counted
  pub records : served.records ≡ total_records counted
  pub fits : MayBeUncounted served.end counted others
