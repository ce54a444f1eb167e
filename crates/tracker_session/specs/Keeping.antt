-- What keeping a record leaves of the ring and of the losses' list (this project's own).
use Rattle.std.specs.Prelude.{◌≡◌, ℕ, ◌+◌, ◌≤◌, if◌then◌else◌, Bool, true, false, List, [], ◌∷◌, ◌++◌, length, Option, Result, Ok, Err}
use Rattle.avl_values.specs.Causes.{Rose}
use Rattle.avl_values.specs.Record.{Record}
use Rattle.medium_model.specs.State.{Counted}
use Rattle.flash_ring.specs.Entries.{held_of, with_room}
use Rattle.flash_ring.specs.Held.{Held, is_full, next_of, put_in}
use Rattle.flash_ring.specs.Ring.{EachHolds, IsDurable, RingView, room_calls}
use Rattle.tracker_session.specs.Losses.{LossesState, with_loss}
use Rattle.tracker_session.specs.declared.kept.Kept.{Kept}
use Rattle.tracker_session.specs.declared.kept.Kept.TheVariants as kept
use Rattle.tracker_session.specs.declared.kept.KeepFault.{KeepFault}
use Rattle.tracker_session.specs.declared.kept.KeepFault.TheVariants as fault

-- what is held with a record, where a full ring gave up its oldest
abbrev pub held_with : RingView → Record → List Record
held_with v r = held_of (with_room v.slots) ++ r ∷ []

-- What a power loss inside it leaves: the records before, those without the oldest of a full ring, or those with the new one. The
-- sequences stay below a bound.
pub data KeepsLeft (v : RingView) (r : Record) (left : List (Option Held)) : Type 0 where
  as_before : held_of left ≡ held_of v.slots → next_of left ≤ v.next → KeepsLeft v r left
  without_oldest : is_full v.slots ≡ true → held_of left ≡ held_of (with_room v.slots) → next_of left ≤ v.next → KeepsLeft v r left
  with_record : held_of left ≡ held_with v r → next_of left ≤ v.next + 1 → KeepsLeft v r left

-- the slots with a record: in the closed slot with the lowest number, under the next sequence, where a full ring gave up its oldest
abbrev pub slots_with : RingView → Record → List (Option Held)
slots_with v r = put_in (with_room v.slots) (record { seq = v.next; rec = r })

-- What a power loss inside it leaves, slot by slot: the slots before, those less the oldest of a full ring, or those with the record.
pub data IsLeft (v : RingView) (r : Record) (left : List (Option Held)) : Type 0 where
  slots_before : left ≡ v.slots → IsLeft v r left
  slots_roomy : is_full v.slots ≡ true → left ≡ with_room v.slots → IsLeft v r left
  slots_kept : left ≡ slots_with v r → IsLeft v r left

-- the medium calls: two for room in a full ring, and four for the record
abbrev pub keep_calls : RingView → ℕ
keep_calls v = room_calls v + 4

-- The calls of the medium were made. Where none failed, the ring has the record in its slot, and each other slot as before but for
-- the oldest of a full ring. At every exit, and so at each moment of the call, a power loss leaves what `IsLeft` says, which is
-- `KeepsLeft` of the records.
pub record Keeps (r : Record) (failed : Bool) (old new : RingView) : Type 0 where
  pub size : length new.slots ≡ length old.slots
  pub slots : failed ≡ false → new.slots ≡ slots_with old r
  pub leaves : EachHolds new (IsLeft old r)
  pub images : EachHolds new (KeepsLeft old r)
  pub held : failed ≡ false → held_of new.slots ≡ held_with old r
  pub next : failed ≡ false → new.next ≡ old.next + 1
  pub durable : failed ≡ false → IsDurable new
  pub down : new.down ≡ failed
  pub counted : Counted (keep_calls old) old.medium new.medium (failed ≡ true)

-- what an answer leaves of the ring: a refusal before the first call of the medium leaves it as it was
abbrev pub LeavesRing : Record → Result Kept KeepFault → RingView → RingView → Type 0
LeavesRing r (Ok kept) old new = Keeps r false old new
LeavesRing r (Err fault.MediumFault) old new = Keeps r true old new
LeavesRing r (Err fault.SeqSpent) old new = new ≡ old
LeavesRing r (Err fault.ListFault) old new = new ≡ old

-- the first of these records listed too
abbrev pub with_first : List Record → Option (List Record) → Option (List Record)
with_first [] listed = listed
with_first (r ∷ rs) listed = with_loss r listed

-- the losses' list, with the oldest record of a full ring
abbrev pub with_oldest : RingView → Option (List Record) → Option (List Record)
with_oldest v listed = if is_full v.slots then with_first (held_of v.slots) listed else listed

-- the oldest record of a full ring was listed, and nothing else
pub record ListsOldest (v : RingView) (old new : LossesState) : Type 0 where
  pub listed : new.listed ≡ with_oldest v old.listed
  pub faults : new.faults ≡ old.faults

-- it couldn't be listed
pub record FailsToList (v : RingView) (old new : LossesState) : Type 0 where
  pub full : is_full v.slots ≡ true
  pub listed : new.listed ≡ old.listed
  pub rose : Rose old.faults new.faults

-- What an answer says of the losses' list: the oldest record of a full ring is in it before a slot is closed.
abbrev pub LeavesLosses : Result Kept KeepFault → RingView → LossesState → LossesState → Type 0
LeavesLosses (Ok kept) v old new = ListsOldest v old new
LeavesLosses (Err fault.MediumFault) v old new = ListsOldest v old new
LeavesLosses (Err fault.SeqSpent) v old new = new ≡ old
LeavesLosses (Err fault.ListFault) v old new = FailsToList v old new

-- that a record was stored over another
abbrev pub kept_as : Bool → Kept
kept_as true = kept.StoredOver
kept_as false = kept.Stored
