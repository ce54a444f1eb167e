-- What a round does to a ring, said of the records that it holds.
use Rattle.std.specs.Prelude.{◌≡◌, ◌⊎◌, ◌↔◌, ◌≤◌, ℕ, ◌+◌, true, false, List, [], length, Option, Result, Ok, Err, IsErr}
use Rattle.std.specs.List.{Contains}
use Rattle.avl_values.specs.Record.{Record}
use Rattle.avl_values.specs.declared.errors.MediumFault.{MediumFault}
use Rattle.medium_model.specs.State.{Counted}
use Rattle.flash_ring.specs.Entries.{held_of}
use Rattle.flash_ring.specs.Held.{Held, IsPart, next_of}
use Rattle.flash_ring.specs.Ring.{EachHolds, IsDurable, RingView}
use Rattle.tracker_session.specs.declared.round_end.RoundEnd.{RoundEnd}
use Rattle.tracker_session.specs.declared.round_end.RoundEnd.TheVariants as end

-- What is left of the slots: all but some of the records that were released, in order. No record is held that wasn't.
pub record IsReleased (released : List Record) (before left : List (Option Held)) : Type 0 where
  pub part : IsPart (held_of left) (held_of before)
  pub next : next_of left ≤ next_of before
  pub keeps : (r : Record) → Contains (held_of before) r → Contains (held_of left) r ⊎ Contains released r

-- how an end speaks of the ring
abbrev pub IsRingEnd : Result RoundEnd MediumFault → RingView → RingView → Type 0
IsRingEnd (Ok (end.Done n)) old new = length (held_of new.slots) + n ≡ length (held_of old.slots)
IsRingEnd (Ok end.Empty) old new = held_of old.slots ≡ []
IsRingEnd (Ok end.Refused) old new = new ≡ old
IsRingEnd (Ok end.Broken) old new = Unit {0}
IsRingEnd (Ok (end.WrongAnswer got)) old new = Unit {0}
IsRingEnd (Ok end.TooManyCommands) old new = Unit {0}
IsRingEnd (Err failed) old new = new.down ≡ true

-- The own counts of N batches were heard, and these are the records of those batches. At every exit, and so at each moment of the
-- round, a power loss leaves all other records. Each batch took one call of the medium, and each of its records one.
pub record RoundsRing (result : Result RoundEnd MediumFault) (heard : ℕ) (released : List Record) (old new : RingView) : Type 0 where
  pub size : length new.slots ≡ length old.slots
  pub next : new.next ≡ old.next
  pub images : EachHolds new (IsReleased released old.slots)
  pub slots : IsReleased released old.slots new.slots
  pub durable : new.down ≡ false → IsDurable new
  pub down : IsErr result ↔ (new.down ≡ true)
  pub ends : IsRingEnd result old new
  pub counted : Counted (heard + length released) old.medium new.medium (new.down ≡ true)

-- Done where as many batches were counted as could be sent, or no slot is open.
abbrev pub IsDrained : Result RoundEnd MediumFault → ℕ → ℕ → RingView → Type 0
IsDrained (Ok (end.Done n)) most heard new = (heard ≡ most) ⊎ (held_of new.slots ≡ [])
IsDrained (Ok end.Empty) most heard new = Unit {0}
IsDrained (Ok end.Refused) most heard new = Unit {0}
IsDrained (Ok end.Broken) most heard new = Unit {0}
IsDrained (Ok (end.WrongAnswer got)) most heard new = Unit {0}
IsDrained (Ok end.TooManyCommands) most heard new = Unit {0}
IsDrained (Err failed) most heard new = Unit {0}
