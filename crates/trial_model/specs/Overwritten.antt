-- The overwritten records, in their order, were evicted one after the other, each by a decision that found the ring
-- full, at least a whole ring after its own.
use Rattle.std.specs.Prelude.{ℕ, ◌≡◌, ◌+◌, ◌≤◌, ◌<◌, List, [], ◌∷◌, map, slice_get, Some}
use Rattle.std.specs.List.{All, AllZip}
use Rattle.avl_values.specs.Record.{Record}
use Rattle.trial_model.specs.declared.outcome.DeviceOutcome.{DeviceOutcome}
use Rattle.trial_model.specs.Decisions.{Decision}

-- The record has this place among the decisions, and the decision at another place evicts it.
pub record Eviction : Type 0 where
  pub place : ℕ
  pub evicting : ℕ

pub record IsEviction (slots : ℕ) (decisions : List Decision) (r : Record) (e : Eviction) : Type 0 where
  pub decision : Decision
  pub decided : slice_get decisions e.place ≡ Some decision
  pub is_record : decision.rec ≡ r
  pub evictor : Decision
  pub decided_later : slice_get decisions e.evicting ≡ Some evictor
  pub full : evictor.load ≡ slots
  pub apart : e.place + slots ≤ e.evicting

abbrev pub IsRising : List ℕ → Type 0
IsRising [] = Unit {0}
IsRising (n ∷ ns) = All (λ m. n < m) ns × IsRising ns

abbrev pub IsOverwrittenInOrder : ℕ → List Decision → DeviceOutcome → Type 0
IsOverwrittenInOrder slots decisions d = (evictions : List Eviction)
    × AllZip (IsEviction slots decisions) d.overwritten evictions × IsRising (map (λ e. e.evicting) evictions)
