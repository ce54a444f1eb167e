-- Worked rows of devices: decisions, loads, and the fuses that cover them. Each computes.
use Rattle.std.proofs.Common.{◌≡◌, ℕ, List, [], ◌∷◌, map, length, refl, arith}
use Rattle.std.specs.Prelude.{None, Some}
use Rattle.trial_model.specs.declared.outcome.DeviceEnd.TheVariants as End
use Rattle.trial_model.specs.declared.outcome.DeviceEnd.{DeviceEnd}
use Rattle.trial_model.specs.declared.script.ScriptLine.{ScriptLine}
use Rattle.trial_model.specs.declared.script.ScriptLine.TheVariants as Line
use Rattle.acquisition.specs.Watching.{powered_up}
use Rattle.trial_model.specs.Cover.{IsBelow}
use Rattle.trial_model.specs.Decisions.{DeviceHistory, history_of, records_decided, steps_of}
use Rattle.trial_model.specs.RecordLists.{first_places}
use Rattle.trial_model.proofs.Lines.{device, device_line, fix, fuse, imei, mine, whole_round}

-- what these lines say of the device
abbrev after : ℕ → List ScriptLine → List DeviceEnd → DeviceHistory
after slots lines ends = history_of (device slots) (steps_of (device_line slots ∷ lines) ends)

-- three fixes into two slots: the third finds the ring full
pub ring_fills : map (λ d. d.load) (after 2 (fix 0 ∷ fix 1 ∷ fix 2 ∷ []) []).decisions ≡ 0 ∷ 1 ∷ 2 ∷ []
ring_fills = refl

pub full_ring_stays_full : (after 2 (fix 0 ∷ fix 1 ∷ fix 2 ∷ []) []).load ≡ 2
full_ring_stays_full = refl

-- room for a record in a full ring costs two calls more
pub full_ring_costs_more : map (λ d. d.cost) (after 2 (fix 0 ∷ fix 1 ∷ fix 2 ∷ []) []).decisions ≡ 4 ∷ 4 ∷ 6 ∷ []
full_ring_costs_more = refl

-- the same fix again is not due, but is after a power loss; the two records are one
pub forgets_at_power_loss : length (after 2 (fix 0 ∷ fix 0 ∷ Line.Power mine ∷ fix 0 ∷ []) []).decisions ≡ 2
forgets_at_power_loss = refl

pub equal_records_are_one : length (first_places (records_decided (after 2 (fix 0 ∷ fix 0 ∷ Line.Power mine ∷ fix 0 ∷ []) []).decisions)) ≡ 1
equal_records_are_one = refl

-- a fuse of two calls covers the fix: its store can't be finished
pub fuse_covers_a_fix : map (λ d. d.cover) (after 16 (fuse mine 2 ∷ fix 0 ∷ []) []).decisions ≡ Some 2 ∷ []
fuse_covers_a_fix = refl

pub two_calls_are_too_few : map (λ d. d.cost) (after 16 (fuse mine 2 ∷ fix 0 ∷ []) []).decisions ≡ 4 ∷ []
two_calls_are_too_few = refl

-- a fuse of four calls is used up, and suffices
pub four_calls_suffice : IsBelow (Some 4) 4 → ⊥
four_calls_suffice h = omega arith

pub fuse_is_used_up : (after 16 (fuse mine 4 ∷ fix 0 ∷ []) []).fuse ≡ None
fuse_is_used_up = refl

-- a device forgets its last fix after a line that a fuse covers
pub forgets_after_a_covered_line : (after 16 (fuse mine 4 ∷ fix 0 ∷ []) []).watching ≡ powered_up
forgets_after_a_covered_line = refl

-- a power line puts the fuse out
pub power_puts_the_fuse_out : map (λ d. d.cover) (after 16 (fuse mine 2 ∷ Line.Power mine ∷ fix 0 ∷ []) []).decisions ≡ None ∷ []
power_puts_the_fuse_out = refl

-- a drain that ended Done empties the ring, and a round takes its records away
pub drain_empties : (after 2 (fix 0 ∷ fix 1 ∷ fix 2 ∷ Line.Drain imei 64 ∷ []) (End.Done 2 ∷ [])).load ≡ 0
drain_empties = refl

pub round_takes_its_records_away : (after 64 (fix 0 ∷ fix 1 ∷ fix 2 ∷ whole_round ∷ []) (End.Done 2 ∷ [])).load ≡ 1
round_takes_its_records_away = refl

pub broken_round_takes_none_away : (after 64 (fix 0 ∷ whole_round ∷ []) (End.Broken ∷ [])).load ≡ 1
broken_round_takes_none_away = refl
