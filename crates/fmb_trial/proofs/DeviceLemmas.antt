-- The devices of a script, counted line after line, and the benches for them.
use Rattle.std.proofs.Common.{◌≡◌, ◌<◌, ◌+◌, ℕ, suc, Bool, true, false, List, [], ◌∷◌, Option, None, Some, length, drop, refl, ap, ◌∙◌, arith}
use Rattle.std.proofs.lemmas.Option.{slice_get-map}
use Rattle.std.proofs.lemmas.List.{length-map}
use Rattle.std.specs.Prelude.{is_some, option_map, slice_get, if◌then◌else◌}
use Rattle.std.specs.List.{filter_map}
use Rattle.fmb_text.proofs.AppendLemmas.{at_drop_got}
use Rattle.medium_model.specs.State.{MediumState}
use Rattle.trial_model.specs.declared.outcome.DeviceOutcome.{DeviceOutcome}
use Rattle.trial_model.specs.declared.script.ScriptLine.{ScriptLine}
use Rattle.trial_model.specs.Script.{Device, Script, lines_of}
use Rattle.trial_play.specs.OnMedia.{AreFlashes}

module _ {X Y : Type 0} where
  kept_more : (o : Option Y) (f : X → Option Y) (x : X) (xs : List X) → f x ≡ o → length (filter_map f (x ∷ xs)) ≡ (if is_some o then 1 else 0) + length (filter_map f xs)
  kept_more None f x xs is = let e : length (filter_map f (x ∷ xs)) ≡ length (filter_map f xs) = rw is refl in omega (arith, e)
  kept_more (Some y) f x xs is = let e : length (filter_map f (x ∷ xs)) ≡ suc (length (filter_map f xs)) = rw is refl in omega (arith, e)

-- one line more
pub counted_line : (script : Script) (f : ScriptLine → Option Device) (i count total : ℕ) (line : ScriptLine) (is_device : Bool) → i < length script → option_map (λ l. l.1) (slice_get script i) ≡ Some line
    → is_some (f line) ≡ is_device → count + length (filter_map f (drop i (lines_of script))) ≡ total
    → (if is_device then count + 1 else count) + length (filter_map f (drop (i + 1) (lines_of script))) ≡ total
counted_line script f i count total line is_device inside got is so_far =
    let here : slice_get (lines_of script) i ≡ Some line = slice_get-map (λ l. l.1) script i ∙ got in
    let within : i < length (lines_of script) = omega (arith, inside, length-map script (λ l. l.1)) in
    let more = at_drop_got (λ ls. length (filter_map f ls)) (lines_of script) i line within here ∙ kept_more (f line) f line (drop (i + 1) (lines_of script)) refl in
    by_kind is_device (more ∙ ap (λ b. (if b then 1 else 0) + length (filter_map f (drop (i + 1) (lines_of script)))) is)
  where
    by_kind : (b : Bool) → length (filter_map f (drop i (lines_of script))) ≡ (if b then 1 else 0) + length (filter_map f (drop (i + 1) (lines_of script)))
        → (if b then count + 1 else count) + length (filter_map f (drop (i + 1) (lines_of script))) ≡ total
    by_kind true more = omega (arith, more, so_far)
    by_kind false more = omega (arith, more, so_far)

-- a flash for each device
pub same_count : (devices : List Device) (flashes : List MediumState) (outcomes : List DeviceOutcome) → AreFlashes devices flashes outcomes → length flashes ≡ length devices
same_count [] [] [] are = refl
same_count [] [] (o ∷ outcomes) are = absurd are
same_count [] (m ∷ flashes) outcomes are = absurd are
same_count (d ∷ devices) [] outcomes are = absurd are
same_count (d ∷ devices) (m ∷ flashes) [] are = absurd are
same_count (d ∷ devices) (m ∷ flashes) (o ∷ outcomes) are = ap suc (same_count devices flashes outcomes are.1)
