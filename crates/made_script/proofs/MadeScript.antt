-- A made script is one that is read.
use Rattle.std.proofs.Common.{◌≡◌, ◌≤◌, ℕ, List, [], ◌++◌, ap, ◌∙◌, append_assoc}
use Rattle.trial_model.specs.declared.script.ScriptLine.{ScriptLine}
use Rattle.journey_script.specs.Grammar.{IsScript}
use Rattle.journey_script.proofs.MadeLaws.{is_script}
use Rattle.made_script.specs.Draws.{drawn_turns, seeded}
use Rattle.made_script.specs.Made.{device_lines, drain_lines, made, made_lines, of_devices, started, turn_lines}
use Rattle.made_script.proofs.Bytes.{made_short}
use Rattle.made_script.proofs.Sound.{made_sound}

pub made_is_script : (seed devices fixes : ℕ) → 1 ≤ devices → devices ≤ 64 → fixes ≤ 100000 → IsScript (made seed devices fixes)
made_is_script seed devices fixes some few most =
    let short = made_short seed devices fixes some few most in
    is_script (made_lines seed devices fixes) short.0 (made_sound seed devices fixes some few) short.1

-- the lines in three parts
pub whole_lines : (seed devices fixes d : ℕ) (none first second third : List ScriptLine) → d ≡ devices → none ≡ [] → first ≡ none ++ of_devices device_lines d
    → second ≡ first ++ turn_lines (started d) (drawn_turns d fixes (seeded seed)) → third ≡ second ++ of_devices drain_lines d → third ≡ made_lines seed devices fixes
unfolding made_lines
whole_lines seed devices fixes d none first second third same empty begun gone drained =
    let a : ℕ → List ScriptLine = λ n. of_devices device_lines n in
    let b : ℕ → List ScriptLine = λ n. turn_lines (started n) (drawn_turns n fixes (seeded seed)) in
    let c : ℕ → List ScriptLine = λ n. of_devices drain_lines n in
    let two = begun ∙ ap (λ (ls : List ScriptLine). ls ++ a d) empty in
    let three = gone ∙ ap (λ (ls : List ScriptLine). ls ++ b d) two in
    drained ∙ ap (λ (ls : List ScriptLine). ls ++ c d) three ∙ append_assoc (a d) (b d) (c d) ∙ ap (λ (n : ℕ). a n ++ (b n ++ c n)) same
