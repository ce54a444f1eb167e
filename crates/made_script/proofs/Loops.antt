-- One more turn, and one more device, of the lines that are made.
use Rattle.std.proofs.Common.{◌≡◌, ◌+◌, ◌≤◌, ℕ, zero, suc, List, ◌++◌, length, length-append, refl, sym, ap, ◌∙◌, append_assoc, arith}
use Rattle.std.proofs.lemmas.List.{append-nil}
use Rattle.rand_pcg.specs.Lcg.{Lcg}
use Rattle.trial_model.specs.declared.script.ScriptLine.{ScriptLine}
use Rattle.made_script.specs.declared.turn.Event.{Event}
use Rattle.made_script.specs.declared.turn.Event.TheVariants.{CutRound, DeviceFuse, Nothing, Power, ServerFuse, WholeRound}
use Rattle.made_script.specs.declared.turn.Turn.{Turn}
use Rattle.made_script.specs.Draws.{drawn_turn, drawn_turns, seeded}
use Rattle.made_script.specs.Made.{Stand, after_turn, event_lines, imei_at, lines_at, of_devices, started, turn_lines}

pub one_device : (lines : ℕ → List ScriptLine) (before old new : List ScriptLine) (k : ℕ) → old ≡ before ++ of_devices lines k → new ≡ old ++ lines (k + 1) → new ≡ before ++ of_devices lines (k + 1)
unfolding of_devices
one_device lines before old new k is more =
    let next : k + 1 ≡ suc k = omega arith in
    more ∙ ap (λ (xs : List ScriptLine). xs ++ lines (k + 1)) is ∙ append_assoc before (of_devices lines k) (lines (k + 1))
    ∙ ap (λ (n : ℕ). before ++ (of_devices lines k ++ lines n)) next ∙ ap (λ (n : ℕ). before ++ of_devices lines n) (sym next)

pub no_device : (lines : ℕ → List ScriptLine) (before : List ScriptLine) → before ≡ before ++ of_devices lines 0
unfolding of_devices
no_device lines before = sym (append-nil before)

pub event_few : (imei rounds : ℕ) (event : Event) → length (event_lines imei rounds event) ≤ 3
event_few imei rounds (WholeRound piece) = omega arith
event_few imei rounds (CutRound piece up) = omega arith
event_few imei rounds Power = omega arith
event_few imei rounds (DeviceFuse calls tear) = omega arith
event_few imei rounds (ServerFuse calls tear) = omega arith
event_few imei rounds Nothing = omega arith

pub turn_few : (stand : Stand) (turn : Turn) (old new : List ScriptLine) → new ≡ old ++ lines_at stand turn → length new ≤ length old + 4
turn_few stand turn old new is = omega (arith, ap (λ (xs : List ScriptLine). length xs) is, length-append old (lines_at stand turn), event_few (imei_at turn.device) stand.rounds turn.event)

pub one_turn : (devices left rest : ℕ) (g next : Lcg) (stand after : Stand) (turn : Turn) (draft new whole : List ScriptLine) → draft ++ turn_lines stand (drawn_turns devices left g) ≡ whole → left ≡ suc rest
    → turn ≡ (drawn_turn devices g).0 → next ≡ (drawn_turn devices g).1 → after ≡ after_turn stand turn → new ≡ draft ++ lines_at after turn
    → new ++ turn_lines after (drawn_turns devices rest next) ≡ whole
unfolding drawn_turns turn_lines
one_turn devices left rest g next stand after turn draft new whole is more drawn goes_on goes grows =
    rw (grows, goes, drawn, goes_on) (append_assoc draft _ _ ∙ ap (λ (n : ℕ). draft ++ turn_lines stand (drawn_turns devices n g)) (sym more) ∙ is)

pub first_turn : (devices fixes left seed : ℕ) (g : Lcg) (stand : Stand) (draft : List ScriptLine) → left ≡ fixes → g ≡ seeded seed → stand ≡ started devices
    → draft ++ turn_lines stand (drawn_turns devices left g) ≡ draft ++ turn_lines (started devices) (drawn_turns devices fixes (seeded seed))
first_turn devices fixes left seed g stand draft e is starts = rw (e, is, starts) refl

pub no_turn : (devices : ℕ) (g : Lcg) (stand : Stand) (draft whole : List ScriptLine) (left : ℕ) → left ≡ 0 → draft ++ turn_lines stand (drawn_turns devices left g) ≡ whole → draft ≡ whole
unfolding drawn_turns turn_lines
no_turn devices g stand draft whole zero e is = sym (append-nil draft) ∙ is
no_turn devices g stand draft whole (suc left) e is = absurd (omega arith)

pub more_few : (old new more : List ScriptLine) (k : ℕ) → new ≡ old ++ more → length more ≤ k → length new ≤ length old + k
more_few old new more k is few = omega (arith, ap (λ (xs : List ScriptLine). length xs) is, length-append old more)
