-- The lines of a script, one after the other.
use Rattle.std.proofs.Common.{◌≡◌, ◌+◌, ◌<◌, ℕ, zero, suc, false, List, [], ◌∷◌, ◌++◌, length, slice_get, slice_index_or, take, Option, Some, None, option_map, Result, Ok, Err, IfOk, refl, sym, ◌∙◌, ap, subst, arith, append-nil, append_assoc, take_all}
use Rattle.journey_script.specs.Grammar.{IsScript}
use Rattle.trial_model.specs.declared.script.ScriptLine.{ScriptLine}
use Rattle.trial_model.specs.Script.{Device, Script, devices_of, lines_of}
use Rattle.trial_play.specs.Plays.{Plays, PlaysAll}
use Rattle.trial_play.specs.OnMedia.{BenchStates, KeptOnMedia, benches_of}
use Rattle.trial_play.specs.Outcomes.{outcome_of}
use Rattle.trial_play.specs.Starting.{StartsTrial}
use Rattle.trial_play.specs.Trials.{AreSidesSound, TrialState, heard_in, history_in, logs_of}
use Rattle.trial_device.specs.Sides.{Side}
use Rattle.trial_server.specs.Archives.{Account}
use Rattle.trial_model.specs.Decisions.{DeviceHistory}
use Rattle.trial_model.specs.Kept.{Kept}
use Rattle.trial_model.specs.Results.{Results}
use Rattle.journey_script.proofs.ScriptLaws.{script_laws}
use Rattle.std.specs.List.{All}
use Rattle.trial_play.proofs.Playing.{plays-all}
use Rattle.trial_play.proofs.OnMedia.{kept-on-media}
use Rattle.trial_play.proofs.Starting.{script-sound, starts-trial, trial-kept}
use Rattle.trial_loop.specs.Loops.{IsNext, LoopState, PlaysNext}
use Rattle.trial_loop.specs.Starts.{Starts}

-- one line more
plays-push : (devices : List Device) (lines xs : List ScriptLine) (l : ScriptLine) (a b c : TrialState) → PlaysAll devices lines xs a b → Plays devices (lines ++ xs) l b c → PlaysAll devices lines (xs ++ l ∷ []) a c
plays-push devices lines [] l a b c all one =
    (c, subst (λ (z : List ScriptLine × TrialState). Plays devices z.0 l z.1 c) (λ i. (append-nil lines i, all i)) one, refl)
plays-push devices lines (x ∷ xs) l a b c all one =
    (all.0, all.1, plays-push devices (lines ++ x ∷ []) xs l all.0 b c all.2 (subst (λ ls. Plays devices ls l b c) (sym (append_assoc lines (x ∷ []) xs)) one))

line-there : (script : Script) (n : ℕ) (l : ScriptLine) → option_map (λ (p : ℕ × ScriptLine). p.1) (slice_get script n) ≡ Some l → slice_get (lines_of script) n ≡ Some l
line-there [] n l is = absurd (let e : ◌≡◌ {A = Option ScriptLine} None (Some l) = is in cc)
line-there (p ∷ script) zero l is = is
line-there (p ∷ script) (suc n) l is = line-there script n l is

take-more : (lines : List ScriptLine) (n : ℕ) (l : ScriptLine) → slice_get lines n ≡ Some l → take (suc n) lines ≡ take n lines ++ l ∷ []
take-more [] n l is = absurd (let e : ◌≡◌ {A = Option ScriptLine} None (Some l) = is in cc)
take-more (x ∷ xs) zero l is = let e : Some x ≡ Some l = is in let same : x ≡ l = cc in ap (λ (y : ScriptLine). y ∷ []) same
take-more (x ∷ xs) (suc n) l is = ap (λ (ys : List ScriptLine). x ∷ ys) (take-more xs n l is)

-- so far, a trial has played the first n lines
pub record Played (script : Script) (n : ℕ) (start now : LoopState) : Type 0 where
  pub plays : PlaysAll (devices_of (lines_of script)) [] (take n (lines_of script)) start.trial now.trial
  pub known : now.known ≡ start.known

pub played-none : (script : Script) (start : LoopState) → Played script 0 start start
played-none script start = record { plays = refl; known = refl }

module _ (script : Script) (is_script : IsScript script) (start : LoopState) (starts : Starts (devices_of (lines_of script)) start) (n : ℕ) (l : ScriptLine)
    (is : option_map (λ (p : ℕ × ScriptLine). p.1) (slice_get script n) ≡ Some l) (now : LoopState) (played : Played script n start now) where
  pub next-line : IsNext script n l now
  next-line = record {
    is_script = is_script;
    is = line-there script n l is;
    sound = plays-all (devices_of (lines_of script)) [] (take n (lines_of script)) start.trial now.trial (starts-trial (devices_of (lines_of script)) start.trial starts.trial) played.plays;
    known = λ imei. subst (λ k. Rattle.session_core.specs.Knowing.knows k imei ≡ Rattle.trial_model.specs.Script.is_known imei (devices_of (lines_of script))) (sym played.known) (starts.known imei);
  }

  pub played-more : (new : LoopState) → PlaysNext l now new → Played script (n + 1) start new
  played-more new p = record {
    plays = subst (λ (ls : List ScriptLine). PlaysAll (devices_of (lines_of script)) [] ls start.trial new.trial) (sym (more ∙ take-more (lines_of script) n l (line-there script n l is)))
        (plays-push (devices_of (lines_of script)) [] (take n (lines_of script)) l start.trial now.trial new.trial played.plays (p.plays script n next-line));
    known = p.known ∙ played.known;
  }
    where
      more : take (n + 1) (lines_of script) ≡ take (suc n) (lines_of script)
      more = let is : n + 1 ≡ suc n = omega arith in ap (λ (k : ℕ). take k (lines_of script)) is

pub played-all : (script : Script) (n : ℕ) (start now : LoopState) → length script ≡ n → Played script n start now → PlaysAll (devices_of (lines_of script)) [] (lines_of script) start.trial now.trial
played-all script n start now is played =
    subst (λ (ls : List ScriptLine). PlaysAll (devices_of (lines_of script)) [] ls start.trial now.trial)
    (take_all n (lines_of script) (omega (arith, is, Rattle.std.proofs.lemmas.List.length-map script (λ (p : ℕ × ScriptLine). p.1)))) played.plays

-- after the last line each ring is up
up-each : (heard : Account) (history : Device → DeviceHistory) (devices : List Device) (sides : List Side) → AreSidesSound heard history devices sides → (k : ℕ) (d : Side) → k < length sides → (slice_index_or sides k d).ring.down ≡ false
up-each heard history [] [] s k d low = absurd (omega (arith, low))
up-each heard history [] (v ∷ ds) s k d low = absurd s
up-each heard history (x ∷ xs) [] s k d low = absurd s
up-each heard history (x ∷ xs) (v ∷ ds) s zero d low = s.0.1.durable.up
up-each heard history (x ∷ xs) (v ∷ ds) s (suc k) d low = up-each heard history xs ds s.1 k d (omega (arith, low))

pub all-up : (script : Script) (start now : TrialState) → StartsTrial (devices_of (lines_of script)) start → PlaysAll (devices_of (lines_of script)) [] (lines_of script) start now → All (λ (d : Side). d.ring.down ≡ false) now.sides
all-up script start now starts plays =
    up-each (heard_in (logs_of now.connections)) (history_in (lines_of script) (logs_of now.connections)) (devices_of (lines_of script)) now.sides (script-sound script start now starts plays).sides

-- what was played whole has what every trial keeps
pub kept-by : {T E : Type 0} (r : Result T E) (script : Script) (start now : TrialState) (outcome : T → Results) → IsScript script → StartsTrial (devices_of (lines_of script)) start
    → PlaysAll (devices_of (lines_of script)) [] (lines_of script) start now → IfOk r (λ x. outcome x ≡ outcome_of now) → IfOk r (λ x. Kept script (outcome x))
kept-by (Err e) script start now outcome is starts plays o = tt
kept-by (Ok x) script start now outcome is starts plays o = subst (Kept script) (sym o) (trial-kept script start now (script_laws script is) starts plays)

pub media-by : {T E : Type 0} (r : Result T E) (script : Script) (start now : TrialState) (outcome : T → Results) (benches : T → BenchStates) → IsScript script → StartsTrial (devices_of (lines_of script)) start
    → PlaysAll (devices_of (lines_of script)) [] (lines_of script) start now → IfOk r (λ x. outcome x ≡ outcome_of now) → IfOk r (λ x. benches x ≡ benches_of now) → IfOk r (λ x. KeptOnMedia script (outcome x) (benches x))
media-by (Err e) script start now outcome benches is starts plays o b = tt
media-by (Ok x) script start now outcome benches is starts plays o b =
    subst (λ (z : Results × BenchStates). KeptOnMedia script z.0 z.1) (λ i. (sym o i, sym b i)) (kept-on-media script start now (script_laws script is) starts plays)
