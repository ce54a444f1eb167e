-- How many lines connect, and what the lines say of a device, one line more.
use Rattle.std.proofs.Common.{◌≡◌, ◌≤◌, inl, inr, ℕ, zero, suc, ◌+◌, Bool, true, false, List, [], ◌∷◌, ◌++◌, length, take, fold, Option, Some, None, is_some, if◌then◌else◌, refl, sym, ◌∙◌, ap, arith, append-nil, append_assoc, length-append}
use Rattle.std.proofs.lemmas.Bool.{cases_Bool}
use Rattle.std.proofs.lemmas.List.{length-map}
use Rattle.std.proofs.lemmas.List.Sums.{fold_push}
use Rattle.trial_model.specs.declared.outcome.DeviceEnd.{DeviceEnd}
use Rattle.trial_model.specs.declared.script.ScriptLine.{ScriptLine}
use Rattle.trial_model.specs.declared.script.ScriptLine.TheVariants as Line
use Rattle.trial_model.specs.declared.script.Who.TheVariants as Who
use Rattle.trial_model.specs.Connections.{ConnectionHistory, ServerHistory, at_number, closed, connections_after, connections_of, if_covered, opened, restarted, server_after, server_of, with_more}
use Rattle.trial_model.specs.Decisions.{Step, after_line, after_step, before_all, history_of, steps_of}
use Rattle.trial_model.specs.Script.{Device, opening_of}
use Rattle.trial_play.specs.Trials.{connecting}
use Rattle.trial_play.proofs.Places.{length-changed, number-changed}

-- Connections, by the lines that connect.

length-covered : (fuse : Option ℕ) (hs : List ConnectionHistory) → length (if_covered fuse hs) ≡ length hs
length-covered None hs = refl
length-covered (Some k) hs = length-map hs restarted

length-number : (f : ConnectionHistory → ConnectionHistory) (n : ℕ) (hs : List ConnectionHistory) → length (at_number f n hs) ≡ length hs
length-number f n hs = ap length (number-changed f n hs) ∙ length-changed f n hs

connections-after : (h : ServerHistory) (l : ScriptLine) → length (connections_after h l) ≡ length h.connections + (if is_some (opening_of l) then 1 else 0)
connections-after h (Line.Device imei codec slots order period distance angle speed known) = omega arith
connections-after h (Line.Setting imei setting) = omega arith
connections-after h (Line.Fix imei fix) = omega arith
connections-after h (Line.Round imei piece up down) =
    let one : ConnectionHistory = opened h.lines (Line.Round imei piece up down) (record { imei = imei; drains = false; up = up; down = down }) in
    omega (arith, length-covered h.fuse (h.connections ++ one ∷ []), length-append h.connections (one ∷ []))
connections-after h (Line.Drain imei piece) =
    let one : ConnectionHistory = opened h.lines (Line.Drain imei piece) (record { imei = imei; drains = true; up = None; down = None }) in
    omega (arith, length-covered h.fuse (h.connections ++ one ∷ []), length-append h.connections (one ∷ []))
connections-after h (Line.Late connection bytes) = omega (arith, length-covered h.fuse (at_number (with_more bytes) connection h.connections), length-number (with_more bytes) connection h.connections)
connections-after h (Line.Close connection) = omega (arith, length-number closed connection h.connections)
connections-after h (Line.Power (Who.Device imei)) = omega arith
connections-after h (Line.Power Who.Server) = omega (arith, length-map h.connections restarted)
connections-after h (Line.Fuse who calls tear) = omega arith

connections-fold : (h : ServerHistory) (lines : List ScriptLine) → length (fold server_after h lines).connections ≡ length h.connections + connecting lines
connections-fold h [] = omega arith
connections-fold h (l ∷ lines) = omega (arith, connections-fold (server_after h l) lines, connections-after h l)

pub connections-count : (lines : List ScriptLine) → length (connections_of lines) ≡ connecting lines
connections-count lines = (let n = connections-fold (record { lines = []; connections = []; fuse = None }) lines in omega (arith, n))

-- the lines before are in the server's history
pub server-lines : (lines : List ScriptLine) → (server_of lines).lines ≡ lines
server-lines lines = from (record { lines = []; connections = []; fuse = None }) lines
  where
    from : (h : ServerHistory) (ls : List ScriptLine) → (fold server_after h ls).lines ≡ h.lines ++ ls
    from h [] = sym (append-nil h.lines)
    from h (l ∷ ls) = from (server_after h l) ls ∙ append_assoc h.lines (l ∷ []) ls

pub connecting-take : (i : ℕ) (lines : List ScriptLine) → connecting (take i lines) ≤ connecting lines
connecting-take zero lines = omega arith
connecting-take (suc i) [] = omega arith
connecting-take (suc i) (l ∷ lines) = omega (arith, connecting-take i lines)

-- Steps.

abbrev pub opens : ScriptLine → Bool
opens l = is_some (opening_of l)

abbrev pub bare : ScriptLine → Step
bare l = record { line = l; end = None }

abbrev pub ended : ScriptLine → DeviceEnd → Step
ended l e = record { line = l; end = Some e }

pub step-none : (l : ScriptLine) (lines : List ScriptLine) (ends : List DeviceEnd) → opens l ≡ false → steps_of (l ∷ lines) ends ≡ bare l ∷ steps_of lines ends
step-none l lines [] no_end = refl
step-none l lines (e ∷ ends) no_end = ap (λ b. if b then ended l e ∷ steps_of lines ends else bare l ∷ steps_of lines (e ∷ ends)) no_end

pub step-some : (l : ScriptLine) (lines : List ScriptLine) (e : DeviceEnd) (ends : List DeviceEnd) → opens l ≡ true → steps_of (l ∷ lines) (e ∷ ends) ≡ ended l e ∷ steps_of lines ends
step-some l lines e ends has_end = ap (λ b. if b then ended l e ∷ steps_of lines ends else bare l ∷ steps_of lines (e ∷ ends)) has_end

connect-none : (l : ScriptLine) (lines : List ScriptLine) → opens l ≡ false → connecting (l ∷ lines) ≡ connecting lines
connect-none l lines no_end = (let q = ap (λ b. (if b then 1 else 0) + connecting lines) no_end in omega (arith, q))

connect-some : (l : ScriptLine) (lines : List ScriptLine) → opens l ≡ true → connecting (l ∷ lines) ≡ connecting lines + 1
connect-some l lines has_end = (let q = ap (λ b. (if b then 1 else 0) + connecting lines) has_end in omega (arith, q))

-- ends beyond those of the lines change nothing
pub steps-front : (lines : List ScriptLine) (ends more : List DeviceEnd) → connecting lines ≤ length ends → steps_of lines (ends ++ more) ≡ steps_of lines ends
steps-front [] ends more few = refl
steps-front (l ∷ lines) ends more few = elim (cases_Bool (opens l)) as (λ _. steps_of (l ∷ lines) (ends ++ more) ≡ steps_of (l ∷ lines) ends) [
  | inl has_end ↦ some has_end (λ rest low. steps-front lines rest more low) ends few
  | inr no_end ↦ step-none l lines (ends ++ more) no_end ∙ (ap (λ s. bare l ∷ s) (steps-front lines ends more (omega (arith, few, connect-none l lines no_end))) ∙ sym (step-none l lines ends no_end))
]
  where
    some : opens l ≡ true → ((rest : List DeviceEnd) → connecting lines ≤ length rest → steps_of lines (rest ++ more) ≡ steps_of lines rest) → (ends : List DeviceEnd) → connecting (l ∷ lines) ≤ length ends
        → steps_of (l ∷ lines) (ends ++ more) ≡ steps_of (l ∷ lines) ends
    some has_end later [] low = absurd (omega (arith, low, connect-some l lines has_end))
    some has_end later (e ∷ rest) low =
        step-some l lines e (rest ++ more) has_end ∙ (ap (λ s. ended l e ∷ s) (later rest (omega (arith, low, connect-some l lines has_end))) ∙ sym (step-some l lines e rest has_end))

-- the steps of lines and then more
pub steps-append : (lines more : List ScriptLine) (ends later : List DeviceEnd) → connecting lines ≡ length ends → steps_of (lines ++ more) (ends ++ later) ≡ steps_of lines ends ++ steps_of more later
steps-append [] more [] later count = refl
steps-append [] more (e ∷ ends) later count = absurd (omega (arith, count))
steps-append (l ∷ lines) more ends later count = elim (cases_Bool (opens l)) as (λ _. steps_of (l ∷ (lines ++ more)) (ends ++ later) ≡ steps_of (l ∷ lines) ends ++ steps_of more later) [
  | inl has_end ↦ some has_end (λ rest is. steps-append lines more rest later is) ends count
  | inr no_end ↦ step-none l (lines ++ more) (ends ++ later) no_end
      ∙ (ap (λ s. bare l ∷ s) (steps-append lines more ends later (omega (arith, count, connect-none l lines no_end))) ∙ sym (ap (λ s. s ++ steps_of more later) (step-none l lines ends no_end)))
]
  where
    some : opens l ≡ true → ((rest : List DeviceEnd) → connecting lines ≡ length rest → steps_of (lines ++ more) (rest ++ later) ≡ steps_of lines rest ++ steps_of more later) → (ends : List DeviceEnd)
        → connecting (l ∷ lines) ≡ length ends → steps_of (l ∷ (lines ++ more)) (ends ++ later) ≡ steps_of (l ∷ lines) ends ++ steps_of more later
    some has_end next [] is = absurd (omega (arith, is, connect-some l lines has_end))
    some has_end next (e ∷ rest) is =
        step-some l (lines ++ more) e (rest ++ later) has_end
        ∙ (ap (λ s. ended l e ∷ s) (next rest (omega (arith, is, connect-some l lines has_end))) ∙ sym (ap (λ s. s ++ steps_of more later) (step-some l lines e rest has_end)))

-- What the lines say of a device, one line more that doesn't connect, and one that does.

pub history-line : (x : Device) (lines : List ScriptLine) (ends : List DeviceEnd) (l : ScriptLine) → connecting lines ≡ length ends → is_some (opening_of l) ≡ false
    → history_of x (steps_of (lines ++ l ∷ []) ends) ≡ after_line x (history_of x (steps_of lines ends)) None l
history-line x lines ends l count no_end =
    let steps : steps_of (lines ++ l ∷ []) ends ≡ steps_of lines ends ++ bare l ∷ [] = ap (steps_of (lines ++ l ∷ [])) (sym (append-nil ends)) ∙ steps-append lines (l ∷ []) ends [] count in
    ap (history_of x) steps ∙ fold_push (after_step x) before_all (steps_of lines ends) (bare l)

pub history-opens : (x : Device) (lines : List ScriptLine) (ends : List DeviceEnd) (l : ScriptLine) (e : DeviceEnd) → connecting lines ≡ length ends → is_some (opening_of l) ≡ true
    → history_of x (steps_of (lines ++ l ∷ []) (ends ++ e ∷ [])) ≡ after_line x (history_of x (steps_of lines ends)) (Some e) l
history-opens x lines ends l e count has_end =
    let steps : steps_of (lines ++ l ∷ []) (ends ++ e ∷ []) ≡ steps_of lines ends ++ ended l e ∷ [] = steps-append lines (l ∷ []) ends (e ∷ []) count ∙ ap (λ s. steps_of lines ends ++ s) (step-some l [] e [] has_end) in
    ap (history_of x) steps ∙ fold_push (after_step x) before_all (steps_of lines ends) (ended l e)
