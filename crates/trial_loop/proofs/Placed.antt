-- A line that opens a connection has the IMEI of a device.
use Rattle.std.proofs.Common.{◌≡◌, ◌⊎◌, ◌==◌, ◌||◌, inl, inr, ℕ, suc, Bool, true, false, List, [], ◌∷◌, ◌++◌, drop, fold, take, Option, Some, None, is_some, option_map, refl, sym, ◌∙◌, ap, subst, if◌then◌else◌}
use Rattle.std.specs.List.{filter_map}
use Rattle.std.proofs.lemmas.Bool.{true≢false}
use Rattle.journey_script.specs.Laws.{is_device}
use Rattle.journey_script.specs.Later.{Enrolled, enrolled_after, enrolled_in, later_fault, of_device, unless_enrolled, with_closed, with_setting}
use Rattle.journey_script.specs.declared.fault.ScriptFault.{ScriptFault}
use Rattle.journey_script.specs.declared.fault.ScriptFault.TheVariants.{NoDevice}
use Rattle.journey_script.proofs.ScriptLaws.{script_laws}
use Rattle.trial_model.specs.declared.script.ScriptLine.{ScriptLine}
use Rattle.trial_model.specs.declared.script.ScriptLine.TheVariants as Line
use Rattle.trial_model.specs.declared.script.Who.TheVariants as Who
use Rattle.trial_model.specs.Script.{Device, Opening, Script, device_on, devices_of, lines_of, opening_of}
use Rattle.trial_device.specs.Sides.{Side}
use Rattle.trial_play.proofs.Places.{some-same}
use Rattle.trial_loop.specs.Loops.{IsNext, LoopState}
use Rattle.trial_loop.specs.Places.{HasNone}
use Rattle.trial_loop.proofs.OneSides.{AreSidesOf, are, split-at}

-- what changes an entry keeps that there is one
same-some : (who imei : ℕ) (change : Enrolled → Enrolled) (before : Option Enrolled) → is_some (of_device who change imei before) ≡ is_some before
same-some who imei change before = by (who == imei) before
  where
    by : (b : Bool) (o : Option Enrolled) → is_some (if b then option_map change o else o) ≡ is_some o
    by true None = refl
    by true (Some e) = refl
    by false o = refl

module _ (imei : ℕ) (all : List ScriptLine) where
  abbrev Among : Option Enrolled → List ScriptLine → Type 0
  Among before ls = (is_some before ≡ true) ⊎ (is_device imei (filter_map (device_on all) ls) ≡ true)

  keeps : (before after : Option Enrolled) (ls : List ScriptLine) → is_some after ≡ is_some before → Among after ls → Among before ls
  keeps before after ls same (inl there) = inl (sym same ∙ there)
  keeps before after ls same (inr device) = inr device

  among : (ls : List ScriptLine) (before : Option Enrolled) → is_some (fold (enrolled_after imei) before ls) ≡ true → Among before ls
  among [] before there = inl there
  among (Line.Device who codec slots order period distance angle speed known ∷ ls) before there =
      by (who == imei) before (among ls (if who == imei then Some (record { codec = codec; settings = []; closed = false }) else before) there)
    where
      by : (b : Bool) (before : Option Enrolled) → Among (if b then Some (record { codec = codec; settings = []; closed = false }) else before) ls → (is_some before ≡ true) ⊎ ((b || is_device imei (filter_map (device_on all) ls)) ≡ true)
      by true before more = inr refl
      by false before (inl this) = inl this
      by false before (inr device) = inr device
  among (Line.Setting who setting ∷ ls) before there = keeps before (enrolled_after imei before (Line.Setting who setting)) ls (same-some who imei (with_setting setting) before) (among ls (enrolled_after imei before (Line.Setting who setting)) there)
  among (Line.Fix who fix ∷ ls) before there = keeps before (enrolled_after imei before (Line.Fix who fix)) ls (same-some who imei with_closed before) (among ls (enrolled_after imei before (Line.Fix who fix)) there)
  among (Line.Round who piece up down ∷ ls) before there = keeps before (enrolled_after imei before (Line.Round who piece up down)) ls (same-some who imei with_closed before) (among ls (enrolled_after imei before (Line.Round who piece up down)) there)
  among (Line.Drain who piece ∷ ls) before there = keeps before (enrolled_after imei before (Line.Drain who piece)) ls (same-some who imei with_closed before) (among ls (enrolled_after imei before (Line.Drain who piece)) there)
  among (Line.Late connection bytes ∷ ls) before there = among ls before there
  among (Line.Close connection ∷ ls) before there = among ls before there
  among (Line.Power (Who.Device who) ∷ ls) before there = keeps before (enrolled_after imei before (Line.Power (Who.Device who))) ls (same-some who imei with_closed before) (among ls (enrolled_after imei before (Line.Power (Who.Device who))) there)
  among (Line.Power Who.Server ∷ ls) before there = among ls before there
  among (Line.Fuse (Who.Device who) calls tear ∷ ls) before there = keeps before (enrolled_after imei before (Line.Fuse (Who.Device who) calls tear)) ls (same-some who imei with_closed before) (among ls (enrolled_after imei before (Line.Fuse (Who.Device who) calls tear)) there)
  among (Line.Fuse Who.Server calls tear ∷ ls) before there = among ls before there

  enrolled-device : (ls : List ScriptLine) → is_some (enrolled_in ls imei) ≡ true → is_device imei (filter_map (device_on all) ls) ≡ true
  enrolled-device ls there = elim (among ls None there) as (λ _. is_device imei (filter_map (device_on all) ls) ≡ true) [
    | inl none ↦ absurd (true≢false (sym none))
    | inr device ↦ device
  ]

  or-more : (a b c : Bool) → (b ≡ true → c ≡ true) → (a || b) ≡ true → (a || c) ≡ true
  or-more true b c so this = refl
  or-more false b c so this = so this

  front-device : (ls more : List ScriptLine) → is_device imei (filter_map (device_on all) ls) ≡ true → is_device imei (filter_map (device_on all) (ls ++ more)) ≡ true
  front-device [] more this = absurd (true≢false (sym this))
  front-device (Line.Device who codec slots order period distance angle speed known ∷ ls) more this =
      or-more (who == imei) (is_device imei (filter_map (device_on all) ls)) (is_device imei (filter_map (device_on all) (ls ++ more))) (front-device ls more) this
  front-device (Line.Setting who setting ∷ ls) more this = front-device ls more this
  front-device (Line.Fix who fix ∷ ls) more this = front-device ls more this
  front-device (Line.Round who piece up down ∷ ls) more this = front-device ls more this
  front-device (Line.Drain who piece ∷ ls) more this = front-device ls more this
  front-device (Line.Late connection bytes ∷ ls) more this = front-device ls more this
  front-device (Line.Close connection ∷ ls) more this = front-device ls more this
  front-device (Line.Power who ∷ ls) more this = front-device ls more this
  front-device (Line.Fuse who calls tear ∷ ls) more this = front-device ls more this

some-by : (o : Option Enrolled) (next : Enrolled → Option ScriptFault) → unless_enrolled o next ≡ None → is_some o ≡ true
some-by None next h = absurd (let e : Some NoDevice ≡ None = h in cc)
some-by (Some e) next h = refl

opens-enrolled : (before : List ScriptLine) (l : ScriptLine) (o : Opening) → opening_of l ≡ Some o → later_fault before l ≡ None → is_some (enrolled_in before o.imei) ≡ true
unfolding later_fault
opens-enrolled before (Line.Device imei codec slots order period distance angle speed known) o is h = absurd (let e : ◌≡◌ {A = Option Opening} None (Some o) = is in cc)
opens-enrolled before (Line.Setting imei setting) o is h = absurd (let e : ◌≡◌ {A = Option Opening} None (Some o) = is in cc)
opens-enrolled before (Line.Fix imei fix) o is h = absurd (let e : ◌≡◌ {A = Option Opening} None (Some o) = is in cc)
opens-enrolled before (Line.Round imei piece up down) o is h =
    let number : imei ≡ o.imei = ap (λ (p : Opening). p.imei) (some-same (record { imei = imei; drains = false; up = up; down = down }) o is) in
    subst (λ (i : ℕ). is_some (enrolled_in before i) ≡ true) number (some-by (enrolled_in before imei) _ h)
opens-enrolled before (Line.Drain imei piece) o is h =
    let number : imei ≡ o.imei = ap (λ (p : Opening). p.imei) (some-same (record { imei = imei; drains = true; up = None; down = None }) o is) in
    subst (λ (i : ℕ). is_some (enrolled_in before i) ≡ true) number (some-by (enrolled_in before imei) _ h)
opens-enrolled before (Line.Late connection bytes) o is h = absurd (let e : ◌≡◌ {A = Option Opening} None (Some o) = is in cc)
opens-enrolled before (Line.Close connection) o is h = absurd (let e : ◌≡◌ {A = Option Opening} None (Some o) = is in cc)
opens-enrolled before (Line.Power who) o is h = absurd (let e : ◌≡◌ {A = Option Opening} None (Some o) = is in cc)
opens-enrolled before (Line.Fuse who calls tear) o is h = absurd (let e : ◌≡◌ {A = Option Opening} None (Some o) = is in cc)

none-device : (imei : ℕ) (devices : List Device) (sides : List Side) → AreSidesOf devices sides → HasNone imei sides → is_device imei devices ≡ false
none-device imei [] [] s none = refl
none-device imei [] (d ∷ ds) s none = refl
none-device imei (x ∷ xs) [] s none = absurd s
none-device imei (x ∷ xs) (d ∷ ds) s none =
    ap (λ b. b || is_device imei xs) (ap (λ (y : Device). y.imei == imei) (sym s.0) ∙ none 0 d refl) ∙ none-device imei xs ds s.1 (λ n v at. none (suc n) v at)

pub opens-placed : (script : Script) (n : ℕ) (l : ScriptLine) (s : LoopState) (o : Opening) → IsNext script n l s → opening_of l ≡ Some o → HasNone o.imei s.trial.sides → ⊥
opens-placed script n l s o next opens none =
    let lines = lines_of script in
    let split = split-at lines n l next.is in
    let laws = script_laws script next.is_script in
    let enrolled = opens-enrolled (take n lines) l o opens (laws.sound (take n lines) (drop (suc n) lines) l split) in
    let here = enrolled-device o.imei lines (take n lines) enrolled in
    let all : is_device o.imei (devices_of lines) ≡ true = subst (λ (ls : List ScriptLine). is_device o.imei (filter_map (device_on lines) ls) ≡ true) (sym split) (front-device o.imei lines (take n lines) (l ∷ drop (suc n) lines) here) in
    true≢false (sym all ∙ none-device o.imei (devices_of lines) s.trial.sides (are script n l s next) none)
