-- The fuse that waits at a device's side is the one that its lines tell.
use Rattle.std.proofs.Common.{◌≡◌, ◌==◌, ◌||◌, ℕ, Bool, true, false, List, [], ◌∷◌, fold, Option, Some, None, is_some, refl, sym, ◌∙◌, ap, subst, eq-eqb, if◌then◌else◌}
use Rattle.acquisition.specs.Watching.{powered_up}
use Rattle.trial_model.specs.declared.outcome.DeviceEnd.{DeviceEnd}
use Rattle.trial_model.specs.declared.script.ScriptLine.{ScriptLine}
use Rattle.trial_model.specs.declared.script.ScriptLine.TheVariants as Line
use Rattle.trial_model.specs.declared.script.Who.{Who}
use Rattle.trial_model.specs.Cover.{cover_on, fuse_after, fuse_of, is_who, unless_used}
use Rattle.trial_model.specs.Decisions.{DeviceHistory, after_connection, after_fix, after_line, after_step, before_all, history_of, steps_of}
use Rattle.trial_model.specs.Script.{Device, Opening, opening_of}
use Rattle.trial_play.proofs.Places.{eqb-flip, some-same}

flip : (a b : ℕ) → (a == b) ≡ (b == a)
flip a b = by (a == b) refl (b == a) refl
  where
    by : (x : Bool) → (a == b) ≡ x → (y : Bool) → (b == a) ≡ y → (a == b) ≡ (b == a)
    by true p true q = p ∙ sym q
    by true p false q = absurd (let r : (a == b) ≡ false = eqb-flip b a q in let s : true ≡ false = sym p ∙ r in cc)
    by false p true q = absurd (let r : (b == a) ≡ false = eqb-flip a b p in let s : true ≡ false = sym q ∙ r in cc)
    by false p false q = p ∙ sym q

fuse-step : (d : Device) (h : DeviceHistory) (end : Option DeviceEnd) (l : ScriptLine) → (after_line d h end l).fuse ≡ fuse_after (Who.Device d.imei) h.fuse l
fuse-step d h end (Line.Device imei codec slots order period distance angle speed known) = refl
fuse-step d h end (Line.Setting imei setting) = refl
fuse-step d h end (Line.Fix imei fix) = by (imei == d.imei) ∙ ap (λ b. unless_used b h.fuse) (flip imei d.imei)
  where
    by : (b : Bool) → (if b then after_fix d h fix else h).fuse ≡ unless_used b h.fuse
    by true = refl
    by false = refl
fuse-step d h end (Line.Round imei piece up down) = by (imei == d.imei) ∙ ap (λ b. unless_used (b || false) h.fuse) (flip imei d.imei)
  where
    by : (b : Bool) → (if b then after_connection false end h else h).fuse ≡ unless_used (b || false) h.fuse
    by true = refl
    by false = refl
fuse-step d h end (Line.Drain imei piece) = by (imei == d.imei) ∙ ap (λ b. unless_used (b || false) h.fuse) (flip imei d.imei)
  where
    by : (b : Bool) → (if b then after_connection true end h else h).fuse ≡ unless_used (b || false) h.fuse
    by true = refl
    by false = refl
fuse-step d h end (Line.Late connection bytes) = refl
fuse-step d h end (Line.Close connection) = refl
fuse-step d h end (Line.Power who) = by (is_who (Who.Device d.imei) who)
  where
    by : (b : Bool) → (if b then record h { watching = powered_up; fuse = None } else h).fuse ≡ (if b then None else h.fuse)
    by true = refl
    by false = refl
fuse-step d h end (Line.Fuse who calls tear) = by (is_who (Who.Device d.imei) who)
  where
    by : (b : Bool) → (if b then record h { fuse = Some calls } else h).fuse ≡ (if b then Some calls else h.fuse)
    by true = refl
    by false = refl

fuse-steps : (d : Device) (h : DeviceHistory) (lines : List ScriptLine) (ends : List DeviceEnd) → (fold (after_step d) h (steps_of lines ends)).fuse ≡ fold (fuse_after (Who.Device d.imei)) h.fuse lines
fuse-steps d h [] ends = refl
fuse-steps d h (l ∷ lines) [] =
    fuse-steps d (after_line d h None l) lines [] ∙ ap (λ (f : Option ℕ). fold (fuse_after (Who.Device d.imei)) f lines) (fuse-step d h None l)
fuse-steps d h (l ∷ lines) (e ∷ ends) =
    by (is_some (opening_of l))
    (fuse-steps d (after_line d h (Some e) l) lines ends ∙ ap (λ (f : Option ℕ). fold (fuse_after (Who.Device d.imei)) f lines) (fuse-step d h (Some e) l))
    (fuse-steps d (after_line d h None l) lines (e ∷ ends) ∙ ap (λ (f : Option ℕ). fold (fuse_after (Who.Device d.imei)) f lines) (fuse-step d h None l))
  where
    by : (b : Bool) → (fold (after_step d) h (record { line = l; end = Some e } ∷ steps_of lines ends)).fuse ≡ fold (fuse_after (Who.Device d.imei)) (fuse_after (Who.Device d.imei) h.fuse l) lines → (fold (after_step d) h (record { line = l; end = None } ∷ steps_of lines (e ∷ ends))).fuse ≡ fold (fuse_after (Who.Device d.imei)) (fuse_after (Who.Device d.imei) h.fuse l) lines
        → (fold (after_step d) h (if b then record { line = l; end = Some e } ∷ steps_of lines ends else record { line = l; end = None } ∷ steps_of lines (e ∷ ends))).fuse ≡ fold (fuse_after (Who.Device d.imei)) (fuse_after (Who.Device d.imei) h.fuse l) lines
    by true with_end without = with_end
    by false with_end without = without

pub history-fuse : (d : Device) (lines : List ScriptLine) (ends : List DeviceEnd) → (history_of d (steps_of lines ends)).fuse ≡ fuse_of (Who.Device d.imei) lines
history-fuse d lines ends = fuse-steps d before_all lines ends

-- a line that opens a connection can be covered by its device's fuse
pub opening-covers : (l : ScriptLine) (o : Opening) (fuse : Option ℕ) → opening_of l ≡ Some o → cover_on (Who.Device o.imei) fuse l ≡ fuse
opening-covers (Line.Device imei codec slots order period distance angle speed known) o fuse is = absurd (let e : ◌≡◌ {A = Option Opening} None (Some o) = is in cc)
opening-covers (Line.Setting imei setting) o fuse is = absurd (let e : ◌≡◌ {A = Option Opening} None (Some o) = is in cc)
opening-covers (Line.Fix imei fix) o fuse is = absurd (let e : ◌≡◌ {A = Option Opening} None (Some o) = is in cc)
opening-covers (Line.Round imei piece up down) o fuse is =
    let number : imei ≡ o.imei = ap (λ (p : Opening). p.imei) (some-same (record { imei = imei; drains = false; up = up; down = down }) o is) in
    ap (λ b. if b then fuse else None) (subst (λ (n : ℕ). ((o.imei == n) || false) ≡ true) (sym number) (ap (λ b. b || false) (eq-eqb o.imei o.imei refl)))
opening-covers (Line.Drain imei piece) o fuse is =
    let number : imei ≡ o.imei = ap (λ (p : Opening). p.imei) (some-same (record { imei = imei; drains = true; up = None; down = None }) o is) in
    ap (λ b. if b then fuse else None) (subst (λ (n : ℕ). ((o.imei == n) || false) ≡ true) (sym number) (ap (λ b. b || false) (eq-eqb o.imei o.imei refl)))
opening-covers (Line.Late connection bytes) o fuse is = absurd (let e : ◌≡◌ {A = Option Opening} None (Some o) = is in cc)
opening-covers (Line.Close connection) o fuse is = absurd (let e : ◌≡◌ {A = Option Opening} None (Some o) = is in cc)
opening-covers (Line.Power who) o fuse is = absurd (let e : ◌≡◌ {A = Option Opening} None (Some o) = is in cc)
opening-covers (Line.Fuse who calls tear) o fuse is = absurd (let e : ◌≡◌ {A = Option Opening} None (Some o) = is in cc)
