-- One device's side goes on, by the place at which it is found; and what is true of it before its line.
use Rattle.std.proofs.Common.{◌≡◌, ◌≤◌, ◌==◌, ◌||◌, ◌^◌, ◌+◌, ◌⊎◌, inl, inr, ℕ, zero, suc, Bool, true, false, List, [], ◌∷◌, ◌++◌, drop, length, set, slice_get, take, Option, Some, None, refl, sym, ◌∙◌, ap, subst, arith, eqb-true, lit≤}
use Rattle.std.specs.List.{AllByRecursion, AllZip, filter_map}
use Rattle.std.proofs.lemmas.Bool.{true≢false}
use Rattle.acquisition.specs.Checking.{setting_fault}
use Rattle.acquisition.specs.Deciding.{decided}
use Rattle.acquisition.specs.Elements.{ValuesFit}
use Rattle.acquisition.specs.declared.fix.Fix.{Fix}
use Rattle.flash_ring.specs.Ring.{IsDurable}
use Rattle.medium_model.specs.CallsLeft.{unlimited}
use Rattle.journey_script.specs.Laws.{AreDistinct, HasLaws, is_device}
use Rattle.journey_script.proofs.ScriptLaws.{script_laws}
use Rattle.journey_script.proofs.SlotLaws.{slot_laws, values_fit}
use Rattle.trial_model.specs.declared.script.ScriptLine.{ScriptLine}
use Rattle.trial_model.specs.declared.script.ScriptLine.TheVariants as Line
use Rattle.trial_model.specs.Decisions.{DeviceHistory}
use Rattle.trial_model.specs.Kept.{ends_of}
use Rattle.trial_model.specs.Script.{Device, Script, device_on, devices_of, lines_of, setting_on, settings_of}
use Rattle.trial_device.specs.Sides.{IsSideSound, Side}
use Rattle.trial_server.specs.Archives.{Account}
use Rattle.trial_play.specs.Plays.{OneSide}
use Rattle.trial_play.specs.Trials.{AreSidesSound, heard_in, history_in, logs_of}
use Rattle.trial_loop.specs.Loops.{IsNext, LoopState}
use Rattle.trial_loop.specs.Places.{HasNone, IsPlaceOf}
use Rattle.trial_loop.proofs.Bounds.{decided_few, history_short}

-- each side is its device's, in order
abbrev pub AreSidesOf : List Device → List Side → Type 0
AreSidesOf devices sides = AllZip (λ (x : Device) (d : Side). d.device ≡ x) devices sides

sides-of : (heard : Account) (history : Device → DeviceHistory) (devices : List Device) (sides : List Side) → AreSidesSound heard history devices sides → AreSidesOf devices sides
sides-of heard history [] [] s = tt
sides-of heard history [] (d ∷ ds) s = absurd s
sides-of heard history (x ∷ xs) [] s = absurd s
sides-of heard history (x ∷ xs) (d ∷ ds) s = (s.0.0, sides-of heard history xs ds s.1)

or-false : (a b : Bool) → (a || b) ≡ false → (a ≡ false) × (b ≡ false)
or-false true b is = absurd (true≢false is)
or-false false b is = (refl, is)

or-true : (a b : Bool) → b ≡ true → (a || b) ≡ true
or-true true b is = refl
or-true false b is = is

-- none of these devices has the IMEI
one-others : (imei : ℕ) (R : Side → Side → Type 0) (devices : List Device) (sides : List Side) → AreSidesOf devices sides → is_device imei devices ≡ false → OneSide imei R devices sides sides
one-others imei R [] [] s none = tt
one-others imei R [] (d ∷ ds) s none = absurd s
one-others imei R (x ∷ xs) [] s none = absurd s
one-others imei R (x ∷ xs) (d ∷ ds) s none =
    let both = or-false (x.imei == imei) (is_device imei xs) none in
    (inr (both.0, refl), one-others imei R xs ds s.1 both.1)

-- a side's device is among them
device-there : (imei : ℕ) (devices : List Device) (sides : List Side) (place : ℕ) (d : Side) → AreSidesOf devices sides → slice_get sides place ≡ Some d → (d.device.imei == imei) ≡ true → is_device imei devices ≡ true
device-there imei [] [] place d s at has = absurd (let e : ◌≡◌ {A = Option Side} None (Some d) = at in cc)
device-there imei [] (v ∷ ds) place d s at has = absurd s
device-there imei (x ∷ xs) [] place d s at has = absurd s
device-there imei (x ∷ xs) (v ∷ ds) zero d s at has =
    let e : Some v ≡ Some d = at in
    let same : v ≡ d = cc in
    let is : (x.imei == imei) ≡ true = ap (λ (y : Device). y.imei == imei) (sym s.0 ∙ ap (λ (y : Side). y.device) same) ∙ has in
    ap (λ b. b || is_device imei xs) is
device-there imei (x ∷ xs) (v ∷ ds) (suc place) d s at has = or-true (x.imei == imei) (is_device imei xs) (device-there imei xs ds place d s.1 at has)

-- the side at this place goes on
one-at : (imei : ℕ) (R : Side → Side → Type 0) (devices : List Device) (sides : List Side) (place : ℕ) (d e : Side) → AreSidesOf devices sides → AreDistinct devices → slice_get sides place ≡ Some d
    → (d.device.imei == imei) ≡ true → R d e → OneSide imei R devices sides (set sides place e)
one-at imei R [] [] place d e s distinct at has r = absurd (let q : ◌≡◌ {A = Option Side} None (Some d) = at in cc)
one-at imei R [] (v ∷ ds) place d e s distinct at has r = absurd s
one-at imei R (x ∷ xs) [] place d e s distinct at has r = absurd s
one-at imei R (x ∷ xs) (v ∷ ds) zero d e s distinct at has r =
    let q : Some v ≡ Some d = at in
    let same : v ≡ d = cc in
    let is : (x.imei == imei) ≡ true = ap (λ (y : Device). y.imei == imei) (sym s.0 ∙ ap (λ (y : Side). y.device) same) ∙ has in
    let number : x.imei ≡ imei = eqb-true x.imei imei is in
    (inl (is, subst (λ (y : Side). R y e) (sym same) r), one-others imei R xs ds s.1 (subst (λ (n : ℕ). is_device n xs ≡ false) number distinct.0))
one-at imei R (x ∷ xs) (v ∷ ds) (suc place) d e s distinct at has r =
    (by (x.imei == imei) refl, one-at imei R xs ds place d e s.1 distinct.1 at has r)
  where
    by : (b : Bool) → (x.imei == imei) ≡ b → (((x.imei == imei) ≡ true) × R v v) ⊎ (((x.imei == imei) ≡ false) × (v ≡ v))
    by true is =
        let number : x.imei ≡ imei = eqb-true x.imei imei is in
        absurd (true≢false (sym (device-there imei xs ds place d s.1 at has) ∙ subst (λ (n : ℕ). is_device n xs ≡ false) number distinct.0))
    by false is = inr (is, refl)

one-none : (imei : ℕ) (R : Side → Side → Type 0) (devices : List Device) (sides : List Side) → AreSidesOf devices sides → HasNone imei sides → OneSide imei R devices sides sides
one-none imei R [] [] s none = tt
one-none imei R [] (d ∷ ds) s none = absurd s
one-none imei R (x ∷ xs) [] s none = absurd s
one-none imei R (x ∷ xs) (d ∷ ds) s none =
    (inr (ap (λ (y : Device). y.imei == imei) (sym s.0) ∙ none 0 d refl, refl), one-none imei R xs ds s.1 (λ n v at. none (suc n) v at))

-- a side that is sound, and its device
pub record IsSoundAt (heard : Account) (history : Device → DeviceHistory) (devices : List Device) (place : ℕ) (d : Side) : Type 0 where
  pub sound : IsSideSound (heard d.device.imei) (history d.device) d
  pub here : slice_get devices place ≡ Some d.device

sound-at : (heard : Account) (history : Device → DeviceHistory) (devices : List Device) (sides : List Side) (place : ℕ) (d : Side) → AreSidesSound heard history devices sides → slice_get sides place ≡ Some d → IsSoundAt heard history devices place d
sound-at heard history [] [] place d s at = absurd (let q : ◌≡◌ {A = Option Side} None (Some d) = at in cc)
sound-at heard history [] (v ∷ ds) place d s at = absurd s
sound-at heard history (x ∷ xs) [] place d s at = absurd s
sound-at heard history (x ∷ xs) (v ∷ ds) zero d s at =
    let q : Some v ≡ Some d = at in
    let same : v ≡ d = cc in
    let is : x ≡ d.device = sym s.0.0 ∙ ap (λ (y : Side). y.device) same in
    record {
      sound = subst (λ (z : Device × Side). IsSideSound (heard z.0.imei) (history z.0) z.1) (λ i. (is i, same i)) s.0.1;
      here = ap (λ (y : Device). Some y) is;
    }
sound-at heard history (x ∷ xs) (v ∷ ds) (suc place) d s at = let more = sound-at heard history xs ds place d s.1 at in record { sound = more.sound; here = more.here }

each-at : {A : Type 0} (P : A → Type 0) (xs : List A) (n : ℕ) (x : A) → AllByRecursion P xs → slice_get xs n ≡ Some x → P x
each-at {A = A} P [] n x all at = absurd (let q : ◌≡◌ {A = Option A} None (Some x) = at in cc)
each-at P (y ∷ ys) zero x all at = let q : Some y ≡ Some x = at in let same : y ≡ x = cc in subst P same all.0
each-at P (y ∷ ys) (suc n) x all at = each-at P ys n x all.1 at

-- a device has the settings of its lines
settings-of : (all lines : List ScriptLine) → AllByRecursion (λ (d : Device). d.settings ≡ filter_map (setting_on d.imei) all) (filter_map (device_on all) lines)
settings-of all [] = tt
settings-of all (Line.Device imei codec slots order period distance angle speed known ∷ lines) = (refl, settings-of all lines)
settings-of all (Line.Setting imei setting ∷ lines) = settings-of all lines
settings-of all (Line.Fix imei fix ∷ lines) = settings-of all lines
settings-of all (Line.Round imei piece up down ∷ lines) = settings-of all lines
settings-of all (Line.Drain imei piece ∷ lines) = settings-of all lines
settings-of all (Line.Late connection bytes ∷ lines) = settings-of all lines
settings-of all (Line.Close connection ∷ lines) = settings-of all lines
settings-of all (Line.Power who ∷ lines) = settings-of all lines
settings-of all (Line.Fuse who calls tear ∷ lines) = settings-of all lines

pub split-at : (lines : List ScriptLine) (n : ℕ) (l : ScriptLine) → slice_get lines n ≡ Some l → lines ≡ take n lines ++ l ∷ drop (suc n) lines
split-at [] n l at = absurd (let q : ◌≡◌ {A = Option ScriptLine} None (Some l) = at in cc)
split-at (x ∷ xs) zero l at = let q : Some x ≡ Some l = at in let same : x ≡ l = cc in ap (λ (y : ScriptLine). y ∷ xs) same
split-at (x ∷ xs) (suc n) l at = ap (λ (ys : List ScriptLine). x ∷ ys) (split-at xs n l at)

-- a fix that a side can take
pub record CanFix (fix : Fix) (d : Side) : Type 0 where
  pub values : ValuesFit d.device.settings fix.values.items
  pub durable : IsDurable d.ring
  pub idle : d.ring.medium.left ≡ unlimited
  pub short : d.ring.next + length (decided (settings_of d.device) d.watching fix).records ≤ 2 ^ 63

-- a side that can connect
pub record CanConnect (d : Side) : Type 0 where
  pub durable : IsDurable d.ring
  pub idle : d.ring.medium.left ≡ unlimited
  pub few : length d.ring.slots ≤ 4096

module _ (script : Script) (n : ℕ) (line : ScriptLine) (s : LoopState) (next : IsNext script n line s) where
  abbrev devices : List Device
  devices = devices_of (lines_of script)

  laws : HasLaws (lines_of script)
  laws = script_laws script next.is_script

  pub are : AreSidesOf devices s.trial.sides
  are = sides-of (heard_in (logs_of s.trial.connections)) (history_in (take n (lines_of script)) (logs_of s.trial.connections)) devices s.trial.sides next.sound.sides

  -- the side at the place that was found goes on
  pub plays-one : (imei : ℕ) (R : Side → Side → Type 0) (place : ℕ) (d e : Side) → IsPlaceOf imei s.trial.sides place → slice_get s.trial.sides place ≡ Some d → R d e → OneSide imei R devices s.trial.sides (set s.trial.sides place e)
  plays-one imei R place d e found at r =
      let here : Some found.side ≡ Some d = sym found.here ∙ at in
      let same : found.side ≡ d = cc in
      one-at imei R devices s.trial.sides place d e are laws.distinct at (ap (λ (y : Side). y.device.imei == imei) (sym same) ∙ found.has) r

  -- and where none was found, all stay
  pub plays-none : (imei : ℕ) (R : Side → Side → Type 0) → HasNone imei s.trial.sides → OneSide imei R devices s.trial.sides s.trial.sides
  plays-none imei R none = one-none imei R devices s.trial.sides are none

  module _ (place : ℕ) (d : Side) (at : slice_get s.trial.sides place ≡ Some d) where
    pub here : IsSoundAt (heard_in (logs_of s.trial.connections)) (history_in (take n (lines_of script)) (logs_of s.trial.connections)) devices place d
    here = sound-at (heard_in (logs_of s.trial.connections)) (history_in (take n (lines_of script)) (logs_of s.trial.connections)) devices s.trial.sides place d next.sound.sides at

    checked : setting_fault d.device.codec d.device.settings ≡ None
    checked = each-at (λ (x : Device). setting_fault x.codec x.settings ≡ None) devices place d.device laws.settings here.here

    pub can-connect : CanConnect d
    can-connect = record {
      durable = here.sound.durable;
      idle = here.sound.idle;
      few = let most = each-at (λ (x : Device). (1 ≤ x.slots) × (x.slots ≤ 4096)) devices place d.device (slot_laws script next.is_script) here.here in omega (arith, most.1, here.sound.slots);
    }

    pub can-fix : (imei : ℕ) (fix : Fix) → line ≡ Line.Fix imei fix → (d.device.imei == imei) ≡ true → CanFix fix d
    can-fix imei fix is has =
        let number : d.device.imei ≡ imei = eqb-true d.device.imei imei has in
        let own : d.device.settings ≡ filter_map (setting_on d.device.imei) (lines_of script) = each-at (λ (x : Device). x.settings ≡ filter_map (setting_on x.imei) (lines_of script)) devices place d.device (settings-of (lines_of script) (lines_of script)) here.here in
        let settings : d.device.settings ≡ filter_map (setting_on imei) (lines_of script) = own ∙ ap (λ (i : ℕ). filter_map (setting_on i) (lines_of script)) number in
        let split : lines_of script ≡ take n (lines_of script) ++ Line.Fix imei fix ∷ drop (suc n) (lines_of script) = split-at (lines_of script) n line next.is ∙ ap (λ (l : ScriptLine). take n (lines_of script) ++ l ∷ drop (suc n) (lines_of script)) is in
        let fit = values_fit (filter_map (setting_on imei) (lines_of script)) fix.values.items (laws.values (take n (lines_of script)) (drop (suc n) (lines_of script)) imei fix split) in
        record {
          values = subst (λ ss. ValuesFit ss fix.values.items) (sym settings) fit;
          durable = here.sound.durable;
          idle = here.sound.idle;
          short = let low : 2 ^ 30 + 33 ≤ 2 ^ 63 = lit≤ tt in omega (arith, low, here.sound.next, history_short script n (ends_of (logs_of s.trial.connections)) d.device next.is_script checked, decided_few d.device d.watching fix checked);
        }
