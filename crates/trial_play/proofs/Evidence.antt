-- Where records of the accounts come from: what was delivered was decided, what was heard is archived, and each in a log.
use Rattle.std.proofs.Common.{◌≡◌, inl, inr, ℕ, zero, suc, ◌==◌, Bool, true, false, List, [], ◌∷◌, ◌++◌, length, slice_get, Some, if◌then◌else◌, refl, sym, ap, subst, arith, eq-eqb, eqb-true}
use Rattle.std.specs.List.{All, Any, Contains}
use Rattle.std.proofs.lemmas.List.Elements.{All-append, All-cons, All-head, All-nil, All-tail, Contains-append_cases}
use Rattle.avl_values.specs.Record.{Record}
use Rattle.trial_model.specs.declared.outcome.ConnectionOutcome.{ConnectionOutcome}
use Rattle.trial_model.specs.declared.outcome.DeviceEnd.{DeviceEnd}
use Rattle.trial_model.specs.declared.outcome.DeviceEnd.TheVariants as End
use Rattle.trial_model.specs.Connections.{ConnectionHistory, up_to}
use Rattle.trial_model.specs.Delivery.{delivered_of}
use Rattle.trial_model.specs.Frames.{Frame, frames_of, frames_within, records_in}
use Rattle.trial_model.specs.Logs.{IsSent}
use Rattle.trial_model.specs.RecordLists.{AreIn}
use Rattle.trial_server.proofs.Containing.{in-itself, in-left, in-right, in-then}
use Rattle.trial_wire.proofs.Filters.{within-first}
use Rattle.trial_wire.proofs.Logs.{records-take}
use Rattle.trial_play.specs.Trials.{given_in, records_by}
use Rattle.trial_play.proofs.Given.{both-in}
use Rattle.trial_play.proofs.Places.{none-some, some-same}
use Rattle.trial_play.proofs.Whole.{no-frames}

-- Records of frames, and frames of records.

pub frames-in : (others : List Record) (fs : List Frame) → All (λ f. AreIn others f.records) fs → AreIn others (records_in fs)
frames-in others [] all = All-nil (Contains others)
frames-in others (f ∷ fs) all =
    All-append (Contains others) f.records (records_in fs) (All-head (λ (x : Frame). AreIn others x.records) f fs all) (frames-in others fs (All-tail (λ (x : Frame). AreIn others x.records) f fs all))

pub in-frames : (others : List Record) (fs : List Frame) → AreIn others (records_in fs) → All (λ f. AreIn others f.records) fs
in-frames others [] all = All-nil (λ (f : Frame). AreIn others f.records)
in-frames others (f ∷ fs) all = All-cons (λ (x : Frame). AreIn others x.records) f fs (first others f.records (records_in fs) all) (in-frames others fs (second others f.records (records_in fs) all))
  where
    first : (os xs ys : List Record) → AreIn os (xs ++ ys) → AreIn os xs
    first os xs ys h = in-then os (xs ++ ys) xs h (in-left xs ys xs (in-itself xs))

    second : (os xs ys : List Record) → AreIn os (xs ++ ys) → AreIn os ys
    second os xs ys h = in-then os (xs ++ ys) ys h (in-right xs ys ys (in-itself ys))

-- all that was sent was decided before
pub sent-decided : (end : DeviceEnd) (earlier : List Record) (c : ConnectionOutcome) → IsSent end earlier c → AreIn earlier (records_in (frames_of c.up))
sent-decided (End.Done n) earlier c sent = frames-in earlier (frames_of c.up) sent.decided
sent-decided End.Empty earlier c sent = subst (λ fs. AreIn earlier (records_in fs)) (sym (no-frames c.up sent)) (All-nil (Contains earlier))
sent-decided End.Refused earlier c sent = frames-in earlier (frames_of c.up) sent.decided
sent-decided End.Broken earlier c sent = frames-in earlier (frames_of c.up) sent.decided
sent-decided (End.WrongAnswer got) earlier c sent = frames-in earlier (frames_of c.up) sent.decided
sent-decided End.TooManyCommands earlier c sent = frames-in earlier (frames_of c.up) sent.decided
sent-decided End.MediumFault earlier c sent = frames-in earlier (frames_of c.up) sent.decided

within-all : (n : ℕ) (up : List ℕ) → AreIn (records_in (frames_of up)) (records_in (frames_within n up))
within-all n up = subst (λ fs. AreIn (records_in (frames_of up)) (records_in fs)) (sym (within-first up n)) (records-take (length (frames_within n up)) (frames_of up))

-- what is given of a device was sent in its own frames
pub given-of : (others : List Record) (imei : ℕ) (hs : List ConnectionHistory) (logs : List ConnectionOutcome)
    → ((n : ℕ) (h : ConnectionHistory) (c : ConnectionOutcome) → slice_get hs n ≡ Some h → slice_get logs n ≡ Some c → c.imei ≡ imei → AreIn others (records_in (frames_of c.up))) → AreIn others (given_in hs logs imei)
given-of others imei [] logs each = All-nil (Contains others)
given-of others imei (h ∷ hs) [] each = All-nil (Contains others)
given-of others imei (h ∷ hs) (c ∷ logs) each =
    All-append (Contains others) (if c.imei == imei then records_in (frames_within (up_to h.allowed (length c.up)) c.up) else []) (given_in hs logs imei) (split (c.imei == imei) refl)
    (given-of others imei hs logs (λ n k d at_k at_d. each (suc n) k d at_k at_d))
  where
    split : (b : Bool) → (c.imei == imei) ≡ b → AreIn others (if b then records_in (frames_within (up_to h.allowed (length c.up)) c.up) else [])
    split true own = in-then others (records_in (frames_of c.up)) (records_in (frames_within (up_to h.allowed (length c.up)) c.up)) (each 0 h c refl refl (eqb-true c.imei imei own)) (within-all (up_to h.allowed (length c.up)) c.up)
    split false other = All-nil (Contains others)

-- by what was delivered
pub given-delivered : (imei : ℕ) (hs : List ConnectionHistory) (logs : List ConnectionOutcome) → length logs ≡ length hs
    → ((n : ℕ) (h : ConnectionHistory) (c : ConnectionOutcome) → slice_get hs n ≡ Some h → slice_get logs n ≡ Some c → c.up_given ≡ up_to h.allowed (length c.up)) → given_in hs logs imei ≡ records_by delivered_of logs imei
given-delivered imei [] [] same each = refl
given-delivered imei [] (c ∷ logs) same each = absurd (omega (arith, same))
given-delivered imei (h ∷ hs) [] same each = absurd (omega (arith, same))
given-delivered imei (h ∷ hs) (c ∷ logs) same each =
    ap (λ (z : ℕ × List Record). (if c.imei == imei then records_in (frames_within z.0 c.up) else []) ++ z.1)
    (λ i. (sym (each 0 h c refl refl) i, given-delivered imei hs logs (omega (arith, same)) (λ n k d at_k at_d. each (suc n) k d at_k at_d) i))

-- A record of an account is in a log of its device.

any-later : {A : Type 0} (P : A → Type 0) (x : A) (xs : List A) → Any P xs → Any P (x ∷ xs)
any-later P x xs a = (suc a.0, a.1, omega (arith, a.2), a.3, a.4)

any-first : {A : Type 0} (P : A → Type 0) (x : A) (xs : List A) → P x → Any P (x ∷ xs)
any-first P x xs p = (0, x, omega arith, refl, p)

pub records-any : (frames : ConnectionOutcome → List Frame) (imei : ℕ) (logs : List ConnectionOutcome) (r : Record) → Contains (records_by frames logs imei) r → Any (λ c. (c.imei ≡ imei) × Contains (records_in (frames c)) r) logs
records-any frames imei [] r has = absurd (omega (arith, has.1))
records-any frames imei (c ∷ logs) r has =
    elim (Contains-append_cases (if c.imei == imei then records_in (frames c) else []) (records_by frames logs imei) r has) as (λ _. Any (λ d. (d.imei ≡ imei) × Contains (records_in (frames d)) r) (c ∷ logs)) [
      | inl here ↦ split (c.imei == imei) refl here
      | inr later ↦ any-later (λ d. (d.imei ≡ imei) × Contains (records_in (frames d)) r) c logs (records-any frames imei logs r later)
    ]
  where
    split : (b : Bool) → (c.imei == imei) ≡ b → Contains (if b then records_in (frames c) else []) r → Any (λ d. (d.imei ≡ imei) × Contains (records_in (frames d)) r) (c ∷ logs)
    split true own here = any-first (λ d. (d.imei ≡ imei) × Contains (records_in (frames d)) r) c logs (eqb-true c.imei imei own, here)
    split false other here = absurd (omega (arith, here.1))

-- what one account has of each log the other has
pub records-less : (frames more : ConnectionOutcome → List Frame) (imei : ℕ) (logs : List ConnectionOutcome) → ((n : ℕ) (c : ConnectionOutcome) → slice_get logs n ≡ Some c → AreIn (records_in (more c)) (records_in (frames c)))
    → AreIn (records_by more logs imei) (records_by frames logs imei)
records-less frames more imei [] each = in-itself []
records-less frames more imei (c ∷ logs) each =
    both-in (if c.imei == imei then records_in (more c) else []) (records_by more logs imei) (if c.imei == imei then records_in (frames c) else []) (records_by frames logs imei) (split (c.imei == imei))
    (records-less frames more imei logs (λ n d at. each (suc n) d at))
  where
    split : (b : Bool) → AreIn (if b then records_in (more c) else []) (if b then records_in (frames c) else [])
    split true = each 0 c refl
    split false = in-itself []

-- what an account has of one log
pub records-at : (frames : ConnectionOutcome → List Frame) (logs : List ConnectionOutcome) (n : ℕ) (c : ConnectionOutcome) → slice_get logs n ≡ Some c → AreIn (records_by frames logs c.imei) (records_in (frames c))
records-at frames [] n c at = absurd (none-some c at)
records-at frames (d ∷ logs) zero c at =
    subst (λ (z : ConnectionOutcome). AreIn (records_by frames (z ∷ logs) c.imei) (records_in (frames c))) (sym (some-same d c at))
    (in-left (if c.imei == c.imei then records_in (frames c) else []) (records_by frames logs c.imei) (records_in (frames c))
    (subst (λ b. AreIn (if b then records_in (frames c) else []) (records_in (frames c))) (sym (eq-eqb c.imei c.imei refl)) (in-itself (records_in (frames c)))))
records-at frames (d ∷ logs) (suc n) c at =
    in-right (if d.imei == c.imei then records_in (frames d) else []) (records_by frames logs c.imei) (records_in (frames c)) (records-at frames logs n c at)
