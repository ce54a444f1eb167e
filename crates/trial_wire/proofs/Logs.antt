-- The log of a connection, as the session takes more and writes more.
use Rattle.std.proofs.Common.{◌≡◌, ◌≤◌, ◌<◌, ◌↔◌, ◌⊎◌, inl, inr, ℕ, ◌+◌, ◌-◌, ◌*◌, ◌/◌, min, Bool, true, false, Option, List, [], ◌∷◌, ◌++◌, length, take, drop, refl, sym, ◌∙◌, ap, subst, arith, if◌then◌else◌, length-append, length-take, length-take-le, take-take, take_all}
use Rattle.std.specs.List.{Contains}
use Rattle.std.proofs.lemmas.Bool.{cases_lt}
use Rattle.std.proofs.lemmas.Bool.Decides.{leb_tells}
use Rattle.std.proofs.lemmas.Grind.{flat_map-append}
use Rattle.std.proofs.lemmas.List.{take-append-drop, take-append-le}
use Rattle.std.proofs.lemmas.List.Elements.{All-nil}
use Rattle.std.proofs.Math.Seq.{take-append-add}
use Rattle.avl_values.specs.Record.{Record}
use Rattle.frame_layout.specs.Items.{count_bytes}
use Rattle.trial_model.specs.declared.outcome.ConnectionOutcome.{ConnectionOutcome}
use Rattle.trial_model.specs.declared.outcome.DeviceEnd.{DeviceEnd}
use Rattle.trial_model.specs.declared.outcome.DeviceEnd.TheVariants as End
use Rattle.trial_model.specs.declared.outcome.ServerEnd.{ServerEnd}
use Rattle.trial_model.specs.Answers.{HasDeviceEnd, IsDone, counted_of, is_fault}
use Rattle.trial_model.specs.Delivery.{delivered_of, frames_between, heard_bytes, heard_of}
use Rattle.trial_model.specs.Frames.{Frame, counts_of, frames_of, frames_within, login_size, records_in}
use Rattle.trial_model.specs.Logs.{HasFewFrames, IsSent, IsWholeStream, answers_to}
use Rattle.trial_model.specs.RecordLists.{AreIn}
use Rattle.trial_server.specs.Serving.{receipted}
use Rattle.trial_server.proofs.Containing.{in-itself, in-left}
use Rattle.trial_wire.specs.Connections.{HasFrame, IsEndNow, IsHeard, fed}
use Rattle.trial_wire.proofs.Filters.{within-first, within-parts}

-- What the device heard stays.

pub heard-fed : (c : ConnectionOutcome) (b : ℕ) (more : List ℕ) (server : ServerEnd) → c.down_given ≤ length c.down → heard_bytes (fed c b more server) ≡ heard_bytes c
heard-fed c b more server low = take-append-le c.down_given c.down more low

module _ (c : ConnectionOutcome) (b : ℕ) (more : List ℕ) (server : ServerEnd) (low : c.down_given ≤ length c.down) where
  stream-fed : (earlier : List Record) → IsWholeStream earlier c → IsWholeStream earlier (fed c b more server)
  stream-fed earlier s = record {
    login = s.login;
    whole = s.whole;
    some = s.some;
    few = s.few;
    decided = s.decided;
    accepted = λ some. ap (take 1) (heard-fed c b more server low) ∙ s.accepted some;
    heard = s.heard;
  }

  pub sent-fed : (end : DeviceEnd) (earlier : List Record) → IsSent end earlier c → IsSent end earlier (fed c b more server)
  sent-fed (End.Done n) earlier s = stream-fed earlier s
  sent-fed End.Empty earlier s = s
  sent-fed End.Refused earlier s = stream-fed earlier s
  sent-fed End.Broken earlier s = stream-fed earlier s
  sent-fed (End.WrongAnswer got) earlier s = stream-fed earlier s
  sent-fed End.TooManyCommands earlier s = stream-fed earlier s
  sent-fed End.MediumFault earlier s = stream-fed earlier s

  done-fed : (end : DeviceEnd) → IsDone c end → IsDone (fed c b more server) end
  done-fed (End.Done n) d = d
  done-fed End.Empty d = d
  done-fed End.Refused d = d
  done-fed End.Broken d = d
  done-fed (End.WrongAnswer got) d = d
  done-fed End.TooManyCommands d = d
  done-fed End.MediumFault d = d

  pub device-fed : (cover : Option ℕ) → HasDeviceEnd cover c → HasDeviceEnd cover (fed c b more server)
  device-fed cover d = record {
    empty = d.empty;
    refused = subst (λ h. (c.device ≡ End.Refused) ↔ (take 1 h ≡ 0 ∷ [])) (sym (heard-fed c b more server low)) d.refused;
    medium = d.medium;
    broken = subst (λ h. (c.device ≡ End.Broken) ↔ ((1 ≤ length c.up) × ((h ≡ []) ⊎ ((take 1 h ≡ 1 ∷ []) × (length (heard_of c) < length (frames_of c.up)))))) (sym (heard-fed c b more server low)) d.broken;
    done = done-fed c.device d.done;
  }

pub few-fed : (c : ConnectionOutcome) (b : ℕ) (more : List ℕ) (server : ServerEnd) (drains : Bool) → HasFewFrames drains c → HasFewFrames drains (fed c b more server)
few-fed c b more server true f = f
few-fed c b more server false f = f

pub frame-fed : (c : ConnectionOutcome) (b : ℕ) (more : List ℕ) (server : ServerEnd) (end : DeviceEnd) → HasFrame end c → HasFrame end (fed c b more server)
frame-fed c b more server (End.Done n) f = f
frame-fed c b more server End.Empty f = f
frame-fed c b more server End.Refused f = f
frame-fed c b more server End.Broken f = f
frame-fed c b more server (End.WrongAnswer got) f = f
frame-fed c b more server End.TooManyCommands f = f
frame-fed c b more server End.MediumFault f = f

-- Counts.

pub counts-length : (fs : List Frame) → length (counts_of fs) ≡ 4 * length fs
counts-length [] = omega arith
counts-length (f ∷ fs) = omega (arith, length-append (count_bytes (length f.records)) (counts_of fs), counts-length fs, four (length f.records))
  where
    four : (n : ℕ) → length (count_bytes n) ≡ 4
    four n = refl

-- a prefix of a prefix
first-of : {A : Type 0} → (m : ℕ) (xs ys : List A) → xs ≡ take (length xs) ys → take m xs ≡ take (length (take m xs)) ys
first-of m xs ys is = elim (cases_lt m (length xs)) as (λ _. take m xs ≡ take (length (take m xs)) ys) [
  | inl less ↦ ap (take m) is ∙ (take-take m (length xs) ys (omega arith) ∙ ap (λ n. take n ys) (sym (length-take-le m xs (omega arith))))
  | inr all ↦ take_all m xs all ∙ (is ∙ ap (λ l. take (length l) ys) (sym (take_all m xs all)))
]

pub counted-first : (c : ConnectionOutcome) → counted_of c ≡ take (length (counted_of c)) (frames_of c.up)
counted-first c = split (is_fault c.server)
  where
    split : (b : Bool) → (if b then take (length (delivered_of c) - 1) (delivered_of c) else delivered_of c) ≡ take (length (if b then take (length (delivered_of c) - 1) (delivered_of c) else delivered_of c)) (frames_of c.up)
    split true = first-of (length (delivered_of c) - 1) (delivered_of c) (frames_of c.up) (within-first c.up c.up_given)
    split false = within-first c.up c.up_given

pub records-take : (k : ℕ) (fs : List Frame) → AreIn (records_in fs) (records_in (take k fs))
records-take k fs =
    subst (λ gs. AreIn (records_in gs) (records_in (take k fs))) (take-append-drop k fs)
    (subst (λ rs. AreIn rs (records_in (take k fs))) (sym (flat_map-append (λ (f : Frame). f.records) (take k fs) (drop k fs)))
    (in-left (records_in (take k fs)) (records_in (drop k fs)) (records_in (take k fs)) (in-itself (records_in (take k fs)))))

-- what a device heard was counted
pub heard-counted : (known : Bool) (c : ConnectionOutcome) → IsHeard known c → c.down_given ≤ length c.down → AreIn (records_in (counted_of c)) (records_in (heard_of c))
heard-counted known c h low = elim (cases_lt c.up_given login_size) [
  | inl short ↦ few-heard (omega (arith, low, ap length (h.without_login short)))
  | inr long ↦ by known refl long
]
  where
    few-heard : c.down_given ≤ 1 → AreIn (records_in (counted_of c)) (records_in (take ((c.down_given - 1) / 4) (frames_of c.up)))
    few-heard few = subst (λ n. AreIn (records_in (counted_of c)) (records_in (take n (frames_of c.up)))) (let e : 0 ≡ (c.down_given - 1) / 4 = omega (arith, few) in e) (All-nil (Contains (records_in (counted_of c))))

    by : (b : Bool) → known ≡ b → login_size ≤ c.up_given → AreIn (records_in (counted_of c)) (records_in (take ((c.down_given - 1) / 4) (frames_of c.up)))
    by true is long =
        let size : length c.down ≡ 1 + 4 * length (counted_of c) = ap length (h.counts long is) ∙ (let q = counts-length (counted_of c) in omega arith) in
        let within : (c.down_given - 1) / 4 ≤ length (counted_of c) = omega (arith, size, low) in
        let same : take ((c.down_given - 1) / 4) (frames_of c.up) ≡ take ((c.down_given - 1) / 4) (counted_of c) =
        sym (ap (take ((c.down_given - 1) / 4)) (counted-first c) ∙ take-take ((c.down_given - 1) / 4) (length (counted_of c)) (frames_of c.up) within) in
        subst (λ fs. AreIn (records_in (counted_of c)) (records_in fs)) (sym same) (records-take ((c.down_given - 1) / 4) (counted_of c))
    by false is long = few-heard (omega (arith, low, ap length (h.stranger long is).0))

-- The frames that are delivered now are those that were, and those between.

pub delivered-fed : (c : ConnectionOutcome) (b : ℕ) (more : List ℕ) (server : ServerEnd) → c.up_given ≤ b → delivered_of (fed c b more server) ≡ delivered_of c ++ frames_between c.up_given b c.up
delivered-fed c b more server order = within-parts c.up c.up_given b order

pub counted-fed : (c : ConnectionOutcome) (b : ℕ) (more : List ℕ) (server : ServerEnd) (failed : Bool) → is_fault c.server ≡ false → c.up_given ≤ b → is_fault server ≡ failed
    → (failed ≡ true → 1 ≤ length (frames_between c.up_given b c.up))
    → counted_of (fed c b more server) ≡ counted_of c ++ receipted failed (frames_between c.up_given b c.up)
counted-fed c b more server failed good order fault some = rw (fault, good) (rw (delivered-fed c b more server order) (by failed some))
  where
    by : (x : Bool) → (x ≡ true → 1 ≤ length (frames_between c.up_given b c.up))
        → (if x then take (length (delivered_of c ++ frames_between c.up_given b c.up) - 1) (delivered_of c ++ frames_between c.up_given b c.up) else delivered_of c ++ frames_between c.up_given b c.up)
        ≡ delivered_of c ++ receipted x (frames_between c.up_given b c.up)
    by true has =
        let size : length (delivered_of c ++ frames_between c.up_given b c.up) - 1 ≡ length (delivered_of c) + (length (frames_between c.up_given b c.up) - 1) =
        (let one = has refl in omega (arith, length-append (delivered_of c) (frames_between c.up_given b c.up))) in
        ap (λ n. take n (delivered_of c ++ frames_between c.up_given b c.up)) size ∙ take-append-add (delivered_of c) (frames_between c.up_given b c.up) (length (frames_between c.up_given b c.up) - 1)
    by false has = refl

pub answers-most : (n : ℕ) (c : ConnectionOutcome) → answers_to n c ≤ length c.down
answers-most n c = elim (leb_tells login_size n) as (λ _. answers_to n c ≤ length c.down) [
  | inl long ↦ rw long.0 (omega arith)
  | inr short ↦ rw short.0 (omega arith)
]

-- All that was written answers the bytes that the session took.
pub answers-all : (known : Bool) (c : ConnectionOutcome) → IsHeard known c → answers_to c.up_given c ≡ length c.down
answers-all known c h = elim (leb_tells login_size c.up_given) as (λ _. answers_to c.up_given c ≡ length c.down) [
  | inl long ↦ rw long.0 (by long.1 known refl)
  | inr short ↦ rw short.0 (sym (ap length (h.without_login short.1)))
]
  where
    few : (b : Bool) → length (if b then take (length (delivered_of c) - 1) (delivered_of c) else delivered_of c) ≤ length (delivered_of c)
    few true = omega (arith, length-take (length (delivered_of c) - 1) (delivered_of c))
    few false = omega arith

    by : login_size ≤ c.up_given → (k : Bool) → known ≡ k → min (length c.down) (1 + 4 * length (delivered_of c)) ≡ length c.down
    by long true is =
        let size : length c.down ≡ 1 + 4 * length (counted_of c) = ap length (h.counts long is) ∙ (let q = counts-length (counted_of c) in omega arith) in
        let most : length (counted_of c) ≤ length (delivered_of c) = few (is_fault c.server) in
        omega (arith, size, most)
    by long false is = omega (arith, ap length (h.stranger long is).0)

-- The bytes that answer what the connection's own line gave stood already.
pub answers-fed : (known : Bool) (c : ConnectionOutcome) (b n : ℕ) (more : List ℕ) (server : ServerEnd) → IsHeard known c → IsEndNow c c.server → is_fault c.server ≡ false → n ≤ c.up_given
    → answers_to n (fed c b more server) ≡ answers_to n c
answers-fed known c b n more server h now good early = elim (leb_tells login_size n) as (λ _. answers_to n (fed c b more server) ≡ answers_to n c) [
  | inl long ↦ rw long.0 (stood (let q = long.1 in omega arith))
  | inr short ↦ rw short.0 refl
]
  where
    not-stranger : login_size ≤ c.up_given → (k : Bool) → known ≡ k → known ≡ true
    not-stranger long true is = is
    not-stranger long false is = absurd (subst (IsEndNow c) (h.stranger long is).1 now)

    stood : login_size ≤ c.up_given → min (length (c.down ++ more)) (1 + 4 * length (frames_within n c.up)) ≡ min (length c.down) (1 + 4 * length (frames_within n c.up))
    stood long =
        let counted : counted_of c ≡ delivered_of c = rw good refl in
        let size : length c.down ≡ 1 + 4 * length (delivered_of c) = ap length (h.counts long (not-stranger long known refl) ∙ ap (λ fs. 1 ∷ counts_of fs) counted) ∙ (let q = counts-length (delivered_of c) in omega arith) in
        let parts = ap length (within-parts c.up n c.up_given early) ∙ length-append (frames_within n c.up) (frames_between n c.up_given c.up) in
        omega (arith, size, parts, length-append c.down more)
