-- An item up, byte by byte.
use Rattle.std.proofs.Common.{◌≡◌, ℕ, ◌+◌, ◌<◌, Bool, true, false, List, [], ◌∷◌, ◌++◌, length, refl, ap, ◌∙◌, arith}
use Rattle.avl_values.specs.declared.fault.FaultKind.{FaultKind}
use Rattle.layout.specs.Rows.{body, done, fault, judge, short, whole, within}
use Rattle.layout.specs.MappedRows.{map_verdict}
use Rattle.layout.proofs.MappedLaws.{map_judged}
use Rattle.command_layout.specs.declared.way.Way.TheVariants.{Up}
use Rattle.frame_layout.specs.Logins.{digit_rows, login_rows}
use Rattle.frame_layout.specs.UpRows.{login_end, up_frame_rows, up_verdict}
use Rattle.frame_layout.specs.Values.{UpValue, frame_value, login}
use Rattle.frame_layout.proofs.Lengths.{short_up_few}
use Rattle.frame_channel.specs.FrameVerdicts.{frame_verdict, way_rows}
use Rattle.field_machine.specs.Machines as login_machine
use Rattle.field_machine.specs.Parts.{InPart}
use Rattle.field_machine.specs.Verdicts.{IsVerdict}
use Rattle.field_machine.specs.declared.verdict.Scan.TheVariants as scan
use Rattle.avl_values.specs.declared.fault.Fault.{Fault}
use Rattle.field_machine.specs.declared.machine.Machine.{Machine}
use Rattle.field_machine.proofs.Parts.{ended, first_part, left_as, part_breaks, part_ends, part_short}
use Rattle.layout.specs.Nested.{with_bytes}
use Rattle.frame_channel.specs.CountPlaces.{SaysNumber}
use Rattle.frame_channel.specs.LoginPlaces.{StandsInLogin, imei_rows, login_leaves, login_left}
use Rattle.frame_channel.specs.UpMachines.{HasTaken}
use Rattle.frame_channel.specs.declared.login_place.LoginPlace.{LoginPlace}
use Rattle.frame_channel.specs.declared.up_machine.UpMachine.{UpMachine}
use Rattle.frame_channel.specs.declared.up_machine.UpMachine.TheVariants as machine
use Rattle.frame_layout.specs.declared.body_kind.BodyKind.{BodyKind}
use Rattle.frame_channel.proofs.FrameSteps.{Said, says}
use Rattle.frame_channel.proofs.FrameSteps as frame_steps

-- a login is one part, which says the IMEI

pub login_is : login_rows login_end ≡ within 17 (with_bytes [] imei_rows) (λ b. login_end b.0)
unfolding login_rows digit_rows within with_bytes
login_is = refl

abbrev pub in_login : (m : Machine LoginPlace) (bytes : List ℕ) → login_machine.HasTaken login_left StandsInLogin m 17 imei_rows bytes
    → InPart login_left StandsInLogin (login_rows login_end) imei_rows (λ b. login_end b.0) m 0 17 bytes
in_login m bytes h = first_part (login_rows login_end) imei_rows (λ b. login_end b.0) 17 login_left SaysNumber StandsInLogin login_leaves m bytes login_is h

-- after a login the verdict is that on a frame

abbrev pub says_up : Said → UpValue
says_up f = frame_value f.0 f.1

pub up_frame_judged : (after_login : Bool) (bytes : List ℕ) → after_login ≡ true → up_verdict after_login bytes ≡ map_verdict says_up (frame_verdict Up bytes)
unfolding up_frame_rows
up_frame_judged after_login bytes place = ap (λ b. up_verdict b bytes) place ∙ map_judged says_up (way_rows Up) 0 bytes

-- what a machine has taken is short, and so has few bytes

pub has_short : (m : UpMachine) (after_login : Bool) (bytes : List ℕ) → HasTaken m after_login bytes → up_verdict after_login bytes ≡ short
has_short (machine.Login m) after_login bytes h = ap (λ b. up_verdict b bytes) h.0 ∙ part_short (login_rows login_end) imei_rows (λ b. login_end b.0) 17 login_left SaysNumber StandsInLogin login_leaves m 0 bytes (in_login m bytes h.1)
has_short (machine.Frame m) after_login bytes h = up_frame_judged after_login bytes h.0 ∙ ap (λ v. map_verdict says_up v) (frame_steps.has_short m Up bytes h.1)

pub has_few : (m : UpMachine) (after_login : Bool) (bytes : List ℕ) → HasTaken m after_login bytes → length bytes < 65547
has_few m after_login bytes h = short_up_few after_login bytes (has_short m after_login bytes h)

-- what a login's bytes are, once they decide

pub login_whole : (after_login : Bool) (m : Machine LoginPlace) (imei b : ℕ) (bytes : List ℕ) → after_login ≡ false → login_machine.HasTaken login_left StandsInLogin m 17 imei_rows bytes
    → IsVerdict SaysNumber 17 (scan.Whole imei) (judge (body 17 imei_rows) 0 (bytes ++ b ∷ [])) → up_verdict after_login (bytes ++ b ∷ []) ≡ whole (login imei) (length (bytes ++ b ∷ []))
login_whole after_login m imei b bytes place h is =
    let all = login_rows login_end in
    let now = bytes ++ b ∷ [] in
    let e = part_ends all imei_rows (λ x. login_end x.0) 17 login_left SaysNumber StandsInLogin login_leaves m 0 b bytes imei (in_login m bytes h) is in
    ap (λ p. up_verdict p now) place ∙ ended all now (login imei) (left_as all now _ (done (login imei)) (ap login_end e.said) e.left)

pub login_broken : (after_login : Bool) (m : Machine LoginPlace) (found : Fault) (b : ℕ) (bytes : List ℕ) → after_login ≡ false → login_machine.HasTaken login_left StandsInLogin m 17 imei_rows bytes
    → IsVerdict SaysNumber 17 (scan.Broken found) (judge (body 17 imei_rows) 0 (bytes ++ b ∷ [])) → up_verdict after_login (bytes ++ b ∷ []) ≡ fault found.kind found.place
login_broken after_login m found b bytes place h is =
    let zero : 0 + found.place ≡ found.place = omega arith in
    ap (λ p. up_verdict p (bytes ++ b ∷ [])) place ∙ part_breaks (login_rows login_end) imei_rows (λ x. login_end x.0) 17 login_left SaysNumber StandsInLogin login_leaves m 0 b bytes found (in_login m bytes h) is ∙ ap (fault found.kind) zero

-- what a frame is, is what the item is

pub frame_whole : (after_login : Bool) (kind : BodyKind) (bytes : List ℕ) → after_login ≡ true → (body : List ℕ) × (frame_verdict Up bytes ≡ whole (says kind body) (length bytes))
    → (body : List ℕ) × (up_verdict after_login bytes ≡ whole (frame_value kind body) (length bytes))
frame_whole after_login kind bytes place (body, e) = (body, up_frame_judged after_login bytes place ∙ ap (λ v. map_verdict says_up v) e)

pub frame_broken : (after_login : Bool) (kind : FaultKind) (p : ℕ) (bytes : List ℕ) → after_login ≡ true → frame_verdict Up bytes ≡ fault kind p → up_verdict after_login bytes ≡ fault kind p
frame_broken after_login kind p bytes place e = up_frame_judged after_login bytes place ∙ ap (λ v. map_verdict says_up v) e
