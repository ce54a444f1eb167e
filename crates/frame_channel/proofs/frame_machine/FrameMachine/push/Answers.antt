use Rattle.std.proofs.Common.{◌≡◌, ◌∷◌, ◌++◌, [], arith, length, length-append, refl, subst, sym, ap, ◌∙◌}
use Rattle.avl_values.specs.declared.fault.Fault.{Fault}
use Rattle.layout.specs.Nested.{with_bytes}
use Rattle.layout.specs.Rows.{done, fault, within}
use Rattle.field_machine.proofs.MachineSteps.{taken_all}
use Rattle.field_machine.proofs.Parts.{ended, left_as, part_begins, part_breaks, part_ends, part_on, part_place}
use Rattle.command_layout.specs.declared.way.Way.{Way}
use Rattle.frame_layout.specs.FrameBodies.{body_kind_rows}
use Rattle.frame_layout.specs.FrameRows.{crc_rows}
use Rattle.frame_channel.specs.Bodies.{checked}
use Rattle.frame_channel.specs.BodyLaws.{body_leaves}
use Rattle.frame_channel.specs.BodyMachines as body_machine
use Rattle.frame_channel.specs.BodyPlaces.{SaysKind, StandsAt, left_in}
use Rattle.frame_channel.specs.FrameMachines.{HasTaken, after_part}
use Rattle.frame_channel.specs.FramePlaces.{SaysPart, StandsInFrame, frame_leaves, frame_left, high_rows}
use Rattle.frame_channel.specs.FrameVerdicts.{way_rows}
use Rattle.frame_channel.specs.declared.frame_machine.FrameMachine.{FrameMachine}
use Rattle.frame_channel.specs.declared.frame_place.FramePart.{FramePart}
use Rattle.frame_channel.specs.declared.frame_place.FramePart.TheVariants as part
use Rattle.frame_channel.proofs.FrameSteps.{body_is, check_is, has_few, says}
use Rattle.frame_channel.proofs.frame_machine.FrameMachine.push.Goals as goal

pub returns-in-More-clause-answers : goal.returns-in-More-clause-answers
returns-in-More-clause-answers g c way bytes has =
    let (same, i) = subst (λ (m : FrameMachine). HasTaken m way bytes) c.in-Fields.is has in
    let on = c.in-More.ensures.goes_on i.total i.rows i.part.taken i.part.has in
    (same, record { total = i.total; rows = i.rows; body = i.body; part = part_on (way_rows way) i.rows (λ b. after_part way i.body b.0) i.total frame_left SaysPart StandsInFrame frame_leaves c.in-Fields.fields _ c.in-Fields.start c.args.byte bytes i.part on })

pub new-body-requires : goal.new-body-requires
new-body-requires g c =
    let way = c.requires.way in
    let (same, i) = subst (λ (m : FrameMachine). HasTaken m way c.requires.bytes) c.in-Fields.is c.requires.has in
    let e = part_ends (way_rows way) i.rows (λ b. after_part way i.body b.0) i.total frame_left SaysPart StandsInFrame frame_leaves c.in-Fields.fields c.in-Fields.start c.args.byte c.requires.bytes c.in-Whole-Body.field-0 i.part (c.in-Whole-Body.ensures.answers i.total i.rows i.part.taken i.part.has) in
    let said : SaysPart (part.Body c.in-Whole-Body.total) e.value = subst (λ (x : FramePart). SaysPart x e.value) c.in-Whole-Body.field-0-is e.said in
    said.1.0

pub overflow_add-start : goal.overflow_add-start
overflow_add-start g c =
    let way = c.requires.way in
    let (same, i) = subst (λ (m : FrameMachine). HasTaken m way c.requires.bytes) c.in-Fields.is c.requires.has in
    let few = has_few c.args.self.now way c.requires.bytes c.requires.has in
    let e = part_ends (way_rows way) i.rows (λ b. after_part way i.body b.0) i.total frame_left SaysPart StandsInFrame frame_leaves c.in-Fields.fields c.in-Fields.start c.args.byte c.requires.bytes c.in-Whole-Body.field-0 i.part (c.in-Whole-Body.ensures.answers i.total i.rows i.part.taken i.part.has) in
    let taken = taken_all frame_left SaysPart StandsInFrame frame_leaves c.in-Fields.fields i.total i.rows c.args.byte i.part.taken i.part.has in
    omega (arith, e.place, e.size, taken, c.taken.ensures, c.push.ensures.counted, length-append c.requires.bytes (c.args.byte ∷ []))

pub returns-in-Whole-Body-clause-answers : goal.returns-in-Whole-Body-clause-answers
returns-in-Whole-Body-clause-answers g c of_way bytes has =
    let (same, i) = subst (λ (m : FrameMachine). HasTaken m of_way bytes) c.in-Fields.is has in
    let total = c.in-Whole-Body.total in
    let e = part_ends (way_rows of_way) i.rows (λ b. after_part of_way i.body b.0) i.total frame_left SaysPart StandsInFrame frame_leaves c.in-Fields.fields c.in-Fields.start c.args.byte bytes c.in-Whole-Body.field-0 i.part (c.in-Whole-Body.ensures.answers i.total i.rows i.part.taken i.part.has) in
    let taken = taken_all frame_left SaysPart StandsInFrame frame_leaves c.in-Fields.fields i.total i.rows c.args.byte i.part.taken i.part.has in
    let said : SaysPart (part.Body total) e.value = subst (λ (x : FramePart). SaysPart x e.value) c.in-Whole-Body.field-0-is e.said in
    let r = c.new-body.result in
    let now = bytes ++ c.args.byte ∷ [] in
    let begins : r.start ≡ length now = omega (arith, e.place, e.size, taken, c.taken.ensures, c.push.ensures.counted, c.new-body.ensures.start) in
    let value : after_part of_way i.body e.value ≡ within total (with_bytes [] (body_kind_rows of_way total)) checked = ap (after_part of_way i.body) said.0 ∙ body_is of_way total in
    let left = left_as (way_rows of_way) now _ (within r.total (with_bytes [] (body_kind_rows of_way r.total)) checked) (value ∙ ap (λ n. within n (with_bytes [] (body_kind_rows of_way n)) checked) (sym c.new-body.ensures.total)) e.left in
    let fresh : body_machine.HasTaken r.machine of_way r.total [] = subst (λ (w : Way). body_machine.HasTaken r.machine w r.total []) same (subst (λ n. body_machine.HasTaken r.machine c.in-Fields.way n []) (sym c.new-body.ensures.total) c.new-body.ensures.taken) in (
      same,
      record {
        part = part_begins (way_rows of_way) (body_kind_rows of_way r.total) checked r.total left_in SaysKind StandsAt body_leaves r.machine r.start now begins left fresh;
        few = omega (arith, said.1.1, c.new-body.ensures.total);
        crc = c.new-body.ensures.crc;
      },
    )

pub returns-in-Whole-Whole-clause-answers : goal.returns-in-Whole-Whole-clause-answers
returns-in-Whole-Whole-clause-answers g c way bytes has =
    let (same, i) = subst (λ (m : FrameMachine). HasTaken m way bytes) c.in-Fields.is has in
    let kind = c.in-Whole-Whole.kind in
    let e = part_ends (way_rows way) i.rows (λ b. after_part way i.body b.0) i.total frame_left SaysPart StandsInFrame frame_leaves c.in-Fields.fields c.in-Fields.start c.args.byte bytes c.in-Whole-Whole.field-0 i.part (c.in-Whole-Whole.ensures.answers i.total i.rows i.part.taken i.part.has) in
    let said : SaysPart (part.Whole kind) e.value = subst (λ (x : FramePart). SaysPart x e.value) c.in-Whole-Whole.field-0-is e.said in
    (i.body, ended (way_rows way) (bytes ++ c.args.byte ∷ []) (says kind i.body) (left_as (way_rows way) (bytes ++ c.args.byte ∷ []) _ (done (says kind i.body)) (ap (after_part way i.body) said.0) e.left))

pub returns-in-Broken-clause-answers : goal.returns-in-Broken-clause-answers
returns-in-Broken-clause-answers g c way bytes has =
    let (same, i) = subst (λ (m : FrameMachine). HasTaken m way bytes) c.in-Fields.is has in
    part_breaks (way_rows way) i.rows (λ b. after_part way i.body b.0) i.total frame_left SaysPart StandsInFrame frame_leaves c.in-Fields.fields c.in-Fields.start c.args.byte bytes c.in-Broken.found i.part (c.in-Broken.ensures.answers i.total i.rows i.part.taken i.part.has)
    ∙ ap (λ (f : Fault). fault f.kind f.place) (sym c.in_frame.ensures)

pub in_frame-requires : goal.in_frame-requires
in_frame-requires g c =
    let way = c.requires.way in
    let (same, i) = subst (λ (m : FrameMachine). HasTaken m way c.requires.bytes) c.in-Fields.is c.requires.has in
    let few = has_few c.args.self.now way c.requires.bytes c.requires.has in
    omega (arith, part_place (way_rows way) i.rows (λ b. after_part way i.body b.0) i.total frame_left SaysPart StandsInFrame frame_leaves c.in-Fields.fields c.in-Fields.start c.args.byte c.requires.bytes c.in-Broken.found i.part (c.in-Broken.ensures.answers i.total i.rows i.part.taken i.part.has))

pub returns-in-More-push-clause-answers : goal.returns-in-More-push-clause-answers
returns-in-More-push-clause-answers g c way bytes has =
    let (same, i) = subst (λ (m : FrameMachine). HasTaken m way bytes) c.in-Body.is has in
    (same, c.in-More-push.ensures.answers way bytes i)

pub returns-in-Whole-clause-answers : goal.returns-in-Whole-clause-answers
returns-in-Whole-clause-answers g c way bytes has =
    let (same, i) = subst (λ (m : FrameMachine). HasTaken m way bytes) c.in-Body.is has in
    let a = c.in-Whole.ensures.answers way bytes i in
    let kind = c.in-Whole.kind in
    let crc = c.in-Whole.crc in
    let rows = high_rows kind crc in
    let body = a.1.0 in
    let now = bytes ++ c.args.byte ∷ [] in
    let left = left_as (way_rows way) now (crc_rows (says kind body) crc) (within 4 (with_bytes [] rows) (λ b. after_part way body b.0)) (check_is way kind body crc) a.1.1 in
    (same, record { total = 4; rows = rows; body = body; part = part_begins (way_rows way) rows (λ b. after_part way body b.0) 4 frame_left SaysPart StandsInFrame frame_leaves c.new-check.result c.in-Whole.end now a.0 left (c.new-check.ensures rows refl) })

pub returns-in-Broken-push-clause-answers : goal.returns-in-Broken-push-clause-answers
returns-in-Broken-push-clause-answers g c way bytes has =
    let (same, i) = subst (λ (m : FrameMachine). HasTaken m way bytes) c.in-Body.is has in
    c.in-Broken-push.ensures.answers way bytes i
