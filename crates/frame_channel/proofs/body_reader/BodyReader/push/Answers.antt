use Rattle.std.proofs.Common.{◌≡◌, [], ◌∷◌, ◌++◌, refl, sym, ap, ◌∙◌, arith}
use Rattle.crc_field.specs.Crc.{crc_of}
use Rattle.frame_layout.specs.FrameBodies.{body_kind_rows}
use Rattle.frame_layout.specs.FrameRows.{crc_rows}
use Rattle.field_machine.proofs.Parts.{left_as, part_breaks, part_ends, part_on, part_place, part_start}
use Rattle.frame_channel.specs.Bodies.{checked}
use Rattle.frame_channel.specs.BodyLaws.{body_leaves}
use Rattle.frame_channel.specs.BodyPlaces.{SaysKind, StandsAt, left_in}
use Rattle.frame_channel.specs.FrameVerdicts.{way_rows}
use Rattle.frame_channel.specs.declared.frame_machine.FrameMachine.TheVariants as machine
use Rattle.frame_channel.proofs.FrameSteps.{has_few, says}
use Rattle.frame_channel.proofs.body_reader.BodyReader.push.Goals as goal

pub overflow_add-result : goal.overflow_add-result
overflow_add-result g c =
    let r = c.args.self.now in
    let h = c.requires.has in
    let few = has_few (machine.Body c.requires.way r) c.requires.way c.requires.bytes (refl, h) in
    omega (arith, h.few, part_start (way_rows c.requires.way) (body_kind_rows c.requires.way r.total) checked r.total left_in SaysKind StandsAt body_leaves r.machine r.start c.requires.bytes h.part)

pub overflow_add-result-in-Broken : goal.overflow_add-result-in-Broken
overflow_add-result-in-Broken g c =
    let r = c.args.self.now in
    let way = c.requires.way in
    let h = c.requires.has in
    let rows = body_kind_rows way r.total in
    let few = has_few (machine.Body way r) way c.requires.bytes (refl, h) in
    let e = c.in-Broken.ensures.answers r.total rows h.part.taken h.part.has in
    omega (arith, part_place (way_rows way) rows checked r.total left_in SaysKind StandsAt body_leaves r.machine r.start c.args.byte c.requires.bytes c.in-Broken.found h.part e)

pub returns-in-More-clause-answers : goal.returns-in-More-clause-answers
returns-in-More-clause-answers g c way bytes h =
    let r = c.args.self.now in
    let rows = body_kind_rows way r.total in
    let has = c.in-More.ensures.goes_on r.total rows h.part.taken h.part.has in
    record { part = part_on (way_rows way) rows checked r.total left_in SaysKind StandsAt body_leaves r.machine _ r.start c.args.byte bytes h.part has; few = h.few; crc = c.push.ensures.pushed h.part.taken h.crc }

pub returns-in-Whole-clause-answers : goal.returns-in-Whole-clause-answers
returns-in-Whole-clause-answers g c way bytes h =
    let r = c.args.self.now in
    let rows = body_kind_rows way r.total in
    let kind = c.in-Whole.kind in
    let taken = h.part.taken ++ c.args.byte ∷ [] in
    let now = bytes ++ c.args.byte ∷ [] in
    let e = part_ends (way_rows way) rows checked r.total left_in SaysKind StandsAt body_leaves r.machine r.start c.args.byte bytes kind h.part (c.in-Whole.ensures.answers r.total rows h.part.taken h.part.has) in
    let crc : crc_of taken ≡ c.value.result = sym (c.value.ensures ∙ c.push.ensures.pushed h.part.taken h.crc) in
    let same : crc_rows (says e.value taken) (crc_of taken) ≡ crc_rows (says kind taken) c.value.result = ap (λ k. crc_rows (says k taken) (crc_of taken)) e.said ∙ ap (λ k. crc_rows (says kind taken) k) crc in
    (e.place, (taken, left_as (way_rows way) now (crc_rows (says e.value taken) (crc_of taken)) (crc_rows (says kind taken) c.value.result) same e.left))

pub returns-in-Broken-clause-answers : goal.returns-in-Broken-clause-answers
returns-in-Broken-clause-answers g c way bytes h =
    let r = c.args.self.now in
    let rows = body_kind_rows way r.total in
    part_breaks (way_rows way) rows checked r.total left_in SaysKind StandsAt body_leaves r.machine r.start c.args.byte bytes c.in-Broken.found h.part (c.in-Broken.ensures.answers r.total rows h.part.taken h.part.has)
