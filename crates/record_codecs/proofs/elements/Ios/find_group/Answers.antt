use Rattle.std.proofs.Common.{ap, ◌∙◌}
use Rattle.record_codecs.specs.Elements.{front_number, behind}
use Rattle.record_codecs.proofs.Groups.{next_group}
use Rattle.record_codecs.proofs.elements.Ios.find_group.Goals as goal

pub groups-preserved : goal.groups-preserved
groups-preserved c =
    let s = c.groups.self in
    let first = c.in-Some.width.now in
    let ws = c.in-Some.groups.now in
    let counted = c.split_number-left.ensures.value ∙ ap (λ w. front_number w s.rest.now) c.count_width.ensures in
    let rest = c.split_number-left.ensures.back ∙ ap (λ w. behind w s.rest.now) c.count_width.ensures in
    c.groups.invariant ∙ next_group s.codec s.width s.left s.groups.now s.rest.now first ws c.split_number-left.result.0 c.split_number-left.result.1.now c.groups-test.true c.in-Some.ensures.cases.0 counted rest
