use Rattle.std.proofs.Common.{◌≡◌, length}
use Rattle.record_codecs.specs.Views.{ios_left}
use Rattle.record_codecs.proofs.elements.Ios.find_group.Given as goal

abbrev pub invariant-groups : goal.invariant-groups
invariant-groups l = ios_left l.fn.self ≡ ios_left l.self

abbrev pub decreases-groups : goal.decreases-groups
decreases-groups l = length l.self.groups.now
