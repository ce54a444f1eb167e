use Rattle.std.proofs.Common.{◌≡◌, ◌+◌, ◌^◌, ◌≤◌, length}
use Rattle.std.specs.Str.Lines.{lines}
use Rattle.text_lines.specs.Lines.{content_from}
use Rattle.text_lines.proofs.content.ContentLinesIterator.next.Given as goal

abbrev pub invariant-loop-self : goal.invariant-loop-self
invariant-loop-self l = (l.self-inside.number + length l.self-inside.rest.now ≤ 2 ^ 24 + 1)
    × (content_from l.self-inside.number (lines l.self-inside.rest.now) ≡ content_from l.initial.self-inside.number (lines l.initial.self-inside.rest.now))

abbrev pub decreases-loop-self : goal.decreases-loop-self
decreases-loop-self l = length l.self-inside.rest.now
