use Rattle.std.proofs.Common.{◌≡◌, ◌≤◌, ◌<◌, ◌-◌, ◌^◌, length, vec_len}
use Rattle.std.specs.Io.KnownBytes.{Consumes}
use Rattle.fmb_io.proofs.reading.read_pieces.Given as goal

abbrev pub invariant-pieces : goal.invariant-pieces
invariant-pieces g l =
    (vec_len l.text ≤ 2 ^ 24)
    × (0 < length l.piece)
    × Consumes (g.S.Source.state l.initial.source).left (g.S.Source.state l.source).left l.text.items
    × ((g.S.Source.state l.source).faults ≡ (g.S.Source.state l.initial.source).faults)

abbrev pub decreases-pieces : goal.decreases-pieces
decreases-pieces g l = 2 ^ 24 - vec_len l.text
