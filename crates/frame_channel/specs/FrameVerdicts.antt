-- The verdict on the first bytes of a frame.
use Rattle.std.specs.Prelude.{ℕ, List}
use Rattle.layout.specs.Rows.{Rows, Verdict, judge}
use Rattle.command_layout.specs.declared.way.Way.{Way}
use Rattle.frame_layout.specs.FrameBodies.{body_kind_rows, longest_body}
use Rattle.frame_layout.specs.FrameRows.{frame_rows}
use Rattle.frame_layout.specs.declared.body_kind.BodyKind.{BodyKind}

-- a frame of this way, which says the kind of its body, and the body
abbrev pub way_rows : Way → Rows (BodyKind × List ℕ)
way_rows way = frame_rows (longest_body way) (body_kind_rows way)

-- the verdict on the first bytes of a frame
abbrev pub frame_verdict : Way → List ℕ → Verdict (BodyKind × List ℕ)
frame_verdict way bytes = judge (way_rows way) 0 bytes
