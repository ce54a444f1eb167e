-- A response is short enough, and may pass up.
use Rattle.std.proofs.Common.{List, ℕ, sym, subst}
use Rattle.std.proofs.lemmas.Bool.{false≢true}
use Rattle.command_layout.specs.declared.way.Way.{Way}
use Rattle.command_layout.specs.declared.way.Way.TheVariants.{Up}
use Rattle.command_codecs.specs.Views.{value_of}
use Rattle.frame_layout.specs.Items.{IsFrameBody}
use Rattle.frame_layout.specs.declared.body_kind.BodyKind.{BodyKind}
use Rattle.frame_layout.specs.declared.body_kind.BodyKind.TheVariants as kind
use Rattle.tracker_session.proofs.answering.write_response.Goals as goal

pub unreachable-requires : goal.unreachable-requires
unreachable-requires c = false≢true (c.if-not-write_command.ensures.room.1 c.requires.fits)

pub write_frame-requires-clause-passes : goal.write_frame-requires-clause-passes
write_frame-requires-clause-passes c =
    let P : List ℕ → Type 0 = λ b. (way : Way) × (k : BodyKind) × IsFrameBody way k b in
    subst P (sym c.deref.ensures.0) (Up, kind.Command, (value_of c.args.command.now, c.if-not-write_command.ensures.command Up c.requires.well_formed))
