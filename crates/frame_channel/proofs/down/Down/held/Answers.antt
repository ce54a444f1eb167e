use Rattle.std.proofs.Common.{◌≡◌, false, ap, subst, ◌∙◌}
use Rattle.layout.specs.Bytes.{AreBytes}
use Rattle.layout.specs.Rows.{short}
use Rattle.item_streams.specs.Readers.{Reader}
use Rattle.frame_layout.specs.DownRows.{down_verdict}
use Rattle.frame_layout.proofs.Lengths.{short_down_few}
use Rattle.frame_channel.proofs.DownSteps.{has_short}
use Rattle.frame_channel.proofs.down.Down.held.Goals as goal

pub returns-clause-unfinished : goal.returns-clause-unfinished
returns-clause-unfinished c going =
    let d = c.self.inside in
    let failed : d.failed ≡ false = ap (λ (s : Reader). s.failed) c.self.view_is ∙ going in
    subst (λ (s : Reader). down_verdict s.after_first s.have ≡ short) c.self.view_is (has_short d.machine d.after_answer (d.buffer.items) (c.self.invariant.taking failed))

pub returns-clause-few : goal.returns-clause-few
returns-clause-few c going = short_down_few c.args.self.now.after_first c.args.self.now.have (returns-clause-unfinished c going)

pub returns-clause-bytes : goal.returns-clause-bytes
returns-clause-bytes c = subst (λ (s : Reader). AreBytes s.have) c.self.view_is (subst AreBytes c.as_slice.ensures.value c.known_bytes.ensures.bytes)
