use Rattle.std.proofs.Common.{◌≡◌, ℕ, List, false, ap, subst, ◌∙◌, take}
use Rattle.layout.specs.Bytes.{AreBytes}
use Rattle.layout.specs.Rows.{short}
use Rattle.item_streams.specs.Readers.{Reader}
use Rattle.frame_layout.specs.UpRows.{up_verdict}
use Rattle.frame_layout.proofs.Lengths.{short_up_few}
use Rattle.frame_channel.proofs.UpSteps.{has_short}
use Rattle.frame_channel.proofs.up.Up.held.Goals as goal

pub returns-clause-unfinished : goal.returns-clause-unfinished
returns-clause-unfinished c going =
    let u = c.self.inside in
    let failed : u.failed ≡ false = ap (λ (s : Reader). s.failed) c.self.view_is ∙ going in
    subst (λ (s : Reader). up_verdict s.after_first s.have ≡ short) c.self.view_is (has_short u.machine u.after_login (take u.len u.buffer.items) (c.self.invariant.taking failed))

pub returns-clause-few : goal.returns-clause-few
returns-clause-few c going = short_up_few c.args.self.now.after_first c.args.self.now.have (returns-clause-unfinished c going)

pub returns-clause-bytes : goal.returns-clause-bytes
returns-clause-bytes c = subst (λ (s : Reader). AreBytes s.have) c.self.view_is (subst (λ (b : List ℕ). AreBytes (take c.self.inside.len b)) c.deref.ensures.value c.known_bytes.ensures.bytes)
