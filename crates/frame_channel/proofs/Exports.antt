-- What the crates above may cite of this one: what a push lends, and that a push that decides nothing answers More.
pub use Rattle.frame_channel.proofs.LentBodies.{up_lent, down_lent, undecided_up, undecided_down}
