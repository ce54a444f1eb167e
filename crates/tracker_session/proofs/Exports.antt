-- The laws of a round for the crates above.
pub use Rattle.tracker_session.proofs.RightAnswers.{right-answers as right_answers_end_right}
pub use Rattle.tracker_session.proofs.NoCommands.{no-commands as counts_hold_no_command}
