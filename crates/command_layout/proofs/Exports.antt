-- The laws of commands, as lemmas for the crates above, under the names of the functions in src/laws.rt.
pub use Rattle.command_layout.proofs.CommandLaws.{whole_command as whole_is_command, command_whole as command_is_whole, command_stays as command_verdict_stays, none_begins_command as no_command_begins_another}
pub use Rattle.command_layout.proofs.AnswerLaws.{command_value as command_is_value, value_command as value_is_command, answer_well as answer_is_well_formed, answer_fits, answer_command as answer_is_command}
