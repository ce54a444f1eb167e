-- The laws of rows, as lemmas for the crates above, under the names of the functions in src/laws.rt.
pub use Rattle.layout.proofs.RowLaws.{stays as verdict_stays, filled as whole_is_filled, is_whole as filled_is_whole, none_begins as none_begins_another}
pub use Rattle.layout.proofs.WithinLaws.{inside as within_filled, around as filled_within}
-- A body that is all there is.
pub use Rattle.layout.proofs.BodyLaws.{body_fills, body_filled, body_judged}
-- Rows field by field: what fills one, and what the verdict on it is.
pub use Rattle.layout.proofs.Filling.{done_filled, fills_done, fills_row, no_refusal, row_filled}
pub use Rattle.layout.proofs.Judging.{judge_done, judge_field, judge_long, judge_refuse, judge_short, within_refuse}
pub use Rattle.layout.proofs.Stepping.{body_excess, body_fault, body_missing, body_on, body_overrun, body_whole}
pub use Rattle.layout.proofs.NestedLaws.{body_short, judge_moved, judge_within}
pub use Rattle.layout.proofs.FaultPlaces.{fault_place}
-- Rows that say another value, that others follow, or of which either may come.
pub use Rattle.layout.proofs.MappedLaws.{map_body_judged, map_fill, map_judged, map_short, map_take}
pub use Rattle.layout.proofs.Following.{follow_after, follow_done, follow_rule, follow_width}
pub use Rattle.layout.proofs.EitherLaws.{either_rest_is, either_rule_is, either_take, either_width, first_fills, others_fill}
-- Numbers and the bytes that spell them.
pub use Rattle.layout.proofs.Numbers.{are_bytes, bytes-append, bytes-back, bytes-drop, bytes-front, bytes-take, length_spell, number_bound, number_push, number_spell, power_bound, spell_number}
pub use Rattle.layout.proofs.NumberFills.{number_fill, number_take, spell-one}
