-- The laws of a connection's items, as lemmas for the crates above, under the names of the functions in src/laws.rt.
pub use Rattle.frame_layout.proofs.UpLaws.{whole_up as whole_is_up_item, up_whole as up_item_is_whole, up_stays as up_verdict_stays, none_begins_up as no_up_item_begins_another}
pub use Rattle.frame_layout.proofs.DownLaws.{whole_down as whole_is_down_item, down_whole as down_item_is_whole, down_stays as down_verdict_stays, none_begins_down as no_down_item_begins_another}
pub use Rattle.frame_layout.proofs.PlaceLaws.{up_place as up_item_has_place, down_place as down_item_has_place, up_said as up_item_is_said, down_said as down_item_is_said}
pub use Rattle.frame_layout.proofs.Lengths.{starts_short_up as up_begins, starts_short_down as down_begins, short_up_few as short_up_is_few, short_down_few as short_down_is_few}
