-- The laws of streams and readers, as lemmas for the crates above, under the names of the functions in src/laws.rt.
pub use Rattle.item_streams.proofs.StreamLaws.{has_reading as each_has_reading, one_reading, compose as streams_compose, prefix as prefix_has_prefix, rest_not_whole as rest_is_not_whole, grows as rest_grows, completes as rest_completes, none_empty as none_is_empty, fault_ends as fault_ends_stream, front_read as front_is_read, nothing_read as nothing_is_read, alone_read as item_alone_is_read, add_up as places_add_up, same_values as place_says_nothing}
pub use Rattle.item_streams.proofs.Ending.{ends_inside as prefix_items_end_inside}
pub use Rattle.item_streams.proofs.Joining.{items_then}
pub use Rattle.item_streams.proofs.ReaderSteps.{read_none, pushes_read, read_first, pushed_slice, read_on, reads_on, more_takes_all, reads_all, reads_broken}
