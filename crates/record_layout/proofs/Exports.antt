-- The laws of data bodies, as lemmas for the crates above, under the names of the functions in src/laws.rt.
pub use Rattle.record_layout.proofs.ReadLaws.{whole_packet as whole_is_packet, packet_whole_verdict as packet_is_whole, packet_stays as packet_verdict_stays, none_begins_packet as no_packet_begins_another, records_read as records_are_read}
pub use Rattle.record_layout.proofs.BodyLaws.{judged_body as whole_is_body, body_judged as body_is_whole, body_counted as body_is_counted}
