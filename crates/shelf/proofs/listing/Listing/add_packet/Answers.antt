-- Each record is staged after the others.
use Rattle.std.proofs.Common.{◌∙◌, ◌<◌, List, ℕ, length, sym, ap, subst, arith}
use Rattle.record_codecs.specs.Views.{records_left}
use Rattle.record_layout.specs.RecordsOf.{records_of}
use Rattle.archive_journal.proofs.Packets.{accepted-whole}
use Rattle.shelf.proofs.Stages.{Staging, staging-first, staging-room, staging-more, few-records}
use Rattle.record_codecs.proofs.Accepted.{body_read}
use Rattle.record_layout.proofs.BodyLaws.{body_counted}
use Rattle.shelf.proofs.listing.Listing.add_packet.Goals as goal

pub unreachable-requires : goal.unreachable-requires
unreachable-requires c = c.in_default.not-Ok c.requires.accepted.0 (body_read c.requires.accepted.0 c.args.body.now c.read_packet.result c.requires.accepted.1 c.read_packet.ensures.verdict)

pub loop-bytes-init : goal.loop-bytes-init
loop-bytes-init c =
    let w = accepted-whole c.in-Ok.head c.args.body.now c.in-Ok.ensures.accepted in
    let P : List ℕ → Type 0 = λ l. Staging c.args.self.now c.args.imei c.in-Ok.head.codec (records_of c.args.body.now) c.args.self.now l (records_left c.into_iter-bytes-iterator.result) in
    subst P (sym c.new-places.ensures)
    (staging-first c.args.self.now c.args.imei c.in-Ok.head.codec c.args.body.now _ w
    (ap records_left c.into_iter-bytes-iterator.ensures.into_iter_gives ∙ c.records-bytes-items.ensures.packet c.in-Ok.head.codec w.rs w.is))

pub push-requires : goal.push-requires
push-requires c =
    let w = accepted-whole c.in-Ok.head c.args.body.now c.in-Ok.ensures.accepted in
    let few = few-records c.in-Ok.head.codec c.args.body.now w in
    let room = staging-room c.args.self.now c.args.imei c.in-Ok.head.codec (records_of c.args.body.now) c.loop-bytes.self c.loop-bytes.places.items (records_left c.loop-bytes.bytes-iterator)
    c.in-Some.bytes.now _ c.loop-bytes.invariant c.in-Some.ensures.steps in
    let low : length c.loop-bytes.places.items < 255 = omega arith in
    (omega arith, low)

pub loop-bytes-preserved : goal.loop-bytes-preserved
loop-bytes-preserved c =
    staging-more c.args.self.now c.args.imei c.in-Ok.head.codec (records_of c.args.body.now) c.loop-bytes.self c.loop-bytes.places.items (records_left c.loop-bytes.bytes-iterator)
    c.in-Some.bytes.now (records_left c.next.new.self) _ _ _ c.loop-bytes.invariant c.in-Some.ensures.steps c.in_ok-place.ensures.added c.in_ok-place.ensures.place c.push.ensures.items

pub returns-clause-count : goal.returns-clause-count
returns-clause-count c = body_counted c.in-Ok.head c.args.body.now c.in-Ok.ensures.accepted
