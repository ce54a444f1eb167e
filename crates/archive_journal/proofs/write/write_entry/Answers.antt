-- Each exit leaves what the calls before it left.
use Rattle.std.proofs.Common.{◌∙◌}
use Rattle.archive_journal.proofs.Appends.{body_failed, body_written, gate_failed, gate_written, gate_closed, closed-changed, every-same}
use Rattle.archive_journal.proofs.write.write_entry.Goals as goal

pub returns-in_err-write-clause-images : goal.returns-in_err-write-clause-images
returns-in_err-write-clause-images g c = body_failed c.args.tail.gate c.args.tail.bodies c.args.body.now c.requires.body _ _ _ c.requires.closed c.in_err-write.ensures.torn

pub returns-in_err-sync-clause-images : goal.returns-in_err-sync-clause-images
returns-in_err-sync-clause-images g c =
    every-same _ _ _ c.in_err-sync.ensures.unchanged (body_written c.args.tail.gate c.args.tail.bodies c.args.body.now c.requires.body _ _ _ c.requires.closed c.in_ok-write.ensures.written)

pub returns-in_err-write-2-clause-images : goal.returns-in_err-write-2-clause-images
returns-in_err-write-2-clause-images g c =
    gate_failed c.args.tail.gate c.args.tail.bodies c.args.body.now c.requires.body _ (c.as_slice.ensures.value ∙ c.lay_out.ensures.bytes) _ _ _ _ c.requires.closed
    c.in_ok-write.ensures.written c.in_ok-sync.ensures.durable c.in_err-write-2.ensures.torn

pub returns-in_err-sync-2-clause-images : goal.returns-in_err-sync-2-clause-images
returns-in_err-sync-2-clause-images g c =
    every-same _ _ _ c.in_err-sync-2.ensures.unchanged
    (gate_written c.args.tail.gate c.args.tail.bodies c.args.body.now c.requires.body _ (c.as_slice.ensures.value ∙ c.lay_out.ensures.bytes) _ _ _ _ c.requires.closed
    c.in_ok-write.ensures.written c.in_ok-sync.ensures.durable c.in_ok-write-2.ensures.written)

pub returns-clause-added : goal.returns-clause-added
returns-clause-added g c =
    (gate_closed c.args.tail.gate c.args.tail.bodies c.args.body.now c.requires.body _ (c.as_slice.ensures.value ∙ c.lay_out.ensures.bytes) _ _ _ _ _ c.requires.closed
    c.in_ok-write.ensures.written c.in_ok-sync.ensures.durable c.in_ok-write-2.ensures.written c.in_ok-sync-2.ensures.durable).0

pub returns-clause-closed : goal.returns-clause-closed
returns-clause-closed g c =
    (gate_closed c.args.tail.gate c.args.tail.bodies c.args.body.now c.requires.body _ (c.as_slice.ensures.value ∙ c.lay_out.ensures.bytes) _ _ _ _ _ c.requires.closed
    c.in_ok-write.ensures.written c.in_ok-sync.ensures.durable c.in_ok-write-2.ensures.written c.in_ok-sync-2.ensures.durable).1

pub returns-clause-images : goal.returns-clause-images
returns-clause-images g c =
    let done = gate_closed c.args.tail.gate c.args.tail.bodies c.args.body.now c.requires.body _ (c.as_slice.ensures.value ∙ c.lay_out.ensures.bytes) _ _ _ _ _ c.requires.closed
    c.in_ok-write.ensures.written c.in_ok-sync.ensures.durable c.in_ok-write-2.ensures.written c.in_ok-sync-2.ensures.durable in
    closed-changed _ _ _ _ _ done.0 done.1
