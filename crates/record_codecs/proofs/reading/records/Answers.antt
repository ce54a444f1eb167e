use Rattle.std.proofs.Common.{arith, sym, ap, ◌∙◌, get_or}
use Rattle.record_layout.specs.RecordsOf.{records_in}
use Rattle.record_codecs.proofs.BodyRecords.{read_few, read_unknown, read_known, packet_read, rest_is}
use Rattle.record_codecs.proofs.reading.records.Goals as goal

pub returns-in_default-clause-read : goal.returns-in_default-clause-read
returns-in_default-clause-read c = c.new.ensures ∙ sym (read_few c.args.body.now (omega (arith, c.in_default.len_below)))

pub returns-in-None-clause-read : goal.returns-in-None-clause-read
returns-in-None-clause-read c = c.new-in-None.ensures ∙ sym (read_unknown c.args.body.now (omega (arith, c.in-len2-up.len_at_least)) c.in-None.ensures)

pub returns-in-Some-clause-read : goal.returns-in-Some-clause-read
returns-in-Some-clause-read c = c.new-in-Some.ensures ∙ ap (λ b. records_in c.in-Some.codec (get_or c.args.body.now 1 0) b) (rest_is 2 c.args.body.now) ∙ sym (read_known c.args.body.now c.in-Some.codec (omega (arith, c.in-len2-up.len_at_least)) c.in-Some.ensures)

pub returns-in-Some-clause-packet : goal.returns-in-Some-clause-packet
returns-in-Some-clause-packet c codec rs packet =
    c.new-in-Some.ensures ∙ ap (λ b. records_in c.in-Some.codec (get_or c.args.body.now 1 0) b) (rest_is 2 c.args.body.now) ∙ sym (read_known c.args.body.now c.in-Some.codec (omega (arith, c.in-len2-up.len_at_least)) c.in-Some.ensures) ∙ packet_read codec rs c.args.body.now packet
