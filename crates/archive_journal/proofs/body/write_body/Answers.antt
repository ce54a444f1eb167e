-- The body, part by part.
use Rattle.std.proofs.Common.{◌++◌, ◌∙◌, length, ap, refl, arith}
use Rattle.std.specs.Int.{w64, to_be_bytes}
use Rattle.std.proofs.lemmas.List.{take_all}
use Rattle.archive_journal.specs.Body.{entry_in, is_body, joined}
use Rattle.archive_journal.proofs.Spelled.{body-laid, body-written, entry-written, length-body}
use Rattle.archive_journal.proofs.body.write_body.Goals as goal

bytes_is : goal.returns-clause-bytes
bytes_is c =
    body-laid c.args.imei _ c.id.result _ c.args.codec c.args.records.now _ _ _ _ _ _ _ c.in_ok-body.ensures.items
    (c.in_ok-extend_from_slice.ensures.items ∙ ap (λ xs. c.in_ok-body.body.items ++ xs) c.to_be_bytes.ensures)
    (c.in_ok-extend_from_slice-2.ensures.items ∙ ap (λ xs. c.extend_from_slice.new.self.items ++ xs) (c.to_be_bytes-2.ensures ∙ ap (λ n. to_be_bytes w64 n) c.number.ensures.value))
    c.in_ok-push.ensures.items c.in_ok-push-2.ensures.items c.loop-record.invariant
    (ap joined (take_all c.loop-record.record-index c.args.records.now c.loop-record-test.false)) (omega (arith, c.joined_len-len.ensures)) c.id.ensures refl

pub returns-clause-bytes : goal.returns-clause-bytes
returns-clause-bytes c = bytes_is c

pub returns-clause-well_formed : goal.returns-clause-well_formed
returns-clause-well_formed c = ap is_body (bytes_is c) ∙ body-written c.args.imei c.args.codec c.args.records.now (omega (arith, c.number.ensures.bound, c.number.ensures.value)) c.requires.entry c.requires.few

pub returns-clause-entry : goal.returns-clause-entry
returns-clause-entry c = ap entry_in (bytes_is c) ∙ entry-written c.args.imei c.args.codec c.args.records.now (omega (arith, c.number.ensures.bound, c.number.ensures.value)) c.requires.entry c.requires.few

pub returns-clause-size : goal.returns-clause-size
returns-clause-size c = ap length (bytes_is c) ∙ length-body c.args.imei c.args.codec c.args.records.now
