use Rattle.std.proofs.Common.{◌++◌, ◌∷◌, []}
use Rattle.record_layout.specs.PacketRows.{packet_rows}
use Rattle.record_codecs.specs.declared.machine.RecordMachine.{RecordMachine}
use Rattle.record_codecs.proofs.MachineSteps.{answered}
use Rattle.record_codecs.proofs.machine.RecordMachine.push.Goals as goal

pub returns-clause-answers : goal.returns-clause-answers
returns-clause-answers g c total bytes h =
    let m : RecordMachine = record { machine = c.push.new.self } in
    answered m total (bytes ++ c.args.byte ∷ []) c.push.result (c.push.ensures.answers total packet_rows bytes h) (c.push.ensures.goes_on total packet_rows bytes h)
