use Rattle.std.proofs.Common.{◌++◌, ◌∷◌, [], sym, subst}
use Rattle.command_layout.specs.CommandRows.{command_rows}
use Rattle.command_codecs.specs.declared.machine.CommandMachine.{CommandMachine}
use Rattle.command_codecs.specs.Machines.{Answers}
use Rattle.command_codecs.proofs.MachineSteps.{answered}
use Rattle.command_codecs.proofs.machine.CommandMachine.push.Goals as goal

pub returns-clause-answers : goal.returns-clause-answers
returns-clause-answers g c total way bytes h =
    let m : CommandMachine = record { machine = c.push.new.self } in
    let rows = command_rows way total in
    let all = bytes ++ c.args.byte ∷ [] in
    subst (Answers m total way all) (sym c.of.ensures) (answered m way total all c.push.result (c.push.ensures.answers total rows bytes h) (c.push.ensures.goes_on total rows bytes h))
