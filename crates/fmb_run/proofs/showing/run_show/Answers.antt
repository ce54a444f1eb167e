use Rattle.std.proofs.Common.{◌≡◌, true, false, sym, ap, ◌∙◌}
use Rattle.text_streams.specs.Writes.{Prints, PrintsFront, PrintsWhole}
use Rattle.fmb_io.specs.Printed.{and_no_memory}
use Rattle.fmb_run.proofs.ReadLemmas.{ended_at, fronts_of_whole, no_front, of_told, of_whole}
use Rattle.fmb_run.proofs.showing.run_show.Goals as goal

pub returns-in-Done-clause-shown : goal.returns-in-Done-clause-shown
returns-in-Done-clause-shown g c = λ e. of_whole _ _ (λ p. (p.faulty ≡ false) × PrintsWhole p.text (g.K.Sink.state c.args.sink.now) (g.K.Sink.state c.show_capture.new.sink)) c.in-Ok.ensures.text (rw c.deref.ensures.value at c.show_capture.ensures.done c.in-Done.is)

pub returns-in-Done-clause-at_end : goal.returns-in-Done-clause-at_end
returns-in-Done-clause-at_end g c = λ e. ended_at _ _ c.in-Ok.ensures.end (rw c.deref.ensures.value at (c.show_capture.ensures.done c.in-Done.is).0)

pub returns-in-Fault-clause-faulty : goal.returns-in-Fault-clause-faulty
returns-in-Fault-clause-faulty g c = λ e. of_whole _ _ (λ p. (p.faulty ≡ true) × Prints p.text (g.K.Sink.state c.args.sink.now) (g.K.Sink.state c.show_capture.new.sink)) c.in-Ok.ensures.text (rw c.deref.ensures.value at c.show_capture.ensures.fault c.in-Fault.is)

pub returns-in-Fault-clause-complete : goal.returns-in-Fault-clause-complete
returns-in-Fault-clause-complete g c = λ text told clean steady quiet.
    let shows : true ≡ false = sym (rw c.deref.ensures.value at (c.show_capture.ensures.fault c.in-Fault.is).0) ∙ sym (ap (λ p. p.faulty) (of_told _ _ text c.in-Ok.ensures.text told)) ∙ clean in
    absurd (let never : true ≡ false = shows in cc)

pub returns-in-Done-clause-complete_fault : goal.returns-in-Done-clause-complete_fault
returns-in-Done-clause-complete_fault g c = λ text told faulty steady.
    let shows : true ≡ false = sym faulty ∙ ap (λ p. p.faulty) (of_told _ _ text c.in-Ok.ensures.text told) ∙ rw c.deref.ensures.value at (c.show_capture.ensures.done c.in-Done.is).0 in
    absurd (let never : true ≡ false = shows in cc)

pub returns-in-SinkFault-clause-cut_off : goal.returns-in-SinkFault-clause-cut_off
returns-in-SinkFault-clause-cut_off g c = λ e. of_whole _ _ (λ p. (p.faulty ≡ false) × PrintsFront p.text (g.K.Sink.state c.args.sink.now) (g.K.Sink.state c.show_capture.new.sink)) c.in-Ok.ensures.text (rw c.deref.ensures.value at c.show_capture.ensures.sink_fault c.in-SinkFault.is)

pub returns-in-SinkFault-clause-at_end : goal.returns-in-SinkFault-clause-at_end
returns-in-SinkFault-clause-at_end g c = λ e. ended_at _ _ c.in-Ok.ensures.end (rw c.deref.ensures.value at (c.show_capture.ensures.sink_fault c.in-SinkFault.is).0)

pub returns-in-SinkFault-clause-complete_fault : goal.returns-in-SinkFault-clause-complete_fault
returns-in-SinkFault-clause-complete_fault g c = λ text told faulty steady.
    let shows : true ≡ false = sym faulty ∙ ap (λ p. p.faulty) (of_told _ _ text c.in-Ok.ensures.text told) ∙ rw c.deref.ensures.value at (c.show_capture.ensures.sink_fault c.in-SinkFault.is).0 in
    absurd (let never : true ≡ false = shows in cc)

pub returns-in-Ok-clause-no_memory : goal.returns-in-Ok-clause-no_memory
returns-in-Ok-clause-no_memory g c = λ e. fronts_of_whole _ _ (λ front. Prints (and_no_memory front) (g.K.Sink.state c.args.sink.now) (g.K.Sink.state c.show_capture.new.sink)) c.in-Ok.ensures.text (rw c.deref.ensures.value at c.show_capture.ensures.no_memory c.in-NoMemory.is)

pub returns-clause-no_memory : goal.returns-clause-no_memory
returns-clause-no_memory g c = λ e. no_front _ (λ front. Prints (and_no_memory front) (g.K.Sink.state c.args.sink.now) (g.K.Sink.state c.tell-in-Err-NoMemory.new.sink)) c.tell-in-Err-NoMemory.ensures
