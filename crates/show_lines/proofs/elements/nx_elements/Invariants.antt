use Rattle.record_codecs.specs.Views.{nx_left}
use Rattle.show_lines.specs.Tokens.{nx_tokens}
use Rattle.show_lines.proofs.ListsSent.{SendsFront}
use Rattle.show_lines.proofs.elements.nx_elements.Given as goal

abbrev pub invariant-loop-id : goal.invariant-loop-id
invariant-loop-id g l =
    SendsFront nx_tokens (nx_left l.initial.id-iterator) (nx_left l.id-iterator) (g.S.Serializer.written l.initial.out) (g.S.Serializer.written l.out)
