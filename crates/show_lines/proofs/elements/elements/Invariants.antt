use Rattle.record_codecs.specs.Views.{ios_left}
use Rattle.show_lines.specs.Tokens.{element_tokens}
use Rattle.show_lines.proofs.ListsSent.{SendsFront}
use Rattle.show_lines.proofs.elements.elements.Given as goal

abbrev pub invariant-loop-io : goal.invariant-loop-io
invariant-loop-io g l =
    SendsFront element_tokens (ios_left l.initial.io-iterator) (ios_left l.io-iterator) (g.S.Serializer.written l.initial.out) (g.S.Serializer.written l.out)
