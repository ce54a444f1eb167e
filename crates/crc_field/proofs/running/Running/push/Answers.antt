use Rattle.std.proofs.Common.{ap, ◌∙◌, sym}
use Rattle.crc_field.specs.Crc.{after_byte}
use Rattle.crc_field.proofs.Folds.{crc-push}
use Rattle.crc_field.proofs.running.Running.push.Goals as goal

pub returns-clause-pushed : goal.returns-clause-pushed
returns-clause-pushed c = λ bytes h.
    c.next-self-inside.ensures ∙ ap (λ w. after_byte w c.args.byte) (c.self.view_is ∙ h) ∙ sym (crc-push bytes c.args.byte)
