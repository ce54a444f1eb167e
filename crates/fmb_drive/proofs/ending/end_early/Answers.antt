use Rattle.std.proofs.Common.{refl}
use Rattle.fmb_drive.proofs.Stopping.{early_host, early_medium, early_sequence, early_size}
use Rattle.fmb_drive.proofs.ending.end_early.Goals as goal

pub returns-in-MediumFault : goal.returns-in-MediumFault
returns-in-MediumFault g c = early_medium _ _ _ _ c.say.ensures.others c.in-MediumFault.is refl c.say.ensures.line

pub returns-in-HostFault : goal.returns-in-HostFault
returns-in-HostFault g c = early_host _ _ _ _ c.say-in-HostFault.ensures.others c.in-HostFault.is refl c.say-in-HostFault.ensures.line

pub returns-in-Sequence : goal.returns-in-Sequence
returns-in-Sequence g c = early_sequence _ _ _ _ c.say-in-Sequence.ensures.others c.in-Sequence.is refl c.say-in-Sequence.ensures.line

pub returns-in-Size : goal.returns-in-Size
returns-in-Size g c =
    early_size c.size_text.result (λ v. v.items) _ _ _ _ _ _ c.in-Size.is c.size_text.ensures c.refuse_flash.ensures.status c.refuse_flash.ensures.line c.refuse_flash.ensures.no_memory_status c.refuse_flash.ensures.no_memory
    c.refuse_flash.ensures.others
