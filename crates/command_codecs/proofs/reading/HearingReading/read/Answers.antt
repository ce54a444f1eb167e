use Rattle.std.proofs.Common.{length, sym}
use Rattle.command_codecs.specs.CommandCursor.{heard, left_of}
use Rattle.command_codecs.specs.Reading.{heard_of, left_as}
use Rattle.command_codecs.proofs.CommandSteps.{breaks_here, stands_on}
use Rattle.command_codecs.proofs.reading.HearingReading.read.Goals as goal

pub returns-in-Ok-clause-follows : goal.returns-in-Ok-clause-follows
returns-in-Ok-clause-follows c here (v, e, says) =
    let at = c.args.self.at in
    let field = c.args.field.now in
    let width = left_as (left_of at) (heard_of c.args.self) (length field) c.requires in
    let on = stands_on c.args.self.way c.args.self.total at c.in-Ok.at v here field e (c.in-Ok.ensures.follows v field width (λ few. sym (c.number-value.ensures.value few))) in
    (on.0, (heard at v field, on.1, (c.heard.ensures v field width (λ few. sym (c.number-value.ensures.value few)) says.0, c.text_heard.ensures v field width says.1)))

pub returns-in-Err-clause-follows : goal.returns-in-Err-clause-follows
returns-in-Err-clause-follows c here (v, e, says) =
    let at = c.args.self.at in
    let field = c.args.field.now in
    let width = left_as (left_of at) (heard_of c.args.self) (length field) c.requires in
    breaks_here c.args.self.way c.args.self.total at c.in-Err.kind v here field e (c.in-Err.ensures.follows v field width (λ few. sym (c.number-value.ensures.value few)))
