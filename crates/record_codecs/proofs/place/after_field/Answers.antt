use Rattle.std.proofs.Common.{Some, None, Ok, refl, ap, subst, arith}
use Rattle.record_codecs.specs.declared.place.PacketPlace.TheVariants as cursor
use Rattle.record_codecs.specs.RecordCursor.{rows_in, weight_from, FollowsIn}
use Rattle.record_codecs.proofs.BodyTurns.{field_turns, field_fails, field_follows, after_records}
use Rattle.record_codecs.proofs.place.after_field.Goals as goal

pub returns-in-Ok-Some-clause-follows : goal.returns-in-Ok-Some-clause-follows
returns-in-Ok-Some-clause-follows c field width reads =
    field_follows c.args.head c.args.left c.args.at field (Some c.in-Ok-Some.next) (cursor.Record c.args.head c.args.left c.in-Ok-Some.next)
    (subst (λ o. FollowsIn (rows_in c.args.at) field (Ok o)) c.in-Ok-Some.field-0-is (c.in-Ok-Some.ensures.follows field width reads)) refl

pub returns-in-Ok-None-clause-follows : goal.returns-in-Ok-None-clause-follows
returns-in-Ok-None-clause-follows c field width reads =
    field_follows c.args.head c.args.left c.args.at field None c.next_record.result
    (subst (λ o. FollowsIn (rows_in c.args.at) field (Ok o)) c.in-Ok-None.field-0-is (c.in-Ok-None.ensures.follows field width reads))
    (after_records c.args.head c.args.left c.next_record.result c.next_record.ensures.rows)

pub returns-in-Err-clause-follows : goal.returns-in-Err-clause-follows
returns-in-Err-clause-follows c field width reads =
    field_fails c.args.head c.args.left c.args.at field c.in-Err.kind (c.in-Err.ensures.follows field width reads)

pub returns-in-Ok-Some-clause-turns : goal.returns-in-Ok-Some-clause-turns
returns-in-Ok-Some-clause-turns c = omega (arith, field_turns c.args.head c.args.left c.in-Ok-Some.next, field_turns c.args.head c.args.left c.args.at, ap weight_from c.in-Ok-Some.field-0-is, c.in-Ok-Some.ensures.turns)

pub returns-in-Ok-None-clause-turns : goal.returns-in-Ok-None-clause-turns
returns-in-Ok-None-clause-turns c = omega (arith, c.next_record.ensures.turns, field_turns c.args.head c.args.left c.args.at, c.in-Ok-None.ensures.turns)
