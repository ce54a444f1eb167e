use Rattle.record_codecs.proofs.Turns.{plain_turn, total_turn, pairs_turn, triples_turn, pairs_fail, triples_fail}
use Rattle.record_codecs.proofs.in_record.RecordState.after_part.Goals as goal

pub returns-in-Plain-clause-follows : goal.returns-in-Plain-clause-follows
returns-in-Plain-clause-follows c field width reads = plain_turn c.args.self c.in-Plain.field-0 c.in-Plain.field-1 c.args.part field c.next_part.result c.in-Plain.is c.next_part.ensures.rows

pub returns-in-Total-clause-follows : goal.returns-in-Total-clause-follows
returns-in-Total-clause-follows c field width reads =
    total_turn c.args.self c.in-Total.field-0 c.args.part field c.args.value c.next_part-in-Total.result c.in-Total.is width reads c.next_part-in-Total.ensures.rows

pub returns-in-None-clause-follows : goal.returns-in-None-clause-follows
returns-in-None-clause-follows c field width reads =
    pairs_fail c.args.self c.in-Pairs.field-0 c.in-Pairs.id c.in-Pairs.width c.args.part field c.args.value c.in-Pairs.is width reads c.in-None.ensures

pub returns-in-Some-clause-follows : goal.returns-in-Some-clause-follows
returns-in-Some-clause-follows c field width reads =
    pairs_turn c.args.self c.in-Pairs.field-0 c.in-Pairs.id c.in-Pairs.width c.args.part field c.args.value c.in-Some.counted c.next_pair.result c.in-Pairs.is width reads c.in-Some.ensures c.next_pair.ensures.rows

pub returns-in-None-counted_with-clause-follows : goal.returns-in-None-counted_with-clause-follows
returns-in-None-counted_with-clause-follows c field width reads =
    triples_fail c.args.self c.in-Triples.field-0 c.in-Triples.id c.in-Triples.length c.args.part field c.args.value c.in-Triples.is width reads c.in-None-counted_with.ensures

pub returns-in-Some-counted_with-clause-follows : goal.returns-in-Some-counted_with-clause-follows
returns-in-Some-counted_with-clause-follows c field width reads =
    triples_turn c.args.self c.in-Triples.field-0 c.in-Triples.id c.in-Triples.length c.args.part field c.args.value c.in-Some-counted_with.counted c.next_triple.result c.in-Triples.is width reads
    c.in-Some-counted_with.ensures c.next_triple.ensures.rows
