use Rattle.std.proofs.Common.{◌≡◌, ◌≤◌, ◌<◌, ◌∷◌, length, drop, sym, ap, ◌∙◌, arith}
use Rattle.avl_values.specs.Width.{bytes_of}
use Rattle.layout.specs.Fields.{times}
use Rattle.record_layout.specs.declared.part.Part.TheVariants.{Plain, Total, Pairs, Triples}
use Rattle.record_layout.specs.RecordRows.{pair_rows, triple_rows, parts_rows}
use Rattle.record_codecs.specs.RecordCursor.{nothing}
use Rattle.record_codecs.proofs.PartSteps.{few_part, past_plain, past_total, past_pairs_count, past_triples_count, bad_pairs_count, bad_triples_count, and_no, and_on, at_none}
use Rattle.record_codecs.proofs.part_walk.PartWalk.past.Goals as goal

pub returns-in_err-rest-in-Plain : goal.returns-in_err-rest-in-Plain
returns-in_err-rest-in-Plain c =
    let s = c.args.self in
    let short : length s.rest.now < bytes_of c.in-Plain.width = omega (arith, c.in_err-rest-in-Plain.ensures) in
    at_none c.from_residual.result _ _ c.from_residual.ensures (few_part c.args.part (Plain c.in-Plain.field-0 c.in-Plain.width) c.args.left.now s.total s.counted s.rest.now c.in-Plain.is short)

pub returns-in_ok-rest-in-Plain : goal.returns-in_ok-rest-in-Plain
returns-in_ok-rest-in-Plain c =
    let s = c.args.self in
    let width : c.from.result ≡ bytes_of c.in-Plain.width = omega arith in
    let fits : bytes_of c.in-Plain.width ≤ length s.rest.now = omega (arith, c.in_ok-rest-in-Plain.ensures.0) in
    past_plain c.args.part c.in-Plain.field-0 c.in-Plain.width c.args.left.now s.total s.counted s.rest.now c.in_ok-rest-in-Plain.rest.now c.in-Plain.is fits (c.in_ok-rest-in-Plain.ensures.1 ∙ ap (λ w. drop w s.rest.now) width)

pub returns-in_err-total-in-Total : goal.returns-in_err-total-in-Total
returns-in_err-total-in-Total c =
    let s = c.args.self in
    at_none c.from_residual-in_err-total-in-Total.result _ _ c.from_residual-in_err-total-in-Total.ensures
    (few_part c.args.part (Total c.in-Total.width) c.args.left.now s.total s.counted s.rest.now c.in-Total.is c.in_err-total-in-Total.ensures)

pub returns-in_ok-total-in-Total : goal.returns-in_ok-total-in-Total
returns-in_ok-total-in-Total c =
    let s = c.args.self in
    past_total c.args.part c.in-Total.width c.args.left.now s.total s.counted c.in_ok-total-in-Total.total s.rest.now c.in_ok-total-in-Total.rest.now c.in-Total.is c.in_ok-total-in-Total.ensures.0 c.in_ok-total-in-Total.ensures.1 c.in_ok-total-in-Total.ensures.2

pub returns-in_err-count-in-Pairs : goal.returns-in_err-count-in-Pairs
returns-in_err-count-in-Pairs c =
    let s = c.args.self in
    at_none c.from_residual-in_err-count-in-Pairs.result _ _ c.from_residual-in_err-count-in-Pairs.ensures
    (few_part c.args.part (Pairs c.in-Pairs.width c.in-Pairs.id c.in-Pairs.value) c.args.left.now s.total s.counted s.rest.now c.in-Pairs.is c.in_err-count-in-Pairs.ensures)

pub returns-in_err-counted-in-Pairs : goal.returns-in_err-counted-in-Pairs
returns-in_err-counted-in-Pairs c =
    let s = c.args.self in
    let count = c.in_ok-count-in-Pairs.count in
    at_none c.from_residual-in_err-counted-in-Pairs.result _ _ c.from_residual-in_err-counted-in-Pairs.ensures
    (bad_pairs_count c.args.part c.in-Pairs.width c.in-Pairs.id c.in-Pairs.value c.args.left.now s.total s.counted count s.rest.now c.in-Pairs.is c.in_ok-count-in-Pairs.ensures.0 c.in_ok-count-in-Pairs.ensures.1
    (sym c.in_err-counted-in-Pairs.was ∙ c.counted_with.ensures))

pub returns-in_err-rest-in-Pairs : goal.returns-in_err-rest-in-Pairs
returns-in_err-rest-in-Pairs c =
    let s = c.args.self in
    let ps = c.args.left.now in
    let id = c.in-Pairs.id in
    let value = c.in-Pairs.value in
    let count = c.in_ok-count-in-Pairs.count in
    let sum = c.in_ok-counted-in-Pairs.counted in
    let behind = c.in_ok-count-in-Pairs.pairs.now in
    let others = parts_rows ps s.total sum nothing in
    let first = past_pairs_count c.args.part c.in-Pairs.width id value ps s.total s.counted count sum s.rest.now behind c.in-Pairs.is c.in_ok-count-in-Pairs.ensures.0 c.in_ok-count-in-Pairs.ensures.1 c.in_ok-count-in-Pairs.ensures.2
    (sym c.in_ok-counted-in-Pairs.was ∙ c.counted_with.ensures) in
    at_none c.from_residual-in_err-rest-in-Pairs.result _ _ c.from_residual-in_err-rest-in-Pairs.ensures
    (and_no (parts_rows (c.args.part ∷ ps) s.total s.counted nothing) (times count (pair_rows id value) others) s.rest.now behind first (c.in_err-rest-in-Pairs.ensures others))

pub returns-in_ok-rest-in-Pairs : goal.returns-in_ok-rest-in-Pairs
returns-in_ok-rest-in-Pairs c =
    let s = c.args.self in
    let ps = c.args.left.now in
    let id = c.in-Pairs.id in
    let value = c.in-Pairs.value in
    let count = c.in_ok-count-in-Pairs.count in
    let sum = c.in_ok-counted-in-Pairs.counted in
    let behind = c.in_ok-count-in-Pairs.pairs.now in
    let others = parts_rows ps s.total sum nothing in
    let first = past_pairs_count c.args.part c.in-Pairs.width id value ps s.total s.counted count sum s.rest.now behind c.in-Pairs.is c.in_ok-count-in-Pairs.ensures.0 c.in_ok-count-in-Pairs.ensures.1 c.in_ok-count-in-Pairs.ensures.2
    (sym c.in_ok-counted-in-Pairs.was ∙ c.counted_with.ensures) in
    and_on (parts_rows (c.args.part ∷ ps) s.total s.counted nothing) (times count (pair_rows id value) others) others s.rest.now behind c.in_ok-rest-in-Pairs.rest.now first (c.in_ok-rest-in-Pairs.ensures others)

pub returns-in_err-count-in-Triples : goal.returns-in_err-count-in-Triples
returns-in_err-count-in-Triples c =
    let s = c.args.self in
    at_none c.from_residual-in_err-count-in-Triples.result _ _ c.from_residual-in_err-count-in-Triples.ensures
    (few_part c.args.part (Triples c.in-Triples.width c.in-Triples.id c.in-Triples.length) c.args.left.now s.total s.counted s.rest.now c.in-Triples.is c.in_err-count-in-Triples.ensures)

pub returns-in_err-counted-in-Triples : goal.returns-in_err-counted-in-Triples
returns-in_err-counted-in-Triples c =
    let s = c.args.self in
    let count = c.in_ok-count-in-Triples.count in
    at_none c.from_residual-in_err-counted-in-Triples.result _ _ c.from_residual-in_err-counted-in-Triples.ensures
    (bad_triples_count c.args.part c.in-Triples.width c.in-Triples.id c.in-Triples.length c.args.left.now s.total s.counted count s.rest.now c.in-Triples.is c.in_ok-count-in-Triples.ensures.0 c.in_ok-count-in-Triples.ensures.1
    (sym c.in_err-counted-in-Triples.was ∙ c.counted_with-in-Triples.ensures))

pub returns-in_err-rest-in-Triples : goal.returns-in_err-rest-in-Triples
returns-in_err-rest-in-Triples c =
    let s = c.args.self in
    let ps = c.args.left.now in
    let id = c.in-Triples.id in
    let length = c.in-Triples.length in
    let count = c.in_ok-count-in-Triples.count in
    let sum = c.in_ok-counted-in-Triples.counted in
    let behind = c.in_ok-count-in-Triples.triples.now in
    let others = parts_rows ps s.total sum nothing in
    let first = past_triples_count c.args.part c.in-Triples.width id length ps s.total s.counted count sum s.rest.now behind c.in-Triples.is c.in_ok-count-in-Triples.ensures.0 c.in_ok-count-in-Triples.ensures.1 c.in_ok-count-in-Triples.ensures.2
    (sym c.in_ok-counted-in-Triples.was ∙ c.counted_with-in-Triples.ensures) in
    at_none c.from_residual-in_err-rest-in-Triples.result _ _ c.from_residual-in_err-rest-in-Triples.ensures
    (and_no (parts_rows (c.args.part ∷ ps) s.total s.counted nothing) (times count (triple_rows id length) others) s.rest.now behind first (c.in_err-rest-in-Triples.ensures others))

pub returns-in_ok-rest-in-Triples : goal.returns-in_ok-rest-in-Triples
returns-in_ok-rest-in-Triples c =
    let s = c.args.self in
    let ps = c.args.left.now in
    let id = c.in-Triples.id in
    let length = c.in-Triples.length in
    let count = c.in_ok-count-in-Triples.count in
    let sum = c.in_ok-counted-in-Triples.counted in
    let behind = c.in_ok-count-in-Triples.triples.now in
    let others = parts_rows ps s.total sum nothing in
    let first = past_triples_count c.args.part c.in-Triples.width id length ps s.total s.counted count sum s.rest.now behind c.in-Triples.is c.in_ok-count-in-Triples.ensures.0 c.in_ok-count-in-Triples.ensures.1 c.in_ok-count-in-Triples.ensures.2
    (sym c.in_ok-counted-in-Triples.was ∙ c.counted_with-in-Triples.ensures) in
    and_on (parts_rows (c.args.part ∷ ps) s.total s.counted nothing) (times count (triple_rows id length) others) others s.rest.now behind c.in_ok-rest-in-Triples.rest.now first (c.in_ok-rest-in-Triples.ensures others)
