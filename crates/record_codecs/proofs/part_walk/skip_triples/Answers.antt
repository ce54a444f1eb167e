use Rattle.std.proofs.Common.{◌≡◌, ◌-◌, ◌<◌, ◌≤◌, length, drop, ap, subst, ◌∙◌, arith}
use Rattle.avl_values.specs.Width.{bytes_of}
use Rattle.record_codecs.specs.PartWalk.{EndsWith}
use Rattle.record_codecs.proofs.PartSteps.{triples, few_ids, past_id, few_lengths, past_length, few_texts, past_text, and_no, and_on, at_none}
use Rattle.record_codecs.proofs.part_walk.skip_triples.Goals as goal

pub returns-in_err-behind_id : goal.returns-in_err-behind_id
returns-in_err-behind_id c rows =
    let n = c.loop-left.left in
    let rest = c.loop-left.rest.now in
    let some : 0 < n = omega arith in
    let short : length rest < bytes_of c.args.id = omega (arith, c.in_err-behind_id.ensures) in
    at_none c.from_residual.result _ _ c.from_residual.ensures
    (and_no (triples c.args.count c.args.id c.args.length rows) (triples n c.args.id c.args.length rows) c.args.bytes.now rest (c.loop-left.invariant rows) (few_ids n c.args.id c.args.length rows rest some short))

pub returns-in_err-size : goal.returns-in_err-size
returns-in_err-size c rows =
    let n = c.loop-left.left in
    let id = c.args.id in
    let rest = c.loop-left.rest.now in
    let behind = c.in_ok-behind_id.behind_id.now in
    let some : 0 < n = omega arith in
    let width : c.from.result ≡ bytes_of id = omega arith in
    let fits : bytes_of id ≤ length rest = omega (arith, c.in_ok-behind_id.ensures.0) in
    let first = past_id n id c.args.length rows rest behind some fits (c.in_ok-behind_id.ensures.1 ∙ ap (λ w. drop w rest) width) in
    at_none c.from_residual-in_err-size.result _ _ c.from_residual-in_err-size.ensures
    (and_no (triples c.args.count id c.args.length rows) (triples n id c.args.length rows) c.args.bytes.now rest (c.loop-left.invariant rows) (few_lengths n id c.args.length rows rest behind first c.in_err-size.ensures))

pub returns-in_err-rest : goal.returns-in_err-rest
returns-in_err-rest c rows =
    let n = c.loop-left.left in
    let id = c.args.id in
    let rest = c.loop-left.rest.now in
    let behind = c.in_ok-behind_id.behind_id.now in
    let text = c.in_ok-size.text.now in
    let size = c.in_ok-size.size in
    let some : 0 < n = omega arith in
    let width : c.from.result ≡ bytes_of id = omega arith in
    let fits : bytes_of id ≤ length rest = omega (arith, c.in_ok-behind_id.ensures.0) in
    let first = past_id n id c.args.length rows rest behind some fits (c.in_ok-behind_id.ensures.1 ∙ ap (λ w. drop w rest) width) in
    let second = past_length n id c.args.length rows rest behind text size first c.in_ok-size.ensures.0 c.in_ok-size.ensures.1 c.in_ok-size.ensures.2 in
    at_none c.from_residual-in_err-rest.result _ _ c.from_residual-in_err-rest.ensures
    (and_no (triples c.args.count id c.args.length rows) (triples n id c.args.length rows) c.args.bytes.now rest (c.loop-left.invariant rows) (few_texts n id c.args.length rows rest text size second c.in_err-rest.ensures))

pub loop-left-preserved : goal.loop-left-preserved
loop-left-preserved c rows =
    let n = c.loop-left.left in
    let id = c.args.id in
    let rest = c.loop-left.rest.now in
    let behind = c.in_ok-behind_id.behind_id.now in
    let text = c.in_ok-size.text.now in
    let size = c.in_ok-size.size in
    let some : 0 < n = omega arith in
    let width : c.from.result ≡ bytes_of id = omega arith in
    let fits : bytes_of id ≤ length rest = omega (arith, c.in_ok-behind_id.ensures.0) in
    let first = past_id n id c.args.length rows rest behind some fits (c.in_ok-behind_id.ensures.1 ∙ ap (λ w. drop w rest) width) in
    let second = past_length n id c.args.length rows rest behind text size first c.in_ok-size.ensures.0 c.in_ok-size.ensures.1 c.in_ok-size.ensures.2 in
    let third = past_text n id c.args.length rows rest text c.in_ok-rest.rest.now size second c.in_ok-rest.ensures.0 c.in_ok-rest.ensures.1 in
    and_on (triples c.args.count id c.args.length rows) (triples n id c.args.length rows) (triples (n - 1) id c.args.length rows) c.args.bytes.now rest c.in_ok-rest.rest.now (c.loop-left.invariant rows) third

pub returns : goal.returns
returns c rows =
    let none : c.loop-left.left ≡ 0 = omega arith in
    subst (λ k. EndsWith (triples c.args.count c.args.id c.args.length rows) c.args.bytes.now (triples k c.args.id c.args.length rows) c.loop-left.rest.now) none (c.loop-left.invariant rows)
