use Rattle.std.proofs.Common.{◌++◌, ◌∷◌, List, ℕ, ap, ◌∙◌, arith, decimal, get_or}
use Rattle.journey_script.proofs.WritingLemmas.{values_push}
use Rattle.journey_script.proofs.writer.push_values.Goals as goal

pub loop-value-preserved : goal.loop-value-preserved
loop-value-preserved c =
    let k = c.loop-value.value-index in
    let values = c.args.values.now in
    c.in_ok-push_number.ensures ∙ ap (λ (xs : List ℕ). xs ++ (32 ∷ decimal (get_or values k 0))) c.loop-value.invariant ∙ values_push c.args.text.now.items values k (omega arith)
