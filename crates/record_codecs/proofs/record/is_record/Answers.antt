use Rattle.std.proofs.Common.{◌≡◌, length, Some, arith, ap, ◌∙◌, sym, eq-eqb}
use Rattle.std.proofs.lemmas.Bool.{eqb-true, false≢true}
use Rattle.layout.proofs.Numbers.{are_bytes}
use Rattle.record_codecs.proofs.RecordSteps.{some_from_front, front_from_some}
use Rattle.record_codecs.proofs.record.is_record.Goals as goal

pub returns-in-Some : goal.returns-in-Some
returns-in-Some c =
    let bytes = c.args.bytes.now in (
      λ t. some_from_front c.args.codec bytes (are_bytes bytes (λ i. omega (arith, c.type_inv.bytes i)))
          (ap (λ n. Some n) (sym (eqb-true c.in-Some.length (length bytes) t)) ∙ c.in-Some.ensures.end),
      λ some. let e = c.in-Some.ensures.end ∙ front_from_some c.args.codec bytes some in let n : c.in-Some.length ≡ length bytes = cc in eq-eqb c.in-Some.length (length bytes) n,
    )

pub returns-in-None : goal.returns-in-None
returns-in-None c = (λ t. absurd (false≢true t), λ some. let e = c.in-None.ensures.end ∙ front_from_some c.args.codec c.args.bytes.now some in absurd (cc))
