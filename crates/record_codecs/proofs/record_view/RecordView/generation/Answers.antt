use Rattle.std.proofs.Common.{Some, ap, sym, subst, ◌∙◌}
use Rattle.record_layout.specs.Spelling.{IsRecord}
use Rattle.record_codecs.specs.Shown.{generation_in}
use Rattle.record_codecs.proofs.RecordReads.{generation_is}
use Rattle.record_codecs.proofs.record_view.RecordView.generation.Goals as goal

pub returns-in-C16-clause-says : goal.returns-in-C16-clause-says
returns-in-C16-clause-says c v shows =
    let bytes = c.args.self.now.bytes.now in
    let here = subst (λ k. IsRecord k v bytes) c.in-C16.is shows in
    ap (λ n. Some n) (c.number_at.ensures.value ∙ generation_is v bytes here) ∙ ap (λ k. generation_in k v) (sym c.in-C16.is)
