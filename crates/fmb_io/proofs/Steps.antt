-- A text that was opened, read and given back, and lines that were printed: what that comes to on the host.
use Rattle.std.proofs.Common.{◌≡◌, ◌+◌, ◌<◌, ℕ, List, [], ◌∷◌, IfSome, refl, sym, ◌∙◌, ap, subst, arith}
use Rattle.std.proofs.lemmas.Bool.{ne_eqb}
use Rattle.text_streams.specs.States.{SourceState, SinkState}
use Rattle.text_streams.specs.Writes as writes
use Rattle.fmb_host.specs.declared.host.Counts.{Counts}
use Rattle.fmb_host.specs.Host.{HostView, HandsOut, TakesBack, counted_once}
use Rattle.fmb_host.proofs.Stocks.{passes_along, passes_one}
use Rattle.fmb_io.specs.Printed.{Prints}
use Rattle.fmb_io.specs.Text.{IsOpened, IsReadOf, IsReturned, IsTextOf, ReadsText}

-- a text that was handed out and came back, the sink used meanwhile
module _ (before mid used after : HostView) (last : SinkState) (source read : SourceState) where
  pub used_and_back : (P : SourceState → Type 0) → HandsOut before source mid → used ≡ record mid { sink = last } → TakesBack used read after → P read → IsReturned P before after
  used_and_back P out only back holds = record {
    source = source;
    read = read;
    passes = passes_one source read before.texts used.texts after.texts (rw (← (ap (λ h. h.texts) only)) at out.texts) back.texts;
    holds = holds;
  }

  pub opened_and_used : (word text : List ℕ) → HandsOut before source mid → IfSome source.name (λ told. told ≡ word) → used ≡ record mid { sink = last } → TakesBack used read after
      → IsTextOf source.left text → IsOpened word text before after
  opened_and_used word text out named only back told = record {
    source = source;
    next = rw (← (back.texts.coming ∙ ap (λ h. h.texts.coming) only)) at out.texts.first;
    named = named;
    bytes = told;
  }

  -- what was done on its sink was done on the host's
  pub on_sink : (P : SinkState → SinkState → Type 0) (first : SinkState) → first ≡ mid.sink → HandsOut before source mid → used ≡ record mid { sink = last } → TakesBack used read after
      → P first last → P before.sink after.sink
  on_sink P first lent out only back holds =
      let begins : before.sink ≡ first = sym (lent ∙ ap (λ h. h.sink) out.others) in
      let ends : after.sink ≡ last = ap (λ h. h.sink) back.others ∙ ap (λ h. h.sink) only in
      rw begins (rw ends holds)

  pub counted_back : HandsOut before source mid → used ≡ record mid { sink = last } → TakesBack used read after
      → after.counts ≡ record before.counts { texts = counted_once before.counts.texts read.faults }
  counted_back out only back =
      let same : used.counts ≡ before.counts = ap (λ h. h.counts) only ∙ ap (λ h. h.counts) out.others in
      ap (λ h. h.counts) back.others ∙ ap (λ (k : Counts). record k { texts = counted_once k.texts read.faults }) same

  pub kept_back : HandsOut before source mid → used ≡ record mid { sink = last } → TakesBack used read after → after.kept ≡ before.kept
  kept_back out only back = ap (λ h. h.kept) back.others ∙ ap (λ h. h.kept) only ∙ ap (λ h. h.kept) out.others

pub once_none : (count faults : ℕ) → faults ≡ 0 → counted_once count faults ≡ count
once_none count faults none = rw none refl

pub once_some : (count faults : ℕ) → 0 < faults → counted_once count faults ≡ count + 1
once_some count faults some = rw (ne_eqb faults 0 (λ none. omega arith)) refl

-- a text that was handed out and came back
pub there_and_back : (before mid after : HostView) (source read : SourceState) (P : SourceState → Type 0) → HandsOut before source mid → TakesBack mid read after → P read → IsReturned P before after
there_and_back before mid after source read P out back holds = used_and_back before mid mid after mid.sink source read P out refl back holds

-- a text that was handed out, read and taken back
pub read_whole : (word text : List ℕ) (before mid after : HostView) (source read : SourceState)
    → HandsOut before source mid → IfSome source.name (λ told. told ≡ word) → IsReadOf source.left text → TakesBack mid read after → ReadsText word text before after
read_whole word text before mid after source read out named got back = record {
  source = source;
  next = rw (← back.texts.coming) at out.texts.first;
  named = named;
  read = got;
}

-- a line that was printed on a host was printed on one with the same sink
pub prints_on : (line : List ℕ) (before mid after : HostView) → mid.sink ≡ before.sink → Prints line mid after → Prints line before after
prints_on line before mid after same printed = subst (λ s. writes.Prints line s after.sink) same printed

-- what was handed out and came back stays so where the texts don't change
pub returned_along : (P : SourceState → Type 0) (before mid after : HostView) → IsReturned P before mid → after.texts ≡ mid.texts → IsReturned P before after
returned_along P before mid after returned texts = record {
  source = returned.source;
  read = returned.read;
  passes = passes_along (returned.source ∷ []) (returned.read ∷ []) before.texts mid.texts after.texts returned.passes texts;
  holds = returned.holds;
}
