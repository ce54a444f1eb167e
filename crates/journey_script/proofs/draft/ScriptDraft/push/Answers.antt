use Rattle.std.proofs.Common.{arith, sym, subst}
use Rattle.journey_script.specs.Compact.{IsNumbered}
use Rattle.journey_script.proofs.DraftLemmas.{numbered_push}
use Rattle.journey_script.proofs.draft.ScriptDraft.push.Goals as goal

pub invariant_of-self-2 : goal.invariant_of-self-2
invariant_of-self-2 c =
    subst IsNumbered (sym c.in_ok-push.ensures.items)
    (numbered_push c.self.inside.lines.items _ c.self.invariant c.in_ok-line.ensures.few (omega (arith, c.len.ensures)))
