use Rattle.std.proofs.Common.{subst}
use Rattle.journey_script.specs.Grammar.{Refuses, script_of}
use Rattle.fmb_trial.proofs.JudgeLemmas.{judged_unplayed, judged_wanting}
use Rattle.fmb_trial.proofs.judging.judge.Goals as goal

pub returns-in-Err-Line : goal.returns-in-Err-Line
returns-in-Err-Line g c =
    judged_unplayed c.args.text.now c.args.brief _ (g.H.Host.view c.args.host.now) (g.H.Host.view c.refuse.new.host) c.refuse.ensures.among
    (λ e. record {
      refusal = record { line = c.in-Err-Line.line; kind = c.in-Err-Line.kind };
      is_fault = subst (Refuses (script_of c.args.text.now)) c.in-Err-Line.field-0-is c.in-Err-Line.ensures.refused;
      printed = c.refuse.ensures.refused e;
    })
    c.refuse.ensures.no_memory c.refuse.ensures.others

pub returns-in-Err-NoMemory : goal.returns-in-Err-NoMemory
returns-in-Err-NoMemory g c =
    judged_wanting c.args.text.now c.args.brief _ (g.H.Host.view c.args.host.now) (g.H.Host.view c.give_up.new.host) c.give_up.ensures.status c.give_up.ensures.line c.give_up.ensures.others
