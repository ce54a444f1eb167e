use Rattle.fmb_run.proofs.ShowLemmas.{ran_show, unopened_show}
use Rattle.fmb_run.proofs.running.show_file.Goals as goal

pub returns-in_default-clause-ran : goal.returns-in_default-clause-ran
returns-in_default-clause-ran g c = unopened_show _ _ _ _ c.in_default.ensures.failed c.say.ensures.line c.say.ensures.others

pub returns-clause-ran : goal.returns-clause-ran
returns-clause-ran g c =
    ran_show _ _ _ _ _ _ _ _ _ _ c.in-Ok.ensures.handed c.in-Ok.ensures.fresh c.in-Ok.ensures.named c.out.ensures.value (g.met.H.Host.lends_sink _ _) c.text_back.ensures (record {
      among = c.run_show-status.ensures.among;
      shown_whole = c.run_show-status.ensures.shown;
      sink_steady = c.run_show-status.ensures.sink_steady;
      at_end = c.run_show-status.ensures.at_end;
      faulty = c.run_show-status.ensures.faulty;
      source_cause = c.run_show-status.ensures.source_cause;
      source_line = c.run_show-status.ensures.source_line;
      passed = c.run_show-status.ensures.passed;
      cut_off = c.run_show-status.ensures.cut_off;
      sink_cause = c.run_show-status.ensures.sink_cause;
      no_memory = c.run_show-status.ensures.no_memory;
    })
