use Rattle.record_codecs.proofs.tests.machine_answers_what_scan_does_on_cut_bodies.Given as goal

abbrev pub ghosts-both : goal.ghosts-both
ghosts-both g a = record { name = a.blank.name; parts = a.blank.parts }
