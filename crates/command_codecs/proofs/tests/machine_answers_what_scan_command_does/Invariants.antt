use Rattle.command_codecs.proofs.tests.machine_answers_what_scan_command_does.Given as goal

abbrev pub ghosts-both : goal.ghosts-both
ghosts-both g a = record { name = a.blank.name; parts = a.blank.parts }
