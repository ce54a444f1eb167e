use Rattle.worked_rows.proofs.frames.a_million_bytes_one_by_one.Given as goal

abbrev pub ghosts-long_stream : goal.ghosts-long_stream
ghosts-long_stream g a = record { name = a.blank.name; parts = a.blank.parts }
