-- What is printed of a server that has served, to the byte (this project's own).
use Rattle.std.specs.Prelude.{ℕ, ◌+◌, List, [], ◌∷◌, ◌++◌, length, Option, None, Some, codes, decimal}
use Rattle.avl_values.specs.Imei.{imei_text}
use Rattle.fmb_text.specs.Ends.{server_end_words}
use Rattle.session_core.specs.declared.served.Served.{Served}
use Rattle.session_core.specs.declared.served.SessionEnd.{SessionEnd}
use Rattle.session_core.specs.declared.served.SessionEnd.TheVariants as Session
use Rattle.server_loop.specs.declared.report.WorkerReport.{WorkerReport}
use Rattle.shelf.specs.Archive.{StoredValue, devices_of}
use Rattle.trial_model.specs.declared.outcome.ServerEnd.{ServerEnd}
use Rattle.trial_model.specs.declared.outcome.ServerEnd.TheVariants as Server

-- how a session ended, as a trial says it
abbrev pub end_of : SessionEnd → ServerEnd
end_of Session.Ended = Server.Ended
end_of (Session.EndedInside have) = Server.EndedInside have
end_of Session.LinkFault = Server.LinkFault
end_of (Session.Broken found) = Server.Broken found
end_of (Session.Unknown imei) = Server.Unknown imei
end_of (Session.MediumFault faults) = Server.MediumFault faults
end_of (Session.Down faults) = Server.Down faults
end_of (Session.LongEnough taken) = Server.LongEnough taken
end_of Session.NoMemory = Server.NoMemory

-- the IMEI of the session's login, or `-` where none was heard
abbrev pub login_words : Option ℕ → List ℕ
login_words None = codes "-"
login_words (Some imei) = imei_text imei

-- `session W I IMEI END`
unfoldable pub session_line : ℕ → ℕ → Served → List ℕ
session_line worker number s = codes "session " ++ decimal worker ++ codes " " ++ decimal number ++ codes " " ++ login_words s.imei
    ++ codes " " ++ server_end_words (end_of s.end) ++ codes "\n"

-- one line for each session of a worker, of which the first has this number
abbrev pub session_lines : ℕ → ℕ → List Served → List ℕ
session_lines worker number [] = []
session_lines worker number (s ∷ ss) = session_line worker number s ++ session_lines worker (number + 1) ss

-- the lines of each worker, of which the first has this number
abbrev pub worker_lines : ℕ → List WorkerReport → List ℕ
worker_lines worker [] = []
worker_lines worker (r ∷ rs) = session_lines worker 1 r.served ++ worker_lines (worker + 1) rs

-- `archive records N devices D`
unfoldable pub archive_line : List StoredValue → List ℕ
archive_line list = codes "archive records " ++ decimal (length list) ++ codes " devices " ++ decimal (devices_of list) ++ codes "\n"

-- each worker's sessions in order, and then what the archive has; workers and sessions are counted from 1
abbrev pub serve_lines : List WorkerReport → List StoredValue → List ℕ
serve_lines reports list = worker_lines 1 reports ++ archive_line list
