-- The status that serving leaves, before its lines are printed (this project's own).
use Rattle.std.specs.Prelude.{ℕ, ◌==◌, ◌||◌, if◌then◌else◌, Bool, true, false, List, [], ◌∷◌}
use Rattle.session_core.specs.declared.served.Served.{Served}
use Rattle.session_core.specs.declared.served.SessionEnd.{SessionEnd}
use Rattle.session_core.specs.declared.served.SessionEnd.TheVariants.{Ended, EndedInside, LinkFault, Broken, Unknown, MediumFault, Down, LongEnough, NoMemory}
use Rattle.server_loop.specs.declared.report.WorkerReport.{WorkerReport}

-- memory ran out in the session
abbrev pub is_out_of_memory : SessionEnd → Bool
is_out_of_memory Ended = false
is_out_of_memory (EndedInside have) = false
is_out_of_memory LinkFault = false
is_out_of_memory (Broken found) = false
is_out_of_memory (Unknown imei) = false
is_out_of_memory (MediumFault faults) = false
is_out_of_memory (Down faults) = false
is_out_of_memory (LongEnough taken) = false
is_out_of_memory NoMemory = true

-- memory ran out in one of these sessions
abbrev pub ran_out : List Served → Bool
ran_out [] = false
ran_out (s ∷ ss) = is_out_of_memory s.end || ran_out ss

-- and in one of these workers' sessions
abbrev pub any_ran_out : List WorkerReport → Bool
any_ran_out [] = false
any_ran_out (r ∷ rs) = ran_out r.served || any_ran_out rs

-- accepting failed at one of these workers' doors
abbrev pub any_door_failed : List WorkerReport → Bool
any_door_failed [] = false
any_door_failed (r ∷ rs) = r.door_failed || any_door_failed rs

-- 6 where the archive's medium has failed, else 9 where memory ran out in a session, else 7 where a door failed, else 0
abbrev pub serving_status : ℕ → List WorkerReport → ℕ
serving_status faults reports =
    if faults == 0 then (if any_ran_out reports then 9 else (if any_door_failed reports then 7 else 0)) else 6
