-- Worked rows of connections: late bytes, half-open times, and the server's fuse. Each computes.
use Rattle.std.proofs.Common.{◌≡◌, List, [], ◌∷◌, map, refl, true, false}
use Rattle.std.specs.Prelude.{None, Some, Bool}
use Rattle.trial_model.specs.declared.script.ScriptLine.{ScriptLine}
use Rattle.trial_model.specs.declared.script.ScriptLine.TheVariants as Line
use Rattle.trial_model.specs.declared.script.Who.TheVariants as Who
use Rattle.trial_model.specs.Answers.{cover_at}
use Rattle.trial_model.specs.Connections.{connections_of, given_by}
use Rattle.trial_model.proofs.Lines.{device_line, fix, fuse, imei, round, whole_round}

-- a device, a fix, and then these lines
abbrev with_fix : List ScriptLine → List ScriptLine
with_fix lines = device_line 16 ∷ fix 0 ∷ lines

abbrev half_opens : List ScriptLine → List Bool
half_opens lines = map (λ c. c.half_open) (connections_of (with_fix lines))

abbrev restarts : List ScriptLine → List Bool
restarts lines = map (λ c. c.restarted) (connections_of (with_fix lines))

-- four bytes down leave a connection half-open; a whole round doesn't
pub limit_leaves_half_open : half_opens (round None (Some 4) ∷ whole_round ∷ []) ≡ true ∷ false ∷ []
limit_leaves_half_open = refl

-- 30 of 62 bytes up are delivered, and late bytes bring the rest
pub first_bytes : given_by (with_fix (round (Some 30) None ∷ whole_round ∷ [])) 0 62 ≡ 30
first_bytes = refl

pub late_bytes : given_by (with_fix (round (Some 30) None ∷ whole_round ∷ Line.Late 1 None ∷ [])) 0 62 ≡ 62
late_bytes = refl

pub some_late_bytes : given_by (with_fix (round (Some 40) None ∷ Line.Late 1 (Some 5) ∷ Line.Close 1 ∷ [])) 0 62 ≡ 45
some_late_bytes = refl

-- a connection that was closed, and one that never was half-open, get no late bytes
pub closed_gets_none : given_by (with_fix (round (Some 40) None ∷ Line.Close 1 ∷ Line.Late 1 (Some 5) ∷ [])) 0 62 ≡ 40
closed_gets_none = refl

pub closing_is_no_restart : restarts (round (Some 40) None ∷ Line.Close 1 ∷ Line.Power Who.Server ∷ []) ≡ false ∷ []
closing_is_no_restart = refl

-- a power loss of the server ends half-open times; one of a device doesn't
pub server_power_restarts : restarts (round (Some 40) None ∷ whole_round ∷ Line.Power Who.Server ∷ []) ≡ true ∷ false ∷ []
server_power_restarts = refl

pub device_power_leaves_open : half_opens (round (Some 40) None ∷ Line.Power (Who.Device imei) ∷ []) ≡ true ∷ []
device_power_leaves_open = refl

-- a fuse of the server covers the next round alone
pub server_fuse_covers : cover_at (with_fix (fuse Who.Server 1 ∷ whole_round ∷ whole_round ∷ [])) 3 whole_round ≡ Some 1
server_fuse_covers = refl

pub server_fuse_is_used_up : cover_at (with_fix (fuse Who.Server 1 ∷ whole_round ∷ whole_round ∷ [])) 4 whole_round ≡ None
server_fuse_is_used_up = refl

-- a late line that is covered gives its bytes, and ends the half-open time
pub covered_late_line_gives : given_by (with_fix (round (Some 40) None ∷ fuse Who.Server 9 ∷ Line.Late 1 (Some 5) ∷ Line.Late 1 (Some 5) ∷ [])) 0 62 ≡ 45
covered_late_line_gives = refl

pub covered_late_line_restarts : restarts (round (Some 40) None ∷ fuse Who.Server 9 ∷ Line.Late 1 (Some 5) ∷ []) ≡ true ∷ []
covered_late_line_restarts = refl

-- a half-open round that is covered is restarted by its own line
pub covered_round_restarts : restarts (fuse Who.Server 9 ∷ round (Some 40) None ∷ []) ≡ true ∷ []
covered_round_restarts = refl
