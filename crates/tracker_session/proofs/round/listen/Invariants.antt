use Rattle.std.proofs.Common.{ℕ, ◌++◌, ◌-◌, ◌<◌, ◌≡◌, ◌≤◌, ◌^◌, List, length, take}
use Rattle.tracker_session.specs.Responses.{ShellMeaning}
use Rattle.tracker_session.specs.RoundStates.{round_of}
use Rattle.tracker_session.specs.Trackers.{IsSameDevice}
use Rattle.tracker_session.specs.Turns.{budget, records_left}
use Rattle.tracker_session.proofs.Going.{Goes}
use Rattle.tracker_session.proofs.round.listen.Given as goal

abbrev pub invariant-items : goal.invariant-items
invariant-items g l =
    let m : ShellMeaning g.row.S.Denot = record { says = g.S.Shell.says; obeyed = g.S.Shell.obeyed } in
    (heard : List ℕ)
    × Goes m (round_of l.fn.tracker l.fn.progress l.fn.shell) (heard ++ take l.at l.buffer) (heard ++ take l.count l.buffer) l.fn.tracker.ring l.tracker l.progress l.shell (g.L.Link.state l.fn.link).told (g.L.Link.state l.link).told
    × (l.at ≤ l.count) × (l.count ≤ length l.buffer) × (length l.buffer ≡ 1024)
    × (budget l.tracker l.progress ≤ budget l.initial.tracker l.initial.progress) × (0 < l.at → budget l.tracker l.progress < budget l.initial.tracker l.initial.progress)
    × (l.progress.orders ≤ 16) × (records_left l.tracker l.progress < 2 ^ 32)
    × ((g.L.Link.state l.link).faults ≡ (g.L.Link.state l.fn.link).faults) × g.L.Link.follows l.fn.link l.link × IsSameDevice l.fn.tracker l.tracker

abbrev pub decreases-items : goal.decreases-items
decreases-items g l = l.count - l.at

abbrev pub invariant-reads : goal.invariant-reads
invariant-reads g l =
    let m : ShellMeaning g.row.S.Denot = record { says = g.S.Shell.says; obeyed = g.S.Shell.obeyed } in
    (taken : List ℕ)
    × Goes m (round_of l.fn.tracker l.fn.progress l.fn.shell) taken taken l.fn.tracker.ring l.tracker l.progress l.shell (g.L.Link.state l.fn.link).told (g.L.Link.state l.link).told
    × (length l.buffer ≡ 1024) × (l.progress.orders ≤ 16) × (records_left l.tracker l.progress < 2 ^ 32)
    × ((g.L.Link.state l.link).faults ≡ (g.L.Link.state l.fn.link).faults) × g.L.Link.follows l.fn.link l.link × IsSameDevice l.fn.tracker l.tracker

abbrev pub decreases-reads : goal.decreases-reads
decreases-reads g l = budget l.tracker l.progress
