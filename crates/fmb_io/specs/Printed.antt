-- What is written on a host's sink (this project's own).
use Rattle.std.specs.Prelude.{ℕ, List, ◌++◌, codes}
use Rattle.text_streams.specs.Writes as writes
use Rattle.fmb_host.specs.Host.{HostView}

-- the line that memory ran out, after the front of a text
abbrev pub and_no_memory : List ℕ → List ℕ
and_no_memory front = front ++ codes "no memory\n"

-- the host's sink was given a line
abbrev pub Prints : List ℕ → HostView → HostView → Type 0
Prints line before after = writes.Prints line before.sink after.sink

-- the host's sink was given a whole text
abbrev pub PrintsWhole : List ℕ → HostView → HostView → Type 0
PrintsWhole text before after = writes.PrintsWhole text before.sink after.sink

-- the host's sink was given the front of a text
abbrev pub PrintsFront : List ℕ → HostView → HostView → Type 0
PrintsFront text before after = writes.PrintsFront text before.sink after.sink

-- the host's sink has not failed
abbrev pub SinkSteady : HostView → HostView → Type 0
SinkSteady before after = writes.IsSteady before.sink after.sink

-- the host's sink has failed
abbrev pub SinkFailed : HostView → HostView → Type 0
SinkFailed before after = writes.HasFailed before.sink after.sink
