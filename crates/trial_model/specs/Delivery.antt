-- What was delivered on a connection, and heard.
use Rattle.std.specs.Prelude.{ℕ, ◌-◌, ◌/◌, ◌==◌, nat_le, nat_lt, ◌&&◌, List, [], ◌∷◌, ◌++◌, length, take, if◌then◌else◌}
use Rattle.std.specs.List.{filter}
use Rattle.avl_values.specs.Record.{Record}
use Rattle.trial_model.specs.declared.outcome.ConnectionOutcome.{ConnectionOutcome}
use Rattle.trial_model.specs.declared.outcome.DeviceOutcome.{DeviceOutcome}
use Rattle.trial_model.specs.Connections.{ConnectionHistory, up_to}
use Rattle.trial_model.specs.Frames.{Frame, frames_of, frames_within, records_in}

-- the frames that lie whole in the delivered bytes up
abbrev pub delivered_of : ConnectionOutcome → List Frame
delivered_of c = frames_within c.up_given c.up

-- the bytes down that were delivered
abbrev pub heard_bytes : ConnectionOutcome → List ℕ
heard_bytes c = take c.down_given c.down

-- the frames whose count was heard: after the login's answer of one byte, each count has four
abbrev pub heard_of : ConnectionOutcome → List Frame
heard_of c = take ((c.down_given - 1) / 4) (frames_of c.up)

-- the frames of a stream that end after one place and at most at another
abbrev pub frames_between : ℕ → ℕ → List ℕ → List Frame
frames_between a b up = filter (λ f. nat_lt a f.end && nat_le f.end b) (frames_of up)

-- the records of a device's frames that some lines delivered, by what these lines say of the connections
abbrev pub records_given : ℕ → List ConnectionHistory → List ConnectionOutcome → List Record
records_given imei [] logs = []
records_given imei (h ∷ hs) [] = []
records_given imei (h ∷ hs) (c ∷ logs) =
    (if c.imei == imei then records_in (frames_within (up_to h.allowed (length c.up)) c.up) else []) ++ records_given imei hs logs

-- the archived records of a device
abbrev pub archived_of : ℕ → List DeviceOutcome → List Record
archived_of imei [] = []
archived_of imei (d ∷ ds) = if d.imei == imei then d.archived else archived_of imei ds
