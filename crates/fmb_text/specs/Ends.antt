-- The words for a codec and for how a connection ended (this project's own).
use Rattle.std.specs.Prelude.{ℕ, List, ◌++◌, codes, decimal}
use Rattle.avl_values.specs.declared.codec.Codec.{Codec}
use Rattle.avl_values.specs.declared.codec.Codec.TheVariants.{C8, C8E, C16}
use Rattle.avl_values.specs.FaultKind.{name_of}
use Rattle.trial_model.specs.declared.outcome.DeviceEnd.{DeviceEnd}
use Rattle.trial_model.specs.declared.outcome.DeviceEnd.TheVariants as Device
use Rattle.trial_model.specs.declared.outcome.ServerEnd.{ServerEnd}
use Rattle.trial_model.specs.declared.outcome.ServerEnd.TheVariants as Server

-- `8`, `8E` or `16`
abbrev pub codec_word : Codec → List ℕ
codec_word C8 = codes "8"
codec_word C8E = codes "8E"
codec_word C16 = codes "16"

-- how a round ended for the device
unfoldable pub device_end_words : DeviceEnd → List ℕ
device_end_words (Device.Done records) = codes "done " ++ decimal records
device_end_words Device.Empty = codes "empty"
device_end_words Device.Refused = codes "refused"
device_end_words Device.Broken = codes "broken"
device_end_words (Device.WrongAnswer got) = codes "wrong"
device_end_words Device.TooManyCommands = codes "commands"
device_end_words Device.MediumFault = codes "medium"

-- how a session ended for the server
unfoldable pub server_end_words : ServerEnd → List ℕ
server_end_words Server.Ended = codes "ended"
server_end_words (Server.EndedInside have) = codes "inside " ++ decimal have
server_end_words (Server.Broken fault) = codes "fault " ++ name_of fault.kind ++ codes " " ++ decimal fault.place
server_end_words (Server.Unknown imei) = codes "unknown"
server_end_words (Server.MediumFault faults) = codes "medium"
server_end_words (Server.Down faults) = codes "down"
server_end_words (Server.LongEnough taken) = codes "long"
server_end_words Server.LinkFault = codes "link"
server_end_words Server.NoMemory = codes "memory"
server_end_words Server.Restart = codes "restart"
