-- The report of a trial's outcome, to the byte (this project's own).
use Rattle.std.specs.Prelude.{ℕ, ◌+◌, Bool, if◌then◌else◌, List, [], ◌∷◌, ◌++◌, length, codes, decimal}
use Rattle.std.specs.List.{flat_map}
use Rattle.hex.specs.Hex.{encode_lower}
use Rattle.avl_values.specs.Imei.{imei_text}
use Rattle.avl_values.specs.Record.{Record}
use Rattle.fmb_text.specs.Ends.{codec_word, device_end_words, server_end_words}
use Rattle.trial_model.specs.Results.{Results}
use Rattle.trial_model.specs.declared.outcome.ConnectionOutcome.{ConnectionOutcome}
use Rattle.trial_model.specs.declared.outcome.DeviceOutcome.{DeviceOutcome}

-- ` LIST N`
unfoldable pub count_words : List ℕ → ℕ → List ℕ
count_words list count = codes " " ++ list ++ codes " " ++ decimal count

-- `device IMEI acquired A cut C overwritten O flash F archived R`
unfoldable pub device_line : DeviceOutcome → List ℕ
device_line device = codes "device " ++ imei_text device.imei
    ++ count_words (codes "acquired") (length device.acquired)
    ++ count_words (codes "cut") (length device.cut)
    ++ count_words (codes "overwritten") (length device.overwritten)
    ++ count_words (codes "flash") (length device.flash)
    ++ count_words (codes "archived") (length device.archived)
    ++ codes "\n"

-- `LIST IMEI CODEC HEX`
unfoldable pub record_line : List ℕ → ℕ → Record → List ℕ
record_line list imei r = list ++ codes " " ++ imei_text imei ++ codes " " ++ codec_word r.codec
    ++ codes " " ++ encode_lower r.bytes ++ codes "\n"

-- one line for each record of a list
abbrev pub record_lines : List ℕ → ℕ → List Record → List ℕ
record_lines list imei records = flat_map (record_line list imei) records

-- a device's line, and then one line for each record of its five lists
unfoldable pub device_text : DeviceOutcome → List ℕ
device_text device = device_line device
    ++ record_lines (codes "acquired") device.imei device.acquired
    ++ record_lines (codes "cut") device.imei device.cut
    ++ record_lines (codes "overwritten") device.imei device.overwritten
    ++ record_lines (codes "flash") device.imei device.flash
    ++ record_lines (codes "archived") device.imei device.archived

-- ` WAY SENT DELIVERED`
unfoldable pub way_words : List ℕ → ℕ → ℕ → List ℕ
way_words way sent delivered = codes " " ++ way ++ codes " " ++ decimal sent ++ codes " " ++ decimal delivered

-- `connection N IMEI device END server END up SENT DELIVERED down SENT DELIVERED`
unfoldable pub connection_line : ℕ → ConnectionOutcome → List ℕ
connection_line number c = codes "connection " ++ decimal number ++ codes " " ++ imei_text c.imei
    ++ codes " device " ++ device_end_words c.device ++ codes " server " ++ server_end_words c.server
    ++ way_words (codes "up") (length c.up) c.up_given
    ++ way_words (codes "down") (length c.down) c.down_given
    ++ codes "\n"

-- one line for each connection, of which the first has this number
abbrev pub connection_lines : ℕ → List ConnectionOutcome → List ℕ
connection_lines number [] = []
connection_lines number (c ∷ cs) = connection_line number c ++ connection_lines (number + 1) cs

-- each device with its records, and then each connection by its number, from 1
abbrev pub full_report : Results → List ℕ
full_report outcome = flat_map device_text outcome.devices ++ connection_lines 1 outcome.connections

-- each device's line, and then the number of connections
abbrev pub brief_report : Results → List ℕ
brief_report outcome = flat_map device_line outcome.devices
    ++ codes "connections " ++ decimal (length outcome.connections) ++ codes "\n"

abbrev pub report : Results → Bool → List ℕ
report outcome brief = if brief then brief_report outcome else full_report outcome
