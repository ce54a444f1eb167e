-- The commands, and their arguments as clap reads them. Their `--help` and `--version` are words like any other that they don't know.
use Rattle.std.specs.Prelude.{true, Option, Some, None, if◌then◌else◌, codes}
use Rattle.std.specs.Str.{bytes_eq}
use Rattle.clap.specs.Words.{App, Rule, Text, new_app, new_rule, with_rule}
use Rattle.clap.specs.declared.builder.action.ArgAction.TheVariants.{Append, Set, SetTrue}

-- the commands of the program
pub data Command : Type 0 where
  show : Command
  trial : Command
  made : Command
  serve : Command
  drive : Command

-- the command that a word names
abbrev pub command_of : Text → Option Command
command_of word =
    if bytes_eq word (codes "show") then Some show
    else (if bytes_eq word (codes "trial") then Some trial
    else (if bytes_eq word (codes "made") then Some made
    else (if bytes_eq word (codes "serve") then Some serve
    else (if bytes_eq word (codes "drive") then Some drive
    else None))))

-- a command without `--help` and `--version`
abbrev pub bare_app : Text → App
bare_app name = record (new_app name) { top = record (new_app name).top { disable_help_flag = true; disable_version_flag = true } }

-- an argument without a name, which must be there, with one value
abbrev pub one_value : Text → Rule
one_value id = record (new_rule id) { required = true; action = Some Set }

-- an argument without a name, with no or more values
abbrev pub any_values : Text → Rule
any_values id = record (new_rule id) { action = Some Append; range = Some (record { start_inclusive = 0; end_inclusive = 18446744073709551615 }) }

-- `--name VALUE`, which must be there
abbrev pub value_option : Text → Rule
value_option name = record (new_rule name) { long = Some name; required = true; action = Some Set }

-- `--name`, which may be there
abbrev pub flag_option : Text → Rule
flag_option name = record (new_rule name) { long = Some name; action = Some SetTrue }

-- `NAME FILE`
unfoldable pub file_app : Text → App
file_app name = with_rule (bare_app name) (one_value (codes "FILE"))

-- `trial FILE [--brief]`
unfoldable pub trial_app : App
trial_app = with_rule (with_rule (bare_app (codes "trial")) (one_value (codes "FILE"))) (flag_option (codes "brief"))

-- `made SEED DEVICES FIXES`
unfoldable pub made_app : App
made_app = with_rule (with_rule (with_rule (bare_app (codes "made")) (one_value (codes "SEED"))) (one_value (codes "DEVICES"))) (one_value (codes "FIXES"))

-- `serve ADDRESS ARCHIVE [IMEI ..] --workers W --sessions K`
unfoldable pub serve_app : App
serve_app = with_rule (with_rule (with_rule (with_rule (with_rule (bare_app (codes "serve"))
    (one_value (codes "ADDRESS"))) (one_value (codes "ARCHIVE"))) (any_values (codes "IMEI")))
    (value_option (codes "workers"))) (value_option (codes "sessions"))

-- `drive ADDRESS FLASH SCRIPT`
unfoldable pub drive_app : App
drive_app = with_rule (with_rule (with_rule (bare_app (codes "drive")) (one_value (codes "ADDRESS"))) (one_value (codes "FLASH"))) (one_value (codes "SCRIPT"))
