-- The faults of a script: their numbers and names (this project's own).
use Rattle.std.specs.Prelude.{ℕ, List, codes}
use Rattle.journey_script.specs.declared.fault.ScriptFault.{ScriptFault}
use Rattle.journey_script.specs.declared.fault.ScriptFault.TheVariants.{TextTooLong, UnknownWord, FieldCount, BadImei, BadChoice, BadNumber, TwiceDevice, TooManyDevices, NoDevice, SettingsClosed, BadSetting, ValueCount, ValueTooWide, NoConnection, TooManyOpen, NotForDrive}

abbrev pub fault_number : ScriptFault → ℕ
fault_number TextTooLong = 1
fault_number UnknownWord = 2
fault_number FieldCount = 3
fault_number BadImei = 4
fault_number BadChoice = 5
fault_number BadNumber = 6
fault_number TwiceDevice = 7
fault_number TooManyDevices = 8
fault_number NoDevice = 9
fault_number SettingsClosed = 10
fault_number BadSetting = 11
fault_number ValueCount = 12
fault_number ValueTooWide = 13
fault_number NoConnection = 14
fault_number TooManyOpen = 15
fault_number NotForDrive = 16

abbrev pub fault_name : ScriptFault → List ℕ
fault_name TextTooLong = codes "TextTooLong"
fault_name UnknownWord = codes "UnknownWord"
fault_name FieldCount = codes "FieldCount"
fault_name BadImei = codes "BadImei"
fault_name BadChoice = codes "BadChoice"
fault_name BadNumber = codes "BadNumber"
fault_name TwiceDevice = codes "TwiceDevice"
fault_name TooManyDevices = codes "TooManyDevices"
fault_name NoDevice = codes "NoDevice"
fault_name SettingsClosed = codes "SettingsClosed"
fault_name BadSetting = codes "BadSetting"
fault_name ValueCount = codes "ValueCount"
fault_name ValueTooWide = codes "ValueTooWide"
fault_name NoConnection = codes "NoConnection"
fault_name TooManyOpen = codes "TooManyOpen"
fault_name NotForDrive = codes "NotForDrive"
