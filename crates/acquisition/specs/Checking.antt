-- Which settings a device can have (this project's own).
use Rattle.std.specs.Prelude.{ℕ, ◌+◌, nat_lt, List, length, sum_by, position, Option, None, Some, if◌then◌else◌}
use Rattle.std.specs.Option.{is_none, option_map}
use Rattle.avl_values.specs.Width.{bytes_of, width_of_bytes}
use Rattle.avl_values.specs.declared.codec.Codec.{Codec}
use Rattle.avl_values.specs.declared.codec.Codec.TheVariants.{C8, C8E, C16}
use Rattle.io_operands.specs.declared.setting.IoSetting.{IoSetting}
use Rattle.record_writing.specs.Length.{shortest_length}
use Rattle.record_layout.specs.Table.{id_width}
use Rattle.acquisition.specs.declared.settings.SettingFault.{SettingFault}
use Rattle.acquisition.specs.declared.settings.SettingFault.TheVariants.{TooMany, BadWidth, IdTooWide, RecordTooLong}

-- the bytes of a record with all elements
abbrev pub full_length : Codec → List IoSetting → ℕ
full_length codec ios = shortest_length codec + sum_by (λ s. bytes_of (id_width codec) + s.width) ios

-- there are at most 32
abbrev pub too_many : List IoSetting → Option SettingFault
too_many ios = if nat_lt 32 (length ios) then Some TooMany else None

-- the first one whose width isn't 1, 2, 4 or 8
abbrev pub bad_width : List IoSetting → Option SettingFault
bad_width ios = option_map (λ k. BadWidth k) (position (λ s. is_none (width_of_bytes s.width)) ios)

-- the first one whose id has two bytes, in Codec 8
abbrev pub id_too_wide : Codec → List IoSetting → Option SettingFault
id_too_wide C8 ios = option_map (λ k. IdTooWide k) (position (λ s. nat_lt 255 s.id) ios)
id_too_wide C8E ios = None
id_too_wide C16 ios = None

-- a record has at most 255 bytes
abbrev pub record_too_long : Codec → List IoSetting → Option SettingFault
record_too_long codec ios = if nat_lt 255 (full_length codec ios) then Some (RecordTooLong (full_length codec ios)) else None

abbrev pub or : Option SettingFault → Option SettingFault → Option SettingFault
or (Some fault) next = Some fault
or None next = next

-- the first fault, in this order
abbrev pub setting_fault : Codec → List IoSetting → Option SettingFault
setting_fault codec ios = or (too_many ios) (or (bad_width ios) (or (id_too_wide codec ios) (record_too_long codec ios)))
