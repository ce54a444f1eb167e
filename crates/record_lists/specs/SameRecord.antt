-- When two records of one device are the same (this project's own).
use Rattle.std.specs.Prelude.{◌&&◌, Bool}
use Rattle.std.specs.Str.{bytes_eq}
use Rattle.avl_values.specs.Codec.{is_codec}
use Rattle.avl_values.specs.Record.{Record}

-- their codec and their bytes are the same
abbrev pub is_same : Record → Record → Bool
is_same a b = is_codec a.codec b.codec && bytes_eq a.bytes b.bytes
