-- What is true of an entry's records.
use Rattle.std.specs.Prelude.{◌≡◌, ◌<◌, List, length}
use Rattle.std.specs.List.{AllByRecursion}
use Rattle.avl_values.specs.Record.{Record}
use Rattle.avl_values.specs.declared.codec.Codec.{Codec}
use Rattle.record_codecs.specs.SomeRecord.{IsSomeRecord}

-- a record in this codec
pub record IsIn (codec : Codec) (r : Record) : Type 0 where
  pub codec_is : r.codec ≡ codec
  pub sound : IsSomeRecord codec r.bytes

-- 1 to 255 records, all of them in this codec
pub record IsEntry (codec : Codec) (records : List Record) : Type 0 where
  pub some : 0 < length records
  pub few : length records < 256
  pub each : AllByRecursion (IsIn codec) records

-- the records of an entry
pub record IsSomeEntry (records : List Record) : Type 0 where
  pub codec : Codec
  pub is : IsEntry codec records
