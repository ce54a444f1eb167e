-- The records of a data body, read from its bytes. Of bytes that are no data body this says nothing of use.
use Rattle.std.specs.Prelude.{ℕ, zero, suc, List, [], ◌∷◌, length, take, drop, map, Option, Some, None}
use Rattle.avl_values.specs.Codec.{codec_of}
use Rattle.avl_values.specs.Record.{Record}
use Rattle.avl_values.specs.declared.codec.Codec.{Codec}
use Rattle.layout.specs.Rows.{Verdict, whole, short, fault, judge}
use Rattle.record_layout.specs.RecordRows.{lone_record}

-- where an item ends, if it is whole
abbrev pub end_of : {V : Type 0} → Verdict V → Option ℕ
end_of (whole v n) = Some n
end_of short = None
end_of (fault kind place) = None

-- how many of these bytes are the record at their front, if one is there
abbrev pub first_record : Codec → List ℕ → Option ℕ
first_record codec bytes = end_of (judge (lone_record codec) 0 bytes)

abbrev pub or_none : Option ℕ → ℕ
or_none (Some n) = n
or_none None = 0

-- N records, one after the other
abbrev pub records_in : Codec → ℕ → List ℕ → List (List ℕ)
records_in codec zero bytes = []
records_in codec (suc n) bytes = let k = or_none (first_record codec bytes) in take k bytes ∷ records_in codec n (drop k bytes)

abbrev pub records_by : Option Codec → ℕ → List ℕ → List Record
records_by (Some codec) n bytes = map (λ r. record { codec = codec; bytes = r }) (records_in codec n bytes)
records_by None n bytes = []

-- the records of a data body, in its order
unfoldable pub records_of : List ℕ → List Record
records_of [] = []
records_of (id ∷ []) = []
records_of (id ∷ n ∷ bytes) = records_by (codec_of id) n bytes

-- how many they are
abbrev pub count_of : List ℕ → ℕ
count_of bytes = length (records_of bytes)
