-- The groups of I/O elements of a record, read from bytes (Teltonika, Data Sending Protocols: Codec 8, Codec 8 Extended, Codec 16).
-- Of bytes that are no groups this says nothing of use.
use Rattle.std.specs.Prelude.{ℕ, zero, suc, ◌+◌, ◌*◌, List, [], ◌∷◌, ◌++◌, take, drop, map}
use Rattle.avl_values.specs.IoElement.{IoElement}
use Rattle.avl_values.specs.RecordValue.{RecordValue}
use Rattle.avl_values.specs.Width.{bytes_of}
use Rattle.avl_values.specs.declared.codec.Codec.{Codec}
use Rattle.avl_values.specs.declared.codec.Codec.TheVariants.{C8, C8E, C16}
use Rattle.avl_values.specs.declared.width.Width.{Width}
use Rattle.avl_values.specs.declared.width.Width.TheVariants.{W1, W2, W4, W8}
use Rattle.layout.specs.Fields.{number}
use Rattle.record_layout.specs.Table.{count_width, id_width}

abbrev pub all_widths : List Width
all_widths = W1 ∷ W2 ∷ W4 ∷ W8 ∷ []

-- the number at the front, and the bytes after it
abbrev pub front_number : Width → List ℕ → ℕ
front_number width bytes = number (take (bytes_of width) bytes)

abbrev pub behind : Width → List ℕ → List ℕ
behind width bytes = drop (bytes_of width) bytes

-- N pairs of id and value at the front
abbrev pub pairs_in : Codec → Width → ℕ → List ℕ → List IoElement
pairs_in codec width zero bytes = []
pairs_in codec width (suc n) bytes =
    record { id = front_number (id_width codec) bytes; width = width; value = front_number width (behind (id_width codec) bytes) } ∷ pairs_in codec width n (behind width (behind (id_width codec) bytes))

-- and the bytes after them
abbrev pub behind_pairs : Codec → Width → ℕ → List ℕ → List ℕ
behind_pairs codec width n bytes = drop (n * (bytes_of (id_width codec) + bytes_of width)) bytes

-- the elements of the groups of these widths, each a count and N pairs
abbrev pub groups_in : Codec → List Width → List ℕ → List IoElement
groups_in codec [] bytes = []
groups_in codec (w ∷ ws) bytes =
    let n = front_number (count_width codec) bytes in
    let pairs = behind (count_width codec) bytes in
    pairs_in codec w n pairs ++ groups_in codec ws (behind_pairs codec w n pairs)

abbrev pub behind_groups : Codec → List Width → List ℕ → List ℕ
behind_groups codec [] bytes = bytes
behind_groups codec (w ∷ ws) bytes = behind_groups codec ws (behind_pairs codec w (front_number (count_width codec) bytes) (behind (count_width codec) bytes))

-- N elements of any length at the front, each an id, a length and N bytes
abbrev pub nx_in : ℕ → List ℕ → List (ℕ × List ℕ)
nx_in zero bytes = []
nx_in (suc n) bytes =
    let len = front_number W2 (behind W2 bytes) in
    let rest = behind W2 (behind W2 bytes) in
    (front_number W2 bytes, take len rest) ∷ nx_in n (drop len rest)

-- the group of elements of any length, which only Codec 8 Extended has
abbrev pub nx_of : Codec → List ℕ → List (ℕ × List ℕ)
nx_of C8 bytes = []
nx_of C8E bytes = nx_in (front_number W2 bytes) (behind W2 bytes)
nx_of C16 bytes = []

-- a record's elements of one width, and all in its order
abbrev pub elements : Width → List (ℕ × ℕ) → List IoElement
elements width pairs = map (λ e. record { id = e.0; width = width; value = e.1 }) pairs

abbrev pub ios_of : RecordValue → List IoElement
ios_of v = elements W1 v.ones ++ (elements W2 v.twos ++ (elements W4 v.fours ++ elements W8 v.eights))
