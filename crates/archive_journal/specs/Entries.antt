-- Which entries an archive's file holds (this project's own): `FMBARCH1`, then gate and body in turn, and a last gate.
use Rattle.std.specs.Prelude.{◌≡◌, ℕ, zero, suc, ◌+◌, ◌⊎◌, ◌≤◌, ◌==◌, ◌&&◌, nat_lt, if◌then◌else◌, Bool, List, [], ◌∷◌, length, get_or, take, drop}
use Rattle.archive_journal.specs.Body.{EntryValue, length_in, is_body, entry_in}

-- `FMBARCH1`
abbrev pub magic : List ℕ
magic = 0x46 ∷ 0x4D ∷ 0x42 ∷ 0x41 ∷ 0x52 ∷ 0x43 ∷ 0x48 ∷ 0x31 ∷ []

-- how many bytes a gate and the body after it have, by the body's length
abbrev pub size_at : List ℕ → ℕ
size_at bytes = 5 + length_in (drop 1 bytes)

-- the body after a gate
abbrev pub body_at : List ℕ → List ℕ
body_at bytes = take (4 + length_in (drop 1 bytes)) (drop 1 bytes)

-- An entry counts where its gate is A5, its body is whole and well formed, and the next gate is there.
unfoldable pub is_entry : List ℕ → Bool
is_entry bytes = (get_or bytes 0 0 == 0xA5) && (nat_lt (size_at bytes) (length bytes) && is_body (body_at bytes))

-- The entries from a gate on, at most N: the first that doesn't count ends them.
abbrev pub entries_in : ℕ → List ℕ → List EntryValue
entries_in zero bytes = []
entries_in (suc n) bytes = if is_entry bytes then entry_in (body_at bytes) ∷ entries_in n (drop (size_at bytes) bytes) else []

-- The entries of a file. It has more bytes than entries.
unfoldable pub entries_of : List ℕ → List EntryValue
entries_of file = entries_in (length file) (drop 8 file)

-- A file is an archive where it begins with `FMBARCH1`, or has at most nine bytes: such a file becomes an empty one.
abbrev pub IsArchive : List ℕ → Type 0
IsArchive file = (take 8 file ≡ magic) ⊎ (length file ≤ 9)
