-- What fills rows, row by row.
use Rattle.std.proofs.Common.{◌≡◌, ℕ, List, [], ◌++◌, length, Option, None, refl}
use Rattle.avl_values.specs.declared.fault.FaultKind.{FaultKind}
use Rattle.layout.specs.Rows.{Rows, done, refuse, row, Fills}

pub fills_done : {V : Type 0} (v : V) → Fills (done v) v []
unfolding Fills
fills_done v = (refl, refl)

pub done_filled : {V : Type 0} (v w : V) (bytes : List ℕ) → Fills (done v) w bytes → (v ≡ w) × (bytes ≡ [])
unfolding Fills
done_filled v w bytes fills = fills

pub fills_row : {V : Type 0} (width : ℕ) (rule : List ℕ → Option FaultKind) (rest : List ℕ → Rows V) (v : V) (field more bytes : List ℕ)
    → bytes ≡ field ++ more → length field ≡ width → rule field ≡ None → Fills (rest field) v more → Fills (row width rule rest) v bytes
unfolding Fills
fills_row width rule rest v field more bytes is len passes fills = (field, more, is, len, passes, fills)

pub row_filled : {V : Type 0} (width : ℕ) (rule : List ℕ → Option FaultKind) (rest : List ℕ → Rows V) (v : V) (bytes : List ℕ) → Fills (row width rule rest) v bytes
    → (field : List ℕ) × (more : List ℕ) × (bytes ≡ field ++ more) × (length field ≡ width) × (rule field ≡ None) × Fills (rest field) v more
unfolding Fills
row_filled width rule rest v bytes fills = fills

pub no_refusal : {V : Type 0} (kind : FaultKind) (v : V) (bytes : List ℕ) → Fills (refuse kind) v bytes → ⊥
unfolding Fills
no_refusal kind v bytes h = h
