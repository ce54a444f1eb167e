-- Fields with a number, both ways.
use Rattle.std.proofs.Common.{◌≡◌, ℕ, ◌<◌, ◌^◌, List, [], ◌∷◌, ◌++◌, Option, None, refl, sym, ap, subst, ◌∙◌, arith}
use Rattle.std.specs.Int.{bytes_high_first}
use Rattle.avl_values.specs.declared.fault.FaultKind.{FaultKind}
use Rattle.layout.specs.Bytes.{AreBytes}
use Rattle.layout.specs.Fields.{number, number_row}
use Rattle.layout.specs.Rows.{Rows, Fills}
use Rattle.layout.proofs.Filling.{fills_row, row_filled}
use Rattle.layout.proofs.Numbers.{bytes-back, bytes-front, length_spell, number_bound, number_spell, spell_number}

-- the number at the front of what fills a field and the rows after it
pub record TakenNumber {V : Type 0} (k : ℕ) (rule : ℕ → Option FaultKind) (rest : ℕ → Rows V) (v : V) (bytes : List ℕ) : Type 0 where
  pub n : ℕ
  pub more : List ℕ
  pub is : bytes ≡ bytes_high_first k n ++ more
  pub bound : n < 256 ^ k
  pub passes : rule n ≡ None
  pub fills : Fills (rest n) v more
  pub bytes_behind : AreBytes more

pub number_take : {V : Type 0} (k : ℕ) (rule : ℕ → Option FaultKind) (rest : ℕ → Rows V) (v : V) (bytes : List ℕ) → AreBytes bytes → Fills (number_row k rule rest) v bytes → TakenNumber k rule rest v bytes
number_take k rule rest v bytes p fills =
    let f = row_filled k (λ field. rule (number field)) (λ field. rest (number field)) v bytes fills in
    let q = subst AreBytes f.2 p in
    let front = bytes-front f.0 f.1 q in
    record {
      n = number f.0;
      more = f.1;
      is = f.2 ∙ ap (λ b. b ++ f.1) (sym (spell_number k f.0 front f.3));
      bound = number_bound k f.0 front f.3;
      passes = f.4;
      fills = f.5;
      bytes_behind = bytes-back f.0 f.1 q;
    }

pub number_fill : {V : Type 0} (k : ℕ) (rule : ℕ → Option FaultKind) (rest : ℕ → Rows V) (v : V) (n : ℕ) (more : List ℕ) → n < 256 ^ k → rule n ≡ None → Fills (rest n) v more
    → Fills (number_row k rule rest) v (bytes_high_first k n ++ more)
number_fill k rule rest v n more bound passes fills =
    let same = number_spell k n bound in
    fills_row k (λ field. rule (number field)) (λ field. rest (number field)) v (bytes_high_first k n) more (bytes_high_first k n ++ more) refl (length_spell k n)
    (ap rule same ∙ passes) (subst (λ m. Fills (rest m) v more) (sym same) fills)

-- a number of one byte
pub spell-one : (b : ℕ) → b < 256 → bytes_high_first 1 b ≡ b ∷ []
spell-one b h =
    let same : number (b ∷ []) ≡ b = omega arith in
    ap (bytes_high_first 1) (sym same) ∙ spell_number 1 (b ∷ []) (h, tt) refl
