-- What fills rows that also say their bytes.
use Rattle.std.proofs.Common.{◌≡◌, ℕ, List, ◌++◌, sym, ap, ◌∙◌, append_assoc}
use Rattle.std.proofs.lemmas.List.{append-nil}
use Rattle.layout.specs.Rows.{Rows, done, refuse, row, Fills}
use Rattle.layout.specs.Nested.{with_bytes}

pub said : {V : Type 0} (rows : Rows V) (seen : List ℕ) (v : V × List ℕ) (bytes : List ℕ) → Fills (with_bytes seen rows) v bytes → Fills rows v.0 bytes × (v.1 ≡ seen ++ bytes)
unfolding with_bytes Fills
said {V = V} (done w) seen v bytes (same, none) =
    let value : w ≡ v.0 = ap (λ (p : V × List ℕ). p.0) same in
    let says : seen ≡ v.1 = ap (λ (p : V × List ℕ). p.1) same in
    ((value, none), sym says ∙ sym (ap (λ b. seen ++ b) none ∙ append-nil seen))
said (refuse kind) seen v bytes fills = absurd fills
said (row width rule rest) seen v bytes (field, more, is, len, passes, fills) =
    let inner = said (rest field) (seen ++ field) v more fills in
    ((field, more, is, len, passes, inner.0), inner.1 ∙ append_assoc seen field more ∙ ap (λ b. seen ++ b) (sym is))

pub saying : {V : Type 0} (rows : Rows V) (seen : List ℕ) (v : V) (bytes all : List ℕ) → all ≡ seen ++ bytes → Fills rows v bytes → Fills (with_bytes seen rows) (v, all) bytes
unfolding with_bytes Fills
saying {V = V} (done w) seen v bytes all is (same, none) =
    let says : seen ≡ all = sym (is ∙ ap (λ b. seen ++ b) none ∙ append-nil seen) in
    let both : (w, seen) ≡ (v, all) = ap (λ (x : V). (x, seen)) same ∙ ap (λ (s : List ℕ). (v, s)) says in
    (both, none)
saying (refuse kind) seen v bytes all is fills = absurd fills
saying (row width rule rest) seen v bytes all is (field, more, e, len, passes, fills) =
    (field, more, e, len, passes, saying (rest field) (seen ++ field) v more all (is ∙ ap (λ b. seen ++ b) e ∙ sym (append_assoc seen field more)) fills)
