-- A record's rows and what follows are the rows of the record alone, followed by it.
use Rattle.std.proofs.Common.{◌≡◌, ℕ, zero, suc, ◌+◌, List, [], ◌∷◌, None, refl, ap, ◌∙◌}
use mathlib.Core.Path.{fun_ext}
use Rattle.avl_values.specs.Width.{bytes_of}
use Rattle.avl_values.specs.declared.codec.Codec.{Codec}
use Rattle.avl_values.specs.declared.width.Width.{Width}
use Rattle.layout.specs.Rows.{Rows, done}
use Rattle.layout.specs.Fields.{any, number_row, times, followed_by}
use Rattle.record_layout.specs.declared.part.Part.{Part}
use Rattle.record_layout.specs.declared.part.Part.TheVariants.{Plain, Total, Pairs, Triples}
use Rattle.record_layout.specs.RecordRows.{count_rule, pair_rows, triple_rows, parts_rows, record_rows, lone_record}
use Rattle.record_layout.specs.Table.{parts_of}

pairs_follow : {V W : Type 0} (id value : Width) (n : ℕ) (rows : Rows V) (after : V → Rows W) → followed_by (times n (pair_rows id value) rows) after ≡ times n (pair_rows id value) (followed_by rows after)
unfolding followed_by
pairs_follow id value zero rows after = refl
pairs_follow id value (suc n) rows after = ap (λ r. pair_rows id value r) (pairs_follow id value n rows after)

triples_follow : {V W : Type 0} (id len : Width) (n : ℕ) (rows : Rows V) (after : V → Rows W) → followed_by (times n (triple_rows id len) rows) after ≡ times n (triple_rows id len) (followed_by rows after)
unfolding followed_by
triples_follow id len zero rows after = refl
triples_follow id len (suc n) rows after = ap (λ r. triple_rows id len r) (triples_follow id len n rows after)

pub parts_follow : {V W : Type 0} (ps : List Part) (total counted : ℕ) (rows : Rows V) (after : V → Rows W) → followed_by (parts_rows ps total counted rows) after ≡ parts_rows ps total counted (followed_by rows after)
unfolding followed_by parts_rows
parts_follow [] total counted rows after = refl
parts_follow (Plain f w ∷ ps) total counted rows after = ap (λ r. any (bytes_of w) r) (parts_follow ps total counted rows after)
parts_follow {W = W} (Total w ∷ ps) total counted rows after =
    ap (λ (g : ℕ → Rows W). number_row (bytes_of w) (λ _. None) g) (fun_ext (λ n. parts_follow ps n counted rows after))
parts_follow {W = W} (Pairs c i w ∷ ps) total counted rows after =
    ap (λ (g : ℕ → Rows W). number_row (bytes_of c) (λ n. count_rule ps total (counted + n)) g)
    (fun_ext (λ n. pairs_follow i w n (parts_rows ps total (counted + n) rows) after ∙ ap (λ r. times n (pair_rows i w) r) (parts_follow ps total (counted + n) rows after)))
parts_follow {W = W} (Triples c i w ∷ ps) total counted rows after =
    ap (λ (g : ℕ → Rows W). number_row (bytes_of c) (λ n. count_rule ps total (counted + n)) g)
    (fun_ext (λ n. triples_follow i w n (parts_rows ps total (counted + n) rows) after ∙ ap (λ r. times n (triple_rows i w) r) (parts_follow ps total (counted + n) rows after)))

pub record_follows : {W : Type 0} (codec : Codec) (after : Rows W) → followed_by (lone_record codec) (λ _. after) ≡ record_rows codec after
unfolding followed_by
record_follows codec after = parts_follow (parts_of codec) 0 0 (done (tt {0})) (λ _. after)
