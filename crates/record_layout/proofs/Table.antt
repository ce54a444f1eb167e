-- What fills the rows of a record's parts, by induction over the table.
use Rattle.std.proofs.Common.{◌≡◌, ℕ, zero, suc, ◌+◌, ◌^◌, ◌<◌, List, [], ◌∷◌, ◌++◌, length, Option, None, refl, sym, ap, subst, ◌∙◌, append_assoc}
use Rattle.std.specs.List.{flat_map, AllByRecursion}
use Rattle.avl_values.specs.declared.fault.FaultKind.{FaultKind}
use Rattle.avl_values.specs.Width.{bytes_of, limit}
use Rattle.avl_values.specs.declared.width.Width.{Width}
use Rattle.avl_values.specs.declared.width.Width.TheVariants.{W1, W2, W4, W8}
use Rattle.layout.specs.Rows.{Rows, Fills}
use Rattle.layout.specs.Bytes.{AreBytes}
use Rattle.layout.specs.Fields.{number, any, number_row, times}
use Rattle.layout.proofs.Filling.{fills_row, row_filled}
use Rattle.layout.proofs.Numbers.{bytes-front, bytes-back, length_spell, number_spell, number_bound, spell_number}
use Rattle.record_layout.specs.declared.part.Part.{Part}
use Rattle.record_layout.specs.declared.part.Part.TheVariants.{Plain, Total, Pairs, Triples}
use Rattle.record_layout.specs.RecordRows.{count_rule, pair_rows, triple_rows, parts_rows}
use Rattle.record_layout.specs.Spelling.{spell, PartValues, pair_bytes, triple_bytes, joined, AllFit}

-- Fields of a width.

pub limit-power : (w : Width) → limit w ≡ 256 ^ bytes_of w
limit-power W1 = refl
limit-power W2 = refl
limit-power W4 = refl
limit-power W8 = refl

pub length-spell : (w : Width) (n : ℕ) → length (spell w n) ≡ bytes_of w
length-spell w n = length_spell (bytes_of w) n

pub number-spell : (w : Width) (n : ℕ) → n < limit w → number (spell w n) ≡ n
number-spell w n h = number_spell (bytes_of w) n (subst (λ l. n < l) (limit-power w) h)

pub spell-number : (w : Width) (field : List ℕ) → AreBytes field → length field ≡ bytes_of w → spell w (number field) ≡ field
spell-number w field p h = spell_number (bytes_of w) field p h

pub number-fits : (w : Width) (field : List ℕ) → AreBytes field → length field ≡ bytes_of w → number field < limit w
number-fits w field p h = subst (λ l. number field < l) (sym (limit-power w)) (number_bound (bytes_of w) field p h)

-- a field of any bytes, and one with a number
pub fills_any : {V : Type 0} (width : ℕ) (rest : Rows V) (v : V) (field more : List ℕ) → length field ≡ width → Fills rest v more → Fills (any width rest) v (field ++ more)
fills_any width rest v field more len fills = fills_row width _ _ v field more (field ++ more) refl len refl fills

pub fills_number : {V : Type 0} (w : Width) (rule : ℕ → Option FaultKind) (rest : ℕ → Rows V) (v : V) (n : ℕ) (more : List ℕ) → n < limit w → rule n ≡ None → Fills (rest n) v more
    → Fills (number_row (bytes_of w) rule rest) v (spell w n ++ more)
fills_number w rule rest v n more fits passes fills =
    let is = number-spell w n fits in
    fills_row (bytes_of w) (λ field. rule (number field)) (λ field. rest (number field)) v (spell w n) more (spell w n ++ more) refl (length-spell w n)
    (ap rule is ∙ passes) (subst (λ k. Fills (rest k) v more) (sym is) fills)

-- The rule at each count passes.
abbrev pub CountsFit : (ps : List Part) → PartValues ps → ℕ → ℕ → Type 0
CountsFit [] values total counted = Unit {0}
CountsFit (Plain field width ∷ ps) values total counted = CountsFit ps values.1 total counted
CountsFit (Total width ∷ ps) values total counted = CountsFit ps values.1 values.0 counted
CountsFit (Pairs count id value ∷ ps) values total counted = (count_rule ps total (counted + length values.0) ≡ None) × CountsFit ps values.1 total (counted + length values.0)
CountsFit (Triples count id len ∷ ps) values total counted = (count_rule ps total (counted + length values.0) ≡ None) × CountsFit ps values.1 total (counted + length values.0)

abbrev PairFits : Width → Width → ℕ × ℕ → Type 0
PairFits id value e = (e.0 < limit id) × (e.1 < limit value)

abbrev TripleFits : Width → Width → ℕ × List ℕ → Type 0
TripleFits id len e = (e.0 < limit id) × (length e.1 < limit len) × AreBytes e.1

pairs_fill : {V : Type 0} (id value : Width) (es : List (ℕ × ℕ)) (rest : Rows V) (v : V) (more : List ℕ) → AllByRecursion (PairFits id value) es → Fills rest v more
    → Fills (times (length es) (pair_rows id value) rest) v (flat_map (pair_bytes id value) es ++ more)
pairs_fill id value [] rest v more fit fills = fills
pairs_fill id value (e ∷ es) rest v more fit fills =
    let back = flat_map (pair_bytes id value) es ++ more in
    let join : flat_map (pair_bytes id value) (e ∷ es) ++ more ≡ spell id e.0 ++ (spell value e.1 ++ back) =
    append_assoc (spell id e.0 ++ spell value e.1) (flat_map (pair_bytes id value) es) more ∙ append_assoc (spell id e.0) (spell value e.1) back in
    let rows = times (length es) (pair_rows id value) rest in
    subst (λ b. Fills (pair_rows id value rows) v b) (sym join)
    (fills_any (bytes_of id) _ v (spell id e.0) _ (length-spell id e.0) (fills_any (bytes_of value) rows v (spell value e.1) back (length-spell value e.1) (pairs_fill id value es rest v more fit.1 fills)))

triples_fill : {V : Type 0} (id len : Width) (es : List (ℕ × List ℕ)) (rest : Rows V) (v : V) (more : List ℕ) → AllByRecursion (TripleFits id len) es → Fills rest v more
    → Fills (times (length es) (triple_rows id len) rest) v (flat_map (triple_bytes id len) es ++ more)
triples_fill id len [] rest v more fit fills = fills
triples_fill id len (e ∷ es) rest v more fit fills =
    let back = flat_map (triple_bytes id len) es ++ more in
    let join : flat_map (triple_bytes id len) (e ∷ es) ++ more ≡ spell id e.0 ++ (spell len (length e.1) ++ (e.1 ++ back)) =
    append_assoc (spell id e.0 ++ (spell len (length e.1) ++ e.1)) (flat_map (triple_bytes id len) es) more
    ∙ append_assoc (spell id e.0) (spell len (length e.1) ++ e.1) back ∙ ap (λ b. spell id e.0 ++ b) (append_assoc (spell len (length e.1)) e.1 back) in
    let rows = times (length es) (triple_rows id len) rest in
    subst (λ b. Fills (triple_rows id len rows) v b) (sym join)
    (fills_any (bytes_of id) _ v (spell id e.0) _ (length-spell id e.0)
    (fills_number len (λ _. None) (λ n. any n rows) v (length e.1) (e.1 ++ back) fit.0.1 refl
    (fills_any (length e.1) rows v e.1 back refl (triples_fill id len es rest v more fit.1 fills))))

-- The parts of a value fill their rows.
pub parts_fill : {V : Type 0} (ps : List Part) (values : PartValues ps) (total counted : ℕ) (rest : Rows V) (v : V) (more : List ℕ) → AllFit ps values → CountsFit ps values total counted → Fills rest v more
    → Fills (parts_rows ps total counted rest) v (joined ps values ++ more)
unfolding parts_rows
parts_fill [] values total counted rest v more fit counts fills = fills
parts_fill (Plain f w ∷ ps) values total counted rest v more fit counts fills =
    subst (λ b. Fills (any (bytes_of w) (parts_rows ps total counted rest)) v b) (sym (append_assoc (spell w values.0) (joined ps values.1) more))
    (fills_any (bytes_of w) _ v (spell w values.0) _ (length-spell w values.0) (parts_fill ps values.1 total counted rest v more fit.1 counts fills))
parts_fill (Total w ∷ ps) values total counted rest v more fit counts fills =
    subst (λ b. Fills (parts_rows (Total w ∷ ps) total counted rest) v b) (sym (append_assoc (spell w values.0) (joined ps values.1) more))
    (fills_number w (λ _. None) (λ n. parts_rows ps n counted rest) v values.0 _ fit.0 refl (parts_fill ps values.1 values.0 counted rest v more fit.1 counts fills))
parts_fill (Pairs c i w ∷ ps) values total counted rest v more fit counts fills =
    let n = length values.0 in
    let es = flat_map (pair_bytes i w) values.0 in
    let tail = joined ps values.1 in
    let join : (spell c n ++ es) ++ tail ++ more ≡ spell c n ++ (es ++ (tail ++ more)) = append_assoc (spell c n ++ es) tail more ∙ append_assoc (spell c n) es (tail ++ more) in
    subst (λ b. Fills (parts_rows (Pairs c i w ∷ ps) total counted rest) v b) (sym join)
    (fills_number c (λ n. count_rule ps total (counted + n)) (λ n. times n (pair_rows i w) (parts_rows ps total (counted + n) rest)) v n _ fit.0.0 counts.0
    (pairs_fill i w values.0 _ v _ fit.0.1 (parts_fill ps values.1 total (counted + n) rest v more fit.1 counts.1 fills)))
parts_fill (Triples c i w ∷ ps) values total counted rest v more fit counts fills =
    let n = length values.0 in
    let es = flat_map (triple_bytes i w) values.0 in
    let tail = joined ps values.1 in
    let join : (spell c n ++ es) ++ tail ++ more ≡ spell c n ++ (es ++ (tail ++ more)) = append_assoc (spell c n ++ es) tail more ∙ append_assoc (spell c n) es (tail ++ more) in
    subst (λ b. Fills (parts_rows (Triples c i w ∷ ps) total counted rest) v b) (sym join)
    (fills_number c (λ n. count_rule ps total (counted + n)) (λ n. times n (triple_rows i w) (parts_rows ps total (counted + n) rest)) v n _ fit.0.0 counts.0
    (triples_fill i w values.0 _ v _ fit.0.1 (parts_fill ps values.1 total (counted + n) rest v more fit.1 counts.1 fills)))

-- Joins, over plain lists.

join_field : (si f back more : List ℕ) → si ≡ f → f ++ (back ++ more) ≡ (si ++ back) ++ more
join_field si f back more e = ap (λ g. g ++ (back ++ more)) (sym e) ∙ sym (append_assoc si back more)

join_group : (sc f fm tail more : List ℕ) → sc ≡ f → f ++ (fm ++ (tail ++ more)) ≡ ((sc ++ fm) ++ tail) ++ more
join_group sc f fm tail more e = ap (λ g. g ++ (fm ++ (tail ++ more))) (sym e) ∙ sym (append_assoc (sc ++ fm) tail more ∙ append_assoc sc fm (tail ++ more))

join_pair : (si sv f g fm more : List ℕ) → si ≡ f → sv ≡ g → f ++ (g ++ (fm ++ more)) ≡ ((si ++ sv) ++ fm) ++ more
join_pair si sv f g fm more i v = ap (λ h. f ++ (h ++ (fm ++ more))) (sym v) ∙ join_group si f sv fm more i

join_triple : (si sl f g body fm more : List ℕ) → si ≡ f → sl ≡ g → f ++ (g ++ (body ++ (fm ++ more))) ≡ ((si ++ (sl ++ body)) ++ fm) ++ more
join_triple si sl f g body fm more i l =
    ap (λ h. f ++ (h ++ (body ++ (fm ++ more)))) (sym l) ∙ ap (λ b. f ++ b) (sym (append_assoc sl body (fm ++ more))) ∙ join_group si f (sl ++ body) fm more i

-- What fills the rows of parts is the parts of a value.

pub record Taken {V : Type 0} (ps : List Part) (total counted : ℕ) (rest : Rows V) (v : V) (bytes : List ℕ) : Type 0 where
  pub values : PartValues ps
  pub more : List ℕ
  pub is : bytes ≡ joined ps values ++ more
  pub fit : AllFit ps values
  pub counts : CountsFit ps values total counted
  pub fills : Fills rest v more

record TakenPairs {V : Type 0} (id value : Width) (n : ℕ) (rest : Rows V) (v : V) (bytes : List ℕ) : Type 0 where
  pub es : List (ℕ × ℕ)
  pub more : List ℕ
  pub is : bytes ≡ flat_map (pair_bytes id value) es ++ more
  pub len : length es ≡ n
  pub fit : AllByRecursion (PairFits id value) es
  pub fills : Fills rest v more

record TakenTriples {V : Type 0} (id len : Width) (n : ℕ) (rest : Rows V) (v : V) (bytes : List ℕ) : Type 0 where
  pub es : List (ℕ × List ℕ)
  pub more : List ℕ
  pub is : bytes ≡ flat_map (triple_bytes id len) es ++ more
  pub count : length es ≡ n
  pub fit : AllByRecursion (TripleFits id len) es
  pub fills : Fills rest v more

pairs_take : {V : Type 0} (id value : Width) (n : ℕ) (rest : Rows V) (v : V) (bytes : List ℕ) → AreBytes bytes → Fills (times n (pair_rows id value) rest) v bytes → TakenPairs id value n rest v bytes
pairs_take id value zero rest v bytes p fills = record { es = []; more = bytes; is = refl; len = refl; fit = tt; fills = fills }
pairs_take id value (suc n) rest v bytes p fills =
    let one = row_filled _ _ _ v bytes fills in
    let p1 : AreBytes (one.0 ++ one.1) = subst AreBytes one.2 p in
    let two = row_filled _ _ _ v one.1 one.5 in
    let p2 : AreBytes (two.0 ++ two.1) = subst AreBytes two.2 (bytes-back one.0 one.1 p1) in
    let t = pairs_take id value n rest v two.1 (bytes-back two.0 two.1 p2) two.5 in
    let i = spell-number id one.0 (bytes-front one.0 one.1 p1) one.3 in
    let w = spell-number value two.0 (bytes-front two.0 two.1 p2) two.3 in
    let es = t.es in
    let fm = flat_map (pair_bytes id value) es in
    let join : bytes ≡ ((spell id (number one.0) ++ spell value (number two.0)) ++ fm) ++ t.more =
    one.2 ∙ ap (λ b. one.0 ++ b) (two.2 ∙ ap (λ b. two.0 ++ b) t.is)
    ∙ join_pair (spell id (number one.0)) (spell value (number two.0)) one.0 two.0 fm t.more i w in
    record {
      es = (number one.0, number two.0) ∷ es;
      more = t.more;
      is = join;
      len = ap (λ k. suc k) t.len;
      fit = ((number-fits id one.0 (bytes-front one.0 one.1 p1) one.3, number-fits value two.0 (bytes-front two.0 two.1 p2) two.3), t.fit);
      fills = t.fills;
    }

triples_take : {V : Type 0} (id len : Width) (n : ℕ) (rest : Rows V) (v : V) (bytes : List ℕ) → AreBytes bytes → Fills (times n (triple_rows id len) rest) v bytes → TakenTriples id len n rest v bytes
triples_take id len zero rest v bytes p fills = record { es = []; more = bytes; is = refl; count = refl; fit = tt; fills = fills }
triples_take id len (suc n) rest v bytes p fills =
    let one = row_filled _ _ _ v bytes fills in
    let p1 : AreBytes (one.0 ++ one.1) = subst AreBytes one.2 p in
    let two = row_filled _ _ _ v one.1 one.5 in
    let p2 : AreBytes (two.0 ++ two.1) = subst AreBytes two.2 (bytes-back one.0 one.1 p1) in
    let three = row_filled _ _ _ v two.1 two.5 in
    let p3 : AreBytes (three.0 ++ three.1) = subst AreBytes three.2 (bytes-back two.0 two.1 p2) in
    let t = triples_take id len n rest v three.1 (bytes-back three.0 three.1 p3) three.5 in
    let i = spell-number id one.0 (bytes-front one.0 one.1 p1) one.3 in
    let w : spell len (length three.0) ≡ two.0 = ap (λ k. spell len k) three.3 ∙ spell-number len two.0 (bytes-front two.0 two.1 p2) two.3 in
    let fm = flat_map (triple_bytes id len) t.es in
    let si = spell id (number one.0) in
    let sl = spell len (length three.0) in
    let join : bytes ≡ ((si ++ (sl ++ three.0)) ++ fm) ++ t.more =
    one.2 ∙ ap (λ b. one.0 ++ b) (two.2 ∙ ap (λ b. two.0 ++ b) (three.2 ∙ ap (λ b. three.0 ++ b) t.is))
    ∙ join_triple si sl one.0 two.0 three.0 fm t.more i w in
    record {
      es = (number one.0, three.0) ∷ t.es;
      more = t.more;
      is = join;
      count = ap (λ k. suc k) t.count;
      fit = ((number-fits id one.0 (bytes-front one.0 one.1 p1) one.3, subst (λ k. k < limit len) (sym three.3) (number-fits len two.0 (bytes-front two.0 two.1 p2) two.3), bytes-front three.0 three.1 p3), t.fit);
      fills = t.fills;
    }

pub parts_take : {V : Type 0} (ps : List Part) (total counted : ℕ) (rest : Rows V) (v : V) (bytes : List ℕ) → AreBytes bytes → Fills (parts_rows ps total counted rest) v bytes → Taken ps total counted rest v bytes
unfolding parts_rows
parts_take [] total counted rest v bytes p fills = record { values = tt; more = bytes; is = refl; fit = tt; counts = tt; fills = fills }
parts_take (Plain f w ∷ ps) total counted rest v bytes p fills =
    let one = row_filled _ _ _ v bytes fills in
    let p1 : AreBytes (one.0 ++ one.1) = subst AreBytes one.2 p in
    let front = bytes-front one.0 one.1 p1 in
    let t = parts_take ps total counted rest v one.1 (bytes-back one.0 one.1 p1) one.5 in
    let join = one.2 ∙ ap (λ b. one.0 ++ b) t.is ∙ join_field (spell w (number one.0)) one.0 (joined ps t.values) t.more (spell-number w one.0 front one.3) in
    record { values = (number one.0, t.values); more = t.more; is = join; fit = (number-fits w one.0 front one.3, t.fit); counts = t.counts; fills = t.fills }
parts_take (Total w ∷ ps) total counted rest v bytes p fills =
    let one = row_filled _ _ _ v bytes fills in
    let p1 : AreBytes (one.0 ++ one.1) = subst AreBytes one.2 p in
    let front = bytes-front one.0 one.1 p1 in
    let t = parts_take ps (number one.0) counted rest v one.1 (bytes-back one.0 one.1 p1) one.5 in
    let join = one.2 ∙ ap (λ b. one.0 ++ b) t.is ∙ join_field (spell w (number one.0)) one.0 (joined ps t.values) t.more (spell-number w one.0 front one.3) in
    record { values = (number one.0, t.values); more = t.more; is = join; fit = (number-fits w one.0 front one.3, t.fit); counts = t.counts; fills = t.fills }
parts_take (Pairs c i w ∷ ps) total counted rest v bytes p fills =
    let one = row_filled _ _ _ v bytes fills in
    let p1 : AreBytes (one.0 ++ one.1) = subst AreBytes one.2 p in
    let front = bytes-front one.0 one.1 p1 in
    let es = pairs_take i w (number one.0) _ v one.1 (bytes-back one.0 one.1 p1) one.5 in
    let fm = flat_map (pair_bytes i w) es.es in
    let p2 : AreBytes (fm ++ es.more) = subst AreBytes es.is (bytes-back one.0 one.1 p1) in
    let t = parts_take ps total (counted + number one.0) rest v es.more (bytes-back fm es.more p2) es.fills in
    let tail = joined ps t.values in
    let sc : spell c (length es.es) ≡ one.0 = ap (λ k. spell c k) es.len ∙ spell-number c one.0 front one.3 in
    let join : bytes ≡ ((spell c (length es.es) ++ fm) ++ tail) ++ t.more =
    one.2 ∙ ap (λ b. one.0 ++ b) (es.is ∙ ap (λ b. fm ++ b) t.is) ∙ join_group (spell c (length es.es)) one.0 fm tail t.more sc in
    record {
      values = (es.es, t.values);
      more = t.more;
      is = join;
      fit = ((subst (λ k. k < limit c) (sym es.len) (number-fits c one.0 front one.3), es.fit), t.fit);
      counts = subst (λ k. (count_rule ps total (counted + k) ≡ None) × CountsFit ps t.values total (counted + k)) (sym es.len) (one.4, t.counts);
      fills = t.fills;
    }
parts_take (Triples c i w ∷ ps) total counted rest v bytes p fills =
    let one = row_filled _ _ _ v bytes fills in
    let p1 : AreBytes (one.0 ++ one.1) = subst AreBytes one.2 p in
    let front = bytes-front one.0 one.1 p1 in
    let es = triples_take i w (number one.0) _ v one.1 (bytes-back one.0 one.1 p1) one.5 in
    let fm = flat_map (triple_bytes i w) es.es in
    let p2 : AreBytes (fm ++ es.more) = subst AreBytes es.is (bytes-back one.0 one.1 p1) in
    let t = parts_take ps total (counted + number one.0) rest v es.more (bytes-back fm es.more p2) es.fills in
    let tail = joined ps t.values in
    let sc : spell c (length es.es) ≡ one.0 = ap (λ k. spell c k) es.count ∙ spell-number c one.0 front one.3 in
    let join : bytes ≡ ((spell c (length es.es) ++ fm) ++ tail) ++ t.more =
    one.2 ∙ ap (λ b. one.0 ++ b) (es.is ∙ ap (λ b. fm ++ b) t.is) ∙ join_group (spell c (length es.es)) one.0 fm tail t.more sc in
    record {
      values = (es.es, t.values);
      more = t.more;
      is = join;
      fit = ((subst (λ k. k < limit c) (sym es.count) (number-fits c one.0 front one.3), es.fit), t.fit);
      counts = subst (λ k. (count_rule ps total (counted + k) ≡ None) × CountsFit ps t.values total (counted + k)) (sym es.count) (one.4, t.counts);
      fills = t.fills;
    }
