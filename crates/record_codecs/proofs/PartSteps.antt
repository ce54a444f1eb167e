-- A record walked part by part: what each step passes, and where no end is left.
use Rattle.std.proofs.Common.{◌≡◌, ℕ, zero, suc, ◌+◌, ◌-◌, ◌*◌, ◌<◌, ◌≤◌, ◌⊎◌, inl, inr, List, [], ◌∷◌, length, take, drop, Option, Some, None, MatchOption, refl, sym, ap, subst, ◌∙◌, arith, length-drop, drop-drop}
use Rattle.std.proofs.lemmas.Bool.{cases_lt}
use Rattle.avl_values.specs.declared.fault.FaultKind.{FaultKind}
use Rattle.avl_values.specs.declared.fault.FaultKind.TheVariants.{TotalMismatch}
use Rattle.avl_values.specs.Width.{bytes_of}
use Rattle.avl_values.specs.declared.width.Width.{Width}
use Rattle.layout.specs.Fields.{number, any, number_row, times}
use Rattle.layout.specs.Rows.{Rows, row, judge, unless_fault}
use Rattle.layout.proofs.Judging.{judge_short, judge_long, judge_done}
use Rattle.record_layout.specs.declared.part.Field.{Field}
use Rattle.record_layout.specs.declared.part.Part.{Part}
use Rattle.record_layout.specs.declared.part.Part.TheVariants.{Plain, Total, Pairs, Triples}
use Rattle.record_layout.specs.RecordRows.{count_rule, pair_rows, triple_rows, parts_rows}
use Rattle.record_layout.specs.RecordsOf.{end_of}
use Rattle.record_codecs.specs.Elements.{front_number, behind}
use Rattle.record_codecs.specs.PartWalk.{HasNoEnd, EndsWith}
use Rattle.record_codecs.specs.RecordCursor.{Nothing, nothing, counted_with, first_width_of}
use Rattle.record_codecs.proofs.Turns.{rule_passes, rule_fails}

-- Steps, one after the other.

pub stays : (rows : Rows Nothing) (bytes : List ℕ) → EndsWith rows bytes rows bytes
stays rows bytes = record {
  within = omega arith;
  end = λ place. ap (λ p. end_of (judge rows p bytes)) (omega arith);
}

pub and_on : (rows middle others : Rows Nothing) (bytes between rest : List ℕ) → EndsWith rows bytes middle between → EndsWith middle between others rest → EndsWith rows bytes others rest
and_on rows middle others bytes between rest a b =
    let n = a.within in
    let m = b.within in
    record {
      within = omega arith;
      end = λ place.
          let p : place + (length bytes - length between) + (length between - length rest) ≡ place + (length bytes - length rest) = omega arith in
          a.end place ∙ b.end (place + (length bytes - length between)) ∙ ap (λ k. end_of (judge others k rest)) p;
    }

pub and_no : (rows middle : Rows Nothing) (bytes between : List ℕ) → EndsWith rows bytes middle between → HasNoEnd middle between → HasNoEnd rows bytes
and_no rows middle bytes between a none = λ place. a.end place ∙ none (place + (length bytes - length between))

-- One row.

pub few : (w : ℕ) (rule : List ℕ → Option FaultKind) (rest : List ℕ → Rows Nothing) (bytes : List ℕ) → length bytes < w → HasNoEnd (row w rule rest) bytes
few w rule rest bytes h = λ place. ap end_of (judge_short w rule rest place bytes h)

pub passed : (w : ℕ) (rule : List ℕ → Option FaultKind) (rest : List ℕ → Rows Nothing) (bytes : List ℕ) → w ≤ length bytes → rule (take w bytes) ≡ None
    → EndsWith (row w rule rest) bytes (rest (take w bytes)) (drop w bytes)
passed w rule rest bytes h passes =
    let n = length-drop w bytes in
    record {
      within = omega arith;
      end = λ place.
          let p : place + w ≡ place + (length bytes - length (drop w bytes)) = omega arith in
          ap end_of (judge_long w rule rest place bytes h)
          ∙ ap (λ o. end_of (unless_fault o place (judge (rest (take w bytes)) (place + w) (drop w bytes)))) passes
          ∙ ap (λ k. end_of (judge (rest (take w bytes)) k (drop w bytes))) p;
    }

pub failed : (w : ℕ) (rule : List ℕ → Option FaultKind) (rest : List ℕ → Rows Nothing) (bytes : List ℕ) (kind : FaultKind) → w ≤ length bytes → rule (take w bytes) ≡ Some kind → HasNoEnd (row w rule rest) bytes
failed w rule rest bytes kind h fails = λ place.
    ap end_of (judge_long w rule rest place bytes h) ∙ ap (λ o. end_of (unless_fault o place (judge (rest (take w bytes)) (place + w) (drop w bytes)))) fails

-- the code's bytes are those after the row
pub past_any : (w : ℕ) (rows : Rows Nothing) (bytes rest : List ℕ) → w ≤ length bytes → rest ≡ drop w bytes → EndsWith (any w rows) bytes rows rest
past_any w rows bytes rest h is = subst (λ r. EndsWith (any w rows) bytes rows r) (sym is) (passed w (λ _. None) (λ _. rows) bytes h refl)

pub past_number : (w : ℕ) (rule : ℕ → Option FaultKind) (rows : ℕ → Rows Nothing) (bytes rest : List ℕ) (n : ℕ) → w ≤ length bytes → n ≡ number (take w bytes) → rest ≡ drop w bytes → rule n ≡ None
    → EndsWith (number_row w rule rows) bytes (rows n) rest
past_number w rule rows bytes rest n h value is passes =
    subst (λ k. EndsWith (number_row w rule rows) bytes (rows k) rest) (sym value)
    (subst (λ r. EndsWith (number_row w rule rows) bytes (rows (number (take w bytes))) r) (sym is)
    (passed w (λ f. rule (number f)) (λ f. rows (number f)) bytes h (ap rule (sym value) ∙ passes)))

pub bad_number : (w : ℕ) (rule : ℕ → Option FaultKind) (rows : ℕ → Rows Nothing) (bytes : List ℕ) (n : ℕ) (kind : FaultKind) → w ≤ length bytes → n ≡ number (take w bytes) → rule n ≡ Some kind → HasNoEnd (number_row w rule rows) bytes
bad_number w rule rows bytes n kind h value fails = failed w (λ f. rule (number f)) (λ f. rows (number f)) bytes kind h (ap rule (sym value) ∙ fails)

-- N pairs.

size_next : (n size : ℕ) → suc n * size ≡ size + n * size
size_next n size = omega arith

pub past_pairs : (n : ℕ) (id value : Width) (rows : Rows Nothing) (bytes : List ℕ) → n * (bytes_of id + bytes_of value) ≤ length bytes
    → EndsWith (times n (pair_rows id value) rows) bytes rows (drop (n * (bytes_of id + bytes_of value)) bytes)
past_pairs zero id value rows bytes h = subst (λ n. EndsWith rows bytes rows (drop n bytes)) {x = 0} {y = 0 * (bytes_of id + bytes_of value)} (omega arith) (stays rows bytes)
past_pairs (suc n) id value rows bytes h =
    let a = bytes_of id in
    let b = bytes_of value in
    let more = times n (pair_rows id value) rows in
    let size = size_next n (a + b) in
    let m = length-drop a bytes in
    let k = length-drop b (drop a bytes) in
    let first = past_any a (any b more) bytes (drop a bytes) (omega arith) refl in
    let second = past_any b more (drop a bytes) (drop b (drop a bytes)) (omega arith) refl in
    let others = past_pairs n id value rows (drop b (drop a bytes)) (omega arith) in
    let is : drop (n * (a + b)) (drop b (drop a bytes)) ≡ drop (suc n * (a + b)) bytes =
    ap (λ xs. drop (n * (a + b)) xs) (drop-drop b a bytes) ∙ drop-drop (n * (a + b)) (a + b) bytes ∙ ap (λ s. drop s bytes) (sym size) in
    subst (λ r. EndsWith (times (suc n) (pair_rows id value) rows) bytes rows r) is
    (and_on (any a (any b more)) (any b more) rows bytes (drop a bytes) (drop (n * (a + b)) (drop b (drop a bytes))) first
    (and_on (any b more) more rows (drop a bytes) (drop b (drop a bytes)) (drop (n * (a + b)) (drop b (drop a bytes))) second others))

few_in_pair : (a b n : ℕ) (more : Rows Nothing) (bytes : List ℕ) → length bytes < suc n * (a + b) → (length (drop b (drop a bytes)) < n * (a + b) → HasNoEnd more (drop b (drop a bytes)))
    → (length bytes < a) ⊎ (a ≤ length bytes) → (length (drop a bytes) < b) ⊎ (b ≤ length (drop a bytes)) → HasNoEnd (any a (any b more)) bytes
few_in_pair a b n more bytes h ih (inl short) second = few a (λ _. None) (λ _. any b more) bytes short
few_in_pair a b n more bytes h ih (inr long) (inl short) =
    and_no (any a (any b more)) (any b more) bytes (drop a bytes) (past_any a (any b more) bytes (drop a bytes) long refl) (few b (λ _. None) (λ _. more) (drop a bytes) short)
few_in_pair a b n more bytes h ih (inr long) (inr longer) =
    let size = size_next n (a + b) in
    let m = length-drop a bytes in
    let k = length-drop b (drop a bytes) in
    and_no (any a (any b more)) (any b more) bytes (drop a bytes) (past_any a (any b more) bytes (drop a bytes) long refl)
    (and_no (any b more) more (drop a bytes) (drop b (drop a bytes)) (past_any b more (drop a bytes) (drop b (drop a bytes)) longer refl) (ih (omega arith)))

pub few_pairs : (n : ℕ) (id value : Width) (rows : Rows Nothing) (bytes : List ℕ) → length bytes < n * (bytes_of id + bytes_of value) → HasNoEnd (times n (pair_rows id value) rows) bytes
few_pairs zero id value rows bytes h = absurd (omega arith)
few_pairs (suc n) id value rows bytes h =
    few_in_pair (bytes_of id) (bytes_of value) n (times n (pair_rows id value) rows) bytes h (few_pairs n id value rows (drop (bytes_of value) (drop (bytes_of id) bytes)))
    (cases_lt (length bytes) (bytes_of id)) (cases_lt (length (drop (bytes_of id) bytes)) (bytes_of value))

-- what the code answers at the pairs' end
pub skips_pairs : {X : Type 0} (now : X → List ℕ) (o : Option X) (n size : ℕ) (id value : Width) (rows : Rows Nothing) (bytes : List ℕ) → size ≡ n * (bytes_of id + bytes_of value)
    → MatchOption o (length bytes < size) (λ rest. (size ≤ length bytes) × (now rest ≡ drop size bytes))
    → MatchOption o (HasNoEnd (times n (pair_rows id value) rows) bytes) (λ rest. EndsWith (times n (pair_rows id value) rows) bytes rows (now rest))
skips_pairs now None n size id value rows bytes is h = few_pairs n id value rows bytes (omega arith)
skips_pairs now (Some rest) n size id value rows bytes is h =
    subst (λ r. EndsWith (times n (pair_rows id value) rows) bytes rows r) (ap (λ s. drop s bytes) (sym is) ∙ sym h.1) (past_pairs n id value rows bytes (omega (arith, h.0)))

-- One triple, step by step.

-- what is left after a triple's id
abbrev pub behind_id : Width → Rows Nothing → Rows Nothing
behind_id len more = number_row (bytes_of len) (λ _. None) (λ k. any k more)

abbrev pub triples : ℕ → Width → Width → Rows Nothing → Rows Nothing
triples n id len rows = times n (triple_rows id len) rows

first_triple : (n : ℕ) (id len : Width) (rows : Rows Nothing) → 0 < n → any (bytes_of id) (behind_id len (triples (n - 1) id len rows)) ≡ triples n id len rows
first_triple zero id len rows some = absurd (omega arith)
first_triple (suc n) id len rows some = let e : suc n - 1 ≡ n = omega arith in ap (λ k. any (bytes_of id) (behind_id len (triples k id len rows))) e

pub few_ids : (n : ℕ) (id len : Width) (rows : Rows Nothing) (bytes : List ℕ) → 0 < n → length bytes < bytes_of id → HasNoEnd (triples n id len rows) bytes
few_ids n id len rows bytes some h =
    subst (λ r. HasNoEnd r bytes) (first_triple n id len rows some) (few (bytes_of id) (λ _. None) (λ _. behind_id len (triples (n - 1) id len rows)) bytes h)

pub past_id : (n : ℕ) (id len : Width) (rows : Rows Nothing) (bytes rest : List ℕ) → 0 < n → bytes_of id ≤ length bytes → rest ≡ drop (bytes_of id) bytes
    → EndsWith (triples n id len rows) bytes (behind_id len (triples (n - 1) id len rows)) rest
past_id n id len rows bytes rest some h is =
    subst (λ r. EndsWith r bytes (behind_id len (triples (n - 1) id len rows)) rest) (first_triple n id len rows some) (past_any (bytes_of id) (behind_id len (triples (n - 1) id len rows)) bytes rest h is)

pub few_lengths : (n : ℕ) (id len : Width) (rows : Rows Nothing) (bytes between : List ℕ) → EndsWith (triples n id len rows) bytes (behind_id len (triples (n - 1) id len rows)) between → length between < bytes_of len
    → HasNoEnd (triples n id len rows) bytes
few_lengths n id len rows bytes between past h =
    let more = triples (n - 1) id len rows in
    and_no (triples n id len rows) (behind_id len more) bytes between past (few (bytes_of len) (λ _. None) (λ f. any (number f) more) between h)

pub past_length : (n : ℕ) (id len : Width) (rows : Rows Nothing) (bytes between text : List ℕ) (size : ℕ) → EndsWith (triples n id len rows) bytes (behind_id len (triples (n - 1) id len rows)) between
    → bytes_of len ≤ length between → size ≡ front_number len between → text ≡ behind len between → EndsWith (triples n id len rows) bytes (any size (triples (n - 1) id len rows)) text
past_length n id len rows bytes between text size past h value is =
    let more = triples (n - 1) id len rows in
    and_on (triples n id len rows) (behind_id len more) (any size more) bytes between text past (past_number (bytes_of len) (λ _. None) (λ k. any k more) between text size h value is refl)

pub few_texts : (n : ℕ) (id len : Width) (rows : Rows Nothing) (bytes text : List ℕ) (size : ℕ) → EndsWith (triples n id len rows) bytes (any size (triples (n - 1) id len rows)) text → length text < size → HasNoEnd (triples n id len rows) bytes
few_texts n id len rows bytes text size past h =
    let more = triples (n - 1) id len rows in
    and_no (triples n id len rows) (any size more) bytes text past (few size (λ _. None) (λ _. more) text h)

pub past_text : (n : ℕ) (id len : Width) (rows : Rows Nothing) (bytes text rest : List ℕ) (size : ℕ) → EndsWith (triples n id len rows) bytes (any size (triples (n - 1) id len rows)) text → size ≤ length text → rest ≡ drop size text
    → EndsWith (triples n id len rows) bytes (triples (n - 1) id len rows) rest
past_text n id len rows bytes text rest size past h is =
    let more = triples (n - 1) id len rows in
    and_on (triples n id len rows) (any size more) more bytes text rest past (past_any size more text rest h is)

-- An answer that is none.

pub at_none : {X : Type 0} (o : Option X) (P : Type 0) (Q : X → Type 0) → o ≡ None → P → MatchOption o P Q
at_none None P Q is p = p
at_none (Some x) P Q is p = absurd (cc)

-- Parts.

pub few_part : (p q : Part) (ps : List Part) (total counted : ℕ) (bytes : List ℕ) → p ≡ q → length bytes < first_width_of q → HasNoEnd (parts_rows (p ∷ ps) total counted nothing) bytes
unfolding parts_rows
few_part p (Plain f w) ps total counted bytes is h = subst (λ x. HasNoEnd (parts_rows (x ∷ ps) total counted nothing) bytes) (sym is) (λ place. ap end_of (judge_short (bytes_of w) _ _ place bytes h))
few_part p (Total w) ps total counted bytes is h = subst (λ x. HasNoEnd (parts_rows (x ∷ ps) total counted nothing) bytes) (sym is) (λ place. ap end_of (judge_short (bytes_of w) _ _ place bytes h))
few_part p (Pairs w i v) ps total counted bytes is h = subst (λ x. HasNoEnd (parts_rows (x ∷ ps) total counted nothing) bytes) (sym is) (λ place. ap end_of (judge_short (bytes_of w) _ _ place bytes h))
few_part p (Triples w i v) ps total counted bytes is h = subst (λ x. HasNoEnd (parts_rows (x ∷ ps) total counted nothing) bytes) (sym is) (λ place. ap end_of (judge_short (bytes_of w) _ _ place bytes h))

pub past_plain : (p : Part) (f : Field) (w : Width) (ps : List Part) (total counted : ℕ) (bytes rest : List ℕ) → p ≡ Plain f w → bytes_of w ≤ length bytes → rest ≡ drop (bytes_of w) bytes
    → EndsWith (parts_rows (p ∷ ps) total counted nothing) bytes (parts_rows ps total counted nothing) rest
unfolding parts_rows
past_plain p f w ps total counted bytes rest is h behind =
    subst (λ x. EndsWith (parts_rows (x ∷ ps) total counted nothing) bytes (parts_rows ps total counted nothing) rest) (sym is) (past_any (bytes_of w) (parts_rows ps total counted nothing) bytes rest h behind)

pub past_total : (p : Part) (w : Width) (ps : List Part) (total counted n : ℕ) (bytes rest : List ℕ) → p ≡ Total w → bytes_of w ≤ length bytes → n ≡ front_number w bytes → rest ≡ behind w bytes
    → EndsWith (parts_rows (p ∷ ps) total counted nothing) bytes (parts_rows ps n counted nothing) rest
unfolding parts_rows
past_total p w ps total counted n bytes rest is h value behind =
    subst (λ x. EndsWith (parts_rows (x ∷ ps) total counted nothing) bytes (parts_rows ps n counted nothing) rest) (sym is)
    (past_number (bytes_of w) (λ _. None) (λ k. parts_rows ps k counted nothing) bytes rest n h value behind refl)

pub past_pairs_count : (p : Part) (w i v : Width) (ps : List Part) (total counted n sum : ℕ) (bytes rest : List ℕ) → p ≡ Pairs w i v → bytes_of w ≤ length bytes → n ≡ front_number w bytes → rest ≡ behind w bytes
    → Some sum ≡ counted_with ps total (counted + n) → EndsWith (parts_rows (p ∷ ps) total counted nothing) bytes (times n (pair_rows i v) (parts_rows ps total sum nothing)) rest
unfolding parts_rows
past_pairs_count p w i v ps total counted n sum bytes rest is h value behind counts =
    let q = rule_passes (count_rule ps total (counted + n)) (counted + n) sum counts in
    subst (λ x. EndsWith (parts_rows (x ∷ ps) total counted nothing) bytes (times n (pair_rows i v) (parts_rows ps total sum nothing)) rest) (sym is)
    (subst (λ s. EndsWith (parts_rows (Pairs w i v ∷ ps) total counted nothing) bytes (times n (pair_rows i v) (parts_rows ps total s nothing)) rest) (sym q.1)
    (past_number (bytes_of w) (λ k. count_rule ps total (counted + k)) (λ k. times k (pair_rows i v) (parts_rows ps total (counted + k) nothing)) bytes rest n h value behind q.0))

pub past_triples_count : (p : Part) (w i v : Width) (ps : List Part) (total counted n sum : ℕ) (bytes rest : List ℕ) → p ≡ Triples w i v → bytes_of w ≤ length bytes → n ≡ front_number w bytes → rest ≡ behind w bytes
    → Some sum ≡ counted_with ps total (counted + n) → EndsWith (parts_rows (p ∷ ps) total counted nothing) bytes (times n (triple_rows i v) (parts_rows ps total sum nothing)) rest
unfolding parts_rows
past_triples_count p w i v ps total counted n sum bytes rest is h value behind counts =
    let q = rule_passes (count_rule ps total (counted + n)) (counted + n) sum counts in
    subst (λ x. EndsWith (parts_rows (x ∷ ps) total counted nothing) bytes (times n (triple_rows i v) (parts_rows ps total sum nothing)) rest) (sym is)
    (subst (λ s. EndsWith (parts_rows (Triples w i v ∷ ps) total counted nothing) bytes (times n (triple_rows i v) (parts_rows ps total s nothing)) rest) (sym q.1)
    (past_number (bytes_of w) (λ k. count_rule ps total (counted + k)) (λ k. times k (triple_rows i v) (parts_rows ps total (counted + k) nothing)) bytes rest n h value behind q.0))

pub bad_pairs_count : (p : Part) (w i v : Width) (ps : List Part) (total counted n : ℕ) (bytes : List ℕ) → p ≡ Pairs w i v → bytes_of w ≤ length bytes → n ≡ front_number w bytes
    → None ≡ counted_with ps total (counted + n) → HasNoEnd (parts_rows (p ∷ ps) total counted nothing) bytes
unfolding parts_rows
bad_pairs_count p w i v ps total counted n bytes is h value fails =
    subst (λ x. HasNoEnd (parts_rows (x ∷ ps) total counted nothing) bytes) (sym is)
    (bad_number (bytes_of w) (λ k. count_rule ps total (counted + k)) (λ k. times k (pair_rows i v) (parts_rows ps total (counted + k) nothing)) bytes n TotalMismatch h value (rule_fails ps total (counted + n) fails))

pub bad_triples_count : (p : Part) (w i v : Width) (ps : List Part) (total counted n : ℕ) (bytes : List ℕ) → p ≡ Triples w i v → bytes_of w ≤ length bytes → n ≡ front_number w bytes
    → None ≡ counted_with ps total (counted + n) → HasNoEnd (parts_rows (p ∷ ps) total counted nothing) bytes
unfolding parts_rows
bad_triples_count p w i v ps total counted n bytes is h value fails =
    subst (λ x. HasNoEnd (parts_rows (x ∷ ps) total counted nothing) bytes) (sym is)
    (bad_number (bytes_of w) (λ k. count_rule ps total (counted + k)) (λ k. times k (triple_rows i v) (parts_rows ps total (counted + k) nothing)) bytes n TotalMismatch h value (rule_fails ps total (counted + n) fails))

-- The walk through a record.

pub ended : (rows : Rows Nothing) (ps : List Part) (total counted : ℕ) (bytes rest : List ℕ) → length ps ≡ 0 → EndsWith rows bytes (parts_rows ps total counted nothing) rest
    → Some (length bytes - length rest) ≡ end_of (judge rows 0 bytes)
unfolding parts_rows
ended rows [] total counted bytes rest none e =
    let n : 0 + (length bytes - length rest) ≡ length bytes - length rest = omega arith in
    sym (e.end 0 ∙ ap end_of (judge_done (tt {0}) (0 + (length bytes - length rest)) rest) ∙ ap (λ k. Some k) n)
ended rows (p ∷ ps) total counted bytes rest none e = absurd (omega arith)
