-- A round over right answers.
use Rattle.std.proofs.Common.{◌≡◌, inl, inr, ℕ, zero, suc, ◌<◌, ◌≤◌, ◌^◌, nat_lt, true, false, List, [], ◌∷◌, ◌++◌, length, take, drop, Ok, Err, refl, sym, ap, ◌∙◌, append_assoc, append-nil, arith, length-append}
use Rattle.std.proofs.lemmas.Bool.{ltb-false, ltb-true}
use Rattle.std.proofs.lemmas.List.{append_cancel_left, length-drop, length-map, take-append-drop}
use Rattle.avl_values.specs.Record.{Record}
use Rattle.avl_values.specs.declared.fault.FaultKind.{FaultKind}
use Rattle.layout.specs.Rows.{Verdict, whole, short, fault}
use Rattle.record_layout.specs.RecordsOf.{records_of}
use Rattle.record_layout.proofs.ReadLaws.{records_read}
use Rattle.frame_layout.specs.DownRows.{down_verdict}
use Rattle.frame_layout.specs.Items.{IsCount, count_bytes}
use Rattle.frame_layout.specs.Values.{DownValue, answer, count, order}
use Rattle.frame_layout.proofs.DownLaws.{down_stays, down_whole, none_begins_down}
use Rattle.tracker_session.specs.Sending.{AreSentBodies, IsSentBody}
use Rattle.tracker_session.specs.Talks.{AreRightAnswers, HeardAll, IsRightEnd, RightAnswersEndRight, WaitsForCount, counts, counts_by, records_by, refuses}
use Rattle.tracker_session.specs.declared.heard.Got.TheVariants as got
use Rattle.tracker_session.specs.declared.round_end.RoundEnd.TheVariants as end
use Rattle.tracker_session.proofs.Sents.{counts-append}

none-more : (xs ys : List ℕ) → length (xs ++ ys) ≤ length xs → ys ≡ []
none-more xs [] few = refl
none-more xs (y ∷ ys) few = absurd (omega (arith, length-append xs (y ∷ ys)))

-- a batch that was sent has 1 to 255 records
own-count : (b : List ℕ) → IsSentBody b → IsCount (length (records_of b)) (count_bytes (length (records_of b)))
own-count b s =
    let body = s.frame.of_body in
    let size : length (records_of b) ≡ length body.records = ap length (records_read s.head.codec body.records b body.packet) ∙ length-map body.records (λ (r : List ℕ). (let one : Record = record { codec = s.head.codec; bytes = r } in one)) in
    record { is = refl; some = omega (arith, body.packet.some); fits = omega (arith, body.packet.few) }

sent-drop : (n : ℕ) (bodies : List (List ℕ)) → AreSentBodies bodies → AreSentBodies (drop n bodies)
sent-drop zero bodies are = are
sent-drop (suc n) [] are = are
sent-drop (suc n) (b ∷ bodies) are = sent-drop n bodies are.1

-- the outstanding batch's own count
pub record HasOwn (bodies : List (List ℕ)) (heard : ℕ) : Type 0 where
  pub own : ℕ
  pub is : IsCount own (count_bytes own)
  pub counts_is : counts_by (drop heard bodies) ≡ count_bytes own
  pub records_is : length (records_by (drop heard bodies)) ≡ own

has-own : (bodies : List (List ℕ)) (heard : ℕ) → AreSentBodies bodies → WaitsForCount bodies heard → HasOwn bodies heard
has-own bodies heard are waits = let one = waits.one_more in by (drop heard bodies) (sent-drop heard bodies are) (omega (arith, length-drop heard bodies)) refl
  where
    by : (out : List (List ℕ)) → AreSentBodies out → length out ≡ 1 → drop heard bodies ≡ out → HasOwn bodies heard
    by [] are one is = absurd (omega arith)
    by (b ∷ []) are one is = record {
      own = length (records_of b);
      is = own-count b are.0;
      counts_is = ap counts_by is ∙ append-nil (count_bytes (length (records_of b)));
      records_is = ap (λ (xs : List (List ℕ)). length (records_by xs)) is ∙ ap length (append-nil (records_of b));
    }
    by (b ∷ c ∷ out) are one is = absurd (omega arith)

-- what was taken of that count begins it
rest-begins : (bodies : List (List ℕ)) (heard : ℕ) (taken rest more : List ℕ) → taken ++ more ≡ 1 ∷ counts_by bodies → taken ≡ (1 ∷ counts_by (take heard bodies)) ++ rest → rest ++ more ≡ counts_by (drop heard bodies)
rest-begins bodies heard taken rest more right is =
    let front = counts_by (take heard bodies) in
    let split : counts_by bodies ≡ front ++ counts_by (drop heard bodies) = ap counts_by (sym (take-append-drop heard bodies)) ∙ counts-append (take heard bodies) (drop heard bodies) in
    append_cancel_left (1 ∷ front) (rest ++ more) (counts_by (drop heard bodies))
    (sym (append_assoc (1 ∷ front) rest more) ∙ ap (λ (b : List ℕ). b ++ more) (sym is) ∙ right ∙ ap (λ (b : List ℕ). 1 ∷ b) split)

-- a first byte
first-same : (a b : ℕ) (xs ys : List ℕ) → a ∷ xs ≡ b ∷ ys → a ≡ b
first-same a b xs ys e = ap (λ (zs : List ℕ). head_or a zs) e
  where
    head_or : ℕ → List ℕ → ℕ
    head_or a [] = a
    head_or a (z ∷ zs) = z

count-same : (k n : ℕ) → count k ≡ count n → k ≡ n
count-same k n e = ap (λ (v : DownValue). says v) e
  where
    says : DownValue → ℕ
    says (answer b) = b
    says (count n) = n
    says (order body) = 0

-- all was heard, and no more came
heard-right : (taken : List ℕ) (bodies : List (List ℕ)) (heard : ℕ) (back : List ℕ) → AreRightAnswers taken bodies → HeardAll taken bodies heard back → taken ≡ 1 ∷ counts_by bodies
heard-right taken bodies heard back (counts more right) h =
    let all = 1 ∷ counts_by bodies in
    let whole_is : all ++ (back ++ more) ≡ all = sym (append_assoc all back more) ∙ ap (λ (b : List ℕ). b ++ more) (sym h.is) ∙ right in
    let none : back ++ more ≡ [] = none-more all (back ++ more) (omega (arith, ap length whole_is)) in
    let no_back : back ≡ [] = none-more [] back (omega (arith, length-append back more, ap length none)) in
    h.is ∙ ap (λ (b : List ℕ). all ++ b) no_back ∙ append-nil all
heard-right taken bodies heard back (refuses more right) h = absurd (let e = first-same 1 0 _ _ (ap (λ (b : List ℕ). b ++ more) (sym h.is) ∙ right) in omega (arith, e))

refused-right : (taken : List ℕ) (bodies : List (List ℕ)) (back : List ℕ) → AreRightAnswers taken bodies → taken ≡ (0 ∷ []) ++ back → taken ≡ 0 ∷ []
refused-right taken bodies back (counts more right) is = absurd (let e = first-same 0 1 _ _ (ap (λ (b : List ℕ). b ++ more) (sym is) ∙ right) in omega (arith, e))
refused-right taken bodies back (refuses more right) is =
    let whole_is : 0 ∷ (back ++ more) ≡ 0 ∷ [] = ap (λ (b : List ℕ). b ++ more) (sym is) ∙ right in
    let no_back : back ≡ [] = none-more [] back (omega (arith, length-append back more, ap length whole_is)) in
    is ∙ ap (λ (b : List ℕ). 0 ∷ b) no_back

-- no other first byte came
login-right : (taken : List ℕ) (bodies : List (List ℕ)) (b : ℕ) (back : List ℕ) → AreRightAnswers taken bodies → taken ≡ (b ∷ []) ++ back → (b ≡ 0 → ⊥) → (b ≡ 1 → ⊥) → ⊥
login-right taken bodies b back (counts more right) is zero_not one_not = one_not (first-same b 1 _ _ (ap (λ (x : List ℕ). x ++ more) (sym is) ∙ right))
login-right taken bodies b back (refuses more right) is zero_not one_not = zero_not (first-same b 0 _ _ (ap (λ (x : List ℕ). x ++ more) (sym is) ∙ right))

module _ (taken : List ℕ) (bodies : List (List ℕ)) (heard : ℕ) (are : AreSentBodies bodies) (waits : WaitsForCount bodies heard) (rest : List ℕ) (is : taken ≡ (1 ∷ counts_by (take heard bodies)) ++ rest) where
  -- what came of the count
  begins : (answers : AreRightAnswers taken bodies) → (more : List ℕ) × (rest ++ more ≡ count_bytes (has-own bodies heard are waits).own)
  begins (counts more right) = (more, rest-begins bodies heard taken rest more right is ∙ (has-own bodies heard are waits).counts_is)
  begins (refuses more right) = absurd (let e = first-same 1 0 _ _ (ap (λ (b : List ℕ). b ++ more) (sym is) ∙ right) in omega (arith, e))

  -- the whole of it is a count
  is-whole : (more : List ℕ) → rest ++ more ≡ count_bytes (has-own bodies heard are waits).own → down_verdict true (rest ++ more) ≡ whole (count (has-own bodies heard are waits).own) (length (count_bytes (has-own bodies heard are waits).own))
  is-whole more e =
      let own = (has-own bodies heard are waits).own in
      ap (down_verdict true) (e ∙ sym (append-nil (count_bytes own))) ∙ down_whole true (count own) (count_bytes own) [] (has-own bodies heard are waits).is

  short-right : AreRightAnswers taken bodies → down_verdict true rest ≡ short → length rest < 4
  short-right answers verdict = elim (nat_lt (length rest) 4) as (λ b. nat_lt (length rest) 4 ≡ b → length rest < 4) [
    | true ↦ λ e. ltb-true (length rest) 4 e
    | false ↦ λ e. (let many = ltb-false (length rest) 4 e in
        let own = (has-own bodies heard are waits).own in
        let b = begins answers in
        let none : b.0 ≡ [] = none-more rest b.0 (omega (arith, ap length b.1)) in
        let all : rest ≡ rest ++ b.0 = sym (append-nil rest) ∙ ap (λ (x : List ℕ). rest ++ x) (sym none) in
        let both : short ≡ whole (count own) (length (count_bytes own)) = sym verdict ∙ ap (down_verdict true) all ∙ is-whole b.0 b.1 in
        absurd cc)
  ] refl

  fault-right : AreRightAnswers taken bodies → (kind : FaultKind) (place : ℕ) → down_verdict true rest ≡ fault kind place → ⊥
  fault-right answers kind place verdict =
      let own = (has-own bodies heard are waits).own in
      let b = begins answers in
      let come : down_verdict true rest ≡ short → ⊥ = λ e. (let f : ◌≡◌ {A = Verdict DownValue} (fault kind place) short = sym verdict ∙ e in cc) in
      let both : ◌≡◌ {A = Verdict DownValue} (fault kind place) (whole (count own) (length (count_bytes own))) = sym verdict ∙ sym (down_stays true rest b.0 come) ∙ is-whole b.0 b.1 in
      cc

count-right : (taken : List ℕ) (bodies : List (List ℕ)) (heard : ℕ) (are : AreSentBodies bodies) (waits : WaitsForCount bodies heard) (k : ℕ) (back : List ℕ) → taken ≡ (1 ∷ counts_by (take heard bodies)) ++ (count_bytes k ++ back)
    → 0 < k → k < 2 ^ 32 → (k ≡ length (records_by (drop heard bodies)) → ⊥) → AreRightAnswers taken bodies → ⊥
count-right taken bodies heard are waits k back is some fits other answers =
    let h = has-own bodies heard are waits in
    let b = begins taken bodies heard are waits (count_bytes k ++ back) is answers in
    let same = none_begins_down true (count k) (count h.own) (count_bytes k) (count_bytes h.own) (back ++ b.0) [] (record { is = refl; some = some; fits = fits }) h.is
    (sym (append_assoc (count_bytes k) back b.0) ∙ b.1 ∙ sym (append-nil (count_bytes h.own))) in
    other (count-same k h.own same.1 ∙ sym h.records_is)

pub right-answers : RightAnswersEndRight
right-answers (Ok (end.Done n)) taken bodies heard back are answers e = (heard-right taken bodies heard back answers e.0, e.0.all, e.0.some, e.1)
right-answers (Ok end.Empty) taken bodies heard back are answers e = absurd e
right-answers (Ok end.Refused) taken bodies heard back are answers e = (refused-right taken bodies back answers e.1, e.0.none_sent, e.0.none_heard)
right-answers (Ok end.Broken) taken bodies heard back are answers e = elim e.1 as (λ _. IsRightEnd (Ok end.Broken) taken bodies heard) [
  | inl first ↦ inl (first.1, first.0.none_sent, first.0.none_heard)
  | inr later ↦ inr (later.1.0, later.1.1, short-right taken bodies heard are later.0 later.1.0 later.1.1 answers later.1.2, later.0.one_more)
]
right-answers (Ok (end.WrongAnswer (got.Login b))) taken bodies heard back are answers e = absurd (login-right taken bodies b back answers e.1 e.2 e.3)
right-answers (Ok (end.WrongAnswer (got.Count k))) taken bodies heard back are answers e = absurd (count-right taken bodies heard are e.0 k back e.1 e.2 e.3 e.4 answers)
right-answers (Ok (end.WrongAnswer (got.Frame found))) taken bodies heard back are answers e = absurd (fault-right taken bodies heard are e.0 e.1.0 e.1.1 answers found.kind found.place e.1.2)
right-answers (Ok end.TooManyCommands) taken bodies heard back are answers e = absurd e
right-answers (Err failed) taken bodies heard back are answers e = (heard-right taken bodies heard back answers e, e.all, e.some)
