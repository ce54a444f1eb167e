-- The medium's calls on one line, against the calls that a fuse leaves.
use Rattle.std.proofs.Common.{◌≡◌, ◌≤◌, ◌<◌, inl, inr, ℕ, ◌-◌, ◌*◌, Bool, true, false, not, List, [], ◌∷◌, ◌++◌, length, Option, Some, None, refl, sym, ◌∙◌, ap, subst, arith}
use Rattle.std.specs.List.{list_any}
use Rattle.std.proofs.lemmas.Bool.{cases_Bool, cases_lt, true≢false}
use Rattle.avl_values.specs.Record.{Record}
use Rattle.medium_model.specs.CallsLeft.{Fails, Passes, after, less, unlimited}
use Rattle.medium_model.proofs.Images.{less-within}
use Rattle.record_layout.specs.RecordsOf.{records_of}
use Rattle.shelf.specs.Archive.{admitted, fresh, recs_for}
use Rattle.shelf.specs.Shelf.{ShelfView, calls_for}
use Rattle.trial_model.specs.Answers.{fresh_frames}
use Rattle.trial_model.specs.Cover.{IsBelow}
use Rattle.trial_model.specs.Frames.{Frame}
use Rattle.trial_model.specs.RecordLists.{AreIn, is_listed}
use Rattle.trial_server.specs.Serving.{IsAdmitted, Serves, left_by}
use Rattle.trial_server.proofs.Accounts.{admitted-own, fresh-some}
use Rattle.trial_server.proofs.Containing.{adds-only, in-itself, in-left, in-right}

calls-most : (rs : List Record) → calls_for rs ≤ 4
calls-most [] = omega arith
calls-most (r ∷ rs) = omega arith

calls-four : (rs : List Record) → 1 ≤ length rs → calls_for rs ≡ 4
calls-four [] some = absurd (omega arith)
calls-four (r ∷ rs) some = refl

module _ (before : List Record) (imei : ℕ) (f : Frame) (old new : ShelfView) (h : AreIn before (recs_for imei old.list)) (a : IsAdmitted imei f.records old new) where
  -- the calls that the packet cost
  abbrev pub cost : ℕ
  cost = calls_for (fresh old.list imei (records_of a.body))

  cost-most : cost ≤ 4
  cost-most = calls-most (fresh old.list imei (records_of a.body))

  cost-fresh : list_any (λ r. not (is_listed before r)) f.records ≡ true → cost ≡ 4
  cost-fresh e = calls-four (fresh old.list imei (records_of a.body)) (subst (λ rs. 1 ≤ length (fresh old.list imei rs)) (sym a.records) (fresh-some before imei old.list f.records h e))

  passed : (k : ℕ) → old.medium.left ≡ after k → cost ≤ k
  passed k left = elim (cases_lt k cost) [
    | inl short ↦ absurd (a.leaves.counted.fails (subst (Fails cost) (sym left) short))
    | inr enough ↦ enough
  ]

  left-passed : (k : ℕ) → old.medium.left ≡ after k → new.medium.left ≡ after (k - cost)
  left-passed k left = a.leaves.counted.left ∙ (ap (less cost) left ∙ less-within cost k (passed k left))

  known-more : AreIn (before ++ f.records) (recs_for imei new.list)
  known-more =
      let list_is : new.list ≡ admitted old.list imei f.records = a.leaves.admits.list ∙ ap (admitted old.list imei) a.records in
      subst (λ l. AreIn (before ++ f.records) (recs_for imei l)) (sym list_is) (rw (admitted-own imei old.list f.records)
      (adds-only (before ++ f.records) (recs_for imei old.list) f.records (in-left before f.records (recs_for imei old.list) h) (in-right before f.records f.records (in-itself f.records))))

-- Where N calls pass, they suffice for the frames with a record of none before, or the medium failed; and it fails only
-- where they don't suffice for all.
pub serves-paced : (before : List Record) (imei : ℕ) (failed : Bool) (fs : List Frame) (old new : ShelfView) (k : ℕ)
    → AreIn before (recs_for imei old.list) → old.medium.left ≡ after k → Serves imei failed fs old new
    → (failed ≡ false → 4 * fresh_frames before fs ≤ k) × (failed ≡ true → k < 4 * length fs)
serves-paced before imei failed [] old new k h left (good, same) = (λ _. omega arith, λ bad. absurd (true≢false (sym bad ∙ good)))
serves-paced before imei failed (f ∷ fs) old new k h left (inl (mid, a, rest)) =
    let n = cost before imei f old mid h a in
    let low = passed before imei f old mid h a k left in
    let most = cost-most before imei f old mid h a in
    let later = serves-paced (before ++ f.records) imei failed fs mid new (k - n) (known-more before imei f old mid h a) (left-passed before imei f old mid h a k left) rest in (
      λ good. elim (cases_Bool (list_any (λ r. not (is_listed before r)) f.records)) [
        | inl e ↦ rw e (let four : n ≡ 4 = cost-fresh before imei f old mid h a e in let more = later.0 good in omega (arith, four, more, low))
        | inr e ↦ rw e (let more = later.0 good in omega (arith, more, low))
      ],
      λ bad. (let more = later.1 bad in omega (arith, more, low, most)),
    )
serves-paced before imei failed (f ∷ fs) old new k h left (inr (bad, last, r)) = (
  λ good. absurd (true≢false (sym bad ∙ good)),
  λ _. elim (cases_lt k 4) [
    | inl short ↦ omega (arith, short)
    | inr enough ↦ absurd (r.leaves.counted.passes (subst (Passes (calls_for (fresh old.list imei (records_of r.body)))) (sym left) (let most = calls-most (fresh old.list imei (records_of r.body)) in omega (arith, most, enough))) tt)
  ],
)

-- Without a fuse none fails, and none will.
pub serves-unlimited : (imei : ℕ) (failed : Bool) (fs : List Frame) (old new : ShelfView) → old.medium.left ≡ unlimited → Serves imei failed fs old new → (failed ≡ false) × (new.medium.left ≡ unlimited)
serves-unlimited imei failed [] old new left (good, same) = (good, ap (λ (v : ShelfView). v.medium.left) same ∙ left)
serves-unlimited imei failed (f ∷ fs) old new left (inl (mid, a, rest)) =
    serves-unlimited imei failed fs mid new (a.leaves.counted.left ∙ ap (less (calls_for (fresh old.list imei (records_of a.body)))) left) rest
serves-unlimited imei failed (f ∷ fs) old new left (inr (bad, last, r)) =
    absurd (r.leaves.counted.passes (subst (Passes (calls_for (fresh old.list imei (records_of r.body)))) (sym left) tt) tt)

-- What a line's cover says of the medium's failing.
pub serves-must : (before : List Record) (imei : ℕ) (failed : Bool) (fs : List Frame) (old new : ShelfView) (cover : Option ℕ)
    → AreIn before (recs_for imei old.list) → old.medium.left ≡ left_by cover → Serves imei failed fs old new → IsBelow cover (4 * fresh_frames before fs) → failed ≡ true
serves-must before imei failed fs old new None h left s below = absurd below
serves-must before imei failed fs old new (Some k) h left s below = elim (cases_Bool failed) [
  | inl bad ↦ bad
  | inr good ↦ absurd (let most = (serves-paced before imei failed fs old new k h left s).0 good in let low : k < 4 * fresh_frames before fs = below in omega arith)
]

pub serves-may : (before : List Record) (imei : ℕ) (failed : Bool) (fs : List Frame) (old new : ShelfView) (cover : Option ℕ)
    → AreIn before (recs_for imei old.list) → old.medium.left ≡ left_by cover → Serves imei failed fs old new → failed ≡ true → IsBelow cover (4 * length fs)
serves-may before imei failed fs old new None h left s bad = absurd (true≢false (sym bad ∙ (serves-unlimited imei failed fs old new left s).0))
serves-may before imei failed fs old new (Some k) h left s bad = (serves-paced before imei failed fs old new k h left s).1 bad
