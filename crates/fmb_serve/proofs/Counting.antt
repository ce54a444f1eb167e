-- How many doors are counted that came back.
use Rattle.std.proofs.Common.{◌≡◌, ◌<◌, ◌≤◌, ◌+◌, ◌++◌, ℕ, zero, suc, true, false, List, [], ◌∷◌, length, refl, ap, subst, ◌∙◌, arith, inl, inr}
use Rattle.std.specs.Prelude.{◌⊎◌}
use Rattle.avl_values.specs.Causes.{Rose}
use Rattle.doors.specs.Doors.{DoorState}
use Rattle.links.specs.Links.{LinkState}
use Rattle.server_loop.specs.Workers.{AreReports}
use Rattle.server_loop.specs.declared.report.WorkerReport.{WorkerReport}
use Rattle.fmb_host.specs.Host.{counted_once}
use Rattle.fmb_io.proofs.Steps.{once_none, once_some}
use Rattle.fmb_serve.specs.Doors.{AreNewDoors}
use Rattle.fmb_serve.specs.Serve.{counted_doors}
use Rattle.fmb_serve.specs.Statuses.{any_door_failed}
use Rattle.fmb_serve.proofs.Loops.{either, neither}

once_between : (n faults : ℕ) → (n ≤ counted_once n faults) × (counted_once n faults ≤ n + 1)
once_between n zero = (omega arith, omega arith)
once_between n (suc faults) = let is : counted_once n (suc faults) ≡ n + 1 = once_some n (suc faults) (omega arith) in (omega (arith, is), omega (arith, is))

pub risen : (faults : ℕ) → Rose 0 faults → 0 < faults
risen faults rose = omega (arith, rose)

module _ {L : Type 0} where
  pub counted_later : (n : ℕ) (ds : List (DoorState L)) → n ≤ counted_doors n ds
  counted_later n [] = omega arith
  counted_later n (d ∷ ds) = omega (arith, (once_between n d.faults).0, counted_later (counted_once n d.faults) ds)

  pub counted_most : (n : ℕ) (ds : List (DoorState L)) → counted_doors n ds ≤ n + length ds
  counted_most n [] = omega arith
  counted_most n (d ∷ ds) = omega (arith, (once_between n d.faults).1, counted_most (counted_once n d.faults) ds)

  pub counted_snoc : (n : ℕ) (ds : List (DoorState L)) (d : DoorState L) → counted_doors n (ds ++ d ∷ []) ≡ counted_once (counted_doors n ds) d.faults
  counted_snoc n [] d = refl
  counted_snoc n (x ∷ ds) d = counted_snoc (counted_once n x.faults) ds d

module _ {L : Type 0} (state : L → LinkState) (sessions : ℕ) where
  -- doors that were not used count nothing
  pub counted_new : (n : ℕ) (ds : List (DoorState L)) → AreNewDoors state ds → counted_doors n ds ≡ n
  counted_new n [] new = refl
  counted_new n (d ∷ ds) new = ap (λ m. counted_doors m ds) (once_none n d.faults new.0.faults) ∙ counted_new n ds new.1

  -- and where no worker's door failed, those that came back count nothing
  pub counted_none : (n : ℕ) (ds es : List (DoorState L)) (rs : List WorkerReport) → AreNewDoors state ds → AreReports sessions ds es rs → any_door_failed rs ≡ false
      → counted_doors n es ≡ n
  counted_none n [] [] [] new reports none = refl
  counted_none n [] [] (r ∷ rs) new reports none = absurd reports
  counted_none n [] (e ∷ es) rs new reports none = absurd reports
  counted_none n (d ∷ ds) [] rs new reports none = absurd reports
  counted_none n (d ∷ ds) (e ∷ es) [] new reports none = absurd reports
  counted_none n (d ∷ ds) (e ∷ es) (r ∷ rs) new reports none =
      let both = neither r.door_failed (any_door_failed rs) none in
      let whole : e.faults ≡ 0 = reports.0.passed both.0 ∙ new.0.faults in
      ap (λ m. counted_doors m es) (once_none n e.faults whole) ∙ counted_none n ds es rs new.1 reports.1 both.1

  -- where one failed, it counts
  pub counted_some : (n : ℕ) (ds es : List (DoorState L)) (rs : List WorkerReport) → AreNewDoors state ds → AreReports sessions ds es rs → any_door_failed rs ≡ true
      → n < counted_doors n es
  counted_some n [] [] [] new reports some = absurd (let never : false ≡ true = some in cc)
  counted_some n [] [] (r ∷ rs) new reports some = absurd reports
  counted_some n [] (e ∷ es) rs new reports some = absurd reports
  counted_some n (d ∷ ds) [] rs new reports some = absurd reports
  counted_some n (d ∷ ds) (e ∷ es) [] new reports some = absurd reports
  counted_some n (d ∷ ds) (e ∷ es) (r ∷ rs) new reports some =
      here (counted_some (counted_once n e.faults) ds es rs new.1 reports.1) (either r.door_failed (any_door_failed rs) some)
    where
      here : (any_door_failed rs ≡ true → counted_once n e.faults < counted_doors (counted_once n e.faults) es) → (r.door_failed ≡ true) ⊎ (any_door_failed rs ≡ true) → n < counted_doors n (e ∷ es)
      here later (inl failed) =
          let rose : Rose 0 e.faults = subst (λ m. Rose m e.faults) new.0.faults (reports.0.cause failed) in
          let one : counted_once n e.faults ≡ n + 1 = once_some n e.faults (risen e.faults rose) in
          let more : counted_once n e.faults ≤ counted_doors (counted_once n e.faults) es = counted_later (counted_once n e.faults) es in
          omega (arith, one, more)
      here later (inr failed) =
          let more = later failed in
          omega (arith, (once_between n e.faults).0, more)
