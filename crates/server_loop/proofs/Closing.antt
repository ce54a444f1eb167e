-- A closing list, by the workers' connections.
use Rattle.std.proofs.Common.{◌≡◌, ◌⊎◌, inl, inr, ℕ, zero, suc, ◌+◌, ◌<◌, Bool, List, [], ◌∷◌, length, map, slice_get, Some, refl, sym, ap, subst, ◌∙◌, arith}
use Rattle.avl_values.specs.Record.{Record}
use Rattle.links.specs.Links.{LinkState}
use Rattle.doors.specs.Doors.{DoorState}
use Rattle.shelf.specs.Admits.{Answer, Shelved}
use Rattle.shelf.specs.Archive.{Begins, StoredValue, stored}
use Rattle.shelf.specs.Calls.{Brought, replay}
use Rattle.shelf.specs.Entries.{Entry, entry, all_brought, calls_of, counting}
use Rattle.shelf.specs.Histories.{AreCounted, Each, In, IsCounted}
use Rattle.shelf.proofs.Members.{IsBrought, counting_within, in-legal, in-replay, in-right, in_log, in_own, in_whole, replay-begins}
use Rattle.session_core.specs.SessionCalls.{MayFollow}
use Rattle.session_core.specs.declared.served.Served.{Served}
use Rattle.session_core.specs.declared.served.SessionEnd.{SessionEnd}
use Rattle.session_core.specs.declared.served.SessionEnd.TheVariants as ends
use Rattle.session_core.proofs.Archiving.{IsCalled, call-in-frames, each-in, frame-is-called}
use Rattle.server_loop.specs.Connections.{Connection, IsConnection, brought_by_one, brought_in}
use Rattle.server_loop.specs.Evidence.{ClosesWith, IsArchived, IsFromWorker}
use Rattle.server_loop.specs.Workers.{AreCaused, AreReports, AreWorkers, HasServed, IsCaused, IsWorker}
use Rattle.server_loop.specs.declared.report.WorkerReport.{WorkerReport}
use Rattle.server_loop.proofs.Members.{brought-of, in-brought, in-map, in-mapped, times-own}

each-map : {X Y : Type 0} (f : X → Y) (P : Y → Type 0) (xs : List X) → ((x : X) → In xs x → P (f x)) → Each P (map f xs)
each-map f P [] each = tt
each-map f P (x ∷ xs) each = (each x (inl refl), each-map f P xs (λ y at. each y (inr at)))

counted-at : (low high : ℕ) (bs : List Brought) (b : Brought) → AreCounted low high bs → In bs b → IsCounted low high b.answer
counted-at low high [] b are at = absurd at
counted-at low high (x ∷ bs) b are (inl here) = subst (λ (y : Brought). IsCounted low high y.answer) here are.0
counted-at low high (x ∷ bs) b are (inr there) = counted-at low high bs b are.1 there

-- the call after those that were counted says what the end says
by-last : (low high : ℕ) (end : SessionEnd) (more : List Brought) → MayFollow end more → ((b : Brought) → In more b → IsCounted low high b.answer) → IsCaused low high end
by-last low high ends.Ended more follows each = tt
by-last low high (ends.EndedInside have) more follows each = tt
by-last low high ends.LinkFault more follows each = tt
by-last low high (ends.Broken found) more follows each = tt
by-last low high (ends.Unknown imei) more follows each = tt
by-last low high (ends.MediumFault faults) [] follows each = absurd follows
by-last low high (ends.MediumFault faults) (b ∷ []) follows each = subst (λ (a : Answer). IsCounted low high a) follows (each b (inl refl))
by-last low high (ends.MediumFault faults) (b ∷ c ∷ more) follows each = absurd follows
by-last low high (ends.Down faults) [] follows each = absurd follows
by-last low high (ends.Down faults) (b ∷ []) follows each = subst (λ (a : Answer). IsCounted low high a) follows (each b (inl refl))
by-last low high (ends.Down faults) (b ∷ c ∷ more) follows each = absurd follows
by-last low high (ends.LongEnough taken) more follows each = tt
by-last low high ends.NoMemory more follows each = tt

module _ {L : Type 0} (state : L → LinkState) (follows : L → L → Type 0) (knows : ℕ → Bool) (sessions : ℕ) where
  -- the worker at a place, with its door before and after
  record HasWorker (log : List Entry) (ds es : List (DoorState L)) (rs : List WorkerReport) (place number : ℕ) : Type 0 where
    before : DoorState L
    after : DoorState L
    report : WorkerReport
    before_is : slice_get ds place ≡ Some before
    after_is : slice_get es place ≡ Some after
    report_is : slice_get rs place ≡ Some report
    worker : IsWorker state follows knows sessions number log before after report

  worker-at : (n place : ℕ) (log : List Entry) (ds es : List (DoorState L)) (rs : List WorkerReport) → AreWorkers state follows knows sessions n log ds es rs → place < length rs → HasWorker log ds es rs place (n + place)
  worker-at n place log [] [] [] are low = absurd (omega arith)
  worker-at n place log [] [] (r ∷ rs) are low = absurd are
  worker-at n place log [] (e ∷ es) rs are low = absurd are
  worker-at n place log (d ∷ ds) [] rs are low = absurd are
  worker-at n place log (d ∷ ds) (e ∷ es) [] are low = absurd are
  worker-at n zero log (d ∷ ds) (e ∷ es) (r ∷ rs) are low =
      let same : n ≡ n + 0 = omega arith in
      record { before = d; after = e; report = r; before_is = refl; after_is = refl; report_is = refl; worker = subst (λ (k : ℕ). IsWorker state follows knows sessions k log d e r) same are.0 }
  worker-at n (suc place) log (d ∷ ds) (e ∷ es) (r ∷ rs) are low =
      let rest = worker-at (suc n) place log ds es rs are.1 (omega arith) in
      let same : suc n + place ≡ n + suc place = omega arith in
      record {
        before = rest.before;
        after = rest.after;
        report = rest.report;
        before_is = rest.before_is;
        after_is = rest.after_is;
        report_is = rest.report_is;
        worker = subst (λ (k : ℕ). IsWorker state follows knows sessions k log rest.before rest.after rest.report) same rest.worker;
      }

  pub are-reports : (n : ℕ) (log : List Entry) (ds es : List (DoorState L)) (rs : List WorkerReport) → AreWorkers state follows knows sessions n log ds es rs → AreReports sessions ds es rs
  are-reports n log [] [] [] are = tt
  are-reports n log [] [] (r ∷ rs) are = are
  are-reports n log [] (e ∷ es) rs are = are
  are-reports n log (d ∷ ds) [] rs are = are
  are-reports n log (d ∷ ds) (e ∷ es) [] are = are
  are-reports n log (d ∷ ds) (e ∷ es) (r ∷ rs) are = (are.0.worked.report, are-reports (suc n) log ds es rs are.1)

  module _ (opening closing : Shelved) (ds es : List (DoorState L)) (rs : List WorkerReport) (h : HasServed state follows knows sessions opening closing ds es rs) where
    -- a record that a call brought was brought by a worker's connection
    from-worker : (v : StoredValue) → IsBrought (all_brought h.log) v → IsFromWorker state follows knows sessions ds es rs h.log v
    from-worker v new =
        let made = in-mapped (λ (e : Entry). e.brought) h.log new.call new.made in
        let n = made.0.seat in
        let within = counting_within n 0 (length rs) (in_whole (counting 0 (length rs)) h.log made.0 h.whole made.1) in
        let found = worker-at 0 n h.log ds es rs h.workers (omega (arith, within.1)) in
        let worker : IsWorker state follows knows sessions n h.log found.before found.after found.report = subst (λ (k : ℕ). IsWorker state follows knows sessions k h.log found.before found.after found.report) (let same : 0 + n ≡ n = omega arith in same) found.worker in
        let mine : In (calls_of n h.log) made.0 = in_own (n ∷ []) h.log made.0 made.1 (times-own n) in
        let mapped = in-mapped (entry n) (brought_in worker.cs) made.0 (subst (λ (l : List Entry). In l made.0) worker.calls mine) in
        let same : mapped.0 ≡ new.call = ap (λ (e : Entry). e.brought) mapped.2 ∙ made.2 in
        let of = in-brought worker.cs mapped.0 mapped.1 in
        let is = each-in (IsConnection state follows knows) worker.cs of.0 worker.worked.connections.each of.1 in
        let stands = call-in-frames of.0.served of.0.mark is.taken (brought_by_one of.0) is.calls mapped.0 v.rec of.2 (subst (λ (b : Brought). In b.records v.rec) (sym same) new.has) in
        record {
          number = n;
          door_before = found.before;
          door_after = found.after;
          report = found.report;
          before_is = found.before_is;
          after_is = found.after_is;
          report_is = found.report_is;
          worker = worker;
          c = of.0;
          one_of = of.1;
          brought = record { is = is; device = stands.0 ∙ ap (λ (k : ℕ). Some k) (ap (λ (b : Brought). b.imei) same ∙ sym new.device); stands = stands.1 };
        }

    further : (v : StoredValue) → In closing.list v → In opening.list v ⊎ IsFromWorker state follows knows sessions ds es rs h.log v
    further v is = elim (in-replay opening.list (all_brought h.log) v (subst (λ (l : List StoredValue). In l v) h.stands.list is)) as (λ _. In opening.list v ⊎ IsFromWorker state follows knows sessions ds es rs h.log v) [
      | inl old ↦ inl old
      | inr new ↦ inr (from-worker v new)
    ]

    -- each call of a worker's connection is in the history
    is-made : (n : ℕ) (d e : DoorState L) (r : WorkerReport) (w : IsWorker state follows knows sessions n h.log d e r) (c : Connection L) (b : Brought) → In w.cs c → In (brought_by_one c) b → In (all_brought h.log) b
    is-made n d e r w c b one made =
        let mine : In (calls_of n h.log) (entry n b) = subst (λ (l : List Entry). In l (entry n b)) (sym w.calls) (in-map (entry n) (brought_in w.cs) b (brought-of w.cs c b one made)) in
        in-map (λ (x : Entry). x.brought) h.log (entry n b) (in_log (n ∷ []) h.log (entry n b) mine)

    -- what a connection counted is in the closing list
    counted : (n : ℕ) (d e : DoorState L) (r : WorkerReport) (w : IsWorker state follows knows sessions n h.log d e r) (c : Connection L) → In w.cs c → IsArchived state follows knows closing.list c
    counted n d e r w c one =
        let is = each-in (IsConnection state follows knows) w.cs c w.worked.connections.each one in
        record { is = is; each = λ imei kept who stands. there imei kept (frame-is-called c.served c.mark is.taken (brought_by_one c) is.calls imei kept who stands) }
      where
        there : (imei : ℕ) (kept : Record) → IsCalled (brought_by_one c) imei kept → In closing.list (stored imei kept)
        there imei kept called =
            let listed = in-legal opening.list opening.down (all_brought h.log) called.call kept h.legal (is-made n d e r w c called.call one called.made) called.stored called.has in
            subst (λ (l : List StoredValue). In l (stored imei kept)) (sym h.stands.list) (subst (λ (k : ℕ). In (replay opening.list (all_brought h.log)) (stored k kept)) called.device listed)

    -- a session that ended by the archive
    end-caused : (n : ℕ) (d e : DoorState L) (r : WorkerReport) (w : IsWorker state follows knows sessions n h.log d e r) (c : Connection L) → In w.cs c → IsCaused opening.faults closing.faults c.served.end
    end-caused n d e r w c one =
        let calls = (each-in (IsConnection state follows knows) w.cs c w.worked.connections.each one).calls in
        by-last opening.faults closing.faults c.served.end calls.more calls.follows (λ b at.
        counted-at opening.faults closing.faults (all_brought h.log) b h.stands.counts
        (is-made n d e r w c b one (subst (λ (bs : List Brought). In bs b) (sym calls.are) (in-right calls.counted calls.more b at))))

    all-caused : (n : ℕ) (before after : List (DoorState L)) (reports : List WorkerReport) → AreWorkers state follows knows sessions n h.log before after reports → AreCaused opening.faults closing.faults reports
    all-caused n [] [] [] are = tt
    all-caused n [] [] (r ∷ rs) are = absurd are
    all-caused n [] (e ∷ es) rs are = absurd are
    all-caused n (d ∷ ds) [] rs are = absurd are
    all-caused n (d ∷ ds) (e ∷ es) [] are = absurd are
    all-caused n (d ∷ ds) (e ∷ es) (r ∷ rs) are =
        let w = are.0 in (
          subst (λ (ss : List Served). Each (λ s. IsCaused opening.faults closing.faults s.end) ss) w.worked.connections.are
              (each-map (λ (c : Connection L). c.served) (λ s. IsCaused opening.faults closing.faults s.end) w.cs (λ c one. end-caused n d e r w c one)),
          all-caused (suc n) ds es rs are.1,
        )

    pub caused : AreCaused opening.faults closing.faults rs
    caused = all-caused 0 ds es rs h.workers

    pub closes : ClosesWith state follows knows sessions ds es rs opening closing
    closes = record {
      served = h;
      begins = subst (λ (l : List StoredValue). Begins opening.list l) (sym h.stands.list) (replay-begins opening.list (all_brought h.log));
      further = further;
      archived = counted;
    }
