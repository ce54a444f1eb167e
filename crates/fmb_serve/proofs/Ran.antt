-- What serving comes to, from its steps.
use Rattle.std.proofs.Common.{◌≡◌, ◌<◌, ◌≤◌, ◌+◌, ◌==◌, if◌then◌else◌, ℕ, zero, suc, Bool, true, false, List, [], ◌∷◌, Option, None, Some, length, map, codes, refl, sym, ap, subst, ◌∙◌, arith, inl, inr}
use Rattle.std.specs.Prelude.{◌⊎◌}
use Rattle.std.proofs.lemmas.Bool.{ne_eqb}
use Rattle.std.proofs.lemmas.List.{length-map}
use Rattle.avl_values.specs.Causes.{Rose}
use Rattle.doors.specs.Doors.{DoorState}
use Rattle.links.specs.Links.{LinkState}
use Rattle.medium_model.specs.Content.{Content, after_sync}
use Rattle.medium_model.specs.State.{MediumState, IfTold, told}
use Rattle.archive_journal.specs.Entries.{IsArchive}
use Rattle.archive_journal.specs.declared.fault.ArchiveFault.{ArchiveFault}
use Rattle.archive_journal.specs.declared.fault.ArchiveFault.TheVariants.{MediumFault, NotArchive, NoMemory}
use Rattle.fmb_io.specs.declared.fetching.Missing.{Missing}
use Rattle.fmb_io.specs.declared.fetching.Missing.TheVariants as Missed
use Rattle.text_streams.specs.States.{SinkState}
use Rattle.text_streams.specs.Writes as writes
use Rattle.shelf.specs.Archive.{StoredValue}
use Rattle.shelf.specs.Shelf.{ShelfView, front}
use Rattle.server_loop.specs.Evidence.{ClosesWith}
use Rattle.server_loop.specs.Workers.{AreReports}
use Rattle.server_loop.specs.declared.report.WorkerReport.{WorkerReport}
use Rattle.fmb_host.specs.declared.host.Counts.{Counts}
use Rattle.fmb_host.specs.Host.{HandsOutMedium, HostView, TakesBackMedium, counted_once, seen_door, with_host_fault}
use Rattle.fmb_host.specs.Stocks.{LendsNamed, LosesFront, PassesNamed, Stock}
use Rattle.fmb_host.proofs.Stocks.{named_along, named_none, named_one}
use Rattle.fmb_io.specs.Printed.{Prints}
use Rattle.fmb_io.proofs.Steps.{once_none, once_some}
use Rattle.fmb_serve.specs.Doors.{OpensNoDoors, TakesBackDoors}
use Rattle.fmb_serve.specs.Lines.{serve_lines}
use Rattle.fmb_serve.specs.Serve.{IsNotArchive, IsUnserved, OfServed, RanServe, SaysWhy, ServeRefuses, ServeServes, Tells, counted_doors}
use Rattle.fmb_serve.specs.Statuses.{any_door_failed, any_ran_out, serving_status}
use Rattle.fmb_serve.specs.Steps.{IsClosed, IsOpened, IsReady}
use Rattle.fmb_serve.proofs.Counting.{counted_none, counted_some, risen}
use Rattle.fmb_serve.proofs.Doors.{passes_all}

-- counts, sink, media and doors alone changed
abbrev Only : HostView → HostView → Type 0
Only s e = e ≡ record s { counts = e.counts; sink = e.sink; media = e.media; gates = e.gates }

only_is : (s e h : HostView) → e ≡ h → Only s h → Only s e
only_is s e h is only = subst (Only s) (sym is) only

only_then : (a b c : HostView) → Only a b → Only b c → Only a c
only_then a b c first next = next ∙ ap (λ (h : HostView). record h { counts = c.counts; sink = c.sink; media = c.media; gates = c.gates }) first

-- a line on the same sinks
same_prints : (line : List ℕ) (a b c d : HostView) → c.sink ≡ a.sink → d.sink ≡ b.sink → Prints line a b → Prints line c d
same_prints line a b c d first last printed = subst (λ (s : SinkState). writes.Prints line s d.sink) (sym first) (subst (λ (s : SinkState). writes.Prints line a.sink s) (sym last) printed)

-- what was opened and went back, where nothing was served
unserved : (address archive : List ℕ) (start end : HostView) (given back : List MediumState) (doors : List (DoorState LinkState)) → length back ≡ length given → PassesNamed archive given back start.media end.media
    → PassesNamed address doors doors start.gates end.gates → IsUnserved address archive start end
unserved address archive start end given back doors same media gates = record { given = given; back = back; same_count = same; media = media; doors = doors; gates = gates }

either_no : (n a b : ℕ) → (n ≡ a → ⊥) → (n ≡ b → ⊥) → (n ≡ a) ⊎ (n ≡ b) → ⊥
either_no n a b first next (inl e) = first e
either_no n a b first next (inr e) = next e

-- the statuses of serving
status_6 : (faults : ℕ) (reports : List WorkerReport) → 0 < faults → serving_status faults reports ≡ 6
status_6 faults reports some = rw (ne_eqb faults 0 (λ none. omega (arith, some, none))) refl

status_9 : (faults : ℕ) (reports : List WorkerReport) → faults ≡ 0 → any_ran_out reports ≡ true → serving_status faults reports ≡ 9
status_9 faults reports whole out = rw (whole, out) refl

status_7 : (faults : ℕ) (reports : List WorkerReport) → faults ≡ 0 → any_ran_out reports ≡ false → any_door_failed reports ≡ true → serving_status faults reports ≡ 7
status_7 faults reports whole room failed = rw (whole, room, failed) refl

status_0 : (faults : ℕ) (reports : List WorkerReport) → faults ≡ 0 → any_ran_out reports ≡ false → any_door_failed reports ≡ false → serving_status faults reports ≡ 0
status_0 faults reports whole room none = rw (whole, room, none) refl

-- counts that are the same have not risen
rose_not : (a b : Counts) → b ≡ a → (a.host < b.host) ⊎ (a.doors < b.doors) → ⊥
rose_not a b same (inl rose) = omega (arith, rose, ap (λ (c : Counts). c.host) same)
rose_not a b same (inr rose) = omega (arith, rose, ap (λ (c : Counts). c.doors) same)

some_same : {T : Type 0} (a b : T) → Some a ≡ Some b → a ≡ b
some_same a b is = cc

first_same : {T : Type 0} (a b : T) (xs ys : List T) → a ∷ xs ≡ b ∷ ys → a ≡ b
first_same a b xs ys is = cc

module _ {L : Type 0} (state : L → LinkState) (follows : L → L → Type 0) (knows : ℕ → Bool) (address archive : List ℕ) (workers sessions : ℕ) (start end : HostView) where
  abbrev Served : (List WorkerReport → List StoredValue → ℕ → Type 0) → Type 0
  Served P = OfServed state follows knows address archive workers sessions P start end

  abbrev TellsAt : ℕ → Type 0
  TellsAt status = Served (λ reports list faults. (serving_status faults reports ≡ status) × Tells state follows knows address archive workers sessions start end reports list)

  ran_0 : Served (λ reports list faults. (serving_status faults reports ≡ 0) × writes.PrintsWhole (serve_lines reports list) start.sink end.sink) → writes.IsSteady start.sink end.sink
      → end.counts ≡ start.counts → Only start end → RanServe state follows knows address archive workers sessions 0 start end
  ran_0 served steady counts only = record {
    among = inl refl;
    served_whole = λ e. served;
    sink_steady = λ e. steady;
    cut_off = λ e. absurd (omega (arith, e));
    sink_cause = λ e. absurd (omega (arith, e));
    medium_cause = λ e. absurd (omega (arith, e));
    medium_fault = λ e. absurd (omega (arith, e));
    host_cause = λ e. absurd (omega (arith, e));
    host_fault = λ e. absurd (omega (arith, e));
    refused = λ e. absurd (omega (arith, e));
    no_memory = λ e. absurd (omega (arith, e));
    counts_before = λ e. counts;
    others = only;
  }

  ran_5 : Served (λ reports list faults. (serving_status faults reports ≡ 0) × writes.PrintsFront (serve_lines reports list) start.sink end.sink) → writes.HasFailed start.sink end.sink
      → end.counts ≡ start.counts → Only start end → RanServe state follows knows address archive workers sessions 5 start end
  ran_5 served failed counts only = record {
    among = inr (inl refl);
    served_whole = λ e. absurd (omega (arith, e));
    sink_steady = λ e. absurd (omega (arith, e));
    cut_off = λ e. served;
    sink_cause = λ e. failed;
    medium_cause = λ e. absurd (omega (arith, e));
    medium_fault = λ e. absurd (omega (arith, e));
    host_cause = λ e. absurd (omega (arith, e));
    host_fault = λ e. absurd (omega (arith, e));
    refused = λ e. absurd (omega (arith, e));
    no_memory = λ e. absurd (omega (arith, e));
    counts_before = λ e. counts;
    others = only;
  }

  ran_6 : end.counts.media ≡ start.counts.media + 1 → SaysWhy address archive (codes "medium fault\n") start end ⊎ TellsAt 6 → Only start end → RanServe state follows knows address archive workers sessions 6 start end
  ran_6 cause said only = record {
    among = inr (inr (inl refl));
    served_whole = λ e. absurd (omega (arith, e));
    sink_steady = λ e. absurd (omega (arith, e));
    cut_off = λ e. absurd (omega (arith, e));
    sink_cause = λ e. absurd (omega (arith, e));
    medium_cause = λ e. cause;
    medium_fault = λ e. said;
    host_cause = λ e. absurd (omega (arith, e));
    host_fault = λ e. absurd (omega (arith, e));
    refused = λ e. absurd (omega (arith, e));
    no_memory = λ e. absurd (omega (arith, e));
    counts_before = λ e. absurd (either_no 6 0 5 (λ f. omega (arith, f)) (λ f. omega (arith, f)) e);
    others = only;
  }

  ran_7 : (start.counts.host < end.counts.host) ⊎ (start.counts.doors < end.counts.doors) → SaysWhy address archive (codes "host fault\n") start end ⊎ TellsAt 7 → Only start end
      → RanServe state follows knows address archive workers sessions 7 start end
  ran_7 cause said only = record {
    among = inr (inr (inr (inl refl)));
    served_whole = λ e. absurd (omega (arith, e));
    sink_steady = λ e. absurd (omega (arith, e));
    cut_off = λ e. absurd (omega (arith, e));
    sink_cause = λ e. absurd (omega (arith, e));
    medium_cause = λ e. absurd (omega (arith, e));
    medium_fault = λ e. absurd (omega (arith, e));
    host_cause = λ e. cause;
    host_fault = λ e. said;
    refused = λ e. absurd (omega (arith, e));
    no_memory = λ e. absurd (omega (arith, e));
    counts_before = λ e. absurd (either_no 7 0 5 (λ f. omega (arith, f)) (λ f. omega (arith, f)) e);
    others = only;
  }

  ran_8 : IsNotArchive archive start end → Only start end → RanServe state follows knows address archive workers sessions 8 start end
  ran_8 refused only = record {
    among = inr (inr (inr (inr (inl refl))));
    served_whole = λ e. absurd (omega (arith, e));
    sink_steady = λ e. absurd (omega (arith, e));
    cut_off = λ e. absurd (omega (arith, e));
    sink_cause = λ e. absurd (omega (arith, e));
    medium_cause = λ e. absurd (omega (arith, e));
    medium_fault = λ e. absurd (omega (arith, e));
    host_cause = λ e. absurd (omega (arith, e));
    host_fault = λ e. absurd (omega (arith, e));
    refused = λ e. refused;
    no_memory = λ e. absurd (omega (arith, e));
    counts_before = λ e. absurd (either_no 8 0 5 (λ f. omega (arith, f)) (λ f. omega (arith, f)) e);
    others = only;
  }

  ran_9 : SaysWhy address archive (codes "no memory\n") start end ⊎ Served (λ reports list faults. ((serving_status faults reports ≡ 9) × Tells state follows knows address archive workers sessions start end reports list)
      ⊎ ((serving_status faults reports ≡ 0) × Prints (codes "no memory\n") start end)) → Only start end → RanServe state follows knows address archive workers sessions 9 start end
  ran_9 said only = record {
    among = inr (inr (inr (inr (inr refl))));
    served_whole = λ e. absurd (omega (arith, e));
    sink_steady = λ e. absurd (omega (arith, e));
    cut_off = λ e. absurd (omega (arith, e));
    sink_cause = λ e. absurd (omega (arith, e));
    medium_cause = λ e. absurd (omega (arith, e));
    medium_fault = λ e. absurd (omega (arith, e));
    host_cause = λ e. absurd (omega (arith, e));
    host_fault = λ e. absurd (omega (arith, e));
    refused = λ e. absurd (omega (arith, e));
    no_memory = λ e. said;
    counts_before = λ e. absurd (either_no 9 0 5 (λ f. omega (arith, f)) (λ f. omega (arith, f)) e);
    others = only;
  }

  -- the medium could not be opened
  pub medium_unopened : (failed : HostView) (status : ℕ) → failed ≡ with_host_fault start → status ≡ 7
      → Prints (codes "host fault\n") failed end → end ≡ record failed { sink = end.sink } → RanServe state follows knows address archive workers sessions status start end
  medium_unopened failed status fault is line told =
      let rose : end.counts.host ≡ start.counts.host + 1 = ap (λ (h : HostView). h.counts.host) told ∙ ap (λ (h : HostView). h.counts.host) fault in
      let media : end.media ≡ start.media = ap (λ (h : HostView). h.media) told ∙ ap (λ (h : HostView). h.media) fault in
      let gates : end.gates ≡ start.gates = ap (λ (h : HostView). h.gates) told ∙ ap (λ (h : HostView). h.gates) fault in
      subst (λ n. RanServe state follows knows address archive workers sessions n start end) (sym is) (ran_7 (inl (omega (arith, rose)))
      (inl (
        unserved address archive start end [] [] [] refl (named_along archive [] [] start.media start.media end.media (named_none archive start.media) media) (named_along address [] [] start.gates start.gates end.gates (named_none address start.gates) gates),
        same_prints _ failed end start end (sym (ap (λ (h : HostView). h.sink) fault)) refl line,
      ))
      (only_then start failed end (only_is start failed _ fault refl) (only_is failed end _ told refl)))

  -- The medium was opened and went back, the doors passed, and a line was said.
  module _ (medium back : MediumState) (mid gone : HostView) (handed : HandsOutMedium start archive medium mid) where
    media_pass : (left : HostView) → left.media ≡ mid.media → TakesBackMedium left back gone → end.media ≡ gone.media → PassesNamed archive (medium ∷ []) (back ∷ []) start.media end.media
    media_pass left same taken last = named_along archive (medium ∷ []) (back ∷ []) start.media gone.media end.media
        (named_one archive medium back start.media left.media gone.media (subst (λ m. Lent m) (sym same) handed.media) taken.media) last
      where
        Lent : Stock MediumState → Type 0
        Lent m = LendsNamed archive start.media medium m

    -- Only the sink changed after the medium went back, and there a line was said.
    module _ (left : HostView) (doors : List (DoorState LinkState)) (same : left.media ≡ mid.media) (gates : PassesNamed address doors doors start.gates left.gates) (before : Only mid left) (quiet : left.sink ≡ mid.sink)
        (taken : TakesBackMedium left back gone) (last : end ≡ record gone { sink = end.sink }) where
      says_why : (line : List ℕ) → Prints line gone end → SaysWhy address archive line start end
      says_why line printed = (
        unserved address archive start end (medium ∷ []) (back ∷ []) doors refl (media_pass left same taken (ap (λ (h : HostView). h.media) last))
            (named_along address doors doors start.gates left.gates end.gates gates (ap (λ (h : HostView). h.gates) last ∙ ap (λ (h : HostView). h.gates) taken.others)),
        same_prints line gone end start end (sym (ap (λ (h : HostView). h.sink) taken.others ∙ (quiet ∙ ap (λ (h : HostView). h.sink) handed.others))) refl printed,
      )

      only_end : Only start end
      only_end = only_then start mid end (only_is start mid _ handed.others refl) (only_then mid left end before (only_then left gone end (only_is left gone _ taken.others refl) (only_is gone end _ last refl)))

      counts_end : end.counts ≡ record left.counts { media = counted_once left.counts.media back.faults }
      counts_end = ap (λ (h : HostView). h.counts) last ∙ ap (λ (h : HostView). h.counts) taken.others

  -- The archive could not be opened.
  pub archive_unopened : (fault : ArchiveFault) (status : ℕ) (medium back : MediumState) (mid gone : HostView) → HandsOutMedium start archive medium mid → medium.faults ≡ 0 → (fault ≡ MediumFault → Rose medium.faults back.faults)
      → (fault ≡ NotArchive → IfTold medium.content (λ c. IsArchive c.reads → ⊥)) → (fault ≡ NotArchive → back.content ≡ told after_sync medium.content) → TakesBackMedium mid back gone
      → (fault ≡ MediumFault → (status ≡ 6) × Prints (codes "medium fault\n") gone end) → (fault ≡ NotArchive → (status ≡ 8) × Prints (codes "refused archive\n") gone end)
      → (fault ≡ NoMemory → (status ≡ 9) × Prints (codes "no memory\n") gone end) → end ≡ record gone { sink = end.sink } → RanServe state follows knows address archive workers sessions status start end
  archive_unopened fault status medium back mid gone handed fresh rose is_none kept taken six eight nine last = by_fault fault refl
    where
      at_start : mid.gates ≡ start.gates
      at_start = ap (λ (h : HostView). h.gates) handed.others

      gates : PassesNamed address [] [] start.gates mid.gates
      gates = named_along address [] [] start.gates start.gates mid.gates (named_none address start.gates) at_start

      only : Only start end
      only = only_end medium back mid gone handed mid [] refl gates refl refl taken last

      says : (line : List ℕ) → Prints line gone end → SaysWhy address archive line start end
      says line printed = says_why medium back mid gone handed mid [] refl gates refl refl taken last line printed

      counts : end.counts ≡ record start.counts { media = counted_once start.counts.media back.faults }
      counts = counts_end medium back mid gone handed mid [] refl gates refl refl taken last
          ∙ ap (λ (h : HostView). record h.counts { media = counted_once h.counts.media back.faults }) handed.others

      by_fault : (f : ArchiveFault) → fault ≡ f → RanServe state follows knows address archive workers sessions status start end
      by_fault MediumFault is =
          let some : Rose 0 back.faults = subst (λ n. Rose n back.faults) fresh (rose is) in
          let one : end.counts.media ≡ start.counts.media + 1 = ap (λ c. c.media) counts ∙ once_some start.counts.media back.faults (risen back.faults some) in
          subst (λ n. RanServe state follows knows address archive workers sessions n start end) (sym (six is).0) (ran_6 one (inl (says _ (six is).1)) only)
      by_fault NotArchive is =
          let said = says _ (eight is).1 in
          subst (λ n. RanServe state follows knows address archive workers sessions n start end) (sym (eight is).0) (ran_8 (record {
            medium = medium;
            back = back;
            media = media_pass medium back mid gone handed mid refl taken (ap (λ (h : HostView). h.media) last);
            gates = ap (λ (h : HostView). h.gates) last ∙ (ap (λ (h : HostView). h.gates) taken.others ∙ at_start);
            is = is_none is;
            not_written = kept is;
            counts = counts;
            line = said.1;
          }) only)
      by_fault NoMemory is = subst (λ n. RanServe state follows knows address archive workers sessions n start end) (sym (nine is).0) (ran_9 (inl (says _ (nine is).1)) only)

  -- The archive was opened, and its doors could not be.
  pub doors_unopened : (missing : Missing) (status : ℕ) (shelf : ShelfView) (mid left gone : HostView) → IsOpened archive start shelf mid → (missing ≡ Missed.Host → OpensNoDoors state address 1 mid left) → (missing ≡ Missed.NoMemory → left ≡ mid)
      → (missing ≡ Missed.Source → ⊥) → TakesBackMedium left shelf.medium gone → (missing ≡ Missed.Host → (status ≡ 7) × Prints (codes "host fault\n") gone end)
      → (missing ≡ Missed.NoMemory → (status ≡ 9) × Prints (codes "no memory\n") gone end) → end ≡ record gone { sink = end.sink } → RanServe state follows knows address archive workers sessions status start end
  doors_unopened missing status shelf mid left gone opened none same never taken seven nine last = by_cause missing refl
    where
      first : mid.gates ≡ start.gates
      first = ap (λ (h : HostView). h.gates) opened.handed.others

      by_cause : (m : Missing) → missing ≡ m → RanServe state follows knows address archive workers sessions status start end
      by_cause Missed.Source is = absurd (never is)
      by_cause Missed.Host is =
          let no = none is in
          let media : left.media ≡ mid.media = ap (λ (h : HostView). h.media) no.others in
          let gates : PassesNamed address no.doors no.doors start.gates left.gates = subst (λ (s : Stock (DoorState LinkState)). PassesNamed address no.doors no.doors s left.gates) first no.gates in
          let quiet : left.sink ≡ mid.sink = ap (λ (h : HostView). h.sink) no.others in
          let before : Only mid left = only_is mid left _ no.others refl in
          let counts = counts_end opened.medium shelf.medium mid gone opened.handed left no.doors media gates before quiet taken last in
          let rose : end.counts.host ≡ start.counts.host + 1 = ap (λ c. c.host) counts ∙ (ap (λ (h : HostView). h.counts.host) no.others ∙ ap (λ (h : HostView). h.counts.host + 1) opened.handed.others) in
          subst (λ n. RanServe state follows knows address archive workers sessions n start end) (sym (seven is).0) (ran_7 (inl (omega (arith, rose)))
          (inl (says_why opened.medium shelf.medium mid gone opened.handed left no.doors media gates before quiet taken last _ (seven is).1))
          (only_end opened.medium shelf.medium mid gone opened.handed left no.doors media gates before quiet taken last))
      by_cause Missed.NoMemory is =
          let media : left.media ≡ mid.media = ap (λ (h : HostView). h.media) (same is) in
          let gates : PassesNamed address [] [] start.gates left.gates = named_along address [] [] start.gates start.gates left.gates (named_none address start.gates) (ap (λ (h : HostView). h.gates) (same is) ∙ first) in
          let quiet : left.sink ≡ mid.sink = ap (λ (h : HostView). h.sink) (same is) in
          let before : Only mid left = only_is mid left mid (same is) refl in
          subst (λ n. RanServe state follows knows address archive workers sessions n start end) (sym (nine is).0) (ran_9
          (inl (says_why opened.medium shelf.medium mid gone opened.handed left [] media gates before quiet taken last _ (nine is).1))
          (only_end opened.medium shelf.medium mid gone opened.handed left [] media gates before quiet taken last))

  -- The doors were opened, and memory ran out before the first accept.
  pub serve_wanting : (status : ℕ) (shelf : ShelfView) (doors : List (DoorState L)) (now left gone : HostView) → IsReady state address archive workers start shelf doors now → TakesBackDoors state now doors left
      → TakesBackMedium left shelf.medium gone → status ≡ 9 → Prints (codes "no memory\n") gone end → end ≡ record gone { sink = end.sink } → RanServe state follows knows address archive workers sessions status start end
  serve_wanting status shelf doors now left gone ready doors_back taken is line last =
      let mid = ready.mid in
      let passed = map (seen_door state) doors in
      let first : mid.gates ≡ start.gates = ap (λ (h : HostView). h.gates) ready.opened.handed.others in
      let out : PassesNamed address passed [] start.gates now.gates = subst (λ (s : Stock (DoorState LinkState)). PassesNamed address passed [] s now.gates) first ready.hands.gates in
      let gates : PassesNamed address passed passed start.gates left.gates = passes_all address passed [] passed start.gates now.gates left.gates out (omega arith) doors_back.gates in
      let media : left.media ≡ mid.media = ap (λ (h : HostView). h.media) doors_back.others ∙ ap (λ (h : HostView). h.media) ready.hands.others in
      let quiet : left.sink ≡ mid.sink = ap (λ (h : HostView). h.sink) doors_back.others ∙ ap (λ (h : HostView). h.sink) ready.hands.others in
      let before : Only mid left = only_then mid now left (only_is mid now _ ready.hands.others refl) (only_is now left _ doors_back.others refl) in
      subst (λ n. RanServe state follows knows address archive workers sessions n start end) (sym is) (ran_9
      (inl (says_why ready.opened.medium shelf.medium mid gone ready.opened.handed left passed media gates before quiet taken last _ line))
      (only_end ready.opened.medium shelf.medium mid gone ready.opened.handed left passed media gates before quiet taken last))

  -- It was served, and closed.
  pub served_closed : (status : ℕ) (opening closing : ShelfView) (ds es : List (DoorState L)) (reports : List WorkerReport) (now : HostView) → IsReady state address archive workers start opening ds now
      → ClosesWith state follows knows sessions ds es reports (front opening) (front closing) → length es ≡ length ds → AreReports sessions ds es reports → IsClosed state reports closing es status now end
      → RanServe state follows knows address archive workers sessions status start end
  served_closed status opening closing ds es reports now ready closes same are closed = by_faults closing.medium.faults refl
    where
      mid : HostView
      mid = ready.mid

      a : HostView
      a = closed.told_at

      b : HostView
      b = closed.left_at

      given : List (DoorState LinkState)
      given = map (seen_door state) ds

      faults : ℕ
      faults = closing.medium.faults

      media_at : b.media ≡ mid.media
      media_at = ap (λ (h : HostView). h.media) closed.doors_back.others ∙ (ap (λ (h : HostView). h.media) closed.told.others ∙ ap (λ (h : HostView). h.media) ready.hands.others)

      gates : PassesNamed address given (map (seen_door state) es) start.gates end.gates
      gates =
          let first : mid.gates ≡ start.gates = ap (λ (h : HostView). h.gates) ready.opened.handed.others in
          let out : PassesNamed address given [] start.gates now.gates = subst (λ (s : Stock (DoorState LinkState)). PassesNamed address given [] s now.gates) first ready.hands.gates in
          let out_told : PassesNamed address given [] start.gates a.gates = named_along address given [] start.gates now.gates a.gates out (ap (λ (h : HostView). h.gates) closed.told.others) in
          let few : length (map (seen_door state) es) ≤ length given = omega (arith, length-map es (seen_door state), length-map ds (seen_door state), same) in
          named_along address given (map (seen_door state) es) start.gates b.gates end.gates (passes_all address given [] (map (seen_door state) es) start.gates a.gates b.gates out_told (omega (arith, few)) closed.doors_back.gates)
          (ap (λ (h : HostView). h.gates) closed.medium_back.others)

      only : Only start end
      only = only_then start mid end (only_is start mid _ ready.opened.handed.others refl) (only_then mid now end (only_is mid now _ ready.hands.others refl) (only_then now a end (only_is now a _ closed.told.others refl)
          (only_then a b end (only_is a b _ closed.doors_back.others refl) (only_is b end _ closed.medium_back.others refl))))

      counts_now : a.counts ≡ start.counts
      counts_now = ap (λ (h : HostView). h.counts) closed.told.others ∙ (ap (λ (h : HostView). h.counts) ready.hands.others ∙ ap (λ (h : HostView). h.counts) ready.opened.handed.others)

      counts : end.counts ≡ record start.counts { media = counted_once start.counts.media faults; doors = counted_doors start.counts.doors es }
      counts = ap (λ (h : HostView). h.counts) closed.medium_back.others
          ∙ (ap (λ (h : HostView). record h.counts { media = counted_once h.counts.media faults }) closed.doors_back.others
          ∙ ap (λ (c : Counts). record c { media = counted_once c.media faults; doors = counted_doors c.doors es }) counts_now)

      sink_now : now.sink ≡ start.sink
      sink_now = ap (λ (h : HostView). h.sink) ready.hands.others ∙ ap (λ (h : HostView). h.sink) ready.opened.handed.others

      sink_end : end.sink ≡ a.sink
      sink_end = ap (λ (h : HostView). h.sink) closed.medium_back.others ∙ ap (λ (h : HostView). h.sink) closed.doors_back.others

      on_sinks : (P : SinkState → SinkState → Type 0) → P now.sink a.sink → P start.sink end.sink
      on_sinks P holds = subst (λ (s : SinkState). P s end.sink) sink_now (subst (λ (s : SinkState). P now.sink s) (sym sink_end) holds)

      text : List ℕ
      text = serve_lines reports closing.list

      served : (P : List WorkerReport → List StoredValue → ℕ → Type 0) → P reports closing.list faults → Served P
      served P holds = record {
        medium = ready.opened.medium;
        back = closing.medium;
        media = media_pass ready.opened.medium closing.medium mid end ready.opened.handed b media_at closed.medium_back refl;
        doors_before = ds;
        doors_after = es;
        gates = gates;
        count = ready.count;
        is_archive = ready.opened.is_archive;
        opening = front opening;
        opens = ready.opened.list;
        reports = reports;
        closing = front closing;
        closes = closes;
        are_reports = are;
        reads = closed.reads;
        counts = counts;
        holds = holds;
      }

      tells : Tells state follows knows address archive workers sessions start end reports closing.list
      tells = by_printed closed.told.among
        where
          by_printed : (closed.printed ≡ 0) ⊎ (closed.printed ≡ 5) ⊎ (closed.printed ≡ 9) → Tells state follows knows address archive workers sessions start end reports closing.list
          by_printed (inl e) = inl (on_sinks (writes.Prints text) (closed.told.line (inl e)))
          by_printed (inr (inl e)) = inl (on_sinks (writes.Prints text) (closed.told.line (inr e)))
          by_printed (inr (inr e)) = inr (on_sinks (writes.Prints (codes "no memory\n")) (closed.told.no_memory e))

      status_by : (n : ℕ) → serving_status faults reports ≡ n → status ≡ (if n == 0 then closed.printed else n)
      status_by n is = closed.says ∙ ap (λ k. if k == 0 then closed.printed else k) is

      ends_as : (n : ℕ) → status ≡ n → RanServe state follows knows address archive workers sessions n start end → RanServe state follows knows address archive workers sessions status start end
      ends_as n is ran = subst (λ k. RanServe state follows knows address archive workers sessions k start end) (sym is) ran

      none_counted : faults ≡ 0 → any_door_failed reports ≡ false → end.counts ≡ start.counts
      none_counted whole none = counts ∙ (ap (λ n. record start.counts { media = n; doors = counted_doors start.counts.doors es }) (once_none start.counts.media faults whole)
          ∙ ap (λ n. record start.counts { doors = n }) (counted_none state sessions start.counts.doors ds es reports ready.hands.new are none))

      all_well : faults ≡ 0 → any_door_failed reports ≡ false → serving_status faults reports ≡ 0 → RanServe state follows knows address archive workers sessions status start end
      all_well whole none fine = by_printed closed.told.among
        where
          by_printed : (closed.printed ≡ 0) ⊎ (closed.printed ≡ 5) ⊎ (closed.printed ≡ 9) → RanServe state follows knows address archive workers sessions status start end
          by_printed (inl e) = ends_as 0 (status_by 0 fine ∙ e) (ran_0 (served _ (fine, on_sinks (writes.PrintsWhole text) (closed.told.whole e))) (on_sinks writes.IsSteady (closed.told.steady e)) (none_counted whole none) only)
          by_printed (inr (inl e)) = ends_as 5 (status_by 0 fine ∙ e) (ran_5 (served _ (fine, on_sinks (writes.PrintsFront text) (closed.told.cut_off e))) (on_sinks writes.HasFailed (closed.told.cause e)) (none_counted whole none) only)
          by_printed (inr (inr e)) = ends_as 9 (status_by 0 fine ∙ e) (ran_9 (inr (served _ (inr (fine, on_sinks (writes.Prints (codes "no memory\n")) (closed.told.no_memory e))))) only)

      by_door : (failed : Bool) → any_door_failed reports ≡ failed → faults ≡ 0 → any_ran_out reports ≡ false → RanServe state follows knows address archive workers sessions status start end
      by_door false is whole room = all_well whole is (status_0 faults reports whole room is)
      by_door true is whole room =
          let seven = status_7 faults reports whole room is in
          let rose : start.counts.doors < counted_doors start.counts.doors es = counted_some state sessions start.counts.doors ds es reports ready.hands.new are is in
          let ends : end.counts.doors ≡ counted_doors start.counts.doors es = ap (λ (c : Counts). c.doors) counts in
          ends_as 7 (status_by 7 seven) (ran_7 (inr (omega (arith, rose, ends))) (inr (served _ (seven, tells))) only)

      by_memory : (out : Bool) → any_ran_out reports ≡ out → faults ≡ 0 → RanServe state follows knows address archive workers sessions status start end
      by_memory false is whole = by_door (any_door_failed reports) refl whole is
      by_memory true is whole =
          let nine = status_9 faults reports whole is in
          ends_as 9 (status_by 9 nine) (ran_9 (inr (served _ (inl (nine, tells)))) only)

      by_faults : (n : ℕ) → faults ≡ n → RanServe state follows knows address archive workers sessions status start end
      by_faults zero is = by_memory (any_ran_out reports) refl is
      by_faults (suc n) is =
          let some : 0 < faults = omega (arith, is) in
          let six = status_6 faults reports some in
          ends_as 6 (status_by 6 six) (ran_6 (ap (λ (c : Counts). c.media) counts ∙ once_some start.counts.media faults some) (inr (served _ (six, tells))) only)

-- a host that tells a medium which is no archive has served nothing
pub serve_refuses : {L : Type 0} (state : L → LinkState) (follows : L → L → Type 0) (knows : ℕ → Bool) (address archive : List ℕ) (workers sessions status : ℕ) (start end : HostView) → RanServe state follows knows address archive workers sessions status start end
    → ServeRefuses status start end
serve_refuses state follows knows address archive workers sessions status start end ran content next never same = by_status ran.among
  where
    not_served : (P : List WorkerReport → List StoredValue → ℕ → Type 0) → OfServed state follows knows address archive workers sessions P start end → ⊥
    not_served P served = never (of_next start.media.coming end.media.coming served.medium next.medium next.later content next.media served.media.passes.coming next.told served.is_archive)
      where
        of_next : (told after : Option (List MediumState)) (m n : MediumState) (later : List MediumState) (c : Content) → told ≡ Some (n ∷ later) → LosesFront told (m ∷ []) after → n.content ≡ Some c
            → IfTold m.content (λ k. IsArchive k.reads) → IsArchive c.reads
        of_next None after m n later c is front told archive = absurd (let never : None ≡ Some _ = is in cc)
        of_next (Some ms) None m n later c is front told archive = absurd front
        of_next (Some ms) (Some rest) m n later c is front told archive =
            let same : m ≡ n = first_same m n rest later (sym front ∙ some_same ms (n ∷ later) is) in
            let here : m.content ≡ Some c = ap (λ (k : MediumState). k.content) same ∙ told in
            subst (λ (k : Option Content). IfTold k (λ c. IsArchive c.reads)) here archive

    by_status : (status ≡ 0) ⊎ (status ≡ 5) ⊎ (status ≡ 6) ⊎ (status ≡ 7) ⊎ (status ≡ 8) ⊎ (status ≡ 9) → (status ≡ 8) ⊎ (status ≡ 9)
    by_status (inl e) = absurd (not_served _ (ran.served_whole e))
    by_status (inr (inl e)) = absurd (not_served _ (ran.cut_off e))
    by_status (inr (inr (inl e))) = absurd (let rose : end.counts.media ≡ start.counts.media + 1 = ran.medium_cause e in omega (arith, rose, ap (λ (c : Counts). c.media) same))
    by_status (inr (inr (inr (inl e)))) = absurd (rose_not start.counts end.counts same (ran.host_cause e))
    by_status (inr (inr (inr (inr (inl e))))) = inl e
    by_status (inr (inr (inr (inr (inr e))))) = inr e

-- and where nothing failed, it was served, or is no archive, or memory ran out
pub serve_serves : {L : Type 0} (state : L → LinkState) (follows : L → L → Type 0) (knows : ℕ → Bool) (address archive : List ℕ) (workers sessions status : ℕ) (start end : HostView) → RanServe state follows knows address archive workers sessions status start end
    → ServeServes status start end
serve_serves state follows knows address archive workers sessions status start end ran same steady = by_status ran.among
  where
    by_status : (status ≡ 0) ⊎ (status ≡ 5) ⊎ (status ≡ 6) ⊎ (status ≡ 7) ⊎ (status ≡ 8) ⊎ (status ≡ 9) → (status ≡ 0) ⊎ (status ≡ 8) ⊎ (status ≡ 9)
    by_status (inl e) = inl e
    by_status (inr (inl e)) = absurd (steady (ran.sink_cause e))
    by_status (inr (inr (inl e))) = absurd (let rose : end.counts.media ≡ start.counts.media + 1 = ran.medium_cause e in omega (arith, rose, ap (λ (c : Counts). c.media) same))
    by_status (inr (inr (inr (inl e)))) = absurd (rose_not start.counts end.counts same (ran.host_cause e))
    by_status (inr (inr (inr (inr (inl e))))) = inr (inl e)
    by_status (inr (inr (inr (inr (inr e))))) = inr (inr e)
