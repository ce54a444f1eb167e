-- A worker's connections, one after the other.
use Rattle.std.proofs.Common.{◌≡◌, ℕ, ◌+◌, ◌<◌, ◌≤◌, Bool, true, false, List, [], ◌∷◌, ◌++◌, length, map, Option, Result, refl, sym, ap, subst, ◌∙◌, arith}
use Rattle.std.proofs.lemmas.List.{map-append, length-map}
use Rattle.avl_values.specs.Causes.{Rose}
use Rattle.links.specs.Links.{LinkState}
use Rattle.doors.specs.Doors.{DoorLinks, DoorState, Gives, IsUnused, Passes, TakesBack, once_if}
use Rattle.shelf.specs.Calls.{Brought, Feeds, Mark}
use Rattle.shelf.specs.Histories.{Each}
use Rattle.shelf.specs.declared.receipt.Receipt.{Receipt}
use Rattle.shelf.specs.declared.receipt.AdmitFault.{AdmitFault}
use Rattle.session_core.specs.Serving.{IsServed}
use Rattle.session_core.specs.declared.orders.NoOrders.{NoOrders}
use Rattle.session_core.specs.declared.served.Served.{Served}
use Rattle.session_core.specs.declared.served.SessionEnd.{SessionEnd}
use Rattle.session_core.specs.declared.served.SessionEnd.TheVariants as ends
use Rattle.server_loop.specs.Connections.{Connection, IsConnection, AreServed, Works, Runs, ended_by_link, failed_links, link_ends, no_orders}
use Rattle.server_loop.specs.Progress.{ServesOne, Fails, IsOn}
use Rattle.server_loop.proofs.Passing.{passes_then, once_some, once_low}

each-snoc : {X : Type 0} (P : X → Type 0) (xs : List X) (x : X) → Each P xs → P x → Each P (xs ++ x ∷ [])
each-snoc P [] x each one = (one, tt)
each-snoc P (y ∷ xs) x each one = (each.0, each-snoc P xs x each.1 one)

-- a session that ended because its link failed has a link that failed
ended_once : (end : SessionEnd) (before after : ℕ) → before ≡ 0 → (end ≡ ends.LinkFault → Rose before after) → ended_by_link end ≤ once_if after
ended_once ends.Ended before after none rose = omega arith
ended_once (ends.EndedInside have) before after none rose = omega arith
ended_once ends.LinkFault before after none rose = let up = rose refl in let one = once_some after (omega arith) in omega arith
ended_once (ends.Broken found) before after none rose = omega arith
ended_once (ends.Unknown imei) before after none rose = omega arith
ended_once (ends.MediumFault faults) before after none rose = omega arith
ended_once (ends.Down faults) before after none rose = omega arith
ended_once (ends.LongEnough taken) before after none rose = omega arith
ended_once ends.NoMemory before after none rose = omega arith

module _ {L : Type 0} (state : L → LinkState) (follows : L → L → Type 0) (knows : ℕ → Bool) where
  abbrev served_of : Connection L → Served
  served_of c = c.served

  failed-snoc : (cs : List (Connection L)) (c : Connection L) → failed_links state follows knows (cs ++ c ∷ []) ≡ failed_links state follows knows cs + once_if (state c.back).faults
  failed-snoc [] c = omega arith
  failed-snoc (x ∷ cs) c = let rest = failed-snoc cs c in omega arith

  failed-few : (cs : List (Connection L)) → failed_links state follows knows cs ≤ length cs
  failed-few [] = omega arith
  failed-few (c ∷ cs) = let rest = failed-few cs in let one = once_low (state c.back).faults in omega arith

  ends-few : (cs : List (Connection L)) → Each (IsConnection state follows knows) cs → link_ends (map served_of cs) ≤ failed_links state follows knows cs
  ends-few [] each = omega arith
  ends-few (c ∷ cs) each = let rest = ends-few cs each.1 in let one = each.0.cause in omega arith

  -- no more ends by a link than links that came back failed
  ends_within : (d e : DoorState L) (served : List Served) (cs : List (Connection L)) → AreServed state follows knows d e served cs → link_ends served + d.link_faults ≤ e.link_faults
  ends_within d e served cs a =
      let few = ends-few cs a.each in
      let same = ap link_ends a.are in
      let rose = a.link_faults in
      omega arith

  module _ {S : Type 0} (leaves : S → ℕ → List ℕ → Result Receipt AdmitFault → S → Type 0) (mark : S → Mark) where
    runs-snoc : (cs : List (Connection L)) (c : Connection L) (s t u : S) → Runs leaves mark s cs t → c.mark ≡ mark t → Feeds leaves t c.calls u → Runs leaves mark s (cs ++ c ∷ []) u
    runs-snoc [] c s t u runs marked feeds = (u, subst (λ (x : S). c.mark ≡ mark x) (sym runs) marked, subst (λ (x : S). Feeds leaves x c.calls u) (sym runs) feeds, refl)
    runs-snoc (x ∷ cs) c s t u runs marked feeds = (runs.0, runs.1, runs.2, runs-snoc cs c runs.0 t u runs.3 marked feeds)

    runs-to : (cs : List (Connection L)) (s t u : S) → u ≡ t → Runs leaves mark s cs t → Runs leaves mark s cs u
    runs-to cs s t u same runs = subst (λ (x : S). Runs leaves mark s cs x) (sym same) runs

    -- accepted, served and given back
    pub one_served : (told : S → Option (List Brought)) (d m e : DoorState L) (link back : L) (s t : S) (o p : NoOrders) (served : Served)
        → Gives d link m → IsUnused (state link) → m.faults ≡ d.faults
        → IsServed leaves told mark no_orders knows o p s t (state link) (state back) served
        → (served.end ≡ ends.LinkFault → Rose (state link).faults (state back).faults)
        → follows link back → TakesBack m back (state back).faults e
        → ServesOne state follows knows leaves mark d e s t served
    one_served told d m e link back s t o p served gives unused passed is cause goes_on takes = record {
      c = record { given = link; back = back; served = served; calls = is.calls; mark = mark s };
      is = record {
        unused = unused;
        goes_on = goes_on;
        taken = is.taken;
        written = is.written;
        moves = is.moves;
        before = o;
        after = p;
        course = is.course;
        told = is.told;
        cause = ended_once served.end (state link).faults (state back).faults unused.faults cause;
        receipts = is.receipts;
        calls = is.of_session;
      };
      says = refl;
      passes = passes_then d.told m.told e.told (link ∷ []) [] [] (back ∷ []) gives.told takes.told;
      faults = takes.faults ∙ passed;
      link_faults = takes.link_faults ∙ ap (λ (n : ℕ). n + once_if (state back).faults) gives.link_faults;
      marked = refl;
      feeds = is.feeds;
    }

    pub goes_on : (d e f : DoorState L) (s t u : S) (served : List Served) (one : Served)
        → IsOn state follows knows leaves mark d e s t served → ServesOne state follows knows leaves mark e f t u one → IsOn state follows knows leaves mark d f s u (served ++ one ∷ [])
    goes_on d e f s t u served one on next =
        let c : Connection L = next.c in
        let cs : List (Connection L) = on.cs in
        let a = on.served_are in
        record {
          cs = cs ++ c ∷ [];
          served_are = record {
            each = each-snoc (IsConnection state follows knows) cs c a.each next.is;
            are = map-append served_of cs (c ∷ []) ∙ (λ i. a.are i ++ next.says i ∷ []);
            passes =
                let both = passes_then d.told e.told f.told (map (λ c. c.given) cs) (map (λ c. c.back) cs) (c.given ∷ []) (c.back ∷ []) a.passes next.passes in
                subst (λ (z : List L × List L). Passes z.0 z.1 d.told f.told) (λ i. (sym (map-append (λ (c : Connection L). c.given) cs (c ∷ [])) i, sym (map-append (λ (c : Connection L). c.back) cs (c ∷ [])) i)) both;
            link_faults = (let x = a.link_faults in let y = next.link_faults in let z = failed-snoc cs c in omega arith);
          };
          faults = next.faults ∙ on.faults;
          runs = runs-snoc cs c s t u on.runs next.marked next.feeds;
        }

    -- how many links can have failed
    pub few_failed : (d e : DoorState L) (s t : S) (served : List Served) → IsOn state follows knows leaves mark d e s t served → e.link_faults ≤ d.link_faults + length served
    few_failed d e s t served on =
        let a = on.served_are in
        let rose = a.link_faults in
        let few = failed-few on.cs in
        let long : length (map served_of on.cs) ≡ length on.cs = length-map on.cs served_of in
        let same = ap (λ (l : List Served). length l) a.are in
        omega arith

    pub all_served : (sessions : ℕ) (d e : DoorState L) (s t : S) (served : List Served) → IsOn state follows knows leaves mark d e s t served → length served ≡ sessions
        → Works state follows knows leaves mark sessions d e s t served false
    all_served sessions d e s t served on all = record {
      cs = on.cs;
      worked = record {
        connections = on.served_are;
        report = record {
          all = λ _. all;
          stopped = λ never. absurd (let no : false ≡ true = never in cc);
          cause = λ never. absurd (let no : false ≡ true = never in cc);
          passed = λ _. on.faults;
          link_ends = ends_within d e served on.cs on.served_are;
        };
      };
      runs = on.runs;
    }

    -- accepting failed before the last
    pub stopped : (sessions : ℕ) (d e f : DoorState L) (s t u : S) (served : List Served) → IsOn state follows knows leaves mark d e s t served → length served < sessions
        → Fails state follows knows leaves mark e f t u → Works state follows knows leaves mark sessions d f s u served true
    stopped sessions d e f s t u served on fewer fails =
        let a = on.served_are in
        let passes : Passes (map (λ c. c.given) on.cs) (map (λ c. c.back) on.cs) d.told f.told = subst (λ (z : Option (DoorLinks L)). Passes (map (λ c. c.given) on.cs) (map (λ c. c.back) on.cs) d.told z) (sym fails.none.told) a.passes in
        let now : AreServed state follows knows d f served on.cs = record { each = a.each; are = a.are; passes = passes; link_faults = fails.none.link_faults ∙ a.link_faults } in
        record {
          cs = on.cs;
          worked = record {
            connections = now;
            report = record {
              all = λ never. absurd (let no : true ≡ false = never in cc);
              stopped = λ _. fewer;
              cause = λ _. subst (λ (n : ℕ). Rose n f.faults) on.faults fails.rose;
              passed = λ never. absurd (let no : true ≡ false = never in cc);
              link_ends = ends_within d f served on.cs now;
            };
          };
          runs = runs-to on.cs s t u fails.same on.runs;
        }
