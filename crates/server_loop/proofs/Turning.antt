-- What a worker's connections leave of its seat.
use Rattle.std.proofs.Common.{◌≡◌, ℕ, List, [], ◌∷◌, ◌++◌, map, Some, Result, sym, ap, subst, ◌∙◌, append_assoc, append-nil}
use Rattle.medium_model.specs.declared.medium.Medium.{Ghosts}
use Rattle.shelf.specs.Calls.{Brought, Call, Feeds, Mark, brought, no_mark}
use Rattle.shelf.specs.Entries.{Entry, entry, all_brought, calls_by, calls_of}
use Rattle.shelf.specs.declared.receipt.Receipt.{Receipt}
use Rattle.shelf.specs.declared.receipt.AdmitFault.{AdmitFault}
use Rattle.shelf.proofs.Histories.{feeds-told}
use Rattle.desk.specs.declared.desk.Desk.{Desk}
use Rattle.desk.specs.declared.desk.Seat.{Seat}
use Rattle.desk.specs.Desks.{seen, numbers, IsNewSeat, IsSeatOf}
use Rattle.desk.specs.Sessions.{SeatLeaves, tells-call}
use Rattle.desk.proofs.Shelves.{some-same}
use Rattle.server_loop.specs.Connections.{Connection, Runs, brought_by_one, brought_in}
use Rattle.server_loop.proofs.Members.{own-entries}

module _ {S M : Type 0} {d : Ghosts M} (desk : S → Desk M) (seat : S → Seat M d) where
  abbrev pub Leaves : S → ℕ → List ℕ → Result Receipt AdmitFault → S → Type 0
  Leaves s imei body result t = SeatLeaves (desk s) (seat s) imei body result (desk t) (seat t)

  -- the calls under the seat's numbers
  abbrev own : S → List Brought
  own s = all_brought (calls_by (numbers (seat s)) (seen (seat s)))

  record Keeps (s t : S) (more : List Brought) : Type 0 where
    same_desk : desk t ≡ desk s
    same_numbers : numbers (seat t) ≡ numbers (seat s)
    calls : own t ≡ own s ++ more

  feeds-desk : (calls : List Call) (s t : S) → Feeds Leaves s calls t → (desk t ≡ desk s) × (numbers (seat t) ≡ numbers (seat s))
  feeds-desk [] s t f = (ap desk (sym f), ap (λ (z : S). numbers (seat z)) (sym f))
  feeds-desk (c ∷ cs) s t f = let rest = feeds-desk cs f.0 t f.2 in (rest.0 ∙ f.1.same_desk, rest.1 ∙ f.1.same_numbers)

  feeds-keep : (calls : List Call) (s t : S) → Feeds Leaves s calls t → Keeps s t (map (brought no_mark) calls)
  feeds-keep calls s t f =
      let same = feeds-desk calls s t f in
      let told = feeds-told Leaves (λ z. Some (own z)) (λ _. no_mark) (λ s imei body result t left. tells-call (desk s) (seat s) imei body result (desk t) (seat t) left) calls s t f in
      record { same_desk = same.0; same_numbers = same.1; calls = some-same (own t) (own s ++ map (brought no_mark) calls) told.added }

  runs-keep : {L : Type 0} (cs : List (Connection L)) (s t : S) → Runs Leaves (λ _. no_mark) s cs t → Keeps s t (brought_in cs)
  runs-keep [] s t r = record { same_desk = ap desk (sym r); same_numbers = ap (λ (z : S). numbers (seat z)) (sym r); calls = ap own (sym r) ∙ sym (append-nil (own s)) }
  runs-keep (c ∷ cs) s t r =
      let one = feeds-keep c.calls s r.0 r.2 in
      let rest = runs-keep cs r.0 t r.3 in
      let marked : brought_by_one c ≡ map (brought no_mark) c.calls = ap (λ (m : Mark). map (brought m) c.calls) r.1 in
      record {
        same_desk = rest.same_desk ∙ one.same_desk;
        same_numbers = rest.same_numbers ∙ one.same_numbers;
        calls = rest.calls ∙ (ap (λ (l : List Brought). l ++ brought_in cs) (one.calls ∙ ap (λ (l : List Brought). own s ++ l) (sym marked)) ∙ append_assoc (own s) (brought_by_one c) (brought_in cs));
      }

  -- a seat that was new, after these connections
  pub record HasTurned {L : Type 0} (k : Desk M) (n : ℕ) (t : Seat M d) (cs : List (Connection L)) : Type 0 where
    pub of_desk : IsSeatOf k t
    pub number : numbers t ≡ n ∷ []
    pub calls : calls_of n (seen t) ≡ map (entry n) (brought_in cs)

  pub turned : {L : Type 0} (s t : Seat M d) (k : Desk M) (n : ℕ) (a b : S) (cs : List (Connection L)) → IsNewSeat k n s → desk a ≡ k → seat a ≡ s → Runs Leaves (λ _. no_mark) a cs b → t ≡ seat b → IsSeatOf (desk b) t → HasTurned k n t cs
  turned s t k n a b cs new at sat runs back of_desk =
      let kept = runs-keep cs a b runs in
      let numbers_are : numbers (seat a) ≡ n ∷ [] = ap (λ (z : Seat M d). numbers z) sat ∙ new.own in
      let none : seen (seat a) ≡ [] = ap (λ (z : Seat M d). seen z) sat ∙ new.unseen in
      let before : own a ≡ [] = ap (λ (l : List Entry). all_brought (calls_by (numbers (seat a)) l)) none in
      let number : numbers t ≡ n ∷ [] = ap (λ (z : Seat M d). numbers z) back ∙ (kept.same_numbers ∙ numbers_are) in
      let after : all_brought (calls_of n (seen t)) ≡ own b = ap (λ (z : Seat M d). all_brought (calls_of n (seen z))) back ∙ ap (λ (ns : List ℕ). all_brought (calls_by ns (seen (seat b)))) (sym (kept.same_numbers ∙ numbers_are)) in
      record {
        of_desk = subst (λ (z : Desk M). IsSeatOf z t) (kept.same_desk ∙ at) of_desk;
        number = number;
        calls = own-entries n (seen t) ∙ ap (λ (l : List Brought). map (entry n) l) (after ∙ (kept.calls ∙ ap (λ (l : List Brought). l ++ brought_in cs) before));
      }
