-- What a session's call leaves of a seat at its desk.
use Rattle.std.proofs.Common.{◌≡◌, ◌↔◌, ℕ, List, [], ◌∷◌, ◌++◌, Some, Result, refl, ap, ◌∙◌}
use Rattle.medium_model.specs.declared.medium.Medium.{Ghosts}
use Rattle.shelf.specs.Calls.{brought_by, no_mark, TellsCall}
use Rattle.shelf.specs.Entries.{Entry, all_brought, calls_by}
use Rattle.shelf.specs.declared.receipt.Receipt.{Receipt}
use Rattle.shelf.specs.declared.receipt.AdmitFault.{AdmitFault}
use Rattle.desk.specs.declared.desk.Desk.{Desk}
use Rattle.desk.specs.declared.desk.Seat.{Seat}
use Rattle.desk.specs.Desks.{opening, seen, numbers}
use Rattle.desk.specs.Refusals.{HasFault, IsDown, CarriesAbove, before_last}
use Rattle.desk.specs.Seen.{Extends}

brought-snoc : (log : List Entry) (e : Entry) → all_brought (log ++ e ∷ []) ≡ all_brought log ++ e.brought ∷ []
brought-snoc [] e = refl
brought-snoc (x ∷ log) e = ap (λ l. x.brought ∷ l) (brought-snoc log e)

module _ {M : Type 0} {d : Ghosts M} where
  pub record SeatLeaves (desk : Desk M) (old : Seat M d) (imei : ℕ) (body : List ℕ) (result : Result Receipt AdmitFault) (desk_now : Desk M) (new : Seat M d) : Type 0 where
    pub same_desk : desk_now ≡ desk
    pub same_numbers : numbers new ≡ numbers old
    pub history : Extends (opening desk) (numbers old) (brought_by no_mark imei body result) (seen old) (seen new)
    pub down : IsDown result ↔ HasFault (before_last (seen new))
    pub fault : CarriesAbove (opening desk).faults result

  -- It puts itself after the calls that the seat tells: those under its numbers.
  pub tells-call : (desk : Desk M) (old : Seat M d) (imei : ℕ) (body : List ℕ) (result : Result Receipt AdmitFault) (desk_now : Desk M) (new : Seat M d) → SeatLeaves desk old imei body result desk_now new
      → TellsCall imei body result no_mark no_mark (Some (all_brought (calls_by (numbers old) (seen old)))) (Some (all_brought (calls_by (numbers new) (seen new))))
  tells-call desk old imei body result desk_now new left = record {
    same = refl;
    added =
        let own = ap (λ (ns : List ℕ). all_brought (calls_by ns (seen new))) left.same_numbers in
        let more = ap all_brought left.history.mine ∙ brought-snoc (calls_by (numbers old) (seen old)) _ in
        ap Some (own ∙ more);
  }
