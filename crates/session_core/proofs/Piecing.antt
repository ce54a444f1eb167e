-- A piece, item by item.
use Rattle.std.proofs.Common.{◌≡◌, ℕ, ◌+◌, ◌-◌, Bool, List, [], ◌++◌, length, take, drop, Option, Some, None, Result, refl, sym, ap, subst, ◌∙◌, append_assoc}
use Rattle.std.proofs.lemmas.List.{take-append-drop}
use Rattle.std.proofs.Math.Seq.{take-add}
use Rattle.item_streams.specs.Readers.{Reader}
use Rattle.links.proofs.Moving.{rest_whole}
use Rattle.shelf.specs.declared.receipt.AdmitFault.{AdmitFault}
use Rattle.shelf.specs.declared.receipt.Receipt.{Receipt}
use Rattle.session_core.specs.declared.served.SessionEnd.{SessionEnd}
use Rattle.session_core.specs.Doings.{Doing, Goes, EndsIn}
use Rattle.session_core.specs.Sessions.{SessionState, IsReady}
use Rattle.session_core.specs.Talks.{Meaning}
use Rattle.session_core.specs.Works.{Took}
use Rattle.session_core.proofs.Going.{goes_then, goes_as, end_after, end_wider}

-- the bytes left from a place on
abbrev pub left_from : ℕ → List ℕ → List ℕ
left_from at piece = take (length piece - at) (drop at piece)

whole_piece : (piece : List ℕ) (at n : ℕ) → (take at piece ++ take n (left_from at piece)) ++ drop n (drop at piece) ≡ piece
whole_piece piece at n =
    ap (λ (r : List ℕ). (take at piece ++ take n r) ++ drop n (drop at piece)) (rest_whole at piece)
    ∙ (append_assoc (take at piece) (take n (drop at piece)) (drop n (drop at piece)) ∙ (ap (λ (r : List ℕ). take at piece ++ r) (take-append-drop n (drop at piece)) ∙ take-append-drop at piece))

module _ {S O : Type 0} (leaves : S → ℕ → List ℕ → Result Receipt AdmitFault → S → Type 0) (m : Meaning O) (known : ℕ → Bool) where
  -- a step that was taken
  pub step_none : (q : Option SessionEnd) (bytes : List ℕ) (old new : SessionState) (x y : Doing S O) → q ≡ None → Took leaves m known q bytes old new x y → IsReady new × Goes leaves m known bytes [] old.reader new.reader x y
  step_none q bytes old new x y is took = subst (λ (p : Option SessionEnd). Took leaves m known p bytes old new x y) is took

  pub step_some : (q : Option SessionEnd) (end : SessionEnd) (bytes : List ℕ) (old new : SessionState) (x y : Doing S O) → q ≡ Some end → Took leaves m known q bytes old new x y → EndsIn leaves m known end bytes [] old.reader x y
  step_some q end bytes old new x y is took = subst (λ (p : Option SessionEnd). Took leaves m known p bytes old new x y) is took

  pub piece_goes : (piece : List ℕ) (at n : ℕ) (r s t : Reader) (x y z : Doing S O) → Goes leaves m known (take at piece) [] r s x y → Goes leaves m known (take n (left_from at piece)) [] s t y z → Goes leaves m known (take (at + n) piece) [] r t x z
  piece_goes piece at n r s t x y z g h =
      goes_as leaves m known _ _ [] [] r t x z (ap (λ (b : List ℕ). take at piece ++ take n b) (rest_whole at piece) ∙ sym (take-add at n piece)) refl
      (goes_then leaves m known (take at piece) (take n (left_from at piece)) [] [] r s t x y z g h)

  pub piece_ends : (piece : List ℕ) (at n : ℕ) (q : Option SessionEnd) (end : SessionEnd) (r : Reader) (old new : SessionState) (x y z : Doing S O) → Goes leaves m known (take at piece) [] r old.reader x y → q ≡ Some end
      → Took leaves m known q (take n (left_from at piece)) old new y z → EndsIn leaves m known end piece [] r x z
  piece_ends piece at n q end r old new x y z g is took =
      let b : List ℕ = take n (left_from at piece) in
      let e = step_some q end b old new y z is took in
      subst (λ (p : List ℕ). EndsIn leaves m known end p [] r x z) (whole_piece piece at n)
      (end_wider leaves m known end (take at piece ++ b) (drop n (drop at piece)) [] r x z (end_after leaves m known end (take at piece) b [] [] r old.reader x y z g e))
