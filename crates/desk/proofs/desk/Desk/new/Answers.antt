use Rattle.std.proofs.Common.{ℕ, List, [], ◌∷◌, ◌++◌, Some, Option, sym, ap, ◌∙◌, subst}
use Rattle.atomic_table.specs.Table as table
use Rattle.shelf.specs.Shelf.{ShelfView, front}
use Rattle.desk.specs.Rule.{HasHistory}
use Rattle.desk.specs.Views.{first_view}
use Rattle.desk.proofs.Start.{starts}
use Rattle.desk.proofs.desk.Desk.new.Goals as goal

pub new-requires : goal.new-requires
new-requires g c =
    let P : ShelfView × ℕ × List (Option ShelfView) → Type 0 = λ p. HasHistory (front p.0) p.1 (table.opening (0 ∷ 0 ∷ []) p.2 (first_view (front p.0) p.1)) in
    let empty = c.in-Ok-with_capacity.ensures.items in
    let items = ap (λ (l : List (Option ShelfView)). l ++ Some c.args.shelf ∷ []) (sym empty) ∙ sym c.push_reserved.ensures.items in
    subst P (λ i. (sym c.of.ensures i, sym c.from.ensures i, items i)) (starts c.args.shelf c.args.seats c.requires.up c.requires.few)
