use Rattle.std.proofs.Common.{◌<◌, IsSome, arith, refl, sym, ap, ◌∙◌, subst, Option}
use Rattle.std.specs.Slots.{slots_len}
use mathlib.Core.Option.{some-injective}
use Rattle.shelf.specs.Shelf.{ShelfView, front}
use Rattle.shelf.specs.Entries.{StandsAfter}
use Rattle.desk.specs.Desks.{opening, seen}
use Rattle.desk.proofs.Close.{closes}
use Rattle.desk.proofs.Shelves.{some-same}
use Rattle.desk.proofs.Turns.{faultless}
use Rattle.desk.proofs.desk.Desk.close.Goals as goal

pub take-requires : goal.take-requires
take-requires g c =
    let sized = c.args.self.sized in
    let count = c.close_with-closed.ensures.counts.1 in
    let slot : 0 < slots_len c.close_with-closed.result.slots = omega arith in
    (slot, c.close_with-closed.ensures.values.1 0 (omega arith) slot)

pub unwrap-shelf-requires : goal.unwrap-shelf-requires
unwrap-shelf-requires g c =
    let at = closes _ _ _ _ _ _ c.args.seat.alone c.requires.all c.close_with-closed.ensures.values.2 in
    subst (λ (s : Option ShelfView). IsSome s) (sym (some-injective _ _ (sym c.take.ensures.value ∙ at.there))) refl

pub returns-clause-shelf : goal.returns-clause-shelf
returns-clause-shelf g c =
    let at = closes _ _ _ _ _ _ c.args.seat.alone c.requires.all c.close_with-closed.ensures.values.2 in
    let same = some-same at.shelf c.unwrap-shelf.result (sym (some-injective _ _ (sym c.take.ensures.value ∙ at.there)) ∙ c.unwrap-shelf.ensures) in
    subst (λ (s : ShelfView). StandsAfter (opening c.args.self) (seen c.args.seat) (front s)) same at.stands

pub returns-clause-legal : goal.returns-clause-legal
returns-clause-legal g c = (closes _ _ _ _ _ _ c.args.seat.alone c.requires.all c.close_with-closed.ensures.values.2).legal

pub returns-clause-whole : goal.returns-clause-whole
returns-clause-whole g c = (closes _ _ _ _ _ _ c.args.seat.alone c.requires.all c.close_with-closed.ensures.values.2).whole

pub returns-clause-faultless : goal.returns-clause-faultless
returns-clause-faultless g c = λ none.
    let at = closes _ _ _ _ _ _ c.args.seat.alone c.requires.all c.close_with-closed.ensures.values.2 in
    let same = some-same at.shelf c.unwrap-shelf.result (sym (some-injective _ _ (sym c.take.ensures.value ∙ at.there)) ∙ c.unwrap-shelf.ensures) in
    faultless at.shelf.medium.faults (seen c.args.seat) (opening c.args.self).faults (ap (λ (s : ShelfView). s.medium.faults) same ∙ none) at.stands.counts
