use Rattle.std.proofs.Common.{◌≡◌, [], refl, ap, sym, ◌∙◌, arith}
use Rattle.field_machine.specs.declared.left.Left.TheVariants as left
use Rattle.field_machine.proofs.Fields.{fits_in, turns_one}
use Rattle.field_machine.proofs.MachineSteps.{enters_broken, enters_past}
use Rattle.field_machine.proofs.machine.Machine.at_field.Goals as goal

pub next-requires : goal.next-requires
next-requires g c =
    let none : c.in-Field.width ≡ 0 = omega (arith, c.if-width-gt0.false) in
    fits_in (g.C.Place.left_of c.args.cursor) 0 0 (sym c.in-Field.ensures ∙ ap (λ k. left.Field k) none) (λ few. omega arith)

pub returns-in-Err : goal.returns-in-Err
returns-in-Err g c =
    let none : c.in-Field.width ≡ 0 = omega (arith, c.if-width-gt0.false) in
    let is : g.C.Place.left_of c.args.cursor ≡ left.Field 0 = sym c.in-Field.ensures ∙ ap (λ k. left.Field k) none in
    enters_broken g.C.Place.left_of g.C.Place.says g.C.Place.stands g.met.C.Place.leaves c.args.total c.args.place c.args.cursor c.in-Err.kind is (λ here stand. c.in-Err.ensures.follows here [] stand is (λ _. refl))

pub returns-in-Ok : goal.returns-in-Ok
returns-in-Ok g c =
    let none : c.in-Field.width ≡ 0 = omega (arith, c.if-width-gt0.false) in
    let is : g.C.Place.left_of c.args.cursor ≡ left.Field 0 = sym c.in-Field.ensures ∙ ap (λ k. left.Field k) none in
    enters_past g.C.Place.left_of g.C.Place.says g.C.Place.stands g.met.C.Place.leaves c.args.total c.args.place c.args.cursor c.in-Ok.next c.at_some_field-in-Ok.result is
    (λ here stand. c.in-Ok.ensures.follows here [] stand is (λ _. refl))
    (c.at_some_field-in-Ok.ensures (λ again. let one = turns_one (g.C.Place.left_of c.in-Ok.next) 0 again refl in let other = turns_one (g.C.Place.left_of c.args.cursor) 0 is refl in absurd (omega (arith, one, other, c.in-Ok.ensures.turns))))
