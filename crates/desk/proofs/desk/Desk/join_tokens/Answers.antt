use Rattle.std.proofs.Common.{◌<◌, length, arith, sym, ap, ◌∙◌, subst}
use Rattle.desk.specs.Views.{View}
use Rattle.desk.specs.Steps.{Place}
use Rattle.desk.proofs.Join.{joins, settles}
use Rattle.desk.proofs.desk.Desk.join_tokens.Goals as goal

pub join_seat-requires : goal.join_seat-requires
join_seat-requires g c = let sized = c.args.self.now.sized in
    (c.requires.table, c.requires.other_table, c.requires.other_bare, omega (arith, sized.0), joins _ _ _ _ _ _ c.requires.idle c.requires.other_idle)

pub load-requires : goal.load-requires
load-requires g c = let sized = c.args.self.now.sized in let e = c.join_seat.ensures in
    let view_is = ap (λ (p : Place). p.0) e.2 in
    (e.0 ∙ c.requires.table, omega (arith, sized.0), settles _ _ _ _ _ (ap (λ (v : View). v.stage) view_is) (subst (λ (v : View). 0 < length v.numbers) (sym view_is) c.requires.idle.numbered))
