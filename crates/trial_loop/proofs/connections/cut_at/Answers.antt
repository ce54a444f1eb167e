use Rattle.std.proofs.Common.{get_or, set, Global, Vec, sym, ◌∙◌, ap, arith}
use Rattle.trial_wire.specs.Connections.{Connection}
use Rattle.trial_loop.specs.declared.connection.TrialConnection.{TrialConnection}
use Rattle.trial_loop.proofs.Opened.{cut_place-past, cut_place-set, cutting-end, cutting-next}
use Rattle.trial_loop.proofs.connections.cut_at.Goals.{then-place-len, else-place-len}
use Rattle.trial_loop.proofs.connections.cut_at.Goals as goal

pub loop-place-preserved : goal.loop-place-preserved
loop-place-preserved c =
    let places = c.args.places.now in
    let i = c.loop-place.place-index in
    let p = get_or places i 0 in
    let all = c.loop-place.all in
    let next = cutting-next places i all.items c.if-place-len.all.items c.args.all.now.items c.loop-place-test.true in
    elim c.if-place-len.branch [
      | then-place-len w ↦ next
          (ap (λ (v : Vec TrialConnection Global). v.items) w.all-is
          ∙ (ap (λ (x : Connection). set all.items p x) w.cut.ensures
          ∙ cut_place-set p all.items w.index_mut.result.now (omega (arith, w.if-place-len.true, c.len.ensures, all.ok.0)) w.index_mut.ensures.value))
          c.loop-place.invariant
      | else-place-len w ↦ next
          (ap (λ (v : Vec TrialConnection Global). v.items) w.all-is ∙ sym (cut_place-past p all.items (omega (arith, w.if-place-len.false, c.len.ensures, all.ok.0))))
          c.loop-place.invariant
    ]

pub returns : goal.returns
returns c = cutting-end c.args.places.now c.loop-place.place-index c.loop-place.all.items c.args.all.now.items c.loop-place-test.false c.requires c.loop-place.invariant
