use Rattle.std.proofs.Common.{◌≡◌, ◌∙◌, ℕ, Option, ap, refl, subst}
use Rattle.trial_wire.specs.WireLinks.{IsWire, WireState}
use Rattle.trial_talks.specs.Rounds.{RoundsOver}
use Rattle.trial_talks.proofs.Rounds.{new-rounded}
use Rattle.trial_talks.proofs.connecting.connect.Goals as goal

pub returns-clause-rounded : goal.returns-clause-rounded
returns-clause-rounded g c earlier cover decided left =
    let p = c.carry-carried.result.wire in
    let up_is : c.new-wire.result.limit ≡ c.args.line.up = ap (λ (w : WireState). w.limit) c.new-wire.ensures in
    let down_is : c.new-wire.result.most ≡ c.args.line.down = ap (λ (w : WireState). w.most) c.new-wire.ensures in
    new-rounded c.args.known (record { imei = c.args.line.imei; drains = c.args.line.drains; up = c.args.line.up; down = c.args.line.down }) c.most_batches.result c.carry-carried.result.result
    c.args.side.now.ring c.carry-carried.new.side.ring c.args.shelf c.new-wire.result _ earlier cover
    c.has_digits.ensures c.requires.shelf c.new-wire.ensures
    (subst (λ (z : ℕ × Option ℕ × Option ℕ). RoundsOver z.0 c.most_batches.result c.carry-carried.result.result c.args.side.now.ring c.carry-carried.new.side.ring c.new-wire.result
    (record { known = p.known; limit = z.1; most = z.2; up = p.up; given = p.given; down = p.down; heard = p.heard; shelf = p.shelf; session = p.session; ended = p.ended; faults = p.faults }))
    (λ i. (c.requires.own i, up_is i, down_is i)) c.carry-carried.ensures.over)
    (subst (λ (z : Option ℕ × Option ℕ). IsWire (record { known = p.known; limit = z.0; most = z.1; up = p.up; given = p.given; down = p.down; heard = p.heard; shelf = p.shelf; session = p.session; ended = p.ended; faults = p.faults }))
    (λ i. (up_is i, down_is i)) c.carry-carried.ensures.wire)
    c.carry-carried.ensures.bytes (c.if-is_starved.ensures.ended refl) (c.if-is_starved.ensures.faults refl) decided left c.most_batches.ensures.one

pub returns-clause-known : goal.returns-clause-known
returns-clause-known g c = c.carry-carried.ensures.over.follows.known ∙ ap (λ (w : WireState). w.known) c.new-wire.ensures
