-- The round, and the end of its line.
use Rattle.std.proofs.Common.{◌≡◌, ◌≤◌, Option, List, is_some, length, refl, sym, ◌∙◌, ap, subst}
use Rattle.flash_ring.specs.Held.{Held}
use Rattle.flash_ring.specs.Ring.{RingView}
use Rattle.shelf.specs.Shelf.{ShelfView}
use Rattle.trial_device.specs.SideLines.{EndsSide}
use Rattle.trial_device.specs.Sides.{Side}
use Rattle.trial_model.specs.Script.{Opening}
use Rattle.trial_loop.specs.Rounded.{RoundsBoth}
use Rattle.trial_loop.proofs.Rounds.{armed-left, armed-slots, ring-sound, rounds-both}
use Rattle.trial_loop.proofs.rounding.round.Goals as goal

pub end-requires : goal.end-requires
end-requires g c =
    ring-sound c.args.known (record { imei = c.args.line.imei; drains = c.args.line.drains; up = c.args.line.up; down = c.args.line.down }) c.in_ok-carried.carried.result c.begin.new.self.ring c.connect.new.side.ring c.args.shelf _
    c.in_ok-carried.ensures.rounded c.args.side.now.fuse
    (ap (λ (d : Side). d.ring.medium.left) c.begin.ensures.armed ∙ armed-left c.args.side.now.fuse c.args.side.now.ring c.requires.idle)

pub returns-clause-rounds : goal.returns-clause-rounds
returns-clause-rounds g c =
    let d = c.args.side.now in
    let o : Opening = record { imei = c.args.line.imei; drains = c.args.line.drains; up = c.args.line.up; down = c.args.line.down } in
    let side : c.connect.new.side ≡ record d { ring = c.connect.new.side.ring } = c.in_ok-carried.ensures.side ∙ ap (λ (x : Side). (let y : Side = record x { ring = c.connect.new.side.ring } in y)) c.begin.ensures.armed in
    let few : length c.begin.new.self.ring.slots ≤ 65535 =
    subst (λ (v : RingView). length v.slots ≤ 65535) (sym (ap (λ (x : Side). x.ring) c.begin.ensures.armed)) (subst (λ (slots : List (Option Held)). length slots ≤ 65535) (sym (armed-slots d.fuse d.ring)) c.requires.few) in
    subst (λ (t : ShelfView). RoundsBoth c.args.known o c.left_of.result.log (is_some c.left_of.result.session) c.args.shelf t d c.end.new.self) (sym c.left_of.ensures.shelf)
    (rounds-both c.args.known o c.in_ok-carried.carried.result c.begin.new.self.ring c.connect.new.side.ring c.args.shelf _
    c.in_ok-carried.ensures.rounded d.fuse (ap (λ (x : Side). x.ring.medium.left) c.begin.ensures.armed ∙ armed-left d.fuse d.ring c.requires.idle)
    d c.end.new.self refl (sym (ap (λ (x : Side). x.ring) c.begin.ensures.armed)) (c.in_ok-carried.ensures.drained few)
    (subst (λ (x : Side). EndsSide x.fuse x c.end.new.self) side c.end.ensures) c.left_of.result.log
    (c.left_of.ensures.log c.in_ok-carried.ensures.wire.taken) (is_some c.left_of.result.session) c.left_of.ensures.going)
