-- A closed gate holds nothing, and an open one what its fields say.
use Rattle.std.proofs.Common.{◌∙◌, sym, subst}
use Rattle.flash_ring.specs.Slot.{HoldsSound}
use Rattle.flash_ring.proofs.Slots.{slot_of-closed, slot_of-open}
use Rattle.flash_ring.proofs.held.read_slot.Goals as goal

pub returns-then-bytes-clause-holds : goal.returns-then-bytes-clause-holds
returns-then-bytes-clause-holds c = sym (slot_of-closed c.args.bytes.now c.if-bytes.true)

pub returns-in-Some-clause-holds : goal.returns-in-Some-clause-holds
returns-in-Some-clause-holds c = sym (slot_of-open c.args.bytes.now c.if-bytes.false ∙ c.in-Some.ensures.some)

pub returns-in-Some-clause-sound : goal.returns-in-Some-clause-sound
returns-in-Some-clause-sound c = λ gate. subst HoldsSound (sym (slot_of-open c.args.bytes.now gate ∙ c.in-Some.ensures.some)) c.in-Some.ensures.sound

pub returns-in-None-clause-unsound : goal.returns-in-None-clause-unsound
returns-in-None-clause-unsound c = λ sound.
    let gate = c.if-bytes.false in
    c.in-None.ensures.none (subst HoldsSound (slot_of-open c.args.bytes.now gate) (sound gate))
