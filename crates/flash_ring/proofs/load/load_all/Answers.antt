-- The slice keeps its length.
use Rattle.std.proofs.Common.{List, Option, OnOk, sym, ap, subst, length, arith, drop}
use Rattle.flash_ring.specs.Held.{Held, AreSound}
use Rattle.flash_ring.proofs.Loads.{front_of}
use Rattle.flash_ring.proofs.load.load_all.Goals as goal

pub returns-clause-sound : goal.returns-clause-sound
returns-clause-sound g c =
    let P : List (Option Held) → Type 0 = λ s. OnOk c.load.result (AreSound s) in
    let size = c.load.auto.slots in
    subst P (sym (front_of c.load.new.slots (drop (length c.load.new.slots) c.args.slots.now.items) c.args.slots.now.len
    (omega (arith, size, c.as_mut_slice.ensures.len, ap length c.as_mut_slice.ensures.value, c.args.slots.now.ok.0)))) c.load.ensures.sound
