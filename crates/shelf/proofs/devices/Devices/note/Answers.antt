use Rattle.std.proofs.Common.{refl, arith}
use Rattle.shelf.specs.Archive.{stored}
use Rattle.shelf.proofs.Counted.{counted-known, counted-new, devices-most, found-in, updates-at}
use Rattle.shelf.proofs.devices.Devices.note.Goals as goal

pub returns-in-Some-clause-counted : goal.returns-in-Some-clause-counted
returns-in-Some-clause-counted c r =
    counted-known c.args.list.now c.args.self.now (stored c.args.imei r) _ c.requires.counted (found-in c.args.self.now.firsts _ _ _ _ _ c.number-number.ensures.value c.copied.ensures c.get.ensures.value c.in-Some.is)

pub overflow_add-self : goal.overflow_add-self
overflow_add-self c = let count = c.requires.counted.count in let most = devices-most c.args.list.now in let few = c.requires.few in omega arith

pub returns-in_ok-insert-in-None-clause-counted : goal.returns-in_ok-insert-in-None-clause-counted
returns-in_ok-insert-in-None-clause-counted c r =
    counted-new c.args.list.now c.args.self.now _ (stored c.args.imei r) _ c.requires.counted (found-in c.args.self.now.firsts _ _ _ _ _ c.number-number.ensures.value c.copied.ensures c.get.ensures.value c.in-None.is) refl
    (updates-at c.args.self.now.firsts c.insert.new.self _ _ _ c.number-number.ensures.value c.in_ok-insert-in-None.ensures.updates) refl
