use Rattle.std.proofs.Common.{◌∙◌, sym, ap, Some, arith}
use Rattle.std.proofs.lemmas.Option.{none-some, same_Some}
use Rattle.shelf.proofs.Counted.{counted-less, counted-kept, counted-some, found-in, updates-at}
use Rattle.shelf.proofs.devices.Devices.forget.Goals as goal

pub overflow_sub-self : goal.overflow_sub-self
overflow_sub-self c =
    counted-some _ c.args.self.now c.args.last.now.imei _ c.requires (found-in c.args.self.now.firsts _ _ _ _ _ (c.number-number.ensures.value ∙ c.imei.ensures) c.copied.ensures c.get.ensures.value c.in-Some.is)

pub returns-in-None : goal.returns-in-None
returns-in-None c =
    let found = found-in c.args.self.now.firsts _ _ _ _ _ (c.number-number.ensures.value ∙ c.imei.ensures) c.copied.ensures c.get.ensures.value c.in-None.is in
    counted-kept c.args.list.now c.args.self.now c.args.last.now c.requires (λ at. none-some _ (sym found ∙ at))

pub returns-else-first-list : goal.returns-else-first-list
returns-else-first-list c =
    let found = found-in c.args.self.now.firsts _ _ _ _ _ (c.number-number.ensures.value ∙ c.imei.ensures) c.copied.ensures c.get.ensures.value c.in-Some.is in
    counted-kept c.args.list.now c.args.self.now c.args.last.now c.requires (λ at. c.if-first-list.false (same_Some _ _ (sym found ∙ at)))

pub returns-then-first-list : goal.returns-then-first-list
returns-then-first-list c =
    let found = found-in c.args.self.now.firsts _ _ _ _ _ (c.number-number.ensures.value ∙ c.imei.ensures) c.copied.ensures c.get.ensures.value c.in-Some.is in
    let some = counted-some _ c.args.self.now c.args.last.now.imei _ c.requires found in
    counted-less c.args.list.now c.args.self.now _ c.args.last.now c.requires (found ∙ ap Some c.if-first-list.true)
    (updates-at c.args.self.now.firsts c.remove-first.new.self _ _ _ (c.number-number.ensures.value ∙ c.imei.ensures) c.remove-first.ensures.updates) (omega arith)
