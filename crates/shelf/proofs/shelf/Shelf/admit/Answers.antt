-- Each exit leaves what was staged and kept.
use Rattle.std.proofs.Common.{◌≡◌, ◌∙◌, true, Result, Ok, Err, length, sym, ap, subst, refl, rules}
use Rattle.medium_model.proofs.Images.{counted-as}
use Rattle.record_layout.specs.RecordsOf.{records_of}
use Rattle.archive_journal.proofs.Packets.{accepted-whole}
use Rattle.shelf.specs.Kept.{keep_calls}
use Rattle.shelf.specs.Shelf.{ShelfView, MakesEntry, Leaves, recs_of}
use Rattle.shelf.specs.declared.receipt.AdmitFault.TheVariants.{NoMemory, MediumFault}
use Rattle.shelf.specs.declared.keep.KeepFault.{KeepFault}
use Rattle.shelf.proofs.Leaving.{behind, no_more, new-some, cut-is, nothing-staged, shelf-cut, shelf-fell, shelf-kept, shelf-same, leaves-none, leaves-nothing, leaves-kept, leaves-fault}
use Rattle.shelf.proofs.Making.{makes-entry, calls-four}
use Rattle.shelf.proofs.shelf.Shelf.admit.Goals as goal

-- the packet has nothing new
pub invariant_of-self-then-len-known : goal.invariant_of-self-then-len-known
invariant_of-self-then-len-known g c =
    let same : length c.stage.new.self ≡ length c.self.inside.listing = search rules in
    shelf-same _ _ _ _ _ c.self.invariant (nothing-staged _ _ c.args.imei (records_of c.args.body.now) same c.in_ok-receipt.ensures.added)

pub returns-then-len-known-clause-leaves : goal.returns-then-len-known-clause-leaves
returns-then-len-known-clause-leaves g c =
    let same : length c.stage.new.self ≡ length c.self.inside.listing = search rules in
    let P : ShelfView → Type 0 = λ v. Leaves v c.args.imei c.args.body.now (Ok c.in_ok-receipt.receipt)
    (record { medium = c.self.inside.journal.medium; list = c.stage.new.self; down = c.self.inside.down; opened = c.self.inside.opened }) in
    subst P c.self.view_is (leaves-nothing _ _ _ _ _ _ c.self.invariant c.if-self.false c.self.inside.journal _ _ c.in_ok-receipt.ensures.added c.in_ok-receipt.ensures.places
    (shelf-same _ _ _ _ _ c.self.invariant (nothing-staged _ _ c.args.imei (records_of c.args.body.now) same c.in_ok-receipt.ensures.added)) (no_more _ _ c.args.imei (records_of c.args.body.now) same c.in_ok-receipt.ensures.added))

pub keep-requires-clause-entry : goal.keep-requires-clause-entry
keep-requires-clause-entry g c =
    let grown : length c.stage.new.self ≡ length c.self.inside.listing → ⊥ = λ same. c.if-len-known.false (search rules) in
    let w = accepted-whole c.requires.accepted.0 c.args.body.now c.requires.accepted.1 in
    let new = ap recs_of c.behind-new.ensures ∙ behind c.self.inside.listing c.stage.new.self c.len-known.result c.args.imei (records_of c.args.body.now) c.len-known.ensures c.in_ok-receipt.ensures.added in
    subst MakesEntry (sym new) (makes-entry _ _ _ _ w c.requires.few (new-some c.self.inside.listing c.stage.new.self c.args.imei _ c.in_ok-receipt.ensures.added grown))

pub invariant_of-self-in-Ok : goal.invariant_of-self-in-Ok
invariant_of-self-in-Ok g c =
    let new = ap recs_of c.behind-new.ensures ∙ behind c.self.inside.listing c.stage.new.self c.len-known.result c.args.imei (records_of c.args.body.now) c.len-known.ensures c.in_ok-receipt.ensures.added in
    shelf-kept _ _ _ _ _ _ c.args.imei (records_of c.args.body.now) _ c.self.invariant c.if-self.false c.in_ok-receipt.ensures.added new c.in-Ok.ensures.entries c.in-Ok.ensures.durable c.in-Ok.ensures.counted.later

pub returns-in-Ok-clause-leaves : goal.returns-in-Ok-clause-leaves
returns-in-Ok-clause-leaves g c =
    let grown : length c.stage.new.self ≡ length c.self.inside.listing → ⊥ = λ same. c.if-len-known.false (search rules) in
    let new = ap recs_of c.behind-new.ensures ∙ behind c.self.inside.listing c.stage.new.self c.len-known.result c.args.imei (records_of c.args.body.now) c.len-known.ensures c.in_ok-receipt.ensures.added in
    let after = shelf-kept _ _ _ _ _ _ c.args.imei (records_of c.args.body.now) _ c.self.invariant c.if-self.false c.in_ok-receipt.ensures.added new c.in-Ok.ensures.entries c.in-Ok.ensures.durable c.in-Ok.ensures.counted.later in
    let P : ShelfView → Type 0 = λ v. Leaves v c.args.imei c.args.body.now (Ok c.in_ok-receipt.receipt)
    (record { medium = c.keep.new.journal.medium; list = c.stage.new.self; down = c.self.inside.down; opened = c.self.inside.opened }) in
    subst P c.self.view_is (leaves-kept _ _ _ _ c.args.imei c.args.body.now c.self.invariant c.if-self.false _ c.stage.new.self c.in_ok-receipt.receipt _ c.in_ok-receipt.ensures.added c.in_ok-receipt.ensures.places
    after new (calls-four _ (new-some c.self.inside.listing c.stage.new.self c.args.imei _ c.in_ok-receipt.ensures.added grown)) c.in-Ok.ensures.images (counted-as refl (λ e. absurd e) (λ e. cc) c.in-Ok.ensures.counted))

-- out of memory
pub invariant_of-self-in-Err-NoMemory : goal.invariant_of-self-in-Err-NoMemory
invariant_of-self-in-Err-NoMemory g c =
    let f = ap (λ (x : KeepFault). let r : Result (Unit {0}) KeepFault = Err x in r) c.in-Err-NoMemory.field-0-is in
    shelf-cut _ _ _ _ _ _ c.self.invariant (cut-is _ _ _ c.len-known.result c.args.imei (records_of c.args.body.now) c.len-known.ensures c.in_ok-receipt.ensures.added c.truncate.ensures) (c.in-Err-NoMemory.ensures.unreserved f)

pub returns-in-Err-NoMemory-clause-leaves : goal.returns-in-Err-NoMemory-clause-leaves
returns-in-Err-NoMemory-clause-leaves g c =
    let f = ap (λ (x : KeepFault). let r : Result (Unit {0}) KeepFault = Err x in r) c.in-Err-NoMemory.field-0-is in
    let same = cut-is c.self.inside.listing c.stage.new.self c.truncate.new.self c.len-known.result c.args.imei (records_of c.args.body.now) c.len-known.ensures c.in_ok-receipt.ensures.added c.truncate.ensures in
    let P : ShelfView → Type 0 = λ v. Leaves v c.args.imei c.args.body.now (Err NoMemory)
    (record { medium = c.keep.new.journal.medium; list = c.truncate.new.self; down = c.self.inside.down; opened = c.self.inside.opened }) in
    subst P c.self.view_is (leaves-none c.self.inside.journal _ _ _ c.args.imei c.args.body.now c.self.invariant c.if-self.false c.keep.new.journal _ same (c.in-Err-NoMemory.ensures.unreserved f))

-- the medium failed
pub returns-in-Err-MediumFault-clause-leaves : goal.returns-in-Err-MediumFault-clause-leaves
returns-in-Err-MediumFault-clause-leaves g c =
    let h = c.in-Err-MediumFault.ensures in
    let f = ap (λ (x : KeepFault). let r : Result (Unit {0}) KeepFault = Err x in r) c.in-Err-MediumFault.field-0-is in
    let grown : length c.stage.new.self ≡ length c.self.inside.listing → ⊥ = λ same. c.if-len-known.false (search rules) in
    let same = cut-is c.self.inside.listing c.stage.new.self _ c.len-known.result c.args.imei (records_of c.args.body.now) c.len-known.ensures c.in_ok-receipt.ensures.added c.truncate-in-Err-MediumFault.ensures in
    let new = ap recs_of c.behind-new.ensures ∙ behind c.self.inside.listing c.stage.new.self c.len-known.result c.args.imei (records_of c.args.body.now) c.len-known.ensures c.in_ok-receipt.ensures.added in
    let after = shelf-fell c.self.inside.journal c.keep.new.journal c.self.inside.listing c.truncate-in-Err-MediumFault.new.self _ _ c.self.invariant h.counted.later (h.counted.cause f) in
    let P : ShelfView → Type 0 = λ v. Leaves v c.args.imei c.args.body.now (Err (MediumFault c.faults-in-Err-MediumFault.result))
    (record { medium = c.keep.new.journal.medium; list = c.truncate-in-Err-MediumFault.new.self; down = true; opened = c.self.inside.opened }) in
    subst P c.self.view_is (leaves-fault _ _ _ _ c.args.imei c.args.body.now c.self.invariant c.if-self.false _ _ _ _ same after new
    (calls-four _ (new-some c.self.inside.listing c.stage.new.self c.args.imei _ c.in_ok-receipt.ensures.added grown)) c.faults-in-Err-MediumFault.ensures h.images
    (counted-as (ap (λ (x : KeepFault). keep_calls (Err x)) c.in-Err-MediumFault.field-0-is) (λ _. f) (λ _. tt) h.counted))
