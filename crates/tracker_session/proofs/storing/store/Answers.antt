-- Room is made, and then the record is put.
use Rattle.std.proofs.Common.{Bool, Ok, Err, IsErrOf, ap, refl, sym, subst}
use Rattle.flash_ring.specs.declared.ring.PutFault.{PutFault}
use Rattle.flash_ring.specs.declared.ring.PutFault.TheVariants as fault
use Rattle.std.proofs.lemmas.Bool.{false≢true}
use Rattle.avl_values.specs.Viewed.{record_of}
use Rattle.tracker_session.specs.Keeping.{Keeps}
use Rattle.tracker_session.proofs.KeepSteps.{has-room, keeps-no_room, keeps-not_put, keeps-put}
use Rattle.tracker_session.proofs.storing.store.Goals as goal

pub returns-in_err-make_room : goal.returns-in_err-make_room
returns-in_err-make_room g c =
    let was = c.in_err-make_room.ensures in
    let P : Bool → Type 0 = λ failed. Keeps (record_of c.args.rec.now) failed c.args.ring.now c.make_room.new.self in
    subst P (sym c.from_residual.ensures.0) (keeps-no_room c.args.ring.now c.make_room.new.self (record_of c.args.rec.now) _ (c.is_down-durable.ensures.durable c.requires.up) refl was.failed was.images was.counted)

pub returns-in-Ok : goal.returns-in-Ok
returns-in-Ok g c =
    let was = c.in_ok-make_room.ensures in
    let room = has-room c.args.ring.now c.make_room.new.self _ was.room was.has_room false≢true was.counted in
    let put = c.in-Ok.ensures in
    keeps-put c.args.ring.now c.make_room.new.self c.put.new.self (record_of c.args.rec.now) (IsErrOf {T = Unit {0}} {E = PutFault} (Ok c.in-Ok.field-0) fault.MediumFault) (c.is_down-durable.ensures.durable c.requires.up) c.requires.unspent room (λ (e : IsErrOf {T = Unit {0}} {E = PutFault} (Ok c.in-Ok.field-0) fault.MediumFault). absurd cc) put.stored put.next put.durable put.images put.counted

pub returns-in-Err-MediumFault : goal.returns-in-Err-MediumFault
returns-in-Err-MediumFault g c =
    let was = c.in_ok-make_room.ensures in
    let room = has-room c.args.ring.now c.make_room.new.self _ was.room was.has_room false≢true was.counted in
    let put = c.in-Err-MediumFault.ensures in
    let is : IsErrOf {T = Unit {0}} {E = PutFault} (Err c.in-Err-MediumFault.field-0) fault.MediumFault = ap (λ (e : PutFault). Err e) c.in-Err-MediumFault.field-0-is in
    keeps-not_put c.args.ring.now c.make_room.new.self c.put.new.self (record_of c.args.rec.now) _ (c.is_down-durable.ensures.durable c.requires.up) c.requires.unspent room is (put.failed is) put.images put.counted
