use Rattle.std.proofs.Common.{◌≡◌, ◌+◌, ◌-◌, ◌++◌, ◌∷◌, [], length, Ok, Err, arith}
use Rattle.field_machine.proofs.Fields.{fits_in}
use Rattle.field_machine.proofs.MachineSteps.{still_missing, field_here, field_reads, field_small, field_broken, field_passed, come, nothing_goes_on, goes_on, taken_all, enters_here}
use Rattle.field_machine.proofs.machine.Machine.take.Goals as goal

pub returns-then-self-gt0-clause-answers : goal.returns-then-self-gt0-clause-answers
returns-then-self-gt0-clause-answers g c total rows bytes h =
    (still_missing g.C.Place.left_of g.C.Place.says g.C.Place.stands g.met.C.Place.leaves c.args.self.now total rows c.args.byte bytes h (omega arith) c.if-self-gt0.true).0

pub returns-then-self-gt0-clause-goes_on : goal.returns-then-self-gt0-clause-goes_on
returns-then-self-gt0-clause-goes_on g c total rows bytes h =
    (still_missing g.C.Place.left_of g.C.Place.says g.C.Place.stands g.met.C.Place.leaves c.args.self.now total rows c.args.byte bytes h (omega arith) c.if-self-gt0.true).1

pub next-requires : goal.next-requires
next-requires g c =
    let m = c.args.self.now in
    let r = c.requires in
    let h = r.has in
    let none : m.missing - 1 ≡ 0 = omega (arith, c.if-self-gt0.false) in
    let is = field_here g.C.Place.left_of g.C.Place.says g.C.Place.stands g.met.C.Place.leaves m r.total r.rows c.args.byte r.bytes h none in
    fits_in (g.C.Place.left_of m.cursor) (length (h.part ++ c.args.byte ∷ [])) _ is
    (field_small g.C.Place.left_of g.C.Place.says g.C.Place.stands g.met.C.Place.leaves m r.total r.rows c.args.byte r.bytes h (omega arith) none)

pub returns-in-Err-clause-answers : goal.returns-in-Err-clause-answers
returns-in-Err-clause-answers g c total rows bytes h =
    let m = c.args.self.now in
    let b = c.args.byte in
    let none : m.missing - 1 ≡ 0 = omega (arith, c.if-self-gt0.false) in
    let is = field_here g.C.Place.left_of g.C.Place.says g.C.Place.stands g.met.C.Place.leaves m total rows b bytes h none in
    let reads = field_reads g.C.Place.left_of g.C.Place.says g.C.Place.stands g.met.C.Place.leaves m total rows b bytes h (omega arith) none in
    field_broken g.C.Place.left_of g.C.Place.says g.C.Place.stands g.met.C.Place.leaves m total rows b bytes c.in-Err.kind h none (c.in-Err.ensures.follows h.here (h.part ++ b ∷ []) h.at is reads)

pub returns-in-Err-at_field-clause-answers : goal.returns-in-Err-at_field-clause-answers
returns-in-Err-at_field-clause-answers g c total rows bytes h =
    let m = c.args.self.now in
    let b = c.args.byte in
    let none : m.missing - 1 ≡ 0 = omega (arith, c.if-self-gt0.false) in
    let is = field_here g.C.Place.left_of g.C.Place.says g.C.Place.stands g.met.C.Place.leaves m total rows b bytes h none in
    let reads = field_reads g.C.Place.left_of g.C.Place.says g.C.Place.stands g.met.C.Place.leaves m total rows b bytes h (omega arith) none in
    let after = field_passed g.C.Place.left_of g.C.Place.says g.C.Place.stands g.met.C.Place.leaves m total rows b bytes c.in-Ok.next h none (c.in-Ok.ensures.follows h.here (h.part ++ b ∷ []) h.at is reads) in
    come g.C.Place.left_of g.C.Place.says g.C.Place.stands g.met.C.Place.leaves total (m.taken + 1) rows (bytes ++ b ∷ []) c.in-Ok.next c.in-Err-at_field.verdict after
    (enters_here g.C.Place.left_of g.C.Place.says g.C.Place.stands g.met.C.Place.leaves m.total total (m.taken + 1) c.in-Ok.next (Err c.in-Err-at_field.verdict) h.of_total c.in-Err-at_field.ensures)

pub returns-in-Err-at_field-clause-goes_on : goal.returns-in-Err-at_field-clause-goes_on
returns-in-Err-at_field-clause-goes_on g c total rows bytes h = nothing_goes_on g.C.Place.left_of g.C.Place.says g.C.Place.stands g.met.C.Place.leaves _ total rows _ c.in-Err-at_field.verdict c.in-Err-at_field.ensures.0

pub returns-in-Ok-at_field-clause-answers : goal.returns-in-Ok-at_field-clause-answers
returns-in-Ok-at_field-clause-answers g c total rows bytes h =
    let m = c.args.self.now in
    let b = c.args.byte in
    let none : m.missing - 1 ≡ 0 = omega (arith, c.if-self-gt0.false) in
    let is = field_here g.C.Place.left_of g.C.Place.says g.C.Place.stands g.met.C.Place.leaves m total rows b bytes h none in
    let reads = field_reads g.C.Place.left_of g.C.Place.says g.C.Place.stands g.met.C.Place.leaves m total rows b bytes h (omega arith) none in
    let after = field_passed g.C.Place.left_of g.C.Place.says g.C.Place.stands g.met.C.Place.leaves m total rows b bytes c.in-Ok.next h none (c.in-Ok.ensures.follows h.here (h.part ++ b ∷ []) h.at is reads) in
    (goes_on g.C.Place.left_of g.C.Place.says g.C.Place.stands g.met.C.Place.leaves c.in-Ok-at_field.machine total (m.taken + 1) rows (bytes ++ b ∷ []) c.in-Ok.next (taken_all g.C.Place.left_of g.C.Place.says g.C.Place.stands g.met.C.Place.leaves m total rows b bytes h) after
    (enters_here g.C.Place.left_of g.C.Place.says g.C.Place.stands g.met.C.Place.leaves m.total total (m.taken + 1) c.in-Ok.next (Ok c.in-Ok-at_field.machine) h.of_total c.in-Ok-at_field.ensures)).0

pub returns-in-Ok-at_field-clause-goes_on : goal.returns-in-Ok-at_field-clause-goes_on
returns-in-Ok-at_field-clause-goes_on g c total rows bytes h =
    let m = c.args.self.now in
    let b = c.args.byte in
    let none : m.missing - 1 ≡ 0 = omega (arith, c.if-self-gt0.false) in
    let is = field_here g.C.Place.left_of g.C.Place.says g.C.Place.stands g.met.C.Place.leaves m total rows b bytes h none in
    let reads = field_reads g.C.Place.left_of g.C.Place.says g.C.Place.stands g.met.C.Place.leaves m total rows b bytes h (omega arith) none in
    let after = field_passed g.C.Place.left_of g.C.Place.says g.C.Place.stands g.met.C.Place.leaves m total rows b bytes c.in-Ok.next h none (c.in-Ok.ensures.follows h.here (h.part ++ b ∷ []) h.at is reads) in
    (goes_on g.C.Place.left_of g.C.Place.says g.C.Place.stands g.met.C.Place.leaves c.in-Ok-at_field.machine total (m.taken + 1) rows (bytes ++ b ∷ []) c.in-Ok.next (taken_all g.C.Place.left_of g.C.Place.says g.C.Place.stands g.met.C.Place.leaves m total rows b bytes h) after
    (enters_here g.C.Place.left_of g.C.Place.says g.C.Place.stands g.met.C.Place.leaves m.total total (m.taken + 1) c.in-Ok.next (Ok c.in-Ok-at_field.machine) h.of_total c.in-Ok-at_field.ensures)).1
