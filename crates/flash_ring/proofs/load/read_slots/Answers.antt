-- Each slot is read whole, as its bytes stand.
use Rattle.std.proofs.Common.{◌+◌, ◌∙◌, length, refl, arith, rules, ◌≡◌, ◌<◌}
use Rattle.std.proofs.lemmas.Bool.{false≢true}
use Rattle.medium_model.proofs.Images.{counted-then, counted-as}
use Rattle.flash_ring.proofs.Loads.{slot-read, short-read, never-short, read-more, read-bad, read-sound, read-whole}
use Rattle.flash_ring.proofs.load.read_slots.Goals as goal

pub returns-in_err-count-clause-counted : goal.returns-in_err-count-clause-counted
returns-in_err-count-clause-counted g c = record {
  calls = c.loop-slot.slot + 1;
  counted = counted-as refl (λ _. refl) (λ _. search rules) (counted-then c.loop-slot.invariant.counted c.in_err-count.ensures.counted);
}

pub returns-then-is_short-clause-counted : goal.returns-then-is_short-clause-counted
returns-then-is_short-clause-counted g c = record {
  calls = c.loop-slot.slot + 1;
  counted = counted-as refl (λ e. cc) (λ e. absurd (false≢true e)) (counted-then c.loop-slot.invariant.counted c.in_ok-count.ensures.counted);
}

pub returns-then-is_short-clause-refused : goal.returns-then-is_short-clause-refused
returns-then-is_short-clause-refused g c =
    let low : c.loop-slot.slot < length c.args.slots.now = (let same = c.loop-slot.auto.slots in omega arith) in
    never-short _ (length c.args.slots.now) _
    (short-read _ _ (length c.args.slots.now) c.loop-slot.slot c.in_ok-count.count c.loop-slot.invariant.content low (c.is_short.ensures.short c.if-is_short.true) c.in_ok-count.ensures.count)

pub returns-in-Err-clause-counted : goal.returns-in-Err-clause-counted
returns-in-Err-clause-counted g c = record {
  calls = c.loop-slot.slot + 1;
  counted = counted-as refl (λ e. cc) (λ e. absurd (false≢true e)) (counted-then c.loop-slot.invariant.counted c.in_ok-count.ensures.counted);
}

pub returns-in-Err-clause-refused : goal.returns-in-Err-clause-refused
returns-in-Err-clause-refused g c =
    let inv = c.loop-slot.invariant in
    let whole : c.in_ok-count.count ≡ 272 = (let size = c.read.auto.into in omega (arith, c.in_ok-count.ensures.bound, c.is_short.ensures.whole c.if-is_short.false)) in
    read-bad (length c.args.slots.now) c.loop-slot.slot _ c.loop-slot.slots (omega arith) c.loop-slot.auto.slots _ inv.has_read
    (slot-read _ _ c.loop-slot.slot c.in_ok-count.count c.read.new.into inv.content whole c.in_ok-count.ensures.bytes) c.in-Err.ensures.unsound

pub loop-slot-preserved : goal.loop-slot-preserved
loop-slot-preserved g c =
    let inv = c.loop-slot.invariant in
    let whole : c.in_ok-count.count ≡ 272 = (let size = c.read.auto.into in omega (arith, c.in_ok-count.ensures.bound, c.is_short.ensures.whole c.if-is_short.false)) in
    record {
      counted = counted-then inv.counted (counted-as refl (λ f. absurd f) false≢true c.in_ok-count.ensures.counted);
      content = c.in_ok-count.ensures.content ∙ inv.content;
      has_read = read-more (length c.args.slots.now) c.loop-slot.slot _ c.loop-slot.slots (omega arith) c.loop-slot.auto.slots _ inv.has_read
          (slot-read _ _ c.loop-slot.slot c.in_ok-count.count c.read.new.into inv.content whole c.in_ok-count.ensures.bytes) _ c.in-Ok.ensures.holds c.in-Ok.ensures.sound;
    }

pub returns-clause-sound : goal.returns-clause-sound
returns-clause-sound g c = read-sound _ c.loop-slot.slots c.loop-slot.slot (let same = c.loop-slot.auto.slots in omega arith) c.loop-slot.invariant.has_read

pub returns-clause-holds : goal.returns-clause-holds
returns-clause-holds g c = read-whole _ c.loop-slot.slots (length c.args.slots.now) c.loop-slot.slot c.loop-slot.auto.slots (omega arith) c.loop-slot.invariant.has_read
