use Rattle.std.proofs.Common.{◌≡◌, ◌+◌, ◌<◌, List, length, arith, sym, ap, ◌∙◌, subst, length-append}
use Rattle.desk.specs.declared.desk.Seat.{Seat}
use Rattle.desk.specs.Steps.{Place}
use Rattle.desk.specs.Desks.{AreNewSeats}
use Rattle.desk.proofs.Deal.{deal-next, deal-given, deal-last, seats-snoc}
use Rattle.desk.proofs.desk.Desk.hand_out.Goals as goal

pub loop-preserved : goal.loop-preserved
loop-preserved g c =
    let inv = c.loop.invariant in
    let at = inv.at in
    let test = c.loop-test.true in
    let more : length c.loop.places.items < c.args.seats = omega arith in
    let items = c.push_reserved.ensures.items in
    let long : length c.push_reserved.new.self.items ≡ length c.loop.places.items + 1 = ap length items ∙ length-append c.loop.places.items _ in
    let one = deal-given _ _ _ _ inv.dealing c.split-other.result.me more c.split-other.ensures.given in record {
      at = omega arith;
      table = c.split-other.ensures.table ∙ inv.table;
      room = (let same = c.push_reserved.ensures.capacity in let room = inv.room in omega arith);
      dealing = deal-next _ _ _ _ inv.dealing (length c.push_reserved.new.self.items) c.split-other.new.token.me long more c.split-other.ensures.kept;
      seats = subst (λ (l : List (Seat g.row.M.Denot g.M.Medium)). AreNewSeats c.args.self.now l) (sym items)
          (seats-snoc c.args.self.now c.loop.places.items _ inv.seats (record {
            of_desk = record { table = c.split-other.ensures.given_table ∙ inv.table; opening_is = ap (λ (p : Place). p.0.opening) one };
            own = ap (λ (p : Place). p.0.numbers) one;
            unseen = ap (λ (p : Place). p.0.seen) one;
          }));
    }

pub returns-clause-seats : goal.returns-clause-seats
returns-clause-seats g c =
    let inv = c.loop.invariant in
    let at = inv.at in
    let test = c.loop-test.false in
    let some = c.requires.some in
    let end = c.loop.auto.counter-end in
    let last : length c.loop.places.items + 1 ≡ c.args.seats = omega arith in
    let one = deal-last _ _ _ _ inv.dealing last in
    subst (λ (l : List (Seat g.row.M.Denot g.M.Medium)). AreNewSeats c.args.self.now l) (sym c.push_reserved-2.ensures.items)
    (seats-snoc c.args.self.now c.loop.places.items _ inv.seats (record {
      of_desk = record { table = inv.table; opening_is = ap (λ (p : Place). p.0.opening) one };
      own = ap (λ (p : Place). p.0.numbers) one;
      unseen = ap (λ (p : Place). p.0.seen) one;
    }))
