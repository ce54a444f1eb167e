use Rattle.std.proofs.Common.{◌≡◌, ℕ, ◌-◌, ◌<◌, min, Bool, ap, ◌∙◌, List, ◌++◌, [], refl, length, take, drop, arith, length-append, length-drop}
use Rattle.std.proofs.lemmas.List.{length-take-le}
use Rattle.session_core.specs.Knowing.{knows}
use Rattle.session_core.specs.Sessions.{talk_of, talk_with}
use Rattle.session_core.specs.Talks.{is_stranger}
use Rattle.session_core.specs.Works.{meaning, doing}
use Rattle.session_core.proofs.Going.{goes_none}
use Rattle.session_core.proofs.Piecing.{step_none, step_some}
use Rattle.session_core.proofs.Serving.{goes_read, goes_read_none, goes_piece, ends_piece, ends_at_end, read_end, read_size}
use Rattle.session_core.proofs.Taking.{never_stranger}
use Rattle.session_core.proofs.serve.serve_all.Goals as goal

pub loop-taken-init : goal.loop-taken-init
loop-taken-init g c = (
  [],
  record {
    size = refl;
    ready = c.requires.ready;
    goes = goes_none g.A.Admit.leaves (meaning g.O.Orders.gives g.O.Orders.asked g.O.Orders.told) (knows c.args.known.now) c.args.session.now.reader
        (doing (talk_of c.args.session.now c.args.orders.now) c.args.shelf.now (g.L.Link.state c.args.link.now) c.args.tally.now);
    few = omega arith;
    frames = omega (arith, c.requires.frames);
    records = omega (arith, c.requires.records);
    later = omega arith;
    follows = g.met.L.Link.follows_none c.args.link.now;
    buffer = refl;
  },
)

-- how many bytes a read was asked for, and has given at most
room_is : (room taken : ℕ) (buffer into : List ℕ) → room ≡ min (1073741824 - taken) 4096 → length buffer ≡ 4096 → length into ≡ length (take room buffer) → length into ≡ room
room_is room taken buffer into is size same = omega (arith, is, size, same, length-take-le room buffer (omega (arith, is, size)))

pub returns-then-n-eq0-clause-ends : goal.returns-then-n-eq0-clause-ends
returns-then-n-eq0-clause-ends g c =
    let m = meaning g.O.Orders.gives g.O.Orders.asked g.O.Orders.told in
    let bytes = c.loop-taken.invariant.0 in
    let i = c.loop-taken.invariant.1 in
    let start = doing (talk_of c.args.session.now c.args.orders.now) c.args.shelf.now (g.L.Link.state c.args.link.now) c.args.tally.now in
    let now = doing (talk_of c.loop-taken.session c.loop-taken.orders) c.loop-taken.shelf (g.L.Link.state c.read.new.self) c.loop-taken.tally in
    let below = c.loop-taken-test.true in
    let room = length-take-le c.min-room.result c.loop-taken.buffer (omega (arith, c.min-room.ensures, i.buffer)) in
    let pos : 0 < length (take c.min-room.result c.loop-taken.buffer) = omega (arith, room, c.min-room.ensures, below) in (
      bytes,
      omega (arith, i.size, i.few),
      ends_at_end g.A.Admit.leaves m (knows c.args.known.now) c.at_end.result bytes (g.L.Link.state c.read.new.self) c.args.session.now.reader c.loop-taken.session.reader c.loop-taken.session.reader.have c.have.result start now
          refl c.have.ensures.is c.at_end.ensures.none c.at_end.ensures.some
          (record {
            goes = goes_read_none g.A.Admit.leaves m (knows c.args.known.now) bytes c.read.new.into c.in-Ok.n c.args.session.now.reader c.loop-taken.session.reader start (talk_of c.loop-taken.session c.loop-taken.orders) c.loop-taken.shelf
                (g.L.Link.state c.loop-taken.link).told (g.L.Link.state c.read.new.self).told c.loop-taken.tally.frames c.loop-taken.tally.records c.if-n-eq0.true i.goes c.in-Ok.ensures.took;
            going = i.ready.going;
            welcome = (let e = i.ready.welcome in ap (λ (b : Bool). is_stranger (talk_with c.loop-taken.session.imei b c.loop-taken.orders)) e ∙ never_stranger c.loop-taken.session.imei c.loop-taken.orders);
          })
          (read_end (g.L.Link.state c.loop-taken.link) (g.L.Link.state c.read.new.self) c.in-Ok.n c.read.new.into c.if-n-eq0.true c.in-Ok.ensures.took (c.in-Ok.ensures.end pos) c.in-Ok.ensures.stays_ended)
          (omega (arith, i.size, below)),
    )

pub returns-in-Some-clause-ends : goal.returns-in-Some-clause-ends
returns-in-Some-clause-ends g c =
    let m = meaning g.O.Orders.gives g.O.Orders.asked g.O.Orders.told in
    let bytes = c.loop-taken.invariant.0 in
    let i = c.loop-taken.invariant.1 in
    let start = doing (talk_of c.args.session.now c.args.orders.now) c.args.shelf.now (g.L.Link.state c.args.link.now) c.args.tally.now in
    let read = doing (talk_of c.loop-taken.session c.loop-taken.orders) c.loop-taken.shelf (g.L.Link.state c.read.new.self) c.loop-taken.tally in
    let end = doing (talk_of c.take_piece.new.session c.take_piece.new.orders) c.take_piece.new.shelf (g.L.Link.state c.take_piece.new.link) c.take_piece.new.tally in
    let rest = drop c.min-room.result c.loop-taken.buffer in
    let piece = take c.in-Ok.n (c.read.new.into ++ rest) in
    let asked = room_is c.min-room.result c.loop-taken.taken c.loop-taken.buffer c.read.new.into c.min-room.ensures i.buffer c.read.auto.into in
    let size = read_size c.read.new.into rest c.in-Ok.n c.in-Ok.ensures.bound in
    let goes = goes_read g.A.Admit.leaves m (knows c.args.known.now) bytes c.read.new.into rest c.in-Ok.n c.args.session.now.reader c.loop-taken.session.reader start (talk_of c.loop-taken.session c.loop-taken.orders) c.loop-taken.shelf
    (g.L.Link.state c.loop-taken.link).told (g.L.Link.state c.read.new.self).told c.loop-taken.tally.frames c.loop-taken.tally.records c.in-Ok.ensures.bound i.goes c.in-Ok.ensures.took in (
      bytes ++ piece,
      omega (arith, i.size, i.few, size, asked, c.in-Ok.ensures.bound, c.min-room.ensures, length-append bytes piece),
      ends_piece g.A.Admit.leaves m (knows c.args.known.now) c.in-Some.end bytes piece (g.L.Link.state c.take_piece.new.link) c.args.session.now.reader c.loop-taken.session.reader c.take_piece.new.session.reader start read end goes
          (step_some g.A.Admit.leaves m (knows c.args.known.now) c.take_piece.result c.in-Some.end piece c.loop-taken.session c.take_piece.new.session read end c.in-Some.is c.take_piece.ensures.did),
    )

pub loop-taken-preserved : goal.loop-taken-preserved
loop-taken-preserved g c =
    let m = meaning g.O.Orders.gives g.O.Orders.asked g.O.Orders.told in
    let bytes = c.loop-taken.invariant.0 in
    let i = c.loop-taken.invariant.1 in
    let start = doing (talk_of c.args.session.now c.args.orders.now) c.args.shelf.now (g.L.Link.state c.args.link.now) c.args.tally.now in
    let read = doing (talk_of c.loop-taken.session c.loop-taken.orders) c.loop-taken.shelf (g.L.Link.state c.read.new.self) c.loop-taken.tally in
    let end = doing (talk_of c.take_piece.new.session c.take_piece.new.orders) c.take_piece.new.shelf (g.L.Link.state c.take_piece.new.link) c.take_piece.new.tally in
    let rest = drop c.min-room.result c.loop-taken.buffer in
    let piece = take c.in-Ok.n (c.read.new.into ++ rest) in
    let asked = room_is c.min-room.result c.loop-taken.taken c.loop-taken.buffer c.read.new.into c.min-room.ensures i.buffer c.read.auto.into in
    let size = read_size c.read.new.into rest c.in-Ok.n c.in-Ok.ensures.bound in
    let few = c.take_piece.ensures.few in
    let goes = goes_read g.A.Admit.leaves m (knows c.args.known.now) bytes c.read.new.into rest c.in-Ok.n c.args.session.now.reader c.loop-taken.session.reader start (talk_of c.loop-taken.session c.loop-taken.orders) c.loop-taken.shelf
    (g.L.Link.state c.loop-taken.link).told (g.L.Link.state c.read.new.self).told c.loop-taken.tally.frames c.loop-taken.tally.records c.in-Ok.ensures.bound i.goes c.in-Ok.ensures.took in
    let step = step_none g.A.Admit.leaves m (knows c.args.known.now) c.take_piece.result piece c.loop-taken.session c.take_piece.new.session read end c.in-None.is c.take_piece.ensures.did in (
      bytes ++ piece,
      record {
        size = omega (arith, i.size, size, length-append bytes piece);
        ready = step.0;
        goes = goes_piece g.A.Admit.leaves m (knows c.args.known.now) bytes piece c.args.session.now.reader c.loop-taken.session.reader c.take_piece.new.session.reader start read end goes step.1;
        few = omega (arith, i.few, asked, c.in-Ok.ensures.bound, c.min-room.ensures);
        frames = omega (arith, i.frames, few.0, size);
        records = omega (arith, i.records, few.1, size);
        later = omega (arith, i.later, c.in-Ok.ensures.cause.later, c.take_piece.ensures.later);
        follows = g.met.L.Link.follows_then _ _ _ (g.met.L.Link.follows_then _ _ _ i.follows c.in-Ok.ensures.follows) c.take_piece.ensures.follows;
        buffer = omega (arith, i.buffer, asked, c.min-room.ensures, length-append c.read.new.into rest, length-drop c.min-room.result c.loop-taken.buffer);
      },
    )
