use Rattle.std.proofs.Common.{◌++◌, refl, ap, subst, sym, suc, ◌∙◌, arith}
use Rattle.layout.specs.Fields.{number}
use Rattle.field_machine.proofs.Parts.{follows_here}
use Rattle.frame_layout.specs.Logins.{digit_rows, login_rows}
use Rattle.record_codecs.specs.BodyCursor as packet
use Rattle.datagrams.specs.BodyRows.{said_rows}
use Rattle.datagrams.specs.DatagramRows.{after_numbers, any_number, body_rows}
use Rattle.datagrams.specs.Places.{StandsAt, left_of}
use Rattle.datagrams.specs.declared.place.DatagramPlace.{DatagramPlace}
use Rattle.datagrams.proofs.PlaceSteps.{any_on, body_after, body_rule}
use Rattle.datagrams.proofs.place.DatagramPlaceCursor.next.Goals as goal

pub returns-in-Length-clause-follows : goal.returns-in-Length-clause-follows
returns-in-Length-clause-follows c here field stand width reads =
    let is = subst (λ (p : DatagramPlace). StandsAt p here) c.in-Length.is stand in
    follows_here StandsAt (left_of c.args.self) 2 c.args.value _ here field c.length.result (omega arith) is (ap left_of c.in-Length.is) width reads c.length.ensures.follows

pub returns-in-Packet-clause-follows : goal.returns-in-Packet-clause-follows
returns-in-Packet-clause-follows c here field stand width reads =
    let on = any_on 2 (λ p. any_number 1 (λ u. any_number 1 (λ a. after_numbers p u a))) here field (subst (λ (p : DatagramPlace). StandsAt p here) c.in-Packet.is stand) in
    (on.0, (number field, on.1))

pub returns-in-Unused-clause-follows : goal.returns-in-Unused-clause-follows
returns-in-Unused-clause-follows c here field stand width reads =
    let (p, is) = subst (λ (q : DatagramPlace). StandsAt q here) c.in-Unused.is stand in
    let on = any_on 1 (λ u. any_number 1 (λ a. after_numbers p u a)) here field is in
    (on.0, (p, number field, on.1))

pub returns-in-AvlPacket-clause-follows : goal.returns-in-AvlPacket-clause-follows
returns-in-AvlPacket-clause-follows c here field stand width reads =
    let (p, u, is) = subst (λ (q : DatagramPlace). StandsAt q here) c.in-AvlPacket.is stand in
    let on = any_on 1 (λ a. after_numbers p u a) here field is in
    (on.0, (λ imei body. record { packet = p; unused = u; avl_packet = number field; imei = imei; body = body }, on.1))

pub returns-in-ImeiLength-clause-follows : goal.returns-in-ImeiLength-clause-follows
returns-in-ImeiLength-clause-follows c here field stand width reads =
    let (says, is) = subst (λ (p : DatagramPlace). StandsAt p here) c.in-ImeiLength.is stand in
    follows_here StandsAt (left_of c.args.self) 2 c.args.value (login_rows (λ imei. body_rows (says imei))) here field c.imei_length.result (omega arith) is (ap left_of c.in-ImeiLength.is) width reads
    (λ f n. c.imei_length.ensures.follows f says n)

pub returns-in-Digit-clause-follows : goal.returns-in-Digit-clause-follows
returns-in-Digit-clause-follows c here field stand width reads =
    let (says, n, is) = subst (λ (p : DatagramPlace). StandsAt p here) c.in-Digit.is stand in
    follows_here StandsAt (left_of c.args.self) 1 c.args.value (digit_rows (suc c.in-Digit.left) n (λ imei. body_rows (says imei))) here field c.digit.result (omega arith) is (ap left_of c.in-Digit.is) width reads
    (λ f e. c.digit.ensures.follows f says n e)

pub returns-in-Ok-clause-follows : goal.returns-in-Ok-clause-follows
returns-in-Ok-clause-follows c here field stand width reads =
    let place = c.in-Body.place in
    let (says, seen, is) = subst (λ (p : DatagramPlace). StandsAt p here) c.in-Body.is stand in
    let at = ap left_of (sym c.in-Body.is) ∙ width in
    let f = c.in-Ok.ensures.follows (packet.rows_at place) field refl at reads in
    (body_rule place says seen field here is at ∙ f.0, (says, seen ++ field, body_after place says seen field here is at ∙ ap (said_rows says (seen ++ field)) f.1))

pub returns-in-Err-clause-follows : goal.returns-in-Err-clause-follows
returns-in-Err-clause-follows c here field stand width reads =
    let place = c.in-Body.place in
    let (says, seen, is) = subst (λ (p : DatagramPlace). StandsAt p here) c.in-Body.is stand in
    let at = ap left_of (sym c.in-Body.is) ∙ width in
    body_rule place says seen field here is at ∙ c.in-Err.ensures.follows (packet.rows_at place) field refl at reads
