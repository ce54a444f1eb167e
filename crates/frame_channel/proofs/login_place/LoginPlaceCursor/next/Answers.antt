use Rattle.std.proofs.Common.{arith, ap, subst, suc}
use Rattle.layout.specs.Rows.{done}
use Rattle.field_machine.proofs.Parts.{follows_here, no_turn}
use Rattle.frame_layout.specs.Logins.{digit_rows}
use Rattle.frame_channel.specs.LoginPlaces.{StandsInLogin, imei_rows, login_left, login_turns}
use Rattle.frame_channel.specs.declared.login_place.LoginPlace.{LoginPlace}
use Rattle.frame_channel.proofs.login_place.LoginPlaceCursor.next.Goals as goal

pub returns-in-Length-clause-follows : goal.returns-in-Length-clause-follows
returns-in-Length-clause-follows c here field stand width reads =
    follows_here StandsInLogin (login_left c.args.self) 2 c.args.value imei_rows here field c.length.result (omega arith) (subst (λ (p : LoginPlace). StandsInLogin p here) c.in-Length.is stand) (ap login_left c.in-Length.is) width reads c.length.ensures

pub returns-in-Length-clause-turns : goal.returns-in-Length-clause-turns
returns-in-Length-clause-turns c = no_turn login_left c.args.self c.length.result login_turns

pub returns-in-Digit-clause-follows : goal.returns-in-Digit-clause-follows
returns-in-Digit-clause-follows c here field stand width reads =
    let s = subst (λ (p : LoginPlace). StandsInLogin p here) c.in-Digit.is stand in
    follows_here StandsInLogin (login_left c.args.self) 1 c.args.value (digit_rows (suc c.in-Digit.left) c.in-Digit.number (λ n. done n)) here field c.digit.result (omega arith) s.0 (ap login_left c.in-Digit.is) width reads
    (λ f is. c.digit.ensures f is s.1)

pub returns-in-Digit-clause-turns : goal.returns-in-Digit-clause-turns
returns-in-Digit-clause-turns c = no_turn login_left c.args.self c.digit.result login_turns
