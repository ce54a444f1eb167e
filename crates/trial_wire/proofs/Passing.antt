-- A wire's calls, of its state.
use Rattle.std.proofs.Common.{◌≡◌, ◌≤◌, ◌+◌, ◌-◌, ℕ, true, false, List, [], ◌++◌, length, take, drop, Option, Some, None, Result, Ok, Err, IfNone, IsNone, OnOk, OnErr, is_err, refl, sym, ◌∙◌, ap, subst, append-nil, take-add, take_at, take-take, length-take-le, length-drop, arith}
use Rattle.std.proofs.lemmas.Bool.{false≢true, true≢false}
use Rattle.std.proofs.lemmas.List.{take-append-le}
use Rattle.links.specs.Going.{same_traffic}
use Rattle.links.specs.Links.{Traffic, with_more}
use Rattle.session_core.specs.declared.known.Known.{Known}
use Rattle.session_core.specs.Knowing.{knows}
use Rattle.session_core.specs.Sessions.{SessionState}
use Rattle.shelf.specs.Shelf.{ShelfView}
use Rattle.trial_model.specs.declared.outcome.ServerEnd.{ServerEnd}
use Rattle.trial_model.specs.Connections.{up_to}
use Rattle.trial_wire.specs.Hearing.{Gives, HasTaken, Hears, Stands, items_in}
use Rattle.trial_wire.specs.WireLinks.{Follows, IsWire, Passes, WireState, new_wire}
use Rattle.trial_wire.proofs.Giving.{new-taken}

pub up_to-least : (limit : Option ℕ) (n : ℕ) → up_to limit n ≤ n
up_to-least None n = omega arith
up_to-least (Some m) n = omega arith

-- before the first byte
pub wire-new : (w : WireState) (shelf : ShelfView) (known : Known) (limit most : Option ℕ) → w ≡ new_wire shelf known limit most → IsWire w
wire-new w shelf known limit most is = subst IsWire (sym is) (record {
  given = omega arith;
  all = sym (none limit);
  taken = new-taken;
  heard = omega arith;
})
  where
    none : (o : Option ℕ) → up_to o 0 ≡ 0
    none None = refl
    none (Some k) = omega arith

-- A read of the device, of which nothing but the place moves.

pub read-follows : (a : WireState) (n : ℕ) → Follows a (record a { heard = a.heard + n })
read-follows a n = record {
  known = refl;
  limit = refl;
  most = refl;
  sent = [];
  up = sym (append-nil a.up);
  taken = take n (drop a.heard a.down);
  takes = take-add a.heard n a.down;
  faults = omega arith;
  keeps = λ old start h. h;
}

pub read-took : (heard n : ℕ) (up down copied rest : List ℕ) → copied ≡ take n (drop heard down) → n ≤ length (drop heard down)
    → Some (let t : Traffic = record { taken = take (heard + n) down; written = up } in t) ≡ Some (with_more (take n (copied ++ rest)) [] (record { taken = take heard down; written = up }))
read-took heard n up down copied rest is low =
    let size : length copied ≡ n = ap length is ∙ length-take-le n (drop heard down) low in
    same_traffic (take (heard + n) down) up (take heard down ++ take n (copied ++ rest)) (up ++ [])
    (take-add heard n down ∙ ap (λ l. take heard down ++ l) (sym is ∙ sym (take_at copied rest n size))) (sym (append-nil up))

-- Writes of the device.

-- without memory
pub failed-follows : (a : WireState) (up : List ℕ) (faults : ℕ) → up ≡ a.up → a.faults ≤ faults → Follows a (record a { up = up; faults = faults })
failed-follows a up faults same more = record {
  known = refl;
  limit = refl;
  most = refl;
  sent = [];
  up = same ∙ sym (append-nil a.up);
  taken = [];
  takes = sym (append-nil (take a.heard a.down));
  faults = more;
  keeps = λ old start h. subst (λ u. Stands (knows a.known) old start (take a.given u) a.down a.shelf a.ended) (sym same) h;
}

-- to a session that ended
pub sent-follows : (a : WireState) (up sent : List ℕ) → up ≡ a.up ++ sent → a.given ≤ length a.up → Follows a (record a { up = up })
sent-follows a up sent is low = record {
  known = refl;
  limit = refl;
  most = refl;
  sent = sent;
  up = is;
  taken = [];
  takes = sym (append-nil (take a.heard a.down));
  faults = omega arith;
  keeps = λ old start h. subst (λ bytes. Stands (knows a.known) old start bytes a.down a.shelf a.ended) (sym (ap (take a.given) is ∙ take-append-le a.given a.up sent low)) h;
}

-- to a session that goes on
pub passed-follows : (a : WireState) (up sent : List ℕ) (at to : ℕ) (now : SessionState) (t : ShelfView) (down : List ℕ) (ended : Option ServerEnd) → up ≡ a.up ++ sent → a.given ≤ length a.up → a.heard ≤ length a.down → a.ended ≡ None
    → Passes a.known up a.given to now a.shelf t a.down down at ended → Follows a (record a { up = up; given = at; down = down; shelf = t; session = now; ended = ended })
passed-follows a up sent at to now t down ended is low heard on p = record {
  known = refl;
  limit = refl;
  most = refl;
  sent = sent;
  up = is;
  taken = [];
  takes = ap (take a.heard) p.writes ∙ (take-append-le a.heard a.down p.wrote heard ∙ sym (append-nil (take a.heard a.down)));
  faults = omega arith;
  keeps = λ old start h.
      let before : Hears (knows a.known) old start (items_in (take a.given a.up)) a.down a.shelf = subst (λ e. Stands (knows a.known) old start (take a.given a.up) a.down a.shelf e) on h in
      p.stands old start (subst (λ bytes. Hears (knows a.known) old start (items_in bytes) a.down a.shelf) (sym (ap (take a.given) is ∙ take-append-le a.given a.up sent low)) before);
}

-- The bytes between two places, as a piece.
pub gives-passes : (known : Known) (up : List ℕ) (given to n : ℕ) (now : SessionState) (s t : ShelfView) (d e : List ℕ) (ended : Option ServerEnd) → given ≤ to → to ≤ length up
    → n ≤ length (take (to - given) (drop given up)) → (IsNone ended → n ≡ length (take (to - given) (drop given up)))
    → Gives (knows known) (take given up) (take (to - given) (drop given up)) n now s t d e ended → Passes known up given to now s t d e (given + n) ended
gives-passes known up given to n now s t d e ended order size few all g =
    let piece = take (to - given) (drop given up) in
    let long : length piece ≡ to - given = length-take-le (to - given) (drop given up) (omega (arith, length-drop given up)) in
    let bytes : take given up ++ take n piece ≡ take (given + n) up = ap (λ l. take given up ++ l) (take-take n (to - given) (drop given up) (omega arith)) ∙ sym (take-add given n up) in
    record {
      after = omega arith;
      within = omega arith;
      all = all-then ended (λ none. let q = all none in omega arith);
      wrote = g.wrote;
      writes = g.writes;
      taken = subst (λ b. IfNone ended (HasTaken b now)) bytes g.taken;
      stands = λ old start h. subst (λ b. Stands (knows known) old start b e t ended) bytes (g.stands old start h);
    }
  where
    all-then : (o : Option ServerEnd) → (IsNone o → given + n ≡ to) → IfNone o (given + n ≡ to)
    all-then None h = h refl
    all-then (Some x) h = tt

pub on-ok : {T E : Type 0} → (r : Result T E) (P : Type 0) → is_err r ≡ false → OnOk r P → P
on-ok (Ok done) P e is = is
on-ok (Err found) P e is = absurd (true≢false e)

pub on-err : {T E : Type 0} → (r : Result T E) (P : Type 0) → is_err r ≡ true → OnErr r P → P
on-err (Ok done) P e is = absurd (false≢true e)
on-err (Err found) P e is = is
