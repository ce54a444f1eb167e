-- A `late` line's bytes.
use Rattle.std.proofs.Common.{◌≡◌, ◌<◌, ◌≤◌, ◌+◌, ◌-◌, ◌^◌, ℕ, Bool, true, false, List, length, take, drop, Option, Some, None, IsNone, is_none, is_some, refl, sym, ◌∙◌, ap, subst, arith}
use Rattle.std.proofs.lemmas.Bool.{true≢false, false≢true}
use Rattle.session_core.specs.declared.known.Known.{Known}
use Rattle.session_core.specs.Knowing.{knows}
use Rattle.session_core.specs.Sessions.{SessionState}
use Rattle.shelf.specs.Shelf.{ShelfView}
use Rattle.trial_model.specs.declared.outcome.ServerEnd.{ServerEnd}
use Rattle.trial_model.specs.declared.outcome.ServerEnd.TheVariants as Server
use Rattle.trial_model.specs.Connections.{plus, up_to}
use Rattle.trial_talks.specs.Rounds.{server_by}
use Rattle.trial_wire.specs.Connections.{Connection}
use Rattle.trial_wire.specs.Hearing.{Gives, HasTaken, rest_in}
use Rattle.trial_wire.specs.WireLinks.{Passes}
use Rattle.trial_wire.proofs.Passing.{gives-passes}
use Rattle.trial_loop.specs.Feeding.{FeedsOne, place_after, takes_more}

-- The bytes up to a place are those before it, and some more.

pub place-low : (bytes : Option ℕ) (given sent : ℕ) → given ≤ sent → given ≤ up_to (plus (Some given) bytes) sent
place-low None given sent low = low
place-low (Some more) given sent low = omega arith

pub place-within : (bytes : Option ℕ) (given sent : ℕ) → up_to (plus (Some given) bytes) sent ≤ sent
place-within None given sent = omega arith
place-within (Some more) given sent = omega arith

-- the piece that a session is given
pub fed-passes : (known : Known) (bytes : Option ℕ) (up xs : List ℕ) (given sent to n : ℕ) (before now : SessionState) (s t : ShelfView) (d e : List ℕ) (ended : Option ServerEnd)
    → xs ≡ up → sent ≡ length up → to ≡ up_to (plus (Some given) bytes) sent → given ≤ length up → HasTaken (take given up) before
    → n ≤ length (take (to - given) (drop given xs)) → (IsNone ended → n ≡ length (take (to - given) (drop given xs)))
    → ((b : List ℕ) → HasTaken b before → Gives (knows known) b (take (to - given) (drop given xs)) n now s t d e ended) → Passes known up given to now s t d e (given + n) ended
fed-passes known bytes up xs given sent to n before now s t d e ended same long place low has few all gives =
    subst (λ (ys : List ℕ). n ≤ length (take (to - given) (drop given ys)) → (IsNone ended → n ≡ length (take (to - given) (drop given ys)))
    → Gives (knows known) (take given up) (take (to - given) (drop given ys)) n now s t d e ended → Passes known up given to now s t d e (given + n) ended) (sym same)
    (gives-passes known up given to n now s t d e ended order within) few all (gives (take given up) has)
  where
    order : given ≤ to
    order = subst (λ (k : ℕ). given ≤ k) (sym (place ∙ ap (up_to (plus (Some given) bytes)) long)) (place-low bytes given (length up) low)

    within : to ≤ length up
    within = subst (λ (k : ℕ). k ≤ length up) (sym (place ∙ ap (up_to (plus (Some given) bytes)) long)) (place-within bytes given (length up))

-- a session that goes on has taken all of it
pub passed-taken : (known : Known) (up : List ℕ) (given to at : ℕ) (now : SessionState) (s t : ShelfView) (d e : List ℕ) (ended : Option ServerEnd) → is_some ended ≡ false
    → Passes known up given to now s t d e at ended → HasTaken (take to up) now
passed-taken known up given to at now s t d e None off p = subst (λ (place : ℕ). HasTaken (take place up) now) p.all p.taken
passed-taken known up given to at now s t d e (Some end) off p = absurd (true≢false off)

pub goes-on : {A : Type 0} (o : Option A) → is_some o ≡ false → true ≡ is_none o
goes-on None off = refl
goes-on (Some x) off = absurd (true≢false off)

pub is-over : {A : Type 0} (o : Option A) → is_some o ≡ true → false ≡ is_none o
is-over None on = absurd (false≢true on)
is-over (Some x) on = refl

takes-place : (known : Known) (bytes : Option ℕ) (w v : Connection) (now : SessionState) (s t : ShelfView) (down : List ℕ) (at : ℕ) (ended : Option ServerEnd) (server : ServerEnd) (going : Bool)
    → w.going ≡ true → w.log.imei < 10 ^ 15 → w.log.up_given < place_after w bytes → Passes known w.log.up w.log.up_given (place_after w bytes) now s t w.log.down down at ended
    → (ended ≡ Some Server.NoMemory → ⊥) → server ≡ server_by ended (length (rest_in (take at w.log.up))) → going ≡ is_none ended
    → v ≡ record { log = record w.log { up_given = place_after w bytes; down = down; server = server }; going = going } → FeedsOne known bytes w v s t
takes-place known bytes w v now s t down at ended server going on digits some p memory end goes is = takes_more on (record {
  digits = digits;
  some = some;
  now = now;
  down = down;
  at = at;
  ended = ended;
  passes = p;
  memory = memory;
  is = is ∙ (λ i. record { log = record w.log { up_given = place_after w bytes; down = p.writes i; server = end i }; going = goes i });
})

-- the connection after them
pub takes-more : (known : Known) (bytes : Option ℕ) (w v : Connection) (now : SessionState) (s t : ShelfView) (down : List ℕ) (at to : ℕ) (ended : Option ServerEnd) (server : ServerEnd) (going : Bool)
    → to ≡ place_after w bytes → w.going ≡ true → w.log.imei < 10 ^ 15 → w.log.up_given < to → Passes known w.log.up w.log.up_given to now s t w.log.down down at ended
    → (ended ≡ Some Server.NoMemory → ⊥) → server ≡ server_by ended (length (rest_in (take at w.log.up))) → going ≡ is_none ended
    → v ≡ record { log = record w.log { up_given = to; down = down; server = server }; going = going } → FeedsOne known bytes w v s t
takes-more known bytes w v now s t down at to ended server going place on digits some p memory end goes is =
    takes-place known bytes w v now s t down at ended server going on digits (subst (λ (k : ℕ). w.log.up_given < k) place some)
    (subst (λ (k : ℕ). Passes known w.log.up w.log.up_given k now s t w.log.down down at ended) place p) memory end goes
    (subst (λ (k : ℕ). v ≡ record { log = record w.log { up_given = k; down = down; server = server }; going = going }) place is)
