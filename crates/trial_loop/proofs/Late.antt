-- A `late` line, for all connections and the archive.
use Rattle.std.proofs.Common.{◌≡◌, ◌<◌, ◌≤◌, ◌^◌, ℕ, zero, suc, Bool, true, false, List, [], ◌∷◌, length, set, slice_get, take, Option, Some, None, is_none, refl, sym, ◌∙◌, ap, subst, arith}
use Rattle.session_core.specs.Knowing.{knows}
use Rattle.shelf.specs.Shelf.{ShelfView}
use Rattle.trial_model.specs.declared.script.ScriptLine.{ScriptLine}
use Rattle.trial_model.specs.Connections.{ConnectionHistory, connections_of, plus, up_to}
use Rattle.trial_model.specs.Script.{Device, Script, devices_of, lines_of}
use Rattle.trial_server.specs.Serving.{armed}
use Rattle.trial_talks.proofs.Late.{late-fed, late-place}
use Rattle.trial_talks.proofs.Starting.{nothing-fed}
use Rattle.trial_talks.specs.Rounds.{server_by}
use Rattle.trial_wire.specs.Connections.{Connection, IsConnectionSound, IsFed, fed}
use Rattle.trial_wire.specs.Hearing.{rest_in}
use Rattle.trial_play.specs.ServerLines.{EndsLine, FeedsLate, PlaysLate, gives, gives_nothing}
use Rattle.trial_play.specs.Trials.{IsSoundBy, TrialState, cover_by, earlier_by, known_by, logs_of}
use Rattle.trial_play.proofs.Places.{get-beside, same-at, some-same}
use Rattle.trial_loop.specs.Feeding.{FeedsNumber, FeedsOne, TakesMore, feeds, has_all, is_over, no_such, place_after, takes_more}
use Rattle.trial_loop.specs.Loops.{IsNext, LoopState}

set-same : {A : Type 0} (xs : List A) (n : ℕ) (x : A) → slice_get xs n ≡ Some x → set xs n x ≡ xs
set-same [] n x at = refl
set-same (y ∷ ys) zero x at = ap (λ z. z ∷ ys) (sym (some-same y x at))
set-same (y ∷ ys) (suc n) x at = ap (λ zs. y ∷ zs) (set-same ys n x at)

one-number : (a b n : ℕ) → n ≡ suc a → n ≡ suc b → a ≡ b
one-number a b n p q = omega (arith, p, q)

module _ (script : Script) (n : ℕ) (l : ScriptLine) (s : LoopState) (next : IsNext script n l s) where
  abbrev devices : List Device
  devices = devices_of (lines_of script)

  abbrev lines : List ScriptLine
  lines = take n (lines_of script)

  -- what the session of each connection was given is of what was sent
  pub within : (k : ℕ) (w : Connection) → slice_get s.trial.connections k ≡ Some w → w.log.up_given ≤ length w.log.up
  within k w at =
      let h = get-beside s.trial.connections (connections_of lines) k w next.sound.server.connections.as_many at in
      (next.sound.server.connections.each k h.0 w h.1 at).heard.within

  module _ (k : ℕ) (w v : Connection) (at : slice_get s.trial.connections k ≡ Some w) (h : ConnectionHistory) (at_h : slice_get (connections_of lines) k ≡ Some h) (bytes : Option ℕ) (a t : ShelfView) (up : a.down ≡ false) where
    sound : IsSoundBy devices lines (logs_of s.trial.connections) k h w
    sound = next.sound.server.connections.each k h w at_h at

    known : known_by devices h ≡ knows s.known w.log.imei
    known = sym (ap (λ (i : ℕ). knows s.known i) sound.log.imei ∙ next.known h.opening.imei)

    sound-known : IsConnectionSound lines (logs_of s.trial.connections) (knows s.known w.log.imei) (cover_by h) (earlier_by devices (logs_of s.trial.connections) h) k h w
    sound-known = subst (λ b. IsConnectionSound lines (logs_of s.trial.connections) b (cover_by h) (earlier_by devices (logs_of s.trial.connections) h) k h w) known sound

    place : place_after w bytes ≡ up_to (plus h.allowed bytes) (length w.log.up)
    place = sym (late-place h.allowed bytes (length w.log.up) w.log.up_given sound.log.up)

    fed-more : w.going ≡ true → (m : TakesMore s.known bytes w v a t)
        → (failed : Bool) × IsFed (known_by devices h) failed (place_after w bytes) w.log m.passes.wrote (server_by m.ended (length (rest_in (take m.at w.log.up)))) (is_none m.ended) a t
    fed-more on m =
        let most : place_after w bytes ≤ length w.log.up = up-most (plus (Some w.log.up_given) bytes) (length w.log.up) in
        let made = late-fed lines (logs_of s.trial.connections) s.known (cover_by h) (earlier_by devices (logs_of s.trial.connections) h) k h w sound-known on m.digits a t up
        (place_after w bytes) m.some most m.now m.down m.at m.ended m.passes m.memory in
        (made.0, subst (λ b. IsFed b made.0 (place_after w bytes) w.log m.passes.wrote (server_by m.ended (length (rest_in (take m.at w.log.up)))) (is_none m.ended) a t) (sym known) made.1)
      where
        up-most : (o : Option ℕ) (m : ℕ) → up_to o m ≤ m
        up-most None m = omega arith
        up-most (Some x) m = omega arith

    feeds-one : (number : ℕ) → number ≡ suc k → FeedsOne s.known bytes w v a t → FeedsLate devices number bytes (connections_of lines) s.trial.connections (set s.trial.connections k v) a t
    feeds-one number is one = elim one as (λ _. FeedsLate devices number bytes (connections_of lines) s.trial.connections (set s.trial.connections k v) a t) [
      | is_over off same still ↦
          gives_nothing
          (λ j x is_j at_x. subst (λ (y : Connection). y.going ≡ false) (same-at s.trial.connections k w x at (subst (λ (i : ℕ). slice_get s.trial.connections i ≡ Some x) (one-number j k number is_j is) at_x)) off)
          (ap (λ (y : Connection). set s.trial.connections k y) same ∙ set-same s.trial.connections k w at) still
      | has_all on all same still ↦ (
          let nothing = nothing-fed lines (logs_of s.trial.connections) (known_by devices h) (cover_by h) (earlier_by devices (logs_of s.trial.connections) h) k h w sound on a in
          let w_is : record { log = fed w.log w.log.up_given [] w.log.server; going = true } ≡ w = whole on in
          gives k h w false w.log.up_given [] w.log.server true is at_h at on (all ∙ place) (subst (λ (z : ShelfView). IsFed (known_by devices h) false w.log.up_given w.log [] w.log.server true a z) (sym still) nothing)
          (ap (λ (y : Connection). set s.trial.connections k y) (same ∙ sym w_is)))
      | takes_more on m ↦ (
          let made = fed-more on m in
          gives k h w made.0 (place_after w bytes) m.passes.wrote (server_by m.ended (length (rest_in (take m.at w.log.up)))) (is_none m.ended) is at_h at on place made.1
          (ap (λ (y : Connection). set s.trial.connections k y) m.is))
    ]
      where
        whole : w.going ≡ true → record { log = fed w.log w.log.up_given [] w.log.server; going = true } ≡ w
        whole on = λ i. record { log = record w.log { down = Rattle.std.proofs.Common.append-nil w.log.down i }; going = sym on i }

  feeds-late : (number : ℕ) (bytes : Option ℕ) (new : List Connection) (a t : ShelfView) → a.down ≡ false → FeedsNumber s.known number bytes s.trial.connections new a t
      → FeedsLate devices number bytes (connections_of lines) s.trial.connections new a t
  feeds-late number bytes new a t up f = elim f as (λ _. FeedsLate devices number bytes (connections_of lines) s.trial.connections new a t) [
    | no_such past same still ↦
        gives_nothing (λ j x is_j at_x. absurd (let low = Rattle.std.proofs.lemmas.Option.slice_get_within s.trial.connections j x at_x in omega (arith, low, past j is_j))) same still
    | feeds k w v is at one same ↦ (
        let h = get-beside s.trial.connections (connections_of lines) k w next.sound.server.connections.as_many at in
        subst (λ (z : List Connection). FeedsLate devices number bytes (connections_of lines) s.trial.connections z a t) (sym same) (feeds-one k w v at h.0 h.1 bytes a t up number is one))
  ]

  armed-up : (fuse : Option ℕ) (v : ShelfView) → v.down ≡ false → (armed fuse v).down ≡ false
  armed-up None v up = up
  armed-up (Some k) v up = up

  pub plays-late : (number : ℕ) (bytes : Option ℕ) (between : List Connection) (t : ShelfView) (new : TrialState) → FeedsNumber s.known number bytes s.trial.connections between (armed s.trial.fuse s.trial.shelf) t
      → EndsLine s.trial.fuse between new.connections t new.shelf → new.fuse ≡ None → PlaysLate devices lines number bytes s.trial new
  plays-late number bytes between t new f ends fuse = record {
    between = between;
    shelf = t;
    feeds = feeds-late number bytes between (armed s.trial.fuse s.trial.shelf) t (armed-up s.trial.fuse s.trial.shelf next.sound.server.up) f;
    ends = ends;
    fuse = fuse;
  }
