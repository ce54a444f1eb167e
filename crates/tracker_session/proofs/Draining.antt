-- How many batches a round has sent and may still send.
use Rattle.std.proofs.Common.{◌≡◌, ◌⊎◌, inl, inr, ℕ, ◌+◌, ◌<◌, ◌≤◌, ◌==◌, if◌then◌else◌, true, false, List, [], ◌∷◌, length, Option, Ok, Err, Result, refl, sym, ap, subst, ◌∙◌, arith, length-append}
use Rattle.std.proofs.lemmas.Bool.{false≢true}
use Rattle.std.proofs.lemmas.Bool.Decides.{nat_tests}
use Rattle.avl_values.specs.declared.errors.MediumFault.{MediumFault}
use Rattle.avl_values.specs.declared.order.Order.{Order}
use Rattle.item_streams.specs.Streams.{values}
use Rattle.links.specs.Links.{Traffic}
use Rattle.frame_layout.specs.Values.{DownValue, answer, count, order}
use Rattle.flash_ring.specs.Entries.{held_of, selected}
use Rattle.flash_ring.specs.Held.{Held}
use Rattle.flash_ring.specs.Ring.{RingView}
use Rattle.tracker_session.specs.Responses.{ShellMeaning}
use Rattle.tracker_session.specs.RingRounds.{IsDrained}
use Rattle.tracker_session.specs.RoundStates.{AllFit, Fits, Round, RoundState, accepts, after, counts, next, one_less, sends, slots_now, starts}
use Rattle.tracker_session.specs.Rounds.{Ends, IsRound, Stops, cut, empty, talked}
use Rattle.tracker_session.specs.Turns.{batch_now}
use Rattle.tracker_session.specs.declared.round_end.RoundEnd.{RoundEnd}
use Rattle.tracker_session.specs.declared.round_end.RoundEnd.TheVariants as end

-- a batch that is outstanding
abbrev pub one_if : List ℕ → ℕ
one_if [] = 0
one_if (k ∷ ks) = 1

one-some : (ks : List ℕ) → 0 < length ks → one_if ks ≡ 1
one-some [] some = absurd (omega arith)
one-some (k ∷ ks) some = refl

takes-one : (left : ℕ) (o : Order) (slots : List (Option Held)) → one_if (batch_now left o slots) + one_less (batch_now left o slots) left ≡ left
takes-one left o slots = elim (left == 0) as (λ b. (left == 0) ≡ b → one_if (if b then [] else selected o 1265 slots) + one_less (if b then [] else selected o 1265 slots) left ≡ left) [
  | true ↦ λ e. omega arith
  | false ↦ λ e. some (selected o 1265 slots) (grind (arith, nat_tests))
] refl
  where
    some : (ks : List ℕ) → 0 < left → one_if ks + one_less ks left ≡ left
    some [] low = omega arith
    some (k ∷ ks) low = omega arith

module _ {S : Type 0} (m : ShellMeaning S) (r : Round S) where
  -- Batches that were counted, one that is outstanding, and those that may still be sent are as many as could be. Each had a record.
  pub record AddsUp (d : RoundState S) : Type 0 where
    pub all : d.frames + one_if d.batch + d.left ≡ r.most
    pub some : d.frames ≤ length d.closed
    pub fresh : d.accepted ≡ false → d.batch ≡ []

  adds-sends : (d : RoundState S) → d.accepted ≡ true → d.frames + d.left ≡ r.most → d.frames ≤ length d.closed → AddsUp (sends m r d)
  adds-sends d accepted all some = record {
    all = (let one = takes-one d.left r.sends (slots_now m r d) in omega arith);
    some = some;
    fresh = λ fresh. absurd (false≢true (sym fresh ∙ accepted));
  }

  pub adds-next : (d : RoundState S) (v : DownValue) → Fits m r d v → AddsUp d → AddsUp (next m r d v)
  adds-next d (answer b) fits a =
      let none : one_if d.batch ≡ 0 = ap one_if (a.fresh fits.0) in
      let all = a.all in
      adds-sends (accepts m r d) refl (omega arith) a.some
  adds-next d (count n) fits a =
      let one = one-some d.batch fits.1 in
      let all = a.all in
      let some = a.some in
      let low = fits.1 in
      adds-sends (counts m r d) fits.0 (omega arith) (omega (arith, length-append d.closed d.batch))
  adds-next d (order body) fits a = record { all = a.all; some = a.some; fresh = a.fresh }

  pub adds-after : (d : RoundState S) (vs : List DownValue) → AllFit m r d vs → AddsUp d → AddsUp (after m r d vs)
  adds-after d [] fit a = a
  adds-after d (v ∷ vs) fit a = adds-after (next m r d v) vs fit.1 (adds-next d v fit.0 a)

  pub adds-starts : AddsUp (starts r)
  adds-starts = record { all = omega arith; some = omega arith; fresh = λ _. refl }

  -- Where a round ends as done its state says what was sent.
  pub record DoneAt (n : ℕ) (d : RoundState S) (new : RingView) : Type 0 where
    pub records : n ≡ length d.closed
    pub batches : d.frames ≤ length d.closed
    pub drained : (d.frames ≡ r.most) ⊎ (held_of new.slots ≡ [])

  done-at : (n : ℕ) (d : RoundState S) (new : RingView) → AddsUp d → d.batch ≡ [] → n ≡ length d.closed → ((d.left ≡ 0) ⊎ (held_of new.slots ≡ [])) → DoneAt n d new
  done-at n d new a none is why = record {
    records = is;
    batches = a.some;
    drained = elim why as (λ _. (d.frames ≡ r.most) ⊎ (held_of new.slots ≡ [])) [
      | inl spent ↦ inl (let all = a.all in let no = ap one_if none in omega arith)
      | inr none_held ↦ inr none_held
    ];
  }

  module _ (rose : Type 0) where
    stops-done : (n : ℕ) (taken : List ℕ) (d : RoundState S) (old new : RingView) (t : S) (x y : Option Traffic) → Stops m r rose (Ok (end.Done n)) taken d old new t x y → DoneAt n d new
    stops-done n taken d old new t x y s =
        let e = after m r (starts r) (values s.items) in
        let a = adds-next e s.last.value s.stops.0 (adds-after (starts r) (values s.items) s.fits adds-starts) in
        let P : RoundState S → Type 0 = λ k. DoneAt n k new in
        subst P (sym s.state) (done-at n (next m r e s.last.value) new a s.stops.2 s.stops.3 s.stops.4)

    pub round-done : (n : ℕ) (d : RoundState S) (old new : RingView) (t : S) (x y : Option Traffic) (result : Result RoundEnd MediumFault) → result ≡ Ok (end.Done n) → IsRound m r rose d old new t x y result → DoneAt n d new
    round-done n d old new t x y result is (empty none at same shell told) = absurd (let e : ◌≡◌ {A = Result RoundEnd MediumFault} (Ok end.Empty) (Ok (end.Done n)) = is in cc)
    round-done n d old new t x y result is (cut at same shell part up) = absurd (let e : ◌≡◌ {A = Result RoundEnd MediumFault} (Ok end.Broken) (Ok (end.Done n)) = is in cc)
    round-done n d old new t x y result is (talked same taken z login known ends) =
        let P : Result RoundEnd MediumFault → Type 0 = λ e. Ends m r rose e taken d old new t z y in
        stops-done n taken d old new t z y (subst P is ends)

    pub is-drained : (result : Result RoundEnd MediumFault) (d : RoundState S) (old new : RingView) (t : S) (x y : Option Traffic) → IsRound m r rose d old new t x y result → IsDrained result r.most d.frames new
    is-drained (Ok (end.Done n)) d old new t x y is = (round-done n d old new t x y (Ok (end.Done n)) refl is).drained
    is-drained (Ok end.Empty) d old new t x y is = tt
    is-drained (Ok end.Refused) d old new t x y is = tt
    is-drained (Ok end.Broken) d old new t x y is = tt
    is-drained (Ok (end.WrongAnswer g)) d old new t x y is = tt
    is-drained (Ok end.TooManyCommands) d old new t x y is = tt
    is-drained (Err failed) d old new t x y is = tt

    pub done-drained : (n : ℕ) (d : RoundState S) (old new : RingView) (t : S) (x y : Option Traffic) (result : Result RoundEnd MediumFault) → result ≡ Ok (end.Done n) → IsRound m r rose d old new t x y result → (r.most ≤ n) ⊎ (held_of new.slots ≡ [])
    done-drained n d old new t x y result is goes =
        let done = round-done n d old new t x y result is goes in
        let records = done.records in
        let batches = done.batches in
        elim done.drained as (λ _. (r.most ≤ n) ⊎ (held_of new.slots ≡ [])) [ inl all ↦ inl (omega arith) | inr none_held ↦ inr none_held ]
