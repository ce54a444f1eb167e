-- A turn of a round: what a reaction needs, and that less is left after it.
use Rattle.std.proofs.Common.{◌≡◌, ℕ, ◌+◌, ◌<◌, ◌≤◌, ◌^◌, nat_lt, List, [], ◌++◌, length, take, Option, Some, None, IfNone, refl, ap, ◌∙◌, arith, length-append}
use Rattle.std.proofs.lemmas.Bool.{ltb-true}
use Rattle.std.proofs.lemmas.List.{length-take-le}
use Rattle.links.specs.Links.{Traffic}
use Rattle.frame_layout.proofs.Lengths.{short_down_few}
use Rattle.flash_ring.specs.Entries.{held_of}
use Rattle.flash_ring.specs.Held.{Held}
use Rattle.flash_ring.specs.Ring.{RingView}
use Rattle.flash_ring.proofs.HeldRecords.{length-held_of_closed}
use Rattle.tracker_session.specs.declared.heard.Heard.{Heard}
use Rattle.tracker_session.specs.declared.heard.Heard.TheVariants as heard
use Rattle.tracker_session.specs.declared.heard.Hearing.TheVariants as hearing
use Rattle.tracker_session.specs.declared.round.Progress.{Progress}
use Rattle.tracker_session.specs.Hearing.{HearsSome, Releases}
use Rattle.tracker_session.specs.Responses.{ShellMeaning}
use Rattle.tracker_session.specs.Trackers.{IsTracker, TrackerView}
use Rattle.tracker_session.specs.Turns.{CanReact, Ending, IsReady, Lessens, Reacts, SendsBatch, budget, records_left}

-- a batch that was released was held
held-released : (v : TrackerView) (w : RingView) → IsTracker v → Releases v.batch v.ring w → length (held_of w.slots) + length v.batch ≡ length (held_of v.ring.slots)
held-released v w is released =
    ap (λ (s : List (Option Held)). length (held_of s) + length v.batch) (ap (λ (r : RingView). r.slots) released.is) ∙ length-held_of_closed v.batch v.ring.slots is.opens is.distinct

module _ {S : Type 0} (m : ShellMeaning S) (v u : TrackerView) (piece : List ℕ) (n : ℕ) (s t : S) (p : Progress) (ready : IsReady v) where
  pub can-react : (h : Heard) (out : List ℕ) → HearsSome m (nat_lt p.orders 16) v u piece n (hearing.Done h) s t out → records_left v p < 2 ^ 32 → CanReact h u p
  can-react heard.More out hears few = tt
  can-react heard.Accepted out hears few =
      let f = hears.0.steps.2 in
      (ap (λ (x : TrackerView). x.talking) f.2 ∙ ready.talking, ap (λ (x : TrackerView). x.answered) f.2, ap (λ (x : TrackerView). x.batch) f.2 ∙ (ready.known.talk ready.talking).accepted f.1)
  can-react heard.Refused out hears few = tt
  can-react (heard.Released k) out hears few =
      let f = hears.0.steps.2 in
      let held = held-released v u.ring ready.known f.5 in
      (ap (λ (x : TrackerView). x.talking) f.4 ∙ ready.talking, ap (λ (x : TrackerView). x.answered) f.4 ∙ f.1, ap (λ (x : TrackerView). x.batch) f.4, (let k_is = f.3 in omega arith))
  can-react heard.Answer out hears few = ltb-true p.orders 16 (hears.1 refl)
  can-react (heard.Wrong g) out hears few = tt
  can-react heard.MediumFault out hears few = tt

  -- a batch that went out leaves one less to send
  sent-less : (w : TrackerView) (q r : Progress) (x y : Option Traffic) → SendsBatch None u w r q x y → u.have ≡ [] → r.left ≡ p.left → r.orders ≡ p.orders → p.orders ≤ 16 → budget w q < budget v p
  sent-less w q r x y sends none left orders few =
      let have : length w.have ≡ 0 = ap (λ (z : TrackerView). length z.have) sends.1 ∙ ap length none in
      let left_is = sends.2 in
      let orders_are = sends.3 in
      omega arith

  pub lessens : (h : Heard) (result : Ending) (w : TrackerView) (out sent : List ℕ) (q : Progress) (x y : Option Traffic) → HearsSome m (nat_lt p.orders 16) v u piece n (hearing.Done h) s t out → Reacts (hearing.Done h) result u w sent p q x y
      → 0 < n → p.orders ≤ 16 → IfNone result (Lessens v w p q)
  lessens h (Some e) w out sent q x y hears reacts some few = tt
  lessens heard.More None w out sent q x y hears reacts some few =
      let steps = hears.0.steps in
      let all = v.have ++ take n piece in
      let view : w ≡ record v { have = all } = reacts.view ∙ steps.1 in
      let size = length-append v.have (take n piece) in
      let took = length-take-le n piece hears.0.within_piece in
      let short = short_down_few v.answered all steps.0 in
      let have : length w.have ≡ length all = ap (λ (z : TrackerView). length z.have) view in
      let left : q.left ≡ p.left = ap (λ (z : Progress). z.left) reacts.progress in
      let orders : q.orders ≡ p.orders = ap (λ (z : Progress). z.orders) reacts.progress in
      let done : q.done ≡ p.done = ap (λ (z : Progress). z.done) reacts.progress in
      let held : length (held_of w.ring.slots) ≡ length (held_of v.ring.slots) = ap (λ (z : TrackerView). length (held_of z.ring.slots)) view in
      record { budget = omega arith; orders = omega arith; records = omega arith }
  lessens heard.Accepted None w out sent q x y hears reacts some few =
      let f = hears.0.steps.2 in
      let orders = reacts.3 in
      let done = reacts.4 in
      let held : length (held_of w.ring.slots) ≡ length (held_of v.ring.slots) = ap (λ (z : TrackerView). length (held_of z.ring.slots)) (reacts.1) ∙ ap (λ (z : TrackerView). length (held_of z.ring.slots)) f.2 in
      record { budget = sent-less w q p x y reacts (ap (λ (z : TrackerView). z.have) f.2) refl refl few; orders = omega arith; records = omega arith }
  lessens heard.Refused None w out sent q x y hears reacts some few = absurd reacts
  lessens (heard.Released k) None w out sent q x y hears reacts some few =
      let f = hears.0.steps.2 in
      let orders = reacts.3 in
      let done = reacts.4 in
      let k_is = f.3 in
      let ring : length (held_of w.ring.slots) ≡ length (held_of u.ring.slots) = ap (λ (z : TrackerView). length (held_of z.ring.slots)) reacts.1 in
      let held = held-released v u.ring ready.known f.5 in
      record { budget = sent-less w q (record p { done = p.done + k }) x y reacts (ap (λ (z : TrackerView). z.have) f.4) refl refl few; orders = omega arith; records = omega arith }
  lessens heard.Answer None w out sent q x y hears reacts some few =
      let f = hears.0.steps.2 in
      let low = ltb-true p.orders 16 (hears.1 refl) in
      let left : q.left ≡ p.left = ap (λ (z : Progress). z.left) reacts.0.0 in
      let orders : q.orders ≡ p.orders + 1 = ap (λ (z : Progress). z.orders) reacts.0.0 in
      let done : q.done ≡ p.done = ap (λ (z : Progress). z.done) reacts.0.0 in
      let view : w ≡ record v { have = [] } = reacts.1 ∙ f.3 in
      let have : length w.have ≡ 0 = ap (λ (z : TrackerView). length z.have) view in
      let held : length (held_of w.ring.slots) ≡ length (held_of v.ring.slots) = ap (λ (z : TrackerView). length (held_of z.ring.slots)) view in
      record { budget = omega arith; orders = omega arith; records = omega arith }
  lessens (heard.Wrong g) None w out sent q x y hears reacts some few = absurd reacts
  lessens heard.MediumFault None w out sent q x y hears reacts some few = absurd reacts
