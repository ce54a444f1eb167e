-- A connection: nothing where nothing is held, a login cut off, or a talk.
use Rattle.std.proofs.Common.{◌≡◌, ℕ, List, [], ◌∷◌, length, Option, Ok, Result, refl, sym, ap, subst, ◌∙◌, arith}
use Rattle.avl_values.specs.declared.errors.MediumFault.{MediumFault}
use Rattle.avl_values.specs.Record.{Record}
use Rattle.layout.specs.Bytes.{AreBytes}
use Rattle.links.specs.Links.{Moves, Traffic, WritesPart}
use Rattle.frame_layout.specs.Items.{IsLogin}
use Rattle.flash_ring.specs.Entries.{held_of}
use Rattle.flash_ring.specs.Ring.{RingView}
use Rattle.tracker_session.specs.Responses.{ShellMeaning}
use Rattle.tracker_session.specs.RoundStates.{Round, RoundState, round_by, round_of, starts}
use Rattle.tracker_session.specs.Rounds.{Ends, IsRound, empty, cut, talked}
use Rattle.tracker_session.specs.Trackers.{TrackerView, dialed, silent}
use Rattle.tracker_session.specs.declared.round.Progress.{Progress}
use Rattle.tracker_session.specs.declared.round_end.RoundEnd.{RoundEnd}
use Rattle.tracker_session.specs.declared.round_end.RoundEnd.TheVariants as end

no-records : (rs : List Record) → length rs ≡ 0 → rs ≡ []
no-records [] none = refl
no-records (r ∷ rs) none = absurd (omega arith)

module _ {S : Type 0} (m : ShellMeaning S) (v : TrackerView) (most : ℕ) (s : S) (rose : Type 0) where
  pub round-empty : (w : TrackerView) (ring : RingView) (n : ℕ) (x : Option Traffic) → w ≡ silent v → ring ≡ w.ring → n ≡ length (held_of ring.slots) → n ≡ 0 → IsRound m (round_by v most s) rose (starts (round_by v most s)) v.ring w.ring s x x (Ok end.Empty)
  round-empty w ring n x is same count none =
      let old : w.ring ≡ v.ring = ap (λ (z : TrackerView). z.ring) is in
      let size : length (held_of ring.slots) ≡ 0 = sym count ∙ none in
      empty (ap (λ (z : RingView). held_of z.slots) (sym (same ∙ old)) ∙ no-records (held_of ring.slots) size) refl old refl refl

  pub round-cut : (u w : TrackerView) (login : List ℕ) (x y : Option Traffic) → u ≡ dialed (silent v) → w ≡ silent u → IsLogin v.imei login → WritesPart login x y → rose → IsRound m (round_by v most s) rose (starts (round_by v most s)) v.ring w.ring s x y (Ok end.Broken)
  round-cut u w login x y is over log part up =
      let P : List ℕ → Type 0 = λ b. WritesPart b x y in
      cut refl (ap (λ (z : TrackerView). z.ring) over ∙ ap (λ (z : TrackerView). z.ring) is) refl (subst P log.is part) up

  pub round-talked : (u t w : TrackerView) (p : Progress) (login taken : List ℕ) (d : RoundState S) (result : Result RoundEnd MediumFault) (shell : S) (x y z : Option Traffic) → u ≡ dialed (silent v) → w ≡ silent t → p.left ≡ most → IsLogin v.imei login → Moves [] login x y
      → AreBytes taken → Ends m (round_of u p s) rose result taken d u.ring t.ring shell y z → IsRound m (round_by v most s) rose d v.ring w.ring shell x z result
  round-talked u t w p login taken d result shell x y z is over left log whole known ends =
      let P : List ℕ → Type 0 = λ b. Moves [] b x y in
      let Q : Round S × RingView × RingView → Type 0 = λ k. Ends m k.0 rose result taken d k.1 k.2 shell y z in
      let of : TrackerView × ℕ → Round S = λ k. record { imei = k.0.imei; sends = k.0.order; slots = k.0.ring.slots; most = k.1; shell = s } in
      talked result taken y (subst P log.is whole) known
      (subst Q (λ i. (ap of (λ j. (is j, left j)) i, ap (λ (k : TrackerView). k.ring) is i, ap (λ (k : TrackerView). k.ring) (sym over) i)) ends)
