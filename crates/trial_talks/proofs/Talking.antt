-- What a round over right answers says of its connection's log.
use Rattle.std.proofs.Common.{◌≡◌, ◌≤◌, ◌<◌, ◌⊎◌, inl, inr, ℕ, ◌+◌, ◌-◌, ◌/◌, Bool, true, false, List, [], ◌∷◌, length, take, take_all, Option, Some, None, Result, Ok, Err, IsErr, refl, sym, ◌∙◌, ap, subst, arith, length-append, length-take-le, take_at, sum}
use Rattle.std.specs.List.{All, flat_map}
use Rattle.std.proofs.lemmas.Bool.{cases_lt, false≢true}
use Rattle.std.proofs.lemmas.List.Elements.{All-from_recursion}
use Rattle.avl_values.specs.Record.{Record}
use Rattle.avl_values.specs.declared.errors.MediumFault.{MediumFault}
use Rattle.frame_layout.specs.Items.{frame_of, login_of}
use Rattle.medium_model.specs.CallsLeft.{CallsLeft, Fails, Passes}
use Rattle.flash_ring.specs.Ring.{RingView}
use Rattle.tracker_session.specs.RingRounds.{RoundsRing}
use Rattle.tracker_session.specs.Sending.{AreSentBodies, stream_up}
use Rattle.tracker_session.specs.Talks.{AreDecided, IsRightEnd, counts_by, records_by}
use Rattle.tracker_session.specs.declared.round_end.RoundEnd.{RoundEnd}
use Rattle.tracker_session.specs.declared.round_end.RoundEnd.TheVariants as end
use Rattle.trial_device.specs.SideLines.{end_of}
use Rattle.trial_model.specs.declared.outcome.ConnectionOutcome.{ConnectionOutcome}
use Rattle.trial_model.specs.declared.outcome.DeviceEnd.{DeviceEnd}
use Rattle.trial_model.specs.declared.outcome.DeviceEnd.TheVariants as End
use Rattle.trial_model.specs.Answers.{HasDeviceEnd, IsDone, LacksAnswer, release_cost}
use Rattle.trial_model.specs.Cover.{IsBelow}
use Rattle.trial_model.specs.Delivery.{heard_bytes, heard_of}
use Rattle.trial_model.specs.Frames.{Frame, Stream, frames_of, login_size, records_in, stream_of}
use Rattle.trial_model.specs.Logs.{HasFewFrames, IsSent, IsWholeStream}
use Rattle.trial_model.specs.RecordLists.{AreIn}
use Rattle.trial_server.specs.Serving.{left_by}
use Rattle.trial_wire.specs.Connections.{HasFrame}
use Rattle.trial_wire.proofs.Reading.{frames_at, login-length, stream-frames}
use Rattle.trial_talks.proofs.Answering.{right-accepted, right-ahead, right-count, right-within}
use Rattle.trial_talks.proofs.Bodies.{frames-decided, frames-few, frames-length, frames-records, frames-sent, frames-some, frames-take}

-- A round's calls of its medium: it ends with a fault just where the cover has fewer.

module _ (result : Result RoundEnd MediumFault) (heard : ℕ) (released : List Record) (old new : RingView) (ring : RoundsRing result heard released old new) (cover : Option ℕ) (left : old.medium.left ≡ left_by cover) where
  fails-below : (cover : Option ℕ) → (Passes (heard + length released) (left_by cover) → new.down ≡ true → ⊥) → new.down ≡ true → IsBelow cover (heard + length released)
  fails-below None passes down = absurd (passes tt down)
  fails-below (Some k) passes down = elim (cases_lt k (heard + length released)) as (λ _. k < heard + length released) [
    | inl less ↦ less
    | inr enough ↦ absurd (passes enough down)
  ]

  below-fails : (cover : Option ℕ) → (Fails (heard + length released) (left_by cover) → new.down ≡ true) → IsBelow cover (heard + length released) → new.down ≡ true
  below-fails None fails below = absurd below
  below-fails (Some k) fails below = fails below

  pub err-below : IsErr result → IsBelow cover (heard + length released)
  err-below err = fails-below cover (subst (λ (l : CallsLeft). Passes (heard + length released) l → new.down ≡ true → ⊥) left ring.counted.passes) (ring.down.0 err)

  pub below-err : IsBelow cover (heard + length released) → IsErr result
  below-err below = ring.down.1 (below-fails cover (subst (λ (l : CallsLeft). Fails (heard + length released) l → new.down ≡ true) left ring.counted.fails) below)

-- The log of a connection, whose device heard right answers.
module _ (result : Result RoundEnd MediumFault) (earlier listed : List Record) (bodies : List (List ℕ)) (heard : ℕ) (c : ConnectionOutcome) (are : AreSentBodies bodies) (up_is : c.up ≡ stream_up c.imei bodies)
    (low : c.down_given ≤ length c.down) (ends : IsRightEnd result (heard_bytes c) bodies heard) where
  frames-are : frames_of c.up ≡ frames_at login_size bodies
  frames-are = ap (λ u. frames_of u) up_is ∙ frames-sent c.imei bodies are

  frames-size : length (frames_of c.up) ≡ length bodies
  frames-size = ap length frames-are ∙ frames-length login_size bodies

  heard-size : length (heard_bytes c) ≡ c.down_given
  heard-size = length-take-le c.down_given c.down low

  heard-is : heard ≡ (c.down_given - 1) / 4
  heard-is = sym (right-count result (heard_bytes c) bodies heard ends) ∙ ap (λ (n : ℕ). (n - 1) / 4) heard-size

  -- the frames that were heard are those of the counted batches
  pub talk-heard : heard_of c ≡ frames_at login_size (take heard bodies)
  talk-heard = ap (λ (n : ℕ). take n (frames_of c.up)) (sym heard-is) ∙ (ap (take heard) frames-are ∙ frames-take heard login_size bodies)

  pub talk-count : heard ≡ length (heard_of c)
  talk-count = sym (ap length talk-heard ∙ (frames-length login_size (take heard bodies) ∙ length-take-le heard bodies (right-within result (heard_bytes c) bodies heard ends)))

  pub talk-records : records_by (take heard bodies) ≡ records_in (heard_of c)
  talk-records = sym (ap records_in talk-heard ∙ frames-records login_size (take heard bodies))

  up-some : 1 ≤ length c.up
  up-some = omega (arith, ap length up_is, length-append (login_of c.imei) (flat_map frame_of bodies), login-length c.imei)

  -- the bytes up
  pub talk-stream : AreIn earlier listed → AreDecided listed bodies → IsWholeStream earlier c
  talk-stream wide decided = record {
    login = ap (take 17) up_is ∙ take_at (login_of c.imei) (flat_map frame_of bodies) 17 (login-length c.imei);
    whole = ap (λ u. (stream_of u).rest) up_is ∙ ap (λ (s : Stream). s.rest) (stream-frames c.imei bodies are);
    some = subst (All (λ (f : Frame). 1 ≤ length f.records)) (sym frames-are) (All-from_recursion (λ (f : Frame). 1 ≤ length f.records) (frames_at login_size bodies) (frames-some login_size bodies are));
    few = subst (All (λ (f : Frame). length f.records ≤ 255)) (sym frames-are) (All-from_recursion (λ (f : Frame). length f.records ≤ 255) (frames_at login_size bodies) (frames-few login_size bodies are));
    decided = subst (All (λ (f : Frame). AreIn earlier f.records)) (sym frames-are) (All-from_recursion (λ (f : Frame). AreIn earlier f.records) (frames_at login_size bodies) (frames-decided earlier listed login_size bodies wide decided));
    accepted = λ some. right-accepted result (heard_bytes c) bodies heard ends (omega (arith, some, frames-size));
    heard = omega (arith, frames-size, talk-count, right-ahead result (heard_bytes c) bodies heard ends);
  }

  sent-by : (r : Result RoundEnd MediumFault) → IsRightEnd r (heard_bytes c) bodies heard → IsWholeStream earlier c → IsSent (end_of r) earlier c
  sent-by (Ok (end.Done n)) e s = s
  sent-by (Ok end.Empty) e s = absurd e
  sent-by (Ok end.Refused) e s = s
  sent-by (Ok end.Broken) e s = s
  sent-by (Ok (end.WrongAnswer got)) e s = absurd e
  sent-by (Ok end.TooManyCommands) e s = absurd e
  sent-by (Err failed) e s = s

  pub talk-sent : c.device ≡ end_of result → AreIn earlier listed → AreDecided listed bodies → IsSent c.device earlier c
  talk-sent device wide decided = subst (λ (d : DeviceEnd). IsSent d earlier c) (sym device) (sent-by result ends (talk-stream wide decided))

  pub talk-few : (drains : Bool) → (drains ≡ false → length bodies ≤ 1) → HasFewFrames drains c
  talk-few true few = tt
  talk-few false few = let one = few refl in omega (arith, one, frames-size)

  frame-by : (r : Result RoundEnd MediumFault) → IsRightEnd r (heard_bytes c) bodies heard → HasFrame (end_of r) c
  frame-by (Ok (end.Done n)) e = omega (arith, e.2, frames-size)
  frame-by (Ok end.Empty) e = absurd e
  frame-by (Ok end.Refused) e = tt
  frame-by (Ok end.Broken) e = tt
  frame-by (Ok (end.WrongAnswer got)) e = absurd e
  frame-by (Ok end.TooManyCommands) e = absurd e
  frame-by (Err failed) e = tt

  pub talk-frame : c.device ≡ end_of result → HasFrame c.device c
  talk-frame device = subst (λ (d : DeviceEnd). HasFrame d c) (sym device) (frame-by result ends)

  -- The device's end, by cases.

  cost-is : heard + length (records_by (take heard bodies)) ≡ release_cost c
  cost-is = omega (arith, talk-count, ap length talk-records)

  zero-one : (xs : List ℕ) → take 1 xs ≡ 0 ∷ [] → take 1 xs ≡ 1 ∷ [] → ⊥
  zero-one xs p q = let zeros = ap sum p in let ones = ap sum q in omega (arith, zeros, ones)

  one-first : (rest : List ℕ) → heard_bytes c ≡ 1 ∷ rest → take 1 (heard_bytes c) ≡ 1 ∷ []
  one-first rest is = ap (take 1) is

  all-heard : heard ≡ length bodies → heard_of c ≡ frames_of c.up
  all-heard all = talk-heard ∙ (ap (frames_at login_size) (take_all heard bodies (omega (arith, all))) ∙ sym frames-are)

  -- a round that heard all lacks no answer
  never-lacks : heard_bytes c ≡ 1 ∷ counts_by bodies → heard ≡ length bodies → LacksAnswer c → ⊥
  never-lacks is all lacks = elim lacks.1 as (λ _. ⊥) [
    | inl none ↦ (let size = ap length (sym is ∙ none) in omega (arith, size))
    | inr less ↦ (let few = less.1 in omega (arith, few, frames-size, talk-count, all))
  ]

  -- and one that was refused
  refused-lacks : heard_bytes c ≡ 0 ∷ [] → LacksAnswer c → ⊥
  refused-lacks is lacks = elim lacks.1 as (λ _. ⊥) [
    | inl none ↦ (let size = ap length (sym is ∙ none) in omega (arith, size))
    | inr less ↦ zero-one (heard_bytes c) (ap (take 1) is) less.0
  ]

  never-empty : c.up ≡ [] → ⊥
  never-empty none = omega (arith, up-some, ap length none)

  device-by : (cover : Option ℕ) (r : Result RoundEnd MediumFault) → c.device ≡ end_of r → IsRightEnd r (heard_bytes c) bodies heard → (IsErr r → IsBelow cover (release_cost c)) → (IsBelow cover (release_cost c) → IsErr r) → HasDeviceEnd cover c
  device-by cover (Ok (end.Done n)) is e err below = record {
    empty = (λ d. absurd (let q : ◌≡◌ {A = DeviceEnd} (End.Done n) End.Empty = sym is ∙ d in cc), λ none. absurd (never-empty none));
    refused = (λ d. absurd (let q : ◌≡◌ {A = DeviceEnd} (End.Done n) End.Refused = sym is ∙ d in cc), λ zero_first. absurd (zero-one (heard_bytes c) zero_first (one-first (counts_by bodies) e.0)));
    medium = (λ d. absurd (let q : ◌≡◌ {A = DeviceEnd} (End.Done n) End.MediumFault = sym is ∙ d in cc), λ b. absurd (false≢true (below b)));
    broken = (λ d. absurd (let q : ◌≡◌ {A = DeviceEnd} (End.Done n) End.Broken = sym is ∙ d in cc), λ lacks. absurd (never-lacks e.0 e.1 lacks));
    done = subst (IsDone c) (sym is) (e.3 ∙ ap length (sym (ap (λ (k : ℕ). records_by (take k bodies)) e.1 ∙ ap records_by (take_all (length bodies) bodies (omega arith))) ∙ (talk-records ∙ ap records_in (all-heard e.1))), all-heard e.1);
  }
  device-by cover (Ok end.Empty) is e err below = absurd e
  device-by cover (Ok end.Refused) is e err below = record {
    empty = (λ d. absurd (let q : ◌≡◌ {A = DeviceEnd} End.Refused End.Empty = sym is ∙ d in cc), λ none. absurd (never-empty none));
    refused = (λ d. ap (take 1) e.0, λ zero_first. is);
    medium = (λ d. absurd (let q : ◌≡◌ {A = DeviceEnd} End.Refused End.MediumFault = sym is ∙ d in cc), λ b. absurd (false≢true (below b)));
    broken = (λ d. absurd (let q : ◌≡◌ {A = DeviceEnd} End.Refused End.Broken = sym is ∙ d in cc), λ lacks. absurd (refused-lacks e.0 lacks));
    done = subst (IsDone c) (sym is) tt;
  }
  device-by cover (Ok end.Broken) is e err below = record {
    empty = (λ d. absurd (let q : ◌≡◌ {A = DeviceEnd} End.Broken End.Empty = sym is ∙ d in cc), λ none. absurd (never-empty none));
    refused = (λ d. absurd (let q : ◌≡◌ {A = DeviceEnd} End.Broken End.Refused = sym is ∙ d in cc), λ zero_first. absurd (not-zero zero_first));
    medium = (λ d. absurd (let q : ◌≡◌ {A = DeviceEnd} End.Broken End.MediumFault = sym is ∙ d in cc), λ b. absurd (false≢true (below b)));
    broken = (λ d. (up-some, lacks e), λ l. is);
    done = subst (IsDone c) (sym is) tt;
  }
    where
      lacks : IsRightEnd (Ok end.Broken) (heard_bytes c) bodies heard → (heard_bytes c ≡ []) ⊎ ((take 1 (heard_bytes c) ≡ 1 ∷ []) × (length (heard_of c) < length (frames_of c.up)))
      lacks (inl first) = inl first.0
      lacks (inr later) = inr (ap (take 1) later.1, (let p = later.3 in omega (arith, p, frames-size, talk-count)))

      not-zero : take 1 (heard_bytes c) ≡ 0 ∷ [] → ⊥
      not-zero zero_first = elim (lacks e) as (λ _. ⊥) [
        | inl none ↦ (let size = ap length (sym zero_first ∙ ap (take 1) none) in omega (arith, size))
        | inr less ↦ zero-one (heard_bytes c) zero_first less.0
      ]
  device-by cover (Ok (end.WrongAnswer got)) is e err below = absurd e
  device-by cover (Ok end.TooManyCommands) is e err below = absurd e
  device-by cover (Err failed) is e err below = record {
    empty = (λ d. absurd (let q : ◌≡◌ {A = DeviceEnd} End.MediumFault End.Empty = sym is ∙ d in cc), λ none. absurd (never-empty none));
    refused = (λ d. absurd (let q : ◌≡◌ {A = DeviceEnd} End.MediumFault End.Refused = sym is ∙ d in cc), λ zero_first. absurd (zero-one (heard_bytes c) zero_first (one-first (counts_by bodies) e.0)));
    medium = (λ d. err refl, λ b. is);
    broken = (λ d. absurd (let q : ◌≡◌ {A = DeviceEnd} End.MediumFault End.Broken = sym is ∙ d in cc), λ lacks. absurd (never-lacks e.0 e.1 lacks));
    done = subst (IsDone c) (sym is) tt;
  }

  module _ (old new : RingView) (ring : RoundsRing result heard (records_by (take heard bodies)) old new) where
    -- how the connection ended for its device
    pub talk-device : (cover : Option ℕ) → old.medium.left ≡ left_by cover → c.device ≡ end_of result → HasDeviceEnd cover c
    talk-device cover left device =
        device-by cover result device ends
        (λ err. subst (IsBelow cover) cost-is (err-below result heard (records_by (take heard bodies)) old new ring cover left err))
        (λ below. below-err result heard (records_by (take heard bodies)) old new ring cover left (subst (IsBelow cover) (sym cost-is) below))

    -- what the round did to the ring, in the log's words
    pub talk-ring : RoundsRing result (length (heard_of c)) (records_in (heard_of c)) old new
    talk-ring = subst (λ (z : ℕ × List Record). RoundsRing result z.0 z.1 old new) (λ i. (talk-count i, talk-records i)) ring
