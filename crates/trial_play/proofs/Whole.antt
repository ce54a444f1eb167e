-- A round that is delivered whole empties its batch.
use Rattle.std.proofs.Common.{◌≡◌, ◌≤◌, inl, inr, ℕ, zero, suc, ◌+◌, ◌-◌, ◌*◌, ◌/◌, ◌&&◌, nat_le, Bool, true, false, List, [], ◌∷◌, drop, filter, length, take, Option, Some, None, is_none, if◌then◌else◌, refl, sym, ◌∙◌, ap, subst, arith}
use Rattle.std.specs.List.{starts_with}
use Rattle.std.specs.Prelude.{nat_eq}
use Rattle.std.specs.Str.{bytes_eq}
use Rattle.std.proofs.lemmas.Slice.Eq.{bytes_eq-Decides}
use Rattle.std.proofs.lemmas.Bool.{cases_Bool, false≢true}
use Rattle.std.proofs.lemmas.Bool.Decides.{leb_tells}
use Rattle.std.proofs.lemmas.List.{length-drop, length-take}
use Rattle.avl_values.specs.Record.{Record}
use Rattle.frame_layout.specs.Items.{frame_of}
use Rattle.record_layout.specs.RecordsOf.{records_of}
use Rattle.trial_model.specs.declared.outcome.ConnectionOutcome.{ConnectionOutcome}
use Rattle.trial_model.specs.declared.outcome.DeviceEnd.{DeviceEnd}
use Rattle.trial_model.specs.declared.outcome.DeviceEnd.TheVariants as End
use Rattle.trial_model.specs.Answers.{HasDeviceEnd, IsDone, counted_of, is_fault}
use Rattle.trial_model.specs.Connections.{ConnectionHistory, is_whole, up_to}
use Rattle.trial_model.specs.Delivery.{delivered_of, heard_bytes}
use Rattle.trial_model.specs.Frames.{Frame, body_at, counts_of, frames_from, frames_of, frames_within, has_frame, is_packet, login_size, records_in, with_frame}
use Rattle.trial_model.specs.Logs.{HasFewFrames, HasWholeLog, IsSent, IsWholeStream, answers_to}
use Rattle.trial_model.specs.RecordLists.{AreIn}
use Rattle.trial_model.specs.WholeRounds.{EmptiesBatch, IsOneFrame}
use Rattle.trial_server.proofs.Containing.{in-then}
use Rattle.trial_wire.specs.Connections.{HasFrame, IsHeard}
use Rattle.trial_wire.proofs.Logs.{answers-all, counts-length, heard-counted}
use Rattle.trial_wire.proofs.Reading.{frame-length, login-length}
use Rattle.trial_play.proofs.Places.{both-true}

-- All frames of a stream end within it.

abbrev AllEnd : ℕ → List Frame → Type 0
AllEnd most [] = Unit {0}
AllEnd most (f ∷ fs) = (f.end ≤ most) × AllEnd most fs

frame-fits : (bytes : List ℕ) → has_frame bytes ≡ true → 12 + length (body_at bytes) ≤ length bytes
frame-fits bytes has =
    let body = body_at bytes in
    let size = length (frame_of body) in
    let starts : bytes_eq (frame_of body) (take size bytes) ≡ true = (both-true (is_packet body) (starts_with nat_eq bytes (frame_of body)) has).1 in
    let same : frame_of body ≡ take size bytes = (bytes_eq-Decides (frame_of body) (take size bytes)).0 starts in
    omega (arith, ap length same, length-take size bytes, frame-length body)

ends-later : (a b : ℕ) (fs : List Frame) → a ≡ b → AllEnd a fs → AllEnd b fs
ends-later a b fs same all = subst (λ n. AllEnd n fs) same all

fits-from : (most place : ℕ) (bytes : List ℕ) → AllEnd (place + length bytes) (frames_from most place bytes).frames
unfolding frames_from
fits-from zero place bytes = tt
fits-from (suc most) place bytes = split (fits-from most (place + (12 + length (body_at bytes))) (drop (12 + length (body_at bytes)) bytes)) (has_frame bytes) refl
  where
    split : AllEnd ((place + (12 + length (body_at bytes))) + length (drop (12 + length (body_at bytes)) bytes)) (frames_from most (place + (12 + length (body_at bytes))) (drop (12 + length (body_at bytes)) bytes)).frames
        → (b : Bool) → has_frame bytes ≡ b → AllEnd (place + length bytes) (if b then with_frame (record { end = place + (12 + length (body_at bytes)); records = records_of (body_at bytes) })
        (frames_from most (place + (12 + length (body_at bytes))) (drop (12 + length (body_at bytes)) bytes)) else record { frames = []; rest = bytes }).frames
    split later true has =
        let fits = frame-fits bytes has in (
          omega (arith, fits),
          ends-later ((place + (12 + length (body_at bytes))) + length (drop (12 + length (body_at bytes)) bytes)) (place + length bytes) (frames_from most (place + (12 + length (body_at bytes))) (drop (12 + length (body_at bytes)) bytes)).frames
              (omega (arith, fits, length-drop (12 + length (body_at bytes)) bytes)) later,
        )
    split later false has = tt

all-within : (n : ℕ) (fs : List Frame) → AllEnd n fs → filter (λ f. nat_le f.end n) fs ≡ fs
all-within n [] all = refl
all-within n (f ∷ fs) all = elim (leb_tells f.end n) as (λ _. filter (λ f. nat_le f.end n) (f ∷ fs) ≡ f ∷ fs) [
  | inl early ↦ rw early.0 (ap (λ l. f ∷ l) (all-within n fs all.1))
  | inr late ↦ absurd (let p = late.1 in let q = all.0 in omega arith)
]

no-bytes : (most place : ℕ) → (frames_from most place []).frames ≡ []
unfolding frames_from
no-bytes zero place = refl
no-bytes (suc most) place = elim (cases_Bool (has_frame [])) as (λ _. (frames_from (suc most) place []).frames ≡ []) [
  | inl has ↦ absurd (let fits = frame-fits [] has in omega (arith, fits))
  | inr none ↦ rw none refl
]

-- nothing sent has no frame
pub no-frames : (up : List ℕ) → up ≡ [] → frames_of up ≡ []
no-frames up none = ap frames_of none ∙ no-bytes (length {A = ℕ} []) login_size

pub within-whole : (up : List ℕ) → login_size ≤ length up → frames_within (length up) up ≡ frames_of up
within-whole up long = all-within (length up) (frames_of up)
    (ends-later (login_size + length (drop login_size up)) (length up) (frames_of up) (omega (arith, long, length-drop login_size up)) (fits-from (length up) login_size (drop login_size up)))

none-is : (o : Option ℕ) → is_none o ≡ true → o ≡ None
none-is None e = refl
none-is (Some n) e = absurd (false≢true e)

both-none : (a b : Option ℕ) → (is_none a && is_none b) ≡ true → (a ≡ None) × (b ≡ None)
both-none None b e = (refl, none-is b e)
both-none (Some n) b e = absurd (false≢true e)

module _ (earlier : List Record) (h : ConnectionHistory) (c : ConnectionOutcome) (log : HasWholeLog earlier h c) (heard : IsHeard true c) (early : up_to h.opening.up (length c.up) ≤ c.up_given)
    (whole : is_whole h.opening ≡ true) where
  open_up : h.opening.up ≡ None
  open_up = (both-none h.opening.up h.opening.down whole).0

  open_down : h.opening.down ≡ None
  open_down = (both-none h.opening.up h.opening.down whole).1

  all-up : c.up_given ≡ length c.up
  all-up = (let low = heard.within in let limit = ap (λ o. up_to o (length c.up)) open_up in omega (arith, low, limit, early))

  long-up : IsWholeStream earlier c → login_size ≤ length c.up
  long-up stream = (let size = ap length stream.login in omega (arith, size, login-length c.imei, length-take login_size c.up))

  down-is : IsWholeStream earlier c → c.down ≡ 1 ∷ counts_of (counted_of c)
  down-is stream = (let long = long-up stream in heard.counts (omega (arith, long, all-up)) refl)

  all-down : c.down_given ≡ length c.down
  all-down =
      let limit = ap (λ o. up_to o (answers_to (up_to h.opening.up (length c.up)) c)) open_down in
      let place : up_to h.opening.up (length c.up) ≡ c.up_given = ap (λ o. up_to o (length c.up)) open_up ∙ sym all-up in
      log.down ∙ (limit ∙ (ap (λ n. answers_to n c) place ∙ answers-all true c heard))

  first-one : (n : ℕ) (xs cs : List ℕ) → xs ≡ 1 ∷ cs → take 1 (take n xs) ≡ 0 ∷ [] → ⊥
  first-one n xs cs is zero_first = by n (subst (λ l. take 1 (take n l) ≡ 0 ∷ []) is zero_first)
    where
      by : (n : ℕ) → take 1 (take n (1 ∷ cs)) ≡ 0 ∷ [] → ⊥
      by zero e = absurd (let q : ◌≡◌ {A = List ℕ} [] (0 ∷ []) = e in cc)
      by (suc n) e = (let q : 1 ≡ 0 = head 1 0 (take 0 (take n cs)) [] e in omega (arith, q))
        where
          head : (a b : ℕ) (xs ys : List ℕ) → a ∷ xs ≡ b ∷ ys → a ≡ b
          head a b xs ys e = cc

  -- a frame whose answer was lacking was one whose medium failed
  never-lacks : (cover : Option ℕ) → HasDeviceEnd cover c → IsWholeStream earlier c → is_fault c.server ≡ false → c.device ≡ End.Broken → ⊥
  never-lacks cover d stream good is =
      let lacks = d.broken.0 is in
      let long = long-up stream in
      let counted : counted_of c ≡ frames_of c.up =
      ap (λ b. if b then take (length (delivered_of c) - 1) (delivered_of c) else delivered_of c) good ∙ (ap (λ n. frames_within n c.up) all-up ∙ within-whole c.up long) in
      let size : length c.down ≡ 1 + 4 * length (frames_of c.up) = (let down = ap length (down-is stream) in let counts = counts-length (counted_of c) in let frames = ap length counted in omega (arith, down, counts, frames)) in
      let bytes : length (heard_bytes c) ≡ length c.down = (let n = length-take c.down_given c.down in let all = all-down in omega (arith, n, all)) in
      elim lacks.1 as (λ _. ⊥) [
        | inl none ↦ (let empty = ap length none in omega (arith, empty, bytes, size))
        | inr short ↦ (let few = short.1 in let n = length-take ((c.down_given - 1) / 4) (frames_of c.up) in let all = all-down in omega (arith, few, n, all, size))
      ]

  one-frame : (drains : Bool) (n : ℕ) → HasFewFrames drains c → HasFrame (End.Done n) c → IsOneFrame drains c
  one-frame true n few some = tt
  one-frame false n few some = omega (arith, few, some)

  module _ (cover : Option ℕ) (archived : List Record) (device : HasDeviceEnd cover c) (done : HasFrame c.device c) (stored : AreIn archived (records_in (counted_of c))) where
    low : c.down_given ≤ length c.down
    low = omega (arith, all-down)

    by : (end : DeviceEnd) → c.device ≡ end → IsSent end earlier c → IsDone c end → HasFrame end c → EmptiesBatch h.opening.drains archived c end
    by (End.Done n) is sent ended frame = record {
      records = ended.0;
      heard = ended.1;
      stored = in-then archived (records_in (counted_of c)) (records_in (frames_of c.up)) stored (subst (λ fs. AreIn (records_in (counted_of c)) (records_in fs)) ended.1 (heard-counted true c heard low));
      one = one-frame h.opening.drains n log.few frame;
    }
    by End.Empty is sent ended frame = tt
    by End.Refused is sent ended frame = absurd (first-one c.down_given c.down (counts_of (counted_of c)) (down-is sent) (device.refused.0 is))
    by End.Broken is sent ended frame = elim (cases_Bool (is_fault c.server)) as (λ _. is_fault c.server ≡ true) [
      | inl bad ↦ bad
      | inr good ↦ absurd (never-lacks cover device sent good is)
    ]
    by (End.WrongAnswer got) is sent ended frame = absurd ended
    by End.TooManyCommands is sent ended frame = absurd ended
    by End.MediumFault is sent ended frame = tt

    pub whole-round : EmptiesBatch h.opening.drains archived c c.device
    whole-round = by c.device refl log.sent device.done done
