-- What a session reads of what a device sent, and what frames are there: they are the same.
use Rattle.std.proofs.Common.{◌≡◌, ◌≤◌, ◌<◌, inl, inr, ℕ, zero, suc, ◌+◌, ◌^◌, ◌&&◌, nat_le, cond, Bool, true, false, List, [], ◌∷◌, ◌++◌, length, take, drop, refl, sym, ◌∙◌, ap, subst, arith, append_assoc, length-append, take_at, drop_at, length-take-le}
use Rattle.std.specs.Prelude.{nat_eq}
use Rattle.std.specs.Int.{to_be_bytes, w16}
use Rattle.std.specs.List.{filter, flat_map, starts_with}
use Rattle.std.specs.Str.{bytes_eq}
use Rattle.std.proofs.lemmas.Bool.Decides.{leb_tells}
use Rattle.std.proofs.lemmas.List.{take-append-drop}
use Rattle.std.proofs.lemmas.Nat.{from_be_bytes-to_be_bytes_4}
use Rattle.std.proofs.lemmas.Slice.Eq.{bytes_eq-Decides}
use Rattle.avl_values.specs.Imei.{decimal_places}
use Rattle.avl_values.specs.declared.fault.FaultKind.{FaultKind}
use Rattle.crc_field.specs.Crc.{crc_of}
use Rattle.layout.specs.Rows.{Verdict, fault, judge, short, whole}
use Rattle.record_layout.specs.Body.{IsBody}
use Rattle.record_layout.specs.RecordsOf.{records_of}
use Rattle.record_layout.specs.declared.head.PacketHead.{PacketHead}
use Rattle.record_layout.proofs.BodyLaws.{body_judged}
use Rattle.item_streams.specs.Streams.{Item, IsNotWhole, Reading, ended_by, next_rows, place_after, reading_of}
use Rattle.item_streams.proofs.StreamLaws.{fault_ends, front_read, nothing_read, rows_begin}
use Rattle.item_streams.proofs.Ending.{ends_inside}
use Rattle.frame_layout.specs.Items.{frame_of, login_of}
use Rattle.frame_layout.specs.Readings.{up_reading}
use Rattle.frame_layout.specs.UpRows.{up_rows}
use Rattle.frame_layout.specs.Values.{UpValue, login, packet}
use Rattle.frame_layout.proofs.Lengths.{starts_short_up}
use Rattle.frame_layout.proofs.UpLaws.{up_whole}
use Rattle.session_core.proofs.Reading.{up_stream}
use Rattle.tracker_session.specs.Sending.{AreSentBodies, stream_up}
use Rattle.trial_model.specs.Frames.{Frame, Stream, body_at, frames_from, frames_within, has_frame, is_packet, is_whole, login_size, stream_of}
use Rattle.trial_model.specs.Answers.{last_end}
use Rattle.trial_wire.specs.Hearing.{as_frames, items_in, rest_in}

-- the frames and the items of bodies, from a place on
abbrev pub frames_at : ℕ → List (List ℕ) → List Frame
frames_at place [] = []
frames_at place (b ∷ bodies) = record { end = place + (12 + length b); records = records_of b } ∷ frames_at (place + (12 + length b)) bodies

abbrev pub items_at : ℕ → (bodies : List (List ℕ)) → AreSentBodies bodies → List (Item UpValue)
items_at place [] are = []
items_at place (b ∷ bodies) are = record { value = packet are.0.head b; end = place + (12 + length b) } ∷ items_at (place + (12 + length b)) bodies are.1

pub frame-length : (body : List ℕ) → length (frame_of body) ≡ 12 + length body
frame-length body = omega (arith, length-append body (0 ∷ 0 ∷ to_be_bytes w16 (crc_of body)))

pub login-length : (imei : ℕ) → length (login_of imei) ≡ 17
unfolding decimal_places
login-length imei = refl

-- A session's reading.

later-read : (place : ℕ) (bodies : List (List ℕ)) (are : AreSentBodies bodies) → reading_of (up_rows true) (up_rows true) place (flat_map frame_of bodies) ≡ record { items = items_at place bodies are; rest = [] }
later-read place [] are = nothing_read (up_rows true) (up_rows true) place [] (subst IsNotWhole (sym (starts_short_up true)) tt)
later-read place (b ∷ bodies) are =
    let more = flat_map frame_of bodies in
    let v : UpValue = packet are.0.head b in
    let judged : judge (up_rows true) 0 (frame_of b ++ more) ≡ whole v (12 + length b) = up_whole true v (frame_of b) more are.0.frame ∙ ap (whole v) (frame-length b) in
    front_read (up_rows true) (up_rows true) place (12 + length b) v (frame_of b ++ more) (record { first_begins = starts_short_up true; later_begins = starts_short_up true }) judged
    ∙ ap (λ (r : Reading UpValue). let all : Reading UpValue = record { items = record { value = v; end = place + (12 + length b) } ∷ r.items; rest = r.rest } in all)
    (ap (reading_of (up_rows true) (up_rows true) (place + (12 + length b))) (drop_at (frame_of b) more (12 + length b) (frame-length b)) ∙ later-read (place + (12 + length b)) bodies are.1)

pub whole-read : (imei : ℕ) (bodies : List (List ℕ)) (are : AreSentBodies bodies) → imei < 10 ^ 15
    → up_reading false (stream_up imei bodies) ≡ record { items = record { value = login imei; end = 17 } ∷ items_at 17 bodies are; rest = [] }
whole-read imei bodies are digits =
    let more = flat_map frame_of bodies in
    let judged : judge (up_rows false) 0 (login_of imei ++ more) ≡ whole (login imei) 17 =
    up_whole false (login imei) (login_of imei) more (record { is = refl; digits = digits }) ∙ ap (whole (login imei)) (login-length imei) in
    front_read (up_rows false) (up_rows true) 0 17 (login imei) (login_of imei ++ more) up_stream judged
    ∙ ap (λ (r : Reading UpValue). let all : Reading UpValue = record { items = record { value = login imei; end = 17 } ∷ r.items; rest = r.rest } in all)
    (ap (reading_of (up_rows true) (up_rows true) 17) (drop_at (login_of imei) more 17 (login-length imei)) ∙ later-read 17 bodies are)

-- The frames of the stream.

pub front-body : (b more : List ℕ) → length b < 2 ^ 32 → body_at (frame_of b ++ more) ≡ b
front-body b more few =
    let size = from_be_bytes-to_be_bytes_4 (length b) few in
    let tail = 0 ∷ 0 ∷ to_be_bytes w16 (crc_of b) in
    rw size (ap (take (length b)) (append_assoc b tail more) ∙ take_at b (tail ++ more) (length b) refl)

pub front-frame : (head : PacketHead) (b more : List ℕ) → IsBody head b → length b < 2 ^ 32 → has_frame (frame_of b ++ more) ≡ true
front-frame head b more of_body few =
    let at = front-body b more few in
    let packet_is : is_packet (body_at (frame_of b ++ more)) ≡ true = ap is_packet at ∙ ap is_whole (body_judged head b of_body) in
    let begins : starts_with nat_eq (frame_of b ++ more) (frame_of (body_at (frame_of b ++ more))) ≡ true =
    ap (λ x. starts_with nat_eq (frame_of b ++ more) (frame_of x)) at ∙ (ap (bytes_eq (frame_of b)) (take_at (frame_of b) more (length (frame_of b)) refl) ∙ (bytes_eq-Decides (frame_of b) (frame_of b)).1 refl) in
    rw (packet_is, begins) refl

pub no-frame : (most place : ℕ) → frames_from most place [] ≡ record { frames = []; rest = [] }
unfolding frames_from
no-frame zero place = refl
no-frame (suc most) place = rw (never (is_packet (body_at []))) refl
  where
    never : (b : Bool) → (b && starts_with nat_eq [] (frame_of (body_at []))) ≡ false
    never true = refl
    never false = refl

frames-read : (most place : ℕ) (bodies : List (List ℕ)) → AreSentBodies bodies → length bodies ≤ most → frames_from most place (flat_map frame_of bodies) ≡ record { frames = frames_at place bodies; rest = [] }
unfolding frames_from
frames-read most place [] are few = no-frame most place
frames-read zero place (b ∷ bodies) are few = absurd (omega arith)
frames-read (suc most) place (b ∷ bodies) are few =
    let more = flat_map frame_of bodies in
    let small : length b < 2 ^ 32 = omega (arith, are.0.frame.fits) in
    let rest : drop (12 + length b) (frame_of b ++ more) ≡ more = drop_at (frame_of b) more (12 + length b) (frame-length b) in
    rw (front-frame are.0.head b more are.0.frame.of_body small, front-body b more small, rest, frames-read most (place + (12 + length b)) bodies are.1 (omega arith)) refl

bodies-few : (bodies : List (List ℕ)) → length bodies ≤ length (flat_map frame_of bodies)
bodies-few [] = omega arith
bodies-few (b ∷ bodies) = omega (arith, bodies-few bodies, frame-length b, length-append (frame_of b) (flat_map frame_of bodies))

pub stream-frames : (imei : ℕ) (bodies : List (List ℕ)) → AreSentBodies bodies → stream_of (stream_up imei bodies) ≡ record { frames = frames_at login_size bodies; rest = [] }
stream-frames imei bodies are =
    ap (frames_from (length (stream_up imei bodies)) login_size) (drop_at (login_of imei) (flat_map frame_of bodies) 17 (login-length imei))
    ∙ frames-read (length (stream_up imei bodies)) login_size bodies are (omega (arith, bodies-few bodies, length-append (login_of imei) (flat_map frame_of bodies)))

-- The first bytes of the stream.

ended-frames : (place n : ℕ) (bodies : List (List ℕ)) (are : AreSentBodies bodies) → as_frames (ended_by n (items_at place bodies are)) ≡ filter (λ f. nat_le f.end n) (frames_at place bodies)
ended-frames place n [] are = refl
ended-frames place n (b ∷ bodies) are = split (nat_le (place + (12 + length b)) n) (ended-frames (place + (12 + length b)) n bodies are.1)
  where
    split : (t : Bool) → as_frames (ended_by n (items_at (place + (12 + length b)) bodies are.1)) ≡ filter (λ f. nat_le f.end n) (frames_at (place + (12 + length b)) bodies)
        → as_frames (cond t (record { value = packet are.0.head b; end = place + (12 + length b) } ∷ ended_by n (items_at (place + (12 + length b)) bodies are.1)) (ended_by n (items_at (place + (12 + length b)) bodies are.1)))
        ≡ cond t (record { end = place + (12 + length b); records = records_of b } ∷ filter (λ f. nat_le f.end n) (frames_at (place + (12 + length b)) bodies)) (filter (λ f. nat_le f.end n) (frames_at (place + (12 + length b)) bodies))
    split true rest = ap (λ (l : List Frame). record { end = place + (12 + length b); records = records_of b } ∷ l) rest
    split false rest = rest

ended-place : (from place n : ℕ) (bodies : List (List ℕ)) (are : AreSentBodies bodies) → place_after from (ended_by n (items_at place bodies are)) ≡ last_end from (filter (λ f. nat_le f.end n) (frames_at place bodies))
ended-place from place n [] are = refl
ended-place from place n (b ∷ bodies) are =
    split (nat_le (place + (12 + length b)) n) (ended-place (place + (12 + length b)) (place + (12 + length b)) n bodies are.1) (ended-place from (place + (12 + length b)) n bodies are.1)
  where
    split : (t : Bool) → place_after (place + (12 + length b)) (ended_by n (items_at (place + (12 + length b)) bodies are.1)) ≡ last_end (place + (12 + length b)) (filter (λ f. nat_le f.end n) (frames_at (place + (12 + length b)) bodies))
        → place_after from (ended_by n (items_at (place + (12 + length b)) bodies are.1)) ≡ last_end from (filter (λ f. nat_le f.end n) (frames_at (place + (12 + length b)) bodies))
        → place_after from (cond t (record { value = packet are.0.head b; end = place + (12 + length b) } ∷ ended_by n (items_at (place + (12 + length b)) bodies are.1)) (ended_by n (items_at (place + (12 + length b)) bodies are.1)))
        ≡ last_end from (cond t (record { end = place + (12 + length b); records = records_of b } ∷ filter (λ f. nat_le f.end n) (frames_at (place + (12 + length b)) bodies)) (filter (λ f. nat_le f.end n) (frames_at (place + (12 + length b)) bodies)))
    split true taken left = taken
    split false taken left = left

-- the stream ends where its last frame does
pub whole-ends : (place : ℕ) (bodies : List (List ℕ)) → last_end place (frames_at place bodies) ≡ place + length (flat_map frame_of bodies)
whole-ends place [] = omega arith
whole-ends place (b ∷ bodies) = whole-ends (place + (12 + length b)) bodies ∙ (let sum = length-append (frame_of b) (flat_map frame_of bodies) in let one = frame-length b in omega arith)

no-frames : (place : ℕ) (bodies : List (List ℕ)) (are : AreSentBodies bodies) (n : ℕ) → n ≤ place → ended_by n (items_at place bodies are) ≡ []
no-frames place [] are n low = refl
no-frames place (b ∷ bodies) are n low = elim (leb_tells (place + (12 + length b)) n) as (λ _. ended_by n (items_at place (b ∷ bodies) are) ≡ []) [
  | inl early ↦ absurd (let q = early.1 in omega arith)
  | inr late ↦ rw late.0 (no-frames (place + (12 + length b)) bodies are.1 n (omega arith))
]

module _ (imei : ℕ) (bodies : List (List ℕ)) (are : AreSentBodies bodies) (digits : imei < 10 ^ 15) (n : ℕ) (within : n ≤ length (stream_up imei bodies)) where
  abbrev pub logged : Item UpValue
  logged = record { value = login imei; end = 17 }

  taken-items : items_in (take n (stream_up imei bodies)) ≡ ended_by n (logged ∷ items_at 17 bodies are)
  taken-items =
      let up = stream_up imei bodies in
      let size : 0 + length (take n up) ≡ n = omega (arith, length-take-le n up within) in
      ends_inside (up_rows false) (up_rows true) 0 (take n up) (drop n up) up_stream
      ∙ ap (λ (z : ℕ × List ℕ). ended_by z.0 (up_reading false z.1).items) (λ i. (size i, take-append-drop n up i))
      ∙ ap (λ (r : Reading UpValue). ended_by n r.items) (whole-read imei bodies are digits)

  -- nothing before the login is whole
  pub taken-short : n < login_size → items_in (take n (stream_up imei bodies)) ≡ []
  taken-short few = taken-items ∙ elim (leb_tells 17 n) as (λ _. ended_by n (logged ∷ items_at 17 bodies are) ≡ []) [
    | inl long ↦ absurd (let q = long.1 in omega arith)
    | inr low ↦ rw low.0 (no-frames 17 bodies are n (omega arith))
  ]

  -- then the login, and the packets
  pub taken-long : login_size ≤ n → items_in (take n (stream_up imei bodies)) ≡ logged ∷ ended_by n (items_at 17 bodies are)
  taken-long long = taken-items ∙ elim (leb_tells 17 n) as (λ _. ended_by n (logged ∷ items_at 17 bodies are) ≡ logged ∷ ended_by n (items_at 17 bodies are)) [
    | inl is_long ↦ rw is_long.0 refl
    | inr low ↦ absurd (let q = low.1 in omega arith)
  ]

  frames-are : filter (λ f. nat_le f.end n) (frames_at 17 bodies) ≡ frames_within n (stream_up imei bodies)
  frames-are = ap (λ (s : Stream). filter (λ f. nat_le f.end n) s.frames) (sym (stream-frames imei bodies are))

  -- which are the frames that lie whole there
  pub packets-taken : as_frames (ended_by n (items_at 17 bodies are)) ≡ frames_within n (stream_up imei bodies)
  packets-taken = ended-frames 17 n bodies are ∙ frames-are

  pub place-taken : place_after 17 (ended_by n (items_at 17 bodies are)) ≡ last_end login_size (frames_within n (stream_up imei bodies))
  place-taken = ended-place 17 17 n bodies are ∙ ap (last_end 17) frames-are

  -- no item is broken there
  pub none-broken : (kind : FaultKind) (at : ℕ) → judge (next_rows (up_rows false) (up_rows true) (items_in (take n (stream_up imei bodies)))) 0 (rest_in (take n (stream_up imei bodies))) ≡ fault kind at → ⊥
  none-broken kind at e =
      let up = stream_up imei bodies in
      let ends = fault_ends (up_rows false) (up_rows true) 0 (take n up) (drop n up) kind at up_stream e in
      let rest : rest_in (take n up) ++ drop n up ≡ [] =
      ap (λ (r : Reading UpValue). r.rest) (sym ends.0) ∙ (ap (λ bytes. (up_reading false bytes).rest) (take-append-drop n up) ∙ ap (λ (r : Reading UpValue). r.rest) (whole-read imei bodies are digits)) in
      let begins = (rows_begin (up_rows false) (up_rows true) (items_in (take n up)) up_stream).first_begins in
      absurd (let never : ◌≡◌ {A = Verdict UpValue} short (fault kind at) = sym begins ∙ (ap (judge (next_rows (up_rows false) (up_rows true) (items_in (take n up))) 0) (sym rest) ∙ ends.1) in cc)
