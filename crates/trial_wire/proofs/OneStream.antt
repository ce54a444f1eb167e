-- The frames of the trial's statement are those that a server reads.
use Rattle.std.proofs.Common.{◌≡◌, ℕ, zero, suc, ◌+◌, ◌<◌, ◌≤◌, inl, inr, ◌^◌, ◌&&◌, nat_le, Bool, true, false, List, [], ◌∷◌, ◌++◌, length, take, drop, refl, sym, ◌∙◌, ap, subst, arith, length-drop, length-take, if◌then◌else◌}
use Rattle.std.specs.Prelude.{nat_eq}
use Rattle.std.specs.Int.{from_be_bytes, w32}
use Rattle.std.specs.List.{starts_with}
use Rattle.std.proofs.lemmas.Bool.{cases_lt}
use Rattle.std.proofs.lemmas.Bool.Decides.{leb_tells}
use Rattle.std.proofs.lemmas.List.{drop_all, take-append-drop}
use Rattle.std.proofs.lemmas.Slice.Eq.{bytes_eq-Decides}
use Rattle.avl_values.specs.declared.fault.FaultKind.{FaultKind}
use Rattle.layout.specs.Bytes.{AreBytes}
use Rattle.layout.specs.Rows.{Verdict, fault, judge, short, whole}
use Rattle.layout.proofs.Exports.{bytes-drop, bytes-take, judge_done}
use Rattle.record_layout.specs.RecordsOf.{records_of}
use Rattle.record_layout.specs.PacketRows.{packet_verdict}
use Rattle.record_layout.specs.declared.head.PacketHead.{PacketHead}
use Rattle.record_layout.proofs.BodyLaws.{judged_body}
use Rattle.record_layout.proofs.ReadLaws.{whole_packet}
use Rattle.item_streams.specs.Streams.{IsNotWhole, Item, Reading, only_rest, reading_of, with_front}
use Rattle.item_streams.specs.Laws.{AreStreamRows}
use Rattle.item_streams.proofs.Exports.{front_is_read, nothing_is_read}
use Rattle.frame_layout.specs.Items.{frame_of}
use Rattle.frame_layout.specs.Readings.{up_reading}
use Rattle.frame_layout.specs.UpRows.{login_end, up_rows, up_verdict}
use Rattle.frame_layout.specs.Values.{UpValue, login, packet, response}
use Rattle.frame_layout.proofs.Exports.{up_begins, up_item_is_whole, whole_is_up_item}
use Rattle.frame_layout.proofs.Lengths.{login_few}
use Rattle.session_core.proofs.Reading.{up_stream}
use Rattle.trial_model.specs.Frames.{Frame, Stream, body_at, frames_from, frames_of, has_frame, is_packet, is_whole, login_size, stream_of, with_frame}
use Rattle.trial_wire.specs.OneStream.{FramesAreRead, HasNoOther, IsReadAs, RestIsRead, frames_allowed, frames_read}
use Rattle.trial_wire.proofs.Reading.{frame-length, front-body, front-frame, login-length, no-frame}

-- At the front.

-- a data frame that a server reads there
record IsFront (body : List ℕ) (n : ℕ) (bytes : List ℕ) : Type 0 where
  pub has : has_frame bytes ≡ true
  pub at : body_at bytes ≡ body
  pub fits : length body ≤ 65535
  pub size : n ≡ 12 + length body
  pub there : n ≤ length bytes

read_front : (head : PacketHead) (body : List ℕ) (n : ℕ) (bytes : List ℕ) → AreBytes bytes → judge (up_rows true) 0 bytes ≡ whole (packet head body) n → IsFront body n bytes
read_front head body n bytes p e =
    let (there, frame) = whole_is_up_item true (packet head body) n bytes p e in
    let more = drop n bytes in
    let is : frame_of body ++ more ≡ bytes = ap (λ f. f ++ more) (sym frame.is) ∙ take-append-drop n bytes in
    let few : length body < 2 ^ 32 = omega (arith, frame.fits) in
    record {
      has = ap has_frame (sym is) ∙ front-frame head body more frame.of_body few;
      at = ap body_at (sym is) ∙ front-body body more few;
      fits = frame.fits;
      size = omega (arith, ap length frame.is, frame-length body, length-take n bytes, there);
      there = there;
    }

both : (a b : Bool) → (a && b) ≡ true → (a ≡ true) × (b ≡ true)
both true b e = (refl, e)
both false b e = absurd (cc)

record IsSomeWhole {V : Type 0} (verdict : Verdict V) : Type 0 where
  pub value : V
  pub end : ℕ
  pub is : verdict ≡ whole value end

some_whole : {V : Type 0} (verdict : Verdict V) → is_whole verdict ≡ true → IsSomeWhole verdict
some_whole (whole v n) e = record { value = v; end = n; is = refl }
some_whole short e = absurd (cc)
some_whole (fault kind place) e = absurd (cc)

-- and the other way round
front_read : (bytes : List ℕ) → AreBytes bytes → has_frame bytes ≡ true → length (body_at bytes) ≤ 65535
    → (head : PacketHead) × (judge (up_rows true) 0 bytes ≡ whole (packet head (body_at bytes)) (12 + length (body_at bytes)))
front_read bytes p has small =
    let body = body_at bytes in
    let n = from_be_bytes w32 (take 4 (drop 4 bytes)) in
    let are : AreBytes body = bytes-take n (drop 8 bytes) (bytes-drop 8 bytes p) in
    let (accepted, begins) = both (is_packet body) (starts_with nat_eq bytes (frame_of body)) has in
    let w = some_whole (packet_verdict (length body) body) accepted in
    let end = (whole_packet (length body) w.end w.value body are w.is).1 in
    let of_body = judged_body w.value body are (w.is ∙ ap (whole w.value) end) in
    let size = length (frame_of body) in
    let front : frame_of body ≡ take size bytes = (bytes_eq-Decides (frame_of body) (take size bytes)).0 begins in
    let is : frame_of body ++ drop size bytes ≡ bytes = ap (λ f. f ++ drop size bytes) front ∙ take-append-drop size bytes in (
      w.value,
      ap (judge (up_rows true) 0) (sym is) ∙ up_item_is_whole true (packet w.value body) (frame_of body) (drop size bytes) (record { is = refl; of_body = of_body; fits = small; are_bytes = are })
          ∙ ap (whole (packet w.value body)) (frame-length body),
    )

-- The frames after the login.

abbrev later : ℕ → List ℕ → Reading UpValue
later place bytes = reading_of (up_rows true) (up_rows true) place bytes

later_rows : AreStreamRows (up_rows true) (up_rows true)
later_rows = record { first_begins = up_begins true; later_begins = up_begins true }

abbrev NoPacket : List ℕ → Type 0
NoPacket bytes = (head : PacketHead) (body : List ℕ) (n : ℕ) → judge (up_rows true) 0 bytes ≡ whole (packet head body) n → ⊥

-- without a data frame at the front none is read
no_packet : (place : ℕ) (bytes : List ℕ) (v : Verdict UpValue) → AreBytes bytes → NoPacket bytes → judge (up_rows true) 0 bytes ≡ v → frames_read (later place bytes).items ≡ []
no_packet place bytes (whole (login imei) n) p none e = absurd ((whole_is_up_item true (login imei) n bytes p e).1)
no_packet place bytes (whole (packet head body) n) p none e = absurd (none head body n e)
no_packet place bytes (whole (response body) n) p none e = ap (λ r. frames_read r.items) (front_is_read (up_rows true) (up_rows true) place n (response body) bytes later_rows e)
no_packet place bytes short p none e = ap (λ r. frames_read r.items) (nothing_is_read (up_rows true) (up_rows true) place bytes (subst IsNotWhole (sym e) tt))
no_packet place bytes (fault kind at) p none e = ap (λ r. frames_read r.items) (nothing_is_read (up_rows true) (up_rows true) place bytes (subst IsNotWhole (sym e) tt))

record Agree (place : ℕ) (s : Stream) (reading : Reading UpValue) : Type 0 where
  pub frames : frames_allowed place s.frames ≡ frames_read reading.items
  pub rest : HasNoOther place s → IsReadAs s reading

-- with no frame at the front
none_there : (place : ℕ) (bytes : List ℕ) → AreBytes bytes → NoPacket bytes → Agree place (record { frames = []; rest = bytes }) (later place bytes)
none_there place bytes p none = record {
  frames = sym (no_packet place bytes _ p none refl);
  rest = λ other.
      let s : Stream = record { frames = []; rest = bytes } in
      let alone : IsReadAs s (only_rest bytes) = record { frames = refl; responses = refl; rest = refl } in
      subst (IsReadAs s) (sym (nothing_is_read (up_rows true) (up_rows true) place bytes other.no_response)) alone;
}

abbrev first_frame : ℕ → List ℕ → Frame
first_frame place bytes = record { end = place + (12 + length (body_at bytes)); records = records_of (body_at bytes) }

-- with a longer one
longer_there : (place : ℕ) (bytes : List ℕ) (s : Stream) → AreBytes bytes → 65535 < length (body_at bytes) → Agree place (with_frame (first_frame place bytes) s) (later place bytes)
longer_there place bytes s p long =
    let f = first_frame place bytes in
    let never : nat_le f.end (place + (12 + 65535)) ≡ false = elim (leb_tells f.end (place + (12 + 65535))) [ inl le ↦ absurd (omega (arith, le.1, long)) | inr lt ↦ lt.0 ] in
    let none : frames_allowed place (f ∷ s.frames) ≡ [] = ap (λ b. if b then f ∷ frames_allowed f.end s.frames else []) never in
    let no : NoPacket bytes = λ head body n e. let t = read_front head body n bytes p e in omega (arith, long, t.fits, ap length t.at) in
    record {
      frames = none ∙ sym (no_packet place bytes _ p no refl);
      rest = λ other. let never_all : [] ≡ f ∷ s.frames = sym none ∙ other.allowed in absurd (cc);
    }

-- with one that both take
frame_there : (place : ℕ) (bytes : List ℕ) (s : Stream) → AreBytes bytes → has_frame bytes ≡ true → length (body_at bytes) ≤ 65535
    → Agree (place + (12 + length (body_at bytes))) s (later (place + (12 + length (body_at bytes))) (drop (12 + length (body_at bytes)) bytes))
    → Agree place (with_frame (first_frame place bytes) s) (later place bytes)
frame_there place bytes s p has small rest =
    let body = body_at bytes in
    let n = 12 + length body in
    let f = first_frame place bytes in
    let (head, e) = front_read bytes p has small in
    let item : Item UpValue = record { value = packet head body; end = place + n } in
    let after = later (place + n) (drop n bytes) in
    let fits : nat_le f.end (place + (12 + 65535)) ≡ true = elim (leb_tells f.end (place + (12 + 65535))) [ inl le ↦ le.0 | inr lt ↦ absurd (omega (arith, lt.1, small)) ] in
    let more : frames_allowed place (f ∷ s.frames) ≡ f ∷ frames_allowed f.end s.frames = ap (λ b. if b then f ∷ frames_allowed f.end s.frames else []) fits in
    let read : Agree place (with_frame f s) (with_front item after) = record {
      frames = more ∙ ap (λ fs. f ∷ fs) rest.frames;
      rest = λ other.
          let all : frames_allowed f.end s.frames ≡ s.frames = ap (λ fs. drop 1 fs) (sym more ∙ other.allowed) in
          let r = rest.rest (record { allowed = all; no_response = other.no_response }) in
          record { frames = ap (λ fs. f ∷ fs) r.frames; responses = r.responses; rest = r.rest };
    } in
    subst (Agree place (with_frame f s)) (sym (front_is_read (up_rows true) (up_rows true) place n (packet head body) bytes later_rows e)) read

whether_there : (place : ℕ) (bytes : List ℕ) (s : Stream) (b : Bool) → AreBytes bytes → has_frame bytes ≡ b
    → Agree (place + (12 + length (body_at bytes))) s (later (place + (12 + length (body_at bytes))) (drop (12 + length (body_at bytes)) bytes))
    → Agree place (if b then with_frame (first_frame place bytes) s else record { frames = []; rest = bytes }) (later place bytes)
whether_there place bytes s false p none rest = none_there place bytes p (λ head body n e. let t = read_front head body n bytes p e in let never : false ≡ true = sym none ∙ t.has in absurd (cc))
whether_there place bytes s true p has rest = elim (cases_lt 65535 (length (body_at bytes))) [
  | inl long ↦ longer_there place bytes s p long
  | inr small ↦ frame_there place bytes s p has small rest
]

agree : (most place : ℕ) (bytes : List ℕ) → AreBytes bytes → length bytes ≤ most → Agree place (frames_from most place bytes) (later place bytes)
unfolding frames_from
agree zero place bytes p few = none_there place bytes p (λ head body n e. let t = read_front head body n bytes p e in omega (arith, few, t.size, t.there))
agree (suc most) place bytes p few =
    let n = 12 + length (body_at bytes) in
    whether_there place bytes (frames_from most (place + n) (drop n bytes)) (has_frame bytes) p refl
    (agree most (place + n) (drop n bytes) (bytes-drop n bytes p) (omega (arith, few, length-drop n bytes)))

-- The whole stream.

after_login : (up : List ℕ) → AreBytes up → Agree login_size (stream_of up) (later login_size (drop login_size up))
after_login up p = agree (length up) login_size (drop login_size up) (bytes-drop login_size up p) (omega (arith, length-drop login_size up))

logged_in : (imei n : ℕ) (up : List ℕ) → AreBytes up → up_verdict false up ≡ whole (login imei) n
    → up_reading false up ≡ with_front (record { value = login imei; end = login_size }) (later login_size (drop login_size up))
logged_in imei n up p e =
    let (there, is) = whole_is_up_item false (login imei) n up p e in
    let size : n ≡ login_size = omega (arith, ap length is.is, login-length imei, length-take n up, there) in
    let end : 0 + n ≡ login_size = omega (arith, size) in
    front_is_read (up_rows false) (up_rows true) 0 n (login imei) up up_stream e
    ∙ (λ j. with_front (let i : Item UpValue = record { value = login imei; end = end j } in i) (later (end j) (drop (size j) up)))

by_login : (v : Verdict UpValue) (up : List ℕ) → AreBytes up → up_verdict false up ≡ v → ((kind : FaultKind) (at : ℕ) → up_verdict false up ≡ fault kind at → ⊥)
    → frames_allowed login_size (frames_of up) ≡ frames_read (up_reading false up).items
by_login (whole (login imei) n) up p e begins = (after_login up p).frames ∙ ap (λ r. frames_read r.items) (sym (logged_in imei n up p e))
by_login (whole (packet head body) n) up p e begins = absurd ((whole_is_up_item false (packet head body) n up p e).1)
by_login (whole (response body) n) up p e begins = absurd ((whole_is_up_item false (response body) n up p e).1)
by_login short up p e begins =
    let few : length up < 17 = login_few 0 login_end 0 up (λ imei q xs inner. let f = judge_done (login imei) q xs in absurd (cc)) e in
    let none : drop login_size up ≡ [] = drop_all login_size up (omega (arith, few)) in
    ap (λ b. frames_allowed login_size (frames_from (length up) login_size b).frames) none ∙ ap (λ s. frames_allowed login_size s.frames) (no-frame (length up) login_size)
    ∙ ap (λ r. frames_read r.items) (sym (nothing_is_read (up_rows false) (up_rows true) 0 up (subst IsNotWhole (sym e) tt)))
by_login (fault kind at) up p e begins = absurd (begins kind at e)

pub frames_are_read : FramesAreRead
frames_are_read up p begins = by_login _ up p refl begins

pub rest_is_read : RestIsRead
rest_is_read imei up p e other =
    let r = (after_login up p).rest other in
    subst (IsReadAs (stream_of up)) (sym (logged_in imei login_size up p e)) (record { frames = r.frames; responses = r.responses; rest = r.rest })
