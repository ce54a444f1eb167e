-- The data bodies that a device sent: their frames, and their own counts.
use Rattle.std.proofs.Common.{◌≡◌, ◌≤◌, ℕ, zero, suc, ◌+◌, ◌*◌, List, [], ◌∷◌, ◌++◌, length, take, refl, ◌∙◌, ap, arith, length-append}
use Rattle.std.specs.List.{AllByRecursion}
use Rattle.std.proofs.lemmas.List.{length-map}
use Rattle.avl_values.specs.Record.{Record}
use Rattle.frame_layout.specs.Items.{count_bytes}
use Rattle.record_layout.specs.Body.{IsBody}
use Rattle.record_layout.specs.RecordsOf.{records_of}
use Rattle.record_layout.specs.declared.head.PacketHead.{PacketHead}
use Rattle.record_layout.proofs.ReadLaws.{records_read}
use Rattle.tracker_session.specs.Sending.{AreSentBodies, stream_up}
use Rattle.tracker_session.specs.Talks.{AreDecided, counts_by, records_by}
use Rattle.trial_model.specs.Frames.{Frame, Stream, counts_of, frames_of, login_size, records_in}
use Rattle.trial_model.specs.RecordLists.{AreIn}
use Rattle.trial_server.proofs.Containing.{in-then}
use Rattle.trial_wire.proofs.Reading.{frames_at, stream-frames}

-- a data body has 1 to 255 records
pub body-count : (head : PacketHead) (body : List ℕ) → IsBody head body → (1 ≤ length (records_of body)) × (length (records_of body) ≤ 255)
body-count head body is =
    let size : length (records_of body) ≡ length is.records = ap length (records_read head.codec is.records body is.packet) ∙ length-map is.records (λ (r : List ℕ). (let one : Record = record { codec = head.codec; bytes = r } in one)) in
    (omega (arith, size, is.packet.some), omega (arith, size, is.packet.few))

-- The frames of bodies, from any place on.

pub frames-length : (place : ℕ) (bodies : List (List ℕ)) → length (frames_at place bodies) ≡ length bodies
frames-length place [] = refl
frames-length place (b ∷ bodies) = ap suc (frames-length (place + (12 + length b)) bodies)

pub frames-counts : (place : ℕ) (bodies : List (List ℕ)) → counts_of (frames_at place bodies) ≡ counts_by bodies
frames-counts place [] = refl
frames-counts place (b ∷ bodies) = ap (λ (l : List ℕ). count_bytes (length (records_of b)) ++ l) (frames-counts (place + (12 + length b)) bodies)

pub frames-records : (place : ℕ) (bodies : List (List ℕ)) → records_in (frames_at place bodies) ≡ records_by bodies
frames-records place [] = refl
frames-records place (b ∷ bodies) = ap (λ (l : List Record). records_of b ++ l) (frames-records (place + (12 + length b)) bodies)

pub frames-take : (n place : ℕ) (bodies : List (List ℕ)) → take n (frames_at place bodies) ≡ frames_at place (take n bodies)
frames-take zero place bodies = refl
frames-take (suc n) place [] = refl
frames-take (suc n) place (b ∷ bodies) =
    ap (λ (l : List Frame). (let f : Frame = record { end = place + (12 + length b); records = records_of b } in f ∷ l)) (frames-take n (place + (12 + length b)) bodies)

pub frames-some : (place : ℕ) (bodies : List (List ℕ)) → AreSentBodies bodies → AllByRecursion (λ (f : Frame). 1 ≤ length f.records) (frames_at place bodies)
frames-some place [] are = tt
frames-some place (b ∷ bodies) are = ((body-count are.0.head b are.0.frame.of_body).0, frames-some (place + (12 + length b)) bodies are.1)

pub frames-few : (place : ℕ) (bodies : List (List ℕ)) → AreSentBodies bodies → AllByRecursion (λ (f : Frame). length f.records ≤ 255) (frames_at place bodies)
frames-few place [] are = tt
frames-few place (b ∷ bodies) are = ((body-count are.0.head b are.0.frame.of_body).1, frames-few (place + (12 + length b)) bodies are.1)

pub frames-decided : (earlier listed : List Record) (place : ℕ) (bodies : List (List ℕ)) → AreIn earlier listed → AreDecided listed bodies → AllByRecursion (λ (f : Frame). AreIn earlier f.records) (frames_at place bodies)
frames-decided earlier listed place [] wide each = tt
frames-decided earlier listed place (b ∷ bodies) wide each = (in-then earlier listed (records_of b) wide each.0, frames-decided earlier listed (place + (12 + length b)) bodies wide each.1)

-- the frames of what was sent
pub frames-sent : (imei : ℕ) (bodies : List (List ℕ)) → AreSentBodies bodies → frames_of (stream_up imei bodies) ≡ frames_at login_size bodies
frames-sent imei bodies are = ap (λ (s : Stream). s.frames) (stream-frames imei bodies are)

pub counts-size : (bodies : List (List ℕ)) → length (counts_by bodies) ≡ 4 * length bodies
counts-size [] = omega arith
counts-size (b ∷ bodies) = omega (arith, length-append (count_bytes (length (records_of b))) (counts_by bodies), counts-size bodies, four (length (records_of b)))
  where
    four : (n : ℕ) → length (count_bytes n) ≡ 4
    four n = refl
