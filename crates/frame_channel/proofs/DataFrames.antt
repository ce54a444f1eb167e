-- A data frame at the front of a piece, which is taken at once.
use Rattle.std.proofs.Common.{◌≡◌, ℕ, ◌+◌, ◌<◌, ◌≤◌, Bool, true, List, [], ◌∷◌, ◌++◌, length, take, drop, refl, sym, ap, subst, ◌∙◌, arith, length-append, append_assoc}
use Rattle.std.proofs.Math.Seq.{drop-append_seam, take-append_seam}
use Rattle.std.proofs.lemmas.List.{append-nil, length-take-le, take-append-drop, take-take}
use Rattle.std.specs.Int.{to_be_bytes, w16, w32}
use Rattle.crc_field.specs.Crc.{crc_of}
use Rattle.layout.specs.Rows.{Verdict, fault, short, whole}
use Rattle.layout.specs.Bytes.{AreBytes}
use Rattle.layout.proofs.Numbers.{bytes-drop, bytes-take}
use Rattle.layout.proofs.RowLaws.{filled}
use Rattle.record_layout.specs.declared.head.PacketHead.{PacketHead}
use Rattle.frame_layout.specs.Items.{frame_of}
use Rattle.frame_layout.specs.UpRows.{up_rows, up_verdict}
use Rattle.frame_layout.specs.Values.{UpValue, packet}
use Rattle.record_layout.specs.Body.{IsBody}
use Rattle.frame_layout.proofs.UpLaws.{up_stays, up_whole}
use Rattle.frame_channel.specs.DataFrames.{BeginsWith, BeginsWithBody, IsNext}
use Rattle.item_streams.specs.Readers.{Reader, item}
use Rattle.item_streams.specs.Readers as readers
use Rattle.frame_channel.specs.UpPushes.{PushedUp}
use Rattle.frame_channel.specs.declared.up_item.UpItem.TheVariants as items

-- The parts of a frame are the frame.

pub parts : (bytes body behind : List ℕ) (n : ℕ) → AreBytes bytes → take 8 bytes ≡ 0 ∷ 0 ∷ 0 ∷ 0 ∷ to_be_bytes w32 n → body ≡ take n (drop 8 bytes) → behind ≡ drop n (drop 8 bytes)
    → length body ≡ n → n ≤ 65535 → BeginsWithBody body behind bytes
parts bytes body behind n p front is rest size few =
    let back : body ++ behind ≡ drop 8 bytes = ap (λ b. b ++ behind) is ∙ ap (λ r. take n (drop 8 bytes) ++ r) rest ∙ take-append-drop n (drop 8 bytes) in
    record {
      is = sym (take-append-drop 8 bytes) ∙ ap (λ f. f ++ drop 8 bytes) front ∙ ap (λ r. 0 ∷ 0 ∷ 0 ∷ 0 ∷ (to_be_bytes w32 n ++ r)) (sym back) ∙ ap (λ k. 0 ∷ 0 ∷ 0 ∷ 0 ∷ (to_be_bytes w32 k ++ (body ++ behind))) (sym size);
      few = omega (arith, size);
      are_bytes = subst AreBytes (sym is) (bytes-take n (drop 8 bytes) (bytes-drop 8 bytes p));
    }

-- what begins with the checksum's field
pub ended : (crc : ℕ) (behind : List ℕ) → take 4 behind ≡ 0 ∷ 0 ∷ to_be_bytes w16 crc → behind ≡ 0 ∷ 0 ∷ (to_be_bytes w16 crc ++ drop 4 behind)
ended crc behind front = sym (take-append-drop 4 behind) ∙ ap (λ f. f ++ drop 4 behind) front

frame_long : (body : List ℕ) → length (frame_of body) ≡ 12 + length body
frame_long body = omega (arith, length-append (to_be_bytes w32 (length body)) (body ++ 0 ∷ 0 ∷ to_be_bytes w16 (crc_of body)), length-append body (0 ∷ 0 ∷ to_be_bytes w16 (crc_of body)))

pub frame_stands : (head : PacketHead) (body behind bytes more : List ℕ) → BeginsWithBody body behind bytes → behind ≡ 0 ∷ 0 ∷ (to_be_bytes w16 (crc_of body) ++ more)
    → IsBody head body → BeginsWith head body bytes
frame_stands head body behind bytes more b ends accepted =
    let sum = to_be_bytes w16 (crc_of body) in
    let size = to_be_bytes w32 (length body) in
    let back : body ++ behind ≡ (body ++ 0 ∷ 0 ∷ sum) ++ more = ap (λ t. body ++ t) ends ∙ sym (append_assoc body (0 ∷ 0 ∷ sum) more) in
    let all : bytes ≡ frame_of body ++ more =
    b.is ∙ ap (λ t. 0 ∷ 0 ∷ 0 ∷ 0 ∷ (size ++ t)) back ∙ ap (λ t. 0 ∷ 0 ∷ 0 ∷ 0 ∷ t) (sym (append_assoc size (body ++ 0 ∷ 0 ∷ sum) more)) in
    let n = frame_long body in
    record {
      fits = omega (arith, ap length all, length-append (frame_of body) more);
      is = record {
        is = ap (λ k. take k bytes) (sym n) ∙ ap (take (length (frame_of body))) all ∙ take-append_seam (frame_of body) more;
        of_body = accepted;
        fits = b.few;
        are_bytes = b.are_bytes;
      };
    }

-- Before the last byte of an item its verdict is short.

before : (after_login : Bool) (v : UpValue) (bytes : List ℕ) (k : ℕ) (w : Verdict UpValue) → up_verdict after_login bytes ≡ whole v (length bytes) → k < length bytes
    → up_verdict after_login (take k bytes) ≡ w → up_verdict after_login (take k bytes) ≡ short
before after_login v bytes k short is below e = e
before after_login v bytes k (whole w n) is below e =
    let f = filled (up_rows after_login) 0 n w (take k bytes) e in
    let stays : up_verdict after_login (take k bytes ++ drop k bytes) ≡ up_verdict after_login (take k bytes) = up_stays after_login (take k bytes) (drop k bytes) (λ s. absurd (let never = sym e ∙ s in cc)) in
    let same : whole v (length bytes) ≡ whole w n = sym is ∙ ap (up_verdict after_login) (sym (take-append-drop k bytes)) ∙ stays ∙ e in
    let end : length bytes ≡ n = cc in
    absurd (omega (arith, f.1, f.2, length-take-le k bytes (omega arith)))
before after_login v bytes k (fault kind place) is below e =
    let stays : up_verdict after_login (take k bytes ++ drop k bytes) ≡ up_verdict after_login (take k bytes) = up_stays after_login (take k bytes) (drop k bytes) (λ s. absurd (let never = sym e ∙ s in cc)) in
    let same : whole v (length bytes) ≡ fault kind place = sym is ∙ ap (up_verdict after_login) (sym (take-append-drop k bytes)) ∙ stays ∙ e in
    absurd (cc)

-- The frame that is the next item is taken.

pub taken : (old : Reader) (head : PacketHead) (body piece : List ℕ) → IsNext old head body piece → PushedUp old (record old { body = body }) piece (12 + length body) (items.Packet head)
taken old head body piece next =
    let n = 12 + length body in
    let bytes = take n piece in
    let len : length bytes ≡ n = length-take-le n piece next.begins.fits in
    let have : old.have ++ bytes ≡ bytes = ap (λ h. h ++ bytes) next.none in
    let judged : up_verdict true bytes ≡ whole (packet head body) (length bytes) = ap (up_verdict true) (sym (append-nil bytes)) ∙ up_whole true (packet head body) bytes [] next.begins.is in
    let place : old.after_first ≡ true = next.after_login in
    record {
      within_piece = next.begins.fits;
      some = λ some. omega arith;
      verdict = ap (λ b. up_verdict b (old.have ++ bytes)) place ∙ ap (up_verdict true) have ∙ judged ∙ ap (λ (x : List ℕ). whole (packet head body) (length x)) (sym have);
      first = λ k below.
          let front : take k bytes ≡ take k piece = take-take k n piece (omega arith) in
          ap (λ b. up_verdict b (old.have ++ take k piece)) place ∙ ap (λ h. up_verdict true (h ++ take k piece)) next.none ∙ ap (up_verdict true) (sym front)
          ∙ before true (packet head body) bytes k (up_verdict true (take k bytes)) judged (omega (arith, len)) refl;
      all_for_more = λ is_more. absurd (let never : item (packet head body) ≡ readers.more = is_more in cc);
      state = ap (λ (h : List ℕ). (let s : Reader = record { have = h; after_first = old.after_first; failed = old.failed; body = body } in s)) next.none
          ∙ ap (λ (b : Bool). (let s : Reader = record { have = []; after_first = b; failed = old.failed; body = body } in s)) place;
    }

-- a body after the first eight bytes of a buffer
pub lent : (last body behind : List ℕ) → 8 ≤ length last → take (length body) (drop 8 (take 8 last ++ (body ++ behind))) ≡ body
lent last body behind room =
    let front = take 8 last in
    let eight : length front ≡ 8 = length-take-le 8 last room in
    ap (λ k. take (length body) (drop k (front ++ (body ++ behind)))) (sym eight) ∙ ap (take (length body)) (drop-append_seam front (body ++ behind)) ∙ take-append_seam body behind
