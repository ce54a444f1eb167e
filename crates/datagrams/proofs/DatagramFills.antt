-- Datagrams and what fills their rows.
use Rattle.std.proofs.Common.{◌≡◌, ℕ, zero, suc, ◌+◌, ◌/◌, ◌%◌, ◌==◌, List, [], ◌∷◌, ◌++◌, length, refl, sym, ap, subst, ◌∙◌, arith, length-append}
use Rattle.std.specs.Int.{bytes_high_first}
use Rattle.avl_values.specs.Imei.{decimal_places, imei_text}
use Rattle.avl_values.specs.declared.fault.FaultKind.TheVariants.{DatagramLength}
use Rattle.layout.specs.Bytes.{AreBytes}
use Rattle.layout.specs.Nested.{with_bytes}
use Rattle.layout.specs.Rows.{Fills}
use Rattle.layout.proofs.Numbers.{length_spell}
use Rattle.layout.proofs.MappedLaws.{map_fill, map_take}
use Rattle.record_layout.specs.PacketRows.{packet_rows}
use Rattle.record_layout.specs.declared.head.PacketHead.{PacketHead}
use Rattle.record_layout.proofs.Fitting.{exactly, is_exactly}
use Rattle.record_layout.specs.Body.{IsBody}
use Rattle.frame_layout.specs.Items.{login_of}
use Rattle.frame_layout.proofs.LoginFills.{login_fill, login_take}
use Rattle.frame_layout.proofs.SaidBytes.{said, saying}
use Rattle.frame_layout.proofs.KindFills.{body_fills, filled_body}
use Rattle.datagrams.specs.DatagramRows.{after_numbers, body_rows, datagram_rows, numbers_rows}
use Rattle.datagrams.specs.Items.{IsDatagram, content_of, datagram_of}
use Rattle.datagrams.specs.Values.{DatagramValue}
use Rattle.datagrams.proofs.NumbersFills.{joined_number, joined_numbers, length_fill, length_take, numbers_fill, numbers_take}

-- The data body.

body_fill : (says : List ℕ → DatagramValue) (head : PacketHead) (body : List ℕ) → IsBody head body → Fills (body_rows says) (says body) body
body_fill says head body is = map_fill (λ b. says b.1) (with_bytes [] packet_rows) (head, body) body (saying packet_rows [] head body body refl (body_fills head body is))

record TakenBody (says : List ℕ → DatagramValue) (v : DatagramValue) (bytes : List ℕ) : Type 0 where
  pub head : PacketHead
  pub value : says bytes ≡ v
  pub is : IsBody head bytes

body_take : (says : List ℕ → DatagramValue) (v : DatagramValue) (bytes : List ℕ) → AreBytes bytes → Fills (body_rows says) v bytes → TakenBody says v bytes
body_take says v bytes p fills =
    let t = map_take (λ b. says b.1) (with_bytes [] packet_rows) v bytes fills in
    let s = said packet_rows [] t.0 bytes t.2 in
    record { head = t.0.0; value = ap says (sym s.1) ∙ t.1; is = filled_body t.0.0 bytes p s.0 }

-- The whole datagram.

places_length : (k n : ℕ) → length (decimal_places k n) ≡ k
unfolding decimal_places
places_length zero n = refl
places_length (suc k) n = omega (arith, length-append (decimal_places k (n / 10)) ((48 + n % 10) ∷ []), places_length k (n / 10))

pub datagram_length : (v : DatagramValue) → length (datagram_of v) ≡ 23 + length v.body
datagram_length v = omega (arith, length-append (imei_text v.imei) v.body, places_length 15 v.imei)

pub datagram_size : (v : DatagramValue) → length (datagram_of v) ≡ 2 + length (content_of v)
datagram_size v = omega (arith, length-append (bytes_high_first 2 (length (content_of v))) (content_of v), length_spell 2 (length (content_of v)))

pub datagram_fills : (v : DatagramValue) (bytes : List ℕ) → IsDatagram v bytes → Fills (datagram_rows (length bytes)) v bytes
unfolding datagram_rows
datagram_fills v bytes is =
    let size = datagram_size v in
    let n = length (content_of v) in
    let total : n + 2 ≡ length bytes = omega (arith, size, ap length is.is) in
    let body = body_fill (λ b. record { packet = v.packet; unused = v.unused; avl_packet = v.avl_packet; imei = v.imei; body = b }) is.head v.body is.of_body in
    let login : Fills (after_numbers v.packet v.unused v.avl_packet) v (login_of v.imei ++ v.body) =
    login_fill (λ imei. body_rows (λ b. record { packet = v.packet; unused = v.unused; avl_packet = v.avl_packet; imei = imei; body = b })) v.imei v v.body is.imei body in
    let numbers : Fills (numbers_rows after_numbers) v (content_of v) = numbers_fill after_numbers v v.packet v.unused v.avl_packet (login_of v.imei ++ v.body) is.packet is.unused is.avl_packet login in
    subst (Fills (datagram_rows (length bytes)) v) (sym is.is)
    (length_fill (length bytes) n (λ k. k + 2 == length bytes) (numbers_rows after_numbers) v (content_of v) (omega (arith, total)) is.fits (exactly (n + 2) (length bytes) DatagramLength total) numbers)

pub fills_datagram : (total : ℕ) (v : DatagramValue) (bytes : List ℕ) → AreBytes bytes → length bytes ≡ total → Fills (datagram_rows total) v bytes → IsDatagram v bytes
unfolding datagram_rows
fills_datagram total v bytes p len fills =
    let size = length_take total (λ k. k + 2 == total) (numbers_rows after_numbers) v bytes p fills in
    let numbers = numbers_take after_numbers v size.more size.bytes_behind size.fills in
    let login = login_take (λ imei. body_rows (λ b. record { packet = numbers.packet; unused = numbers.unused; avl_packet = numbers.avl_packet; imei = imei; body = b })) v numbers.more numbers.bytes_behind numbers.fills in
    let body = body_take (λ b. record { packet = numbers.packet; unused = numbers.unused; avl_packet = numbers.avl_packet; imei = login.imei; body = b }) v login.more login.bytes_behind login.fills in
    let w : DatagramValue = record { packet = numbers.packet; unused = numbers.unused; avl_packet = numbers.avl_packet; imei = login.imei; body = login.more } in
    let content : size.more ≡ content_of w = joined_numbers numbers.packet numbers.unused numbers.avl_packet size.more numbers.more (login_of login.imei ++ login.more) numbers.is login.is in
    let right : size.n + 2 ≡ total = is_exactly (size.n + 2) total DatagramLength size.passes in
    let n : size.n ≡ length (content_of w) = omega (arith, right, len, ap length size.is, length-append (bytes_high_first 2 size.n) size.more, length_spell 2 size.n, ap length {y = content_of w} content) in
    subst (λ x. IsDatagram x bytes) {x = w} body.value (record {
      is = joined_number size.n (length (content_of w)) bytes size.more (content_of w) size.is n content;
      head = body.head;
      of_body = body.is;
      packet = numbers.packet_fits;
      unused = numbers.unused_fits;
      avl_packet = numbers.avl_packet_fits;
      imei = login.small;
      fits = omega (arith, n, size.small);
      are_bytes = login.bytes_behind;
    })
