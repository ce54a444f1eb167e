-- Replies and what fills their rows.
use Rattle.std.proofs.Common.{◌≡◌, ℕ, ◌==◌, ◌&&◌, List, [], ◌∷◌, ◌++◌, true, length, None, refl, sym, ap, subst, ◌∙◌, arith}
use Rattle.std.proofs.lemmas.Bool.Decides.{nat_tests}
use Rattle.std.specs.Int.{bytes_high_first}
use Rattle.avl_values.specs.declared.fault.FaultKind.TheVariants.{DatagramLength}
use Rattle.layout.specs.Bytes.{AreBytes}
use Rattle.layout.specs.Fields.{fault_unless}
use Rattle.layout.specs.Rows.{Rows, done, Fills}
use Rattle.layout.proofs.Filling.{fills_done, done_filled}
use Rattle.record_layout.proofs.Fitting.{passed}
use Rattle.datagrams.specs.DatagramRows.{any_number, numbers_rows, reply_rows}
use Rattle.datagrams.specs.Items.{IsReply}
use Rattle.datagrams.specs.Values.{ReplyValue}
use Rattle.datagrams.proofs.NumbersFills.{byte_fill, byte_take, joined_number, joined_numbers, length_fill, length_take, numbers_fill, numbers_take}

-- after the numbers stands the count
abbrev pub behind_numbers : ℕ → ℕ → ℕ → Rows ReplyValue
behind_numbers packet unused avl_packet = any_number 1 (λ count. done (record { packet = packet; unused = unused; avl_packet = avl_packet; count = count }))

-- the length is five and the bytes are seven
five_of_seven : (n total : ℕ) → n ≡ 5 → total ≡ 7 → fault_unless ((n == 5) && (total == 7)) DatagramLength ≡ None
five_of_seven n total five seven = let t : ((n == 5) && (total == 7)) ≡ true = grind (arith, nat_tests) in ap (λ b. fault_unless b DatagramLength) t

is_five_of_seven : (n total : ℕ) → fault_unless ((n == 5) && (total == 7)) DatagramLength ≡ None → (n ≡ 5) × (total ≡ 7)
is_five_of_seven n total e =
    let t = passed ((n == 5) && (total == 7)) DatagramLength e in
    let five : n ≡ 5 = grind (arith, nat_tests) in
    let seven : total ≡ 7 = grind (arith, nat_tests) in
    (five, seven)

pub reply_size : (v : ReplyValue) (bytes : List ℕ) → IsReply v bytes → length bytes ≡ 7
reply_size v bytes is = ap length is.is

pub reply_fills : (v : ReplyValue) (bytes : List ℕ) → IsReply v bytes → Fills (reply_rows (length bytes)) v bytes
unfolding reply_rows
reply_fills v bytes is =
    let seven = reply_size v bytes is in
    let count : Fills (behind_numbers v.packet v.unused v.avl_packet) v (v.count ∷ []) =
    byte_fill (λ n. done (record { packet = v.packet; unused = v.unused; avl_packet = v.avl_packet; count = n })) v v.count [] is.count (fills_done v) in
    let numbers : Fills (numbers_rows behind_numbers) v (bytes_high_first 2 v.packet ++ v.unused ∷ v.avl_packet ∷ v.count ∷ []) =
    numbers_fill behind_numbers v v.packet v.unused v.avl_packet (v.count ∷ []) is.packet is.unused is.avl_packet count in
    subst (Fills (reply_rows (length bytes)) v) (sym is.is)
    (length_fill (length bytes) 5 (λ n. (n == 5) && (length bytes == 7)) (numbers_rows behind_numbers) v _ (omega (arith, seven)) (omega arith) (five_of_seven 5 (length bytes) refl seven) numbers)

pub fills_reply : (total : ℕ) (v : ReplyValue) (bytes : List ℕ) → AreBytes bytes → Fills (reply_rows total) v bytes → IsReply v bytes
unfolding reply_rows
fills_reply total v bytes p fills =
    let size = length_take total (λ n. (n == 5) && (total == 7)) (numbers_rows behind_numbers) v bytes p fills in
    let numbers = numbers_take behind_numbers v size.more size.bytes_behind size.fills in
    let count = byte_take (λ n. done (record { packet = numbers.packet; unused = numbers.unused; avl_packet = numbers.avl_packet; count = n })) v numbers.more numbers.bytes_behind numbers.fills in
    let w : ReplyValue = record { packet = numbers.packet; unused = numbers.unused; avl_packet = numbers.avl_packet; count = count.n } in
    let end = done_filled w v count.more count.fills in
    let five = (is_five_of_seven size.n total size.passes).0 in
    let last : numbers.more ≡ count.n ∷ [] = count.is ∙ ap (λ b. count.n ∷ b) end.1 in
    let behind : size.more ≡ bytes_high_first 2 numbers.packet ++ numbers.unused ∷ numbers.avl_packet ∷ count.n ∷ [] =
    joined_numbers numbers.packet numbers.unused numbers.avl_packet size.more numbers.more (count.n ∷ []) numbers.is last in
    subst (λ x. IsReply x bytes) {x = w} end.0 (record {
      is = joined_number size.n 5 bytes size.more (bytes_high_first 2 numbers.packet ++ numbers.unused ∷ numbers.avl_packet ∷ count.n ∷ []) size.is five behind;
      packet = numbers.packet_fits;
      unused = numbers.unused_fits;
      avl_packet = numbers.avl_packet_fits;
      count = count.small;
    })
