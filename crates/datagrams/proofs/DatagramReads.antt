-- What a datagram's reading rests on: the verdict on its length, and what its fields say.
use Rattle.std.proofs.Common.{◌≡◌, ℕ, zero, suc, ◌+◌, ◌/◌, ◌%◌, ◌<◌, ◌≤◌, inl, inr, ◌^◌, ◌==◌, Bool, true, false, List, [], ◌∷◌, ◌++◌, length, take, drop, get_or, refl, sym, ap, subst, ◌∙◌, arith, length-take}
use Rattle.std.proofs.Math.Seq.{take-length}
use Rattle.std.proofs.lemmas.Bool.{cases_lt}
use Rattle.std.proofs.lemmas.Bool.Decides.{nat_tests}
use Rattle.std.proofs.lemmas.List.{append-nil}
use Rattle.std.proofs.lemmas.List.Elements.{All-push}
use Rattle.std.proofs.lemmas.Nat.{from_be_bytes-to_be_bytes_2}
use Rattle.std.specs.Int.{from_be_bytes, to_be_bytes, w16}
use Rattle.std.specs.List.{AllPass}
use Rattle.avl_values.specs.Imei.{decimal_places, imei_text, is_digit}
use Rattle.avl_values.specs.declared.fault.FaultKind.TheVariants.{DatagramLength}
use Rattle.layout.specs.Bytes.{AreBytes}
use Rattle.layout.specs.Fields.{fault_unless, number}
use Rattle.layout.specs.Rows.{Rows, body, done, fault, judge, short, whole}
use Rattle.layout.proofs.Exports.{body_fault, body_short, bytes-take, judge_refuse, number_bound, within_refuse}
use Rattle.datagrams.specs.DatagramRows.{after_numbers, datagram_rows, datagram_verdict, length_row, length_rows, numbers_rows}
use Rattle.datagrams.specs.Items.{IsDatagram, content_of, datagram_of}
use Rattle.datagrams.specs.Places.{StandsAt}
use Rattle.datagrams.specs.Values.{DatagramValue}
use Rattle.datagrams.specs.declared.place.DatagramPlace.TheVariants as at
use Rattle.datagrams.proofs.DatagramFills.{datagram_length}
use Rattle.datagrams.proofs.DatagramLaws.{datagram_whole, whole_datagram}
use Rattle.datagrams.proofs.NumbersFills.{no_length, some_length}

-- The length.

pub wrong_length : {V : Type 0} (right : ℕ → Bool) (rows : Rows V) (all : List ℕ) → (2 ≤ length all → right (number (take 2 all)) ≡ false) → judge (body (length all) (length_rows (length all) right rows)) 0 all ≡ fault DatagramLength 0
wrong_length {V = V} right rows all wrong = elim (cases_lt (length all) 2) [
  | inl few ↦
      ap (λ r. judge (body (length all) r) 0 all) (no_length (length all) right rows few)
      ∙ ap (λ r. judge r 0 all) (within_refuse {W = V} (length all) DatagramLength (λ (v : V). done v)) ∙ judge_refuse DatagramLength 0 all
  | inr some ↦
      ap (λ r. judge (body (length all) r) 0 all) (some_length (length all) right rows some)
      ∙ body_fault (length_row right rows) 2 (length all) 0 DatagramLength all refl some some (ap (λ b. fault_unless b DatagramLength) (wrong some))
]

unequal : (a b : ℕ) → (a ≡ b → ⊥) → (a == b) ≡ false
unequal a b h = grind (arith, nat_tests)

-- two bytes spell no greater length
pub no_datagram : (all : List ℕ) → AreBytes all → (2 ≤ length all → 65537 < length all) → datagram_verdict (length all) all ≡ fault DatagramLength 0
unfolding datagram_verdict datagram_rows
no_datagram all p many =
    wrong_length (λ n. n + 2 == length all) (numbers_rows after_numbers) all
    (λ some. let two : length (take 2 all) ≡ 2 = omega (arith, length-take 2 all, some) in unequal (number (take 2 all) + 2) (length all) (λ e. omega (arith, e, many some, number_bound 2 (take 2 all) (bytes-take 2 all p) two)))

-- before the length all of a datagram is left
pub stands_first : (total : ℕ) → 2 ≤ total → StandsAt (at.Length total) (datagram_rows total)
unfolding datagram_rows
stands_first total some = some_length total (λ n. n + 2 == total) (numbers_rows after_numbers) some

-- The verdict on all its bytes.

pub verdict_is : (all : List ℕ) → datagram_verdict (length all) all ≡ judge (body (length all) (datagram_rows (length all))) 0 all
unfolding datagram_verdict
verdict_is all = refl

pub never_short : (all : List ℕ) → judge (body (length all) (datagram_rows (length all))) 0 all ≡ short → ⊥
never_short all e = let few = body_short (datagram_rows (length all)) (length all) 0 all e in absurd (omega arith)

pub datagram_there : (v : DatagramValue) (all : List ℕ) → AreBytes all → judge (body (length all) (datagram_rows (length all))) 0 all ≡ whole v (length all) → IsDatagram v all
datagram_there v all p e = let t = whole_datagram (length all) (length all) v all p (verdict_is all ∙ e) in subst (IsDatagram v) (take-length all) t.2

pub datagram_read : (v : DatagramValue) (bytes : List ℕ) → IsDatagram v bytes → datagram_verdict (length bytes) bytes ≡ whole v (length bytes)
datagram_read v bytes is = ap (datagram_verdict (length bytes)) (sym (append-nil bytes)) ∙ datagram_whole v bytes [] is

-- What its fields say, each at its place.

pub digits_pass : (k n : ℕ) → AllPass is_digit (decimal_places k n)
unfolding decimal_places
digits_pass zero n = λ k d lt. absurd (omega arith)
digits_pass (suc k) n =
    let d = n % 10 in
    let digit : is_digit (48 + d) ≡ true = grind (arith, nat_tests) in
    All-push (λ x. is_digit x ≡ true) (decimal_places k (n / 10)) (48 + d) (digits_pass k (n / 10)) digit

abbrev pub fields : List ℕ → ℕ → DatagramValue
fields bytes imei = record {
  packet = from_be_bytes w16 (get_or (take 8 bytes) 2 0 ∷ get_or (take 8 bytes) 3 0 ∷ []);
  unused = get_or (take 8 bytes) 4 0;
  avl_packet = get_or (take 8 bytes) 5 0;
  imei = imei;
  body = drop 15 (drop 8 bytes);
}

pub long_enough : (v : DatagramValue) (bytes : List ℕ) → IsDatagram v bytes → 23 ≤ length bytes
long_enough v bytes is = omega (arith, ap length is.is, datagram_length v)

digits_of : (v : DatagramValue) → take 15 (drop 8 (datagram_of v)) ≡ imei_text v.imei
unfolding decimal_places
digits_of v = refl

pub digits_there : (v : DatagramValue) (bytes : List ℕ) → IsDatagram v bytes → take 15 (drop 8 bytes) ≡ imei_text v.imei
digits_there v bytes is = ap (λ b. take 15 (drop 8 b)) is.is ∙ digits_of v

fields_of : (v : DatagramValue) (imei : ℕ) → v.packet < 2 ^ 16 → fields (datagram_of v) imei ≡ record v { imei = imei }
unfolding decimal_places
fields_of v imei small = ap (λ (p : ℕ). let w : DatagramValue = record { packet = p; unused = v.unused; avl_packet = v.avl_packet; imei = imei; body = v.body } in w) (from_be_bytes-to_be_bytes_2 v.packet small)

-- the same digits are of the same datagram
pub said_again : (v : DatagramValue) (bytes : List ℕ) (imei : ℕ) → IsDatagram v bytes → imei < 10 ^ 15 → imei_text imei ≡ take 15 (drop 8 bytes) → IsDatagram (fields bytes imei) bytes
said_again v bytes imei is small text =
    let same : imei_text imei ≡ imei_text v.imei = text ∙ digits_there v bytes is in
    let w : DatagramValue = record v { imei = imei } in
    let content : content_of w ≡ content_of v = ap (λ t. to_be_bytes w16 v.packet ++ v.unused ∷ v.avl_packet ∷ (0 ∷ 15 ∷ (t ++ v.body))) same in
    let named : w ≡ fields bytes imei = sym (ap (λ b. fields b imei) is.is ∙ fields_of v imei is.packet) in
    subst (λ x. IsDatagram x bytes) {x = w} named (record {
      is = is.is ∙ ap (λ c. to_be_bytes w16 (length c) ++ c) (sym content);
      head = is.head;
      of_body = is.of_body;
      packet = is.packet;
      unused = is.unused;
      avl_packet = is.avl_packet;
      imei = small;
      fits = subst (λ c. length c < 2 ^ 16) (sym content) is.fits;
      are_bytes = is.are_bytes;
    })
