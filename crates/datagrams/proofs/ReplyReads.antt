-- The verdict on a reply's bytes, all of which are there.
use Rattle.std.proofs.Common.{◌≡◌, ℕ, ◌+◌, ◌*◌, ◌<◌, ◌≤◌, ◌==◌, ◌&&◌, false, List, [], ◌∷◌, ◌++◌, length, take, refl, sym, ap, ◌∙◌, arith, get_or}
use Rattle.std.proofs.lemmas.Bool.Decides.{nat_tests}
use Rattle.std.proofs.lemmas.List.{append-nil}
use Rattle.std.specs.Int.{bytes_high_first, from_be_bytes, w16}
use Rattle.avl_values.specs.declared.fault.FaultKind.TheVariants.{DatagramLength}
use Rattle.layout.specs.Bytes.{AreBytes}
use Rattle.layout.specs.Fields.{number}
use Rattle.layout.specs.Rows.{fault, whole}
use Rattle.layout.proofs.Numbers.{number_bound, spell_number}
use Rattle.datagrams.specs.DatagramRows.{numbers_rows, reply_rows, reply_verdict}
use Rattle.datagrams.specs.Items.{IsReply}
use Rattle.datagrams.specs.Values.{ReplyValue}
use Rattle.datagrams.proofs.DatagramLaws.{reply_whole}
use Rattle.datagrams.proofs.DatagramReads.{wrong_length}
use Rattle.datagrams.proofs.ReplyFills.{behind_numbers}

-- seven bytes, one by one
record Seven (bytes : List ℕ) : Type 0 where
  pub is : bytes ≡ get_or bytes 0 0 ∷ get_or bytes 1 0 ∷ get_or bytes 2 0 ∷ get_or bytes 3 0 ∷ get_or bytes 4 0 ∷ get_or bytes 5 0 ∷ get_or bytes 6 0 ∷ []

seven : (bytes : List ℕ) → length bytes ≡ 7 → Seven bytes
seven [] e = absurd (omega arith)
seven (a ∷ []) e = absurd (omega arith)
seven (a ∷ b ∷ []) e = absurd (omega arith)
seven (a ∷ b ∷ c ∷ []) e = absurd (omega arith)
seven (a ∷ b ∷ c ∷ d ∷ []) e = absurd (omega arith)
seven (a ∷ b ∷ c ∷ d ∷ f ∷ []) e = absurd (omega arith)
seven (a ∷ b ∷ c ∷ d ∷ f ∷ g ∷ []) e = absurd (omega arith)
seven (a ∷ b ∷ c ∷ d ∷ f ∷ g ∷ h ∷ []) e = record { is = refl }
seven (a ∷ b ∷ c ∷ d ∷ f ∷ g ∷ h ∷ i ∷ more) e = absurd (omega arith)

of_two : (a b : ℕ) → from_be_bytes w16 (a ∷ b ∷ []) ≡ a * 256 + b
of_two a b = omega arith

pair_number : (a b : ℕ) → number (a ∷ b ∷ []) ≡ a * 256 + b
pair_number a b = omega arith

-- another length than seven, or another in the first two bytes than five

not_seven : (n total : ℕ) → (total ≡ 7 → ⊥) → ((n == 5) && (total == 7)) ≡ false
not_seven n total h = grind (arith, nat_tests)

not_five : (n total : ℕ) → (n ≡ 5 → ⊥) → ((n == 5) && (total == 7)) ≡ false
not_five n total h = grind (arith, nat_tests)

reply_wrong : (bytes : List ℕ) → (2 ≤ length bytes → ((number (take 2 bytes) == 5) && (length bytes == 7)) ≡ false) → reply_verdict (length bytes) bytes ≡ fault DatagramLength 0
unfolding reply_verdict reply_rows
reply_wrong bytes wrong = wrong_length (λ n. (n == 5) && (length bytes == 7)) (numbers_rows behind_numbers) bytes wrong

pub reply_not_seven : (bytes : List ℕ) → (length bytes ≡ 7 → ⊥) → reply_verdict (length bytes) bytes ≡ fault DatagramLength 0
reply_not_seven bytes h = reply_wrong bytes (λ some. not_seven (number (take 2 bytes)) (length bytes) h)

first_two : (bytes : List ℕ) → length bytes ≡ 7 → number (take 2 bytes) ≡ get_or bytes 0 0 * 256 + get_or bytes 1 0
first_two bytes e = ap (λ b. number (take 2 b)) (seven bytes e).is ∙ pair_number (get_or bytes 0 0) (get_or bytes 1 0)

pub reply_not_five : (bytes : List ℕ) (n : ℕ) → length bytes ≡ 7 → n ≡ from_be_bytes w16 (get_or bytes 0 0 ∷ get_or bytes 1 0 ∷ []) → (n ≡ 5 → ⊥) → reply_verdict (length bytes) bytes ≡ fault DatagramLength 0
reply_not_five bytes n e is h =
    let same : n ≡ number (take 2 bytes) = is ∙ of_two (get_or bytes 0 0) (get_or bytes 1 0) ∙ sym (first_two bytes e) in
    reply_wrong bytes (λ some. not_five (number (take 2 bytes)) (length bytes) (λ five. h (same ∙ five)))

-- a reply

pub reply_said : (bytes : List ℕ) (n packet : ℕ) → ((i : ℕ) → get_or bytes i 0 < 256) → length bytes ≡ 7 → n ≡ from_be_bytes w16 (get_or bytes 0 0 ∷ get_or bytes 1 0 ∷ []) → n ≡ 5 → packet ≡ from_be_bytes w16 (get_or bytes 2 0 ∷ get_or bytes 3 0 ∷ [])
    → IsReply (let v : ReplyValue = record { packet = packet; unused = get_or bytes 4 0; avl_packet = get_or bytes 5 0; count = get_or bytes 6 0 } in v) bytes
reply_said bytes n packet p e first five second =
    let a = get_or bytes 0 0 in
    let b = get_or bytes 1 0 in
    let c = get_or bytes 2 0 in
    let d = get_or bytes 3 0 in
    let rest = get_or bytes 4 0 ∷ get_or bytes 5 0 ∷ get_or bytes 6 0 ∷ [] in
    let told : a * 256 + b ≡ 5 = sym (of_two a b) ∙ sym first ∙ five in
    let zero_is : a ≡ 0 = omega (arith, told) in
    let five_is : b ≡ 5 = omega (arith, told) in
    let both : AreBytes (c ∷ d ∷ []) = (p 2, (p 3, tt)) in
    let value : packet ≡ number (c ∷ d ∷ []) = second ∙ of_two c d ∙ sym (pair_number c d) in
    let spelled : c ∷ d ∷ [] ≡ bytes_high_first 2 packet = sym (ap (bytes_high_first 2) value ∙ spell_number 2 (c ∷ d ∷ []) both refl) in
    record {
      is = (seven bytes e).is ∙ ap (λ x. x ∷ b ∷ c ∷ d ∷ rest) zero_is ∙ ap (λ x. 0 ∷ x ∷ c ∷ d ∷ rest) five_is ∙ ap (λ f. 0 ∷ 5 ∷ (f ++ rest)) spelled;
      packet = omega (arith, value, number_bound 2 (c ∷ d ∷ []) both refl);
      unused = p 4;
      avl_packet = p 5;
      count = p 6;
    }

pub reply_read : (v : ReplyValue) (bytes : List ℕ) → IsReply v bytes → reply_verdict (length bytes) bytes ≡ whole v (length bytes)
reply_read v bytes is = ap (reply_verdict (length bytes)) (sym (append-nil bytes)) ∙ reply_whole v bytes [] is
