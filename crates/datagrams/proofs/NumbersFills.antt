-- The numbers of a datagram and of a reply, and what fills their rows.
use Rattle.std.proofs.Common.{◌≡◌, ℕ, ◌<◌, ◌≤◌, ◌^◌, Bool, true, false, List, ◌∷◌, ◌++◌, None, refl, sym, ap, subst, ◌∙◌, arith, if◌then◌else◌}
use Rattle.std.specs.Prelude.{nat_lt}
use Rattle.std.proofs.lemmas.Bool.{lt-ltb, le-ltb}
use Rattle.std.specs.Int.{bytes_high_first}
use Rattle.avl_values.specs.declared.fault.FaultKind.TheVariants.{DatagramLength}
use Rattle.layout.specs.Bytes.{AreBytes}
use Rattle.layout.specs.Fields.{fault_unless}
use Rattle.layout.specs.Rows.{Rows, refuse, Fills}
use Rattle.layout.proofs.Filling.{no_refusal}
use Rattle.layout.proofs.NumberFills.{number_fill, number_take, spell-one}
use Rattle.datagrams.specs.DatagramRows.{any_number, length_row, length_rows, numbers_rows}

-- Bytes put together.

joined_byte : (n : ℕ) (bytes more tail : List ℕ) → bytes ≡ n ∷ more → more ≡ tail → bytes ≡ n ∷ tail
joined_byte n bytes more tail is same = is ∙ ap (λ b. n ∷ b) same

pub joined_number : (n m : ℕ) (bytes more tail : List ℕ) → bytes ≡ bytes_high_first 2 n ++ more → n ≡ m → more ≡ tail → bytes ≡ bytes_high_first 2 m ++ tail
joined_number n m bytes more tail is number same = is ∙ ap (λ k. bytes_high_first 2 k ++ more) number ∙ ap (λ b. bytes_high_first 2 m ++ b) same

pub joined_numbers : (packet unused avl_packet : ℕ) (bytes more tail : List ℕ) → bytes ≡ bytes_high_first 2 packet ++ unused ∷ avl_packet ∷ more → more ≡ tail → bytes ≡ bytes_high_first 2 packet ++ unused ∷ avl_packet ∷ tail
joined_numbers packet unused avl_packet bytes more tail is same = is ∙ ap (λ b. bytes_high_first 2 packet ++ unused ∷ avl_packet ∷ b) same

one_byte : (n : ℕ) (bytes more : List ℕ) → bytes ≡ bytes_high_first 1 n ++ more → n < 256 → bytes ≡ n ∷ more
one_byte n bytes more is small = is ∙ ap (λ b. b ++ more) (spell-one n small)

-- a byte

pub byte_fill : {V : Type 0} (rest : ℕ → Rows V) (v : V) (n : ℕ) (more : List ℕ) → n < 256 → Fills (rest n) v more → Fills (any_number 1 rest) v (n ∷ more)
byte_fill rest v n more small fills = subst (λ b. Fills (any_number 1 rest) v (b ++ more)) (spell-one n small) (number_fill 1 (λ _. None) rest v n more (omega arith) refl fills)

pub record TakenByte {V : Type 0} (rest : ℕ → Rows V) (v : V) (bytes : List ℕ) : Type 0 where
  pub n : ℕ
  pub more : List ℕ
  pub is : bytes ≡ n ∷ more
  pub small : n < 256
  pub fills : Fills (rest n) v more
  pub bytes_behind : AreBytes more

pub byte_take : {V : Type 0} (rest : ℕ → Rows V) (v : V) (bytes : List ℕ) → AreBytes bytes → Fills (any_number 1 rest) v bytes → TakenByte rest v bytes
byte_take rest v bytes p fills =
    let t = number_take 1 (λ _. None) rest v bytes p fills in
    record { n = t.n; more = t.more; is = one_byte t.n bytes t.more t.is (omega (arith, t.bound)); small = omega (arith, t.bound); fills = t.fills; bytes_behind = t.bytes_behind }

-- the three numbers

pub numbers_fill : {V : Type 0} (rest : ℕ → ℕ → ℕ → Rows V) (v : V) (packet unused avl_packet : ℕ) (more : List ℕ) → packet < 2 ^ 16 → unused < 256 → avl_packet < 256 → Fills (rest packet unused avl_packet) v more
    → Fills (numbers_rows rest) v (bytes_high_first 2 packet ++ unused ∷ avl_packet ∷ more)
numbers_fill rest v packet unused avl_packet more p u a fills =
    number_fill 2 (λ _. None) (λ n. any_number 1 (λ m. any_number 1 (λ k. rest n m k))) v packet (unused ∷ avl_packet ∷ more) (omega arith) refl
    (byte_fill (λ m. any_number 1 (λ k. rest packet m k)) v unused (avl_packet ∷ more) u (byte_fill (λ k. rest packet unused k) v avl_packet more a fills))

pub record TakenNumbers {V : Type 0} (rest : ℕ → ℕ → ℕ → Rows V) (v : V) (bytes : List ℕ) : Type 0 where
  pub packet : ℕ
  pub unused : ℕ
  pub avl_packet : ℕ
  pub more : List ℕ
  pub is : bytes ≡ bytes_high_first 2 packet ++ unused ∷ avl_packet ∷ more
  pub packet_fits : packet < 2 ^ 16
  pub unused_fits : unused < 256
  pub avl_packet_fits : avl_packet < 256
  pub fills : Fills (rest packet unused avl_packet) v more
  pub bytes_behind : AreBytes more

pub numbers_take : {V : Type 0} (rest : ℕ → ℕ → ℕ → Rows V) (v : V) (bytes : List ℕ) → AreBytes bytes → Fills (numbers_rows rest) v bytes → TakenNumbers rest v bytes
numbers_take rest v bytes p fills =
    let packet = number_take 2 (λ _. None) (λ n. any_number 1 (λ m. any_number 1 (λ k. rest n m k))) v bytes p fills in
    let unused = byte_take (λ m. any_number 1 (λ k. rest packet.n m k)) v packet.more packet.bytes_behind packet.fills in
    let avl = byte_take (λ k. rest packet.n unused.n k) v unused.more unused.bytes_behind unused.fills in
    record {
      packet = packet.n;
      unused = unused.n;
      avl_packet = avl.n;
      more = avl.more;
      is = joined_number packet.n packet.n bytes packet.more (unused.n ∷ avl.n ∷ avl.more) packet.is refl (joined_byte unused.n packet.more unused.more (avl.n ∷ avl.more) unused.is avl.is);
      packet_fits = omega (arith, packet.bound);
      unused_fits = unused.small;
      avl_packet_fits = avl.small;
      fills = avl.fills;
      bytes_behind = avl.bytes_behind;
    }

-- the length

pub no_length : {V : Type 0} (total : ℕ) (right : ℕ → Bool) (rest : Rows V) → total < 2 → length_rows total right rest ≡ refuse DatagramLength
no_length {V = V} total right rest few =
    let some : Rows V = length_row right rest in
    ap (λ b. if b then refuse DatagramLength else some) (lt-ltb total 2 few)

pub some_length : {V : Type 0} (total : ℕ) (right : ℕ → Bool) (rest : Rows V) → 2 ≤ total → length_rows total right rest ≡ length_row right rest
some_length {V = V} total right rest some =
    let rows : Rows V = length_row right rest in
    ap (λ b. if b then refuse DatagramLength else rows) (le-ltb total 2 some)

pub length_fill : {V : Type 0} (total n : ℕ) (right : ℕ → Bool) (rest : Rows V) (v : V) (more : List ℕ) → 2 ≤ total → n < 2 ^ 16 → fault_unless (right n) DatagramLength ≡ None → Fills rest v more
    → Fills (length_rows total right rest) v (bytes_high_first 2 n ++ more)
length_fill total n right rest v more some small passes fills =
    subst (λ r. Fills r v (bytes_high_first 2 n ++ more)) (sym (some_length total right rest some)) (number_fill 2 (λ k. fault_unless (right k) DatagramLength) (λ _. rest) v n more (omega arith) passes fills)

pub record TakenLength {V : Type 0} (right : ℕ → Bool) (rest : Rows V) (v : V) (bytes : List ℕ) : Type 0 where
  pub n : ℕ
  pub more : List ℕ
  pub is : bytes ≡ bytes_high_first 2 n ++ more
  pub small : n < 2 ^ 16
  pub passes : fault_unless (right n) DatagramLength ≡ None
  pub fills : Fills rest v more
  pub bytes_behind : AreBytes more

length_by : {V : Type 0} (right : ℕ → Bool) (rest : Rows V) (v : V) (bytes : List ℕ) → AreBytes bytes → Fills (length_row right rest) v bytes → TakenLength right rest v bytes
length_by right rest v bytes p fills =
    let t = number_take 2 (λ n. fault_unless (right n) DatagramLength) (λ _. rest) v bytes p fills in
    record { n = t.n; more = t.more; is = t.is; small = omega (arith, t.bound); passes = t.passes; fills = t.fills; bytes_behind = t.bytes_behind }

length_cases : {V : Type 0} (b : Bool) (right : ℕ → Bool) (rest : Rows V) (v : V) (bytes : List ℕ) → AreBytes bytes
    → Fills (if b then refuse DatagramLength else length_row right rest) v bytes → TakenLength right rest v bytes
length_cases true right rest v bytes p fills = absurd (no_refusal DatagramLength v bytes fills)
length_cases false right rest v bytes p fills = length_by right rest v bytes p fills

pub length_take : {V : Type 0} (total : ℕ) (right : ℕ → Bool) (rest : Rows V) (v : V) (bytes : List ℕ) → AreBytes bytes → Fills (length_rows total right rest) v bytes → TakenLength right rest v bytes
length_take total right rest v bytes p fills = length_cases (nat_lt total 2) right rest v bytes p fills
