-- Frames and what fills their rows.
use Rattle.std.proofs.Common.{◌≡◌, ℕ, ◌<◌, ◌≤◌, ◌^◌, ◌&&◌, ◌==◌, List, [], ◌∷◌, ◌++◌, length, take, drop, true, refl, sym, ap, subst, ◌∙◌, arith}
use Rattle.std.specs.Prelude.{nat_le}
use Rattle.std.proofs.lemmas.Bool.Decides.{nat_tests}
use Rattle.std.proofs.lemmas.List.{append-nil, take-append-drop, length-take-le}
use Rattle.std.specs.Int.{bytes_high_first, to_be_bytes, w16}
use Rattle.avl_values.specs.declared.fault.FaultKind.TheVariants.{CrcHigh, CrcMismatch, Length, Preamble}
use Rattle.crc_field.specs.Crc.{crc_of}
use Rattle.layout.specs.Bytes.{AreBytes}
use Rattle.layout.specs.Fields.{fault_unless}
use Rattle.layout.specs.Nested.{with_bytes}
use Rattle.layout.specs.Rows.{Rows, done, Fills}
use Rattle.layout.proofs.Filling.{fills_done, done_filled}
use Rattle.layout.proofs.Numbers.{bytes-take, bytes-drop}
use Rattle.layout.proofs.WithinLaws.{inside, around}
use Rattle.layout.proofs.NumberFills.{number_fill, number_take}
use Rattle.record_layout.proofs.Fitting.{exactly, is_exactly, passed}
use Rattle.frame_layout.specs.FrameRows.{body_rows, crc_low_rows, crc_rows, frame_rows, length_rows}
use Rattle.frame_layout.specs.Items.{frame_of}
use Rattle.frame_layout.proofs.Checksum.{crc_small}
use Rattle.frame_layout.proofs.SaidBytes.{said, saying}

-- the checksum's field

abbrev checksum : ℕ → List ℕ
checksum crc = 0 ∷ 0 ∷ to_be_bytes w16 crc

crc_fill : {V : Type 0} (v : V) (crc : ℕ) → crc < 2 ^ 16 → Fills (crc_rows v crc) v (checksum crc)
crc_fill v crc small =
    let low : Fills (crc_low_rows v crc) v (bytes_high_first 2 crc) =
    subst (Fills (crc_low_rows v crc) v) (append-nil (bytes_high_first 2 crc))
    (number_fill 2 (λ n. fault_unless (n == crc) CrcMismatch) (λ _. done v) v crc [] (omega arith) (exactly crc crc CrcMismatch refl) (fills_done v)) in
    number_fill 2 (λ n. fault_unless (n == 0) CrcHigh) (λ _. crc_low_rows v crc) v 0 (bytes_high_first 2 crc) (omega arith) (exactly 0 0 CrcHigh refl) low

crc_taken : {V : Type 0} (says v : V) (crc : ℕ) (bytes : List ℕ) → AreBytes bytes → Fills (crc_rows says crc) v bytes → (says ≡ v) × (bytes ≡ checksum crc)
crc_taken says v crc bytes p fills =
    let high = number_take 2 (λ n. fault_unless (n == 0) CrcHigh) (λ _. crc_low_rows says crc) v bytes p fills in
    let low = number_take 2 (λ n. fault_unless (n == crc) CrcMismatch) (λ _. done says) v high.more high.bytes_behind high.fills in
    let none : high.n ≡ 0 = is_exactly high.n 0 CrcHigh high.passes in
    let same : low.n ≡ crc = is_exactly low.n crc CrcMismatch low.passes in
    let end = done_filled says v low.more low.fills in
    let behind : high.more ≡ bytes_high_first 2 crc = low.is ∙ ap (λ n. bytes_high_first 2 n ++ low.more) same ∙ ap (λ b. bytes_high_first 2 crc ++ b) end.1 ∙ append-nil (bytes_high_first 2 crc) in
    (end.0, high.is ∙ ap (λ n. bytes_high_first 2 n ++ high.more) none ∙ ap (λ b. 0 ∷ 0 ∷ b) behind)

-- a body and its checksum

body_fill : {B : Type 0} (rows : ℕ → Rows B) (b : B) (body : List ℕ) → AreBytes body → Fills (rows (length body)) b body → Fills (body_rows rows (length body)) (b, body) (body ++ checksum (crc_of body))
unfolding body_rows
body_fill {B = B} rows b body p fills =
    around (with_bytes [] (rows (length body))) (λ (v : B × List ℕ). crc_rows v (crc_of v.1)) (b, body) (b, body) body (checksum (crc_of body)) (saying (rows (length body)) [] b body body refl fills)
    (crc_fill (let v : B × List ℕ = (b, body) in v) (crc_of body) (crc_small body p))

pub record TakenBody {B : Type 0} (rows : ℕ → Rows B) (n : ℕ) (v : B × List ℕ) (bytes : List ℕ) : Type 0 where
  pub size : length v.1 ≡ n
  pub fills : Fills (rows n) v.0 v.1
  pub bytes_in : AreBytes v.1
  pub is : bytes ≡ v.1 ++ checksum (crc_of v.1)

body_taken : {B : Type 0} (rows : ℕ → Rows B) (n : ℕ) (v : B × List ℕ) (bytes : List ℕ) → AreBytes bytes → Fills (body_rows rows n) v bytes → TakenBody rows n v bytes
unfolding body_rows
body_taken {B = B} rows n v bytes p fills =
    let i = inside n (with_bytes [] (rows n)) (λ (x : B × List ℕ). crc_rows x (crc_of x.1)) v bytes fills in
    let s = said (rows n) [] i.0 (take n bytes) i.2 in
    let end = crc_taken i.0 v (crc_of i.0.1) (drop n bytes) (bytes-drop n bytes p) i.3 in
    let made : TakenBody rows n i.0 bytes = record {
      size = ap length s.1 ∙ length-take-le n bytes i.1;
      fills = subst (Fills (rows n) i.0.0) (sym s.1) s.0;
      bytes_in = subst AreBytes (sym s.1) (bytes-take n bytes p);
      is = sym (take-append-drop n bytes) ∙ ap (λ b. b ++ drop n bytes) (sym s.1) ∙ ap (λ b. i.0.1 ++ b) end.1;
    } in
    subst (λ x. TakenBody rows n x bytes) end.0 made

-- what follows the four zero bytes of a frame

abbrev pub behind_zeros : List ℕ → List ℕ
behind_zeros body = bytes_high_first 4 (length body) ++ (body ++ checksum (crc_of body))

pub length_fill : {B : Type 0} (most : ℕ) (rows : ℕ → Rows B) (b : B) (body : List ℕ) → AreBytes body → 3 ≤ length body → length body ≤ most → most < 2 ^ 32 → Fills (rows (length body)) b body
    → Fills (length_rows most rows) (b, body) (behind_zeros body)
unfolding length_rows
length_fill most rows b body p least fits limit fills =
    let n = length body in
    let allowed : (nat_le 3 n && nat_le n most) ≡ true = grind (arith, nat_tests) in
    number_fill 4 (λ k. fault_unless (nat_le 3 k && nat_le k most) Length) (λ k. body_rows rows k) (b, body) n _ (omega arith) (ap (λ t. fault_unless t Length) allowed) (body_fill rows b body p fills)

pub record TakenLength {B : Type 0} (most : ℕ) (rows : ℕ → Rows B) (v : B × List ℕ) (bytes : List ℕ) : Type 0 where
  pub fits : length v.1 ≤ most
  pub fills : Fills (rows (length v.1)) v.0 v.1
  pub bytes_in : AreBytes v.1
  pub is : bytes ≡ behind_zeros v.1

pub length_taken : {B : Type 0} (most : ℕ) (rows : ℕ → Rows B) (v : B × List ℕ) (bytes : List ℕ) → AreBytes bytes → Fills (length_rows most rows) v bytes → TakenLength most rows v bytes
unfolding length_rows
length_taken {B = B} most rows v bytes p fills =
    let size = number_take 4 (λ k. fault_unless (nat_le 3 k && nat_le k most) Length) (λ k. body_rows rows k) v bytes p fills in
    let allowed = passed (nat_le 3 size.n && nat_le size.n most) Length size.passes in
    let few : size.n ≤ most = grind (arith, nat_tests) in
    let b = body_taken rows size.n v size.more size.bytes_behind size.fills in
    record {
      fits = omega (arith, b.size);
      fills = subst (λ k. Fills (rows k) v.0 v.1) (sym b.size) b.fills;
      bytes_in = b.bytes_in;
      is = size.is ∙ ap (λ k. bytes_high_first 4 k ++ size.more) (sym b.size) ∙ ap (λ x. bytes_high_first 4 (length v.1) ++ x) b.is;
    }

-- the whole frame

pub frame_fill : {B : Type 0} (most : ℕ) (rows : ℕ → Rows B) (b : B) (body : List ℕ) → AreBytes body → 3 ≤ length body → length body ≤ most → most < 2 ^ 32 → Fills (rows (length body)) b body
    → Fills (frame_rows most rows) (b, body) (frame_of body)
unfolding frame_rows
frame_fill most rows b body p least fits limit fills =
    number_fill 4 (λ k. fault_unless (k == 0) Preamble) (λ _. length_rows most rows) (b, body) 0 (behind_zeros body) (omega arith) (exactly 0 0 Preamble refl) (length_fill most rows b body p least fits limit fills)

pub record TakenFrame {B : Type 0} (most : ℕ) (rows : ℕ → Rows B) (v : B × List ℕ) (bytes : List ℕ) : Type 0 where
  pub behind : List ℕ
  pub taken : TakenLength most rows v behind
  pub is : bytes ≡ frame_of v.1

pub frame_taken : {B : Type 0} (most : ℕ) (rows : ℕ → Rows B) (v : B × List ℕ) (bytes : List ℕ) → AreBytes bytes → Fills (frame_rows most rows) v bytes → TakenFrame most rows v bytes
unfolding frame_rows
frame_taken most rows v bytes p fills =
    let first = number_take 4 (λ k. fault_unless (k == 0) Preamble) (λ _. length_rows most rows) v bytes p fills in
    let none : first.n ≡ 0 = is_exactly first.n 0 Preamble first.passes in
    let t = length_taken most rows v first.more first.bytes_behind first.fills in
    record { behind = first.more; taken = t; is = first.is ∙ ap (λ n. bytes_high_first 4 n ++ first.more) none ∙ ap (λ x. 0 ∷ 0 ∷ 0 ∷ 0 ∷ x) t.is }
