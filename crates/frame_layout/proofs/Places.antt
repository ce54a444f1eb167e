-- What an item says at its place: up a login at the first, and after it a frame with its body; down the login's answer at the
-- first, and after it counts, and frames with their bodies.
use Rattle.std.proofs.Common.{◌≡◌, ℕ, zero, suc, ◌+◌, ◌-◌, ◌*◌, ◌==◌, ◌&&◌, ◌⊎◌, inl, inr, Bool, true, false, List, [], ◌++◌, length, take, drop, None, if◌then◌else◌, sym, ap, ◌∙◌, arith, length-append, length-drop, append_assoc}
use Rattle.std.specs.Prelude.{nat_le}
use Rattle.std.proofs.Math.Seq.{drop-append_seam}
use Rattle.std.proofs.lemmas.List.{length-take-le}
use Rattle.avl_values.specs.Imei.{is_digit}
use Rattle.avl_values.specs.declared.fault.FaultKind.TheVariants.{CrcHigh, CrcMismatch, Length, LoginDigit, LoginLength, Preamble}
use Rattle.crc_field.specs.Crc.{crc_of}
use Rattle.layout.specs.Fields.{fault_unless, number}
use Rattle.layout.specs.Nested.{with_bytes}
use Rattle.layout.specs.Rows.{Rows, done, Fills}
use Rattle.layout.proofs.Filling.{done_filled, row_filled}
use Rattle.layout.proofs.WithinLaws.{inside}
use Rattle.layout.proofs.MappedLaws.{map_take}
use Rattle.command_layout.specs.declared.way.Way.TheVariants.{Up, Down}
use Rattle.frame_layout.specs.DownRows.{answer_rows, count_rows, down_rows, order_rows}
use Rattle.frame_layout.specs.FrameBodies.{body_kind_rows}
use Rattle.frame_layout.specs.FrameRows.{body_rows, crc_low_rows, crc_rows, frame_rows, length_rows}
use Rattle.frame_layout.specs.Logins.{digit_rows, login_rows}
use Rattle.frame_layout.specs.UpRows.{login_end, up_frame_rows, up_rows}
use Rattle.frame_layout.specs.Values.{DownValue, UpValue, answer, count, frame_value, login, order}
use Rattle.frame_layout.specs.declared.body_kind.BodyKind.{BodyKind}
use Rattle.frame_layout.proofs.SaidBytes.{said}

pub record SaysLogin (v : UpValue) : Type 0 where
  pub imei : ℕ
  pub value : v ≡ login imei

-- a frame's body is what comes between the eight bytes before it and the four after it
pub record HoldsBody (body bytes : List ℕ) : Type 0 where
  pub size : length bytes ≡ 12 + length body
  pub body_is : take (length bytes - 12) (drop 8 bytes) ≡ body

pub record SaysFrame (v : UpValue) (bytes : List ℕ) : Type 0 where
  pub kind : BodyKind
  pub body : List ℕ
  pub value : v ≡ frame_value kind body
  pub holds : HoldsBody body bytes

abbrev pub SaysAt : Bool → UpValue → List ℕ → Type 0
SaysAt false v bytes = SaysLogin v
SaysAt true v bytes = SaysFrame v bytes

digits_say : (k n : ℕ) (v : UpValue) (bytes : List ℕ) → Fills (digit_rows k n login_end) v bytes → SaysLogin v
unfolding digit_rows
digits_say zero n v bytes fills = record { imei = n; value = sym (done_filled (login n) v bytes fills).0 }
digits_say (suc k) n v bytes fills =
    let f = row_filled 1 (λ field. fault_unless (is_digit (number field)) LoginDigit) (λ field. digit_rows k (n * 10 + (number field - 48)) login_end) v bytes fills in
    digits_say k (n * 10 + (number f.0 - 48)) v f.1 f.5

login_says : (v : UpValue) (bytes : List ℕ) → Fills (login_rows login_end) v bytes → SaysLogin v
unfolding login_rows
login_says v bytes fills = let f = row_filled 2 (λ field. fault_unless (number field == 15) LoginLength) (λ _. digit_rows 15 0 login_end) v bytes fills in digits_say 15 0 v f.1 f.5

-- the checksum's field has four bytes
crc_size : {V : Type 0} (says v : V) (crc : ℕ) (bytes : List ℕ) → Fills (crc_rows says crc) v bytes → (says ≡ v) × (length bytes ≡ 4)
crc_size says v crc bytes fills =
    let high = row_filled 2 (λ field. fault_unless (number field == 0) CrcHigh) (λ _. crc_low_rows says crc) v bytes fills in
    let low = row_filled 2 (λ field. fault_unless (number field == crc) CrcMismatch) (λ _. done says) v high.1 high.5 in
    let end = done_filled says v low.1 low.5 in
    (end.0, omega (arith, ap length high.2, length-append high.0 high.1, high.3, ap length low.2, length-append low.0 low.1, low.3, ap length end.1))

-- a body and its checksum
body_says : {B : Type 0} (rows : ℕ → Rows B) (n : ℕ) (v : B × List ℕ) (bytes : List ℕ) → Fills (body_rows rows n) v bytes → (v.1 ≡ take n bytes) × (length bytes ≡ n + 4)
unfolding body_rows
body_says {B = B} rows n v bytes fills =
    let i = inside n (with_bytes [] (rows n)) (λ (x : B × List ℕ). crc_rows x (crc_of x.1)) v bytes fills in
    let s = said (rows n) [] i.0 (take n bytes) i.2 in
    let end = crc_size i.0 v (crc_of i.0.1) (drop n bytes) i.3 in
    (ap (λ (x : B × List ℕ). x.1) (sym end.0) ∙ s.1, omega (arith, end.1, i.1, length-drop n bytes))

-- the body of N bytes after the four of its length
record HoldsBehind (body bytes : List ℕ) : Type 0 where
  pub field : List ℕ
  pub more : List ℕ
  pub is : bytes ≡ field ++ more
  pub four : length field ≡ 4
  pub body_is : body ≡ take (length body) more
  pub size : length more ≡ length body + 4

length_says : {B : Type 0} (most : ℕ) (rows : ℕ → Rows B) (v : B × List ℕ) (bytes : List ℕ) → Fills (length_rows most rows) v bytes → HoldsBehind v.1 bytes
unfolding length_rows
length_says most rows v bytes fills =
    let size = row_filled 4 (λ field. fault_unless (nat_le 3 (number field) && nat_le (number field) most) Length) (λ field. body_rows rows (number field)) v bytes fills in
    let n = number size.0 in
    let b = body_says rows n v size.1 size.5 in
    let k : length v.1 ≡ n = ap length b.0 ∙ length-take-le n size.1 (omega (arith, b.1)) in
    record { field = size.0; more = size.1; is = size.2; four = size.3; body_is = b.0 ∙ ap (λ m. take m size.1) (sym k); size = b.1 ∙ ap (λ m. m + 4) (sym k) }

holds : (body bytes zeros more : List ℕ) → bytes ≡ zeros ++ more → length zeros ≡ 4 → HoldsBehind body more → HoldsBody body bytes
holds body bytes zeros more is four h =
    let front = zeros ++ h.field in
    let n = length body in
    let whole : bytes ≡ front ++ h.more = is ∙ ap (λ x. zeros ++ x) h.is ∙ sym (append_assoc zeros h.field h.more) in
    let eight : 8 ≡ length front = omega (arith, four, h.four, length-append zeros h.field) in
    let behind : drop 8 bytes ≡ h.more = ap (λ k. drop k bytes) eight ∙ ap (λ x. drop (length front) x) whole ∙ drop-append_seam front h.more in
    let len : length bytes ≡ 12 + n = omega (arith, ap length whole, length-append front h.more, h.size) in
    let k : length bytes - 12 ≡ n = omega arith in
    record { size = len; body_is = ap (λ m. take m (drop 8 bytes)) k ∙ ap (λ x. take n x) behind ∙ sym h.body_is }

frame_says : {B : Type 0} (most : ℕ) (rows : ℕ → Rows B) (v : B × List ℕ) (bytes : List ℕ) → Fills (frame_rows most rows) v bytes → HoldsBody v.1 bytes
unfolding frame_rows
frame_says most rows v bytes fills =
    let first = row_filled 4 (λ field. fault_unless (number field == 0) Preamble) (λ _. length_rows most rows) v bytes fills in
    holds v.1 bytes first.0 first.1 first.2 first.3 (length_says most rows v first.1 first.5)

up_frame_says : (v : UpValue) (bytes : List ℕ) → Fills up_frame_rows v bytes → SaysFrame v bytes
unfolding up_frame_rows
up_frame_says v bytes fills =
    let m = map_take (λ (f : BodyKind × List ℕ). frame_value f.0 f.1) (frame_rows 65535 (body_kind_rows Up)) v bytes fills in
    record { kind = m.0.0; body = m.0.1; value = sym m.1; holds = frame_says 65535 (body_kind_rows Up) m.0 bytes m.2 }

pub says_at : (after_login : Bool) (v : UpValue) (bytes : List ℕ) → Fills (up_rows after_login) v bytes → SaysAt after_login v bytes
says_at false v bytes fills = login_says v bytes fills
says_at true v bytes fills = up_frame_says v bytes fills

-- Down.

pub record SaysAnswer (v : DownValue) : Type 0 where
  pub n : ℕ
  pub value : v ≡ answer n

pub record SaysCount (v : DownValue) : Type 0 where
  pub n : ℕ
  pub value : v ≡ count n

pub record SaysOrder (v : DownValue) (bytes : List ℕ) : Type 0 where
  pub body : List ℕ
  pub value : v ≡ order body
  pub holds : HoldsBody body bytes

abbrev pub SaysDown : Bool → DownValue → List ℕ → Type 0
SaysDown false v bytes = SaysAnswer v
SaysDown true v bytes = SaysCount v ⊎ SaysOrder v bytes

answer_says : (v : DownValue) (bytes : List ℕ) → Fills answer_rows v bytes → SaysAnswer v
unfolding answer_rows
answer_says v bytes fills =
    let f = row_filled 1 (λ _. None) (λ field. done (answer (number field))) v bytes fills in
    record { n = number f.0; value = sym (done_filled (answer (number f.0)) v f.1 f.5).0 }

order_says : (v : DownValue) (bytes zeros more : List ℕ) → bytes ≡ zeros ++ more → length zeros ≡ 4 → Fills order_rows v more → SaysOrder v bytes
unfolding order_rows
order_says v bytes zeros more is four fills =
    let m = map_take (λ (f : BodyKind × List ℕ). order f.1) (length_rows 1268 (body_kind_rows Down)) v more fills in
    record { body = m.0.1; value = sym m.1; holds = holds m.0.1 bytes zeros more is four (length_says 1268 (body_kind_rows Down) m.0 more m.2) }

counted_says : (b : Bool) (n : ℕ) (v : DownValue) (bytes zeros more : List ℕ) → bytes ≡ zeros ++ more → length zeros ≡ 4 → Fills (if b then order_rows else done (count n)) v more → SaysCount v ⊎ SaysOrder v bytes
counted_says true n v bytes zeros more is four fills = inr (order_says v bytes zeros more is four fills)
counted_says false n v bytes zeros more is four fills = inl (record { n = n; value = sym (done_filled (count n) v more fills).0 })

count_says : (v : DownValue) (bytes : List ℕ) → Fills count_rows v bytes → SaysCount v ⊎ SaysOrder v bytes
unfolding count_rows
count_says v bytes fills =
    let f = row_filled 4 (λ _. None) (λ field. if number field == 0 then order_rows else done (count (number field))) v bytes fills in
    counted_says (number f.0 == 0) (number f.0) v bytes f.0 f.1 f.2 f.3 f.5

pub says_down : (after_answer : Bool) (v : DownValue) (bytes : List ℕ) → Fills (down_rows after_answer) v bytes → SaysDown after_answer v bytes
says_down false v bytes fills = answer_says v bytes fills
says_down true v bytes fills = count_says v bytes fills
