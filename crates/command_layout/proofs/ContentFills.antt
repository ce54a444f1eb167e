-- The content of a command, and what fills its rows.
use Rattle.std.proofs.Common.{◌≡◌, ℕ, ◌+◌, ◌-◌, ◌==◌, List, [], ◌∷◌, ◌++◌, length, Bool, true, false, Option, Some, None, refl, sym, ap, subst, ◌∙◌, arith, length-append, append_assoc, if◌then◌else◌}
use Rattle.std.specs.Option.{is_some}
use Rattle.std.specs.Int.{bytes_high_first}
use Rattle.avl_values.specs.declared.fault.FaultKind.TheVariants.{Quantity}
use Rattle.layout.specs.Bytes.{AreBytes}
use Rattle.layout.specs.Fields.{fault_unless}
use Rattle.layout.specs.Rows.{Rows, done, Fills}
use Rattle.layout.proofs.Filling.{done_filled, fills_done, fills_row, row_filled}
use Rattle.layout.proofs.Numbers.{bytes-back, bytes-front, length_spell}
use Rattle.layout.proofs.NumberFills.{number_fill, number_take}
use Rattle.record_layout.proofs.Fitting.{exactly, is_exactly}
use Rattle.command_layout.specs.CommandRows.{content_rows, imei_rows, quantity_row, text_rows, time_rows}
use Rattle.command_layout.specs.Spelling.{ImeiFits, TimeFits, content_of, digit_pairs, imei_bytes, time_bytes}
use Rattle.command_layout.specs.Table.{CommandRow, least_size}
use Rattle.command_layout.specs.Values.{CommandValue}
use Rattle.command_layout.proofs.ImeiFills.{imei_fill, imei_take}

-- a quantity

pub quantity_fill : {V : Type 0} (rest : Rows V) (v : V) (more : List ℕ) → Fills rest v more → Fills (quantity_row rest) v (1 ∷ more)
quantity_fill rest v more fills = number_fill 1 (λ n. fault_unless (n == 1) Quantity) (λ _. rest) v 1 more (omega arith) (exactly 1 1 Quantity refl) fills

pub quantity_take : {V : Type 0} (rest : Rows V) (v : V) (bytes : List ℕ) → AreBytes bytes → Fills (quantity_row rest) v bytes → (more : List ℕ) × (bytes ≡ 1 ∷ more) × AreBytes more × Fills rest v more
quantity_take rest v bytes p fills =
    let one = number_take 1 (λ n. fault_unless (n == 1) Quantity) (λ _. rest) v bytes p fills in
    let is : bytes ≡ 1 ∷ one.more = one.is ∙ ap (λ n. bytes_high_first 1 n ++ one.more) (is_exactly one.n 1 Quantity one.passes) in
    (one.more, is, one.bytes_behind, one.fills)

-- the time

time_fill : {V : Type 0} (has : Bool) (time : Option ℕ) (rest : Option ℕ → Rows V) (v : V) (more : List ℕ) → is_some time ≡ has → TimeFits time → Fills (rest time) v more
    → Fills (time_rows has rest) v (time_bytes time ++ more)
unfolding time_rows
time_fill true (Some n) rest v more e fits fills = number_fill 4 (λ _. None) (λ m. rest (Some m)) v n more fits refl fills
time_fill true None rest v more e fits fills = absurd (cc)
time_fill false (Some n) rest v more e fits fills = absurd (cc)
time_fill false None rest v more e fits fills = fills

record TakenTime {V : Type 0} (has : Bool) (rest : Option ℕ → Rows V) (v : V) (bytes : List ℕ) : Type 0 where
  pub time : Option ℕ
  pub more : List ℕ
  pub is : bytes ≡ time_bytes time ++ more
  pub there : is_some time ≡ has
  pub fits : TimeFits time
  pub fills : Fills (rest time) v more
  pub bytes_behind : AreBytes more

time_take : {V : Type 0} (has : Bool) (rest : Option ℕ → Rows V) (v : V) (bytes : List ℕ) → AreBytes bytes → Fills (time_rows has rest) v bytes → TakenTime has rest v bytes
unfolding time_rows
time_take true rest v bytes p fills =
    let one = number_take 4 (λ _. None) (λ m. rest (Some m)) v bytes p fills in
    record { time = Some one.n; more = one.more; is = one.is; there = refl; fits = one.bound; fills = one.fills; bytes_behind = one.bytes_behind }
time_take false rest v bytes p fills = record { time = None; more = bytes; is = refl; there = refl; fits = tt; fills = fills; bytes_behind = p }

-- the text, and the second quantity

text_fill : (says : List ℕ → CommandValue) (text : List ℕ) → Fills (text_rows (length text) says) (says text) (text ++ 1 ∷ [])
unfolding text_rows
text_fill says text =
    fills_row (length text) (λ _. None) (λ t. quantity_row (done (says t))) (says text) text (1 ∷ []) (text ++ 1 ∷ []) refl refl refl
    (quantity_fill (done (says text)) (says text) [] (fills_done (says text)))

text_take : (size : ℕ) (says : List ℕ → CommandValue) (v : CommandValue) (bytes : List ℕ) → AreBytes bytes → Fills (text_rows size says) v bytes
    → (text : List ℕ) × (bytes ≡ text ++ 1 ∷ []) × (length text ≡ size) × AreBytes text × (says text ≡ v)
unfolding text_rows
text_take size says v bytes p fills =
    let f = row_filled size (λ _. None) (λ t. quantity_row (done (says t))) v bytes fills in
    let q = subst AreBytes f.2 p in
    let one = quantity_take (done (says f.0)) v f.1 (bytes-back f.0 f.1 q) f.5 in
    let end = done_filled (says f.0) v one.0 one.3 in
    (f.0, f.2 ∙ ap (λ b. f.0 ++ b) (one.1 ∙ ap (λ b. 1 ∷ b) end.1), f.3, bytes-front f.0 f.1 q, end.0)

-- the lengths

time_size : (has : Bool) (time : Option ℕ) → is_some time ≡ has → length (time_bytes time) ≡ (if has then 4 else 0)
time_size true (Some n) e = length_spell 4 n
time_size true None e = absurd (cc)
time_size false (Some n) e = absurd (cc)
time_size false None e = refl

imei_size : (has : Bool) (imei : Option ℕ) → is_some imei ≡ has → length (imei_bytes imei) ≡ (if has then 8 else 0)
unfolding digit_pairs
imei_size true (Some n) e = refl
imei_size true None e = absurd (cc)
imei_size false (Some n) e = absurd (cc)
imei_size false None e = refl

pub content_size : (r : CommandRow) (v : CommandValue) → is_some v.time ≡ r.time → is_some v.imei ≡ r.imei → length (content_of v) ≡ least_size r + length v.text
content_size r v t i =
    omega (arith, length-append (time_bytes v.time) (imei_bytes v.imei ++ v.text), length-append (imei_bytes v.imei) v.text, time_size r.time v.time t, imei_size r.imei v.imei i)

-- the content

pub content_fill : (r : CommandRow) (v : CommandValue) → is_some v.time ≡ r.time → is_some v.imei ≡ r.imei → TimeFits v.time → ImeiFits v.imei
    → Fills (content_rows r v.codec v.kind (length (content_of v))) v (content_of v ++ 1 ∷ [])
content_fill r v t i time_fits imei_fits =
    let size : length v.text ≡ length (content_of v) - least_size r = omega (arith, content_size r v t i) in
    let says : Option ℕ → Option ℕ → List ℕ → CommandValue = λ time imei text. record { codec = v.codec; kind = v.kind; time = time; imei = imei; text = text } in
    let k = length (content_of v) - least_size r in
    let text = subst (λ n. Fills (text_rows n (says v.time v.imei)) v (v.text ++ 1 ∷ [])) size (text_fill (says v.time v.imei) v.text) in
    let imei = imei_fill r.imei v.imei (λ imei. text_rows k (says v.time imei)) v (v.text ++ 1 ∷ []) i imei_fits text in
    let time = time_fill r.time v.time (λ time. imei_rows r.imei (λ imei. text_rows k (says time imei))) v (imei_bytes v.imei ++ (v.text ++ 1 ∷ [])) t time_fits imei in
    let joined : time_bytes v.time ++ (imei_bytes v.imei ++ (v.text ++ 1 ∷ [])) ≡ content_of v ++ 1 ∷ [] =
    ap (λ b. time_bytes v.time ++ b) (sym (append_assoc (imei_bytes v.imei) v.text (1 ∷ []))) ∙ sym (append_assoc (time_bytes v.time) (imei_bytes v.imei ++ v.text) (1 ∷ [])) in
    subst (Fills (content_rows r v.codec v.kind (length (content_of v))) v) joined time

pub record TakenContent (r : CommandRow) (codec kind size : ℕ) (v : CommandValue) (bytes : List ℕ) : Type 0 where
  pub codec_is : v.codec ≡ codec
  pub kind_is : v.kind ≡ kind
  pub is : bytes ≡ content_of v ++ 1 ∷ []
  pub time : is_some v.time ≡ r.time
  pub imei : is_some v.imei ≡ r.imei
  pub time_fits : TimeFits v.time
  pub imei_fits : ImeiFits v.imei
  pub text : AreBytes v.text
  pub text_size : length v.text ≡ size - least_size r

pub content_take : (r : CommandRow) (codec kind size : ℕ) (v : CommandValue) (bytes : List ℕ) → AreBytes bytes → Fills (content_rows r codec kind size) v bytes → TakenContent r codec kind size v bytes
content_take r codec kind size v bytes p fills =
    let says : Option ℕ → Option ℕ → List ℕ → CommandValue = λ time imei text. record { codec = codec; kind = kind; time = time; imei = imei; text = text } in
    let k = size - least_size r in
    let t = time_take r.time (λ time. imei_rows r.imei (λ imei. text_rows k (says time imei))) v bytes p fills in
    let i = imei_take r.imei (λ imei. text_rows k (says t.time imei)) v t.more t.bytes_behind t.fills in
    let x = text_take k (says t.time i.imei) v i.more i.bytes_behind i.fills in
    let made = says t.time i.imei x.0 in
    let joined : bytes ≡ content_of made ++ 1 ∷ [] =
    t.is ∙ ap (λ b. time_bytes t.time ++ b) (i.is ∙ ap (λ b. imei_bytes i.imei ++ b) x.1 ∙ sym (append_assoc (imei_bytes i.imei) x.0 (1 ∷ [])))
    ∙ sym (append_assoc (time_bytes t.time) (imei_bytes i.imei ++ x.0) (1 ∷ [])) in
    let taken : TakenContent r codec kind size made bytes =
    record { codec_is = refl; kind_is = refl; is = joined; time = t.there; imei = i.there; time_fits = t.fits; imei_fits = i.fits; text = x.3; text_size = x.2 } in
    subst (λ w. TakenContent r codec kind size w bytes) x.4 taken
