-- Commands and what fills their rows.
use Rattle.std.proofs.Common.{◌≡◌, ℕ, ◌+◌, ◌<◌, ◌≤◌, ◌==◌, ◌&&◌, List, [], ◌∷◌, ◌++◌, length, true, Option, Some, None, refl, sym, ap, subst, ◌∙◌, arith, length-append}
use Rattle.std.specs.Prelude.{nat_le}
use Rattle.std.specs.Int.{bytes_high_first}
use Rattle.std.proofs.lemmas.Bool.Decides.{nat_tests}
use Rattle.avl_values.specs.declared.fault.FaultKind.TheVariants.{CommandSize, CommandType}
use Rattle.layout.specs.Bytes.{AreBytes}
use Rattle.layout.specs.Fields.{fault_unless}
use Rattle.layout.specs.Rows.{Fills}
use Rattle.layout.proofs.Numbers.{length_spell}
use Rattle.layout.proofs.NumberFills.{number_fill, number_take, spell-one}
use Rattle.record_layout.proofs.Fitting.{passed}
use Rattle.command_layout.specs.declared.way.Way.{Way}
use Rattle.command_layout.specs.CommandRows.{command_rows, content_rows, kind_rows, quantity_row, row_rule, size_rows, with_row}
use Rattle.command_layout.specs.Spelling.{IsCommand, command_of, content_of}
use Rattle.command_layout.specs.Spelling as spelling
use Rattle.command_layout.specs.Table.{CommandRow, IsOf, is_among, least_size, row_of}
use Rattle.command_layout.specs.Values.{CommandValue}
use Rattle.command_layout.proofs.ContentFills.{content_fill, content_size, content_take, quantity_fill, quantity_take}

-- the type, the size and the content

abbrev sized : CommandValue → List ℕ
sized v = bytes_high_first 4 (length (content_of v)) ++ (content_of v ++ 1 ∷ [])

size_fill : (total : ℕ) (r : CommandRow) (v : CommandValue) → IsOf (Some r) v → spelling.Fits v → length (content_of v) + 8 ≡ total → Fills (size_rows total r v.codec v.kind) v (sized v)
unfolding size_rows
size_fill total r v of fits is =
    let n = length (content_of v) in
    let least : least_size r ≤ n = omega (arith, content_size r v of.time of.imei) in
    let allowed : ((n + 8 == total) && nat_le (least_size r) n) ≡ true = grind (arith, nat_tests) in
    number_fill 4 (λ m. fault_unless ((m + 8 == total) && nat_le (least_size r) m) CommandSize) (λ m. content_rows r v.codec v.kind m) v n (content_of v ++ 1 ∷ []) fits.size
    (ap (λ t. fault_unless t CommandSize) allowed) (content_fill r v of.time of.imei fits.time fits.imei)

kind_fill : (total : ℕ) (r : CommandRow) (v : CommandValue) → IsOf (Some r) v → spelling.Fits v → length (content_of v) + 8 ≡ total → Fills (kind_rows total r v.codec) v (v.kind ∷ sized v)
unfolding kind_rows
kind_fill total r v of fits is =
    subst (λ f. Fills (kind_rows total r v.codec) v (f ++ sized v)) (spell-one v.kind fits.kind)
    (number_fill 1 (λ k. fault_unless (is_among k r.kinds) CommandType) (λ k. size_rows total r v.codec k) v v.kind (sized v) fits.kind
    (ap (λ t. fault_unless t CommandType) of.kind) (size_fill total r v of fits is))

row_fill : (total : ℕ) (found : Option CommandRow) (v : CommandValue) → IsOf found v → spelling.Fits v → length (content_of v) + 8 ≡ total
    → (row_rule found ≡ None) × Fills (with_row total found v.codec) v (1 ∷ v.kind ∷ sized v)
row_fill total (Some r) v of fits is = (refl, quantity_fill (kind_rows total r v.codec) v (v.kind ∷ sized v) (kind_fill total r v of fits is))
row_fill total None v of fits is = absurd of

pub command_size : (v : CommandValue) → length (command_of v) ≡ length (content_of v) + 8
command_size v =
    let n = length (content_of v) in
    omega (arith, length-append (bytes_high_first 4 n) (content_of v ++ 1 ∷ []), length_spell 4 n, length-append (content_of v) (1 ∷ []))

pub command_fills : (way : Way) (v : CommandValue) (bytes : List ℕ) → IsCommand way v bytes → Fills (command_rows way (length bytes)) v bytes
unfolding command_rows
command_fills way v bytes is =
    let total = length bytes in
    let size : length (content_of v) + 8 ≡ total = sym (ap length is.is ∙ command_size v) in
    let behind = row_fill total (row_of way v.codec) v is.well_formed is.fits size in
    let filled : Fills (command_rows way total) v (command_of v) =
    subst (λ f. Fills (command_rows way total) v (f ++ (1 ∷ v.kind ∷ sized v))) (spell-one v.codec is.fits.codec)
    (number_fill 1 (λ id. row_rule (row_of way id)) (λ id. with_row total (row_of way id) id) v v.codec (1 ∷ v.kind ∷ sized v) is.fits.codec behind.0 behind.1) in
    subst (Fills (command_rows way total) v) (sym is.is) filled

-- And the other way round.

record TakenRow (r : CommandRow) (codec : ℕ) (v : CommandValue) (bytes : List ℕ) : Type 0 where
  pub codec_is : v.codec ≡ codec
  pub is : bytes ≡ 1 ∷ v.kind ∷ sized v
  pub of : IsOf (Some r) v
  pub fits : codec < 256 → spelling.Fits v

row_take : (total : ℕ) (r : CommandRow) (codec : ℕ) (v : CommandValue) (bytes : List ℕ) → AreBytes bytes → Fills (quantity_row (kind_rows total r codec)) v bytes → TakenRow r codec v bytes
unfolding kind_rows size_rows
row_take total r codec v bytes p fills =
    let one = quantity_take (kind_rows total r codec) v bytes p fills in
    let kind = number_take 1 (λ k. fault_unless (is_among k r.kinds) CommandType) (λ k. size_rows total r codec k) v one.0 one.2 one.3 in
    let size = number_take 4 (λ m. fault_unless ((m + 8 == total) && nat_le (least_size r) m) CommandSize) (λ m. content_rows r codec kind.n m) v kind.more kind.bytes_behind kind.fills in
    let n = size.n in
    let allowed = passed ((n + 8 == total) && nat_le (least_size r) n) CommandSize size.passes in
    let least : least_size r ≤ n = grind (arith, nat_tests) in
    let t = content_take r codec kind.n n v size.more size.bytes_behind size.fills in
    let long : length (content_of v) ≡ n = omega (arith, content_size r v t.time t.imei, t.text_size) in
    let behind : kind.more ≡ sized v = size.is ∙ ap (λ m. bytes_high_first 4 m ++ size.more) (sym long) ∙ ap (λ b. bytes_high_first 4 (length (content_of v)) ++ b) t.is in
    let front : one.0 ≡ v.kind ∷ sized v = kind.is ∙ ap (λ f. f ++ kind.more) (spell-one kind.n kind.bound) ∙ ap (λ k. k ∷ kind.more) (sym t.kind_is) ∙ ap (λ b. v.kind ∷ b) behind in
    record {
      codec_is = t.codec_is;
      is = one.1 ∙ ap (λ b. 1 ∷ b) front;
      of = record { kind = ap (λ k. is_among k r.kinds) t.kind_is ∙ passed (is_among kind.n r.kinds) CommandType kind.passes; time = t.time; imei = t.imei };
      fits = λ small. record {
        codec = omega (arith, t.codec_is);
        kind = omega (arith, t.kind_is, kind.bound);
        time = t.time_fits;
        imei = t.imei_fits;
        text = t.text;
        size = omega (arith, long, size.bound);
      };
    }

by_row : (way : Way) (total id : ℕ) (found : Option CommandRow) (v : CommandValue) (more bytes : List ℕ) → row_of way id ≡ found → bytes ≡ id ∷ more → id < 256 → AreBytes more → row_rule found ≡ None
    → Fills (with_row total found id) v more → IsCommand way v bytes
by_row way total id None v more bytes e is small p passes fills = absurd (cc)
by_row way total id (Some r) v more bytes e is small p passes fills =
    let t = row_take total r id v more p fills in
    record {
      is = is ∙ ap (λ c. c ∷ more) (sym t.codec_is) ∙ ap (λ b. v.codec ∷ b) t.is;
      well_formed = subst (λ o. IsOf o v) (sym (ap (row_of way) t.codec_is ∙ e)) t.of;
      fits = t.fits small;
    }

pub fills_command : (way : Way) (total : ℕ) (v : CommandValue) (bytes : List ℕ) → AreBytes bytes → Fills (command_rows way total) v bytes → IsCommand way v bytes
unfolding command_rows
fills_command way total v bytes p fills =
    let id = number_take 1 (λ id. row_rule (row_of way id)) (λ id. with_row total (row_of way id) id) v bytes p fills in
    by_row way total id.n (row_of way id.n) v id.more bytes refl (id.is ∙ ap (λ f. f ++ id.more) (spell-one id.n id.bound)) id.bound id.bytes_behind id.passes id.fills
