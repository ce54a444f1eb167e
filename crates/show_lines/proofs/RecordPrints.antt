-- The tokens of a record are printed as its text.
use Rattle.std.proofs.Common.{◌≡◌, ℕ, List, [], ◌∷◌, ◌++◌, map, codes, decimal, true, false, ap, sym, ◌∙◌, append_assoc, subst, length, ◌<◌}
use Rattle.std.specs.Fmt.{signed_decimal}
use Rattle.std.specs.List.{AllByRecursion, concat}
use Rattle.hex.specs.Hex.{encode_lower}
use Rattle.json.specs.Print.{escape, print, print_from}
use Rattle.json.specs.Token.{Token, end_object, key, number, string}
use Rattle.json.proofs.OnLiterals.{json_on_literals}
use Rattle.avl_values.specs.IoElement.{IoElement}
use Rattle.avl_values.specs.RecordValue.{RecordValue}
use Rattle.avl_values.specs.Width.{limit}
use Rattle.avl_values.specs.declared.codec.Codec.{Codec}
use Rattle.avl_values.specs.declared.codec.Codec.TheVariants.{C8, C8E, C16}
use Rattle.avl_values.specs.declared.width.Width.TheVariants.{W2}
use Rattle.layout.specs.Bytes.{AreBytes}
use Rattle.record_codecs.specs.Elements.{ios_of}
use Rattle.record_layout.specs.Spelling.{IsRecord}
use Rattle.show_lines.specs.Json.{in_brackets, in_quotes}
use Rattle.show_lines.specs.RecordText.{element_text, nx_text, record_text}
use Rattle.show_lines.specs.Tokens.{element_tokens, list_tokens, nx_tokens, record_tokens}
use Rattle.show_lines.proofs.Escapes.{hex_plain}
use Rattle.show_lines.proofs.Lists.{IsPrinted, list_printed}

element_printed : (e : IoElement) → IsPrinted element_tokens element_text e
unfolding json_on_literals
element_printed e = record { first = λ rest. simp append_assoc; later = λ rest. simp append_assoc }

-- an element's pieces, with what follows
nx_joined : (id : ℕ) (digits more : List ℕ)
    → 91 ∷ (decimal id ++ 44 ∷ 34 ∷ ((digits ++ 34 ∷ []) ++ 93 ∷ more)) ≡ concat (codes "[" ∷ decimal id ∷ codes "," ∷ in_quotes digits ∷ codes "]" ∷ []) ++ more
nx_joined id digits more = simp append_assoc

nx_printed : (e : ℕ × List ℕ) → AreBytes e.1 → IsPrinted nx_tokens nx_text e
unfolding json_on_literals
nx_printed e bytes =
    let plain : (more : List ℕ) → 91 ∷ (decimal e.0 ++ 44 ∷ 34 ∷ ((escape (encode_lower e.1) ++ 34 ∷ []) ++ 93 ∷ more)) ≡ nx_text e ++ more =
    λ more. ap (λ digits. 91 ∷ (decimal e.0 ++ 44 ∷ 34 ∷ ((digits ++ 34 ∷ []) ++ 93 ∷ more))) (hex_plain e.1 bytes) ∙ nx_joined e.0 (encode_lower e.1) more in
    record { first = λ rest. plain (print_from true rest); later = λ rest. ap (λ t. 44 ∷ t) (plain (print_from true rest)) }

all_elements : (es : List IoElement) → AllByRecursion (IsPrinted element_tokens element_text) es
all_elements [] = tt
all_elements (e ∷ es) = (element_printed e, all_elements es)

all_nx : (es : List (ℕ × List ℕ)) → AllByRecursion (λ e. AreBytes e.1) es → AllByRecursion (IsPrinted nx_tokens nx_text) es
all_nx [] bytes = tt
all_nx (e ∷ es) bytes = (nx_printed e bytes.0, all_nx es bytes.1)

-- The elements of any length in a record are bytes.

of_triples : (es : List (ℕ × List ℕ)) → AllByRecursion (λ e. (e.0 < limit W2) × (length e.1 < limit W2) × AreBytes e.1) es → AllByRecursion (λ e. AreBytes e.1) es
of_triples [] fit = tt
of_triples (e ∷ es) fit = (fit.0.2, of_triples es fit.1)

nx_bytes : (codec : Codec) (v : RecordValue) (bytes : List ℕ) → IsRecord codec v bytes → AllByRecursion (λ e. AreBytes e.1) v.nx
nx_bytes C8 v bytes r = subst (AllByRecursion (λ e. AreBytes e.1)) (sym r.no_other.0) tt
nx_bytes C8E v bytes r = of_triples v.nx r.fits.1.1.1.1.1.1.1.1.1.1.1.1.1.1.0.1
nx_bytes C16 v bytes r = subst (AllByRecursion (λ e. AreBytes e.1)) (sym r.no_other) tt

-- The text in three parts, with the lists between them.

-- pieces, and what follows
abbrev joined : List (List ℕ) → List ℕ → List ℕ
joined [] more = more
joined (p ∷ ps) more = p ++ joined ps more

abbrev front : List ℕ → RecordValue → List (List ℕ)
front generation v =
    codes "{\"altitude\":" ∷ signed_decimal v.altitude ∷ codes ",\"angle\":" ∷ decimal v.angle ∷ codes ",\"event\":" ∷ decimal v.event
    ∷ codes ",\"generation\":" ∷ generation ∷ codes ",\"io\":" ∷ []

abbrev middle : RecordValue → ℕ → List (List ℕ)
middle v line =
    codes ",\"item\":\"record\",\"latitude\":" ∷ signed_decimal v.latitude ∷ codes ",\"line\":" ∷ decimal line
    ∷ codes ",\"longitude\":" ∷ signed_decimal v.longitude ∷ codes ",\"nx\":" ∷ []

abbrev back_tokens : RecordValue → List Token
back_tokens v =
    key (codes "priority") ∷ number (decimal v.priority) ∷ key (codes "satellites") ∷ number (decimal v.satellites)
    ∷ key (codes "speed") ∷ number (decimal v.speed) ∷ key (codes "time") ∷ number (decimal v.time) ∷ end_object ∷ []

abbrev middle_tokens : RecordValue → ℕ → List Token
middle_tokens v line =
    key (codes "item") ∷ string (codes "record") ∷ key (codes "latitude") ∷ number (signed_decimal v.latitude)
    ∷ key (codes "line") ∷ number (decimal line) ∷ key (codes "longitude") ∷ number (signed_decimal v.longitude)
    ∷ key (codes "nx") ∷ (list_tokens nx_tokens v.nx ++ back_tokens v)

-- the lists are printed, with what is in front of each
lists_printed : (v : RecordValue) (line : ℕ) (generation : List ℕ) → AllByRecursion (λ e. AreBytes e.1) v.nx
    → joined (front generation v) (print_from false (list_tokens element_tokens (ios_of v) ++ middle_tokens v line))
    ≡ joined (front generation v) (in_brackets (map element_text (ios_of v)) ++ joined (middle v line) (in_brackets (map nx_text v.nx) ++ print_from true (back_tokens v)))
unfolding json_on_literals
lists_printed v line generation bytes =
    ap (joined (front generation v)) (list_printed element_tokens element_text (ios_of v) (middle_tokens v line) (all_elements (ios_of v)))
    ∙ ap (λ t. joined (front generation v) (in_brackets (map element_text (ios_of v)) ++ joined (middle v line) t)) (list_printed nx_tokens nx_text v.nx (back_tokens v) (all_nx v.nx bytes))

pub record_printed : (codec : Codec) (v : RecordValue) (line : ℕ) (bytes : List ℕ) → IsRecord codec v bytes → print (record_tokens codec v line) ≡ record_text codec v line
unfolding json_on_literals record_text
record_printed C8 v line bytes r = lists_printed v line (codes "null") (nx_bytes C8 v bytes r)
record_printed C8E v line bytes r = lists_printed v line (codes "null") (nx_bytes C8E v bytes r)
record_printed C16 v line bytes r = lists_printed v line (decimal v.generation) (nx_bytes C16 v bytes r)
