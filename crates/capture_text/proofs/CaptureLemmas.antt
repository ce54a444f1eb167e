-- The lines of a capture, one after the other.
use Rattle.std.proofs.Common.{◌≡◌, ◌∙◌, ◌<◌, ◌≤◌, ◌^◌, ℕ, nat_lt, true, false, List, length, [], ◌∷◌, Option, Some, None, Result, Ok, Err, Bor, IfErr, MatchOption, IfOk, IsErrAnd, IsOk, refl, sym, ap, subst, arith}
use Rattle.std.proofs.lemmas.Bool.Decides.{nat_tests}
use Rattle.std.specs.Result.{result_unwrap_or}
use Rattle.text_lines.specs.Lines.{content_lines}
use Rattle.hex.specs.Hex.{decode_of}
use Rattle.hex.specs.declared.error.FromHexError.{FromHexError}
use Rattle.capture_text.specs.Capture.{LineValue, before, bytes_of, capture_of, line_says, lines_say, said_by, with_bytes}
use Rattle.capture_text.specs.declared.fault.CaptureFault.{CaptureFault}
use Rattle.capture_text.specs.declared.fault.CaptureFault.TheVariants.{TextTooLong}
use Rattle.capture_text.specs.declared.fault.CaptureRefusal.{CaptureRefusal}
use Rattle.capture_text.specs.declared.word.CaptureWord.{CaptureWord}

abbrev pub line_value : ℕ → CaptureWord → List ℕ → LineValue
line_value number word bytes = record { number = number; word = word; bytes = bytes }

-- a sound line before others is told with them
pub record IsSound (number : ℕ) (word : CaptureWord) (digits : List ℕ) (lines more : List (ℕ × List ℕ)) : Type 0 where
  pub digits_decode : IsOk (decode_of digits)
  pub more_sound : IsOk (lines_say more)
  pub said : said_by lines ≡ line_value number word (bytes_of digits) ∷ said_by more

sound_first : (number : ℕ) (word : CaptureWord) (d : Result (List ℕ) FromHexError) (m : Result (List LineValue) CaptureRefusal) → IsOk (before number (with_bytes word d) m)
    → IsOk d × IsOk m × (result_unwrap_or (before number (with_bytes word d) m) [] ≡ line_value number word (result_unwrap_or d []) ∷ result_unwrap_or m [])
sound_first number word (Ok bytes) (Ok lines) h = (refl, refl, refl)
sound_first number word (Ok bytes) (Err refusal) h = absurd (cc)
sound_first number word (Err e) m h = absurd (cc)

pub first_sound : (number : ℕ) (text digits : List ℕ) (word : CaptureWord) (lines more : List (ℕ × List ℕ)) → lines ≡ (number, text) ∷ more
    → IsOk (lines_say lines) → line_says text ≡ with_bytes word (decode_of digits) → IsSound number word digits lines more
unfolding lines_say
first_sound number text digits word lines more is sound says =
    let told : lines_say lines ≡ before number (with_bytes word (decode_of digits)) (lines_say more) = ap lines_say is ∙ ap (λ s. before number s (lines_say more)) says in
    let parts = sound_first number word (decode_of digits) (lines_say more) (subst (λ (r : Result (List LineValue) CaptureRefusal). IsOk r) told sound) in
    record {
      digits_decode = parts.0;
      more_sound = parts.1;
      said = ap (λ (r : Result (List LineValue) CaptureRefusal). result_unwrap_or r []) told ∙ parts.2;
    }

pub split_sound : (number : ℕ) (text : List ℕ) (lines more : List (ℕ × List ℕ)) (r : Result (CaptureWord × Bor (List ℕ)) CaptureFault) (p : CaptureWord × Bor (List ℕ))
    → r ≡ Ok p → IfOk r (λ p. line_says text ≡ with_bytes p.0 (decode_of p.1.now)) → lines ≡ (number, text) ∷ more → IsOk (lines_say lines)
    → IsSound number p.0 p.1.now lines more
split_sound number text lines more r p ok says is sound =
    first_sound number text p.1.now p.0 lines more is sound (subst (λ (r : Result (CaptureWord × Bor (List ℕ)) CaptureFault). IfOk r (λ p. line_says text ≡ with_bytes p.0 (decode_of p.1.now))) ok says)

-- so it has no fault
faulty_first : (number : ℕ) (fault : CaptureFault) (m : Result (List LineValue) CaptureRefusal) → IsOk (before number (Err fault) m) → ⊥
faulty_first number fault m h = cc

pub first_split : {X : Type 0} (number : ℕ) (text : List ℕ) (lines more : List (ℕ × List ℕ)) (r : Result X CaptureFault) → lines ≡ (number, text) ∷ more
    → IsOk (lines_say lines) → IfErr r (λ fault. line_says text ≡ Err fault) → IsOk r
unfolding lines_say
first_split number text lines more (Ok x) is sound fault = refl
first_split number text lines more (Err e) is sound fault =
    let told : lines_say lines ≡ before number (Err e) (lines_say more) = ap lines_say is ∙ ap (λ s. before number s (lines_say more)) fault in
    absurd (faulty_first number e (lines_say more) (subst (λ (r : Result (List LineValue) CaptureRefusal). IsOk r) told sound))

pub nothing_said : (lines : List (ℕ × List ℕ)) → lines ≡ [] → said_by lines ≡ []
unfolding lines_say
nothing_said lines is = ap (λ (ls : List (ℕ × List ℕ)). result_unwrap_or (lines_say ls) []) is

pub at_none : {X : Type 0} (o : Option X) (P : Type 0) (Q : X → Type 0) → o ≡ None → P → MatchOption o P Q
at_none {X = X} o P Q is p = subst (λ (o : Option X). MatchOption o P Q) (sym is) p

-- the fault among lines, if there is one
abbrev pub fault_in : Result (List LineValue) CaptureRefusal → Option CaptureRefusal
fault_in (Ok lines) = None
fault_in (Err refusal) = Some refusal

behind_sound : (number : ℕ) (s : Result (CaptureWord × List ℕ) CaptureFault) (m : Result (List LineValue) CaptureRefusal) → IsOk s → fault_in (before number s m) ≡ fault_in m
behind_sound number (Ok said) (Ok lines) h = refl
behind_sound number (Ok said) (Err refusal) h = refl
behind_sound number (Err fault) m h = absurd (cc)

pub passed : (number : ℕ) (text : List ℕ) (lines more : List (ℕ × List ℕ)) → lines ≡ (number, text) ∷ more → IsOk (line_says text)
    → fault_in (lines_say more) ≡ fault_in (lines_say lines)
unfolding lines_say
passed number text lines more is sound =
    sym (ap (λ (ls : List (ℕ × List ℕ)). fault_in (lines_say ls)) is ∙ behind_sound number (line_says text) (lines_say more) sound)

pub met : (number : ℕ) (text : List ℕ) (lines more : List (ℕ × List ℕ)) (fault : CaptureFault) → lines ≡ (number, text) ∷ more → line_says text ≡ Err fault
    → fault_in (lines_say lines) ≡ Some (record { line = number; fault = fault })
unfolding lines_say
met number text lines more fault is says =
    ap (λ (ls : List (ℕ × List ℕ)). fault_in (lines_say ls)) is ∙ ap (λ s. fault_in (before number s (lines_say more))) says

pub none_met : (lines : List (ℕ × List ℕ)) → lines ≡ [] → fault_in (lines_say lines) ≡ None
unfolding lines_say
none_met lines is = ap (λ (ls : List (ℕ × List ℕ)). fault_in (lines_say ls)) is

pub no_fault : (r : Result (List LineValue) CaptureRefusal) → fault_in r ≡ None → IsOk r
no_fault (Ok lines) h = refl
no_fault (Err refusal) h = absurd (cc)

pub that_fault : (r : Result (List LineValue) CaptureRefusal) (refusal : CaptureRefusal) → fault_in r ≡ Some refusal → r ≡ Err refusal
that_fault (Ok lines) refusal h = absurd (cc)
that_fault (Err other) refusal h = ap (λ (o : Option CaptureRefusal). err_of o other) h
  where
    err_of : Option CaptureRefusal → CaptureRefusal → Result (List LineValue) CaptureRefusal
    err_of None d = Err d
    err_of (Some r) d = Err r

-- an error that is handed on
pub handed_on : {X E : Type 0} (r : Result X E) (e : E) (P : E → Type 0) → IsErrAnd r (λ x. x ≡ e) → P e → IfErr r P
handed_on (Ok x) e P h p = tt
handed_on (Err x) e P h p = subst P (sym h) p

-- a text by its length
pub too_long : (text : List ℕ) → 2 ^ 24 < length text → capture_of text ≡ Err (record { line = 0; fault = TextTooLong })
unfolding capture_of
too_long text long = let e : nat_lt (2 ^ 24) (length text) ≡ true = grind (arith, nat_tests) in rw e refl

pub whole_text : (text : List ℕ) → length text ≤ 2 ^ 24 → capture_of text ≡ lines_say (content_lines text)
unfolding capture_of
whole_text text short = let e : nat_lt (2 ^ 24) (length text) ≡ false = grind (arith, nat_tests) in rw e refl
