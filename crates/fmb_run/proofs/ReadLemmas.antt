-- What is judged of a text that was read is what is judged of the source's whole text.
use Rattle.std.proofs.Common.{[], subst, ◌≡◌, ◌<◌, ◌^◌, ℕ, true, false, List, Option, None, Some, Result, Ok, Err, length, refl, sym, ap, ◌∙◌, inl, inr}
use Rattle.std.specs.Prelude.{◌⊎◌}
use Rattle.std.specs.Io.KnownBytes.{IsAtEnd}
use Rattle.capture_text.proofs.CaptureLemmas.{too_long as long_capture}
use Rattle.fmb_io.proofs.ReadSteps.{same_judged}
use Rattle.fmb_io.specs.Text.{IsReadOf, IsTextOf, OfText}
use Rattle.capture_text.specs.Capture.{LineValue, capture_of}
use Rattle.capture_text.specs.declared.fault.CaptureRefusal.{CaptureRefusal}
use Rattle.fmb_show.specs.Shown.{Print, capture_print, front_print, lines_print, shown, shown_front}

-- the whole text of a source is the same capture as what was read of it
pub same_capture : (told : Option (List ℕ)) (text : List ℕ) → IsReadOf told text → (whole : List ℕ) × IsTextOf told whole × (capture_of whole ≡ capture_of text)
same_capture told text read = same_judged capture_of _ told text long_capture read

-- so what holds of what is shown of the text that was read holds of what is shown of the source's text
pub of_whole : (told : Option (List ℕ)) (text : List ℕ) (P : Print → Type 0) → IsReadOf told text → P (shown text) → OfText told (λ text. P (shown text))
of_whole told text P read holds = let found = same_capture told text read in (found.0, found.1, subst P (sym (ap capture_print found.2)) holds)

-- and of its first lines
pub fronts_of_whole : (told : Option (List ℕ)) (text : List ℕ) (P : List ℕ → Type 0) → IsReadOf told text → (k : ℕ) × P (shown_front k text) → OfText told (λ text. (k : ℕ) × P (shown_front k text))
fronts_of_whole told text P read (k, holds) = let found = same_capture told text read in (found.0, found.1, (k, subst P (sym (ap (front_print k) found.2)) holds))

-- and the other way round, where the source tells its text
pub of_told : (told : Option (List ℕ)) (text whole : List ℕ) → IsReadOf told text → told ≡ Some whole → shown whole ≡ shown text
of_told told text whole read is =
    let found = same_capture told text read in
    let T : Option (List ℕ) → Type 0 = λ t. IsTextOf t found.0 in
    let same : whole ≡ found.0 = subst T is found.1 in
    ap shown same ∙ ap capture_print found.2

-- nothing is shown of no lines
no_lines : (capture : Result (List LineValue) CaptureRefusal) → front_print 0 capture ≡ []
unfolding lines_print
no_lines (Ok lines) = refl
no_lines (Err refusal) = refl

-- before anything was printed
pub no_front : (told : Option (List ℕ)) (P : List ℕ → Type 0) → P [] → OfText told (λ text. (k : ℕ) × P (shown_front k text))
no_front None P holds = ([], tt, (0, subst P (sym (no_lines (capture_of []))) holds))
no_front (Some whole) P holds = (whole, refl, (0, subst P (sym (no_lines (capture_of whole))) holds))

-- a text that is shown without a fault was read to its end
pub ended_at : (left : Option (List ℕ)) (text : List ℕ) → IsAtEnd left ⊎ (2 ^ 24 < length text) → (shown text).faulty ≡ false → IsAtEnd left
ended_at left text (inl end) clean = end
ended_at left text (inr long) clean =
    let refused : (shown text).faulty ≡ true = ap (λ c. (capture_print c).faulty) (long_capture text long) in
    absurd (let never : true ≡ false = sym refused ∙ clean in cc)
