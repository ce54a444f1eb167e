-- What was read of a source is its whole text, or too long for a script and a capture.
use Rattle.std.proofs.Common.{◌≡◌, ◌<◌, ◌≤◌, ◌+◌, ◌-◌, ◌^◌, ℕ, min, List, ◌++◌, Option, None, Some, length, take, drop, refl, sym, ap, ◌∙◌, inl, inr, arith, append_assoc, length-append, length-take, take-append-drop}
use Rattle.std.proofs.Math.Seq.{take-append_seam}
use Rattle.std.proofs.lemmas.List.{length-take-le, take-take}
use Rattle.std.specs.Prelude.{◌⊎◌}
use Rattle.std.specs.Io.{StartsWith}
use Rattle.std.specs.Io.KnownBytes.{Consumes, IsAtEnd}
use Rattle.fmb_io.specs.Text.{IsReadOf, IsTextOf}

-- the last read gave nothing, at the end
read_to_end : (a b d : Option (List ℕ)) (text piece : List ℕ) → Consumes a b text → Consumes b d (take 0 piece) → IsAtEnd d → IsReadOf a (text ++ take 0 piece)
read_to_end None b d text piece so_far last end = tt
read_to_end (Some x) None d text piece so_far last end = absurd so_far
read_to_end (Some x) (Some y) None text piece so_far last end = absurd last
read_to_end (Some x) (Some y) (Some z) text piece so_far last end =
    inl (ap (λ l. text ++ l) (sym end ∙ sym last) ∙ sym so_far)

-- the last read gave more than there was room for
read_too_much : (a b d : Option (List ℕ)) (text piece : List ℕ) (count kept : ℕ) → Consumes a b text → Consumes b d (take count piece)
    → kept ≤ count → kept ≤ length piece → 2 ^ 24 < length text + kept → IsReadOf a (text ++ take kept piece)
read_too_much None b d text piece count kept so_far last within there long = tt
read_too_much (Some x) None d text piece count kept so_far last within there long = absurd so_far
read_too_much (Some x) (Some y) None text piece count kept so_far last within there long = absurd last
read_too_much (Some x) (Some y) (Some z) text piece count kept so_far last within there long =
    let front : take count piece ≡ take kept piece ++ drop kept (take count piece) =
    sym (take-append-drop kept (take count piece)) ∙ ap (λ l. l ++ drop kept (take count piece)) (take-take kept count piece within) in
    let rest : List ℕ = drop kept (take count piece) ++ z in
    let whole : x ≡ (text ++ take kept piece) ++ rest =
    so_far ∙ ap (λ l. text ++ l) (last ∙ ap (λ l. l ++ z) front ∙ append_assoc (take kept piece) (drop kept (take count piece)) z) ∙ sym (append_assoc text (take kept piece) rest) in
    let more : 2 ^ 24 < length (text ++ take kept piece) = omega (arith, length-append text (take kept piece), length-take-le kept piece there) in
    inr (more, ap (take (length (text ++ take kept piece))) whole ∙ take-append_seam (text ++ take kept piece) rest)

-- the last read gave nothing, or more than there was room for
pub read_enough : (a b d : Option (List ℕ)) (text piece : List ℕ) (count kept room : ℕ) → Consumes a b text → Consumes b d (take count piece)
    → (count ≡ 0 → 0 < length piece → IsAtEnd d) → 0 < length piece → count ≤ length piece → length text ≤ 2 ^ 24 → room ≡ 2 ^ 24 - length text → kept ≡ min count (room + 1)
    → (count ≡ 0) ⊎ ((count ≡ 0 → ⊥) × (room < count)) → IsReadOf a (text ++ take kept piece)
read_enough a b d text piece count kept room so_far last end some there short room_is kept_is (inl none) =
    let nothing : kept ≡ 0 = omega arith in
    rw nothing (read_to_end a b d text piece so_far (rw none at last) (end none some))
read_enough a b d text piece count kept room so_far last end some there short room_is kept_is (inr more) =
    let full : kept ≡ room + 1 = omega (arith, more.1) in
    read_too_much a b d text piece count kept so_far last (omega arith) (omega arith) (omega arith)

-- a text that begins with one that is too long is too long
pub too_long_along : (whole text : List ℕ) → 2 ^ 24 < length text → StartsWith whole text → 2 ^ 24 < length whole
too_long_along whole text long starts = omega (arith, ap length starts, length-take (length text) whole)

-- What is judged of the whole text of a source is what is judged of the text that was read of it, where all texts that are too long are
-- judged alike.
pub same_judged : {T : Type 0} (judge : List ℕ → T) (long : T) (told : Option (List ℕ)) (text : List ℕ) → ((t : List ℕ) → 2 ^ 24 < length t → judge t ≡ long) → IsReadOf told text
    → (whole : List ℕ) × IsTextOf told whole × (judge whole ≡ judge text)
same_judged judge long None text alike read = (text, tt, refl)
same_judged judge long (Some whole) text alike (inl e) = (whole, refl, ap judge (sym e))
same_judged judge long (Some whole) text alike (inr p) = (whole, refl, alike whole (too_long_along whole text p.0 p.1) ∙ sym (alike text p.0))
