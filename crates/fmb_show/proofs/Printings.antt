-- What a sink has of a text that is printed piece by piece.
use Rattle.std.proofs.Common.{◌≡◌, ◌≤◌, ◌+◌, ℕ, min, Bool, true, false, List, [], ◌++◌, length, take, refl, sym, ◌∙◌, subst, inl, inr, arith}
use Rattle.std.proofs.Math.Seq.{take-append-add, take-length}
use Rattle.std.proofs.lemmas.List.{take-append-le, take_min}
use Rattle.std.proofs.KnownBytes.{Appends-nil, Appends-trans}
use Rattle.std.specs.Io.KnownBytes.{Appends}
use Rattle.avl_values.specs.Causes.{Rose}
use Rattle.text_streams.specs.States.{SinkState}
use Rattle.text_streams.specs.Writes.{HasFailed, IsSteady, Prints, PrintsFront, PrintsWhole}
use Rattle.fmb_show.specs.Printing.{HasPrinted}

pub nothing_printed : (now : SinkState) → HasPrinted now now false []
nothing_printed now = record {
  front = (0, Appends-nil now.written);
  whole = λ _. Appends-nil now.written;
  steady = λ _. refl;
  rose = λ e. absurd (let never : false ≡ true = e in cc);
  later = omega arith;
}

module _ (start mid now : SinkState) (printed text : List ℕ) where
  -- a sink that has failed is left alone
  pub left_alone : HasPrinted start mid true printed → HasPrinted start mid true (printed ++ text)
  left_alone has =
      let n = min has.front.0 (length printed) in
      let shorter : take n (printed ++ text) ≡ take has.front.0 printed = take-append-le n printed text (omega arith) ∙ take_min has.front.0 printed in
      record {
        front = (n, subst (Appends start.written mid.written) (sym shorter) has.front.1);
        whole = λ e. absurd (let never : true ≡ false = e in cc);
        steady = λ e. absurd (let never : true ≡ false = e in cc);
        rose = has.rose;
        later = has.later;
      }

  -- all of it was written
  pub written_on : HasPrinted start mid false printed → PrintsWhole text mid now → IsSteady mid now → HasPrinted start now false (printed ++ text)
  written_on has more same =
      let all : Appends start.written now.written (printed ++ text) = Appends-trans start.written mid.written now.written printed text (has.whole refl) more in
      let n = length (printed ++ text) in
      record {
        front = (n, subst (Appends start.written now.written) (sym (take-length (printed ++ text))) all);
        whole = λ _. all;
        steady = λ _. same ∙ has.steady refl;
        rose = λ e. absurd (let never : false ≡ true = e in cc);
        later = omega (arith, same, has.later);
      }

  -- the sink failed on it
  pub failed_on : HasPrinted start mid false printed → PrintsFront text mid now → HasFailed mid now → mid.faults ≤ now.faults → HasPrinted start now true (printed ++ text)
  failed_on has more rose later =
      let all : Appends start.written now.written (printed ++ take more.0 text) =
      Appends-trans start.written mid.written now.written printed (take more.0 text) (has.whole refl) more.1 in
      let R : ℕ → Type 0 = λ c. Rose c now.faults in
      record {
        front = (length printed + more.0, subst (Appends start.written now.written) (sym (take-append-add printed text more.0)) all);
        whole = λ e. absurd (let never : true ≡ false = e in cc);
        steady = λ e. absurd (let never : true ≡ false = e in cc);
        rose = λ _. subst R (has.steady refl) rose;
        later = omega (arith, has.later, later);
      }

-- so a line was printed
pub line_printed : (start now : SinkState) (failed : Bool) (text : List ℕ) → HasPrinted start now failed text → Prints text start now
line_printed start now false text has = record { front = has.front; whole = inl (has.whole refl); later = has.later }
line_printed start now true text has = record { front = has.front; whole = inr (has.rose refl); later = has.later }
