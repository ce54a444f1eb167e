-- The value that is read from a record's bytes.
use Rattle.std.proofs.Common.{◌≡◌, ℕ, List, [], ◌∷◌, ◌++◌, true, false, refl, ap, sym, ◌∙◌, append-nil}
use Rattle.avl_values.specs.IoElement.{IoElement}
use Rattle.avl_values.specs.RecordValue.{RecordValue, pairs_of}
use Rattle.avl_values.specs.Width.{is_width}
use Rattle.avl_values.specs.declared.codec.Codec.{Codec}
use Rattle.avl_values.specs.declared.codec.Codec.TheVariants.{C8, C8E, C16}
use Rattle.avl_values.specs.declared.width.Width.{Width}
use Rattle.avl_values.specs.declared.width.Width.TheVariants.{W1, W2, W4, W8}
use Rattle.record_codecs.specs.Elements.{elements, ios_of}
use Rattle.record_codecs.proofs.RecordReads.{altitude_is, angle_is, event_is, generation_is, ios_are, latitude_is, longitude_is, nx_are, priority_is, satellites_is, speed_is, time_is}
use Rattle.record_layout.specs.Spelling.{IsRecord}
use Rattle.show_lines.specs.Laws.{RecordIsRead}
use Rattle.show_lines.specs.RecordValues.{generation_at, value_in}

same_width : (w : Width) → is_width w w ≡ true
same_width W1 = refl
same_width W2 = refl
same_width W4 = refl
same_width W8 = refl

-- the pairs of a width, of elements that all have it
own_pairs : (w : Width) (es : List (ℕ × ℕ)) (more : List IoElement) → pairs_of w (elements w es ++ more) ≡ es ++ pairs_of w more
own_pairs w [] more = refl
own_pairs w (e ∷ es) more = rw (same_width w) (ap (λ l. e ∷ l) (own_pairs w es more))

other_pairs : (v w : Width) (es : List (ℕ × ℕ)) (more : List IoElement) → is_width w v ≡ false → pairs_of v (elements w es ++ more) ≡ pairs_of v more
other_pairs v w [] more other = refl
other_pairs v w (e ∷ es) more other = rw other (other_pairs v w es more other)

no_pairs : (v w : Width) (es : List (ℕ × ℕ)) → is_width w v ≡ false → pairs_of v (elements w es) ≡ []
no_pairs v w es other = ap (pairs_of v) (sym (append-nil (elements w es))) ∙ other_pairs v w es [] other

ones_are : (v : RecordValue) → pairs_of W1 (ios_of v) ≡ v.ones
ones_are v =
    own_pairs W1 v.ones _
    ∙ ap (λ l. v.ones ++ l) (other_pairs W1 W2 v.twos _ refl ∙ other_pairs W1 W4 v.fours _ refl ∙ no_pairs W1 W8 v.eights refl)
    ∙ append-nil v.ones

twos_are : (v : RecordValue) → pairs_of W2 (ios_of v) ≡ v.twos
twos_are v =
    other_pairs W2 W1 v.ones _ refl ∙ own_pairs W2 v.twos _
    ∙ ap (λ l. v.twos ++ l) (other_pairs W2 W4 v.fours _ refl ∙ no_pairs W2 W8 v.eights refl)
    ∙ append-nil v.twos

fours_are : (v : RecordValue) → pairs_of W4 (ios_of v) ≡ v.fours
fours_are v =
    other_pairs W4 W1 v.ones _ refl ∙ other_pairs W4 W2 v.twos _ refl ∙ own_pairs W4 v.fours _
    ∙ ap (λ l. v.fours ++ l) (no_pairs W4 W8 v.eights refl) ∙ append-nil v.fours

eights_are : (v : RecordValue) → pairs_of W8 (ios_of v) ≡ v.eights
eights_are v =
    other_pairs W8 W1 v.ones _ refl ∙ other_pairs W8 W2 v.twos _ refl ∙ other_pairs W8 W4 v.fours _ refl
    ∙ ap (pairs_of W8) (sym (append-nil (elements W8 v.eights))) ∙ own_pairs W8 v.eights [] ∙ append-nil v.eights

generation_read : (codec : Codec) (v : RecordValue) (bytes : List ℕ) → IsRecord codec v bytes → generation_at codec bytes ≡ v.generation
generation_read C8 v bytes r = sym r.no_other.1
generation_read C8E v bytes r = sym r.no_other
generation_read C16 v bytes r = generation_is v bytes r

pub value_read : RecordIsRead
unfolding value_in
value_read codec v bytes r =
    let ios = ios_are codec v bytes r in
    λ i. record {
      time = time_is codec v bytes r i;
      priority = priority_is codec v bytes r i;
      longitude = longitude_is codec v bytes r i;
      latitude = latitude_is codec v bytes r i;
      altitude = altitude_is codec v bytes r i;
      angle = angle_is codec v bytes r i;
      satellites = satellites_is codec v bytes r i;
      speed = speed_is codec v bytes r i;
      event = event_is codec v bytes r i;
      generation = generation_read codec v bytes r i;
      ones = (ap (pairs_of W1) ios ∙ ones_are v) i;
      twos = (ap (pairs_of W2) ios ∙ twos_are v) i;
      fours = (ap (pairs_of W4) ios ∙ fours_are v) i;
      eights = (ap (pairs_of W8) ios ∙ eights_are v) i;
      nx = nx_are codec v bytes r i;
    }
