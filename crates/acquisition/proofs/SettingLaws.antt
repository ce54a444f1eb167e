-- What settings without a fault keep.
use Rattle.std.proofs.Common.{◌≡◌, ℕ, suc, ◌+◌, ◌≤◌, List, [], ◌∷◌, length, Bool, true, false, cond, not, nat_lt, Option, Some, None, refl, arith, if◌then◌else◌}
use Rattle.std.specs.List.{AllByRecursion, sum_by, position, position_or_len}
use Rattle.std.specs.Option.{is_none, option_map, unwrap_or}
use Rattle.std.proofs.lemmas.Bool.Decides.{nat_tests}
use Rattle.std.proofs.lemmas.List.Sums.{sum_by-cons}
use Rattle.avl_values.specs.IoElement.{IoElement}
use Rattle.avl_values.specs.Width.{bytes_of, width_of_bytes}
use Rattle.avl_values.specs.declared.codec.Codec.{Codec}
use Rattle.avl_values.specs.declared.codec.Codec.TheVariants.{C8, C8E, C16}
use Rattle.avl_values.specs.declared.width.Width.{Width}
use Rattle.avl_values.specs.declared.width.Width.TheVariants.{W1}
use Rattle.io_operands.specs.declared.setting.IoSetting.{IoSetting}
use Rattle.record_writing.specs.Length.{ios_length}
use Rattle.acquisition.specs.declared.settings.SettingFault.{SettingFault}
use Rattle.acquisition.specs.Checked.{IsNarrow, AreNarrow, HaveWidths, AreChecked}
use Rattle.acquisition.specs.Checking.{or, too_many, bad_width, id_too_wide, record_too_long, setting_fault, full_length}
use Rattle.acquisition.specs.Elements.{ValuesFit, elements, width_of}

neither : (a b : Option SettingFault) → or a b ≡ None → (a ≡ None) × (b ≡ None)
neither None b e = (refl, e)
neither (Some fault) b e = absurd (cc)

unless : (b : Bool) (fault : SettingFault) → (if b then Some fault else None) ≡ None → b ≡ false
unless true fault e = absurd (cc)
unless false fault e = refl

at_most : (n high : ℕ) → nat_lt high n ≡ false → n ≤ high
at_most n high e = grind (arith, nat_tests)

none_mapped : (f : ℕ → SettingFault) (o : Option ℕ) → option_map f o ≡ None → o ≡ None
none_mapped f None e = refl
none_mapped f (Some k) e = absurd (cc)

no_index : (b : Bool) (n : ℕ) → cond b (Some n) None ≡ None → b ≡ false
no_index true n e = absurd (cc)
no_index false n e = refl

passes_not : (b : Bool) (n m : ℕ) → suc n ≤ cond (not b) (1 + m) 0 → (b ≡ false) × (n ≤ m)
passes_not true n m h = absurd (omega arith)
passes_not false n m h = (refl, omega arith)

none_before : (p : IoSetting → Bool) (xs : List IoSetting) → length xs ≤ position_or_len p xs → AllByRecursion (λ x. p x ≡ false) xs
none_before p [] h = tt
none_before p (x ∷ xs) h = let both = passes_not (p x) (length xs) (position_or_len p xs) h in (both.0, none_before p xs both.1)

none_passes : (p : IoSetting → Bool) (xs : List IoSetting) → position p xs ≡ None → AllByRecursion (λ x. p x ≡ false) xs
none_passes p xs e = none_before p xs (at_most (length xs) (position_or_len p xs) (no_index (nat_lt (position_or_len p xs) (length xs)) (position_or_len p xs) e))

pub each : {A : Type 0} (P Q : A → Type 0) → ((x : A) → P x → Q x) → (xs : List A) → AllByRecursion P xs → AllByRecursion Q xs
each P Q f [] h = tt
each P Q f (x ∷ xs) h = (f x h.0, each P Q f xs h.1)

width_kept : (n : ℕ) → is_none (width_of_bytes n) ≡ false → bytes_of (unwrap_or (width_of_bytes n) W1) ≡ n
width_kept n e = grind (arith, nat_tests)

always : (ios : List IoSetting) → AllByRecursion (λ (s : IoSetting). Unit {0}) ios
always [] = tt
always (s ∷ ss) = (tt, always ss)

narrow_in : (codec : Codec) (ios : List IoSetting) → id_too_wide codec ios ≡ None → AreNarrow codec ios
narrow_in C8 ios e =
    each (λ s. nat_lt 255 s.id ≡ false) (λ s. IsNarrow C8 s.id) (λ s h. grind (arith, nat_tests, at_most s.id 255 h)) ios
    (none_passes (λ s. nat_lt 255 s.id) ios (none_mapped _ (position (λ s. nat_lt 255 s.id) ios) e))
narrow_in C8E ios e = each (λ s. Unit {0}) (λ s. IsNarrow C8E s.id) (λ s h. h) ios (always ios)
narrow_in C16 ios e = each (λ s. Unit {0}) (λ s. IsNarrow C16 s.id) (λ s h. h) ios (always ios)

-- settings without a fault
pub checked : (codec : Codec) (ios : List IoSetting) → setting_fault codec ios ≡ None → AreChecked codec ios
checked codec ios e =
    let a = neither (too_many ios) (or (bad_width ios) (or (id_too_wide codec ios) (record_too_long codec ios))) e in
    let b = neither (bad_width ios) (or (id_too_wide codec ios) (record_too_long codec ios)) a.1 in
    let c = neither (id_too_wide codec ios) (record_too_long codec ios) b.1 in record {
      few = at_most (length ios) 32 (unless _ _ a.0);
      widths = each (λ s. is_none (width_of_bytes s.width) ≡ false) (λ s. bytes_of (width_of s) ≡ s.width) (λ s h. width_kept s.width h) ios
          (none_passes (λ s. is_none (width_of_bytes s.width)) ios (none_mapped _ _ b.0));
      narrow = narrow_in codec ios c.0;
      short = at_most (full_length codec ios) 255 (unless _ _ c.1);
    }

-- all elements take what their settings say
pub elements_length : (id : Width) (ios : List IoSetting) (values : List ℕ) → HaveWidths ios → ValuesFit ios values → ios_length id (elements ios values) ≡ sum_by (λ s. bytes_of id + s.width) ios
elements_length id [] [] widths fit = refl
elements_length id [] (v ∷ vs) widths fit = absurd fit
elements_length id (s ∷ ss) [] widths fit = absurd fit
elements_length id (s ∷ ss) (v ∷ vs) widths fit =
    omega (
      arith,
      widths.0,
      elements_length id ss vs widths.1 fit.1,
      sum_by-cons (λ (io : IoElement). bytes_of id + bytes_of io.width) (record { id = s.id; width = width_of s; value = v }) (elements ss vs),
      sum_by-cons (λ (x : IoSetting). bytes_of id + x.width) s ss,
    )
