-- A fix's record has room, and narrow ids where Codec 8 has it.
use Rattle.std.proofs.Common.{◌≡◌, ℕ, zero, suc, ◌<◌, ◌≤◌, List, [], ◌∷◌, sym, ap, subst, arith, All}
use Rattle.avl_values.specs.IoElement.{IoElement}
use Rattle.avl_values.specs.NxElements.{nx_size}
use Rattle.avl_values.specs.RecordValue.{RecordValue, value_of}
use Rattle.avl_values.specs.declared.avl_record.AvlRecord.{AvlRecord}
use Rattle.avl_values.specs.declared.codec.Codec.{Codec}
use Rattle.avl_values.specs.declared.codec.Codec.TheVariants.{C8, C8E, C16}
use Rattle.io_operands.specs.declared.setting.IoSetting.{IoSetting}
use Rattle.record_layout.specs.Spelling.{HasNoOther}
use Rattle.record_writing.specs.Length.{record_length, ios_length}
use Rattle.record_layout.specs.Table.{id_width}
use Rattle.record_writing.specs.Refusal.{HasNarrowIds}
use Rattle.record_writing.proofs.Pieces.{length_summed}
use Rattle.acquisition.specs.Checked.{IsNarrow, AreNarrow, AreChecked}
use Rattle.acquisition.specs.Elements.{ValuesFit, element, elements}
use Rattle.acquisition.specs.Made.{in_codec}
use Rattle.acquisition.proofs.SettingLaws.{elements_length}

at_each : (io : IoElement) (ios : List IoElement) → io.id < 256 → All (λ (x : IoElement). x.id < 256) ios → All (λ (x : IoElement). x.id < 256) (io ∷ ios)
at_each io ios one rest zero d h = one
at_each io ios one rest (suc k) d h = rest k d (omega arith)

narrow_elements : (ios : List IoSetting) (values : List ℕ) → AreNarrow C8 ios → ValuesFit ios values → All (λ (io : IoElement). io.id < 256) (elements ios values)
narrow_elements [] [] narrow fit = λ k d h. absurd (omega arith)
narrow_elements [] (v ∷ vs) narrow fit = absurd fit
narrow_elements (s ∷ ss) [] narrow fit = absurd fit
narrow_elements (s ∷ ss) (v ∷ vs) narrow fit = at_each (element s v) (elements ss vs) narrow.0 (narrow_elements ss vs narrow.1 fit.1)

pub draft_narrow : (codec : Codec) (ios : List IoSetting) (values : List ℕ) (r : AvlRecord) → AreChecked codec ios → ValuesFit ios values → r.ios.items ≡ elements ios values → IsNarrow codec r.event → HasNarrowIds codec r
draft_narrow C8 ios values r are fit is narrow = (narrow, subst (All (λ (io : IoElement). io.id < 256)) (sym is) (narrow_elements ios values are.narrow fit))
draft_narrow C8E ios values r are fit is narrow = tt
draft_narrow C16 ios values r are fit is narrow = tt

has_no_other : (codec : Codec) (v : RecordValue) (generation : ℕ) → v.nx ≡ [] → v.generation ≡ in_codec codec generation → HasNoOther codec v
has_no_other C8 v generation nx is = (nx, is)
has_no_other C8E v generation nx is = is
has_no_other C16 v generation nx is = nx

pub draft_room : (codec : Codec) (ios : List IoSetting) (values : List ℕ) (r : AvlRecord) (generation : ℕ) → AreChecked codec ios → ValuesFit ios values → r.ios.items ≡ elements ios values → r.nx ≡ [] → r.generation ≡ in_codec codec generation → record_length codec (value_of r) ≤ 255
draft_room codec ios values r generation are fit is none other =
    omega (arith, length_summed codec r (has_no_other codec (value_of r) generation none other), ap (ios_length (id_width codec)) is, elements_length (id_width codec) ios values are.widths fit, ap nx_size none, are.short)
