-- Two lists, while they are gone through together.
use Rattle.std.proofs.Common.{◌≡◌, ℕ, List, ◌++◌, length, map, sym}
use Rattle.std.proofs.lemmas.Slice.Zip.{AllZip-long}
use Rattle.avl_values.specs.IoElement.{IoElement}
use Rattle.io_operands.specs.Watching.{Watched}
use Rattle.io_operands.specs.declared.setting.IoSetting.{IoSetting}
use Rattle.avl_values.specs.Record.{Record}
use Rattle.avl_values.specs.declared.codec.Codec.{Codec}
use Rattle.acquisition.specs.Checked.{AreNarrow}
use Rattle.acquisition.specs.Sound.{AreRecordsOf}
use Rattle.acquisition.specs.Elements.{ValuesFit, elements}
use Rattle.acquisition.specs.Firing.{fired, remembered}

-- The values that are left fit exactly where all fit.
pub record FitSoFar (ios : List IoSetting) (values : List ℕ) (left : List IoSetting) (left_values : List ℕ) : Type 0 where
  pub to : ValuesFit left left_values → ValuesFit ios values
  pub from : ValuesFit ios values → ValuesFit left left_values

pub record ElementsSoFar (ios : List IoSetting) (values : List ℕ) (out : List IoElement) (left : List IoSetting) (left_values : List ℕ) : Type 0 where
  pub fit : ValuesFit left left_values
  pub all : out ++ elements left left_values ≡ elements ios values

pub record FiredSoFar (watches : List Watched) (values : List ℕ) (out : List IoSetting) (after left : List Watched) (left_values : List ℕ) : Type 0 where
  pub fires : out ++ fired left left_values ≡ fired watches values
  pub remembers : after ++ remembered left left_values ≡ remembered watches values

pub fit_together : (ios : List IoSetting) (values : List ℕ) → ValuesFit ios values → length ios ≡ length values
fit_together ios values fit = sym (AllZip-long _ ios values fit)

-- Records so far, of settings that fire.
pub record RecordsSoFar (codec : Codec) (f : IoSetting → Record) (fired : List IoSetting) (out : List Record) (left : List IoSetting) : Type 0 where
  pub narrow : AreNarrow codec left
  pub made : out ++ map f left ≡ map f fired
  pub sound : AreRecordsOf codec (map f left) → AreRecordsOf codec (map f fired)
