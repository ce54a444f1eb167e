-- What opening finds.
use Rattle.std.specs.Prelude.{◌≡◌, ℕ, ◌≤◌, ◌^◌, List, length}
use Rattle.medium_model.specs.Content.{Content, settled}
use Rattle.archive_journal.specs.Body.{EntryValue}

-- All that is read is durable, and it is this file.
pub record IsDurableFile (file : List ℕ) (c : Content) : Type 0 where
  pub rest : c ≡ settled c.reads
  pub is : file ≡ c.reads

pub record IsFound (gate bodies : ℕ) (es : List EntryValue) : Type 0 where
  pub count : bodies ≡ length es
  pub bodies_few : bodies ≤ gate
  pub gate_low : gate ≤ 2 ^ 62
