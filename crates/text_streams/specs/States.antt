-- What contracts see of a source and of a sink. Bytes and names stand there where they are told; of a real file nothing is told.
use Rattle.std.specs.Prelude.{ℕ, List, Option}

pub record SourceState : Type 0 where
  -- the bytes that are left
  pub left : Option (List ℕ)
  -- the name that it was opened by
  pub name : Option (List ℕ)
  -- how often it has failed
  pub faults : ℕ

pub record SinkState : Type 0 where
  -- the bytes that were written
  pub written : Option (List ℕ)
  -- how often it has failed
  pub faults : ℕ
