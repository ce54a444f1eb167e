-- An I/O element as contracts see it.
use Rattle.std.specs.Prelude.{ℕ}
use Rattle.avl_values.specs.declared.width.Width.{Width}

pub record IoElement : Type 0 where
  pub id : ℕ
  pub width : Width
  pub value : ℕ
