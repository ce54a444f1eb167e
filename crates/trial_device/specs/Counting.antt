-- What is true of a ring as records are stored within one line.
use Rattle.std.specs.Prelude.{◌≡◌, ◌⊎◌, ◌≤◌, ◌+◌, ◌^◌, ℕ, true, false, IsSome}
use Rattle.flash_ring.specs.Ring.{EverySound, RingView}
use Rattle.medium_model.specs.CallsLeft.{exhausted, unknown, unlimited}

-- None of the medium's calls will fail, or its content and its calls are told; the ring is down only after one failed; and there are
-- sequences for N records more.
pub record IsCounting (records : ℕ) (v : RingView) : Type 0 where
  pub counts : (v.medium.left ≡ unlimited) ⊎ (IsSome v.medium.content × (v.medium.left ≡ unknown → ⊥))
  pub spent : v.down ≡ true → v.medium.left ≡ exhausted
  pub short : v.down ≡ false → v.next + records ≤ 2 ^ 63
  pub sound : EverySound v
