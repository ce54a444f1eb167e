-- Watches and the values that they have seen.
use Rattle.std.proofs.Common.{◌≡◌, ℕ, suc, List, [], ◌∷◌, length, Bool, true, false, if◌then◌else◌, refl, ap, arith, Some, None}
use Rattle.avl_values.specs.declared.codec.Codec.{Codec}
use Rattle.io_operands.specs.Firing.{fires}
use Rattle.io_operands.specs.declared.setting.IoSetting.{IoSetting}
use Rattle.acquisition.specs.Checked.{IsNarrow, AreNarrow}
use Rattle.acquisition.specs.Firing.{watched_by, fired, remembered, seen}

pub watched_length : (ios : List IoSetting) (values : List ℕ) → length (watched_by ios values) ≡ length ios
watched_length [] values = refl
watched_length (s ∷ ss) [] = ap (λ n. suc n) (watched_length ss [])
watched_length (s ∷ ss) (v ∷ vs) = ap (λ n. suc n) (watched_length ss vs)

pub remembered_watched : (ios : List IoSetting) (before values : List ℕ) → length ios ≡ length values → remembered (watched_by ios before) values ≡ watched_by ios values
remembered_watched [] before values h = refl
remembered_watched (s ∷ ss) before [] h = absurd (omega arith)
remembered_watched (s ∷ ss) [] (v ∷ vs) h = ap (λ ws. record { setting = s; last = Some v } ∷ ws) (remembered_watched ss [] vs (omega arith))
remembered_watched (s ∷ ss) (b ∷ bs) (v ∷ vs) h = ap (λ ws. record { setting = s; last = Some v } ∷ ws) (remembered_watched ss bs vs (omega arith))

pub seen_watched : (ios : List IoSetting) (values : List ℕ) → length ios ≡ length values → seen (watched_by ios values) ≡ values
seen_watched [] [] h = refl
seen_watched [] (v ∷ vs) h = absurd (omega arith)
seen_watched (s ∷ ss) [] h = absurd (omega arith)
seen_watched (s ∷ ss) (v ∷ vs) h = ap (λ l. v ∷ l) (seen_watched ss vs (omega arith))

pub seen_none : (ios : List IoSetting) → seen (watched_by ios []) ≡ []
seen_none [] = refl
seen_none (s ∷ ss) = seen_none ss

narrow_if : (codec : Codec) (b : Bool) (s : IoSetting) (rest : List IoSetting) → IsNarrow codec s.id → AreNarrow codec rest → AreNarrow codec (if b then s ∷ rest else rest)
narrow_if codec true s rest one all = (one, all)
narrow_if codec false s rest one all = all

pub fired_narrow : (codec : Codec) (ios : List IoSetting) (before values : List ℕ) → AreNarrow codec ios → AreNarrow codec (fired (watched_by ios before) values)
fired_narrow codec [] before values narrow = tt
fired_narrow codec (s ∷ ss) [] [] narrow = tt
fired_narrow codec (s ∷ ss) (b ∷ bs) [] narrow = tt
fired_narrow codec (s ∷ ss) [] (v ∷ vs) narrow = narrow_if codec (fires (record { setting = s; last = None }) v) s (fired (watched_by ss []) vs) narrow.0 (fired_narrow codec ss [] vs narrow.1)
fired_narrow codec (s ∷ ss) (b ∷ bs) (v ∷ vs) narrow = narrow_if codec (fires (record { setting = s; last = Some b }) v) s (fired (watched_by ss bs) vs) narrow.0 (fired_narrow codec ss bs vs narrow.1)
