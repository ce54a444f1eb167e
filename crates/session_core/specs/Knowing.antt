-- Which devices a server knows (this project's own).
use Rattle.std.specs.Prelude.{ℕ, ◌==◌, Bool, true, List}
use Rattle.std.specs.List.{list_any}
use Rattle.session_core.specs.declared.known.Known.{Known}
use Rattle.session_core.specs.declared.known.Known.TheVariants.{All, Listed}

-- the list has this IMEI
abbrev pub holds : List ℕ → ℕ → Bool
holds list imei = list_any (λ i. i == imei) list

-- all devices, or those in the list
abbrev pub knows : Known → ℕ → Bool
knows All imei = true
knows (Listed list) imei = holds list imei
