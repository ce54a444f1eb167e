-- Benches that a host hands out for a trial, and takes back (this project's own).
use Rattle.std.specs.Prelude.{◌≡◌, ◌≤◌, ℕ, suc, List, ◌∷◌, length}
use Rattle.medium_model.specs.State.{MediumState}
use Rattle.fmb_host.specs.Host.{HostView}
use Rattle.fmb_host.specs.Stocks.{GainsLast, Stock}
use Rattle.trial_play.specs.OnMedia.{BenchStates}

-- This number of new benches was handed out, and these came back, in this order, where that is told.
pub record PassesNew (given : ℕ) (back : List MediumState) (before after : Stock MediumState) : Type 0 where
  pub coming : after.coming ≡ before.coming
  pub returns : GainsLast before.returns back given after.returns

-- A bench for the server and one for each device were handed out, and they came back like this, the server's first.
abbrev pub ReturnsBenches : BenchStates → HostView → HostView → Type 0
ReturnsBenches benches before after = PassesNew (suc (length benches.devices)) (benches.server ∷ benches.devices) before.benches after.benches

-- Some were handed out, of which some came back.
pub record SpendsBenches (before after : HostView) : Type 0 where
  pub given : ℕ
  pub back : List MediumState
  pub among : length back ≤ given
  pub benches : PassesNew given back before.benches after.benches
