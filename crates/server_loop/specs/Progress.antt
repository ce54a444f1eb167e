-- How far a worker has come.
use Rattle.std.specs.Prelude.{◌≡◌, ℕ, ◌+◌, Bool, List, [], ◌∷◌, Option, Some, None, Result}
use Rattle.avl_values.specs.Causes.{Rose}
use Rattle.links.specs.Links.{LinkState}
use Rattle.doors.specs.Doors.{DoorState, GivesNone, Passes, once_if}
use Rattle.shelf.specs.Calls.{Feeds, Mark}
use Rattle.shelf.specs.declared.receipt.Receipt.{Receipt}
use Rattle.shelf.specs.declared.receipt.AdmitFault.{AdmitFault}
use Rattle.session_core.specs.declared.served.Served.{Served}
use Rattle.server_loop.specs.Connections.{Connection, IsConnection, AreServed, Runs}

module _ {L : Type 0} (state : L → LinkState) (follows : L → L → Type 0) (knows : ℕ → Bool) {S : Type 0} (leaves : S → ℕ → List ℕ → Result Receipt AdmitFault → S → Type 0) (mark : S → Mark) where
  -- one connection was served
  pub record ServesOne (before after : DoorState L) (s t : S) (served : Served) : Type 0 where
    pub c : Connection L
    pub is : IsConnection state follows knows c
    pub says : c.served ≡ served
    pub passes : Passes (c.given ∷ []) (c.back ∷ []) before.told after.told
    pub faults : after.faults ≡ before.faults
    pub link_faults : after.link_faults ≡ before.link_faults + once_if (state c.back).faults
    pub marked : c.mark ≡ mark s
    pub feeds : Feeds leaves s c.calls t

  -- accepting failed
  pub record Fails (before after : DoorState L) (s t : S) : Type 0 where
    pub none : GivesNone before after
    pub rose : Rose before.faults after.faults
    pub same : t ≡ s

  -- the next connection was served, or accepting failed
  abbrev pub Next : DoorState L → DoorState L → S → S → Option Served → Type 0
  Next before after s t None = Fails before after s t
  Next before after s t (Some served) = ServesOne before after s t served

  -- These connections were served, and no accept failed.
  pub record IsOn (before after : DoorState L) (s t : S) (served : List Served) : Type 0 where
    pub cs : List (Connection L)
    pub served_are : AreServed state follows knows before after served cs
    pub faults : after.faults ≡ before.faults
    pub runs : Runs leaves mark s cs t
