-- What contracts see of a door, and what its calls change (this project's own).
use Rattle.std.specs.Prelude.{◌≡◌, ℕ, ◌+◌, ◌==◌, List, [], ◌∷◌, ◌++◌, Option, Some, None, if◌then◌else◌}
use Rattle.links.specs.Links.{LinkState, Traffic}

-- the links that it will give, and those that came back, each in order
pub record DoorLinks (L : Type 0) : Type 0 where
  pub gives : List L
  pub back : List L

-- its links, where it tells them; how many are out; how often accepting failed; and how many links came back that had failed
pub record DoorState (L : Type 0) : Type 0 where
  pub told : Option (DoorLinks L)
  pub out : ℕ
  pub faults : ℕ
  pub link_faults : ℕ

-- nothing was taken or written
abbrev pub IsUntouched : Option Traffic → Type 0
IsUntouched None = Unit {0}
IsUntouched (Some traffic) = (traffic.taken ≡ []) × (traffic.written ≡ [])

-- a link that was not used and has not failed
pub record IsUnused (link : LinkState) : Type 0 where
  pub untouched : IsUntouched link.told
  pub faults : link.faults ≡ 0

-- one where something has failed
abbrev pub once_if : ℕ → ℕ
once_if faults = if faults == 0 then 0 else 1

module _ {L : Type 0} where
  -- These links were given in turn and these came back, and others are still to come. A door that tells nothing goes on telling
  -- nothing.
  abbrev pub Passes : List L → List L → Option (DoorLinks L) → Option (DoorLinks L) → Type 0
  Passes given back None after = after ≡ None
  Passes given back (Some before) after = (rest : List L) × (before.gives ≡ given ++ rest) × (after ≡ Some (record { gives = rest; back = before.back ++ back }))

  -- the first of the links that it will give was given
  pub record Gives (before : DoorState L) (link : L) (after : DoorState L) : Type 0 where
    pub told : Passes (link ∷ []) [] before.told after.told
    pub link_faults : after.link_faults ≡ before.link_faults

  -- accepting failed, and no link was given
  pub record GivesNone (before after : DoorState L) : Type 0 where
    pub told : after.told ≡ before.told
    pub out : after.out ≡ before.out
    pub link_faults : after.link_faults ≡ before.link_faults

  -- a link came back, which has failed so often
  pub record TakesBack (before : DoorState L) (link : L) (failures : ℕ) (after : DoorState L) : Type 0 where
    pub told : Passes [] (link ∷ []) before.told after.told
    pub faults : after.faults ≡ before.faults
    pub link_faults : after.link_faults ≡ before.link_faults + once_if failures
