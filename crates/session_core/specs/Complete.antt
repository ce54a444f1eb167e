-- A well-formed stream is served to its end.
use Rattle.std.specs.Prelude.{◌≡◌, ◌⊎◌, ℕ, ◌<◌, ◌^◌, Bool, true, false, List, [], ◌∷◌, ◌++◌, length, Option, IsSome}
use Rattle.avl_values.specs.Causes.{Rose}
use Rattle.links.specs.Links.{LinkState}
use Rattle.frame_layout.specs.Readings.{packets_of, up_reading}
use Rattle.frame_layout.specs.Values.{UpValue, login}
use Rattle.shelf.specs.Calls.{Brought, Mark}
use Rattle.shelf.specs.Shelf.{Leaves, ShelfView}
use Rattle.session_core.specs.declared.served.Served.{Served}
use Rattle.session_core.specs.declared.served.SessionEnd.TheVariants.{Ended, LinkFault, NoMemory}
use Rattle.session_core.specs.Courses.{said_in}
use Rattle.session_core.specs.Serving.{IsServed}
use Rattle.session_core.specs.Talks.{Meaning}

-- whole items and fewer bytes than a session takes at most, and the first is the login of a known device
pub record IsWellFormed (known : ℕ → Bool) (stream : List ℕ) : Type 0 where
  pub imei : ℕ
  pub others : List UpValue
  pub says : said_in stream ≡ login imei ∷ others
  pub is_known : known imei ≡ true
  pub whole : (up_reading false stream).rest ≡ []
  pub few : length stream < 2 ^ 30

-- a link that carries a stream gave its first bytes, and at its end all of them
pub record IsCarried (stream taken : List ℕ) (ended : Bool) : Type 0 where
  pub more : List ℕ
  pub is : stream ≡ taken ++ more
  pub all : ended ≡ true → more ≡ []

-- Over a link that tells its bytes and a shelf that is up, neither of which failed in the call, a well-formed stream of a known
-- device is served to its end and each of its data frames is counted, unless a growth of memory is refused.
abbrev pub WellFormedEnds : Type 0 → Type 0
WellFormedEnds O = (m : Meaning O) (known : ℕ → Bool) (o p : O) (calls_told : ShelfView → Option (List Brought)) (mark : ShelfView → Mark) (s t : ShelfView) (old new : LinkState) (served : Served) (stream : List ℕ)
    → (is : IsServed Leaves calls_told mark m known o p s t old new served) → (served.end ≡ LinkFault → Rose old.faults new.faults)
    → IsSome new.told → IsWellFormed known stream → IsCarried stream is.taken new.ended → s.down ≡ false → (Rose s.medium.faults t.medium.faults → ⊥) → (Rose old.faults new.faults → ⊥)
    → ((served.end ≡ Ended) × (served.frames ≡ length (packets_of (up_reading false stream).items))) ⊎ (served.end ≡ NoMemory)
