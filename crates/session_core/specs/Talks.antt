-- What a server says to the items of a stream up (Teltonika, Data Sending Protocols, "Codec 8 protocol sending over TCP": a
-- login is answered by 1 or 0, and a data frame by its number of records; when orders are given is this project's own).
use Rattle.std.specs.Prelude.{ℕ, ◌+◌, Bool, true, false, List, [], ◌∷◌, ◌++◌, length, Option, Some, None, if◌then◌else◌}
use Rattle.record_layout.specs.RecordsOf.{records_of}
use Rattle.command_layout.specs.declared.way.Way.TheVariants.{Up}
use Rattle.command_layout.specs.Answers.{value_in}
use Rattle.command_layout.specs.Values.{CommandValue}
use Rattle.frame_layout.specs.Items.{count_bytes}
use Rattle.frame_layout.specs.Values.{UpValue, login, packet, response}

-- What orders mean: the frame that is given to a device, and the orders after they were asked, and after a response was heard.
pub record Meaning (O : Type 0) : Type 0 where
  pub gives : O → ℕ → Option (List ℕ)
  pub asked : O → ℕ → O
  pub told : O → ℕ → CommandValue → O

-- with whom a server talks, and the orders then: nobody before the login, then a device that it knows or a stranger
pub data Talk (O : Type 0) : Type 0 where
  nobody : O → Talk O
  device : ℕ → O → Talk O
  stranger : ℕ → O → Talk O

-- a frame, where one is given
abbrev pub or_nothing : Option (List ℕ) → List ℕ
or_nothing None = []
or_nothing (Some frame) = frame

-- the count of a data frame: the number of its records
abbrev pub count_for : List ℕ → List ℕ
count_for body = count_bytes (length (records_of body))

-- the orders after a response was heard
abbrev pub told_by : {O : Type 0} → Meaning O → O → ℕ → Option CommandValue → O
told_by m o imei None = o
told_by m o imei (Some v) = m.told o imei v

module _ {O : Type 0} (m : Meaning O) (known : ℕ → Bool) where
  -- What is written for an item: 1 or 0 for a login, its count for a data frame, and after 1 and each count the frame that is given.
  abbrev pub reply : Talk O → UpValue → List ℕ
  reply (nobody o) (login imei) = if known imei then 1 ∷ or_nothing (m.gives o imei) else 0 ∷ []
  reply (nobody o) (packet head body) = []
  reply (nobody o) (response body) = []
  reply (device imei o) (login other) = []
  reply (device imei o) (packet head body) = count_for body ++ or_nothing (m.gives o imei)
  reply (device imei o) (response body) = []
  reply (stranger imei o) v = []

  -- the talk after an item
  abbrev pub next : Talk O → UpValue → Talk O
  next (nobody o) (login imei) = if known imei then device imei (m.asked o imei) else stranger imei o
  next (nobody o) (packet head body) = nobody o
  next (nobody o) (response body) = nobody o
  next (device imei o) (login other) = device imei o
  next (device imei o) (packet head body) = device imei (m.asked o imei)
  next (device imei o) (response body) = device imei (told_by m o imei (value_in Up body))
  next (stranger imei o) v = stranger imei o

  -- the bodies that an item gives to the archive, each with its device
  abbrev pub stores : Talk O → UpValue → List (ℕ × List ℕ)
  stores (device imei o) (packet head body) = (imei, body) ∷ []
  stores (device imei o) (login other) = []
  stores (device imei o) (response body) = []
  stores (nobody o) v = []
  stores (stranger imei o) v = []

  -- all that is written for these items
  abbrev pub text : Talk O → List UpValue → List ℕ
  text t [] = []
  text t (v ∷ vs) = reply t v ++ text (next t v) vs

  -- the talk after these items
  abbrev pub after : Talk O → List UpValue → Talk O
  after t [] = t
  after t (v ∷ vs) = after (next t v) vs

  -- all that these items give to the archive
  abbrev pub packets : Talk O → List UpValue → List (ℕ × List ℕ)
  packets t [] = []
  packets t (v ∷ vs) = stores t v ++ packets (next t v) vs

-- the orders in a talk
abbrev pub orders_in : {O : Type 0} → Talk O → O
orders_in (nobody o) = o
orders_in (device imei o) = o
orders_in (stranger imei o) = o

-- the IMEI of the login, once it was heard
abbrev pub imei_in : {O : Type 0} → Talk O → Option ℕ
imei_in (nobody o) = None
imei_in (device imei o) = Some imei
imei_in (stranger imei o) = Some imei

-- the login was refused
abbrev pub is_stranger : {O : Type 0} → Talk O → Bool
is_stranger (nobody o) = false
is_stranger (device imei o) = false
is_stranger (stranger imei o) = true

-- how many records these bodies have
abbrev pub records_in : List (ℕ × List ℕ) → ℕ
records_in [] = 0
records_in (p ∷ ps) = length (records_of p.1) + records_in ps
