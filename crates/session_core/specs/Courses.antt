-- A session's course: the items that it dealt with, and where and why it halted.
use Rattle.std.specs.Prelude.{◌≡◌, ◌⊎◌, ℕ, ◌<◌, ◌≤◌, ◌^◌, Bool, true, false, List, [], ◌∷◌, ◌++◌, length, take, Option, Some, None}
use Rattle.layout.specs.Rows.{Verdict, short, fault, judge}
use Rattle.item_streams.specs.Streams.{Reading, next_rows, values}
use Rattle.links.specs.Links.{LinkState}
use Rattle.record_layout.specs.declared.head.PacketHead.{PacketHead}
use Rattle.frame_layout.specs.Readings.{up_reading}
use Rattle.frame_layout.specs.UpRows.{up_rows}
use Rattle.frame_layout.specs.Values.{UpValue, login, packet, response}
use Rattle.session_core.specs.declared.served.Served.{Served}
use Rattle.session_core.specs.declared.served.SessionEnd.{SessionEnd}
use Rattle.session_core.specs.declared.served.SessionEnd.TheVariants.{Ended, EndedInside, LinkFault, Broken, Unknown, MediumFault, Down, LongEnough, NoMemory}
use Rattle.session_core.specs.Doings.{counted_in}
use Rattle.session_core.specs.Endings.{IsAtEnd}
use Rattle.session_core.specs.Talks.{Meaning, Talk, nobody, device, reply, text, after, packets, stores, records_in, orders_in, is_stranger}

-- what the items of the bytes taken say
abbrev pub said_in : List ℕ → List UpValue
said_in taken = values (up_reading false taken).items

-- the verdict on what follows the items
abbrev pub rest_verdict : Reading UpValue → Verdict UpValue
rest_verdict reading = judge (next_rows (up_rows false) (up_rows true) reading.items) 0 reading.rest

-- the IMEI of the login, where the items begin with one
abbrev pub login_in : List UpValue → Option ℕ
login_in [] = None
login_in (login imei ∷ vs) = Some imei
login_in (packet head body ∷ vs) = None
login_in (response body ∷ vs) = None

-- Where a session halts: the items that are left of those in the bytes taken, what was written of the answer to the first of
-- these, and the packets whose count is whole in that.
pub record Halt : Type 0 where
  pub left : List UpValue
  pub part : List ℕ
  pub counted : List (ℕ × List ℕ)

-- nothing is left
abbrev pub all_dealt : Halt
all_dealt = record { left = []; part = []; counted = [] }

-- nothing was taken
pub record IsUnbegun {O : Type 0} (dealt : List UpValue) (h : Halt) (taken : List ℕ) (o p : O) : Type 0 where
  pub taken_is : taken ≡ []
  pub dealt_is : dealt ≡ []
  pub halt : h ≡ all_dealt
  pub orders : p ≡ o

module _ {O : Type 0} (m : Meaning O) (known : ℕ → Bool) where
  -- the talk after these items, from the first on
  abbrev pub talk_after : O → List UpValue → Talk O
  talk_after o dealt = after m known (nobody o) dealt

  -- all that was taken was dealt with, no stranger's login was in it, and the orders are those that this leaves
  pub record IsAllDealt (dealt : List UpValue) (h : Halt) (o p : O) : Type 0 where
    pub halt : h ≡ all_dealt
    pub welcome : is_stranger (talk_after o dealt) ≡ false
    pub orders : p ≡ orders_in (talk_after o dealt)

  -- the first that is left is a packet of a known device, nothing of its count was written, and the orders weren't asked
  pub record IsBeforePacket (dealt : List UpValue) (h : Halt) (o p : O) : Type 0 where
    pub imei : ℕ
    pub head : PacketHead
    pub body : List ℕ
    pub others : List UpValue
    pub talk : talk_after o dealt ≡ device imei p
    pub left : h.left ≡ packet head body ∷ others
    pub part : h.part ≡ []
    pub counted : h.counted ≡ []

  -- a part of the answer to the first that is left was written, and not all
  pub record IsInAnswer (dealt : List UpValue) (h : Halt) (o : O) : Type 0 where
    pub at : UpValue
    pub others : List UpValue
    pub left : h.left ≡ at ∷ others
    pub size : ℕ
    pub within : size < length (reply m known (talk_after o dealt) at)
    pub part : h.part ≡ take size (reply m known (talk_after o dealt) at)
    pub counted : h.counted ≡ counted_in (stores m known (talk_after o dealt) at) size

  -- a login was refused, and is all that was dealt with
  pub record IsRefusal (imei : ℕ) (dealt : List UpValue) (h : Halt) (o p : O) : Type 0 where
    pub login_is : dealt ≡ login imei ∷ []
    pub unknown : known imei ≡ false
    pub part : h.part ≡ []
    pub counted : h.counted ≡ []
    pub orders : p ≡ o

  -- How a session that dealt with these items and took these bytes halts, by its end. It asks its link for more only below 2^30 bytes.
  abbrev pub HaltsBy : SessionEnd → List UpValue → Halt → List ℕ → LinkState → O → O → Type 0
  HaltsBy Ended dealt h taken link o p = IsAllDealt dealt h o p × ((up_reading false taken).rest ≡ []) × IsAtEnd link × (length taken < 2 ^ 30)
  HaltsBy (EndedInside have) dealt h taken link o p =
      IsAllDealt dealt h o p × (rest_verdict (up_reading false taken) ≡ short) × (have ≡ length (up_reading false taken).rest) × (0 < have) × IsAtEnd link × (length taken < 2 ^ 30)
  HaltsBy (LongEnough most) dealt h taken link o p = IsAllDealt dealt h o p × (rest_verdict (up_reading false taken) ≡ short) × (most ≡ 2 ^ 30) × (length taken ≡ 2 ^ 30)
  HaltsBy (Broken found) dealt h taken link o p = IsAllDealt dealt h o p × (rest_verdict (up_reading false taken) ≡ fault found.kind found.place)
  HaltsBy (Unknown imei) dealt h taken link o p = IsRefusal imei dealt h o p
  HaltsBy (MediumFault faults) dealt h taken link o p = IsBeforePacket dealt h o p
  HaltsBy (Down faults) dealt h taken link o p = IsBeforePacket dealt h o p
  HaltsBy NoMemory dealt h taken link o p = IsBeforePacket dealt h o p ⊎ IsUnbegun dealt h taken o p
  HaltsBy LinkFault dealt h taken link o p = (IsAllDealt dealt h o p × (length taken < 2 ^ 30)) ⊎ IsInAnswer dealt h o

  -- A session's course: the items that were dealt with, each with its answer written whole, and where it halted.
  pub record IsCourse (o p : O) (link : LinkState) (served : Served) (taken written : List ℕ) : Type 0 where
    pub few : length taken ≤ 2 ^ 30
    pub dealt : List UpValue
    pub halt : Halt
    pub items : said_in taken ≡ dealt ++ halt.left
    pub writes : written ≡ text m known (nobody o) dealt ++ halt.part
    pub imei : served.imei ≡ login_in (said_in taken)
    pub frames : served.frames ≡ length (packets m known (nobody o) dealt ++ halt.counted)
    pub records : served.records ≡ records_in (packets m known (nobody o) dealt ++ halt.counted)
    pub halts : HaltsBy served.end dealt halt taken link o p
