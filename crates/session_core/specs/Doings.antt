-- What is done for the items of a stream, and how it stops.
use Rattle.std.specs.Prelude.{◌≡◌, ℕ, ◌+◌, ◌<◌, nat_le, Bool, false, List, [], ◌∷◌, ◌++◌, length, take, Option, Result, Err, if◌then◌else◌}
use Rattle.avl_values.specs.declared.fault.Fault.{Fault}
use Rattle.item_streams.specs.Readers.{Reader}
use Rattle.links.specs.Links.{Moves, Traffic}
use Rattle.record_layout.specs.declared.head.PacketHead.{PacketHead}
use Rattle.frame_layout.specs.Values.{UpValue, login, packet}
use Rattle.shelf.specs.Calls.{AreStored, Call, Feeds}
use Rattle.shelf.specs.declared.receipt.AdmitFault.{AdmitFault}
use Rattle.shelf.specs.declared.receipt.AdmitFault.TheVariants as admit
use Rattle.shelf.specs.declared.receipt.Receipt.{Receipt}
use Rattle.session_core.specs.declared.served.SessionEnd.{SessionEnd}
use Rattle.session_core.specs.declared.served.SessionEnd.TheVariants as ends
use Rattle.session_core.specs.Readings.{Heads, Reads, ReadsFault}
use Rattle.session_core.specs.Talks.{Meaning, Talk, nobody, device, stranger, reply, next, text, after, packets, stores, records_in, imei_in, is_stranger}

-- where the work stands: the talk, the archive, what the link tells, and the counts so far with their sum
pub record Doing (S O : Type 0) : Type 0 where
  pub talk : Talk O
  pub shelf : S
  pub wire : Option Traffic
  pub frames : ℕ
  pub records : ℕ

-- the packets whose count is whole in the first n bytes of an answer
abbrev pub counted_in : List (ℕ × List ℕ) → ℕ → List (ℕ × List ℕ)
counted_in packets n = if nat_le 4 n then packets else []

module _ {S O : Type 0} (leaves : S → ℕ → List ℕ → Result Receipt AdmitFault → S → Type 0) (m : Meaning O) (known : ℕ → Bool) where
  -- All was done for these items, while these bytes were taken.
  pub record Does (said : List UpValue) (taken : List ℕ) (x y : Doing S O) : Type 0 where
    pub talk : y.talk ≡ after m known x.talk said
    pub wire : Moves taken (text m known x.talk said) x.wire y.wire
    pub calls : List Call
    pub feeds : Feeds leaves x.shelf calls y.shelf
    pub stored : AreStored (packets m known x.talk said) calls
    pub frames : y.frames ≡ x.frames + length (packets m known x.talk said)
    pub records : y.records ≡ x.records + records_in (packets m known x.talk said)

  -- The archive refused the item's packet, nothing was written, and the orders weren't asked.
  pub record IsRefused (why : AdmitFault) (v : UpValue) (x y : Doing S O) : Type 0 where
    pub imei : ℕ
    pub orders : O
    pub head : PacketHead
    pub body : List ℕ
    pub is : v ≡ packet head body
    pub talk : x.talk ≡ device imei orders
    pub same_talk : y.talk ≡ x.talk
    pub wire : Moves [] [] x.wire y.wire
    pub call : leaves x.shelf imei body (Err why) y.shelf
    pub frames : y.frames ≡ x.frames
    pub records : y.records ≡ x.records

  -- The link failed inside the item's answer, and the archive had the item.
  pub record IsCut (v : UpValue) (x y : Doing S O) : Type 0 where
    pub part : ℕ
    pub within : part < length (reply m known x.talk v)
    pub wire : Moves [] (take part (reply m known x.talk v)) x.wire y.wire
    pub calls : List Call
    pub feeds : Feeds leaves x.shelf calls y.shelf
    pub stored : AreStored (stores m known x.talk v) calls
    pub frames : y.frames ≡ x.frames + length (counted_in (stores m known x.talk v) part)
    pub records : y.records ≡ x.records + records_in (counted_in (stores m known x.talk v) part)

  -- All was done for a login, and its device isn't known.
  pub record IsStranger (imei : ℕ) (v : UpValue) (x y : Doing S O) : Type 0 where
    pub orders : O
    pub is : v ≡ login imei
    pub unknown : known imei ≡ false
    pub before : x.talk ≡ nobody orders
    pub does : Does (v ∷ []) [] x y
    pub talk : y.talk ≡ stranger imei orders

  -- how a session ends in the work for an item
  abbrev pub StopsAt : SessionEnd → UpValue → Doing S O → Doing S O → Type 0
  StopsAt ends.LinkFault v x y = IsCut v x y
  StopsAt (ends.Unknown imei) v x y = IsStranger imei v x y
  StopsAt (ends.MediumFault n) v x y = IsRefused (admit.MediumFault n) v x y
  StopsAt (ends.Down n) v x y = IsRefused (admit.Down n) v x y
  StopsAt ends.NoMemory v x y = IsRefused admit.NoMemory v x y
  StopsAt ends.Ended v x y = ⊥
  StopsAt (ends.EndedInside n) v x y = ⊥
  StopsAt (ends.Broken found) v x y = ⊥
  StopsAt (ends.LongEnough n) v x y = ⊥

  -- A reader took these bytes, and all was done for what they say, while these were taken from the link.
  pub record Goes (bytes taken : List ℕ) (old new : Reader) (x y : Doing S O) : Type 0 where
    pub said : List UpValue
    pub reads : Reads bytes said old new
    pub does : Does said taken x y

  -- All was done for the items before one, and in the work for it the session ended so.
  pub record Stops (end : SessionEnd) (bytes taken : List ℕ) (old : Reader) (x y : Doing S O) : Type 0 where
    pub dealt : List UpValue
    pub at : UpValue
    pub between : Doing S O
    pub heads : Heads bytes (dealt ++ at ∷ []) old
    pub does : Does dealt taken x between
    pub stops : StopsAt end at between y
    pub imei : imei_in y.talk ≡ imei_in (next m known between.talk at)

  -- All was done for the items before a fault.
  pub record Breaks (found : Fault) (bytes taken : List ℕ) (old : Reader) (x y : Doing S O) : Type 0 where
    pub dealt : List UpValue
    pub reads : ReadsFault found bytes dealt old
    pub does : Does dealt taken x y
    pub welcome : is_stranger y.talk ≡ false

  -- how a session ends inside a piece
  abbrev pub EndsIn : SessionEnd → List ℕ → List ℕ → Reader → Doing S O → Doing S O → Type 0
  EndsIn (ends.Broken found) bytes taken old x y = Breaks found bytes taken old x y
  EndsIn end bytes taken old x y = Stops end bytes taken old x y
