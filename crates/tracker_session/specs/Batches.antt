-- The batch that a device sends next, and its frame (Teltonika, Data Sending Protocols, "Codec 8 protocol sending over TCP"; which
-- records are in it is this project's own).
use Rattle.std.specs.Prelude.{ℕ, List, [], ◌∷◌, map, Option}
use Rattle.avl_values.specs.Record.{Record}
use Rattle.avl_values.specs.declared.order.Order.{Order}
use Rattle.record_layout.specs.Packet.{packet_bytes}
use Rattle.frame_layout.specs.Items.{frame_of}
use Rattle.flash_ring.specs.Entries.{selected}
use Rattle.flash_ring.specs.Held.{Held}
use Rattle.flash_ring.specs.Records.{recs_in}

-- the slots of the next batch, whose records fit a data body of 1,268 bytes with its three bytes of codec id and numbers
abbrev pub next_slots : Order → List (Option Held) → List ℕ
next_slots order slots = selected order 1265 slots

abbrev pub bytes_in : Record → List ℕ
bytes_in r = r.bytes

-- the data body of these records, all of one codec
abbrev pub body_of : List Record → List ℕ
body_of [] = []
body_of (r ∷ rs) = packet_bytes r.codec (map bytes_in (r ∷ rs))

-- the frame of a batch of slots, and nothing of none
abbrev pub batch_frame : List Record → List ℕ
batch_frame [] = []
batch_frame (r ∷ rs) = frame_of (body_of (r ∷ rs))

-- the frame of the batch in these slots
abbrev pub frame_in : List (Option Held) → List ℕ → List ℕ
frame_in slots batch = batch_frame (recs_in slots batch)
