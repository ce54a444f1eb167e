-- A session on one line of a trial: what it has answered of the bytes that it took, and what it did to the shelf.
use Rattle.std.specs.Prelude.{◌≡◌, ◌⊎◌, ◌≤◌, ◌==◌, if◌then◌else◌, ℕ, Bool, true, false, List, [], ◌∷◌, ◌++◌, length, take, Option, Some, None, IfNone}
use Rattle.std.specs.List.{flat_map}
use Rattle.avl_values.specs.declared.fault.Fault.{Fault}
use Rattle.layout.specs.Rows.{fault, judge}
use Rattle.record_layout.specs.RecordsOf.{records_of}
use Rattle.item_streams.specs.Streams.{Item, next_rows, place_after}
use Rattle.frame_layout.specs.Readings.{up_reading}
use Rattle.frame_layout.specs.UpRows.{up_rows}
use Rattle.frame_layout.specs.Values.{UpValue, login, packet, response}
use Rattle.session_core.specs.Readings.{HadRead}
use Rattle.session_core.specs.Sessions.{IsReady, SessionState}
use Rattle.shelf.specs.Shelf.{ShelfView}
use Rattle.trial_model.specs.declared.outcome.ServerEnd.{ServerEnd}
use Rattle.trial_model.specs.declared.outcome.ServerEnd.TheVariants as Server
use Rattle.trial_model.specs.Frames.{Frame, counts_of}
use Rattle.trial_server.specs.Serving.{Serves}

-- the items of the bytes that a session took
abbrev pub items_in : List ℕ → List (Item UpValue)
items_in bytes = (up_reading false bytes).items

-- the bytes after them, of an unfinished item
abbrev pub rest_in : List ℕ → List ℕ
rest_in bytes = (up_reading false bytes).rest

-- the data frames among items
abbrev pub frame_by : ℕ → UpValue → List Frame
frame_by end (login imei) = []
frame_by end (packet head body) = record { end = end; records = records_of body } ∷ []
frame_by end (response body) = []

abbrev pub as_frames : List (Item UpValue) → List Frame
as_frames items = flat_map (λ i. frame_by i.end i.value) items

-- the device that the items speak for: that of the login at their front
abbrev pub imei_said : UpValue → ℕ
imei_said (login imei) = imei
imei_said (packet head body) = 0
imei_said (response body) = 0

abbrev pub device_of : List (Item UpValue) → Option ℕ
device_of [] = None
device_of (i ∷ items) = Some (imei_said i.value)

abbrev pub device_in : List (Item UpValue) → ℕ
device_in [] = 0
device_in (i ∷ items) = imei_said i.value

-- what a session writes for the items that it heard: the login's answer, and after a 1 the counts
abbrev pub answers : Bool → List (Item UpValue) → List ℕ
answers known [] = []
answers true (i ∷ items) = 1 ∷ counts_of (as_frames items)
answers false (i ∷ items) = 0 ∷ []

-- A session that goes on has read just these bytes.
pub record HasTaken (bytes : List ℕ) (s : SessionState) : Type 0 where
  pub reads : HadRead bytes (items_in bytes) s.reader
  pub imei : s.imei ≡ device_of (items_in bytes)
  pub ready : IsReady s

-- A session that goes on has answered all items that it heard. Some of them are old: they came on earlier lines. The frames among the new
-- ones went to the shelf on this line, from a shelf on that was up.
pub record Hears (known : ℕ → Bool) (old : List (Item UpValue)) (start : ShelfView) (items : List (Item UpValue)) (down : List ℕ) (shelf : ShelfView) : Type 0 where
  pub up : start.down ≡ false
  pub down_is : down ≡ answers (known (device_in items)) items
  pub friend : (items ≡ []) ⊎ (known (device_in items) ≡ true)
  pub news : List (Item UpValue)
  pub split : items ≡ old ++ news
  pub serves : Serves (device_in items) false (as_frames news) start shelf

-- How a session ended, by the bytes that it took: up to its last item, or none can begin with what follows the items.
pub data IsOver (known : ℕ → Bool) (old : List (Item UpValue)) (start : ShelfView) (bytes down : List ℕ) (shelf : ShelfView) (end : ServerEnd) : Type 0 where
  -- the login of a stranger, who was refused
  refused : (i : Item UpValue) → items_in bytes ≡ i ∷ [] → old ≡ [] → known (device_in (items_in bytes)) ≡ false → length bytes ≡ place_after 0 (items_in bytes)
      → down ≡ 0 ∷ [] → shelf ≡ start → end ≡ Server.Unknown (device_in (items_in bytes)) → IsOver known old start bytes down shelf end
  -- a packet in which the archive's medium failed, after items that were all answered
  failed : (faults : ℕ) (i : Item UpValue) (front : List (Item UpValue)) (last : Item UpValue) (news : List (Item UpValue)) → items_in bytes ≡ (i ∷ front) ++ last ∷ [] → i ∷ front ≡ old ++ news
      → known (device_in (items_in bytes)) ≡ true → length bytes ≡ place_after 0 (items_in bytes) → 1 ≤ length (frame_by last.end last.value)
      → down ≡ answers true (i ∷ front) → Serves (device_in (items_in bytes)) true (as_frames (news ++ last ∷ [])) start shelf → end ≡ Server.MediumFault faults → IsOver known old start bytes down shelf end
  -- no item can begin with the bytes after items that were all answered
  broken : (found : Fault) → judge (next_rows (up_rows false) (up_rows true) (items_in bytes)) 0 (rest_in bytes) ≡ fault found.kind found.place
      → down ≡ answers (known (device_in (items_in bytes))) (items_in bytes) → end ≡ Server.Broken found → IsOver known old start bytes down shelf end
  -- a growth of memory was refused, and the trial ends with no outcome
  starved : end ≡ Server.NoMemory → IsOver known old start bytes down shelf end

-- A session goes on or is over.
abbrev pub Stands : (ℕ → Bool) → List (Item UpValue) → ShelfView → List ℕ → List ℕ → ShelfView → Option ServerEnd → Type 0
Stands known old start bytes down shelf None = Hears known old start (items_in bytes) down shelf
Stands known old start bytes down shelf (Some end) = IsOver known old start bytes down shelf end

-- A session that had taken some bytes was given a piece, took the first n bytes of it and wrote some; and what was true of it is true of
-- it with them.
pub record Gives (known : ℕ → Bool) (bytes : List ℕ) (piece : List ℕ) (n : ℕ) (now : SessionState) (s t : ShelfView) (old_down new_down : List ℕ) (end : Option ServerEnd) : Type 0 where
  pub wrote : List ℕ
  pub writes : new_down ≡ old_down ++ wrote
  pub taken : IfNone end (HasTaken (bytes ++ take n piece) now)
  pub stands : (old : List (Item UpValue)) (start : ShelfView) → Hears known old start (items_in bytes) old_down s → Stands known old start (bytes ++ take n piece) new_down t end

-- the end of a session that goes on, if its connection ended now, by the bytes of its unfinished item
abbrev pub end_now : ℕ → ServerEnd
end_now have = if have == 0 then Server.Ended else Server.EndedInside have
