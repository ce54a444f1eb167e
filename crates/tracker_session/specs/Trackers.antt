-- What contracts see of a tracker.
use Rattle.std.specs.Prelude.{◌≡◌, ℕ, ◌<◌, Bool, true, false, List, [], length}
use Rattle.avl_values.specs.declared.order.Order.{Order}
use Rattle.layout.specs.Rows.{short}
use Rattle.frame_layout.specs.DownRows.{down_verdict}
use Rattle.flash_ring.specs.Images.{AreDistinct, AreOpen}
use Rattle.flash_ring.specs.Ring.{RingView}

-- The device's IMEI; its ring; in which order records are sent; whether a talk goes on, and in it, whether the login's answer has
-- come; the slots of the outstanding batch; and the bytes of the unfinished item.
pub record TrackerView : Type 0 where
  pub imei : ℕ
  pub ring : RingView
  pub order : Order
  pub talking : Bool
  pub answered : Bool
  pub batch : List ℕ
  pub have : List ℕ

-- the device and its order of sending are the same
pub record IsSameDevice (v w : TrackerView) : Type 0 where
  pub imei : w.imei ≡ v.imei
  pub order : w.order ≡ v.order

-- no talk goes on
abbrev pub silent : TrackerView → TrackerView
silent v = record v { talking = false; answered = false; batch = []; have = [] }

-- a talk has begun
abbrev pub dialed : TrackerView → TrackerView
dialed v = record v { talking = true; answered = false; batch = []; have = [] }

-- What is true in a talk: the ring is up, a batch is outstanding only where the login was accepted, and the bytes of the unfinished
-- item are too few for one.
pub record IsTalking (v : TrackerView) : Type 0 where
  pub up : v.ring.down ≡ false
  pub accepted : v.answered ≡ false → v.batch ≡ []
  pub waits : down_verdict v.answered v.have ≡ short

-- What is true of each tracker: the slots of a batch are open, and each stands there once.
pub record IsTracker (v : TrackerView) : Type 0 where
  pub opens : AreOpen v.batch v.ring.slots
  pub distinct : AreDistinct v.batch
  pub few : length v.batch < 256
  pub talk : v.talking ≡ true → IsTalking v
