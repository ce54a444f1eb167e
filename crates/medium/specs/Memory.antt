-- What contracts see of the media in memory, and what a power loss leaves of a bench (this project's own).
use Rattle.std.specs.Prelude.{◌≡◌, ◌↔◌, ℕ, ◌/◌, ◌≤◌, ◌==◌, if◌then◌else◌, List, [], ◌∷◌, length, replicate, take, Some}
use Rattle.fault_plan.specs.Plan.{Plan, FailsNext, after_call}
use Rattle.medium_model.specs.CallsLeft.{CallsLeft, unknown, unlimited, after, exhausted}
use Rattle.medium.specs.Buffer.{ReadyContent, IsTornImage}
use Rattle.medium_model.specs.Content.{Content, written}
use Rattle.medium_model.specs.State.{MediumState}
use Rattle.medium_model.specs.declared.bench.Tear.{Tear}
use Rattle.medium_model.specs.declared.bench.Tear.TheVariants.{Keep, New, Zero, AllOpen, Half}
use Rattle.medium.specs.declared.power.Power.{Power}
use Rattle.medium.specs.declared.power.Power.TheVariants.{Unarmed, Armed, Lost}

-- a medium, and which of its calls fail
pub record MemoryView : Type 0 where
  pub content : Content
  pub ready : ℕ
  pub plan : Plan
  pub faults : ℕ

-- A counted call fails exactly where the plan says so.
pub record IsNumbered (old new : MemoryView) (failed : Type 0) : Type 0 where
  pub exactly : failed ↔ FailsNext old.plan
  pub next : new.plan ≡ after_call old.plan

-- With no number to fail at, no call will fail.
abbrev pub calls_left : List ℕ → CallsLeft
calls_left [] = unlimited
calls_left (n ∷ ns) = unknown

abbrev pub memory_state : MemoryView → MediumState
memory_state m = record { content = Some m.content; left = calls_left m.plan.failing; ready = m.ready; faults = m.faults }

-- what one write leaves, by the tear
abbrev pub torn_write : Tear → ℕ → List ℕ → List ℕ → List ℕ
torn_write Keep at bytes image = image
torn_write New at bytes image = written 0 at bytes image
torn_write Zero at bytes image = written 0 at (replicate (length bytes) 0) image
torn_write AllOpen at bytes image = written 0 at (replicate (length bytes) 0xA5) image
torn_write Half at bytes image = if length bytes / 2 == 0 then image else written 0 at (take (length bytes / 2) bytes) image

-- The images of the three tears that neither keep nor take what was written: the content at the last sync, and then each
-- write since, torn.
pub record Tears : Type 0 where
  pub zero : List ℕ
  pub opened : List ℕ
  pub half : List ℕ

-- after one write more
abbrev pub after_torn : ℕ → List ℕ → Tears → Tears
after_torn at bytes t = record { zero = torn_write Zero at bytes t.zero; opened = torn_write AllOpen at bytes t.opened; half = torn_write Half at bytes t.half }

abbrev pub all_alike : List ℕ → Tears
all_alike image = record { zero = image; opened = image; half = image }

-- the images of the tears, and the place up to which all of them have room
pub record TearsHeld : Type 0 where
  pub tears : Tears
  pub room : ℕ

-- the image that a power loss leaves, by the tear
abbrev pub image_of : Tear → Content → Tears → List ℕ
image_of Keep c t = c.durable
image_of New c t = c.reads
image_of Zero c t = t.zero
image_of AllOpen c t = t.opened
image_of Half c t = t.half

-- a bench: its content, its images, and how its power goes on
pub record BenchView : Type 0 where
  pub content : Content
  pub tears : Tears
  pub ready : ℕ
  pub tear : Tear
  pub power : Power
  pub faults : ℕ

-- a bench's images fit its content, and unarmed it keeps what is durable
pub record IsBench (held : ReadyContent) (images : TearsHeld) (tear : Tear) (power : Power) : Type 0 where
  pub unarmed : power ≡ Unarmed → tear ≡ Keep
  pub room : held.ready ≤ images.room
  pub zero : IsTornImage held.content images.tears.zero
  pub opened : IsTornImage held.content images.tears.opened
  pub half : IsTornImage held.content images.tears.half

abbrev pub left_of : Power → CallsLeft
left_of Unarmed = unlimited
left_of (Armed calls) = after calls
left_of Lost = exhausted

abbrev pub bench_state : BenchView → MediumState
bench_state b = record { content = Some b.content; left = left_of b.power; ready = b.ready; faults = b.faults }

-- it tells how many calls pass
pub left_told : (p : Power) → left_of p ≡ unknown → ⊥
left_told Unarmed is = cc
left_told (Armed calls) is = cc
left_told Lost is = cc
