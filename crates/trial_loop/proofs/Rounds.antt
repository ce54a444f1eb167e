-- A round over a wire, in the words of its line.
use Rattle.std.proofs.Common.{◌≡◌, ℕ, Bool, List, length, Option, Some, None, Result, is_none, refl, sym, ◌∙◌, ap, subst}
use Rattle.avl_values.specs.Record.{Record}
use Rattle.avl_values.specs.declared.errors.MediumFault.{MediumFault}
use Rattle.flash_ring.specs.Entries.{held_of}
use Rattle.flash_ring.specs.Ring.{EverySound, RingView}
use Rattle.medium_model.specs.CallsLeft.{unlimited}
use Rattle.session_core.specs.declared.known.Known.{Known}
use Rattle.session_core.specs.Knowing.{knows}
use Rattle.shelf.specs.Shelf.{ShelfView}
use Rattle.tracker_session.specs.RingRounds.{IsReleased}
use Rattle.tracker_session.specs.declared.round_end.RoundEnd.{RoundEnd}
use Rattle.trial_model.specs.declared.outcome.ConnectionOutcome.{ConnectionOutcome}
use Rattle.trial_model.specs.Answers.{is_fault}
use Rattle.trial_model.specs.Delivery.{heard_of}
use Rattle.trial_model.specs.Frames.{records_in}
use Rattle.trial_model.specs.RecordLists.{AreIn}
use Rattle.trial_model.specs.Script.{Opening}
use Rattle.trial_device.specs.SideLines.{EndsSide, HasDrained, armed_ring, end_of}
use Rattle.trial_device.specs.Sides.{Side}
use Rattle.trial_device.proofs.Images.{each-sound}
use Rattle.trial_server.specs.Serving.{left_by}
use Rattle.trial_server.proofs.Containing.{in-itself}
use Rattle.trial_wire.specs.Connections.{IsRounded}
use Rattle.trial_wire.specs.WireLinks.{WireState}
use Rattle.trial_talks.specs.Rounds.{HasRounded, log_of}
use Rattle.trial_loop.specs.Rounded.{RoundsBoth}

-- the medium as the line began left it
pub armed-left : (fuse : Option ℕ) (v : RingView) → v.medium.left ≡ unlimited → (armed_ring fuse v).medium.left ≡ left_by fuse
armed-left None v idle = idle
armed-left (Some k) v idle = refl

pub armed-slots : (fuse : Option ℕ) (v : RingView) → (armed_ring fuse v).slots ≡ v.slots
armed-slots None v = refl
armed-slots (Some k) v = refl

-- what a round did, whatever was decided before it
abbrev pub RoundedAny : Known → Opening → Result RoundEnd MediumFault → RingView → RingView → ShelfView → WireState → Type 0
RoundedAny known o result old new s w = (earlier : List Record) (cover : Option ℕ) → AreIn earlier (held_of old.slots) → old.medium.left ≡ left_by cover → HasRounded known o cover earlier result old new s w

module _ (known : Known) (o : Opening) (result : Result RoundEnd MediumFault) (old new : RingView) (s : ShelfView) (w : WireState) (rounded : RoundedAny known o result old new s w) (fuse : Option ℕ) (left : old.medium.left ≡ left_by fuse) where
  one : HasRounded known o fuse (held_of old.slots) result old new s w
  one = rounded (held_of old.slots) fuse (in-itself (held_of old.slots)) left

  pub ring-sound : EverySound new
  ring-sound = each-sound new (IsReleased (records_in (heard_of (log_of o.imei result w))) old.slots) one.ring.images

  pub rounds-both : (d e : Side) → d.fuse ≡ fuse → armed_ring d.fuse d.ring ≡ old → HasDrained o.drains (end_of result) new → EndsSide fuse (record d { ring = new }) e → (log : ConnectionOutcome) → log ≡ log_of o.imei result w
      → (going : Bool) → going ≡ is_none w.ended → RoundsBoth known o log going s w.shelf d e
  rounds-both d e fuse_is ring_is drained ends log log_is going going_is =
      subst (λ (z : ConnectionOutcome × Bool). RoundsBoth known o z.0 z.1 s w.shelf d e) (λ i. (sym log_is i, sym going_is i)) (record {
        failed = is_fault told.server;
        rounded = λ earlier inside. each earlier inside;
        side = record {
          result = result;
          end = refl;
          rounds = record {
            between = new;
            ring = subst (λ (v : RingView). Rattle.tracker_session.specs.RingRounds.RoundsRing result (length (heard_of told)) (records_in (heard_of told)) v new) (sym ring_is) one.ring;
            drained = drained;
            ends = subst (λ f. EndsSide f (record d { ring = new }) e) (sym fuse_is) ends;
          };
        };
      })
    where
      told : ConnectionOutcome
      told = log_of o.imei result w

      slots : held_of d.ring.slots ≡ held_of old.slots
      slots = ap held_of (sym (armed-slots d.fuse d.ring) ∙ ap (λ (v : RingView). v.slots) ring_is)

      each : (earlier : List Record) → AreIn earlier (held_of d.ring.slots) → IsRounded (knows known o.imei) (is_fault told.server) d.fuse earlier o told (is_none w.ended) s w.shelf
      each earlier inside =
          let this = rounded earlier fuse (subst (AreIn earlier) slots inside) left in
          subst (λ (z : Bool × Option ℕ). IsRounded (knows known o.imei) z.0 z.1 earlier o told (is_none w.ended) s w.shelf) (λ i. (sym this.rounded.fault i, sym fuse_is i)) this.rounded
