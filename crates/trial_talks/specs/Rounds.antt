-- A connection's log, by the round of its device and the wire of its line.
use Rattle.std.specs.Prelude.{◌≡◌, ℕ, Bool, List, [], length, take, Option, Some, None, is_none, Result, Ok}
use Rattle.avl_values.specs.Causes.{Rose}
use Rattle.avl_values.specs.Record.{Record}
use Rattle.avl_values.specs.declared.errors.MediumFault.{MediumFault}
use Rattle.flash_ring.specs.Ring.{RingView}
use Rattle.session_core.specs.declared.known.Known.{Known}
use Rattle.session_core.specs.Knowing.{knows}
use Rattle.shelf.specs.Shelf.{ShelfView}
use Rattle.tracker_session.specs.RingRounds.{RoundsRing}
use Rattle.tracker_session.specs.Turns.{BreaksWith}
use Rattle.tracker_session.specs.WholeRounds.{TalksWhere}
use Rattle.tracker_session.specs.declared.round_end.RoundEnd.{RoundEnd}
use Rattle.tracker_session.specs.declared.round_end.RoundEnd.TheVariants as end
use Rattle.trial_device.specs.SideLines.{end_of}
use Rattle.trial_model.specs.declared.outcome.ConnectionOutcome.{ConnectionOutcome}
use Rattle.trial_model.specs.declared.outcome.ServerEnd.{ServerEnd}
use Rattle.trial_model.specs.Delivery.{heard_of}
use Rattle.trial_model.specs.Frames.{records_in}
use Rattle.trial_model.specs.Script.{Opening}
use Rattle.trial_wire.specs.Connections.{IsRounded}
use Rattle.trial_wire.specs.Hearing.{end_now, rest_in}
use Rattle.trial_wire.specs.WireLinks.{Follows, WireState, link_state}

-- how a session ended, or would end now, with N bytes of an unfinished item
abbrev pub server_by : Option ServerEnd → ℕ → ServerEnd
server_by None have = end_now have
server_by (Some end) have = end

-- the log of a round of this device, by its end and by where its wire stands then
abbrev pub log_of : ℕ → Result RoundEnd MediumFault → WireState → ConnectionOutcome
log_of imei result w = record {
  imei = imei;
  up = w.up;
  up_given = w.given;
  down = w.down;
  down_given = w.heard;
  device = end_of result;
  server = server_by w.ended (length (rest_in (take w.given w.up)));
}

-- What a device's round with at most N batches did over a wire that tells its bytes, and to the device's ring.
pub record RoundsOver (imei most : ℕ) (result : Result RoundEnd MediumFault) (old new : RingView) (before after : WireState) : Type 0 where
  pub follows : Follows before after
  pub talks : (Rose before.faults after.faults → ⊥) → (result ≡ Ok end.Empty → ⊥) → TalksWhere imei most result old new (link_state before).told (link_state after).told
  pub empty : result ≡ Ok end.Empty → (after ≡ before) × RoundsRing (Ok end.Empty) 0 [] old new
  pub broken : BreaksWith result (link_state before) (link_state after)

-- What a line's round did, in its log's words: to the connection and the archive, and to the device's ring.
pub record HasRounded (known : Known) (o : Opening) (cover : Option ℕ) (earlier : List Record) (result : Result RoundEnd MediumFault) (old new : RingView) (s : ShelfView) (w : WireState) : Type 0 where
  pub failed : Bool
  pub rounded : IsRounded (knows known o.imei) failed cover earlier o (log_of o.imei result w) (is_none w.ended) s w.shelf
  pub ring : RoundsRing result (length (heard_of (log_of o.imei result w))) (records_in (heard_of (log_of o.imei result w))) old new
