-- A line that opens a connection, for both ends.
use Rattle.std.proofs.Common.{◌≡◌, ◌==◌, ◌&&◌, inl, inr, ℕ, Bool, not, List, [], ◌∷◌, ◌++◌, set, slice_get, take, Option, Some, None, sym, ◌∙◌, ap, subst, arith, eqb-true}
use Rattle.std.specs.List.{Contains}
use Rattle.std.proofs.lemmas.List.Elements.{All-cons, All-nil}
use Rattle.avl_values.specs.Record.{Record}
use Rattle.flash_ring.specs.Entries.{held_of}
use Rattle.flash_ring.specs.Held.{IsPart}
use Rattle.journey_script.specs.Laws.{HasLaws}
use Rattle.journey_script.proofs.ScriptLaws.{script_laws}
use Rattle.shelf.specs.Shelf.{ShelfView}
use Rattle.trial_model.specs.declared.outcome.ConnectionOutcome.{ConnectionOutcome}
use Rattle.trial_model.specs.declared.script.ScriptLine.{ScriptLine}
use Rattle.trial_model.specs.declared.script.Who.TheVariants as Who
use Rattle.trial_model.specs.Connections.{is_whole, opened}
use Rattle.trial_model.specs.Cover.{fuse_of}
use Rattle.trial_model.specs.Decisions.{history_of, records_decided, steps_of}
use Rattle.trial_model.specs.Kept.{earlier_records, ends_of}
use Rattle.trial_model.specs.RecordLists.{AreIn}
use Rattle.trial_model.specs.Script.{Device, Opening, Script, devices_of, lines_of, opening_of}
use Rattle.trial_device.specs.Sides.{Side}
use Rattle.trial_server.specs.Serving.{armed}
use Rattle.trial_server.proofs.Containing.{in-itself, in-right, in-then}
use Rattle.trial_wire.specs.Connections.{IsRounded}
use Rattle.trial_play.specs.Plays.{OneSide, PlaysConnection, RoundsBy}
use Rattle.trial_play.specs.ServerLines.{EndsLine}
use Rattle.trial_play.specs.Trials.{TrialState, cover_by, earlier_by, heard_in, history_in, known_by, logs_of}
use Rattle.trial_play.proofs.Decided.{earlier-is}
use Rattle.trial_loop.specs.Loops.{IsNext, LoopState}
use Rattle.trial_loop.specs.Places.{IsPlaceOf}
use Rattle.trial_loop.specs.Rounded.{RoundsBoth}
use Rattle.trial_loop.proofs.Covers.{history-fuse, opening-covers}
use Rattle.trial_loop.proofs.OneSides.{IsSoundAt, here, plays-one}

part-in : (xs ys : List Record) → IsPart xs ys → AreIn ys xs
part-in [] ys part = All-nil (Contains ys)
part-in (x ∷ xs) [] part = absurd part
part-in (x ∷ xs) (y ∷ ys) (inl (same, rest)) = All-cons (Contains (y ∷ ys)) x xs (0, omega arith, sym same) (in-then (y ∷ ys) ys xs (in-right (y ∷ []) ys ys (in-itself ys)) (part-in xs ys rest))
part-in (x ∷ xs) (y ∷ ys) (inr rest) = in-then (y ∷ ys) ys (x ∷ xs) (in-right (y ∷ []) ys ys (in-itself ys)) (part-in (x ∷ xs) ys rest)

module _ (script : Script) (n : ℕ) (l : ScriptLine) (s : LoopState) (next : IsNext script n l s) (o : Opening) (opens : opening_of l ≡ Some o)
    (place : ℕ) (d e : Side) (found : IsPlaceOf o.imei s.trial.sides place) (at : slice_get s.trial.sides place ≡ Some d)
    (log : ConnectionOutcome) (going : Bool) (t : ShelfView) (both : RoundsBoth s.known o log going (armed s.trial.fuse s.trial.shelf) t d e) where
  abbrev devices : List Device
  devices = devices_of (lines_of script)

  abbrev lines : List ScriptLine
  lines = take n (lines_of script)

  abbrev logs : List ConnectionOutcome
  logs = logs_of s.trial.connections

  laws : HasLaws (lines_of script)
  laws = script_laws script next.is_script

  own : IsSoundAt (heard_in logs) (history_in lines logs) devices place d
  own = here script n l s next place d at

  has : d.device.imei ≡ o.imei
  has = let one : Some found.side ≡ Some d = sym found.here ∙ at in let same : found.side ≡ d = cc in eqb-true d.device.imei o.imei (ap (λ (y : Side). y.device.imei == o.imei) (sym same) ∙ found.has)

  earlier : earlier_by devices logs (opened lines l o) ≡ records_decided (history_of d.device (steps_of lines (ends_of logs))).decisions
  earlier = ap (λ (i : ℕ). earlier_records i devices (steps_of lines (ends_of logs))) (sym has) ∙ earlier-is devices place d.device (steps_of lines (ends_of logs)) laws.distinct own.here

  held : AreIn (earlier_by devices logs (opened lines l o)) (held_of d.ring.slots)
  held = subst (λ rs. AreIn rs (held_of d.ring.slots)) (sym earlier) (part-in (held_of d.ring.slots) (records_decided (history_of d.device (steps_of lines (ends_of logs))).decisions) own.sound.held.decided)

  cover : d.fuse ≡ cover_by (opened lines l o)
  cover = own.sound.fuse ∙ history-fuse d.device lines (ends_of logs) ∙ ap (λ (i : ℕ). fuse_of (Who.Device i) lines) has ∙ sym (opening-covers l o (fuse_of (Who.Device o.imei) lines) opens)

  rounded : IsRounded (known_by devices (opened lines l o)) both.failed (cover_by (opened lines l o)) (earlier_by devices logs (opened lines l o)) o log going (armed s.trial.fuse s.trial.shelf) t
  rounded = subst (λ (z : Bool × Option ℕ). IsRounded z.0 both.failed z.1 (earlier_by devices logs (opened lines l o)) o log going (armed s.trial.fuse s.trial.shelf) t)
      (λ i. (next.known o.imei i, cover i)) (both.rounded (earlier_by devices logs (opened lines l o)) held)

  pub connects : (kept : Bool) → kept ≡ (going && not (is_whole o)) → (new : TrialState) → new.sides ≡ set s.trial.sides place e
      → EndsLine s.trial.fuse (s.trial.connections ++ record { log = log; going = kept } ∷ []) new.connections t new.shelf → new.fuse ≡ None → PlaysConnection devices lines l o s.trial new
  connects kept is new sides ends fuse = record {
    server = record {
      between = s.trial.connections ++ record { log = log; going = kept } ∷ [];
      shelf = t;
      opens = record { failed = both.failed; log = log; going = going; rounded = rounded; is = ap (λ (b : Bool). s.trial.connections ++ record { log = log; going = b } ∷ []) is };
      ends = ends;
      fuse = fuse;
    };
    sides = subst (λ (v : List Side). OneSide o.imei (RoundsBy o.drains log) devices s.trial.sides v) (sym sides) (plays-one script n l s next o.imei (RoundsBy o.drains log) place d e found at both.side);
  }
