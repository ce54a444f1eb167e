-- A trial before its first line is sound, and so the headline of a trial that is played line by line.
use Rattle.std.proofs.Common.{◌≡◌, List, [], ◌∷◌, Some, None, refl, sym, subst}
use Rattle.std.specs.List.{AllZip}
use Rattle.journey_script.specs.Laws.{HasLaws}
use Rattle.medium_model.specs.Content.{settled}
use Rattle.trial_model.specs.Decisions.{before_all}
use Rattle.trial_model.specs.Kept.{Kept}
use Rattle.trial_model.specs.Script.{Device, Script, devices_of, lines_of}
use Rattle.trial_device.specs.Sides.{IsSideSound, Side}
use Rattle.trial_device.specs.Starting.{StartsSide}
use Rattle.trial_device.proofs.Starting.{side-starts}
use Rattle.trial_server.proofs.Starting.{starts-shelf}
use Rattle.trial_play.specs.Outcomes.{outcome_of}
use Rattle.trial_play.specs.Plays.{PlaysAll}
use Rattle.trial_play.specs.Starting.{StartsTrial}
use Rattle.trial_play.specs.Trials.{AreConnectionsSound, IsTrialSound, TrialState, counted_in, given_in}
use Rattle.trial_play.proofs.Ending.{kept-whole}
use Rattle.trial_play.proofs.Places.{none-some}
use Rattle.trial_play.proofs.Playing.{plays-all}

pub starts-trial : (devices : List Device) (t : TrialState) → StartsTrial devices t → IsTrialSound devices [] t
starts-trial devices t s =
    let v = t.shelf in
    let begun : TrialState = record { sides = t.sides; connections = []; shelf = v; fuse = None } in
    let no_connections : AreConnectionsSound devices [] [] [] = record {
      as_many = refl;
      places = λ n h at. absurd (none-some h at);
      begins = λ n h at. absurd (none-some h at);
      each = λ n h w at. absurd (none-some h at);
    } in
    let sound : IsTrialSound devices [] begun = record {
      server = record {
        connections = no_connections;
        archive = starts-shelf (given_in [] []) (counted_in []) (Some (settled [])) v (λ j. refl) refl s.shelf.durable s.shelf.list s.shelf.images;
        up = s.shelf.durable.up;
        idle = s.shelf.left;
        fuse = refl;
      };
      sides = each devices t.sides s.sides;
    } in
    subst (IsTrialSound devices []) (sym s.is) sound
  where
    each : (xs : List Device) (ds : List Side) → AllZip StartsSide xs ds → AllZip (λ device d. (d.device ≡ device) × IsSideSound [] before_all d) xs ds
    each [] [] all = tt
    each [] (d ∷ ds) all = absurd all
    each (x ∷ xs) [] all = absurd all
    each (x ∷ xs) (d ∷ ds) all = (side-starts x d all.0, each xs ds all.1)

-- all that is true of a trial after the last line
pub script-sound : (script : Script) (t new : TrialState) → StartsTrial (devices_of (lines_of script)) t → PlaysAll (devices_of (lines_of script)) [] (lines_of script) t new → IsTrialSound (devices_of (lines_of script)) (lines_of script) new
script-sound script t new starts plays = plays-all (devices_of (lines_of script)) [] (lines_of script) t new (starts-trial (devices_of (lines_of script)) t starts) plays

pub trial-kept : (script : Script) (t new : TrialState) → HasLaws (lines_of script) → StartsTrial (devices_of (lines_of script)) t → PlaysAll (devices_of (lines_of script)) [] (lines_of script) t new → Kept script (outcome_of new)
trial-kept script t new laws starts plays = kept-whole script new (script-sound script t new starts plays) laws.placed laws.distinct
