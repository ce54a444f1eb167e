-- A round over any link: how it went, and what it did to the records that are held.
use Rattle.std.specs.Prelude.{ℕ, Option, Some, None, Result}
use Rattle.avl_values.specs.declared.errors.MediumFault.{MediumFault}
use Rattle.links.specs.Links.{Traffic}
use Rattle.flash_ring.specs.Records.{recs_in}
use Rattle.flash_ring.specs.Ring.{RingView}
use Rattle.tracker_session.specs.Responses.{ShellMeaning}
use Rattle.tracker_session.specs.RingRounds.{IsDrained, RoundsRing}
use Rattle.tracker_session.specs.RoundStates.{Round, RoundState}
use Rattle.tracker_session.specs.Rounds.{IsRound}
use Rattle.tracker_session.specs.Talks.{HearsNoCommand, RoundTalks}
use Rattle.tracker_session.specs.declared.round_end.RoundEnd.{RoundEnd}

-- The batches whose own counts were heard, and the slots that they closed, are the same in both.
pub record IsWholeRound {S : Type 0} (m : ShellMeaning S) (r : Round S) (rose : Type 0) (old new : RingView) (t : S) (x y : Option Traffic) (result : Result RoundEnd MediumFault) : Type 0 where
  pub state : RoundState S
  pub goes : IsRound m r rose state old new t x y result
  pub ring : RoundsRing result state.frames (recs_in old.slots state.closed) old new
  pub drained : IsDrained result r.most state.frames new

-- the same, where the link tells its bytes and no command was heard
abbrev pub TalksWhere : ℕ → ℕ → Result RoundEnd MediumFault → RingView → RingView → Option Traffic → Option Traffic → Type 0
TalksWhere imei most result old new None after = Unit {0}
TalksWhere imei most result old new (Some before) None = Unit {0}
TalksWhere imei most result old new (Some before) (Some after) = HearsNoCommand before after → RoundTalks imei most result old new before after
