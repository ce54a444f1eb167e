-- Which tokens of JSON are written for what is sent to a serializer.
use Rattle.std.specs.Prelude.{◌≡◌, List, [], ◌++◌, Some, None, false}
use Rattle.json.specs.Token.{Token}
use Rattle.serde.specs.Event.{Event, Log}
use Rattle.serde_json.specs.Sent.{State, TakesAll}

-- no key of any type is due, and no object is without braces
pub record IsPlain (s : State) : Type 0 where
  pub no_key : s.at_key ≡ false
  pub no_flattened : s.flattens ≡ false
  pub no_flat : s.flat ≡ []

-- where these events lead, these tokens have been added
pub record Adds (old : State) (tokens : List Token) (new : State) : Type 0 where
  pub plain : IsPlain new
  pub added : new.tokens ≡ old.tokens ++ tokens

-- these events are written as these tokens
abbrev pub AreWrittenAs : List Token → List Event → Type 0
AreWrittenAs tokens events = (old new : State) → IsPlain old → TakesAll old events new → Adds old tokens new

-- what was sent between is written as these tokens, where the events are kept
abbrev pub IsSentAs : List Token → Log → Log → Type 0
IsSentAs tokens None new = Unit {0}
IsSentAs tokens (Some events) new = (more : List Event) × (new ≡ Some (events ++ more)) × AreWrittenAs tokens more

pub record Sends (tokens : List Token) (old new : Log) : Type 0 where
  pub sent : IsSentAs tokens old new
