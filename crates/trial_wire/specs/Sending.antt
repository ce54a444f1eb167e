-- What a device sent up on a connection.
use Rattle.std.specs.Prelude.{◌≡◌, ℕ, List}
use Rattle.tracker_session.specs.Sending.{AreSentBodies, stream_up}

-- a login and whole frames
pub record IsSentStream (imei : ℕ) (up : List ℕ) : Type 0 where
  pub bodies : List (List ℕ)
  pub are : AreSentBodies bodies
  pub is : up ≡ stream_up imei bodies
