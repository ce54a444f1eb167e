-- What serving a link does: the bytes, the course and the calls.
use Rattle.std.specs.Prelude.{◌≡◌, ℕ, Bool, List, map, Option, Result}
use Rattle.links.specs.Links.{LinkState, Moves}
use Rattle.shelf.specs.Calls.{Brought, Call, Feeds, Mark, brought, with_calls}
use Rattle.shelf.specs.declared.receipt.AdmitFault.{AdmitFault}
use Rattle.shelf.specs.declared.receipt.Receipt.{Receipt}
use Rattle.session_core.specs.declared.served.Served.{Served}
use Rattle.session_core.specs.Courses.{IsCourse}
use Rattle.session_core.specs.SessionCalls.{AreCallsOf, HaveReceipts}
use Rattle.session_core.specs.Telling.{IsTold}
use Rattle.session_core.specs.Talks.{Meaning}

-- A link was served: these bytes were taken and these written, on this course, and these calls of `admit` were made, which are
-- those of one session.
pub record IsServed {S O : Type 0} (leaves : S → ℕ → List ℕ → Result Receipt AdmitFault → S → Type 0) (calls_told : S → Option (List Brought)) (mark : S → Mark) (m : Meaning O) (known : ℕ → Bool) (o p : O) (s t : S) (old new : LinkState)
    (served : Served) : Type 0 where
  pub taken : List ℕ
  pub written : List ℕ
  pub moves : Moves taken written old.told new.told
  pub course : IsCourse m known o p new served taken written
  pub told : IsTold m known o p served taken written
  pub calls : List Call
  pub feeds : Feeds leaves s calls t
  pub receipts : HaveReceipts served taken calls
  pub same_mark : mark t ≡ mark s
  pub tells : calls_told t ≡ with_calls (map (brought (mark s)) calls) (calls_told s)
  pub of_session : AreCallsOf served (mark s) taken (map (brought (mark s)) calls)
