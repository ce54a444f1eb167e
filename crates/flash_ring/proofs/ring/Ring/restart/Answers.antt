-- The bench tells its content, and a sound image is opened.
use Rattle.std.proofs.Common.{length, IsSome, IsOk, subst}
use Rattle.flash_ring.specs.Ring.{RingView, EverySound}
use Rattle.flash_ring.proofs.Restarts.{restarted-fits}
use Rattle.flash_ring.proofs.ring.Ring.restart.Goals as goal

pub returns-clause-fits : goal.returns-clause-fits
returns-clause-fits g c =
    let P : RingView → Type 0 = λ v. EverySound v → IsOk c.reopen.result in
    subst P c.self.view_is (λ every.
    restarted-fits (length c.self.inside.slots.items) (g.M.Medium.state c.self.inside.medium).content _ _ c.reopen.result c.restart.ensures.image
    (g.met.M.Bench.tells c.self.inside.medium) every c.restart.ensures.unarmed c.reopen.ensures.refused c.reopen.ensures.counted)

pub returns-clause-told : goal.returns-clause-told
returns-clause-told g c = let P : RingView → Type 0 = λ v. IsSome v.medium.content in subst P c.self.view_is (g.met.M.Bench.tells c.self.inside.medium)
