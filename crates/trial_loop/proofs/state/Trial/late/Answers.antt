-- A late line, under the server's fuse.
use Rattle.std.proofs.Common.{◌∙◌, subst}
use Rattle.trial_model.specs.declared.script.ScriptLine.TheVariants as Line
use Rattle.trial_loop.specs.Feeding.{FeedsNumber}
use Rattle.trial_loop.proofs.Stepping.{late-goes, late-within, on-ok, both-ok}
use Rattle.trial_loop.proofs.state.Trial.late.Goals as goal

pub feed-requires : goal.feed-requires
feed-requires g c = late-within (Line.Late c.args.connection c.args.bytes) _ c.args.self.now (c.self.view_is ∙ c.begin.ensures) c.requires

pub returns : goal.returns
returns g c =
    let e = c.end.ensures in
    on-ok c.end.result
    (λ both. late-goes _ c.args.self.now c.end.new.self (c.self.view_is ∙ c.begin.ensures) c.args.connection c.args.bytes c.feed.new.self c.feed.new.shelf
    (subst (λ bytes. FeedsNumber c.self.inside.known c.args.connection bytes c.self.inside.connections c.feed.new.self c.self.inside.shelf c.feed.new.shelf) c.wide.ensures c.in_ok-feed.ensures)
    both.0 both.1 e.sides e.known)
    (both-ok _ _ c.end.result e.ends e.fuse)
