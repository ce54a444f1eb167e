use Rattle.std.proofs.Common.{◌≡◌, [], ap, ◌∙◌, arith}
use Rattle.std.proofs.lemmas.Grind.{common_steps}
use Rattle.acquisition.specs.Firing.{seen, watched_by}
use Rattle.acquisition.proofs.FiringLaws.{seen_none}
use Rattle.acquisition.proofs.firing.watches.Goals as goal

pub returns-clause-seen : goal.returns-clause-seen
returns-clause-seen c =
    let all : c.loop-s.out.items ≡ watched_by c.args.settings.now.ios [] = grind (arith, common_steps) in
    ap seen all ∙ seen_none c.args.settings.now.ios
