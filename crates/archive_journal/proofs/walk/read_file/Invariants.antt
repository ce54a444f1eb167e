use Rattle.std.proofs.Common.{◌≡◌, ◌+◌, ◌-◌, ◌^◌, length, take, vec_len}
use Rattle.medium_model.specs.State.{CountedMaybe, IfTold}
use Rattle.archive_journal.proofs.walk.read_file.Given as goal

abbrev pub invariant-pieces : goal.invariant-pieces
invariant-pieces g l =
    record {
      counted : CountedMaybe (g.M.Medium.state l.initial.medium) (g.M.Medium.state l.medium) ⊥;
      content : (g.M.Medium.state l.medium).content ≡ (g.M.Medium.state l.initial.medium).content;
      bytes : IfTold (g.M.Medium.state l.initial.medium).content (λ c. l.file.items ≡ take (length l.file.items) c.reads);
    }

abbrev pub decreases-pieces : goal.decreases-pieces
decreases-pieces g l = 2 ^ 62 + 1 - vec_len l.file
