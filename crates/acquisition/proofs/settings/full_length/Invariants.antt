use Rattle.std.proofs.Common.{◌≡◌, ◌+◌, ◌*◌, ◌≤◌, drop}
use Rattle.record_writing.specs.Length.{shortest_length}
use Rattle.std.specs.List.{sum_by}
use Rattle.io_operands.specs.declared.setting.IoSetting.{IoSetting}
use Rattle.acquisition.proofs.settings.full_length.Given as goal

abbrev pub invariant-loop-s : goal.invariant-loop-s
invariant-loop-s l = (l.total + sum_by (λ (s : IoSetting). l.id + s.width) (drop l.s-index l.ios) ≡ shortest_length l.fn.codec + sum_by (λ (s : IoSetting). l.id + s.width) l.ios) × (l.total ≤ 40 + 300 * l.s-index)
