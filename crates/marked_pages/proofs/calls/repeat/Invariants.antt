use Rattle.std.proofs.Common.{◌≡◌}
use Rattle.block_pool.specs.Pages.{size}
use Rattle.marked_pages.proofs.calls.repeat.Given as goal

abbrev pub invariant-loop-turn : goal.invariant-loop-turn
invariant-loop-turn l = (size l.memory ≡ 67108864) × (l.memory.mark ≡ l.initial.memory.mark)
