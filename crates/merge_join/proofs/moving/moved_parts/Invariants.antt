use Rattle.std.proofs.Common.{◌≡◌, ℕ, ◌≤◌, take, slice_get}
use Rattle.merge_spec.specs.Parts.{named_modules}
use Rattle.merge_join.proofs.MovedParts.{filled}
use Rattle.merge_join.proofs.moving.moved_parts.Given as goal

-- The parts from the place on are unchanged, and the definitions of the others are moved.
abbrev pub invariant-loop-at : goal.invariant-loop-at
invariant-loop-at l =
    ((n : ℕ) → l.at ≤ n → slice_get l.parts n ≡ slice_get l.initial.parts n)
    × (l.tree ≡ filled (named_modules l.initial.parts) (take l.at (named_modules l.initial.parts)))
