-- The blocks that a write reaches, and the stops of a write.
use Rattle.base_lists.proofs.Common.{◌≡◌, refl, ℕ, suc, ◌+◌, ◌-◌, ◌/◌, ◌≤◌, arith, List, [], ◌∷◌, length, Bool, true, false, cond, ◌||◌, Some, None, ap, inl, inr, count_by, nat_lt, le-ltb, lt-ltb}
use Rattle.std.proofs.lemmas.List.Sums.{sum_by-cons}
use Rattle.block_pool.specs.Pages.{IsWidth, Pages, Passes, reaches, size, with_reached}
use Rattle.eval_spec.specs.declared.limits.TheConstants.{MOST_BLOCKS}
use Rattle.eval_spec.specs.declared.stop.Stop.TheVariants as why
use Rattle.eval_spec.specs.Prelude.{first_held, test, too_many_blocks}
use Rattle.eval_machine.specs.Prelude.{HoldsMost, told_of, write_tests}
use Rattle.eval_machine.specs.Written.{bounds_tests}

-- No more blocks count as written than there are.
one_each : (b : Bool) → cond b 1 0 ≤ 1
one_each true = omega arith
one_each false = omega arith

counted_within : (place count block : ℕ) (ws : List Bool) → count_by (λ w. w) (with_reached place count block ws) ≤ length ws
counted_within place count block [] = let none : count_by {X = Bool} (λ w. w) [] ≡ 0 = refl in omega (arith, none)
counted_within place count block (w ∷ ws) =
    omega (arith, one_each (w || reaches place count block), sum_by-cons (λ (b : Bool). cond b 1 0) (w || reaches place count block) (with_reached place count (suc block) ws), counted_within place count (suc block) ws)

-- A write that the pages do not allow writes too many blocks for an evaluation.
pub passes_too_many : (p : Pages) (place count : ℕ) → HoldsMost p → Passes p place count → too_many_blocks (with_reached place count 0 p.now.written) ≡ true
passes_too_many p place count h q =
    lt-ltb MOST_BLOCKS (count_by (λ w. w) (with_reached place count 0 p.now.written)) (omega (arith, counted_within place count 0 p.now.written, h, q))

told_at : (a b c : Bool) (turns left rest : ℕ) → (None, left) ≡ told_of (first_held (test a why.Trap turns ∷ test b why.Steps turns ∷ [])) rest → c ≡ true →
    (Some why.Memory, left) ≡ told_of (first_held (test a why.Trap turns ∷ test b why.Steps turns ∷ test c why.Memory rest ∷ [])) rest
told_at true b c turns left rest e f = absurd (let k = ap (λ q. q.0) e in cc)
told_at false true c turns left rest e f = absurd (let k = ap (λ q. q.0) e in cc)
told_at false false c turns left rest e f = let g : left ≡ rest = ap (λ q. q.1) e in rw (f, g)

pub told_memory : (p : Pages) (turns left place count : ℕ) → (None, left) ≡ told_of (first_held (bounds_tests turns (size p) place count)) (turns - count / 64) → HoldsMost p → Passes p place count →
    (Some why.Memory, left) ≡ told_of (first_held (write_tests turns p place count)) (turns - count / 64)
told_memory p turns left place count e h q = told_at (nat_lt (size p) (place + count)) (nat_lt turns (count / 64)) _ turns left (turns - count / 64) e (passes_too_many p place count h q)

few_turns : (width : ℕ) → IsWidth width → width / 64 ≡ 0
few_turns width (inl e) = rw e
few_turns width (inr (inl e)) = rw e
few_turns width (inr (inr (inl e))) = rw e
few_turns width (inr (inr (inr e))) = rw e

pub told_store : (p : Pages) (turns place width : ℕ) → place + width ≤ size p → IsWidth width → HoldsMost p → Passes p place width → (Some why.Memory, turns) ≡ told_of (first_held (write_tests turns p place width)) turns
told_store p turns place width le w h q =
    let inside : nat_lt (size p) (place + width) ≡ false = le-ltb (size p) (place + width) le in
    let slow : nat_lt turns 0 ≡ false = le-ltb turns 0 (omega arith) in
    let n : turns - 0 ≡ turns = omega arith in
    rw (inside, few_turns width w, slow, n, passes_too_many p place width h q)
