-- Parts by their number, and the number of entities that the parts before a part define.
use Rattle.base_lists.proofs.Common.{◌≡◌, ap, refl, ℕ, zero, suc, ◌+◌, ◌-◌, ◌≤◌, List, [], ◌∷◌, length, Some, arith, same_Some}
use Rattle.wasm_tree_spec.specs.Prelude.{Space, Module}
use Rattle.wasm_meaning.specs.Prelude.{Part, module_at, defined_count, defined_before}

pub defined_none : (k : Space) (parts : List Part) → defined_before k parts 0 ≡ 0
defined_none k [] = refl
defined_none k (part ∷ parts) = refl

pub defined_next : (k : Space) (parts : List Part) (p : ℕ) (m : Module) → module_at parts p ≡ Some m → defined_before k parts (suc p) ≡ defined_before k parts p + defined_count k m
defined_next k [] p m e = cc
defined_next k (part ∷ parts) zero m e = let same = ap (defined_count k) (same_Some _ _ e) in let z = defined_none k parts in omega (arith, same, z)
defined_next k (part ∷ parts) (suc p) m e = let r = defined_next k parts p m e in omega (arith, r)

pub defined_low : (k : Space) (parts : List Part) (p : ℕ) (m : Module) → module_at parts p ≡ Some m → defined_before k parts p + defined_count k m ≤ defined_before k parts (length parts)
defined_low k [] p m e = cc
defined_low k (part ∷ parts) p m e = grind (arith, defined_low k parts (p - 1) m)
