-- A property of each part's module holds of a part that is looked up, and of lists that are joined
-- by part.
use Rattle.base_lists.proofs.Common.{◌≡◌, ℕ, suc, List, [], ◌∷◌, Option, Some, subst, slice_get, flat_map, and_then_is, every_at}
use Rattle.base_lists.proofs.Every.{every_append}
use Rattle.wasm_tree_spec.specs.Prelude.{Module}
use Rattle.base_lists.specs.Every.{Every}
use Rattle.wasm_meaning.specs.Prelude.{Part, module_at}
use Rattle.merge_spec.specs.Prelude.{by_part_from}

pub at_part : (P : Module → Type 0) (parts : List Part) (p : ℕ) (m : Module) → Every (λ (q : Part). P q.«module») parts → module_at parts p ≡ Some m → P m
at_part P parts p m h e = found (and_then_is (slice_get parts p) (λ (q : Part). Some q.«module») m e)
  where
    found : (q : Part) × (slice_get parts p ≡ Some q) × (◌≡◌ {A = Option Module} (Some q.«module») (Some m)) → P m
    found (q, there, is) = let same : q.«module» ≡ m = cc in subst P same (every_at (λ (r : Part). P r.«module») parts p q h there)

pub every_by_part : {A : Type 0} (P : Module → Type 0) (Q : A → Type 0) (f : ℕ → Module → List A) → ((p : ℕ) (m : Module) → P m → Every Q (f p m)) → (n : ℕ) (parts : List Part)
    → Every (λ (q : Part). P q.«module») parts → Every Q (by_part_from f n parts)
every_by_part P Q f keep n [] h = tt
every_by_part P Q f keep n (q ∷ parts) h = every_append Q (f n q.«module») (by_part_from f (suc n) parts) (keep n q.«module» h.0) (every_by_part P Q f keep (suc n) parts h.1)

pub every_flat : {A : Type 0} (P : Module → Type 0) (Q : A → Type 0) (f : Part → List A) → ((q : Part) → P q.«module» → Every Q (f q)) → (parts : List Part) → Every (λ (q : Part). P q.«module») parts → Every Q (flat_map f parts)
every_flat P Q f keep [] h = tt
every_flat P Q f keep (q ∷ parts) h = every_append Q (f q) (flat_map f parts) (keep q h.0) (every_flat P Q f keep parts h.1)
