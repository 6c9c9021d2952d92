-- The instance of a part has addresses of the environment's entities and of definitions of parts up
-- to it, if each joined import leads to an earlier part.
use Rattle.merge_proof.proofs.PartLaws.{Instances}
use Rattle.base_lists.proofs.Common.{◌≡◌, ◌∙◌, refl, sym, subst, ℕ, zero, suc, ◌<◌, List, ◌++◌, length, Option, Some, None, ◌⊎◌, inl, inr, arith, option_and_then, slice_get, and_then_is, same_Some, append_from}
use Rattle.wasm_tree_spec.specs.Prelude.{Space, Functions, Tables, Memories, Globals, Types, Import, Module, index_of_export, space_of_export}
use Rattle.wasm_meaning.specs.Prelude.{Inst, Part, Entity, module_at, export_named, source_of, joined, Environment, ExternalValue, owned_of, owned_at, own_key, base, external_value_at, address_of, imported_external_value, JoinsEarlier}
use Rattle.world_simulation.specs.Prelude.{OwnEntitiesCorrespond}
use Rattle.merge_proof.proofs.ExternalValues.{space_in, in_space, address_is, held_external}
use Rattle.merge_proof.proofs.JoinedImports.{stays_own, joins, inst_of_part}
use Rattle.merge_proof.proofs.ReachedAddresses.{defined_more, own_low}
use Rattle.world_simulation.specs.IndexSpaces.{imports, defines}

-- ---- lists ----

pub append_back : {A : Type 0} (xs ys : List A) (n : ℕ) (x : A) → slice_get (xs ++ ys) n ≡ Some x → (slice_get xs n ≡ Some x) ⊎ ((j : ℕ) × (slice_get ys j ≡ Some x))
append_back xs ys n x e = elim (append_from xs ys n x e) [ inl l ↦ inl l | inr r ↦ inr (r.0, r.2) ]

-- ---- kinds ----

pub same_thing : (k l : Space) (a b : ℕ) → option_and_then (address_of k) (external_value_at l a) ≡ Some b → (l ≡ k) × (a ≡ b)
same_thing _ Types a b e = cc
same_thing Functions Functions a b e = (refl, same_Some _ _ e)
same_thing Tables Tables a b e = (refl, same_Some _ _ e)
same_thing Memories Memories a b e = (refl, same_Some _ _ e)
same_thing Globals Globals a b e = (refl, same_Some _ _ e)
same_thing _ _ a b e = cc

module _ (env : Environment) (parts : List Part) (insts : List Inst) (are : Instances env parts insts) (size : length insts ≡ length parts) (earlier : JoinsEarlier parts) (own : OwnEntitiesCorrespond) where
  -- An import that denotes an external value exists.
  import_there : (p n : ℕ) (m : Module) (x : ExternalValue) → module_at parts p ≡ Some m → imported_external_value env parts (record { part = p; import = n }) ≡ Some x → (i : Import) × (slice_get m.imports n ≡ Some i)
  import_there p n m x is h = elim (slice_get m.imports n) as (λ o. slice_get m.imports n ≡ o → (i : Import) × (slice_get m.imports n ≡ Some i)) [
    | Some i ↦ λ e. (i, e)
    | None ↦ λ e. let lost = rw (is, e) at h in cc
  ] refl

  abbrev pub LowThing : ℕ → Type 0
  LowThing p = (n : ℕ) (m : Module) (x : ExternalValue) → module_at parts p ≡ Some m → imported_external_value env parts (record { part = p; import = n }) ≡ Some x → (k : Space) (a : ℕ) → address_of k x ≡ Some a → a < base env parts k p

  abbrev pub LowInst : ℕ → Type 0
  LowInst p = (m : Module) (i : Inst) → module_at parts p ≡ Some m → slice_get insts p ≡ Some i → (k : Space) (n a : ℕ) → slice_get (space_in i k) n ≡ Some a → a < base env parts k (suc p)

  inst_by : (p : ℕ) → LowThing p → LowInst p
  inst_by p low m i is at k n a h =
      let s = are.spaces env parts k p m (space_in i k) (in_space env parts p m i (inst_of_part env parts insts are size earlier p m i is at) k (held_external i k n a h)) in
      let next = are.next k parts p m is in
      elim (are.names env parts k p m (space_in i k) s n a h) [
        | imports j at e ↦ let x = and_then_is (imported_external_value env parts (record { part = p; import = j })) (address_of k) a e in omega (arith, low j m x.0 is x.1 k a x.2, next)
        | defines j place l e ↦ omega (arith, next)
      ]

  thing_by : (p : ℕ) → ((q : ℕ) → q < p → LowInst q) → LowThing p
  thing_by p before n m x is h k a has = let i = import_there p n m x is h in go i.0 i.1 (joined parts i.0) refl
    where
      go : (i : Import) → slice_get m.imports n ≡ Some i → (o : Option Entity) → joined parts i ≡ o → a < base env parts k p
      go i at None j =
          let o = stays_own env parts insts are size earlier p n m i is at x None j refl h in
          let key = and_then_is (own_key m i) (λ key. owned_at (owned_of env) key) x o in
          own_low own env parts p key.0 x key.2 k a has
      go i at (Some e) j =
          let s = and_then_is (source_of parts i) _ e j in
          let b = and_then_is (module_at parts s.0) _ e s.2 in
          let c = and_then_is (export_named b.0.exports i.field) _ e b.2 in
          let part = and_then_is (slice_get parts s.0) (λ part. Some part.«module») b.0 b.1 in
          let inst = are.each.each s.0 b.0 b.1 in
          let j' : joined parts i ≡ Some (record { part = s.0; what = c.0 }) = j ∙ sym c.2 in
          let low : s.0 < p = earlier p n m i (record { part = s.0; what = c.0 }) is at j' in
          let address = joins env parts insts are size earlier p n m i is at x s.0 part.0 inst.0 c.0 j' part.1 inst.1 h in
          let at_place = and_then_is (slice_get (space_in inst.0 (space_of_export c.0)) (index_of_export c.0)) (external_value_at (space_of_export c.0)) x (sym (address_is inst.0 c.0) ∙ address) in
          let is_thing = same_thing k (space_of_export c.0) at_place.0 a (rw at_place.2 has) in
          let r : at_place.0 < base env parts k (suc s.0) = subst (λ k. at_place.0 < base env parts k (suc s.0)) is_thing.0 (before s.0 low b.0 inst.0 b.1 inst.1 (space_of_export c.0) (index_of_export c.0) at_place.0 at_place.1) in
          omega (arith, defined_more k parts (suc s.0) p low, is_thing.1)

  below : (bound p : ℕ) → p < bound → LowInst p
  below zero p l = absurd (omega arith)
  below (suc bound) p l = inst_by p (thing_by p (λ q h. below bound q (omega arith)))

  pub inst_low : (p : ℕ) → LowInst p
  inst_low p = below (suc p) p (omega arith)

  pub thing_low : (p : ℕ) → LowThing p
  thing_low p = thing_by p (λ q h. inst_low q)
