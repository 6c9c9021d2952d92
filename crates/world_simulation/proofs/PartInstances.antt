-- What an instance holds, and the instances of several parts one after the other.
use Rattle.base_lists.proofs.Common.{◌≡◌, ap, ℕ, zero, suc, List, [], ◌∷◌, Some, arith, add-zero, inl, inr, slice_get, length-append, same_Some, length-numbers, and_then_is, all_there_length, append_from, all_there_back, number_is, add_next}
use Rattle.wasm_tree_spec.specs.Prelude.{Space, Module}
use Rattle.wasm_meaning.specs.Prelude.{Inst, Part, module_at, imports_of, Environment, space, numbers, inst_of, insts_from, defined_count, base}
use Rattle.world_simulation.specs.IndexSpaces.{EachInst, SpaceEntry, IsInst, IsSpace, defines, import_address, imports}

-- ---- an index space ----

module _ (env : Environment) (parts : List Part) (k : Space) (p : ℕ) (m : Module) where
  pub is_space : (xs : List ℕ) → space env parts k p m ≡ Some xs → IsSpace env parts k p m xs
  is_space xs h = search (arith, length-append, length-numbers, all_there_length)

  pub entry_at : (xs : List ℕ) → IsSpace env parts k p m xs → (x a : ℕ) → slice_get xs x ≡ Some a → SpaceEntry env parts k p m x a
  entry_at xs s x a h =
      elim (append_from s.imported (numbers (base env parts k p) (defined_count k m)) x a (rw (← s.all) h)) [
        | inl e ↦ let r = all_there_back _ _ _ s.are x a e in imports r.0 r.1 r.2
        | inr j ↦ let r = number_is _ _ j.0 a j.2 in defines j.0 (rw (← all_there_length (import_address env parts k p) (imports_of k m) s.imported s.are) j.1) r.0 r.1
      ]

-- ---- one ----

module _ (env : Environment) (parts : List Part) (p : ℕ) (m : Module) where
  pub inst_is : (i : Inst) → inst_of env parts p m ≡ Some i → IsInst env parts p m i
  inst_is i h = search arith

-- ---- several ----

module _ (env : Environment) (all : List Part) where
  pub insts_are : (p : ℕ) (parts : List Part) (is : List Inst) → insts_from env all p parts ≡ Some is → EachInst env all p parts is
  insts_are p [] is h = search arith
  insts_are p (part ∷ parts) is h =
      let i = and_then_is (inst_of env all p part.«module») _ is h in
      let r = and_then_is (insts_from env all (suc p) parts) _ is i.2 in
      let later = insts_are (suc p) parts r.0 r.1 in
      rw (← same_Some _ _ r.2) (record {
        size = ap suc later.size;
        each = elim [ zero ↦ search (arith, add-zero) | suc q ↦ rw add_next (later.each q) ];
      })

  -- ---- those of a world ----

  pub inst_in : (is : List Inst) → insts_from env all 0 all ≡ Some is → (p : ℕ) (m : Module) → module_at all p ≡ Some m → (i : Inst) × (slice_get is p ≡ Some i) × IsInst env all p m i
  inst_in is h p m at = search (arith, (insts_are 0 all is h).each, inst_is)
