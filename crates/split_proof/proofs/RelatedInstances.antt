-- The instances of a module alone and of the primary module of its split name partners, index by
-- index.
use Rattle.base_lists.proofs.Common.{◌≡◌, ◌∙◌, ap, sym, subst, refl, ℕ, suc, ◌<◌, List, [], ◌∷◌, length, Some, true, arith, slice_get, lt-ltb, same_Some, length-numbers, numbers_index, and_then_is, and_from}
use Rattle.base_lists.specs.Places.{numbers}
use Rattle.wasm_tree_spec.specs.Prelude.{Functions, Tables, Memories, Globals, Module, funcs_of, tables_of, memories_of, globals_of}
use Rattle.wasm_meaning.specs.Prelude.{Inst, Environment, Added, primary_added}
use Rattle.run_simulation.specs.Prelude.{OptRel}
use Rattle.index_remap.specs.Prelude.{has}
use Rattle.world_simulation.specs.Prelude.{one, IsInst}
use Rattle.world_simulation.specs.EmptyLoaders.{LoadersHaveTheirPrimarysInstance}
use Rattle.world_simulation.specs.DefinedPlaceholders.{stubbed, placeholders_in, LoadersAddAsStubbed}
use Rattle.split_spec.specs.declared.names.SplitNames.{SplitNames}
use Rattle.split_spec.specs.Prelude.{is_left}
use Rattle.split_proof.specs.LoadedCode.{InstancesAreRelated, Partnered, InstancesOfSplitsAreRelated}
use Rattle.split_proof.specs.SplitLaws.{CanBeSplit}
use Rattle.split_proof.proofs.RelatedBodies.{entries_named, moved_there, slots_there}
use Rattle.split_proof.proofs.IndexEntries.{Laws, Q, holds, split, types_are, types_moved}
use Rattle.split_proof.proofs.PlaceholderImports.{imports_them_last}

there : (n x : ℕ) → x < n → has (numbers 0 n) x ≡ true
there n x lt = let e = length-numbers 0 n in lt-ltb x (length (numbers 0 n)) (omega (arith, lt, e))

module _ (laws : Laws) (namespace : ℕ → List ℕ) (names : SplitNames) (m : Module) (moved : List ℕ) (owns : List (List ℕ)) (g : CanBeSplit namespace names m moved owns) (env : Environment) where
  -- The instances are related where the second is that of the primary module with stubs.
  from_insts : (i j : Inst) → IsInst env (one m) 0 m i → IsInst env (one (Q laws namespace names m moved owns g)) 0 (Q laws namespace names m moved owns g) j → InstancesAreRelated env m moved i j
  from_insts i j a b = record {
    first_types = a.types;
    types = b.types ∙ types_are laws namespace names m moved owns g;
    funcs = λ x lt left. entries_named laws namespace names m moved owns g env i j a b [] Functions x (and_from _ (is_left m moved x) (there (length (funcs_of m)) x lt) left);
    tables = λ x lt.
        subst (λ n. OptRel (Partnered env m moved Tables) (slice_get i.tables x) (slice_get j.tables n)) (numbers_index (suc (length (tables_of m))) x (omega (arith, lt)))
        (entries_named laws namespace names m moved owns g env i j a b [] Tables x (and_from _ true (there (length (tables_of m)) x lt) refl));
    mems = λ x lt.
        subst (λ n. OptRel (Partnered env m moved Memories) (slice_get i.mems x) (slice_get j.mems n)) (numbers_index (length (memories_of m)) x lt)
        (entries_named laws namespace names m moved owns g env i j a b [] Memories x (and_from _ true (there (length (memories_of m)) x lt) refl));
    globals = λ x lt.
        subst (λ n. OptRel (Partnered env m moved Globals) (slice_get i.globals x) (slice_get j.globals n)) (numbers_index (length (globals_of m)) x lt)
        (entries_named laws namespace names m moved owns g env i j a b [] Globals x (and_from _ true (there (length (globals_of m)) x lt) refl));
    slots = slots_there laws namespace names m moved owns g env i j a b [];
    moves = moved_there laws namespace names m moved owns g env i j a b [];
  }

pub instances_alike : Laws → LoadersAddAsStubbed → LoadersHaveTheirPrimarysInstance → InstancesOfSplitsAreRelated
instances_alike laws stubs has_instance namespace names m moved owns g env i is a added =
    let w = split laws namespace names m moved owns g in
    let types = types_moved laws namespace names m moved owns g in
    let last = imports_them_last namespace names m moved owns g (holds laws namespace names m moved owns g) in
    let first : (k : Inst) × (i ∷ [] ≡ k ∷ []) × IsInst env (one m) 0 m k = search (arith, is) in
    let same_first : i ≡ first.0 = one_of i first.0 first.1 in
    let x = and_then_is (primary_added env (stubbed w m.imports types)) (λ a. Some (placeholders_in env w a)) a (sym (stubs env w m.imports types last) ∙ added) in
    let same : x.0.inst ≡ a.inst = ap (λ (a : Added). a.inst) (same_Some (placeholders_in env w x.0) a x.2) in
    let made = has_instance env (stubbed w m.imports types) refl x.0 x.1 in
    let second : (k : Inst) × (x.0.inst ∷ [] ≡ k ∷ []) × IsInst env (one (Q laws namespace names m moved owns g)) 0 (Q laws namespace names m moved owns g) k = search (arith, made) in
    let same_second : x.0.inst ≡ second.0 = one_of x.0.inst second.0 second.1 in
    subst (λ i. InstancesAreRelated env m moved i a.inst) (sym same_first) (subst (InstancesAreRelated env m moved first.0) (sym same_second ∙ same) (from_insts laws namespace names m moved owns g env first.0 second.0 first.2 second.2))
  where
    one_of : (x y : Inst) → x ∷ [] ≡ y ∷ [] → x ≡ y
    one_of x y e = cc
