-- A module and the same module with additional functions, in an environment: each index of the
-- first has the same address in the second, and constant expressions have the same values in both.
use Rattle.base_lists.proofs.Common.{◌≡◌, ◌∙◌, sym, ap, refl, add-zero, ℕ, ◌+◌, ◌≤◌, List, [], ◌∷◌, ◌++◌, map, length, Option, Some, None, inl, inr, arith, slice_get, option_and_then, length-append, length-numbers, all_there_length, places_many, same_Some, numbers_at, and_then_is, append_at_left}
use Rattle.base_lists.proofs.Common.{append_from, append_right, length-map, number_is}
use Rattle.base_lists.specs.Places.{numbers}
use Rattle.wasm_tree_spec.specs.Prelude.{Space, Types, Functions, Tables, Memories, Globals, ElementSegments, DataSegments, ConstExpr, Module, imported_funcs, imported_tables, imported_memories, imported_globals, funcs_of, tables_of, memories_of, globals_of}
use Rattle.wasm_tree.specs.declared.module.ConstExpr.TheVariants as const
use Rattle.wasm_tree.specs.declared.module.Func as tree
use Rattle.wasm_meaning.specs.Prelude.{Val, Ref, FuncRef, Inst, Environment, own_globals, defined_count, imported_external_value, imports_of, own_count, space, value_of, value_of_read, read_of}
use Rattle.world_simulation.specs.Prelude.{addresses, external_value_in, one, site, IsInst}
use Rattle.world_simulation.specs.ModulesAlone.{read_place, read_in}
use Rattle.eval_snapshot_spec.specs.Snapshot.{empty_func}
use Rattle.eval_snapshot_proof.specs.EvaluatedWorlds.{with_empty_func}

-- The module with additional functions, if any.
abbrev pub with_funcs : Module → List tree.Func → Module
with_funcs m fs = record m { funcs = m.funcs ++ fs }

-- ---- index spaces of a module alone ----

module _ (env : Environment) (t : Module) (k : Space) where
  -- The addresses of the imports, followed by those of the definitions.
  abbrev pub from_imports : Option (List ℕ) → Option (List ℕ)
  from_imports o = option_and_then (λ l. Some (l ++ numbers (own_count k env) (defined_count k t))) o

  pub space_from : (o : Option (List ℕ)) → addresses env t.types t.imports k ≡ o → space env (one t) k 0 t ≡ from_imports o
  space_from o h =
      let denoted : (n : ℕ) → imported_external_value env (one t) (site n) ≡ external_value_in env t.types (slice_get t.imports n) = λ n. grind arith in
      let is : space env (one t) k 0 t ≡ from_imports (addresses env t.types t.imports k) = simp (denoted, add-zero) in
      is ∙ ap from_imports h

-- ---- how many there are ----

module _ (env : Environment) (m : Module) (fs : List tree.Func) (i : Inst) (is : IsInst env (one (with_funcs m fs)) 0 (with_funcs m fs) i) where
  pub funcs_many : length i.funcs ≡ length (funcs_of m) + length fs
  funcs_many =
      let s : length i.funcs ≡ length (imports_of Functions m) + length (m.funcs ++ fs) = search (arith, is.funcs, length-append, length-numbers, all_there_length) in
      let e : length (imports_of Functions m) ≡ length (imported_funcs m.imports) = places_many _ _ m.imports (grind arith) 0 in
      let f = length-append (imported_funcs m.imports) (map (λ f. f.ty) m.funcs) in
      let g = length-map m.funcs (λ f. f.ty) in
      let k = length-append m.funcs fs in
      omega (arith, s, e, f, g, k)

  pub tables_many : length i.tables ≡ length (tables_of m)
  tables_many =
      let s : length i.tables ≡ length (imports_of Tables m) + length m.tables = search (arith, is.tables, length-append, length-numbers, all_there_length) in
      let e : length (imports_of Tables m) ≡ length (imported_tables m.imports) = places_many _ _ m.imports (grind arith) 0 in
      let f = length-append (imported_tables m.imports) m.tables in
      omega (arith, s, e, f)

  pub mems_many : length i.mems ≡ length (memories_of m)
  mems_many =
      let s : length i.mems ≡ length (imports_of Memories m) + length m.mems = search (arith, is.mems, length-append, length-numbers, all_there_length) in
      let e : length (imports_of Memories m) ≡ length (imported_memories m.imports) = places_many _ _ m.imports (grind arith) 0 in
      let f = length-append (imported_memories m.imports) m.mems in
      omega (arith, s, e, f)

  pub globals_many : length i.globals ≡ length (globals_of m)
  globals_many =
      let s : length i.globals ≡ length (imports_of Globals m) + length m.globals = search (arith, is.globals, length-append, length-numbers, all_there_length) in
      let e : length (imports_of Globals m) ≡ length (imported_globals m.imports) = places_many _ _ m.imports (grind arith) 0 in
      let f = length-append (imported_globals m.imports) (map (λ g. g.ty) m.globals) in
      let g = length-map m.globals (λ g. g.ty) in
      omega (arith, s, e, f, g)

module _ (env : Environment) (m : Module) where
  abbrev pub more : Module
  more = with_empty_func m

  -- ---- index spaces ----

  pub space_more : (k : Space) (xs : List ℕ) → space env (one m) k 0 m ≡ Some xs → (ys : List ℕ) × (space env (one more) k 0 more ≡ Some ys)
  space_more k xs h =
      let x = and_then_is (addresses env m.types m.imports k) _ xs (sym (space_from env m k _ refl) ∙ h) in
      (x.0 ++ numbers (own_count k env) (defined_count k more), space_from env more k (Some x.0) x.1)

  no_fewer : (k : Space) → defined_count k m ≤ defined_count k more
  no_fewer Types = omega arith
  no_fewer Functions = let e = length-append m.funcs (empty_func m ∷ []) in omega (arith, e)
  no_fewer Tables = omega arith
  no_fewer Memories = omega arith
  no_fewer Globals = omega arith
  no_fewer ElementSegments = omega arith
  no_fewer DataSegments = omega arith

  pub address_stays : (k : Space) (xs ys : List ℕ) → space env (one m) k 0 m ≡ Some xs → space env (one more) k 0 more ≡ Some ys → (n a : ℕ) → slice_get xs n ≡ Some a → slice_get ys n ≡ Some a
  address_stays k xs ys f g n a h =
      let x = and_then_is (addresses env m.types m.imports k) _ xs (sym (space_from env m k _ refl) ∙ f) in
      let y = and_then_is (addresses env m.types m.imports k) _ ys (sym (space_from env more k _ refl) ∙ g) in
      let both : x.0 ≡ y.0 = same_Some x.0 y.0 (sym x.1 ∙ y.1) in
      let first : x.0 ++ numbers (own_count k env) (defined_count k m) ≡ xs = cc in
      let second : y.0 ++ numbers (own_count k env) (defined_count k more) ≡ ys = cc in
      let stays : slice_get (x.0 ++ numbers (own_count k env) (defined_count k more)) n ≡ Some a =
      elim (append_from x.0 (numbers (own_count k env) (defined_count k m)) n a (ap (λ l. slice_get l n) first ∙ h)) [
        | inl e ↦ append_at_left x.0 (numbers (own_count k env) (defined_count k more)) n a e
        | inr j ↦
            let r = number_is (own_count k env) (defined_count k m) j.0 a j.2 in
            let l = r.0 in
            let few = no_fewer k in
            ap (slice_get (x.0 ++ numbers (own_count k env) (defined_count k more))) j.1 ∙ append_right x.0 (numbers (own_count k env) (defined_count k more)) j.0
            ∙ numbers_at (own_count k env) (defined_count k more) j.0 (omega (arith, l, few)) ∙ ap Some (sym r.1)
      ] in
      ap (λ l. slice_get l n) (sym second) ∙ ap (λ l. slice_get (l ++ numbers (own_count k env) (defined_count k more)) n) (sym both) ∙ stays

  -- ---- values of constant expressions ----

  module _ (i j : Inst) (a : IsInst env (one m) 0 m i) (b : IsInst env (one more) 0 more j) where
    read_in_both : (o : Option ℕ) (v : Val) → option_and_then (value_of_read (own_globals env) (i ∷ [])) (option_and_then (λ y. Some (record { part = 0; expr = const.Global y })) o) ≡ Some v →
        option_and_then (value_of_read (own_globals env) (j ∷ [])) (option_and_then (λ y. Some (record { part = 0; expr = const.Global y })) o) ≡ Some v
    read_in_both None v h = absurd (let k = h in cc)
    read_in_both (Some y) v h =
        let x = and_then_is (slice_get i.globals y) _ v h in
        rw (address_stays Globals i.globals j.globals a.globals b.globals y x.0 x.1) x.2

    pub value_stays : (e : ConstExpr) (v : Val) → value_of env (one m) (i ∷ []) 0 e ≡ Some v → value_of env (one more) (j ∷ []) 0 e ≡ Some v
    value_stays (const.I32 n) v h = h
    value_stays (const.I64 n) v h = h
    value_stays (const.Null t) v h = h
    value_stays (const.Func f) v h =
        let x = and_then_is (slice_get i.funcs f) (λ a. Some (Ref (FuncRef (Some a)))) v h in
        rw (address_stays Functions i.funcs j.funcs a.funcs b.funcs f x.0 x.1) x.2
    value_stays (const.Global n) v h =
        let first : read_of (one m) 0 (const.Global n) ≡ read_in m.imports (const.Global n) = grind arith in
        let second : read_of (one more) 0 (const.Global n) ≡ read_in m.imports (const.Global n) = grind arith in
        ap (option_and_then (value_of_read (own_globals env) (j ∷ []))) second
        ∙ read_in_both (read_place m.imports n) v (ap (option_and_then (value_of_read (own_globals env) (i ∷ []))) (sym first) ∙ h)
