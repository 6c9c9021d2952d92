-- The functions that the quiet run has at first correspond to those at their addresses in an
-- environment: an imported one is the environment's own function of the same pair and type, and a
-- defined one has the same code over both instances.
use Rattle.base_lists.proofs.Common.{◌≡◌, ◌∙◌, sym, ap, ap₂, subst, refl, ℕ, suc, ◌+◌, ◌<◌, List, [], ◌∷◌, ◌++◌, map, length, true, Option, Some, is_some, inl, inr, arith, slice_get, option_and_then, cons_option, filter_map, ltb-true, and_parts, length-append, same_Some, chosen_from, place_of}
use Rattle.base_lists.proofs.Common.{places_many, length-numbers, all_there_at, and_then_is, append_at_left, append_from, append_right, slice_get_there, all_there_back, length-map, both_at, opt_both}
use Rattle.std.specs.Prelude.{unwrap_or}
use Rattle.wasm_tree_spec.specs.Prelude.{Functions, same_space, FuncType, Import, ImportDesc, Module, func_of, funcs_of, imported_funcs, space_of_import}
use Rattle.wasm_tree.specs.declared.module.ImportDesc.TheVariants as im
use Rattle.wasm_tree.specs.declared.module.Func as tree
use Rattle.wasm_meaning.specs.Prelude.{Pair, Inst, Func, Own, Store, has_kind, imports_of, pair_of, Environment, FuncKey, owned_at, owned_of, own_funcs, address_of, imported_external_value, joined_stores, new_func, own_store}
use Rattle.run_simulation.specs.Prelude.{BothRel, FuncRel, own}
use Rattle.index_remap_proof.specs.Indices.{ImportNamesOnly, TreeNamesOnly, with_entry}
use Rattle.world_simulation.specs.Prelude.{key_in, one, site, external_value_in, FuncsCorrespond, AddsWith, SpaceEntry, IsInst, defines, import_address, imports}
use Rattle.world_simulation.proofs.AllocatedStores.{func_rel}
use Rattle.eval_spec.specs.Prelude.{imported_func, imported_store, own_inst, value_in}
use Rattle.eval_proof.specs.KnownQuietSteps.{FuncsOf, IsCodeOf}
use Rattle.eval_snapshot_proof.proofs.AddedFunctions.{with_funcs}
use Rattle.eval_snapshot_proof.proofs.NamedIndices.{NamingLaws, below, each_index}
use Rattle.eval_snapshot_proof.proofs.EnvironmentFunctions.{own_found}
use Rattle.eval_snapshot_proof.proofs.IndexRelation.{named}
use Rattle.eval_snapshot_proof.proofs.Counterparts.{R, body_alike, value_there}

-- An element of the second of two lists is found in the joined list, behind the elements of the
-- first.
pub behind : {A : Type 0} (xs ys : List A) (n c j : ℕ) → length xs ≡ c → n ≡ c + j → slice_get (xs ++ ys) n ≡ slice_get ys j
behind xs ys n c j size e = let at : n ≡ length xs + j = omega (arith, size, e) in ap (slice_get (xs ++ ys)) at ∙ append_right xs ys j

module _ (m : Module) where
  -- The type that an imported function gets if the module does not have its type.
  abbrev none_named : FuncType
  none_named = record { params = []; results = [] }

  abbrev by_pair : Pair → ImportDesc → Option Func
  by_pair pair d = option_and_then (λ ty. Some (Own pair (unwrap_or (slice_get m.types ty) none_named))) (func_of d)

  abbrev chosen : Import → Option Func
  chosen i = by_pair (pair_of i) i.desc

  module _ (names_only : TreeNamesOnly (with_entry (each_index m)) m) where
    desc_same : (pair : Pair) (d : ImportDesc) → ImportNamesOnly (with_entry (each_index m)) d →
        option_and_then (λ ty. option_and_then (λ t. Some (Own pair t)) (slice_get m.types ty)) (func_of d) ≡ by_pair pair d
    desc_same pair (im.Func ty) h = let t = slice_get_there m.types ty (below (length m.types) ty h) in rw t.1 refl
    desc_same pair (im.Table t) h = refl
    desc_same pair (im.Memory l) h = refl
    desc_same pair (im.Global t) h = refl

    chosen_same : (is : List Import) → ((n : ℕ) (x : Import) → slice_get is n ≡ Some x → ImportNamesOnly (with_entry (each_index m)) x.desc) → filter_map (imported_func m) is ≡ filter_map chosen is
    chosen_same [] h = refl
    chosen_same (x ∷ is) h = ap₂ (λ o l. cons_option o l) (desc_same (pair_of x) x.desc (h 0 x refl)) (chosen_same is (λ n. h (suc n)))

    all_chosen : filter_map (imported_func m) m.imports ≡ filter_map chosen m.imports
    all_chosen = chosen_same m.imports names_only.imports

    desc_kind : (pair : Pair) (d : ImportDesc) → is_some (by_pair pair d) ≡ same_space Functions (space_of_import d)
    desc_kind pair (im.Func ty) = refl
    desc_kind pair (im.Table t) = refl
    desc_kind pair (im.Memory l) = refl
    desc_kind pair (im.Global t) = refl

    pub imported_many : length (imported_store m).funcs ≡ length (imports_of Functions m)
    imported_many = ap length all_chosen ∙ sym (places_many (has_kind Functions) chosen m.imports (λ x. desc_kind (pair_of x) x.desc) 0)

    module _ (env : Environment) (fs : List tree.Func) (i : Inst) (is : IsInst env (one (with_funcs m fs)) 0 (with_funcs m fs) i) (quiet there : Store) (q : AddsWith (value_in m) m (own_inst m) quiet)
        (t : AddsWith (value_there env m fs i is) (with_funcs m fs) i there) where
      abbrev first : Store
      first = joined_stores (imported_store m) quiet

      abbrev second : Store
      second = joined_stores (own_store env) there

      -- ---- imported ones ----

      import_related : (n a p : ℕ) → slice_get (imports_of Functions m) n ≡ Some p → import_address env (one (with_funcs m fs)) Functions 0 p ≡ Some a →
          BothRel (FuncRel (R env m fs i is)) (slice_get first.funcs n) (slice_get second.funcs a)
      import_related n a p h address =
          let c = place_of (has_kind Functions) chosen m.imports (λ x. desc_kind (pair_of x) x.desc) 0 n p h in
          go c.0 c.1 c.2 c.3 c.4 c.5 c.1.desc refl
        where
          go : (k : ℕ) (x : Import) → p ≡ 0 + k → slice_get m.imports k ≡ Some x → has_kind Functions x ≡ true → slice_get (filter_map chosen m.imports) n ≡ chosen x → (d : ImportDesc) →
              x.desc ≡ d → BothRel (FuncRel (R env m fs i is)) (slice_get first.funcs n) (slice_get second.funcs a)
          go k x e at kind here (im.Func ty) d =
              let low = below (length m.types) ty (subst (ImportNamesOnly (with_entry (each_index m))) d (names_only.imports k x at)) in
              let u = slice_get_there m.types ty low in
              let same : chosen x ≡ Some (Own (pair_of x) u.0) = ap (by_pair (pair_of x)) d ∙ ap (λ o. Some (Own (pair_of x) (unwrap_or o none_named))) u.1 in
              let stands : slice_get first.funcs n ≡ Some (Own (pair_of x) u.0) = append_at_left (imported_store m).funcs quiet.funcs n _ (ap (λ l. slice_get l n) all_chosen ∙ here ∙ same) in
              let thing = and_then_is (imported_external_value env (one (with_funcs m fs)) (site p)) (address_of Functions) a address in
              let import_at : slice_get m.imports p ≡ Some x = let z : p ≡ k = omega (arith, e) in ap (slice_get m.imports) z ∙ at in
              let key : external_value_in env m.types (Some x) ≡ owned_at (owned_of env) (FuncKey (pair_of x) u.0) =
              ap (λ d. option_and_then (λ key. owned_at (owned_of env) key) (key_in m.types (pair_of x) d)) d
              ∙ ap (λ o. option_and_then (λ key. owned_at (owned_of env) key) (option_and_then (λ t. Some (FuncKey (pair_of x) t)) o)) u.1 in
              let denoted : imported_external_value env (one (with_funcs m fs)) (site p) ≡ external_value_in env m.types (slice_get m.imports p) = grind arith in
              let f = own_found (pair_of x) u.0 env thing.0 (sym key ∙ ap (external_value_in env m.types) (sym import_at) ∙ sym denoted ∙ thing.1) in
              let addressed : Some (0 + f.place) ≡ Some a = sym (ap (address_of Functions) f.thing) ∙ thing.2 in
              let place_is = same_Some (0 + f.place) a addressed in
              let z : a ≡ f.place = omega (arith, place_is) in
              let owned : slice_get second.funcs a ≡ Some (Own (pair_of x) u.0) = append_at_left (own_funcs env) there.funcs a _ (ap (slice_get (own_funcs env)) z ∙ f.own) in
              both_at first.funcs second.funcs n a _ _ stands owned own
          go k x e at kind here (im.Table u) d = absurd (let f = ap (λ d. same_space Functions (space_of_import d)) (sym d) ∙ kind in cc)
          go k x e at kind here (im.Memory u) d = absurd (let f = ap (λ d. same_space Functions (space_of_import d)) (sym d) ∙ kind in cc)
          go k x e at kind here (im.Global u) d = absurd (let f = ap (λ d. same_space Functions (space_of_import d)) (sym d) ∙ kind in cc)

      -- ---- defined ones ----

      defined_related : (n a j : ℕ) → n ≡ length (imports_of Functions m) + j → j < length m.funcs → a ≡ length (own_funcs env) + j →
          BothRel (FuncRel (R env m fs i is)) (slice_get first.funcs n) (slice_get second.funcs a)
      defined_related n a j e low d =
          let f = slice_get_there m.funcs j low in
          let y = all_there_at (new_func (own_inst m)) m.funcs quiet.funcs q.funcs j f.0 f.1 in
          let z = all_there_at (new_func i) (with_funcs m fs).funcs there.funcs t.funcs j f.0 (append_at_left m.funcs fs j f.0 f.1) in
          let correspond : FuncsCorrespond (R env m fs i is) (own_inst m) i f.0 f.0 =
          record { type = ap (λ ts. slice_get ts f.0.ty) (sym is.types); locals = refl; code = body_alike env m fs i is f.0 (names_only.funcs j f.0 f.1) } in
          let related = opt_both (func_rel (R env m fs i is) correspond) y.1 z.1 in
          both_at first.funcs second.funcs n a y.0 z.0 (behind (imported_store m).funcs quiet.funcs n (length (imports_of Functions m)) j imported_many e ∙ y.2)
          (behind (own_funcs env) there.funcs a (length (own_funcs env)) j refl d ∙ z.2) related

      -- ---- all of them ----

      pub funcs_related : NamingLaws → (n a : ℕ) → (R env m fs i is).of Functions n a → BothRel (FuncRel (R env m fs i is)) (slice_get first.funcs n) (slice_get second.funcs a)
      funcs_related laws n a r = by (laws.indices env (one (with_funcs m fs)) Functions 0 (with_funcs m fs) i.funcs
          (laws.spaces env (one (with_funcs m fs)) Functions 0 (with_funcs m fs) i.funcs is.funcs) n a (named m i Functions n a r))
        where
          few : n < length (funcs_of m)
          few =
              let l = ltb-true n (length (own_inst m).funcs) ((and_parts _ _ ((and_parts _ _ r).0)).0) in
              let e = length-numbers 0 (length (funcs_of m)) in
              omega (arith, l, e)

          by : SpaceEntry env (one (with_funcs m fs)) Functions 0 (with_funcs m fs) n a → BothRel (FuncRel (R env m fs i is)) (slice_get first.funcs n) (slice_get second.funcs a)
          by (imports p h address) = import_related n a p h address
          by (defines j e low d) =
              let l = few in
              let c : length (imports_of Functions m) ≡ length (imported_funcs m.imports) = places_many _ _ m.imports (grind arith) 0 in
              let f = length-append (imported_funcs m.imports) (map (λ f. f.ty) m.funcs) in
              let g = length-map m.funcs (λ f. f.ty) in
              defined_related n a j e (omega (arith, l, e, c, f, g)) (omega (arith, d))

    -- ---- their code is of the one instance ----

    pub code_of : (quiet : Store) → AddsWith (value_in m) m (own_inst m) quiet → FuncsOf (own_inst m) (joined_stores (imported_store m) quiet).funcs
    code_of quiet q a f h = elim (append_from (imported_store m).funcs quiet.funcs a f h) [
      | inl e ↦
          let x = chosen_from (imported_func m) m.imports a f e in
          let ty = and_then_is (func_of x.0.desc) _ f x.2 in
          let t = and_then_is (slice_get m.types ty.0) (λ t. Some (Own (pair_of x.0) t)) f ty.2 in
          subst (IsCodeOf (own_inst m)) (same_Some (Own (pair_of x.0) t.0) f t.2) tt
      | inr j ↦
          let x = all_there_back (new_func (own_inst m)) m.funcs quiet.funcs q.funcs j.0 f j.2 in
          let t = and_then_is (slice_get m.types x.0.ty) _ f x.2 in
          subst (IsCodeOf (own_inst m)) (same_Some _ f t.2) refl
    ]
