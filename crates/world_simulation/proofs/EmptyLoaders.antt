-- A loader that supplies nothing begins as its primary module alone is instantiated.
use Rattle.base_lists.proofs.Common.{◌≡◌, ℕ, suc, ◌+◌, List, [], ◌∷◌, ◌++◌, map, length, filter, filter_map, Option, Some, None, is_some, Bool, true, false, cond, refl, sym, ap₂, ◌∙◌, arith, append-nil, add-zero, zero-add, slice_get, unwrap_or, fun_ext, add_next}
use Rattle.base_lists.proofs.Filtered.{at_places, chosen_twice}
use Rattle.base_lists.specs.Options.{◌>>=◌}
use Rattle.wasm_tree_spec.specs.Prelude.{Space, Functions, Tables, Memories, Globals, ConstExpr, Import, ImportDesc, ExportDesc, Module, space_of_import, same_space}
use Rattle.wasm_tree.specs.declared.module.ImportDesc.TheVariants as im
use Rattle.wasm_meaning.specs.Prelude.{Text, Val, Inst, Store, Site, PlacedSegment, has_kind, sites, sites_in, Environment, ExternalValue, owned_of, own_globals, all_of, Filled, all_there, address_of, address_in, own_count, defined_count, numbers, const_value, value_of, joined_stores, own_store}
use Rattle.wasm_meaning.specs.Prelude.{is_match, is_matched, run_elem_with, run_data_with, and_then, one_by_one, segments, space, instantiate, all_match, addresses_of, added_as, own_segments, next_inst, LoaderWorld, placeholders_of, primary_added, store_under, supplied, begun_of, start_in}
use Rattle.wasm_meaning.specs.Prelude.{imported_external_value}
use Rattle.wasm_meaning.specs.World as world
use Rattle.wasm_meaning.specs.Sequential.{own_external_value}
use Rattle.world_simulation.specs.Prelude.{one, site, import_address}
use Rattle.world_simulation.specs.EmptyLoaders.{LoadersHaveTheirPrimarysInstance, primary_world, LoadersBeginAsTheirPrimary}
use Rattle.world_simulation.proofs.AddedModules.{joined_right}
use Rattle.world_simulation.specs.ConstantValues.{ConstantsAloneReadTheEnvironment}
use Rattle.world_simulation.proofs.EntityDenotations.{R, shares, own_like}
use Rattle.world_simulation.proofs.OneModuleWorlds.{all_matched}

-- ---- what imports denote ----

-- An import's kind is that of each external value that matches it.
kinds : (s : Store) (m : Module) (d : ImportDesc) (x : ExternalValue) (k : Space) → is_match s m d x ≡ Some true → same_space k (space_of_import d) ≡ is_some (address_of k x)
kinds s m (im.Func ty) x k h = grind arith
kinds s m (im.Table t) x k h = grind arith
kinds s m (im.Memory l) x k h = grind arith
kinds s m (im.Global t) x k h = grind arith

-- A test of all places of imports is a test of all imports.
all_at : {A : Type 0} (at_site : Site → Bool) (test : A → Bool) (xs : List A) (n : ℕ) → ((k : ℕ) (x : A) → slice_get xs k ≡ Some x → at_site (site (n + k)) ≡ test x) → all_of at_site (sites_in 0 (length xs) n ++ []) ≡ all_of test xs
all_at at_site test [] n h = refl
all_at at_site test (x ∷ xs) n h = rw (← h 0 x refl, add-zero, all_at at_site test xs (suc n) (λ k y e. rw add_next at (h (suc k) y e)))

-- Segments of the only part are copied with the values of that part.
all_copied : {A : Type 0} (run : (ConstExpr → Option Val) → Store → PlacedSegment A → Filled) (value : ℕ → ConstExpr → Option Val) (i : Inst) (ns : List ℕ) (xs : List A) (s : Store) →
    one_by_one (λ s task. run (value task.part) s task) s (world.segments_in 0 i ns xs ++ []) ≡ one_by_one (run (value 0)) s (world.segments_in 0 i ns xs)
all_copied run value i (n ∷ ns) (x ∷ xs) s = grind (arith, all_copied run value i ns xs)
all_copied run value i _ _ s = refl

-- If `test` tells for which fitting items `choose` has a result, and all items fit, then all that
-- pass `test` have a result, and these are the results for the whole list.
chosen_there : {A B : Type 0} (fits test : A → Bool) (choose : A → Option B) → ((x : A) → fits x ≡ true → test x ≡ is_some (choose x)) → (xs : List A) → all_of fits xs ≡ true → all_there choose (filter test xs) ≡ Some (filter_map choose xs)
chosen_there fits test choose tells [] h = refl
chosen_there fits test choose tells (x ∷ xs) h = grind (arith, tells x, chosen_there fits test choose tells xs)

module _ (env : Environment) (m : Module) where
  -- The external value that the environment has under the name of an import.
  abbrev own : Import → Option ExternalValue
  own = own_external_value (owned_of env) m

  -- Whether the environment has an external value under the name of an import, and this matches.
  abbrev fits : Import → Bool
  fits i = unwrap_or (own i >>= is_match (own_store env) m i.desc) false

  -- The instance of the module over the environment's own entities.
  abbrev next : Inst
  next = next_inst (own_store env) m (filter_map own m.imports)

  -- An import of the module alone denotes what the environment has under its name.
  import_is : (n : ℕ) (i : Import) → slice_get m.imports n ≡ Some i → imported_external_value env (one m) (site n) ≡ own i
  import_is n i h = grind arith

  -- Whether all imports match does not depend on what is allocated after the environment's own
  -- entities.
  matched_is : (t : Store) → all_of (is_matched env (one m) (joined_stores (own_store env) t)) (sites (one m)) ≡ all_of fits m.imports
  matched_is t =
      sym (all_matched (R env) env (shares env) (own_store env) _ (joined_right (R env) t (own_like env)) m m refl refl)
      ∙ all_at _ fits m.imports 0 (λ n i h. rw (zero-add, import_is n i h, h))

  -- The result of `f` on what the imports denote is there if all imports fit, and otherwise there
  -- is none.
  fitting : {B : Type 0} (is : List Import) (f : List ExternalValue → Option B) → (all_there own is >>= λ xs. cond (all_match (own_store env) m is xs) (f xs) None) ≡ cond (all_of fits is) (f (filter_map own is)) None
  fitting [] f = refl
  fitting (i ∷ is) f = grind (arith, λ (x : ExternalValue). fitting is (λ xs. f (x ∷ xs)))

  -- The kind of a matching import is that of what it denotes.
  kind_is : (k : Space) (i : Import) → fits i ≡ true → has_kind k i ≡ is_some (own i >>= address_of k)
  kind_is k i h = grind (arith, kinds (own_store env) m i.desc)

  -- The world of the module alone has this one instance, if all imports match.
  module _ (h : all_of fits m.imports ≡ true) where
    space_there : (k : Space) → space env (one m) k 0 m ≡ Some (addresses_of k (filter_map own m.imports) ++ numbers (own_count k env) (defined_count k m))
    space_there k =
        let address : Import → Option ℕ = λ i. own i >>= address_of k in
        rw (add-zero, at_places (has_kind k) address m.imports 0 (import_address env (one m) k 0) (λ n i h. rw (zero-add, import_is n i h)), chosen_there fits (has_kind k) address (kind_is k) m.imports h, chosen_twice)

    inst_there : world.inst_of env (one m) 0 m ≡ Some next
    inst_there = rw (space_there Functions, space_there Tables, space_there Memories, space_there Globals)

    -- The constant expressions of the instance have the same values as in a module that is added,
    -- and its segments are copied alike.
    values_same : ConstantsAloneReadTheEnvironment → value_of env (one m) (next ∷ []) 0 ≡ const_value (own_globals env) next
    values_same values = fun_ext (values env m next (search (arith, inst_there)))

    segments_same : ConstantsAloneReadTheEnvironment → (s : Store) → segments env (one m) (next ∷ []) s ≡ own_segments (const_value (own_globals env) next) m next s
    segments_same values s =
        let value = value_of env (one m) (next ∷ []) in
        rw (← values_same values) (ap₂ and_then (all_copied (λ v s task. run_elem_with v s task task.segment.mode) value next next.elems m.elems s)
        (fun_ext (all_copied (λ v s task. run_data_with v s task task.segment.mode) value next next.datas m.datas)))

-- ---- the law ----

-- The view of the loader is that of the world.
seen : (i : Inst) (view : List (Text × ExportDesc)) → all_there (world.seen_as (i ∷ [])) (map (λ v. (v.0, record { part = 0; what = v.1 })) view) ≡ all_there (λ v. address_in i v.1 >>= λ x. Some (v.0, x)) view
seen i [] = refl
seen i (v ∷ view) = rw (seen i view)

nothing_supplied : (env : Environment) (w : LoaderWorld) → placeholders_of w ≡ [] → (i : Import) → supplied env w i ≡ own_external_value (owned_of env) w.primary i
nothing_supplied env w none i = rw none

store_is : (env : Environment) (w : LoaderWorld) → placeholders_of w ≡ [] → store_under env w ≡ own_store env
store_is env w none = rw (none, append-nil)

then_made : {A B C : Type 0} (o : Option A) (make : A → B) (f : B → Option C) → o >>= (λ a. Some (make a)) >>= f ≡ o >>= λ a. f (make a)
then_made None make f = refl
then_made (Some a) make f = refl

none_after : {A B : Type 0} (o : Option A) → ◌>>=◌ {B = B} o (λ a. None) ≡ None
none_after None = refl
none_after (Some a) = refl

module _ (env : Environment) (w : LoaderWorld) where
  abbrev m : Module
  m = w.primary

  -- A primary module without placeholders is added after the environment's own entities, if all its
  -- imports fit.
  added_is : placeholders_of w ≡ [] → primary_added env w ≡ cond (all_of (fits env m) m.imports) (added_as (own_store env) m (next env m)) None
  added_is none = rw (fun_ext (nothing_supplied env w none), store_is env w none) (fitting env m m.imports (λ xs. added_as (own_store env) m (next_inst (own_store env) m xs)))

  -- The primary module that is instantiated alone begins as the one that is added.
  alone_is : ConstantsAloneReadTheEnvironment → (b : Bool) → all_of (fits env m) m.imports ≡ b → instantiate env (primary_world w) ≡ cond b (added_as (own_store env) m (next env m)) None >>= begun_of env w
  alone_is values false h = simp (then_made, matched_is env m, h, none_after)
  alone_is values true h = rw (inst_there env m h, values_same env m h values) (simp (then_made, seen, matched_is env m, h, segments_same env m h values, append-nil (start_in (next env m) m.start)))

pub begins_as_primary : ConstantsAloneReadTheEnvironment → LoadersBeginAsTheirPrimary
begins_as_primary values env w none = rw (added_is env w none) (sym (alone_is env w values _ refl))

-- The instance of the loader's primary module is that of the world of this module alone.
pub primary_inst : LoadersHaveTheirPrimarysInstance
primary_inst env w none a h = grind (arith, added_is env w none, inst_there env w.primary)
