-- A loader begins as one whose primary module has functions of its own in place of the
-- placeholders.
use Rattle.world_simulation.specs.Prelude.{external_value_in}
use Rattle.base_lists.proofs.Common.{◌≡◌, ℕ, suc, ◌+◌, List, [], ◌∷◌, ◌++◌, map, length, Option, Some, None, true, cond, refl, ap, arith, append_assoc, append-nil, slice_get, length-append, length-map, add-zero, same_Some, filter_map-append, numbers_append, append_right, opt_self, add_next}
use Rattle.base_lists.proofs.Common.{each_same_self}
use Rattle.base_lists.specs.Every.{Every}
use Rattle.base_lists.specs.Options.{◌>>=◌}
use Rattle.wasm_tree_spec.specs.Prelude.{Space, same_space, same_type, same_func_type, Functions, FuncType, Unreachable, ConstExpr, Import, Module}
use Rattle.wasm_meaning.specs.Prelude.{Pair, Val, Inst, Func, Code, Store, declared, Environment, ExternalValue, FuncAt, owned_of, own_funcs, own_globals, all_there, own_count, numbers, const_value, new_func, store_with, joined_stores, own_store, is_match, Added, added, added_as, addresses_of}
use Rattle.wasm_meaning.specs.Prelude.{all_match, next_inst, own_segments, LoaderWorld, placeholders_of, placeholders_from, store_under, slot_of, supplied}
use Rattle.wasm_meaning.specs.Sequential.{own_external_value}
use Rattle.run_simulation.specs.Prelude.{StoreRel}
use Rattle.world_simulation.specs.DefinedPlaceholders.{ArePlaceholders, ImportsThemLast, stub, stubbed, placeholders_in, LoadersAddAsStubbed, LoadersBeginAsStubbed}
use Rattle.world_simulation.proofs.AddedModules.{joined_right}
use Rattle.world_simulation.proofs.OneModuleWorlds.{thing_rel, match_same}
use Rattle.world_simulation.proofs.EntityDenotations.{R, shares, own_like}
use Rattle.world_simulation.specs.FunctionIndependence.{SegmentsIgnoreFunctions, SegmentsKeepFunctions}
use Rattle.std.proofs.Common.{add-suc}
use lib.Seq.{drop-append_seam, drop-append-add}

-- The results for two lists joined are the results for each, joined.
there_both : {A B : Type 0} (f : A → Option B) (xs ys : List A) → all_there f (xs ++ ys) ≡ all_there f xs >>= λ a. all_there f ys >>= λ b. Some (a ++ b)
there_both f [] ys = grind arith
there_both f (x ∷ xs) ys = grind (arith, there_both f xs ys)

pub placeholders_many : (n : ℕ) (ps : List (Pair × FuncType)) → length (placeholders_from n ps) ≡ length ps
placeholders_many n [] = refl
placeholders_many n (p ∷ ps) = ap suc (placeholders_many (suc n) ps)

-- Functions have addresses in no other index space.
of_functions : (k : Space) (xs : List ℕ) → addresses_of k (map FuncAt xs) ≡ cond (same_space k Functions) xs []
of_functions k [] = grind arith
of_functions k (x ∷ xs) = grind (arith, of_functions k xs)

-- The stub of a placeholder, as it is allocated in an instance.
abbrev stub_in : Inst → Pair × FuncType → Func
stub_in i q = Code q.1 i (declared []) (Unreachable ∷ [])

module _ (kept : SegmentsKeepFunctions) (ignored : SegmentsIgnoreFunctions) (env : Environment) (w : LoaderWorld) (others : List Import) (tys : List ℕ) (last : ImportsThemLast w others tys) where
  -- The primary module, and the module with stubs in place of the placeholders.
  abbrev P : Module
  P = w.primary

  abbrev Q : Module
  Q = (stubbed w others tys).primary

  abbrev ps : List (Pair × FuncType)
  ps = placeholders_of w

  -- The store to which the primary module is added.
  abbrev first : Store
  first = store_under env w

  -- The functions from this address on, one for each of these placeholders.
  abbrev functions : ℕ → List (Pair × FuncType) → List ExternalValue
  functions a qs = map FuncAt (numbers a (length qs))

  -- ---- the imports of placeholders ----

  -- The imports of the placeholders from slot `n` on denote the functions from address `a` on and
  -- match them, and each has its stub.
  record Placed (a n : ℕ) (is : List Import) (qs : List (Pair × FuncType)) (ts : List ℕ) : Type 0 where
    denote : all_there (supplied env w) is ≡ Some (functions a qs)
    match : ((k : ℕ) → slice_get first.funcs (a + k) ≡ slice_get (placeholders_from n qs) k) → all_match first P is (functions a qs) ≡ true
    many : length ts ≡ length qs
    are_stubs : (i : Inst) → i.types ≡ P.types → all_there (new_func i) (map stub ts) ≡ Some (map (stub_in i) qs)

  placed : (n : ℕ) (is : List Import) (qs : List (Pair × FuncType)) (ts : List ℕ) → ArePlaceholders w n is qs ts → Placed (own_count Functions env + n) n is qs ts
  placed n [] [] [] h = record { denote = refl; match = λ there. refl; many = refl; are_stubs = λ i types. refl }
  placed n (i ∷ is) (q ∷ qs) (t ∷ ts) (d, at, typed, rest) =
      let more = rw add-suc at (placed (suc n) is qs ts rest) in
      let self : same_func_type q.1 q.1 ≡ true = simp (each_same_self same_type (λ a. grind arith)) in
      record {
        denote = rw (at, more.denote);
        match = λ there. rw (d, typed, rw add-zero at (there 0), self) (more.match (λ k. rw add_next at (there (suc k))));
        many = ap suc more.many;
        are_stubs = λ i types. rw (types, typed, more.are_stubs i types);
      }
  placed n _ _ _ h = absurd h

  slots : Placed (own_count Functions env) 0 last.slots ps tys
  slots = rw add-zero at (placed 0 last.slots ps tys last.placeholders)

  -- ---- the other imports ----

  supplied_own : (is : List Import) → Every (λ i. slot_of w i ≡ None) is → all_there (supplied env w) is ≡ all_there (own_external_value (owned_of env) Q) is
  supplied_own [] h = refl
  supplied_own (i ∷ is) h = grind (arith, h.0, supplied_own is h.1)

  like : StoreRel (R env) (own_store env) first
  like = simp append-nil at (joined_right (R env) (record { funcs = placeholders_from 0 ps; tables = []; mems = []; globals = []; elems = []; datas = [] }) (own_like env))

  matches_one : (i : Import) (x : ExternalValue) → own_external_value (owned_of env) Q i ≡ Some x → is_match first P i.desc x ≡ is_match (own_store env) Q i.desc x
  matches_one i x is =
      let there : external_value_in env Q.types (Some i) ≡ Some x = grind (arith, is) in
      grind (arith, match_same (R env) env (shares env) (own_store env) first like Q Q refl refl i.desc (opt_self (thing_rel (R env) env (shares env) Q.types (Some i)) there))

  -- What all imports denote, if those other than placeholders denote `xs`.
  abbrev behind : List ExternalValue → List ExternalValue
  behind xs = xs ++ functions (own_count Functions env) ps

  matches : (is : List Import) (xs : List ExternalValue) → all_there (own_external_value (owned_of env) Q) is ≡ Some xs → all_match first P (is ++ last.slots) (behind xs) ≡ all_match (own_store env) Q is xs
  matches [] xs h = rw (← same_Some _ _ h) (slots.match (append_right (own_funcs env) (placeholders_from 0 ps)))
  matches (i ∷ is) xs h = grind (arith, matches_one i, matches is)

  -- ---- the instance and the store ----

  same_inst : (xs : List ExternalValue) → next_inst first P (behind xs) ≡ next_inst (own_store env) Q xs
  same_inst xs = simp (filter_map-append, of_functions, append-nil, append_assoc, length-append, length-map, placeholders_many, slots.many, numbers_append)

  module _ (i : Inst) (types : i.types ≡ P.types) where
    abbrev value : ConstExpr → Option Val
    value = const_value (own_globals env) i

    -- What the module with stubs adds to the store, if the primary module adds this.
    abbrev with_stubs : Option Store → Option Store
    with_stubs o = o >>= λ t. Some (record t { funcs = map (stub_in i) ps ++ t.funcs })

    -- The result of adding the module `m` to the store `s`, if what it defines is this.
    abbrev filled_in : Store → Module → Option Store → Option Added
    filled_in s m o = o >>= λ t. Some (record { inst = i; filled = own_segments value m i (joined_stores s t) })

    -- The placeholders are at the addresses of the stubs.
    in_place : (o : Option Store) → filled_in first P o ≡ filled_in (own_store env) Q (with_stubs o) >>= λ a. Some (placeholders_in env w a)
    in_place None = refl
    in_place (Some t) =
        let second : Store = joined_stores (own_store env) (record t { funcs = map (stub_in i) ps ++ t.funcs }) in
        rw (ignored ((own_funcs env ++ placeholders_from 0 ps) ++ t.funcs) value Q i second, kept value Q i second, drop-append-add, ← length-map ps (stub_in i), drop-append_seam, append_assoc)

    same_added : added_as first P i ≡ added_as (own_store env) Q i >>= λ a. Some (placeholders_in env w a)
    same_added =
        let stores : store_with value Q i ≡ with_stubs (store_with value P i) = rw (there_both, slots.are_stubs i types) (grind arith) in
        rw stores (in_place (store_with value P i))

  -- ---- the module that is added ----

  added_same : (xs : List ExternalValue) → all_there (own_external_value (owned_of env) Q) others ≡ Some xs → added first P (behind xs) ≡ added (own_store env) Q xs >>= λ a. Some (placeholders_in env w a)
  added_same xs h = rw (ap (λ is. all_match first P is (behind xs)) last.all, matches others xs h, same_inst xs, same_added (next_inst (own_store env) Q xs) refl) (grind arith)

  -- What all imports of the primary module denote.
  denoted : all_there (supplied env w) P.imports ≡ all_there (own_external_value (owned_of env) Q) others >>= λ xs. Some (behind xs)
  denoted = rw (last.all, there_both, supplied_own others last.own, slots.denote)

module _ (kept : SegmentsKeepFunctions) (ignored : SegmentsIgnoreFunctions) where
  pub add_as_stubbed : LoadersAddAsStubbed
  add_as_stubbed env w others tys last = rw (denoted kept ignored env w others tys last, append-nil (own_funcs env)) (grind (arith, added_same kept ignored env w others tys last))

  pub begin_as_stubbed : LoadersBeginAsStubbed
  begin_as_stubbed env w others tys last = rw (add_as_stubbed env w others tys last) (grind arith)
