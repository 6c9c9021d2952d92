-- The stores stay related where a secondary module is loaded, and the loaded functions are related
-- to the moved ones.
use Rattle.base_lists.proofs.Common.{◌≡◌, ◌∙◌, ap, sym, subst, refl, ℕ, ◌+◌, ◌-◌, List, [], ◌∷◌, ◌++◌, length, Option, Some, None, Bool, true, false, ◌&&◌, nat_eq, arith, slice_get, slice_index, option_and_then, IsTrue, list_any, eqb-true, ltb-true, list_any-append, same_Some, left_true, right_true}
use Rattle.base_lists.proofs.Common.{numbers_index, and_then_is, append_at_left, append_right, slice_get_there, has_right, left_either}
use Rattle.std.specs.Prelude.{unwrap_or}
use Rattle.base_lists.specs.Options.{◌>>=◌}
use Rattle.wasm_tree_spec.specs.Prelude.{Tables, FuncType, Call, I32Const, CallIndirect, Module, imported_funcs}
use Rattle.wasm_meaning.specs.Prelude.{Inst, Func, Code, Store, declared, type_of_func, own_of, type_at, Environment, own_count}
use Rattle.run_simulation.specs.Prelude.{Pairing, BothRel, both, StoreRel, CodeAt}
use Rattle.index_remap.specs.Renumbered as renumbered
use Rattle.run_simulation.specs.WiderRelations.{Allows, StoresStayRelated}
use Rattle.split_spec.specs.Prelude.{with_calls, secondary_call, secondary_map, slot_table}
use Rattle.split_proof.proofs.SecondarySpaces.{own_at as own_stands_at}
use Rattle.split_proof.proofs.DescribedSpaces.{func_holds}
use Rattle.split_proof.specs.SplitWorlds.{type_in}
use Rattle.split_proof.specs.Addresses.{calls_loaded, defined_address, is_partner, may_stand, moved_addresses, slot_table_address, split_pairing}
use Rattle.split_proof.specs.Loads.{IsLoaded}
use Rattle.split_proof.specs.LoadedCode.{loaded_from, LoadsKeepTheRelation}
use Rattle.split_proof.proofs.IndexEntries.{Laws, holds}
use Rattle.split_proof.proofs.LoadedFunctionCode.{moves, pair_there, code_related}
use Rattle.split_proof.proofs.SecondaryInstances.{own_can}

-- ---- stores ----

-- Two optional values stay related where the second keeps its value.
still : {A B : Type 0} {P : A → B → Type 0} {o : Option A} {p q : Option B} → ((b : B) → p ≡ Some b → q ≡ Some b) → BothRel P o p → BothRel P o q
still {P = P} h (both {a = a} {b = b} r) = subst (BothRel P (Some a)) (sym (h b refl)) (both r)

-- No address is a partner of the address of the slot table.
pub slot_table_alone : (env : Environment) (m : Module) (moved : List ℕ) (a : ℕ) → IsTrue (is_partner env m moved Tables a (slot_table_address env m)) → ⊥
slot_table_alone env m moved a h =
    let e = eqb-true a (slot_table_address env m) (left_true _ _ h) in
    let lt = ltb-true a (own_count Tables env + length m.tables) (right_true _ _ h) in
    omega (arith, e, lt)

module _ (env : Environment) (m : Module) (moved : List ℕ) (loaded : List (ℕ × ℕ)) (own : List ℕ) (before : ℕ) (j k : Inst) (slots_at : slice_get j.tables (slot_table m) ≡ Some (slot_table_address env m)) (s z t : Store) (load : IsLoaded m moved own before j k z t) where
  abbrev R : Pairing
  R = split_pairing env m moved loaded

  store_kept : StoreRel R s z → StoreRel R s t
  store_kept like = record {
    types = λ {a} {b} r. let f = func_there b refl (like.types r) in subst (λ o. BothRel (◌≡◌ {A = FuncType}) (type_at s a) (o >>= λ f. Some (type_of_func f))) (f.1 ∙ sym (load.earlier_funcs b f.0 f.1)) (like.types r);
    owns = λ {a} {b} r. let f = func_there b refl (like.types r) in like.owns r ∙ ap (λ o. o >>= own_of) (f.1 ∙ sym (load.earlier_funcs b f.0 f.1));
    funcs = λ {a} {b} r l. still (load.earlier_funcs b) (like.funcs r l);
    tables = λ {a} {b} r. still (λ u at. load.other_tables b u at (λ e. slot_table_alone env m moved a (subst (λ c. IsTrue (is_partner env m moved Tables a c)) (same_Some b (slot_table_address env m) (sym e ∙ slots_at)) r))) (like.tables r);
    mems = λ {a} {b} r. still (load.earlier_mems b) (like.mems r);
    globals = λ {a} {b} r. still (load.earlier_globals b) (like.globals r);
    elems = λ {a} {b} r. still (load.earlier_elems b) (like.elems r);
    datas = λ {a} {b} r. still (load.earlier_datas b) (like.datas r);
  }
    where
      func_there : (b : ℕ) {o p : Option FuncType} → type_at z b ≡ p → BothRel (◌≡◌ {A = FuncType}) o p → (f : Func) × (slice_get z.funcs b ≡ Some f)
      func_there b is (both {b = u} r) = let f = and_then_is (slice_get z.funcs b) _ u is in (f.0, f.1)

-- ---- more code ----

-- The pair of addresses is among those of the loaded functions.
abbrev is_loaded_at : ℕ → List (ℕ × ℕ) → ℕ → Bool
is_loaded_at a loaded c = list_any (λ p. nat_eq p.0 a && nat_eq p.1 c) loaded

more_loaded : (loaded more : List (ℕ × ℕ)) (j : Inst) (a n : ℕ) → calls_loaded loaded j a n ≡ true → calls_loaded (loaded ++ more) j a n ≡ true
more_loaded loaded more j a n h = by (slice_get j.funcs n) h
  where
    by : (o : Option ℕ) → unwrap_or (o >>= λ c. Some (is_loaded_at a loaded c)) false ≡ true → unwrap_or (o >>= λ c. Some (is_loaded_at a (loaded ++ more) c)) false ≡ true
    by None h = h
    by (Some c) h = list_any-append (λ p. nat_eq p.0 a && nat_eq p.1 c) loaded more ∙ left_either (is_loaded_at a loaded c) (is_loaded_at a more c) h

-- The code that may replace a call may still replace it after more functions are loaded.
pub allows_more : (env : Environment) (m : Module) (moved : List ℕ) (loaded more : List (ℕ × ℕ)) → Allows (may_stand env m moved loaded) (may_stand env m moved (loaded ++ more))
allows_more env m moved loaded more j a (I32Const slot ∷ (CallIndirect ty table ∷ [])) h = h
allows_more env m moved loaded more j a (Call n ∷ []) h = more_loaded loaded more j a n h
allows_more env m moved loaded more j a _ h = absurd (let k = h in cc)

-- ---- the law ----

pub loads_keep : Laws → StoresStayRelated → LoadsKeepTheRelation
loads_keep laws wider namespace names m moved owns g env i j alike own before slots loaded s z t k load first like =
    let all = loaded ++ loaded_from env m own (length z.funcs) in
    record {
      store = wider (is_partner env m moved) (is_partner env m moved) (moved_addresses env m moved) (may_stand env m moved loaded) (may_stand env m moved all) (allows_more env m moved loaded (loaded_from env m own (length z.funcs))) s t
          (store_kept env m moved loaded own before j k alike.slots s z t load like);
      code = λ p f at. code_at p f at;
    }
  where
    code_at : (p f : ℕ) → slice_get own p ≡ Some f → CodeAt (split_pairing env m moved (loaded ++ loaded_from env m own (length z.funcs))) s t (type_in m f) (defined_address env m f) (length z.funcs + p)
    code_at p f at =
        let valid = holds laws namespace names m moved owns g in
        let own_moves = own_can m moved own before slots g.can_move in
        let x = moves laws namespace names m moved owns g own before slots p f at in
        let there = own_stands_at names m valid moved own before own_moves p f at in
        let n = f - length (imported_funcs m.imports) in
        let in_moved : slice_get moved (length slots.earlier + p) ≡ Some f = ap (λ fs. slice_get fs (length slots.earlier + p)) slots.all ∙ append_right slots.earlier (own ++ slots.later) p ∙ append_at_left own slots.later p f at in
        let there_is = slice_get_there m.types x.func.ty (func_holds m valid n x.func x.is) in
        let first_typed : slice_get i.types x.func.ty ≡ Some there_is.0 = ap (λ ts. slice_get ts x.func.ty) alike.first_types ∙ there_is.1 in
        let one : slice_get s.funcs (defined_address env m f) ≡ Some (Code there_is.0 i (declared x.func.locals) x.func.body) = first (length slots.earlier + p) f x.func in_moved x.is ∙ ap (λ o. o >>= λ u. Some (Code u i (declared x.func.locals) x.func.body)) first_typed in
        let two = load.own_stands p x.func there in
        let entry : slice_index (secondary_map m moved own).types x.func.ty ≡ x.func.ty = numbers_index (length m.types) x.func.ty (func_holds m valid n x.func x.is) in
        let v = and_then_is (slice_get k.types (slice_index (secondary_map m moved own).types x.func.ty)) _ two.0 two.1 in
        let typed : slice_get m.types x.func.ty ≡ Some there_is.0 = there_is.1 in
        let typed_too : slice_get m.types x.func.ty ≡ Some v.0 = ap (λ ts. slice_get ts x.func.ty) (sym load.names.types) ∙ ap (slice_get k.types) (sym entry) ∙ v.1 in
        let is_in : there_is.0 ≡ type_in m f = sym (ap (λ o. unwrap_or o (record { params = []; results = [] })) (ap (option_and_then (slice_get m.types)) x.typed ∙ typed)) in
        let same : v.0 ≡ type_in m f = same_Some _ _ (sym typed_too ∙ typed) ∙ is_in in
        record {
          first_inst = i;
          second_inst = k;
          locals = declared x.func.locals;
          first_code = x.func.body;
          second_code = renumbered.renumbered_all (secondary_map m moved own) (with_calls (secondary_call m moved own) x.func.body);
          first = one ∙ ap (λ w. Some (Code w i (declared x.func.locals) x.func.body)) is_in;
          second = two.2 ∙ sym v.2 ∙ ap (λ w. Some (Code w k (declared x.func.locals) (renumbered.renumbered_all (secondary_map m moved own) (with_calls (secondary_call m moved own) x.func.body)))) same;
          related = code_related laws namespace names m moved owns g own before slots env i j k alike load.names (loaded ++ loaded_from env m own (length z.funcs)) (length z.funcs) load.own_index
              (λ q h there. has_right loaded (loaded_from env m own (length z.funcs)) (defined_address env m h, length z.funcs + q) (pair_there env m own (length z.funcs) q h there)) p p f at there;
        }
