-- The instances of a module with one more function and of its snapshot: each index that the module
-- names denotes one address in both, and its code does the same.
use Rattle.base_lists.proofs.Common.{◌≡◌, ◌∙◌, sym, ap, refl, subst, ℕ, ◌+◌, ◌<◌, ◌≤◌, List, [], ◌∷◌, length, true, cond, not, ◌||◌, Option, Some, None, arith, option_and_then, slice_get, length-append, any_passes_from_place, places_many, same_Some, numbers_at, length-map, get_rel, opt_both}
use Rattle.base_lists.proofs.Common.{opt_self}
use Rattle.wasm_tree_spec.specs.Prelude.{PassesLayerByLayer, Space, Types, Functions, Tables, Memories, Globals, ElementSegments, DataSegments, ConstExpr, Module, any_uses_data, uses_data, operands, same_space, imported_funcs, imported_tables, imported_memories, imported_globals, funcs_of}
use Rattle.wasm_tree_spec.specs.Prelude.{tables_of, memories_of, globals_of}
use Rattle.wasm_tree.specs.declared.module.ConstExpr.TheVariants as const
use Rattle.wasm_tree.specs.declared.module.Func as tree
use Rattle.wasm_num.specs.Operations.{W32, W64, wrapped}
use Rattle.wasm_meaning.specs.Prelude.{FuncRef, Text, Inst, Val, Num, Ref, Global, null_of, Environment, own_globals, const_value, imports_of, own_count, value_of}
use Rattle.run_simulation.specs.Prelude.{Pairing, OptRel, some, CodeRel, ValRel, GlobalRel, number, reference, func}
use Rattle.index_remap_proof.specs.Indices.{ConstNamesOnly, LayerNamesOnly, TreeNamesOnly, with_entry}
use Rattle.world_simulation.specs.Prelude.{one, IsInst}
use Rattle.world_simulation.specs.ConstantValues.{ConstantsAloneReadTheEnvironment}
use Rattle.world_simulation.proofs.EnvironmentEntities.{null_rel, own_globals_rel}
use Rattle.eval_spec.specs.Prelude.{State}
use Rattle.eval_snapshot_spec.specs.Snapshot.{empty_func, snapshot}
use Rattle.eval_snapshot_proof.specs.GlobalsAndSegments.{DataOperandsPass, EachGlobalIsLeft, AsManySegmentsAreLeft, no_data_or}
use Rattle.eval_snapshot_proof.specs.EvaluatedWorlds.{with_empty_func}
use Rattle.eval_snapshot_proof.proofs.NamedIndices.{below, each_index}
use Rattle.eval_snapshot_proof.proofs.RelatedCode.{IndexAlike, LayerAlike, code_alike}
use Rattle.eval_snapshot_proof.proofs.SharedAddresses.{Itself, NamesOne, names_one, one_named, shares_own, to_itself}
use Rattle.eval_snapshot_proof.proofs.SnapshotParts.{bound, datas_more, elems_more, funcs_many, more, more_few, room, shape, left_globals_many}
use Rattle.eval_snapshot_proof.proofs.JoinedProperties.{code_both, every_both}

-- The laws on code, on what is left of a module and on constant expressions.
pub record SnapshotLaws : Type 0 where
  pub layers : PassesLayerByLayer
  pub globals : EachGlobalIsLeft
  pub segments : AsManySegmentsAreLeft
  pub code : DataOperandsPass
  pub constants : ConstantsAloneReadTheEnvironment

module _ (env : Environment) (m : Module) (s : State) (name : Text) (names kept : List Text) where
  abbrev first : Module
  first = with_empty_func m

  abbrev second : Module
  second = snapshot m s (name ∷ names) kept

  abbrev below_these : Space → ℕ
  below_these = bound m s name names kept env

  abbrev pub R : Pairing
  R = Itself below_these

  pub enough : (k : Space) → own_count k env ≤ below_these k
  enough = room m s name names kept env

  abbrev pub One : Space → List ℕ → List ℕ → ℕ → Type 0
  One = NamesOne below_these env enough

  module _ (i j : Inst) (a : IsInst env (one first) 0 first i) (b : IsInst env (one second) 0 second j) where
    pub same_types : second.types ≡ first.types
    same_types = (shape m s name names kept).types

    pub same_imports : second.imports ≡ first.imports
    same_imports = (shape m s name names kept).imports

    func_one : (n : ℕ) → n < length (imported_funcs m.imports) + length second.funcs → One Functions i.funcs j.funcs n
    func_one n lt =
        let c : length (imports_of Functions m) ≡ length (imported_funcs m.imports) = places_many _ _ m.imports (grind arith) 0 in
        let many = funcs_many m s name names kept in
        let few = more_few m s name names kept in
        let all = length-append m.funcs (empty_func m ∷ []) in
        names_one below_these env enough first second same_types same_imports Functions i.funcs j.funcs a.funcs b.funcs (length second.funcs) (omega (arith, many, few, all)) (omega arith)
        (omega arith) n
        (omega (arith, lt, c))

    pub func_shared : (n : ℕ) → n < length (funcs_of m) → One Functions i.funcs j.funcs n
    func_shared n lt =
        let many = funcs_many m s name names kept in
        let f = length-map m.funcs (λ (f : tree.Func). f.ty) in
        let size : length (funcs_of m) ≡ length (imported_funcs m.imports) + length m.funcs = length-append (imported_funcs m.imports) _ ∙ ap (λ z. length (imported_funcs m.imports) + z) f in
        func_one n (omega (arith, lt, size, many))

    -- The added function has the same address in both, if the snapshot has it.
    pub last_shared : 0 < length (more m s name names kept) → One Functions i.funcs j.funcs (length (funcs_of m))
    last_shared some_more =
        let many = funcs_many m s name names kept in
        let f = length-map m.funcs (λ (f : tree.Func). f.ty) in
        let size : length (funcs_of m) ≡ length (imported_funcs m.imports) + length m.funcs = length-append (imported_funcs m.imports) _ ∙ ap (λ z. length (imported_funcs m.imports) + z) f in
        func_one (length (funcs_of m)) (omega (arith, size, many, some_more))

    pub table_shared : (n : ℕ) → n < length (tables_of m) → One Tables i.tables j.tables n
    table_shared n lt =
        let c : length (imports_of Tables m) ≡ length (imported_tables m.imports) = places_many _ _ m.imports (grind arith) 0 in
        let all = length-append (imported_tables m.imports) m.tables in
        let same : length second.tables ≡ length m.tables = ap length (shape m s name names kept).tables in
        names_one below_these env enough first second same_types same_imports Tables i.tables j.tables a.tables b.tables (length m.tables) (omega arith) (omega (arith, same)) (omega arith) n
        (omega (arith, lt, c, all))

    pub memory_shared : (n : ℕ) → n < length (memories_of m) → One Memories i.mems j.mems n
    memory_shared n lt =
        let c : length (imports_of Memories m) ≡ length (imported_memories m.imports) = places_many _ _ m.imports (grind arith) 0 in
        let all = length-append (imported_memories m.imports) m.mems in
        let same : length second.mems ≡ length m.mems = ap length (shape m s name names kept).mems in
        names_one below_these env enough first second same_types same_imports Memories i.mems j.mems a.mems b.mems (length m.mems) (omega arith) (omega (arith, same)) (omega arith) n
        (omega (arith, lt, c, all))

    pub global_shared : (n : ℕ) → n < length (globals_of m) → One Globals i.globals j.globals n
    global_shared n lt =
        let c : length (imports_of Globals m) ≡ length (imported_globals m.imports) = places_many _ _ m.imports (grind arith) 0 in
        let f = length-map m.globals (λ g. g.ty) in
        let size : length (globals_of m) ≡ length (imported_globals m.imports) + length m.globals =
        length-append (imported_globals m.imports) _ ∙ ap (λ z. length (imported_globals m.imports) + z) f in
        let same = left_globals_many m s name names kept in
        names_one below_these env enough first second same_types same_imports Globals i.globals j.globals a.globals b.globals (length m.globals) (omega arith) (omega (arith, same)) (omega arith) n
        (omega (arith, lt, c, size))

    pub elem_shared : (n : ℕ) → n < length m.elems → One ElementSegments i.elems j.elems n
    elem_shared n lt =
        let l = elems_more m s name names kept in
        let z : 0 + n ≡ n = omega arith in
        record {
          address = n;
          first = ap (λ l. slice_get l n) a.elems ∙ numbers_at 0 (length m.elems) n lt ∙ ap Some z;
          second = ap (λ l. slice_get l n) b.elems ∙ numbers_at 0 (length second.elems) n (omega (arith, lt, l)) ∙ ap Some z;
          low = lt;
        }

    pub data_shared : AsManySegmentsAreLeft → any_uses_data m.funcs ≡ true → (n : ℕ) → n < length m.datas → One DataSegments i.datas j.datas n
    data_shared none_lost uses n lt =
        let l = datas_more m s name names kept none_lost uses in
        let z : 0 + n ≡ n = omega arith in
        let most : below_these DataSegments ≡ length m.datas = ap (λ b. cond b (length m.datas) 0) uses in
        record {
          address = n;
          first = ap (λ l. slice_get l n) a.datas ∙ numbers_at 0 (length m.datas) n lt ∙ ap Some z;
          second = ap (λ l. slice_get l n) b.datas ∙ numbers_at 0 (length second.datas) n (omega (arith, lt, l)) ∙ ap Some z;
          low = omega (arith, lt, most);
        }

    -- ---- code ----

    index_alike : AsManySegmentsAreLeft → (k : Space) (n : ℕ) → with_entry (each_index m) k n ≡ true → not (same_space k DataSegments) || any_uses_data m.funcs ≡ true → IndexAlike R i j k n
    index_alike none_lost Types n h d = ap (λ ts. slice_get ts n) (a.types ∙ sym same_types ∙ sym b.types)
    index_alike none_lost Functions n h d = one_named below_these env enough (func_shared n (below (length (funcs_of m)) n h))
    index_alike none_lost Tables n h d = one_named below_these env enough (table_shared n (below (length (tables_of m)) n h))
    index_alike none_lost Memories n h d = one_named below_these env enough (memory_shared n (below (length (memories_of m)) n h))
    index_alike none_lost Globals n h d = one_named below_these env enough (global_shared n (below (length (globals_of m)) n h))
    index_alike none_lost ElementSegments n h d = one_named below_these env enough (elem_shared n (below (length m.elems) n h))
    index_alike none_lost DataSegments n h d = one_named below_these env enough (data_shared none_lost d n (below (length m.datas) n h))

    pub code_same : SnapshotLaws → TreeNamesOnly (with_entry (each_index m)) m → (n : ℕ) (f : tree.Func) → slice_get m.funcs n ≡ Some f → CodeRel R i j f.body f.body
    code_same laws named n f at =
        let so = any_uses_data m.funcs in
        let passes = laws.code so f.body (λ h. any_passes_from_place (λ f. uses_data f.body) m.funcs n f at h) in
        let layers = (laws.layers (no_data_or so) f.body).0 passes in
        code_alike R i j f.body
        (code_both (LayerNamesOnly (with_entry (each_index m))) _ (LayerAlike R i j) (λ l p q. every_both _ _ _ (λ o p q. index_alike laws.segments o.space o.index p q) (operands l) p q) f.body
        (named.funcs n f at).1 layers)

    -- ---- constant expressions ----

    abbrev pub first_value : ConstExpr → Option Val
    first_value = value_of env (one first) (i ∷ []) 0

    abbrev pub second_value : ConstExpr → Option Val
    second_value = value_of env (one second) (j ∷ []) 0

    constants_same : (e : ConstExpr) → ConstNamesOnly (with_entry (each_index m)) e → const_value (own_globals env) i e ≡ const_value (own_globals env) j e
    constants_same (const.I32 c) h = refl
    constants_same (const.I64 c) h = refl
    constants_same (const.Null ty) h = refl
    constants_same (const.Func f) h = let x = func_shared f (below (length (funcs_of m)) f h) in rw (x.first, x.second) refl
    constants_same (const.Global x) h = let x = global_shared x (below (length (globals_of m)) x h) in rw (x.first, x.second) refl

    -- Constant expressions of the module have the same values in both.
    pub values_same : ConstantsAloneReadTheEnvironment → (e : ConstExpr) → ConstNamesOnly (with_entry (each_index m)) e → first_value e ≡ second_value e
    values_same constants e h = constants env first i a e ∙ constants_same e h ∙ sym (constants env second j b e)

    constant_itself : (e : ConstExpr) (x : Val) → ConstNamesOnly (with_entry (each_index m)) e → const_value (own_globals env) i e ≡ Some x → ValRel R x x
    constant_itself (const.I32 c) x h is = let r : OptRel (ValRel R) (Some (Num W32 (wrapped 32 c))) (Some (Num W32 (wrapped 32 c))) = some number in opt_both r is is
    constant_itself (const.I64 c) x h is = let r : OptRel (ValRel R) (Some (Num W64 (wrapped 64 c))) (Some (Num W64 (wrapped 64 c))) = some number in opt_both r is is
    constant_itself (const.Null ty) x h is = let r : OptRel (ValRel R) (Some (Ref (null_of ty))) (Some (Ref (null_of ty))) = some (reference (null_rel R ty)) in opt_both r is is
    constant_itself (const.Func f) x h is =
        let o = func_shared f (below (length (funcs_of m)) f h) in
        let same : Some (Ref (FuncRef (Some o.address))) ≡ Some x = ap (option_and_then (λ a. Some (Ref (FuncRef (Some a))))) (sym o.first) ∙ is in
        let r : OptRel (ValRel R) (Some (Ref (FuncRef (Some o.address)))) (Some (Ref (FuncRef (Some o.address)))) = some (reference (func (some (to_itself below_these Functions o.address o.low)))) in
        opt_both r same same
    constant_itself (const.Global y) x h is =
        let o = global_shared y (below (length (globals_of m)) y h) in
        let same : option_and_then (λ (g : Global). Some g.value) (slice_get (own_globals env) o.address) ≡ Some x =
        ap (option_and_then (λ a. option_and_then (λ (g : Global). Some g.value) (slice_get (own_globals env) a))) (sym o.first) ∙ is in
        own_value (slice_get (own_globals env) o.address) (get_rel (own_globals_rel R env (shares_own below_these env enough)) o.address) same
      where
        own_value : (o : Option Global) → OptRel (GlobalRel R) o o → option_and_then (λ (g : Global). Some g.value) o ≡ Some x → ValRel R x x
        own_value None r e = absurd (let k = e in cc)
        own_value (Some g) r e = subst (λ x. ValRel R x x) (same_Some _ _ e) (opt_self r refl).value

    -- The value of a constant expression is related to itself: it refers only to functions below
    -- the bound.
    pub value_itself : ConstantsAloneReadTheEnvironment → (e : ConstExpr) (x : Val) → ConstNamesOnly (with_entry (each_index m)) e → first_value e ≡ Some x → ValRel R x x
    value_itself constants e x h is = constant_itself e x h (sym (constants env first i a e) ∙ is)
