-- The counts of a module of a split are within u32 where none is above its limit.
use Rattle.base_lists.proofs.Common.{◌≡◌, ◌∙◌, sym, subst, ℕ, ◌+◌, ◌-◌, ◌^◌, ◌<◌, List, [], ◌∷◌, map, length, Option, Some, None, slice_get, arith, length-append, length-map, slice_get_within, filter_map_most, numbers_index}
use Rattle.wasm_tree_spec.specs.Prelude.{Func, Module, IsBounded, declared_count, local_count, param_count, func_of, table_of, memory_of, global_of, imported_funcs, imported_globals, imported_memories, imported_tables}
use Rattle.module_limits.specs.Counts.{CountsAreWithin}
use Rattle.index_remap.specs.Prelude.{declared, declared_refs, with_declared, new_func}
use Rattle.split_spec.specs.declared.names.SplitNames.{SplitNames}
use Rattle.split_spec.specs.Prelude.{primary_func, secondary_func, place_among}
use Rattle.split_proof.specs.Premises.{CanMove}
use Rattle.split_proof.proofs.WellTypedBodies.{BodyLaws}
use Rattle.split_proof.proofs.PrimaryItems as primary
use Rattle.split_proof.proofs.PrimarySpaces as primary_spaces
use Rattle.split_proof.proofs.SecondaryItems as secondary
use Rattle.split_proof.proofs.SecondarySpaces as secondary_spaces
use Rattle.split_proof.proofs.DescribedSpaces.{func_holds}
use Rattle.wasm_valid.specs.Prelude.{ItemsHold}

abbrev pub FewLocals : Module → Type 0
FewLocals t = (i : ℕ) (f : Func) → slice_get t.funcs i ≡ Some f → local_count t.types f < 2 ^ 32

pub bounded_by_counts : (t : Module) → CountsAreWithin t → FewLocals t → IsBounded t
bounded_by_counts t w locals =
    let types = w.types in
    let imports = w.imports in
    let funcs = w.funcs in
    let tables = w.tables in
    let mems = w.mems in
    let globals = w.globals in
    let exports = w.exports in
    let elems = w.elems in
    let datas = w.datas in
    let a = filter_map_most (λ i. func_of i.desc) t.imports in
    let b = filter_map_most (λ i. table_of i.desc) t.imports in
    let c = filter_map_most (λ i. memory_of i.desc) t.imports in
    let d = filter_map_most (λ i. global_of i.desc) t.imports in
    let a0 = length-append (imported_funcs t.imports) (map (λ f. f.ty) t.funcs) in
    let a1 = length-map t.funcs (λ f. f.ty) in
    let b0 = length-append (imported_tables t.imports) t.tables in
    let c0 = length-append (imported_memories t.imports) t.mems in
    let d0 = length-append (imported_globals t.imports) (map (λ g. g.ty) t.globals) in
    let d1 = length-map t.globals (λ g. g.ty) in
    record {
      types = omega (arith, types);
      imports = omega (arith, imports);
      funcs = omega (arith, imports, funcs, a, a0, a1);
      tables = omega (arith, imports, tables, b, b0);
      memories = omega (arith, imports, mems, c, c0);
      globals = omega (arith, imports, globals, d, d0, d1);
      exports = omega (arith, exports);
      elems = omega (arith, elems);
      datas = omega (arith, datas);
      locals = locals;
    }

with_declared_few : (t : Module) (fs : List ℕ) → FewLocals t → FewLocals (with_declared t fs)
with_declared_few t [] h = h
with_declared_few t (f ∷ fs) h = h

pub declared_bounded : (t : Module) → CountsAreWithin (declared t) → FewLocals t → IsBounded (declared t)
declared_bounded t w h = bounded_by_counts (declared t) w (with_declared_few t (declared_refs t) h)

-- ---- locals ----

module _ (laws : BodyLaws) (namespace : ℕ → List ℕ) (prefix : List ℕ) (m : Module) (holds : ItemsHold m) (moved : List ℕ) (can : CanMove m moved) (few : IsBounded m) where
  abbrev new_one : Option ℕ → ℕ → Func → Func
  new_one o i f = new_func (primary_spaces.r namespace prefix m holds moved can) (primary_func m moved o i f)

  one_few : (o : Option ℕ) (i : ℕ) (f : Func) → f.ty < length m.types → local_count m.types f < 2 ^ 32 → local_count m.types (new_one o i f) < 2 ^ 32
  one_few None i f lt h = subst (λ n. param_count (slice_get m.types n) + declared_count f.locals < 2 ^ 32) (sym (numbers_index (length m.types) f.ty lt)) h
  one_few (Some slot) i f lt h =
      let less : param_count (slice_get m.types f.ty) + 0 < 2 ^ 32 = omega (arith, h) in
      subst (λ n. param_count (slice_get m.types n) + 0 < 2 ^ 32) (sym (numbers_index (length m.types) f.ty lt)) less

  pub primary_few : FewLocals (primary_spaces.u namespace prefix m holds moved can)
  primary_few j f at =
      let i = primary.func_item laws namespace prefix m holds moved can j (slice_get_within (primary_spaces.u namespace prefix m holds moved can).funcs j f at) in
      let both : Some (new_one (place_among moved (length (imported_funcs m.imports) + i.place)) (length (imported_funcs m.imports) + i.place) i.func) ≡ Some f = sym i.is ∙ at in
      let same : new_one (place_among moved (length (imported_funcs m.imports) + i.place)) (length (imported_funcs m.imports) + i.place) i.func ≡ f = cc in
      subst (λ (g : Func). local_count m.types g < 2 ^ 32) same
      (one_few (place_among moved (length (imported_funcs m.imports) + i.place)) (length (imported_funcs m.imports) + i.place) i.func (func_holds m holds i.place i.func i.at) (few.locals i.place i.func i.at))

module _ (laws : BodyLaws) (names : SplitNames) (m : Module) (holds : ItemsHold m) (moved own : List ℕ) (before : ℕ) (can : CanMove m own) (few : IsBounded m) where
  pub secondary_few : FewLocals (secondary_spaces.u names m holds moved own before)
  secondary_few j f at =
      let i = secondary.func_item laws names m holds moved own before can j (slice_get_within (secondary_spaces.u names m holds moved own before).funcs j f at) in
      let g = secondary_spaces.own_moves names m holds moved own before can i.0 i.1 i.2 in
      let new : Func = new_func (secondary_spaces.r names m holds moved own before) (secondary_func m moved own g.func) in
      let both : Some new ≡ Some f = sym i.3 ∙ at in
      let same : new ≡ f = cc in
      let place = i.1 - length (imported_funcs m.imports) in
      subst (λ (g : Func). local_count m.types g < 2 ^ 32) same
      (subst (λ n. param_count (slice_get m.types n) + declared_count g.func.locals < 2 ^ 32) (sym (numbers_index (length m.types) g.func.ty (func_holds m holds place g.func g.is))) (few.locals place g.func g.is))
