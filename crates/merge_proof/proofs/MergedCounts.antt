-- A u32 can count what the merged module has, and it has at most one memory.
use Rattle.base_lists.proofs.Common.{◌≡◌, ◌∙◌, ap, sym, refl, ℕ, ◌+◌, ◌^◌, ◌<◌, ◌≤◌, List, [], ◌∷◌, length, Option, Some, None, Bool, true, false, cond, nat_lt, arith, slice_get, ltb-false, length-append, filter_map_most}
use Rattle.wasm_tree_spec.specs.Prelude.{Space, Functions, Tables, Memories, Globals, Func, Module, memories_of, IsBounded, local_count}
use Rattle.wasm_valid.specs.Prelude.{IsSingle}
use Rattle.wasm_meaning.specs.Prelude.{Text, defined_before, Part, count_of, sites}
use Rattle.index_remap.specs.Prelude.{declared, declared_refs, with_declared, declaring}
use Rattle.merge_spec.specs.declared.faults.LinkFault.TheVariants.{TooManyMemories}
use Rattle.merge_spec.specs.Prelude.{stays, merged, imports_kind, by_part}
use Rattle.merge_spec.specs.Faults.{is_staying_memory, memory_count, memory_fault}
use Rattle.module_limits.specs.Counts.{over_limit, CountsAreWithin, CountsAreWithinWhereNoneIsOver}
use Rattle.merge_spec.specs.Merged.{staying, staying_of}
use Rattle.merge_proof.proofs.EntityTypes.{of_import, own, imported, space, own_many}
use Rattle.merge_proof.proofs.MergedSpaces.{own_is, moved_own, extra, all_own, imported_many}
use Rattle.base_lists.proofs.Filtered.{count_kept, filter_both}

-- ---- one memory ----

few_memories : (parts : List Part) → memory_fault parts ≡ None → memory_count parts ≤ 1
unfolding memory_fault
few_memories parts h = ltb-false 1 (memory_count parts) (by (nat_lt 1 (memory_count parts)) h)
  where
    by : (b : Bool) → cond b (Some TooManyMemories) None ≡ None → b ≡ false
    by true h = cc
    by false h = refl

staying_memories : (parts : List Part) → length (staying_of parts Memories) ≡ count_of (is_staying_memory parts) (sites parts)
unfolding staying_of staying
staying_memories parts = ap length (filter_both (imports_kind parts Memories) (stays parts) (sites parts)) ∙ sym (count_kept (is_staying_memory parts) (sites parts))

count_is : (parts : List Part) → memory_count parts ≡ count_of (is_staying_memory parts) (sites parts) + defined_before Memories parts (length parts)
unfolding memory_count
count_is parts = refl

pub merged_single : (parts : List Part) (names : List (Option Text)) → memory_fault parts ≡ None → IsSingle (merged parts names)
merged_single parts names h =
    let u = merged parts names in
    let a = imported_many parts names Memories in
    let b = staying_memories parts in
    let c = ap length (own_is parts names Memories refl) ∙ length-append (by_part (moved_own parts Memories) parts) [] in
    let d = all_own parts Memories refl in
    let e = count_is parts in
    let f = few_memories parts h in
    let z : length (memories_of u) ≡ length (imported Memories u) + length (own Memories u) = length-append (imported Memories u) (own Memories u) in
    let n : length (own Memories u) ≡ length (by_part (moved_own parts Memories) parts) = (let none : length (extra parts Memories) ≡ 0 = refl in omega (arith, c, none)) in
    omega (arith, a, b, d, e, f, z, n)

-- ---- limits ----

-- Declaring references adds at most a segment, so limits on the counts of a module with its
-- references declared hold of the module too.
undeclared_within : (m : Module) (fs : List ℕ) → CountsAreWithin (with_declared m fs) → CountsAreWithin m
undeclared_within m [] w = w
undeclared_within m (f ∷ fs) w =
    let e = w.elems in
    let n = length-append m.elems (declaring (f ∷ fs) ∷ []) in
    record { types = w.types; imports = w.imports; funcs = w.funcs; tables = w.tables; mems = w.mems; globals = w.globals; exports = w.exports; elems = omega (arith, e, n); datas = w.datas }

merged_within : CountsAreWithinWhereNoneIsOver → (m : Module) → over_limit (declared m) ≡ None → CountsAreWithin m
merged_within law m h = undeclared_within m (declared_refs m) (law (declared m) h)

space_few : (k : Space) (m : Module) → length (space k m) ≤ length m.imports + length (own k m)
space_few k m =
    let a = length-append (imported k m) (own k m) in
    let b = filter_map_most (of_import k) m.imports in
    omega (arith, a, b)

pub few_exports : CountsAreWithinWhereNoneIsOver → (m : Module) → over_limit (declared m) ≡ None → length m.exports < 2 ^ 62
few_exports law m h = let e = (merged_within law m h).exports in omega (arith, e)

pub few_elems : CountsAreWithinWhereNoneIsOver → (m : Module) → over_limit (declared m) ≡ None → length m.elems + 1 < 2 ^ 32
few_elems law m h = let e = (merged_within law m h).elems in omega (arith, e)

pub module_bounded : CountsAreWithinWhereNoneIsOver → (m : Module) → over_limit (declared m) ≡ None → ((i : ℕ) (f : Func) → slice_get m.funcs i ≡ Some f → local_count m.types f < 2 ^ 32) → IsBounded m
module_bounded law m h locals =
    let w = merged_within law m h in
    let ty = w.types in
    let i = w.imports in
    let f = w.funcs in
    let t = w.tables in
    let n = w.mems in
    let g = w.globals in
    let x = w.exports in
    let e = w.elems in
    let d = w.datas in
    let sf = space_few Functions m in
    let st = space_few Tables m in
    let sm = space_few Memories m in
    let sg = space_few Globals m in
    let of = own_many Functions m refl in
    let og = own_many Globals m refl in
    record {
      types = omega (arith, ty);
      imports = omega (arith, i);
      funcs = omega (arith, i, f, sf, of);
      tables = omega (arith, i, t, st);
      memories = omega (arith, i, n, sm);
      globals = omega (arith, i, g, sg, og);
      exports = omega (arith, x);
      elems = omega (arith, e);
      datas = omega (arith, d);
      locals = locals;
    }
