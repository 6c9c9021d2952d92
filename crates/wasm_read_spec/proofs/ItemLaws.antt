-- The readers of types, constant expressions and the items of sections find what is encoded and
-- small, and nothing else.
use Rattle.base_lists.proofs.Common.{◌≡◌, ℕ, ◌+◌, ◌-◌, ◌≤◌, List, [], ◌∷◌, ◌++◌, length, refl, subst, arith, ◌∙◌, ap, sym, ◌==◌, bind_ok, ok_pair, within_most}
use Rattle.std.proofs.Common.{le-ltb}
use Rattle.std.proofs.lemmas.List.Sums.{sum-map, sum_by-cons}
use Rattle.wasm_bytes.specs.Prelude.{TakesOff, U32, Vector}
use Rattle.wasm_bytes.proofs.Lists.{small_rest}
use Rattle.wasm_tree_spec.specs.Prelude.{Parameters, Results, Locals, LocalGroup, limit, declared_count}
use Rattle.wasm_tree.specs.declared.module.ConstExpr.TheVariants as const
use Rattle.wasm_tree.specs.declared.module.ImportDesc.TheVariants as import
use Rattle.wasm_tree.specs.declared.module.ExportDesc.TheVariants as export
use Rattle.wasm_read_spec.specs.declared.fault.Fault.{Fault}
use Rattle.wasm_read_spec.specs.declared.fault.Fault.TheVariants.{Malformed, Limit}
use Rattle.wasm_read_spec.specs.Prelude.{Any, val_of_code, SpellsVal, ref_of_code, SpellsRef, SpellsFuncType, SmallFuncType, at_least, between, SpellsLimits, SpellsTable, mut_of_code, SpellsGlobal, SpellsConst, SpellsImport, SpellsGlobalDef, SpellsExport, FuncItems, ConstItems, elem0, elem1, elem2}
use Rattle.wasm_read_spec.specs.Prelude.{elem3, elem5, elem6, elem7, SpellsElem, data0, data1, data2, SpellsData, SpellsGroup, u32_at, func_type_of, with_group}
use Rattle.wasm_read_spec.specs.Values.{limits_form, const_form}
use Rattle.wasm_read_spec.specs.Sections.{import_form, export_form, elem_form, data_form}
use Rattle.wasm_read_spec.specs.Reading.{val_at, ref_at, func_type_at, limits_at, table_of, table_at, mut_at, global_of, global_at, const_fault, const_at, import_desc_at, import_of, import_at, global_def_of, global_def_at, export_desc_at, export_of, export_at, func_items_at, const_items_at, elem_at}
use Rattle.wasm_read_spec.specs.Reading.{data_at, local_at, locals_at}
use Rattle.wasm_read_spec.specs.Exact.{Exact, Along}
use Rattle.wasm_read_spec.proofs.Exact.{took_then, split, byte_exact, u32_exact, s32_exact, s64_exact, sized_exact, name_exact, never_exact, pair_exact, both_exact, mapped_exact, made_exact, chosen_exact, when_exact, coded_exact, tagged_exact, closed_exact, list_exact, vector_exact, each_sound}
use Rattle.wasm_read_spec.proofs.Exact.{each_complete}

-- ---- types

pub val_exact : Exact SpellsVal Any val_at
unfolding val_at
val_exact = coded_exact val_of_code

pub ref_exact : Exact SpellsRef Any ref_at
unfolding ref_at
ref_exact = coded_exact ref_of_code

pub func_type_exact : Exact SpellsFuncType SmallFuncType func_type_at
unfolding func_type_at
func_type_exact = tagged_exact 0x60 (mapped_exact func_type_of (λ t. (t.params, t.results)) (λ x. refl) (λ y. refl) (pair_exact (vector_exact Parameters val_exact) (vector_exact Results val_exact)))

pub limits_exact : Exact SpellsLimits Any limits_at
unfolding limits_at limits_form
limits_exact = chosen_exact byte_exact (λ b. when_exact (b == 0x00) (made_exact at_least u32_exact) (when_exact (b == 0x01) (made_exact between (both_exact u32_exact u32_exact)) (never_exact Malformed)))

pub table_exact : Exact SpellsTable Any table_at
unfolding table_at
table_exact = mapped_exact table_of (λ t. (t.ty, t.limits)) (λ x. refl) (λ y. refl) (both_exact ref_exact limits_exact)

pub global_exact : Exact SpellsGlobal Any global_at
unfolding global_at mut_at
global_exact = mapped_exact global_of (λ g. (g.ty, g.mutable)) (λ x. refl) (λ y. refl) (both_exact val_exact (coded_exact mut_of_code))

-- ---- constant expressions

pub const_exact : Exact SpellsConst Any const_at
unfolding const_at const_form
const_exact = closed_exact 0x0B (chosen_exact byte_exact (λ b.
    when_exact (b == 0x41) (made_exact const.I32 s32_exact)
    (when_exact (b == 0x42) (made_exact const.I64 s64_exact)
    (when_exact (b == 0xD0) (made_exact const.Null ref_exact)
    (when_exact (b == 0xD2) (made_exact const.Func u32_exact)
    (when_exact (b == 0x23) (made_exact const.Global u32_exact)
    (never_exact (const_fault b))))))))

-- ---- what the sections hold

pub import_exact : Exact SpellsImport Any import_at
unfolding import_at import_desc_at import_form
import_exact = mapped_exact import_of (λ i. (i.«module», (i.field, i.desc))) (λ x. refl) (λ y. refl) (both_exact name_exact (both_exact name_exact (chosen_exact byte_exact (λ k.
    when_exact (k == 0x00) (made_exact import.Func u32_exact)
    (when_exact (k == 0x01) (made_exact import.Table table_exact)
    (when_exact (k == 0x02) (made_exact import.Memory limits_exact)
    (when_exact (k == 0x03) (made_exact import.Global global_exact)
    (never_exact Malformed))))))))

pub global_def_exact : Exact SpellsGlobalDef Any global_def_at
unfolding global_def_at
global_def_exact = mapped_exact global_def_of (λ g. (g.ty, g.init)) (λ x. refl) (λ y. refl) (both_exact global_exact const_exact)

pub export_exact : Exact SpellsExport Any export_at
unfolding export_at export_desc_at export_form
export_exact = mapped_exact export_of (λ e. (e.name, e.desc)) (λ x. refl) (λ y. refl) (both_exact name_exact (chosen_exact byte_exact (λ k.
    when_exact (k == 0x00) (made_exact export.Func u32_exact)
    (when_exact (k == 0x01) (made_exact export.Table u32_exact)
    (when_exact (k == 0x02) (made_exact export.Memory u32_exact)
    (when_exact (k == 0x03) (made_exact export.Global u32_exact)
    (never_exact Malformed)))))))

func_items_exact : Exact FuncItems Any func_items_at
unfolding func_items_at
func_items_exact = list_exact (made_exact const.Func u32_exact)

const_items_exact : Exact ConstItems Any const_items_at
const_items_exact = list_exact const_exact

pub elem_exact : Exact SpellsElem Any elem_at
unfolding elem_at elem_form
elem_exact = chosen_exact u32_exact (λ n.
    when_exact (n == 0) (made_exact elem0 (both_exact const_exact func_items_exact))
    (when_exact (n == 1) (made_exact elem1 (tagged_exact 0x00 func_items_exact))
    (when_exact (n == 2) (made_exact elem2 (both_exact u32_exact (both_exact const_exact (tagged_exact 0x00 func_items_exact))))
    (when_exact (n == 3) (made_exact elem3 (tagged_exact 0x00 func_items_exact))
    (when_exact (n == 4) (made_exact elem0 (both_exact const_exact const_items_exact))
    (when_exact (n == 5) (made_exact elem5 (both_exact ref_exact const_items_exact))
    (when_exact (n == 6) (made_exact elem6 (both_exact u32_exact (both_exact const_exact (both_exact ref_exact const_items_exact))))
    (when_exact (n == 7) (made_exact elem7 (both_exact ref_exact const_items_exact))
    (never_exact Malformed)))))))))

pub data_exact : Exact SpellsData Any data_at
unfolding data_at data_form
data_exact = chosen_exact u32_exact (λ n.
    when_exact (n == 0) (made_exact data0 (both_exact const_exact sized_exact))
    (when_exact (n == 1) (made_exact data1 sized_exact)
    (when_exact (n == 2) (made_exact data2 (both_exact u32_exact (both_exact const_exact sized_exact)))
    (never_exact Malformed))))

-- ---- locals

abbrev pub small_group : ℕ → LocalGroup → Type 0
small_group sum g = g.count ≤ limit Locals - sum

pub group_exact : (sum : ℕ) → Exact SpellsGroup (small_group sum) (local_at sum)
unfolding local_at
group_exact sum = record {
  sound = λ bytes g rest small e.
      let n = bind_ok (u32_at bytes) _ _ e in
      let one = (u32_exact.sound bytes n.0.0 n.0.1 small n.1).0 in
      let few = within_most (Limit Locals) (limit Locals - sum) n.0.0 _ _ n.2 in
      let t = bind_ok (val_at n.0.1) _ _ few.1 in
      let two = (val_exact.sound n.0.1 t.0.0 t.0.1 (small_rest _ bytes n.0.1 small one) t.1).0 in
      let p = ok_pair {E = Fault} (record { count = n.0.0; ty = t.0.0 }) g t.0.1 rest t.2 in
      let both = took_then (λ b. U32 b n.0.0) (λ b. SpellsVal b t.0.0) bytes n.0.1 t.0.1 one two in
      (subst (TakesOff (λ b. SpellsGroup b g) bytes) p.1 (subst (λ (z : LocalGroup). TakesOff (λ b. SpellsGroup b z) bytes t.0.1) p.0 both), subst (small_group sum) p.0 few.0);
  complete = λ text rest g h k. rw (split _ _ text rest h, u32_exact.complete h.0 (h.1 ++ rest) g.count h.2 tt, le-ltb (limit Locals - sum) g.count k, val_exact.complete h.1 rest g.ty h.3 tt);
}

pub declared_more : (g : LocalGroup) (gs : List LocalGroup) → declared_count (g ∷ gs) ≡ g.count + declared_count gs
declared_more g gs = sum-map (λ (h : LocalGroup). h.count) (g ∷ gs) ∙ sum_by-cons (λ (h : LocalGroup). h.count) g gs ∙ ap (λ n. g.count + n) (sym (sum-map (λ (h : LocalGroup). h.count) gs))

pub along_sum : (sum : ℕ) (gs : List LocalGroup) → sum ≤ limit Locals → Along small_group with_group sum gs → sum + declared_count gs ≤ limit Locals
along_sum sum [] le h = omega arith
along_sum sum (g ∷ gs) le h = let k = along_sum (sum + g.count) gs (omega (arith, h.0)) h.1 in omega (arith, k, declared_more g gs)

pub sum_along : (sum : ℕ) (gs : List LocalGroup) → sum + declared_count gs ≤ limit Locals → Along small_group with_group sum gs
sum_along sum [] h = tt
sum_along sum (g ∷ gs) h = let e = declared_more g gs in (omega (arith, h, e), sum_along (sum + g.count) gs (omega (arith, h, e)))

abbrev pub SmallLocals : List LocalGroup → Type 0
SmallLocals gs = declared_count gs ≤ limit Locals

pub locals_exact : Exact (Vector SpellsGroup) SmallLocals locals_at
unfolding locals_at
locals_exact = record {
  sound = λ bytes gs rest small e.
      let n = bind_ok (u32_at bytes) _ _ e in
      let count = (u32_exact.sound bytes n.0.0 n.0.1 small n.1).0 in
      let later = each_sound SpellsGroup small_group local_at with_group group_exact n.0.0 0 n.0.1 gs rest (small_rest _ bytes n.0.1 small count) n.2 in
      let few = along_sum 0 gs (omega arith) later.2 in
      (took_then (λ b. U32 b (length gs)) _ bytes n.0.1 rest (subst (λ k. TakesOff (λ b. U32 b k) bytes n.0.1) later.1 count) later.0, omega (arith, few));
  complete = λ text rest gs h k.
      rw (split _ _ text rest h, u32_exact.complete h.0 (h.1 ++ rest) (length gs) h.2 tt, each_complete SpellsGroup small_group local_at with_group group_exact gs 0 h.1 rest h.3 (sum_along 0 gs (omega (arith, k))));
}
