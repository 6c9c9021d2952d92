-- The canonical encodings of element and data segments encode them.
use Rattle.base_lists.proofs.Common.{◌≡◌, ℕ, ◌<◌, ◌≤◌, ◌^◌, List, [], ◌∷◌, ◌++◌, length, true, true≢false, ◌&&◌, ⊎_elim, refl, sym, arith, append_assoc, ◌==◌, eqb-true, cases_Bool, left_true, right_true}
use Rattle.base_lists.proofs.Every.{every_with}
use Rattle.std.proofs.Common.{length-append}
use Rattle.wasm_bytes.specs.Prelude.{u32_text, sized_text, U32, Sized}
use Rattle.wasm_tree_spec.specs.Prelude.{RefType, ConstExpr, ElemMode, ElemSeg, DataMode, DataSeg}
use Rattle.wasm_tree.specs.declared.types.RefType.TheVariants as ref
use Rattle.wasm_tree.specs.declared.module.ConstExpr.TheVariants as const
use Rattle.wasm_tree.specs.declared.module.ElemMode.TheVariants as elem
use Rattle.wasm_tree.specs.declared.module.DataMode.TheVariants as segment
use Rattle.base_lists.specs.Every.{Every}
use Rattle.wasm_read_spec.specs.Prelude.{MadeFrom, SpellsConst, FuncItems, ConstItems, SpellsElem, SpellsData}
use Rattle.wasm_read_spec.specs.Sections.{elem_of, elem_form, data_form}
use Rattle.wasm_write_spec.specs.PlainValues.{ref_code, ref_text, const_text, is_func, func_of, is_funcref, all_funcs, by_index, index_items, const_items, active_by_index, active_by_const, mode_by_index, mode_by_const, elem_text, data_mode_text, data_text}
use Rattle.wasm_write_proof.specs.Ranges.{IsU32, ConstInRange, ElemModeInRange, ElemInRange, DataModeInRange}
use Rattle.wasm_write_proof.proofs.Parts.{TextLaws, u32_some, u32_spells, flag_spells, sized_spells, vector_spells}
use Rattle.wasm_write_proof.proofs.ItemTexts.{ref_spells, const_spells, const_some}

-- ---- items

func_item : TextLaws → (c : ConstExpr) → is_func c ≡ true → ConstInRange c → MadeFrom const.Func U32 (u32_text (func_of c)) c
unfolding is_func func_of
func_item laws (const.Func x) f h = (x, u32_spells laws x h, refl)
func_item laws (const.I32 z) f h = absurd (true≢false (sym f))
func_item laws (const.I64 z) f h = absurd (true≢false (sym f))
func_item laws (const.Null t) f h = absurd (true≢false (sym f))
func_item laws (const.Global x) f h = absurd (true≢false (sym f))

func_each : TextLaws → (cs : List ConstExpr) → all_funcs cs ≡ true → Every ConstInRange cs → Every (λ c. MadeFrom const.Func U32 (u32_text (func_of c)) c) cs
func_each laws [] f h = tt
func_each laws (c ∷ cs) f h = (func_item laws c (left_true (is_func c) _ f) h.0, func_each laws cs (right_true (is_func c) _ f) h.1)

func_items : TextLaws → (cs : List ConstExpr) → all_funcs cs ≡ true → Every ConstInRange cs → length (index_items cs) < 2 ^ 32 → FuncItems (index_items cs) cs
unfolding index_items
func_items laws cs f h few = vector_spells laws (MadeFrom const.Func U32) (λ c. u32_text (func_of c)) cs (λ c. u32_some (func_of c)) few (func_each laws cs f h)

const_vector : TextLaws → (cs : List ConstExpr) → Every ConstInRange cs → length (const_items cs) < 2 ^ 32 → ConstItems (const_items cs) cs
unfolding const_items
const_vector laws cs h few = vector_spells laws SpellsConst const_text cs const_some few (every_with ConstInRange (λ c. SpellsConst (const_text c) c) cs (const_spells laws) h)

-- ---- forms

index_active : TextLaws → (table : ℕ) (offset : ConstExpr) (cs : List ConstExpr) → IsU32 table → ConstInRange offset → FuncItems (index_items cs) cs →
    SpellsElem (active_by_index table offset cs) (elem_of (elem.Active table offset) ref.Func cs)
unfolding elem_form
index_active laws table offset cs h k items = ⊎_elim
    (λ yes. let e : table ≡ 0 = eqb-true table 0 yes in rw e
    (0, (0x00 ∷ [], const_text offset ++ index_items cs, flag_spells 0 (omega arith), ((offset, cs), (const_text offset, index_items cs, const_spells laws offset k, items, refl), refl), refl)))
    (λ no. rw no (
      2,
      (
        0x02 ∷ [],
        u32_text table ++ const_text offset ++ (0x00 ∷ index_items cs),
        flag_spells 2 (omega arith),
        (
          (table, (offset, cs)),
          (
            u32_text table,
            const_text offset ++ (0x00 ∷ index_items cs),
            u32_spells laws table h,
            (const_text offset, 0x00 ∷ index_items cs, const_spells laws offset k, (index_items cs, items, refl), refl),
            append_assoc (u32_text table) (const_text offset) (0x00 ∷ index_items cs),
          ),
          refl,
        ),
        refl,
      ),
    ))
    (cases_Bool (table == 0))

index_mode : TextLaws → (m : ElemMode) (cs : List ConstExpr) → ElemModeInRange m → FuncItems (index_items cs) cs → SpellsElem (mode_by_index m cs) (elem_of m ref.Func cs)
unfolding elem_form
index_mode laws (elem.Active table offset) cs h items = index_active laws table offset cs h.0 h.1 items
index_mode laws elem.Passive cs h items = (1, (0x01 ∷ [], 0x00 ∷ index_items cs, flag_spells 1 (omega arith), (cs, (index_items cs, items, refl), refl), refl))
index_mode laws elem.Declarative cs h items = (3, (0x03 ∷ [], 0x00 ∷ index_items cs, flag_spells 3 (omega arith), (cs, (index_items cs, items, refl), refl), refl))

const_active_6 : TextLaws → (table : ℕ) (offset : ConstExpr) (ty : RefType) (cs : List ConstExpr) → IsU32 table → ConstInRange offset → ConstItems (const_items cs) cs →
    SpellsElem ((0x06 ∷ u32_text table) ++ const_text offset ++ (ref_code ty ∷ const_items cs)) (elem_of (elem.Active table offset) ty cs)
unfolding elem_form
const_active_6 laws table offset ty cs h k items = (
  6,
  (
    0x06 ∷ [],
    u32_text table ++ const_text offset ++ (ref_code ty ∷ const_items cs),
    flag_spells 6 (omega arith),
    (
      (table, (offset, (ty, cs))),
      (
        u32_text table,
        const_text offset ++ (ref_code ty ∷ const_items cs),
        u32_spells laws table h,
        (const_text offset, ref_code ty ∷ const_items cs, const_spells laws offset k, (ref_text ty, const_items cs, ref_spells ty, items, refl), refl),
        append_assoc (u32_text table) (const_text offset) (ref_code ty ∷ const_items cs),
      ),
      refl,
    ),
    refl,
  ),
)

const_active : TextLaws → (table : ℕ) (offset : ConstExpr) (ty : RefType) (cs : List ConstExpr) → IsU32 table → ConstInRange offset → ConstItems (const_items cs) cs →
    SpellsElem (active_by_const table offset ty cs) (elem_of (elem.Active table offset) ty cs)
unfolding elem_form is_funcref
const_active laws table offset ref.Func cs h k items = ⊎_elim
    (λ yes. let e : table ≡ 0 = eqb-true table 0 yes in rw e
    (4, (0x04 ∷ [], const_text offset ++ const_items cs, flag_spells 4 (omega arith), ((offset, cs), (const_text offset, const_items cs, const_spells laws offset k, items, refl), refl), refl)))
    (λ no. rw no (const_active_6 laws table offset ref.Func cs h k items))
    (cases_Bool (table == 0))
const_active laws table offset ref.Extern cs h k items = ⊎_elim
    (λ yes. rw yes (const_active_6 laws table offset ref.Extern cs h k items))
    (λ no. rw no (const_active_6 laws table offset ref.Extern cs h k items))
    (cases_Bool (table == 0))

const_mode : TextLaws → (m : ElemMode) (ty : RefType) (cs : List ConstExpr) → ElemModeInRange m → ConstItems (const_items cs) cs → SpellsElem (mode_by_const m ty cs) (elem_of m ty cs)
unfolding elem_form
const_mode laws (elem.Active table offset) ty cs h items = const_active laws table offset ty cs h.0 h.1 items
const_mode laws elem.Passive ty cs h items = (5, (0x05 ∷ [], ref_code ty ∷ const_items cs, flag_spells 5 (omega arith), ((ty, cs), (ref_text ty, const_items cs, ref_spells ty, items, refl), refl), refl))
const_mode laws elem.Declarative ty cs h items = (7, (0x07 ∷ [], ref_code ty ∷ const_items cs, flag_spells 7 (omega arith), ((ty, cs), (ref_text ty, const_items cs, ref_spells ty, items, refl), refl), refl))

-- ---- how long the items are

ends : (a b : List ℕ) (n : ℕ) → n ≤ length b → n ≤ length (a ++ b)
ends a b n h = omega (arith, h, length-append a b)

pub index_long : (m : ElemMode) (cs : List ConstExpr) → length (index_items cs) ≤ length (mode_by_index m cs)
index_long (elem.Active table offset) cs = ⊎_elim
    (λ yes. rw yes (ends (0x00 ∷ const_text offset) (index_items cs) (length (index_items cs)) (omega arith)))
    (λ no. rw no (ends ((0x02 ∷ u32_text table) ++ const_text offset) (0x00 ∷ index_items cs) (length (index_items cs)) (omega arith)))
    (cases_Bool (table == 0))
index_long elem.Passive cs = omega arith
index_long elem.Declarative cs = omega arith

pub const_long : (m : ElemMode) (ty : RefType) (cs : List ConstExpr) → length (const_items cs) ≤ length (mode_by_const m ty cs)
const_long (elem.Active table offset) ty cs = ⊎_elim
    (λ yes. rw yes (ends (0x04 ∷ const_text offset) (const_items cs) (length (const_items cs)) (omega arith)))
    (λ no. rw no (ends ((0x06 ∷ u32_text table) ++ const_text offset) (ref_code ty ∷ const_items cs) (length (const_items cs)) (omega arith)))
    (cases_Bool ((table == 0) && is_funcref ty))
const_long elem.Passive ty cs = omega arith
const_long elem.Declarative ty cs = omega arith

-- ---- segments

const_elem : TextLaws → (m : ElemMode) (ty : RefType) (cs : List ConstExpr) → ElemInRange (elem_of m ty cs) → length (mode_by_const m ty cs) < 2 ^ 32 → SpellsElem (mode_by_const m ty cs) (elem_of m ty cs)
const_elem laws m ty cs h few = let k = const_long m ty cs in const_mode laws m ty cs h.0 (const_vector laws cs h.1 (omega (arith, few, k)))

elem_of_spells : TextLaws → (m : ElemMode) (ty : RefType) (cs : List ConstExpr) → ElemInRange (elem_of m ty cs) → length (elem_text (elem_of m ty cs)) < 2 ^ 32 → SpellsElem (elem_text (elem_of m ty cs)) (elem_of m ty cs)
unfolding elem_text is_funcref
elem_of_spells laws m ref.Func cs h few = ⊎_elim
    (λ yes. let short = rw yes at few in let k = index_long m cs in rw yes (index_mode laws m cs h.0 (func_items laws cs yes h.1 (omega (arith, short, k)))))
    (λ no. let short = rw no at few in rw no (const_elem laws m ref.Func cs h short))
    (cases_Bool (all_funcs cs))
elem_of_spells laws m ref.Extern cs h few = const_elem laws m ref.Extern cs h few

pub elem_spells : TextLaws → (s : ElemSeg) → ElemInRange s → length (elem_text s) < 2 ^ 32 → SpellsElem (elem_text s) s
elem_spells laws s h few = elem_of_spells laws s.mode s.ty s.items h few

mode_index_some : (m : ElemMode) (cs : List ConstExpr) → 0 < length (mode_by_index m cs)
mode_index_some (elem.Active table offset) cs = ⊎_elim (λ yes. rw yes (omega arith)) (λ no. rw no (omega arith)) (cases_Bool (table == 0))
mode_index_some elem.Passive cs = omega arith
mode_index_some elem.Declarative cs = omega arith

mode_const_some : (m : ElemMode) (ty : RefType) (cs : List ConstExpr) → 0 < length (mode_by_const m ty cs)
mode_const_some (elem.Active table offset) ty cs = ⊎_elim (λ yes. rw yes (omega arith)) (λ no. rw no (omega arith)) (cases_Bool ((table == 0) && is_funcref ty))
mode_const_some elem.Passive ty cs = omega arith
mode_const_some elem.Declarative ty cs = omega arith

pub elem_some : (s : ElemSeg) → 0 < length (elem_text s)
unfolding elem_text
elem_some s = ⊎_elim (λ yes. rw yes (mode_index_some s.mode s.items)) (λ no. rw no (mode_const_some s.mode s.ty s.items)) (cases_Bool (by_index s))

-- ---- data segments

data_mode_spells : TextLaws → (m : DataMode) (bytes : List ℕ) → DataModeInRange m → Sized (sized_text bytes) bytes → SpellsData (data_mode_text m ++ sized_text bytes) (record { mode = m; bytes = bytes })
unfolding data_form
data_mode_spells laws (segment.Active memory offset) bytes h content = ⊎_elim
    (λ yes. let e : memory ≡ 0 = eqb-true memory 0 yes in rw e
    (0, (0x00 ∷ [], const_text offset ++ sized_text bytes, flag_spells 0 (omega arith), ((offset, bytes), (const_text offset, sized_text bytes, const_spells laws offset h.1, content, refl), refl), refl)))
    (λ no. rw no (
      2,
      (
        0x02 ∷ [],
        u32_text memory ++ const_text offset ++ sized_text bytes,
        flag_spells 2 (omega arith),
        (
          (memory, (offset, bytes)),
          (
            u32_text memory,
            const_text offset ++ sized_text bytes,
            u32_spells laws memory h.0,
            (const_text offset, sized_text bytes, const_spells laws offset h.1, content, refl),
            append_assoc (u32_text memory) (const_text offset) (sized_text bytes),
          ),
          refl,
        ),
        refl,
      ),
    ))
    (cases_Bool (memory == 0))
data_mode_spells laws segment.Passive bytes h content = (1, (0x01 ∷ [], sized_text bytes, flag_spells 1 (omega arith), (bytes, content, refl), refl))

pub data_spells : TextLaws → (s : DataSeg) → DataModeInRange s.mode → length (data_text s) < 2 ^ 32 → SpellsData (data_text s) s
unfolding data_text
data_spells laws s h few = data_mode_spells laws s.mode s.bytes h
    (sized_spells laws s.bytes (omega (arith, few, length-append (data_mode_text s.mode) (sized_text s.bytes), length-append (u32_text (length s.bytes)) s.bytes)))

pub data_some : (s : DataSeg) → 0 < length (data_text s)
unfolding data_text
data_some s = omega (arith, u32_some (length s.bytes), length-append (data_mode_text s.mode) (sized_text s.bytes), length-append (u32_text (length s.bytes)) s.bytes)
