-- The stops of an active element segment.
use Rattle.base_lists.proofs.Common.{◌≡◌, ℕ, ℤ, ◌+◌, ◌<◌, ◌≤◌, List, length, true, false, Some, None, refl, ap, ◌∙◌, nat_lt, lt-ltb, le-ltb, le-leb}
use Rattle.std.proofs.lemmas.Bool.{or_right}
use Rattle.wasm_tree_spec.specs.Prelude.{Tables, TableType, ConstExpr, Module, imported_tables}
use Rattle.wasm_tree.specs.declared.module.ConstExpr.TheVariants as const
use Rattle.wasm_num.specs.Operations.{wrapped}
use Rattle.eval_spec.specs.declared.stop.Stop.TheVariants as why
use Rattle.eval_spec.specs.Prelude.{is_imported, reads_global}
use Rattle.eval_machine.specs.Prelude.{CopiesItems, defined_table}
use Rattle.eval_machine.specs.InstantiationParts.{FillsSlots, elem_stop, has_slots}
use Rattle.eval_machine.specs.declared.slots.Slot.{Slot}
use Rattle.eval_machine.proofs.IndexSpaces.{tables_many}

pub is_imported_table : (m : Module) (table : ℕ) → table < length (imported_tables m.imports) → is_imported m Tables table ≡ true
is_imported_table m table lt = ap (λ n. nat_lt table n) (tables_many m) ∙ lt-ltb table (length (imported_tables m.imports)) lt

pub is_defined_table : (m : Module) (table : ℕ) → length (imported_tables m.imports) ≤ table → is_imported m Tables table ≡ false
is_defined_table m table le = ap (λ n. nat_lt table n) (tables_many m) ∙ le-ltb table (length (imported_tables m.imports)) le

pub imported_unknown : (m : Module) (table : ℕ) (offset : ConstExpr) (count : ℕ) → table < length (imported_tables m.imports) → elem_stop m table offset count ≡ Some why.Unknown
imported_unknown m table offset count lt =
    rw (or_right (reads_global offset) (is_imported m Tables table) (is_imported_table m table lt)) refl

pub goes_past : (m : Module) (table : ℕ) (offset : ConstExpr) (count : ℕ) → length (imported_tables m.imports) ≤ table → reads_global offset ≡ false → has_slots (defined_table m table) offset count ≡ false →
    elem_stop m table offset count ≡ Some why.Trap
goes_past m table offset count le known e = rw (known, is_defined_table m table le, e)

pub goes_in : (m : Module) (table : ℕ) (offset : ConstExpr) (count : ℕ) → length (imported_tables m.imports) ≤ table → reads_global offset ≡ false → has_slots (defined_table m table) offset count ≡ true →
    elem_stop m table offset count ≡ None
goes_in m table offset count le known e = rw (known, is_defined_table m table le, e)

pub segment_filled : (m : Module) (table place : ℕ) (v : ℤ) (offset : ConstExpr) (items : List ConstExpr) (ty : TableType) (old new : List (ℕ × Slot)) → offset ≡ const.I32 v → place ≡ wrapped 32 v → length (imported_tables m.imports) ≤ table →
    defined_table m table ≡ Some ty → place + length items ≤ ty.limits.min → CopiesItems old new table place items → FillsSlots m table offset items old None new
segment_filled m table place v offset items ty old new is at le there fits copies =
    let holds : has_slots (Some ty) (const.I32 v) (length items) ≡ true = rw (← at) (le-leb (place + length items) ty.limits.min fits) in
    rw is (goes_in m table (const.I32 v) (length items) le refl (rw there holds), rw at at copies)
