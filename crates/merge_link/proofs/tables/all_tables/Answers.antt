use Rattle.base_lists.proofs.Common.{rules, ◌≡◌, ◌∙◌, ap, sym, refl, subst, ℕ, suc, ◌+◌, length, arith, Some, slice_get_read}
use Rattle.wasm_tree_spec.specs.Prelude.{Globals}
use Rattle.std.specs.Option.{option_map}
use Rattle.wasm_meaning.specs.Linking as linking
use Rattle.wasm_meaning.specs.Prelude.{defined_before}
use Rattle.merge_spec.specs.declared.parts.Part.{Part}
use Rattle.merge_spec.specs.Faults.{defined_globals}
use Rattle.merge_spec.specs.Prelude.{named_modules}
use Rattle.merge_link.specs.Prelude.{IsTableOf, imports_before}
use Rattle.merge_link.proofs.Places.{module_named, nothing_at}
use Rattle.merge_link.proofs.Numbers.{imports_none, globals_none, imports_more, globals_more, imports_most, globals_most}
use Rattle.merge_link.proofs.TablesMore.{tables_more}
use Rattle.merge_link.proofs.tables.all_tables.Goals as goal

pub loop-part-init : goal.loop-part-init
loop-part-init c = record {
  one_each = search rules;
  first_import = sym (imports_none (named_modules c.args.parts.now));
  first_global = sym (globals_none (named_modules c.args.parts.now));
  right = λ p m t h k. absurd (nothing_at c.new-tables.result.items p t c.new-tables.ensures.items k);
}

pub overflow_add-first_import : goal.overflow_add-first_import
overflow_add-first_import c =
    let at : linking.module_at (named_modules c.args.parts.now) c.loop-part.part-index ≡ Some c.module-module.result.now =
    module_named c.args.parts.now c.loop-part.part-index
    ∙ ap (option_map (λ (x : Part). x.«module»)) (slice_get_read c.args.parts.now (length c.args.parts.now) c.loop-part.part-index c.part-item.result refl (omega arith) c.part-item.is)
    ∙ ap Some (sym c.module-module.ensures.value) in
    omega (arith, imports_most (named_modules c.args.parts.now) 0 c.loop-part.part-index c.module-module.result.now at, c.requires.imports, c.len.ensures)

pub overflow_add-first_global : goal.overflow_add-first_global
unfolding defined_globals
overflow_add-first_global c =
    let at : linking.module_at (named_modules c.args.parts.now) c.loop-part.part-index ≡ Some c.module-module.result.now =
    module_named c.args.parts.now c.loop-part.part-index
    ∙ ap (option_map (λ (x : Part). x.«module»)) (slice_get_read c.args.parts.now (length c.args.parts.now) c.loop-part.part-index c.part-item.result refl (omega arith) c.part-item.is)
    ∙ ap Some (sym c.module-module.ensures.value) in
    omega (arith, globals_most (named_modules c.args.parts.now) 0 c.loop-part.part-index c.module-module.result.now at, c.requires.globals, c.len-in-loop-part.ensures)

pub loop-part-preserved : goal.loop-part-preserved
loop-part-preserved c =
    let i = c.loop-part.invariant in
    let lp = named_modules c.args.parts.now in
    let n = c.loop-part.part-index in
    let m = c.module-module.result.now in
    let t = c.in_ok-table.table in
    let at : linking.module_at lp n ≡ Some m =
    module_named c.args.parts.now n
    ∙ ap (option_map (λ (x : Part). x.«module»)) (slice_get_read c.args.parts.now (length c.args.parts.now) n c.part-item.result refl (omega arith) c.part-item.is)
    ∙ ap Some (sym c.module-module.ensures.value) in
    let suc_n : n + 1 ≡ suc n = omega arith in
    let table : IsTableOf (imports_before lp n) (defined_before Globals lp n) m t =
    subst (λ (g : ℕ). IsTableOf (imports_before lp n) g m t) i.first_global (subst (λ (k : ℕ). IsTableOf k c.loop-part.first_global m t) i.first_import c.in_ok-table.ensures) in
    record {
      one_each = search rules;
      first_import = omega (arith, i.first_import, c.len.ensures, ap (imports_before lp) suc_n, imports_more lp n m at);
      first_global = omega (arith, i.first_global, c.len-in-loop-part.ensures, ap (defined_before Globals lp) suc_n, globals_more lp n m at);
      right = rw c.in_ok-push.ensures.items (tables_more lp c.loop-part.tables.items t m n i.one_each at table i.right);
    }
