use Rattle.base_lists.proofs.Common.{ℕ, List, Bool, ◌++◌, [], false, length, slice_get, unwrap_or, ap, ap₂, ◌∙◌, subst, sym, cons_option, IsStrictlyIncreasing}
use Rattle.std.proofs.Common.{filter}
use Rattle.std.proofs.lemmas.List.Kept.{IsStrictlyIncreasing-filter}
use Rattle.base_kept.specs.Marks.{named_from}
use Rattle.split_spec.specs.Prelude.{is_needed}
use Rattle.wasm_tree_spec.specs.Prelude.{funcs_of}
use Rattle.wasm_valid.specs.declared.kinds.ItemKind.TheVariants as kind
use Rattle.wasm_valid.specs.Prelude.{refs_of, IsValid}
use Rattle.split_slots.proofs.ReferencesOutsideBodies.{all_needed, all_there}
use Rattle.split_slots.proofs.needed_trampolines.needed.Goals as goal

pub returns : goal.returns
returns c =
    let m = c.args.input.now in
    let same = c.module.ensures.value in
    let holds = (c.valid_where_items_hold.ensures m).0 (subst IsValid same c.module.ensures.valid) kind.Body in
    let marks = c.in_ok-marks.ensures ∙ ap (λ z. named_from (refs_of z ++ cons_option z.start []) 0 (length (funcs_of z))) same in
    let is =
    c.in_ok-all.ensures ∙ ap₂ (λ (bs : List Bool) (fs : List ℕ). filter (λ func. unwrap_or (slice_get bs func) false) fs) c.deref.ensures.value c.as_slice.ensures
    ∙ all_needed c.well_typed_bodies_name_declared_functions.ensures m holds c.in_ok-marks.marks.items marks c.args.plan.now.moved (all_there m c.args.plan.now.moved c.requires.plan.moved) in
    record { needed = is; ascend = subst IsStrictlyIncreasing (sym is) (IsStrictlyIncreasing-filter (is_needed m) c.args.plan.now.moved c.requires.plan.moved_ascend) }
