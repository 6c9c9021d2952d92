use Rattle.base_lists.proofs.Common.{ℕ, List, Option, ap, ap₂, sym, ◌∙◌, arith, length, map, inr, find, list_any, bytes_eq}
use Rattle.base_lists.specs.Places.{first_place}
use Rattle.wasm_tree_spec.specs.Prelude.{Export, Import, funcs_of}
use Rattle.split_slots.proofs.FirstFaults.{many_next, namespace_first, none_first, prefix_next}
use Rattle.split_slots.proofs.ReferencesOutsideBodies.{all_there}
use Rattle.split_slots.proofs.PlannedFunctions.{few_ascend}
use Rattle.split_slots.proofs.early_faults.refuse.Goals as goal

abbrev first_with : List ℕ → List Import → Option ℕ
first_with namespace imports = first_place (λ (i : Import). bytes_eq i.«module» namespace) imports 0

abbrev first_taken : List Export → List Export → Option (List ℕ)
first_taken exports added = find (λ name. list_any (λ (e : Export). bytes_eq e.name name) exports) (map (λ (e : Export). e.name) added)

pub returns-in-Some-clause-fault : goal.returns-in-Some-clause-fault
returns-in-Some-clause-fault c =
    inr (namespace_first c.args.names.now c.args.module.now c.args.moved.now c.in-Some.import
    (ap (first_with c.args.names.now.placeholder_namespace) (sym c.as_slice.ensures) ∙ sym c.namespace_taken.ensures ∙ c.in-Some.is))

pub returns-in-Some-2-clause-fault : goal.returns-in-Some-2-clause-fault
returns-in-Some-2-clause-fault c =
    inr (prefix_next c.args.names.now c.args.module.now c.args.moved.now c.in-Some-2.name
    (ap (first_with c.args.names.now.placeholder_namespace) (sym c.as_slice.ensures) ∙ sym c.namespace_taken.ensures ∙ c.in_default.is)
    (ap₂ first_taken (sym c.as_slice-2.ensures) (sym c.requires.added) ∙ sym c.in_ok-name.ensures ∙ c.in-Some-2.is))

pub first_too_many-requires-clause-few : goal.first_too_many-requires-clause-few
first_too_many-requires-clause-few c =
    let m = c.args.module.now in
    let few = few_ascend (length (funcs_of m)) c.args.moved.now c.requires.ascend (all_there m c.args.moved.now c.requires.can) in
    omega (arith, few, c.requires.bounded.funcs)

pub returns-in-Some-first_too_many-clause-fault : goal.returns-in-Some-first_too_many-clause-fault
returns-in-Some-first_too_many-clause-fault c =
    inr (many_next c.args.names.now c.args.module.now c.args.moved.now (c.split_modules_are_counted.ensures.imports (λ slot. c.args.names.now.placeholder_namespace) c.args.names.now.export_prefix c.args.module.now c.args.moved.now) c.in-Some-first_too_many.which
    (ap (first_with c.args.names.now.placeholder_namespace) (sym c.as_slice.ensures) ∙ sym c.namespace_taken.ensures ∙ c.in_default.is)
    (ap₂ first_taken (sym c.as_slice-2.ensures) (sym c.requires.added) ∙ sym c.in_ok-name.ensures ∙ c.in_default-2.is)
    (sym c.first_too_many.ensures ∙ c.in-Some-first_too_many.is))

pub returns-in-None-clause-none : goal.returns-in-None-clause-none
returns-in-None-clause-none c ok =
    none_first c.args.names.now c.args.module.now c.args.moved.now
    (ap (first_with c.args.names.now.placeholder_namespace) (sym c.as_slice.ensures) ∙ sym c.namespace_taken.ensures ∙ c.in_default.is)
    (ap₂ first_taken (sym c.as_slice-2.ensures) (sym c.requires.added) ∙ sym c.in_ok-name.ensures ∙ c.in_default-2.is)
    (sym c.first_too_many.ensures ∙ c.in-None.is)
