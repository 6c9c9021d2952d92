use Rattle.base_lists.proofs.Common.{◌≡◌, ◌∙◌, sym, ap, inr, refl, arith, length, List, Option, None}
use Rattle.wasm_tree_spec.specs.Prelude.{Module}
use Rattle.wasm_meaning.specs.Prelude.{Text}
use Rattle.merge_spec.specs.declared.parts.Part as parts
use Rattle.index_remap.specs.Prelude.{declared}
use Rattle.merge_names.specs.declared.mode.Mode.{Mode}
use Rattle.merge_names.specs.Names as names
use Rattle.merge_spec.specs.Prelude.{named_modules, all_exports, merged, export_names, repeated_name}
use Rattle.merge_spec.specs.Joined.{joined_module}
use Rattle.module_limits.specs.Counts.{over_limit}
use Rattle.merge_join.proofs.Outcomes.{many_is, module_is}
use Rattle.merge_join.proofs.Undropped.{none_undeclared}
use Rattle.merge_join.proofs.tree.joined_tree.Goals as goal

is_joined : (ps qs : List parts.Part) (mode : Mode) (news lent : List (Option Text)) (tree now : Module) →
    now ≡ declared tree → tree ≡ merged (named_modules ps) lent → lent ≡ news → news ≡ names.new_names mode (export_names (named_modules qs)) → qs ≡ ps → now ≡ joined_module (named_modules ps) mode
unfolding joined_module
is_joined ps qs mode news lent tree now a b d e same = a ∙ ap declared (b ∙ ap (merged (named_modules ps)) (d ∙ e ∙ ap (λ (xs : List parts.Part). names.new_names mode (export_names (named_modules xs))) same))

none_twice : (ps qs : List parts.Part) (mode : Mode) → qs ≡ ps → repeated_name (named_modules qs) mode ≡ None → repeated_name (named_modules ps) mode ≡ None
none_twice ps qs mode same h = sym (ap (λ (xs : List parts.Part). repeated_name (named_modules xs) mode) same) ∙ h

pub declare_references-requires : goal.declare_references-requires
declare_references-requires c =
    let ps = named_modules c.args.parts in
    let lent = c.as_slice-2.result.now in
    let many : length lent ≡ length (all_exports ps) = ap length c.as_slice-2.ensures ∙ c.in_ok-names.ensures.many ∙ ap (λ (xs : List parts.Part). length (all_exports (named_modules xs))) c.as_slice.ensures in
    record {
      few = c.in_ok-module.ensures.few;
      kept = λ le. none_undeclared c.operands_pass_layer_by_layer.ensures.inside c.operands_are_mapped.ensures.code ps lent c.in_ok-module.module c.declared_trees_are_valid.ensures.stays c.maps_have_entries.ensures.entries c.requires.linked.hold c.in_ok-module.ensures.is many
          (omega (arith, le, c.len.ensures, ap length c.as_slice-2.ensures));
    }

pub returns-in-Some-clause-fault : goal.returns-in-Some-clause-fault
returns-in-Some-clause-fault c =
    let ps = named_modules c.args.parts in
    let mode = c.args.mode in
    let e = is_joined c.args.parts c.as_slice.result.now mode c.in_ok-names.names c.as_slice-2.result.now c.in_ok-module.module c.declare_references.new.module
    c.in_ok-declare_references.ensures c.in_ok-module.ensures.is c.as_slice-2.ensures c.in_ok-names.ensures.names c.as_slice.ensures in
    inr (many_is (repeated_name ps mode) (over_limit (joined_module ps mode)) c.in-Some.which (joined_module ps mode) (none_twice c.args.parts c.as_slice.result.now mode c.as_slice.ensures (c.in_ok-names.ensures.none refl))
    (ap over_limit (sym e) ∙ sym c.over_limit.ensures ∙ c.in-Some.is))

pub returns-clause-joined : goal.returns-clause-joined
returns-clause-joined c =
    let ps = named_modules c.args.parts in
    let mode = c.args.mode in
    let e = is_joined c.args.parts c.as_slice.result.now mode c.in_ok-names.names c.as_slice-2.result.now c.in_ok-module.module c.declare_references.new.module
    c.in_ok-declare_references.ensures c.in_ok-module.ensures.is c.as_slice-2.ensures c.in_ok-names.ensures.names c.as_slice.ensures in
    module_is (repeated_name ps mode) (over_limit (joined_module ps mode)) (joined_module ps mode) c.declare_references.new.module (none_twice c.args.parts c.as_slice.result.now mode c.as_slice.ensures (c.in_ok-names.ensures.none refl))
    (ap over_limit (sym e) ∙ sym c.over_limit.ensures ∙ c.in-None.is) (sym e)
