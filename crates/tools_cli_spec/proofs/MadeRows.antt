-- The outputs of the tasks in FaithfulRows.antt are made of the modules that these read, computed:
-- for any bytes that encode these modules, and for a split for any such bytes without a name
-- section.
use Rattle.base_lists.proofs.Common.{◌≡◌, refl, sym, ap, subst, ◌∙◌, zero, suc, List, [], ◌∷◌, length, true, false, Some, None, Ok, inr, true≢false, rules, arith, codes, Contains}
use Rattle.std.specs.Fmt.{digits}
use Rattle.std.specs.Str.{is_utf8, chars}
use Rattle.serde_json.proofs.OnLiterals.{serde_json_on_literals}
use Rattle.base_lists.specs.Every.{Every}
use Rattle.wasm_tree_spec.specs.Prelude.{fold_out-Instr, the_lemmas}
use Rattle.wasm_tree.specs.declared.instr.Instr.{out-Instr}
use Rattle.wasm_num.specs.Operations.{wrapped, signed}
use Rattle.wasm_meaning.specs.Prelude.{Text}
use Rattle.module_limits.specs.Counts.{over_limit}
use Rattle.merge_names.specs.Names.{conflict_behind}
use Rattle.merge_spec.specs.Faults.{link_fault, import_fault, stays, kept_limits, clash_fault, memory_count, memory_fault, defined_globals, global_fault}
use Rattle.merge_spec.specs.Merged.{staying, staying_of, place_of_end, new_index, merged_types, place_of_type, map_of, merged_const, merged_import, starts, defined_funcs, all_exports, merged}
use Rattle.merge_spec.specs.Joined.{joined_module, repeated_name}
use Rattle.dce_graph.specs.declared.graph.Graph.{Graph}
use Rattle.dce_graph.specs.declared.point.Point.{Point}
use Rattle.dce_graph.specs.Prelude.{graph_result, marked, flags, IsReached, root, along, edges, point_count}
use Rattle.dce_spec.specs.Reached.{marks_of}
use Rattle.dce_spec.specs.Swept.{swept}
use Rattle.wasm_names.specs.declared.func_name.FuncName.{FuncName}
use Rattle.wasm_names.specs.NameList.{SpellsFunctionNames}
use Rattle.split_spec.specs.Prelude.{split_fault, primary, secondary}
use Rattle.split_spec.specs.Primary.{primary_with}
use Rattle.split_spec.specs.Secondary.{secondary_with}
use Rattle.eval_snapshot_spec.specs.Evaluated.{evaluated_tree}
use Rattle.eval_snapshot_spec.specs.Snapshot.{declared_snapshot}
use Rattle.tools_cli_spec.specs.Prelude.{Merge, Metadce, Split, CtorEval, Sample, parts_of, AreMerged, sample_merge}
use Rattle.tools_cli_spec.specs.Faithful.{AreMade}
use Rattle.tools_cli_spec.proofs.FaithfulRows.{f, a, with, asking, merging, calling, both, sweeping, reached, without_a, splitting, keeping, moving, f_moves, evaluating, set_to_7, sampling, passing, drawn, they_are_drawn, sampled}
use Rattle.merge_names.specs.declared.mode.Mode.TheVariants as mode
use Rattle.dce_graph.specs.declared.point.Point.TheVariants as point

-- ---- merge ----

they_are_both : joined_module (parts_of merging.sources (with asking ∷ calling ∷ [])) mode.Refuse ≡ both asking
unfolding joined_module merged staying staying_of place_of_end new_index merged_types place_of_type map_of merged_const
    merged_import starts defined_funcs all_exports stays out-Instr denote.Hole.Carrier.out
they_are_both = simp fold_out-Instr refl

both_are_made : (first second : Text) → AreMade (Merge merging) (with asking ∷ calling ∷ []) (first ∷ second ∷ []) tt (both asking ∷ [])
unfolding link_fault import_fault stays kept_limits clash_fault memory_count memory_fault defined_globals global_fault repeated_name conflict_behind all_exports over_limit
both_are_made first second = (refl, rw they_are_both refl)

-- ---- metadce ----

-- The graph has one node, which is a root and denotes the export `f`.
abbrev graph_text : Text
graph_text = codes "[{\"name\":\"n\",\"root\":true,\"export\":\"f\"}]"

abbrev graph : Graph
graph = record { nodes = record { name = codes "n"; root = true; reaches = []; export = Some f; import = None } ∷ [] }

it_is_read : graph_result graph_text ≡ Ok graph
unfolding serde_json_on_literals is_utf8 chars
it_is_read = refl

f_leads : edges graph (with asking) (point.Func 1) ≡ point.Func 0 ∷ point.Global 0 ∷ []
f_leads = search (rules, the_lemmas)

abbrev IsMet : Point → Type 0
IsMet = IsReached graph (with asking)

are_met : IsMet (point.Node 0) × IsMet (point.Export 0) × IsMet (point.Func 1) × IsMet (point.Func 0) × IsMet (point.Global 0) × IsMet (point.Import 0)
are_met =
    let node : IsMet (point.Node 0) = root (omega arith) (0, omega arith, refl) in
    let exported : IsMet (point.Export 0) = along node (omega arith) (0, omega arith, refl) in
    let body : IsMet (point.Func 1) = along exported (omega arith) (0, omega arith, refl) in
    let callee : IsMet (point.Func 0) = along body (omega arith) (subst (λ ps. Contains ps (point.Func 0)) (sym f_leads) (0, omega arith, refl)) in
    let read : IsMet (point.Global 0) = along body (omega arith) (subst (λ ps. Contains ps (point.Global 0)) (sym f_leads) (1, omega arith, refl)) in
    (node, exported, body, callee, read, along callee (omega arith) (0, omega arith, refl))

abbrev IsMarked : Point → Type 0
IsMarked p = marked reached p ≡ true

-- A marked point is met and leads only to marked points.
are_right : (p : Point) → IsMarked p → IsMet p × Every IsMarked (edges graph (with asking) p)
are_right (point.Node zero) h = (are_met.0, (refl, tt))
are_right (point.Export zero) h = (are_met.1, (refl, tt))
are_right (point.Export (suc zero)) h = absurd (true≢false (sym h))
are_right (point.Func (suc zero)) h = (are_met.2, subst (Every IsMarked) (sym f_leads) (refl, (refl, tt)))
are_right (point.Func (suc (suc zero))) h = absurd (true≢false (sym h))
are_right (point.Func zero) h = (are_met.3, (refl, tt))
are_right (point.Global zero) h = (are_met.4, tt)
are_right (point.Import zero) h = (are_met.5, tt)
are_right p h = absurd (true≢false (sym h))

every_in : {A : Type 0} (P : A → Type 0) (xs : List A) (x : A) → Every P xs → Contains xs x → P x
every_in P [] x all (k, lt, e) = absurd (omega (arith, lt))
every_in P (y ∷ ys) x all (zero, lt, e) = subst P e all.0
every_in P (y ∷ ys) x all (suc k, lt, e) = every_in P ys x all.1 (k, omega (arith, lt), e)

are_marked : (p : Point) → IsMet p → IsMarked p
are_marked p (root th h) = every_in IsMarked (point.Node 0 ∷ []) p (refl, tt) h
are_marked q (along {p = p} met th h) = every_in IsMarked (edges graph (with asking) p) q (are_right p (are_marked p met)).1 h

it_is_swept : swept (marks_of reached) (with asking) ≡ without_a asking
unfolding swept
it_is_swept = search (rules, the_lemmas)

without_a_is_made : (bytes : Text) → AreMade (Metadce sweeping) (with asking ∷ []) (bytes ∷ graph_text ∷ []) reached (without_a asking ∷ [])
unfolding over_limit
without_a_is_made bytes = (graph, record { read = it_is_read; exact = record { exactly = λ p. ((λ h. (are_right p h).0), are_marked p); one_each = one_each } }, rw it_is_swept refl)
  where
    one_each : (p : Point) → length (flags reached p) ≡ point_count graph (with asking) p
    one_each (point.Node n) = refl
    one_each (point.Export n) = refl
    one_each (point.Import n) = refl
    one_each (point.Func n) = refl
    one_each (point.Global n) = refl

-- ---- split ----

the_secondary : secondary splitting.names (with asking) (1 ∷ []) ≡ moving asking
unfolding secondary_with digits
the_secondary = search (rules, the_lemmas)

the_primary : primary splitting.names (with asking) (1 ∷ []) ≡ keeping
unfolding primary_with digits
the_primary = search (rules, the_lemmas)

nothing_is_at_fault : split_fault splitting.names (with asking) (1 ∷ []) ≡ None
unfolding digits over_limit
nothing_is_at_fault = search (rules, the_lemmas, the_primary, the_secondary)

the_pair_is_made : (bytes : Text) → ((names : List FuncName) → SpellsFunctionNames bytes names → ⊥) → AreMade (Split splitting) (with asking ∷ []) (bytes ∷ []) [] (moving asking ∷ keeping ∷ [])
the_pair_is_made bytes unnamed = (
  record { named = inr (unnamed, refl); planned = search (rules, the_lemmas) },
  ap (split_fault splitting.names (with asking)) f_moves ∙ nothing_is_at_fault,
  sym (ap (secondary splitting.names (with asking)) f_moves ∙ the_secondary),
  sym (ap (primary splitting.names (with asking)) f_moves ∙ the_primary),
)

-- ---- ctor-eval ----

it_begins_with_7 : evaluated_tree (with asking) (a ∷ []) [] ≡ set_to_7 asking
unfolding declared_snapshot out-Instr denote.Hole.Carrier.out wrapped signed
it_begins_with_7 = search (rules, the_lemmas)

set_to_7_is_made : (bytes : Text) → AreMade (CtorEval evaluating) (with asking ∷ []) (bytes ∷ []) tt (set_to_7 asking ∷ [])
unfolding over_limit
set_to_7_is_made bytes = (rw it_begins_with_7 refl, sym it_begins_with_7)

-- ---- sample ----

drawn_are_joined : joined_module (parts_of sample_merge.sources drawn) mode.Refuse ≡ sampled passing
unfolding joined_module merged staying staying_of place_of_end new_index merged_types place_of_type map_of merged_const
    merged_import starts defined_funcs all_exports stays out-Instr denote.Hole.Carrier.out
drawn_are_joined = simp fold_out-Instr refl

drawn_are_merged : AreMerged false (parts_of sample_merge.sources drawn) mode.Refuse (sampled passing)
unfolding link_fault import_fault stays kept_limits clash_fault memory_count memory_fault defined_globals global_fault repeated_name conflict_behind all_exports over_limit
drawn_are_merged = (refl, rw drawn_are_joined refl)

sampled_is_made : AreMade (Sample sampling) [] [] tt (sampled passing ∷ [])
sampled_is_made = (subst (λ parts. AreMerged false parts mode.Refuse (sampled passing)) (sym they_are_drawn) drawn_are_merged, tt)
