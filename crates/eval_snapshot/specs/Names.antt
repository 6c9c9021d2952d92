-- How exports are looked up by name, and how single exports and segments change.
use Rattle.std.specs.Prelude.{◌≡◌, ℕ, List, Bool, true, not, ◌&&◌, ◌||◌, cond, Some, None}
use Rattle.std.specs.BTreeMap.{BTreeMap, get_by}
use Rattle.std.specs.Ordering.{nat_cmp}
use Rattle.std.specs.Cmp.Lexicographic.{slice_cmp}
use denote.Ref.{Bor}
use Rattle.wasm_tree_spec.specs.Prelude.{DataSeg, Export}
use Rattle.wasm_tree.specs.declared.module.ExportDesc.TheVariants as ex
use Rattle.wasm_meaning.specs.Prelude.{Text}
use Rattle.eval_snapshot_spec.specs.Snapshot.{emptied, is_among_names, is_passive}

-- The map has these names.
abbrev pub HasNames : List Text → BTreeMap (Bor (List ℕ)) Bool → Type 0
HasNames names all = (name : List ℕ) → get_by (λ k. slice_cmp nat_cmp name k.now) all ≡ cond (is_among_names names name) (Some true) None

-- The map has the names of the evaluated constructors, each with whether its export is kept.
abbrev pub HasEvaluated : (evaluated kept : List Text) → BTreeMap (Bor (List ℕ)) Bool → Type 0
HasEvaluated evaluated kept all = (name : List ℕ) → get_by (λ k. slice_cmp nat_cmp name k.now) all ≡ cond (is_among_names evaluated name) (Some (is_among_names kept name)) None

-- Whether the export stays, unchanged or for the empty function.
abbrev pub stays : (evaluated kept : List Text) → Export → Bool
stays evaluated kept e = not (is_among_names evaluated e.name) || is_among_names kept e.name

-- The export, which denotes the empty function if it is that of an evaluated constructor.
abbrev pub redirected : (evaluated : List Text) → (empty : ℕ) → Export → Export
redirected evaluated empty e = cond (is_among_names evaluated e.name) (record e { desc = ex.Func empty }) e

-- What is left of a data segment, if it is known whether the segment is dropped.
abbrev pub left_or_emptied : (dropped : Bool) → DataSeg → DataSeg
left_or_emptied dropped d = cond (is_passive d.mode && not dropped) d emptied
