-- The snapshot of a module, assembled list by list.
use Rattle.base_lists.proofs.Common.{◌≡◌, ◌∙◌, ap, ap₂, refl, ℕ, List, [], ◌∷◌, ◌++◌, length, None, arith}
use Rattle.std.proofs.Common.{filter_map}
use Rattle.wasm_tree_spec.specs.Prelude.{Export, GlobalDef, Module, funcs_of, imported_globals}
use Rattle.wasm_meaning.specs.Prelude.{Text}
use Rattle.eval_spec.specs.Prelude.{State}
use Rattle.eval_machine.specs.declared.kept.Kept.{Kept}
use Rattle.eval_machine.specs.Prelude.{state_in}
use Rattle.eval_snapshot_spec.specs.Snapshot.{added_funcs, export_left, globals_left, memory_segments, old_segments, snapshot, snapshot_tree}

-- The tree of the snapshot is made by replacing the data segments, then the globals, the functions
-- and the exports.
pub tree_is : (m : Module) (s : State) (evaluated kept : List Text) (n i : ℕ) (put t : Module) (gs : List GlobalDef) (es : List Export) → n ≡ length (funcs_of m) → i ≡ length (imported_globals m.imports) →
    put ≡ record m { datas = old_segments m s ++ memory_segments m s } → gs ≡ globals_left m s i put.globals → t ≡ record put { globals = gs; funcs = put.funcs ++ added_funcs put evaluated kept } →
    es ≡ filter_map (export_left evaluated kept n) t.exports → record t { exports = es; start = None } ≡ snapshot_tree m s evaluated kept
tree_is m s evaluated kept n i put t gs es en ei ep eg et ee = rw (ee, et, eg, ep, en, ei) refl

-- The snapshot is the module itself if no constructor was evaluated.
pub of_none : (m : Module) (s : State) (evaluated kept : List Text) → length evaluated ≡ 0 → m ≡ snapshot m s evaluated kept
of_none m s [] kept e = refl
of_none m s (name ∷ names) kept e = absurd (omega (arith, e))

-- A snapshot of an equal module with equal names is the same snapshot.
pub of_same : (m n t : Module) (k : Kept) (evaluated ev kept kp : List Text) → t ≡ snapshot n (state_in n k) ev kp → n ≡ m → ev ≡ evaluated → kp ≡ kept → t ≡ snapshot m (state_in m k) evaluated kept
of_same m n t k evaluated ev kept kp h a b c = h ∙ (ap (λ n. snapshot n (state_in n k) ev kp) a ∙ ap₂ (snapshot m (state_in m k)) b c)
