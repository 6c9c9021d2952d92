-- The first counts of a module determine those of the module with its references declared, or tell
-- that a u32 can count its functions.
use Rattle.base_lists.proofs.Common.{◌≡◌, ◌∙◌, ap, sym, refl, ℕ, ◌<◌, ◌≤◌, Bool, true, false, cond, List, [], ◌∷◌, map, length, Option, Some, None, arith, nat_lt, length-append, length-map, filter_map_most}
use Rattle.wasm_tree_spec.specs.Prelude.{Which, Module, limit, func_of, funcs_of, imported_funcs}
use Rattle.wasm_tree.specs.declared.which.Which.TheVariants as which
use Rattle.module_limits.specs.Counts.{over_limit}
use Rattle.wasm_meaning.specs.Prelude.{Text}
use Rattle.index_remap.specs.Prelude.{declared, declared_refs, with_declared}
use Rattle.eval_spec.specs.Prelude.{State}
use Rattle.eval_snapshot_spec.specs.Snapshot.{declared_snapshot, snapshot_tree}
use Rattle.eval_snapshot.specs.Outcome.{first_counts}

chosen : (a b c : Bool) (x y z w : Which) (rest : Option Which) → cond a (Some x) (cond b (Some y) (cond c (Some z) None)) ≡ Some w → cond a (Some x) (cond b (Some y) (cond c (Some z) rest)) ≡ Some w
chosen true b c x y z w rest h = h
chosen false true c x y z w rest h = h
chosen false false true x y z w rest h = h
chosen false false false x y z w rest h = cc

over_with : (t : Module) (fs : List ℕ) (w : Which) → first_counts t ≡ Some w → over_limit (with_declared t fs) ≡ Some w
unfolding over_limit
over_with t [] w h = chosen (nat_lt (limit which.Types) (length t.types)) (nat_lt (limit which.Imports) (length t.imports)) (nat_lt (limit which.Functions) (length t.funcs)) which.Types which.Imports which.Functions w _ h
over_with t (f ∷ fs) w h = chosen (nat_lt (limit which.Types) (length t.types)) (nat_lt (limit which.Imports) (length t.imports)) (nat_lt (limit which.Functions) (length t.funcs)) which.Types which.Imports which.Functions w _ h

pub told_first : (m : Module) (s : State) (evaluated kept : List Text) (t : Module) (w : Which) → t ≡ snapshot_tree m s evaluated kept → first_counts t ≡ Some w → over_limit (declared_snapshot m s evaluated kept) ≡ Some w
unfolding declared_snapshot
told_first m s evaluated kept t w e h = ap (λ u. over_limit (declared u)) (sym e) ∙ over_with t (declared_refs t) w h

pub is_declared : (m : Module) (s : State) (evaluated kept : List Text) (t n : Module) → t ≡ snapshot_tree m s evaluated kept → n ≡ declared t → n ≡ declared_snapshot m s evaluated kept
unfolding declared_snapshot
is_declared m s evaluated kept t n e h = h ∙ ap declared e

none_above : (a b c : Bool) (x y z : Which) → cond a (Some x) (cond b (Some y) (cond c (Some z) None)) ≡ None → (b ≡ false) × (c ≡ false)
none_above true b c x y z h = cc
none_above false true c x y z h = cc
none_above false false true x y z h = cc
none_above false false false x y z h = (refl, refl)

pub few_funcs : (t : Module) → first_counts t ≡ None → length (funcs_of t) < 4294967296
few_funcs t h =
    let n = none_above (nat_lt (limit which.Types) (length t.types)) (nat_lt (limit which.Imports) (length t.imports)) (nat_lt (limit which.Functions) (length t.funcs)) which.Types which.Imports which.Functions h in
    let i = n.0 in
    let f = n.1 in
    let imports : length t.imports ≤ limit which.Imports = grind (arith, i) in
    let funcs : length t.funcs ≤ limit which.Functions = grind (arith, f) in
    let all = length-append (imported_funcs t.imports) (map (λ f. f.ty) t.funcs) in
    let own = length-map t.funcs (λ f. f.ty) in
    let some = filter_map_most (λ i. func_of i.desc) t.imports in
    omega (arith, imports, funcs, all, own, some)
