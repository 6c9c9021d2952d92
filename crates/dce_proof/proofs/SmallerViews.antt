-- An environment that links a module links it with a view of only the kept exports.
use Rattle.base_lists.proofs.Common.{◌≡◌, refl, List, [], ◌∷◌, Option, Some, None, Bool, true, false, cond, all_there_at, all_there_from, and_then_is, is_some_there}
use Rattle.base_lists.specs.Options.{all_there}
use Rattle.wasm_tree_spec.specs.Prelude.{Module}
use Rattle.wasm_tree.specs.declared.module.ExportDesc.TheVariants as ex
use Rattle.wasm_meaning.specs.Prelude.{Text, Environment, Inst, Store, ExternalValue, World, all_of, alone, insts_from, instantiate, is_matched, links, own_store, seen_as, sites, stores_from}
use Rattle.base_kept.specs.Kept.{kept}
use Rattle.base_kept.proofs.Laws.{kept_from}
use Rattle.dce_spec.specs.Marks.{Marks}
use Rattle.dce_spec.specs.Unswept.{unswept}
use Rattle.dce_proof.specs.SmallerViews.{SmallerViewsLink}

-- What is there for each element is there for each that is kept.
kept_there : {A B : Type 0} (f : A → Option B) (bs : List Bool) (xs : List A) (ys : List B) → all_there f xs ≡ Some ys → (zs : List B) × (all_there f (kept bs xs) ≡ Some zs)
kept_there f bs xs ys h =
    let all = all_there_from f (kept bs xs) (λ n x at.
    let k = kept_from bs xs n x at in
    let y = all_there_at f xs ys h k.place x k.is in
    (y.0, y.1)) in
    (all.results, all.are)

is_met : {A : Type 0} (b : Bool) (x y : A) → cond b (Some x) None ≡ Some y → b ≡ true
is_met true x y h = refl
is_met false x y h = cc

-- What an instantiation asks for, one by one.
links_by : (env : Environment) (w : World) (is : List Inst) (s : Store) (view : List (Text × ExternalValue)) → insts_from env w.parts 0 w.parts ≡ Some is → stores_from env w.parts is (own_store env) 0 w.parts is ≡ Some s →
    all_there (seen_as is) w.view ≡ Some view → all_of (is_matched env w.parts s) (sites w.parts) ≡ true → links env w ≡ true
links_by env w is s view insts store seen met = rw (insts, store, seen, met) refl

pub smaller_views_link : SmallerViewsLink
smaller_views_link k t env h =
    let whole = alone t in
    let o = is_some_there (instantiate env whole) h in
    let i = and_then_is (insts_from env whole.parts 0 whole.parts) _ o.0 o.1 in
    let s = and_then_is (stores_from env whole.parts i.0 (own_store env) 0 whole.parts i.0) _ o.0 i.2 in
    let view = and_then_is (all_there (seen_as i.0) whole.view) _ o.0 s.2 in
    let met = is_met (all_of (is_matched env whole.parts s.0) (sites whole.parts)) _ o.0 view.2 in
    let few = kept_there (seen_as i.0) k.exports whole.view view.0 view.1 in
    links_by env (unswept k t) i.0 s.0 few.0 i.1 s.1 few.1 met

-- ---- the converse does not hold ----

-- A module, not valid, that exports a function which it does not have. The empty environment links
-- it only without that export.
abbrev exports_nothing : Module
exports_nothing = record { types = []; imports = []; funcs = []; tables = []; mems = []; globals = []; exports = record { name = 102 ∷ []; desc = ex.Func 0 } ∷ []; start = None; elems = []; datas = [] }

abbrev without_exports : Marks
without_exports = record { exports = false ∷ []; imports = []; funcs = []; globals = [] }

it_does_not_link : links [] (alone exports_nothing) ≡ false
it_does_not_link = refl

it_links_with_a_smaller_view : links [] (unswept without_exports exports_nothing) ≡ true
it_links_with_a_smaller_view = refl
