use Rattle.base_lists.proofs.Common.{◌≡◌, ◌∙◌, sym, ap, subst, refl, ℕ, ◌≤◌, List, Some, IsTrue, arith, slice_get, get_or, slice_get_within, get_or_from_slice_get, set_other, none_past}
use Rattle.wasm_tree_spec.specs.Prelude.{ConstExpr, Module}
use Rattle.wasm_meaning.specs.Linking as linking
use Rattle.wasm_meaning.specs.Prelude.{module_at}
use Rattle.index_remap.specs.declared.remap.Remap.{Remap}
use Rattle.index_remap.specs.Prelude.{fits_tree}
use Rattle.merge_spec.specs.declared.parts.Part.{Part}
use Rattle.merge_spec.specs.Prelude.{named_modules, map_of}
use Rattle.merge_join.specs.Moved.{AreValues, AreAllValues}
use Rattle.merge_join.specs.LinkedParts.{AreMaps}
use Rattle.merge_join.proofs.ByPart.{each_at, each_within}
use Rattle.merge_join.proofs.MovedParts.{module_of_part, moved_more, moved_all}
use Rattle.merge_join.proofs.moving.moved_parts.Goals as goal
use Rattle.merge_join.proofs.moving.moved_parts.Goals.{in-Some+in_ok-move_part, in_default}

-- The part that is taken out is the original part at that place.
taken : (parts left : List Part) (at : ℕ) (x : Part) (m : Module) → ((n : ℕ) → at ≤ n → slice_get left n ≡ slice_get parts n) → Some x ≡ slice_get left at → m ≡ x.«module» → module_at (named_modules parts) at ≡ Some m
taken parts left at x m same is of = module_of_part parts at x (sym (same at (omega arith)) ∙ sym is) ∙ ap Some (sym of)

map_is : (ps : List linking.Part) (maps : List Remap) (at : ℕ) (m : Module) (r : Remap) → AreMaps ps maps → module_at ps at ≡ Some m → r ≡ get_or maps at r → r ≡ map_of ps at m
map_is ps maps at m r are here is = is ∙ get_or_from_slice_get maps at (map_of ps at m) r (ap (λ x. slice_get x at) are ∙ each_at (map_of ps) ps at m here)

values_are : (ps : List linking.Part) (all : List (List ConstExpr)) (at : ℕ) (m : Module) (values lent : List ConstExpr) → AreAllValues ps all → module_at ps at ≡ Some m → values ≡ get_or all at values → lent ≡ values → AreValues ps at lent
values_are ps all at m values lent are here is same =
    let v = are at m here in
    subst (AreValues ps at) (sym (same ∙ is ∙ get_or_from_slice_get all at v.0 values v.1)) v.2

pub bounds-maps-at : goal.bounds-maps-at
bounds-maps-at c =
    let ps = named_modules c.args.parts in
    let at = taken c.args.parts c.loop-at.parts c.loop-at.at c.in-Some.part.now c.in-Some.part.now.«module» c.loop-at.invariant.0 c.in-Some.ensures.value refl in
    each_within (map_of ps) ps c.args.maps.now c.loop-at.at c.in-Some.part.now.«module» c.requires.maps at

pub bounds-values-at : goal.bounds-values-at
bounds-values-at c =
    let at = taken c.args.parts c.loop-at.parts c.loop-at.at c.in-Some.part.now c.in-Some.part.now.«module» c.loop-at.invariant.0 c.in-Some.ensures.value refl in
    let v = c.requires.values c.loop-at.at c.in-Some.part.now.«module» at in
    slice_get_within c.args.values.now c.loop-at.at v.0 v.1

pub move_part-requires : goal.move_part-requires
move_part-requires c =
    let ps = named_modules c.args.parts in
    let m = c.in-Some.part.now.«module» in
    let at = taken c.args.parts c.loop-at.parts c.loop-at.at c.in-Some.part.now m c.loop-at.invariant.0 c.in-Some.ensures.value refl in
    let is = map_is ps c.args.maps.now c.loop-at.at m c.index-maps-at.result c.requires.maps at c.index-maps-at.is in
    record { fits = subst (λ (r : Remap). IsTrue (fits_tree r m)) (sym is) (c.maps_have_entries.ensures.entries ps c.loop-at.at m (c.requires.hold c.loop-at.at m at).0) }

pub loop-at-preserved : goal.loop-at-preserved
loop-at-preserved c =
    let ps = named_modules c.args.parts in
    let i = c.loop-at.at in
    elim c.match-get_mut.branch [
      | in-Some+in_ok-move_part w ↦
          let m = w.in-Some.part.now.«module» in
          let at = taken c.args.parts c.loop-at.parts i w.in-Some.part.now m c.loop-at.invariant.0 w.in-Some.ensures.value refl in (
            (λ n le. ap (λ xs. slice_get xs n) w.parts-is ∙ set_other c.loop-at.parts i n _ (omega (arith, le)) ∙ c.loop-at.invariant.0 n (omega (arith, le))),
            moved_more c.valid_where_items_hold.ensures ps i m w.index-maps-at.result w.as_slice.result.now c.loop-at.tree c.match-get_mut.tree at (c.requires.hold i m at).0
                (map_is ps c.args.maps.now i m w.index-maps-at.result c.requires.maps at w.index-maps-at.is)
                (values_are ps c.args.values.now i m w.index-values-at.result w.as_slice.result.now c.requires.values at w.index-values-at.is w.as_slice.ensures)
                c.loop-at.invariant.1 (w.tree-is ∙ w.in_ok-move_part.ensures),
          )
      | in_default w ↦ absurd (omega (arith, c.loop-at-test.true, c.len-at-end.ensures, none_past c.args.parts i (w.in_default.ensures.value ∙ c.loop-at.invariant.0 i (omega arith))))
    ]

pub returns : goal.returns
returns c = moved_all c.args.parts c.loop-at.at c.loop-at.tree (omega (arith, c.loop-at-test.false, c.len-at-end.ensures)) c.loop-at.invariant.1
