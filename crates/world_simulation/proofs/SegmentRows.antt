-- Element segments that correspond, and others that do not.
use Rattle.base_lists.proofs.Common.{refl, arith, List, [], ◌∷◌, Option, Some, None, false}
use Rattle.wasm_tree.specs.declared.types.RefType.TheVariants as reft
use Rattle.wasm_tree_spec.specs.Prelude.{ConstExpr, ElemMode, ElemSeg}
use Rattle.wasm_tree.specs.declared.module.ConstExpr.TheVariants as const
use Rattle.wasm_tree.specs.declared.module.ElemMode.TheVariants as elem
use Rattle.wasm_meaning.specs.Prelude.{FuncRef, Val, Ref}
use Rattle.run_simulation.specs.Prelude.{Pairing, some, cons, nil, reference, func, none, passed}
use Rattle.world_simulation.specs.Prelude.{ElemsCorrespond}
use Rattle.world_simulation.specs.CorrespondingDefinitions.{declared, kept}

-- The relation relates nothing.
abbrev R : Pairing
R = passed (λ k a b. false) (λ k a b. false) []

-- The value of a function index is that function, and the value of any other expression is null.
abbrev value : ConstExpr → Option Val
value (const.Func f) = Some (Ref (FuncRef (Some f)))
value _ = Some (Ref (FuncRef None))

abbrev segment : List ConstExpr → ElemMode → ElemSeg
segment items mode = record { ty = reft.Func; items = items; mode = mode }

abbrev of_null : List ConstExpr
of_null = const.Null reft.Func ∷ []

-- A declarative segment corresponds to one without its item.
items_are_gone : ElemsCorrespond R value value (segment (const.Func 0 ∷ []) elem.Declarative) (segment [] elem.Declarative)
items_are_gone = declared refl refl

nulls_are_related : ElemsCorrespond R value value (segment of_null elem.Passive) (segment of_null elem.Passive)
nulls_are_related = kept refl refl (cons (some (reference (func none))) nil)

-- A passive segment keeps its items, and a declarative segment is no passive one.
not_without_its_item : ElemsCorrespond R value value (segment (const.Func 0 ∷ []) elem.Passive) (segment [] elem.Passive) → ⊥
not_without_its_item h = grind arith

not_of_another_mode : ElemsCorrespond R value value (segment of_null elem.Declarative) (segment of_null elem.Passive) → ⊥
not_of_another_mode h = grind arith
