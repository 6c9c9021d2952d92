-- Small modules: one whose data segment holds a byte, one whose data segment holds a greater
-- number, so that it loads a number that is not an i32, and one with references, which begins in
-- range.
use Rattle.base_lists.proofs.Common.{◌≡◌, refl, subst, ℕ, arith, zero, suc, pos, List, [], ◌∷◌, map, Option, Some, None, true, slice_get}
use Rattle.base_lists.specs.Every.{Every}
use Rattle.base_lists.specs.Options.{◌>>=◌}
use Rattle.wasm_num.specs.Operations.{W32, wrapped}
use Rattle.wasm_tree.specs.declared.types.RefType.TheVariants as reft
use Rattle.wasm_tree_spec.specs.Prelude.{I32, FuncType, ElemSeg, Func, GlobalDef, Module}
use Rattle.wasm_tree.specs.declared.types.ValType.TheVariants.{Ref as RefT}
use Rattle.wasm_tree.specs.declared.instr.Instr.{out-Instr}
use Rattle.wasm_tree.specs.declared.instr.Instr.TheVariants as i
use Rattle.wasm_tree.specs.declared.instr.LoadOp.TheVariants.{I32Load8U}
use Rattle.wasm_tree.specs.declared.module.ConstExpr.TheVariants as const
use Rattle.wasm_tree.specs.declared.module.DataMode.TheVariants as data'
use Rattle.wasm_tree.specs.declared.module.ElemMode.TheVariants as elem
use Rattle.wasm_valid_bodies.specs.Typing.{Gives, WellTyped}
use Rattle.wasm_valid.specs.Prelude.{const_type, IsValid, body_context}
use Rattle.wasm_meaning.specs.Access.{little, load_to, load_width, loaded}
use Rattle.wasm_meaning.specs.Prelude.{FuncRef, ExternRef, Val, Num, Ref}
use Rattle.eval_spec.specs.Prelude.{state_of, evaluated}
use Rattle.eval_snapshot_proof.specs.Ranges.{BeginsInRange, IsExpressible, ValInRange}

-- A module whose function 0 loads byte 0 of the memory into global 0.
abbrev loads : (byte : ℕ) → Module
loads byte = record {
  types = record { params = []; results = [] } ∷ [];
  imports = [];
  funcs = record { ty = 0; locals = []; body = i.I32Const (pos 0) ∷ i.Load I32Load8U (record { align = 0; offset = 0; memory = 0 }) ∷ i.GlobalSet 0 ∷ [] } ∷ [];
  tables = [];
  mems = record { min = 1; max = None } ∷ [];
  globals = record { ty = record { ty = I32; mutable = true }; init = const.I32 (pos 0) } ∷ [];
  exports = [];
  start = None;
  elems = [];
  datas = record { mode = data'.Active 0 (const.I32 (pos 0)); bytes = byte ∷ [] } ∷ [];
}

-- The value of global 0 after a call of function 0.
abbrev loaded_by : Module → Option Val
loaded_by m = state_of (evaluated m (0 ∷ [])) >>= λ s. slice_get s.store.globals 0 >>= λ g. Some g.value

a_byte_begins : BeginsInRange (loads 255)
a_byte_begins = record { tables = tt; datas = ((omega arith, tt), tt) }

a_byte_is_loaded : loaded_by (loads 255) ≡ Some (Num W32 255)
unfolding out-Instr denote.Hole.Carrier.out wrapped load_to load_width loaded little
a_byte_is_loaded = refl

more_than_a_byte : BeginsInRange (loads 256) → ⊥
more_than_a_byte h = let lt = h.datas.0.0 in omega (arith, lt)

too_much_is_loaded : loaded_by (loads 4294967296) ≡ Some (Num W32 4294967296)
unfolding out-Instr denote.Hole.Carrier.out wrapped load_to load_width loaded little
too_much_is_loaded = refl

which_is_no_i32 : ValInRange (Num W32 4294967296) → ⊥
which_is_no_i32 h = omega (arith, h)

-- ---- references ----

abbrev nothing : FuncType
nothing = record { params = []; results = [] }

abbrev takes_slot : Func
takes_slot = record { ty = 0; locals = []; body = i.I32Const (pos 0) ∷ i.TableGet 0 ∷ i.GlobalSet 1 ∷ [] }

abbrev null_extern : GlobalDef
null_extern = record { ty = record { ty = RefT reft.Extern; mutable = true }; init = const.Null reft.Extern }

abbrev null_func : GlobalDef
null_func = record { ty = record { ty = RefT reft.Func; mutable = true }; init = const.Null reft.Func }

abbrev slot_zero : ElemSeg
slot_zero = record { mode = elem.Active 0 (const.I32 (pos 0)); ty = reft.Func; items = const.Func 0 ∷ [] }

-- A module whose globals are both null at first. Function 0 sets the second to the content of slot
-- 0, which is function 0.
abbrev refers : Module
refers = record {
  types = nothing ∷ [];
  imports = [];
  funcs = takes_slot ∷ [];
  tables = record { ty = reft.Func; limits = record { min = 1; max = None } } ∷ [];
  mems = [];
  globals = null_extern ∷ null_func ∷ [];
  exports = [];
  start = None;
  elems = slot_zero ∷ [];
  datas = [];
}

it_is_typed : WellTyped (body_context refers takes_slot nothing) takes_slot.body [] []
it_is_typed = (
  [],
  (
    Some I32 ∷ [],
    (Gives [] (I32 ∷ []), refl, ([], [], refl, tt, refl)),
    (
      Some (RefT reft.Func) ∷ [],
      (Gives (I32 ∷ []) (RefT reft.Func ∷ []), refl, (Some I32 ∷ [], [], refl, (refl, tt), refl)),
      ([], (Gives (RefT reft.Func ∷ []) [], refl, (Some (RefT reft.Func) ∷ [], [], refl, (refl, tt), refl)), refl),
    ),
  ),
  tt,
)

its_item_is_a_function : (j : _) (e : _) → slice_get slot_zero.items j ≡ Some e → const_type refers e ≡ Some (RefT reft.Func)
its_item_is_a_function zero e at = let same : const.Func 0 ≡ e = cc in subst (λ e. const_type refers e ≡ Some (RefT reft.Func)) same refl
its_item_is_a_function (suc j) e at = cc

it_is_valid : IsValid refers
it_is_valid = (
  (takes_slot, refl, omega arith),
  (
    (record { ty = reft.Func; limits = record { min = 1; max = None } }, refl, tt),
    (
      (null_extern, refl, refl),
      ((null_func, refl, refl), ((slot_zero, refl, its_item_is_a_function, (refl, refl)), ((takes_slot, nothing, refl, refl, it_is_typed), tt))),
    ),
  ),
)

it_begins : BeginsInRange refers
it_begins = record { tables = (omega arith, tt); datas = tt }

-- The values of the globals after a call of function 0.
abbrev left_in : Module → Option (List Val)
left_in m = state_of (evaluated m (0 ∷ [])) >>= λ s. Some (map (λ g. g.value) s.store.globals)

it_holds_itself : left_in refers ≡ Some (Ref (ExternRef None) ∷ Ref (FuncRef (Some 0)) ∷ [])
unfolding out-Instr denote.Hole.Carrier.out wrapped
it_holds_itself = refl

which_is_its_own : Every IsExpressible (Ref (ExternRef None) ∷ Ref (FuncRef (Some 0)) ∷ [])
which_is_its_own = (tt, (tt, tt))

what_is_not : IsExpressible (Ref (ExternRef (Some 0))) → ⊥
what_is_not h = h
