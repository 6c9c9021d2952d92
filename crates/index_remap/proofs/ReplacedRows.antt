-- Small code in which calls are replaced: what replaces what, and that a body stays well typed
-- where a branch to a label around the call stands in its place.
use Rattle.base_lists.proofs.Common.{◌≡◌, ℕ, List, [], ◌∷◌, zero, suc, Option, Some, None, refl, sym, ap, subst, arith, rules, true≢false, Contains}
use Rattle.wasm_tree_spec.specs.Prelude.{FuncType, Instr, end_of-Instr, more_of-Instr, the_lemmas, Block, Block', Br, Call, CallIndirect, LocalGet, Nop, ListLayers}
use Rattle.wasm_tree.specs.declared.types.BlockType.TheVariants as bt
use Rattle.wasm_tree.specs.declared.instr.Instr.{out-Instr}
use Rattle.wasm_tree.specs.declared.instr.Instr.TheViews.{outs-Block'}
use Rattle.wasm_valid_bodies.specs.Typing.{Gives, Leaves, Context, WellTyped}
use Rattle.index_remap.specs.declared.remap.Remap.{Remap}
use Rattle.index_remap.specs.Prelude.{renumbered, func_type, LayerAgrees, labelled, Labels, Codes, Replaced, OthersAgree, CodesHaveTypes}
use Rattle.index_remap.proofs.Replacing.{replaced_typed}

the_only : {A : Type 0} (x : A) → Contains (x ∷ []) x
the_only x = (0, omega arith, refl)

-- Function 0 is called through table 1, and function 1 becomes function 5; the entry of function 0
-- is not used.
abbrev moved : Remap
moved = record { types = []; funcs = 9 ∷ 5 ∷ []; tables = []; mems = []; globals = []; elems = []; datas = [] }

abbrev through_slot : Codes
through_slot labels f = (LocalGet 0 ∷ CallIndirect 0 1 ∷ []) ∷ []

moved_nop : renumbered moved Nop ≡ Nop
moved_nop = search (rules, the_lemmas)

moved_call : renumbered moved (Call 1) ≡ Call 5
moved_call = search (rules, the_lemmas)

abbrev held : List Instr
held = Nop ∷ LocalGet 0 ∷ CallIndirect 0 1 ∷ []

a_call_in_a_block : Replaced [] moved (0 ∷ []) through_slot [] (Call 1 ∷ Block' bt.Empty (_ ∷ _ ∷ []) (more_of-Instr Nop (more_of-Instr (Call 0) end_of-Instr)) ∷ []) (Call 5 ∷ Block bt.Empty held ∷ [])
a_call_in_a_block = (
  Call 5 ∷ [],
  Block bt.Empty held ∷ [],
  ap (λ i. i ∷ []) (sym moved_call),
  (
    Block bt.Empty held ∷ [],
    [],
    (held, (Nop ∷ [], LocalGet 0 ∷ CallIndirect 0 1 ∷ [], ap (λ i. i ∷ []) (sym moved_nop), (LocalGet 0 ∷ CallIndirect 0 1 ∷ [], [], the_only _, refl, refl), refl), refl),
    refl,
    refl,
  ),
  refl,
)

-- ---- code that branches ----

-- The context has one function, of type [] to [].
abbrev one_function : Context
one_function =
    record { types = record { params = []; results = [] } ∷ []; funcs = 0 ∷ []; tables = []; memories = 0; globals = []; elems = []; datas = 0; named = []; locals = []; results = []; labels = [] }

-- A branch to the innermost label may replace a call if that label takes nothing.
abbrev branching : Codes
branching [] f = []
branching ([] ∷ ls) f = (Br 0 ∷ []) ∷ []
branching ((t ∷ ts) ∷ ls) f = []

abbrev the_type : Option FuncType → FuncType
the_type None = record { params = []; results = [] }
the_type (Some t) = t

-- A branch to a label that takes nothing has the type of the function.
branch_typed : (ls : Labels) (f : ℕ) (t : FuncType) → func_type one_function f ≡ Some t → WellTyped (labelled one_function ([] ∷ ls)) (Br 0 ∷ []) t.params t.results
branch_typed ls zero t e = subst (λ u. WellTyped (labelled one_function ([] ∷ ls)) (Br 0 ∷ []) u.params u.results) (ap the_type e) ([], ([], (Leaves [], refl, ([], [], refl, tt)), refl), tt)
branch_typed ls (suc f) t e = cc

no_element : {A : Type 0} {x : A} → Contains [] x → ⊥
no_element (k, h, e) = absurd (omega (arith, h))

branches_have_the_type : CodesHaveTypes (0 ∷ []) branching one_function one_function
branches_have_the_type [] f code l h t g = absurd (no_element h)
branches_have_the_type ((u ∷ us) ∷ ls) f code l h t g = absurd (no_element h)
branches_have_the_type ([] ∷ ls) f code l (zero, h, e) t g = subst (λ c. WellTyped (labelled one_function ([] ∷ ls)) c t.params t.results) e (branch_typed ls f t g)
branches_have_the_type ([] ∷ ls) f code l (suc k, h, e) t g = absurd (omega (arith, h))

-- A block with a call in it, and then the block with a branch out of it in place of the call.
abbrev called : List Instr
called = Block' bt.Empty (_ ∷ []) (more_of-Instr (Call 0) end_of-Instr) ∷ []

abbrev branched : List Instr
branched = Block bt.Empty (Br 0 ∷ []) ∷ []

a_branch_stands_for_the_call : Replaced one_function.types moved (0 ∷ []) branching [] called branched
a_branch_stands_for_the_call = (branched, [], (Br 0 ∷ [], (Br 0 ∷ [], [], the_only _, refl, refl), refl), refl, refl)

the_call_is_well_typed : WellTyped one_function called [] []
the_call_is_well_typed =
    ([], ([], (record { params = []; results = [] }, refl, ([], ([], (Gives [] [], refl, ([], [], refl, tt, refl)), refl), tt), ([], [], refl, tt, refl)), refl), tt)

others_agree : ListLayers (OthersAgree moved (0 ∷ []) one_function one_function) called
unfolding out-Instr denote.Hole.Carrier.out
others_agree = ((λ _. subst (LayerAgrees moved one_function one_function) (sym (outs-Block' bt.Empty (_ ∷ []) (more_of-Instr (Call 0) end_of-Instr))) tt, (λ e. absurd (true≢false e), tt)), tt)

-- The law shows that the branch is well typed: it asks for the type of the code only under labels
-- where the code may stand.
the_branch_is_well_typed : WellTyped one_function branched [] []
the_branch_is_well_typed =
    replaced_typed moved (0 ∷ []) branching one_function one_function called branched [] [] (record { locals = refl; results = refl; labels = refl }) others_agree branches_have_the_type a_branch_stands_for_the_call the_call_is_well_typed
