-- A valid tree from which a function in the middle is removed, the last of its type: what is left
-- is valid by the law.
use Rattle.base_lists.proofs.Common.{◌≡◌, ℕ, zero, suc, ◌<◌, Bool, true, false, IsTrue, List, [], ◌∷◌, Option, Some, None, ap, refl, true≢false, sym, arith, rules, slice_get, slice_index, pos}
use Rattle.wasm_tree_spec.specs.Prelude.{Types, Functions, ValType, I32, FuncType, Instr, the_lemmas, Call, I32Const, Func, Export, Module, type_of_func, Layers}
use Rattle.wasm_tree.specs.declared.instr.Instr.{out-Instr}
use Rattle.wasm_tree.specs.declared.module.ExportDesc.TheVariants as ex
use Rattle.wasm_valid_bodies.specs.Typing.{Gives}
use Rattle.wasm_valid.specs.declared.kinds.ItemKind.TheVariants as kind
use Rattle.wasm_valid.specs.Prelude.{IsValid}
use Rattle.index_remap.specs.declared.remap.Remap.{Remap}
use Rattle.index_remap.specs.Prelude.{renumbered, Keeps}
use Rattle.index_remap_proof.specs.Indices.{Indices, LayerNamesOnly}
use Rattle.index_remap_proof.specs.Trees.{TreesAgree, RefsAgree, EachItemComesFrom}

-- The law of the clause `trees` of `renumbered_trees_are_valid`.
abbrev TreesStayValid : Type 0
TreesStayValid = (m : Remap) (kept : Indices) (t u : Module) → IsValid t → TreesAgree m kept t u → RefsAgree m kept t u → EachItemComesFrom m kept t u → IsValid u

abbrev gives_number : FuncType
gives_number = record { params = []; results = I32 ∷ [] }

abbrev gives_nothing : FuncType
gives_nothing = record { params = []; results = [] }

abbrev code : ℕ → List Instr → Func
code ty body = record { ty = ty; locals = []; body = body }

abbrev exported : ℕ → Export
exported func = record { name = 102 ∷ []; desc = ex.Func func }

abbrev tree : List Func → Export → Module
tree funcs e = record { types = gives_number ∷ gives_nothing ∷ []; imports = []; funcs = funcs; tables = []; mems = []; globals = []; exports = e ∷ []; start = None; elems = []; datas = [] }

-- The first function, which is exported, calls the third; nothing names the second.
abbrev before : Module
before = tree (code 1 (Call 2 ∷ []) ∷ code 0 (I32Const (pos 7) ∷ []) ∷ code 1 [] ∷ []) (exported 0)

abbrev after : Module
after = tree (code 1 (Call 1 ∷ []) ∷ code 1 [] ∷ []) (exported 0)

-- The second function has an entry as well, the same as the first.
abbrev map : Remap
map = record { types = 0 ∷ 1 ∷ []; funcs = 0 ∷ 0 ∷ 1 ∷ []; tables = []; mems = []; globals = []; elems = []; datas = [] }

abbrev kept_func : ℕ → Bool
kept_func zero = true
kept_func (suc zero) = false
kept_func (suc (suc i)) = true

abbrev kept : Indices
kept Functions = kept_func
kept space = λ i. true

apart : Some gives_nothing ≡ Some gives_number → ⊥
apart e = absurd (let k = ap count e in cc)
  where
    count : Option FuncType → List ValType
    count None = []
    count (Some t) = t.results

types_agree : (i : ℕ) → IsTrue (kept Types i) → Keeps (slice_get before.types i) (slice_get after.types (slice_index map.types i))
types_agree zero h t e = e
types_agree (suc zero) h t e = e
types_agree (suc (suc i)) h t e = absurd (let k = e in cc)

funcs_agree : (i : ℕ) → IsTrue (kept Functions i) → Keeps (type_of_func before i) (type_of_func after (slice_index map.funcs i))
funcs_agree zero h t e = e
funcs_agree (suc zero) h t e = absurd (true≢false (sym h))
funcs_agree (suc (suc zero)) h t e = e
funcs_agree (suc (suc (suc i))) h t e = absurd (let k = e in cc)

funcs_within : (i : ℕ) → IsTrue (kept Functions i) → i < 3 → slice_index map.funcs i < 2
funcs_within zero h lt = omega arith
funcs_within (suc zero) h lt = absurd (true≢false (sym h))
funcs_within (suc (suc zero)) h lt = omega arith
funcs_within (suc (suc (suc i))) h lt = absurd (omega arith)

agree : TreesAgree map kept before after
agree = record {
  types = types_agree;
  funcs = funcs_agree;
  func_space = funcs_within;
  tables = λ i h r e. absurd (let k = e in cc);
  memories = λ i h lt. absurd (omega arith);
  globals = λ i h g e. absurd (let k = e in cc);
  elems = λ i h r e. absurd (let k = e in cc);
  datas = λ i h lt. absurd (omega arith);
}

-- An export names the first function, so that `ref.func` may name it.
refs_agree : RefsAgree map kept before after
refs_agree zero h e = refl
refs_agree (suc zero) h e = absurd (true≢false (sym h))
refs_agree (suc (suc zero)) h e = absurd (let k = e in cc)
refs_agree (suc (suc (suc i))) h e = absurd (let k = e in cc)

call_named : Layers (LayerNamesOnly kept) (Call 2)
unfolding out-Instr denote.Hole.Carrier.out
call_named = (refl, tt)

call_renumbered : renumbered map (Call 2) ≡ Call 1
call_renumbered = search (rules, the_lemmas)

each_stands : EachItemComesFrom map kept before after
each_stands kind.Func zero lt = (0, omega arith, (code 1 (Call 2 ∷ []), code 1 (Call 1 ∷ []), refl, refl, refl, refl))
each_stands kind.Func (suc zero) lt = (2, omega arith, (code 1 [], code 1 [], refl, refl, refl, refl))
each_stands kind.Func (suc (suc j)) lt = absurd (omega arith)
each_stands kind.Export zero lt = (0, omega arith, (exported 0, exported 0, refl, refl, refl, refl, λ c. let none = c.1 in absurd (omega (arith, none))))
each_stands kind.Export (suc j) lt = absurd (omega arith)
each_stands kind.Body zero lt = (0, omega arith, (code 1 (Call 2 ∷ []), refl, (refl, (call_named, tt)), ap (λ i. Some (code 1 (i ∷ []))) (sym call_renumbered)))
each_stands kind.Body (suc zero) lt = (2, omega arith, (code 1 [], refl, (refl, tt), refl))
each_stands kind.Body (suc (suc j)) lt = absurd (omega arith)
each_stands _ j lt = absurd (omega arith)

-- The tree before the removal is valid.
before_valid : IsValid before
before_valid = (
  (code 1 (Call 2 ∷ []), refl, omega arith),
  (
    (code 0 (I32Const (pos 7) ∷ []), refl, omega arith),
    (
      (code 1 [], refl, omega arith),
      (
        (exported 0, refl, omega arith, λ c. let none = c.1 in absurd (omega (arith, none))),
        (
          (code 1 (Call 2 ∷ []), gives_nothing, refl, refl, ([], ([], (Gives [] [], refl, ([], [], refl, tt, refl)), refl), tt)),
          (
            (code 0 (I32Const (pos 7) ∷ []), gives_number, refl, refl, (Some I32 ∷ [], (Some I32 ∷ [], (Gives [] (I32 ∷ []), refl, ([], [], refl, tt, refl)), refl), (refl, tt))),
            ((code 1 [], gives_nothing, refl, refl, ([], refl, tt)), tt),
          ),
        ),
      ),
    ),
  ),
)

-- The law shows that the tree after the removal is valid.
after_valid : TreesStayValid → IsValid after
after_valid law = law map kept before after before_valid agree refs_agree each_stands
