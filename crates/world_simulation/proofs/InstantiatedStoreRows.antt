-- Copies one after the other, computed; and a module with a table into which segments are copied.
use Rattle.base_lists.proofs.Common.{◌≡◌, refl, ℕ, List, [], ◌∷◌, ◌++◌, map, Option, Some, None, Bool, true, false, pos}
use Rattle.base_lists.specs.Options.{◌>>=◌}
use Rattle.wasm_tree.specs.declared.types.RefType.TheVariants as reft
use Rattle.wasm_tree.specs.declared.module.ConstExpr.TheVariants as const
use Rattle.wasm_tree_spec.specs.Prelude.{ElemMode, ElemSeg, Module}
use Rattle.wasm_tree.specs.declared.module.ElemMode.TheVariants as elem
use Rattle.wasm_num.specs.Operations.{wrapped}
use Rattle.wasm_meaning.specs.Prelude.{FuncRef, Table, own_store, added}
use Rattle.world_simulation.specs.InstantiatedStores.{Copy, nothing, contents, over, all_over}

abbrev to : (address offset : ℕ) → List ℕ → Copy ℕ
to a n xs = contents (Some a) (Some n) (Some xs)

abbrev zeros : List ℕ
zeros = 0 ∷ 0 ∷ 0 ∷ 0 ∷ []

-- A later copy overwrites an earlier one.
in_order : all_over 5 (to 5 1 (7 ∷ 8 ∷ []) ∷ to 5 2 (9 ∷ []) ∷ []) zeros ≡ Some (0 ∷ 7 ∷ 9 ∷ 0 ∷ [])
in_order = refl

in_the_other_order : all_over 5 (to 5 2 (9 ∷ []) ∷ to 5 1 (7 ∷ 8 ∷ []) ∷ []) zeros ≡ Some (0 ∷ 7 ∷ 8 ∷ 0 ∷ [])
in_the_other_order = refl

-- A copy to another address, or to none, leaves the contents as they are.
elsewhere : all_over 5 (to 6 1 (7 ∷ 8 ∷ []) ∷ nothing ∷ []) zeros ≡ Some zeros
elsewhere = refl

-- A copy up to the end is in bounds; one past the end is not, nor is one without an offset.
up_to_the_end : over 5 (to 5 2 (7 ∷ 8 ∷ [])) zeros ≡ Some (0 ∷ 0 ∷ 7 ∷ 8 ∷ [])
up_to_the_end = refl

past_the_end : over 5 (to 5 3 (7 ∷ 8 ∷ [])) zeros ≡ None
past_the_end = refl

without_an_offset : over 5 (contents (Some 5) None (Some (7 ∷ []))) zeros ≡ None
without_an_offset = refl

-- ---- a module ----

abbrev segment : ElemMode → ElemSeg
segment mode = record { ty = reft.Func; items = const.Func 0 ∷ []; mode = mode }

-- The module's segments are copied to these offsets in its table; the last one, which is passive,
-- is not copied.
abbrev with_table : List ℕ → Module
with_table offsets = record {
  types = record { params = []; results = [] } ∷ [];
  imports = [];
  funcs = record { ty = 0; locals = []; body = [] } ∷ [];
  tables = record { ty = reft.Func; limits = record { min = 3; max = None } } ∷ [];
  mems = [];
  globals = [];
  exports = [];
  start = None;
  elems = map (λ n. segment (elem.Active 0 (const.I32 (pos n)))) offsets ++ segment elem.Passive ∷ [];
  datas = [];
}

-- The tables after the module was added to an empty store, and whether a segment trapped.
abbrev after : List ℕ → Option (List Table × Bool)
after offsets = added (own_store []) (with_table offsets) [] >>= λ a. Some (a.filled.store.tables, a.filled.trapped)

abbrev table : List (Option ℕ) → List Table
table funcs = record { ty = reft.Func; most = None; slots = map FuncRef funcs } ∷ []

-- The module's function is in slot 1 alone, or in slots 1 and 2; the passive segment is not copied.
once : after (1 ∷ []) ≡ Some (table (None ∷ Some 0 ∷ None ∷ []), false)
unfolding wrapped
once = refl

twice : after (1 ∷ 2 ∷ []) ≡ Some (table (None ∷ Some 0 ∷ Some 0 ∷ []), false)
unfolding wrapped
twice = refl

up_to_its_end : after (2 ∷ []) ≡ Some (table (None ∷ None ∷ Some 0 ∷ []), false)
unfolding wrapped
up_to_its_end = refl

-- A copy past the end traps, and the law says nothing about it.
past_its_end : after (3 ∷ []) ≡ Some (table (None ∷ None ∷ None ∷ []), true)
unfolding wrapped
past_its_end = refl
