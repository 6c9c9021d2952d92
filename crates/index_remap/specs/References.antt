-- A tree in which one more declarative element segment declares the functions that `ref.func` names
-- in bodies, if any is not declared (WebAssembly Core 2.0, sections 2.5.7 and 3.4.10, the context's
-- refs).
use Rattle.std.specs.Prelude.{ℕ, Bool, false, cond, ◌&&◌, not, List, [], ◌∷◌, ◌++◌, map, length, get_or, Option, Some, None}
use Rattle.base_lists.specs.Members.{is_among}
use Rattle.std.specs.List.{filter, filter_map, flat_map, range_with_len}
use Rattle.wasm_tree.specs.declared.types.RefType.TheVariants.{Func as func_ref}
use Rattle.wasm_tree_spec.specs.Prelude.{Functions, Operand, same_space, operands, held, Instr, fold-Instr, ElemMode, ElemSeg, Func, Module, funcs_of}
use Rattle.wasm_tree.specs.declared.instr.Instr.TheOpen.{Instr-F}
use Rattle.wasm_tree.specs.declared.module.ConstExpr.TheVariants as const
use Rattle.wasm_tree.specs.declared.module.ElemMode.TheVariants as elem
use Rattle.wasm_valid.specs.Prelude.{const_func, refs_of}

-- The function that an operand names, if it is that of `ref.func`: besides `call`, only `ref.func`
-- names functions.
abbrev pub referred : Operand → Option ℕ
referred o = cond (same_space o.space Functions && not o.called) (Some o.index) None

-- The functions that `ref.func` names in an instruction, given those that it names in each
-- instruction inside.
abbrev pub refs_step : Instr-F (List ℕ) → List ℕ
refs_step layer = filter_map referred (operands layer) ++ flat_map (λ xs. xs) (held layer)

abbrev pub refs : Instr → List ℕ
refs = fold-Instr (List ℕ) refs_step

-- The functions that `ref.func` names in these instructions and in those nested in them.
abbrev pub refs_all : List Instr → List ℕ
refs_all is = flat_map (λ xs. xs) (map refs is)

-- The functions that `ref.func` names in the bodies.
abbrev pub body_refs : List Func → List ℕ
body_refs = flat_map (λ f. refs_all f.body)

abbrev pub offset_func : ElemMode → Option ℕ
offset_func (elem.Active table offset) = const_func offset
offset_func elem.Passive = None
offset_func elem.Declarative = None

abbrev pub offset_refs : List ElemSeg → List ℕ
offset_refs = filter_map (λ s. offset_func s.mode)

-- The functions that element segments (in items and offsets), initialisers of globals and exports
-- name.
abbrev pub outside_refs : Module → List ℕ
outside_refs m = refs_of m ++ offset_refs m.elems

-- The functions of the index space that `ref.func` names in a body, and that no element segment,
-- initialiser of a global or export names, in ascending order.
abbrev pub declared_refs : Module → List ℕ
declared_refs m = filter (λ f. is_among (body_refs m.funcs) f && not (is_among (outside_refs m) f)) (range_with_len 0 (length (funcs_of m)))

-- The function is marked in the first list and not in the second.
abbrev pub marked_only : List Bool → List Bool → ℕ → Bool
marked_only inside outside f = get_or inside f false && not (get_or outside f false)

-- A declarative element segment of these functions.
abbrev pub declaring : List ℕ → ElemSeg
declaring fs = record { mode = elem.Declarative; ty = func_ref; items = map const.Func fs }

-- The tree with one more element segment, the last, which declares these functions, if there are
-- any.
abbrev pub with_declared : Module → List ℕ → Module
with_declared m [] = m
with_declared m (f ∷ fs) = record m { elems = m.elems ++ declaring (f ∷ fs) ∷ [] }

-- The tree in which the functions of `declared_refs` are declared.
abbrev pub declared : Module → Module
declared m = with_declared m (declared_refs m)
