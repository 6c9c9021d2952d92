-- Which moved functions need a trampoline: those that anything but a `call` names.
use Rattle.std.specs.Prelude.{ℕ, Bool, List, [], ◌++◌, filter}
use Rattle.base_lists.specs.Members.{is_among}
use Rattle.std.specs.List.{cons_option}
use Rattle.wasm_tree_spec.specs.Prelude.{Module}
use Rattle.wasm_valid.specs.Prelude.{refs_of}
use Rattle.index_remap.specs.Prelude.{body_refs}

-- the functions that an item of an element segment, the initialiser of a global, an export, the
-- start, or a `ref.func` in a body names
abbrev pub named_other_than_by_calls : Module → List ℕ
named_other_than_by_calls m = refs_of m ++ (cons_option m.start [] ++ body_refs m.funcs)

-- whether anything but a `call` names the function
abbrev pub is_needed : Module → ℕ → Bool
is_needed m func = is_among (named_other_than_by_calls m) func

-- the moved functions that need a trampoline, in the order of their slots
abbrev pub needed : Module → (moved : List ℕ) → List ℕ
needed m moved = filter (is_needed m) moved
