-- The instructions of a block, as a row and as a list.
use Rattle.wasm_tree_spec.specs.Prelude.{Row_of-Instr, items-the_row-Instr, end_of-Instr, more_of-Instr}
use Rattle.wasm_valid_bodies.specs.Typing.{Context, Stack, Leads, LeadsAll}

pub to_list : {n : _} (c : Context) (is : Row_of-Instr n) (s t : Stack) → Leads c is s t → LeadsAll c (items-the_row-Instr n is) s t
to_list c end_of-Instr s t h = h
to_list c (more_of-Instr i is) s t h = (h.0, h.1, to_list c is h.0 t h.2)

pub to_row : {n : _} (c : Context) (is : Row_of-Instr n) (s t : Stack) → LeadsAll c (items-the_row-Instr n is) s t → Leads c is s t
to_row c end_of-Instr s t h = h
to_row c (more_of-Instr i is) s t h = (h.0, h.1, to_row c is h.0 t h.2)
