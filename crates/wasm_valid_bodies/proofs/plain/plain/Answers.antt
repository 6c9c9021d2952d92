use Rattle.wasm_valid_bodies.proofs.plain.plain.Goals as goal

pub returns-in-BrTable : goal.returns-in-BrTable
returns-in-BrTable c = rw (c.in-BrTable.is, ← c.as_slice.ensures) c.branches.ensures
