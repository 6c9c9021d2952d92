use Rattle.std.proofs.Common.{◌≡◌, ◌≤◌, Some, slice_get, slice_index, set, IsTrue, rules, arith, ap, ◌∙◌, sym}
use denote.Param.Weighed.{most}
use Rattle.base_lists.proofs.Each.{list_all_each}
use Rattle.base_lists.proofs.Walk.{part_at, part_more, most_at, none_past}
use Rattle.wasm_tree_spec.specs.Prelude.{Call, CallIndirect, GlobalGet, GlobalSet, TableGet, TableSet, Load, Store, MemorySize, MemoryGrow, RefFunc, MemoryInit, DataDrop, MemoryCopy, MemoryFill, TableInit, ElemDrop, TableCopy, TableGrow, TableSize, TableFill, Types, Functions, Tables, Memories}
use Rattle.wasm_tree_spec.specs.Prelude.{Globals, ElementSegments, DataSegments}
use Rattle.wasm_tree.specs.declared.instr.Instr.{out-Instr, the_lemmas}
use Rattle.wasm_tree.proofs.instr.Instr.TheLaws.{the_size}
use Rattle.index_remap.proofs.MapEntries.{layer, renewed, fits_one, fits_first, fits_second, fits_arg, fits_block, fits_block_type, fits_loop, fits_loop_type, fits_then, fits_else, fits_if_type}
use Rattle.index_remap.specs.Renumbered.{renumbered, fits, fits_all}
use Rattle.index_remap.proofs.in_place.+rewrite.Goals as goal
use Rattle.index_remap.proofs.in_place.+rewrite.Goals.{rewrite_all-in-Some, rewrite_all-in_default}

pub rewrite_all-rewrite_instr-requires : goal.rewrite_all-rewrite_instr-requires
rewrite_all-rewrite_instr-requires t c =
    let f = renumbered c.args.map.now in
    let xs = c.args.body.now in
    let i = c.loop-at.at in
    let at : Some c.in-Some.instr.now ≡ slice_get xs i = c.in-Some.ensures.value ∙ ap (λ ys. slice_get ys i) c.loop-at.invariant ∙ part_at f xs i in
    let smaller : the_size c.in-Some.instr.now ≤ most (λ x. the_size x) xs = most_at (λ x. the_size x) xs i _ at in
    let here : IsTrue (fits c.args.map.now c.in-Some.instr.now) = list_all_each (fits c.args.map.now) xs c.requires.fits i _ (sym at) in
    search (rules, the_lemmas)

pub rewrite_all-loop-at-preserved : goal.rewrite_all-loop-at-preserved
rewrite_all-loop-at-preserved t c =
    let f = renumbered c.args.map.now in
    let xs = c.args.body.now in
    let i = c.loop-at.at in
    elim c.match-get_mut.branch [
      | rewrite_all-in-Some w ↦
          let at : Some w.in-Some.instr.now ≡ slice_get xs i = w.in-Some.ensures.value ∙ ap (λ ys. slice_get ys i) c.loop-at.invariant ∙ part_at f xs i in
          w.body-is ∙ ap (set c.loop-at.body i) w.rewrite_instr.ensures ∙ ap (λ ys. set ys i (f w.in-Some.instr.now)) c.loop-at.invariant ∙ part_more f xs i _ at
      | rewrite_all-in_default w ↦ absurd (omega (arith, none_past xs i (w.in_default.ensures.value ∙ ap (λ ys. slice_get ys i) c.loop-at.invariant ∙ part_at f xs i)))
    ]

pub rewrite_instr-rewrite_all-requires : goal.rewrite_instr-rewrite_all-requires
rewrite_instr-rewrite_all-requires t c =
    let inside : IsTrue (fits_all c.args.map.now c.in-Block.body) = fits_block c.args.map.now c.in-Block.ty c.in-Block.body (rw c.in-Block.is at c.requires.fits) in
    search (rules, the_lemmas)

pub rewrite_instr-rewrite_all-requires-in-Loop : goal.rewrite_instr-rewrite_all-requires-in-Loop
rewrite_instr-rewrite_all-requires-in-Loop t c =
    let inside : IsTrue (fits_all c.args.map.now c.in-Loop.body) = fits_loop c.args.map.now c.in-Loop.ty c.in-Loop.body (rw c.in-Loop.is at c.requires.fits) in
    search (rules, the_lemmas)

pub rewrite_instr-rewrite_all-requires-in-If : goal.rewrite_instr-rewrite_all-requires-in-If
rewrite_instr-rewrite_all-requires-in-If t c =
    let inside : IsTrue (fits_all c.args.map.now c.in-If.body) = fits_then c.args.map.now c.in-If.ty c.in-If.body c.in-If.other (rw c.in-If.is at c.requires.fits) in
    search (rules, the_lemmas)

pub rewrite_instr-rewrite_all-requires-in-If-2 : goal.rewrite_instr-rewrite_all-requires-in-If-2
rewrite_instr-rewrite_all-requires-in-If-2 t c =
    let inside : IsTrue (fits_all c.args.map.now c.in-If.other) = fits_else c.args.map.now c.in-If.ty c.in-If.body c.in-If.other (rw c.in-If.is at c.requires.fits) in
    search (rules, the_lemmas)

pub rewrite_instr-renumber_type-requires : goal.rewrite_instr-renumber_type-requires
rewrite_instr-renumber_type-requires t c = fits_block_type c.args.map.now c.in-Block.ty _ c.in-Block.body c.in-Block.ty-is (rw c.in-Block.is at c.requires.fits)

pub rewrite_instr-renumber_type-requires-in-Loop : goal.rewrite_instr-renumber_type-requires-in-Loop
rewrite_instr-renumber_type-requires-in-Loop t c = fits_loop_type c.args.map.now c.in-Loop.ty _ c.in-Loop.body c.in-Loop.ty-is (rw c.in-Loop.is at c.requires.fits)

pub rewrite_instr-renumber_type-requires-in-If : goal.rewrite_instr-renumber_type-requires-in-If
rewrite_instr-renumber_type-requires-in-If t c = fits_if_type c.args.map.now c.in-If.ty _ c.in-If.body c.in-If.other c.in-If.ty-is (rw c.in-If.is at c.requires.fits)

pub rewrite_instr-entry-requires : goal.rewrite_instr-entry-requires
unfolding out-Instr denote.Hole.Carrier.out
rewrite_instr-entry-requires t c = fits_one c.args.map.now Functions c.in-Call.func _ c.in-Call.func-is (layer c.args.map.now (Call c.in-Call.func) (rw c.in-Call.is at c.requires.fits))

pub rewrite_instr-entry-requires-in-CallIndirect : goal.rewrite_instr-entry-requires-in-CallIndirect
unfolding out-Instr denote.Hole.Carrier.out
rewrite_instr-entry-requires-in-CallIndirect t c = fits_first c.args.map.now Types Tables c.in-CallIndirect.ty c.in-CallIndirect.table _ c.in-CallIndirect.ty-is (layer c.args.map.now (CallIndirect c.in-CallIndirect.ty c.in-CallIndirect.table) (rw c.in-CallIndirect.is at c.requires.fits))

pub rewrite_instr-entry-requires-in-CallIndirect-2 : goal.rewrite_instr-entry-requires-in-CallIndirect-2
unfolding out-Instr denote.Hole.Carrier.out
rewrite_instr-entry-requires-in-CallIndirect-2 t c = fits_second c.args.map.now Types Tables c.in-CallIndirect.ty c.in-CallIndirect.table _ c.in-CallIndirect.table-is (layer c.args.map.now (CallIndirect c.in-CallIndirect.ty c.in-CallIndirect.table) (rw c.in-CallIndirect.is at c.requires.fits))

pub rewrite_instr-entry-requires-in-GlobalGet : goal.rewrite_instr-entry-requires-in-GlobalGet
unfolding out-Instr denote.Hole.Carrier.out
rewrite_instr-entry-requires-in-GlobalGet t c = fits_one c.args.map.now Globals c.in-GlobalGet.global _ c.in-GlobalGet.global-is (layer c.args.map.now (GlobalGet c.in-GlobalGet.global) (rw c.in-GlobalGet.is at c.requires.fits))

pub rewrite_instr-entry-requires-in-GlobalSet : goal.rewrite_instr-entry-requires-in-GlobalSet
unfolding out-Instr denote.Hole.Carrier.out
rewrite_instr-entry-requires-in-GlobalSet t c = fits_one c.args.map.now Globals c.in-GlobalSet.global _ c.in-GlobalSet.global-is (layer c.args.map.now (GlobalSet c.in-GlobalSet.global) (rw c.in-GlobalSet.is at c.requires.fits))

pub rewrite_instr-entry-requires-in-TableGet : goal.rewrite_instr-entry-requires-in-TableGet
unfolding out-Instr denote.Hole.Carrier.out
rewrite_instr-entry-requires-in-TableGet t c = fits_one c.args.map.now Tables c.in-TableGet.table _ c.in-TableGet.table-is (layer c.args.map.now (TableGet c.in-TableGet.table) (rw c.in-TableGet.is at c.requires.fits))

pub rewrite_instr-entry-requires-in-TableSet : goal.rewrite_instr-entry-requires-in-TableSet
unfolding out-Instr denote.Hole.Carrier.out
rewrite_instr-entry-requires-in-TableSet t c = fits_one c.args.map.now Tables c.in-TableSet.table _ c.in-TableSet.table-is (layer c.args.map.now (TableSet c.in-TableSet.table) (rw c.in-TableSet.is at c.requires.fits))

pub rewrite_instr-entry-requires-in-MemorySize : goal.rewrite_instr-entry-requires-in-MemorySize
unfolding out-Instr denote.Hole.Carrier.out
rewrite_instr-entry-requires-in-MemorySize t c = fits_one c.args.map.now Memories c.in-MemorySize.memory _ c.in-MemorySize.memory-is (layer c.args.map.now (MemorySize c.in-MemorySize.memory) (rw c.in-MemorySize.is at c.requires.fits))

pub rewrite_instr-entry-requires-in-MemoryGrow : goal.rewrite_instr-entry-requires-in-MemoryGrow
unfolding out-Instr denote.Hole.Carrier.out
rewrite_instr-entry-requires-in-MemoryGrow t c = fits_one c.args.map.now Memories c.in-MemoryGrow.memory _ c.in-MemoryGrow.memory-is (layer c.args.map.now (MemoryGrow c.in-MemoryGrow.memory) (rw c.in-MemoryGrow.is at c.requires.fits))

pub rewrite_instr-entry-requires-in-RefFunc : goal.rewrite_instr-entry-requires-in-RefFunc
unfolding out-Instr denote.Hole.Carrier.out
rewrite_instr-entry-requires-in-RefFunc t c = fits_one c.args.map.now Functions c.in-RefFunc.func _ c.in-RefFunc.func-is (layer c.args.map.now (RefFunc c.in-RefFunc.func) (rw c.in-RefFunc.is at c.requires.fits))

pub rewrite_instr-entry-requires-in-MemoryInit : goal.rewrite_instr-entry-requires-in-MemoryInit
unfolding out-Instr denote.Hole.Carrier.out
rewrite_instr-entry-requires-in-MemoryInit t c = fits_first c.args.map.now DataSegments Memories c.in-MemoryInit.segment c.in-MemoryInit.memory _ c.in-MemoryInit.segment-is (layer c.args.map.now (MemoryInit c.in-MemoryInit.segment c.in-MemoryInit.memory) (rw c.in-MemoryInit.is at c.requires.fits))

pub rewrite_instr-entry-requires-in-MemoryInit-2 : goal.rewrite_instr-entry-requires-in-MemoryInit-2
unfolding out-Instr denote.Hole.Carrier.out
rewrite_instr-entry-requires-in-MemoryInit-2 t c = fits_second c.args.map.now DataSegments Memories c.in-MemoryInit.segment c.in-MemoryInit.memory _ c.in-MemoryInit.memory-is (layer c.args.map.now (MemoryInit c.in-MemoryInit.segment c.in-MemoryInit.memory) (rw c.in-MemoryInit.is at c.requires.fits))

pub rewrite_instr-entry-requires-in-DataDrop : goal.rewrite_instr-entry-requires-in-DataDrop
unfolding out-Instr denote.Hole.Carrier.out
rewrite_instr-entry-requires-in-DataDrop t c = fits_one c.args.map.now DataSegments c.in-DataDrop.segment _ c.in-DataDrop.segment-is (layer c.args.map.now (DataDrop c.in-DataDrop.segment) (rw c.in-DataDrop.is at c.requires.fits))

pub rewrite_instr-entry-requires-in-MemoryCopy : goal.rewrite_instr-entry-requires-in-MemoryCopy
unfolding out-Instr denote.Hole.Carrier.out
rewrite_instr-entry-requires-in-MemoryCopy t c = fits_first c.args.map.now Memories Memories c.in-MemoryCopy.to c.in-MemoryCopy.from _ c.in-MemoryCopy.to-is (layer c.args.map.now (MemoryCopy c.in-MemoryCopy.to c.in-MemoryCopy.from) (rw c.in-MemoryCopy.is at c.requires.fits))

pub rewrite_instr-entry-requires-in-MemoryCopy-2 : goal.rewrite_instr-entry-requires-in-MemoryCopy-2
unfolding out-Instr denote.Hole.Carrier.out
rewrite_instr-entry-requires-in-MemoryCopy-2 t c = fits_second c.args.map.now Memories Memories c.in-MemoryCopy.to c.in-MemoryCopy.from _ c.in-MemoryCopy.from-is (layer c.args.map.now (MemoryCopy c.in-MemoryCopy.to c.in-MemoryCopy.from) (rw c.in-MemoryCopy.is at c.requires.fits))

pub rewrite_instr-entry-requires-in-MemoryFill : goal.rewrite_instr-entry-requires-in-MemoryFill
unfolding out-Instr denote.Hole.Carrier.out
rewrite_instr-entry-requires-in-MemoryFill t c = fits_one c.args.map.now Memories c.in-MemoryFill.memory _ c.in-MemoryFill.memory-is (layer c.args.map.now (MemoryFill c.in-MemoryFill.memory) (rw c.in-MemoryFill.is at c.requires.fits))

pub rewrite_instr-entry-requires-in-TableInit : goal.rewrite_instr-entry-requires-in-TableInit
unfolding out-Instr denote.Hole.Carrier.out
rewrite_instr-entry-requires-in-TableInit t c = fits_first c.args.map.now ElementSegments Tables c.in-TableInit.segment c.in-TableInit.filled _ c.in-TableInit.segment-is (layer c.args.map.now (TableInit c.in-TableInit.segment c.in-TableInit.filled) (rw c.in-TableInit.is at c.requires.fits))

pub rewrite_instr-entry-requires-in-TableInit-2 : goal.rewrite_instr-entry-requires-in-TableInit-2
unfolding out-Instr denote.Hole.Carrier.out
rewrite_instr-entry-requires-in-TableInit-2 t c = fits_second c.args.map.now ElementSegments Tables c.in-TableInit.segment c.in-TableInit.filled _ c.in-TableInit.filled-is (layer c.args.map.now (TableInit c.in-TableInit.segment c.in-TableInit.filled) (rw c.in-TableInit.is at c.requires.fits))

pub rewrite_instr-entry-requires-in-ElemDrop : goal.rewrite_instr-entry-requires-in-ElemDrop
unfolding out-Instr denote.Hole.Carrier.out
rewrite_instr-entry-requires-in-ElemDrop t c = fits_one c.args.map.now ElementSegments c.in-ElemDrop.segment _ c.in-ElemDrop.segment-is (layer c.args.map.now (ElemDrop c.in-ElemDrop.segment) (rw c.in-ElemDrop.is at c.requires.fits))

pub rewrite_instr-entry-requires-in-TableCopy : goal.rewrite_instr-entry-requires-in-TableCopy
unfolding out-Instr denote.Hole.Carrier.out
rewrite_instr-entry-requires-in-TableCopy t c = fits_first c.args.map.now Tables Tables c.in-TableCopy.to c.in-TableCopy.from _ c.in-TableCopy.to-is (layer c.args.map.now (TableCopy c.in-TableCopy.to c.in-TableCopy.from) (rw c.in-TableCopy.is at c.requires.fits))

pub rewrite_instr-entry-requires-in-TableCopy-2 : goal.rewrite_instr-entry-requires-in-TableCopy-2
unfolding out-Instr denote.Hole.Carrier.out
rewrite_instr-entry-requires-in-TableCopy-2 t c = fits_second c.args.map.now Tables Tables c.in-TableCopy.to c.in-TableCopy.from _ c.in-TableCopy.from-is (layer c.args.map.now (TableCopy c.in-TableCopy.to c.in-TableCopy.from) (rw c.in-TableCopy.is at c.requires.fits))

pub rewrite_instr-entry-requires-in-TableGrow : goal.rewrite_instr-entry-requires-in-TableGrow
unfolding out-Instr denote.Hole.Carrier.out
rewrite_instr-entry-requires-in-TableGrow t c = fits_one c.args.map.now Tables c.in-TableGrow.table _ c.in-TableGrow.table-is (layer c.args.map.now (TableGrow c.in-TableGrow.table) (rw c.in-TableGrow.is at c.requires.fits))

pub rewrite_instr-entry-requires-in-TableSize : goal.rewrite_instr-entry-requires-in-TableSize
unfolding out-Instr denote.Hole.Carrier.out
rewrite_instr-entry-requires-in-TableSize t c = fits_one c.args.map.now Tables c.in-TableSize.table _ c.in-TableSize.table-is (layer c.args.map.now (TableSize c.in-TableSize.table) (rw c.in-TableSize.is at c.requires.fits))

pub rewrite_instr-entry-requires-in-TableFill : goal.rewrite_instr-entry-requires-in-TableFill
unfolding out-Instr denote.Hole.Carrier.out
rewrite_instr-entry-requires-in-TableFill t c = fits_one c.args.map.now Tables c.in-TableFill.table _ c.in-TableFill.table-is (layer c.args.map.now (TableFill c.in-TableFill.table) (rw c.in-TableFill.is at c.requires.fits))

pub rewrite_instr-renumber_memarg-requires : goal.rewrite_instr-renumber_memarg-requires
unfolding out-Instr denote.Hole.Carrier.out
rewrite_instr-renumber_memarg-requires t c = fits_arg c.args.map.now c.in-Load.arg _ c.in-Load.arg-is (layer c.args.map.now (Load c.in-Load.field-0 c.in-Load.arg) (rw c.in-Load.is at c.requires.fits))

pub rewrite_instr-renumber_memarg-requires-in-Store : goal.rewrite_instr-renumber_memarg-requires-in-Store
unfolding out-Instr denote.Hole.Carrier.out
rewrite_instr-renumber_memarg-requires-in-Store t c = fits_arg c.args.map.now c.in-Store.arg _ c.in-Store.arg-is (layer c.args.map.now (Store c.in-Store.field-0 c.in-Store.arg) (rw c.in-Store.is at c.requires.fits))

pub rewrite_instr-returns-in-Call : goal.rewrite_instr-returns-in-Call
unfolding out-Instr denote.Hole.Carrier.out
rewrite_instr-returns-in-Call t c = rw c.in-Call.is (ap Call (c.entry.ensures ∙ ap (slice_index c.args.map.now.funcs) c.in-Call.func-is) ∙ renewed c.args.map.now (Call c.in-Call.func))

pub rewrite_instr-returns-in-GlobalGet : goal.rewrite_instr-returns-in-GlobalGet
unfolding out-Instr denote.Hole.Carrier.out
rewrite_instr-returns-in-GlobalGet t c = rw c.in-GlobalGet.is (ap GlobalGet (c.entry-in-GlobalGet.ensures ∙ ap (slice_index c.args.map.now.globals) c.in-GlobalGet.global-is) ∙ renewed c.args.map.now (GlobalGet c.in-GlobalGet.global))

pub rewrite_instr-returns-in-GlobalSet : goal.rewrite_instr-returns-in-GlobalSet
unfolding out-Instr denote.Hole.Carrier.out
rewrite_instr-returns-in-GlobalSet t c = rw c.in-GlobalSet.is (ap GlobalSet (c.entry-in-GlobalSet.ensures ∙ ap (slice_index c.args.map.now.globals) c.in-GlobalSet.global-is) ∙ renewed c.args.map.now (GlobalSet c.in-GlobalSet.global))

pub rewrite_instr-returns-in-TableGet : goal.rewrite_instr-returns-in-TableGet
unfolding out-Instr denote.Hole.Carrier.out
rewrite_instr-returns-in-TableGet t c = rw c.in-TableGet.is (ap TableGet (c.entry-in-TableGet.ensures ∙ ap (slice_index c.args.map.now.tables) c.in-TableGet.table-is) ∙ renewed c.args.map.now (TableGet c.in-TableGet.table))

pub rewrite_instr-returns-in-TableSet : goal.rewrite_instr-returns-in-TableSet
unfolding out-Instr denote.Hole.Carrier.out
rewrite_instr-returns-in-TableSet t c = rw c.in-TableSet.is (ap TableSet (c.entry-in-TableSet.ensures ∙ ap (slice_index c.args.map.now.tables) c.in-TableSet.table-is) ∙ renewed c.args.map.now (TableSet c.in-TableSet.table))

pub rewrite_instr-returns-in-MemorySize : goal.rewrite_instr-returns-in-MemorySize
unfolding out-Instr denote.Hole.Carrier.out
rewrite_instr-returns-in-MemorySize t c = rw c.in-MemorySize.is (ap MemorySize (c.entry-in-MemorySize.ensures ∙ ap (slice_index c.args.map.now.mems) c.in-MemorySize.memory-is) ∙ renewed c.args.map.now (MemorySize c.in-MemorySize.memory))

pub rewrite_instr-returns-in-MemoryGrow : goal.rewrite_instr-returns-in-MemoryGrow
unfolding out-Instr denote.Hole.Carrier.out
rewrite_instr-returns-in-MemoryGrow t c = rw c.in-MemoryGrow.is (ap MemoryGrow (c.entry-in-MemoryGrow.ensures ∙ ap (slice_index c.args.map.now.mems) c.in-MemoryGrow.memory-is) ∙ renewed c.args.map.now (MemoryGrow c.in-MemoryGrow.memory))

pub rewrite_instr-returns-in-RefFunc : goal.rewrite_instr-returns-in-RefFunc
unfolding out-Instr denote.Hole.Carrier.out
rewrite_instr-returns-in-RefFunc t c = rw c.in-RefFunc.is (ap RefFunc (c.entry-in-RefFunc.ensures ∙ ap (slice_index c.args.map.now.funcs) c.in-RefFunc.func-is) ∙ renewed c.args.map.now (RefFunc c.in-RefFunc.func))

pub rewrite_instr-returns-in-DataDrop : goal.rewrite_instr-returns-in-DataDrop
unfolding out-Instr denote.Hole.Carrier.out
rewrite_instr-returns-in-DataDrop t c = rw c.in-DataDrop.is (ap DataDrop (c.entry-in-DataDrop.ensures ∙ ap (slice_index c.args.map.now.datas) c.in-DataDrop.segment-is) ∙ renewed c.args.map.now (DataDrop c.in-DataDrop.segment))

pub rewrite_instr-returns-in-MemoryFill : goal.rewrite_instr-returns-in-MemoryFill
unfolding out-Instr denote.Hole.Carrier.out
rewrite_instr-returns-in-MemoryFill t c = rw c.in-MemoryFill.is (ap MemoryFill (c.entry-in-MemoryFill.ensures ∙ ap (slice_index c.args.map.now.mems) c.in-MemoryFill.memory-is) ∙ renewed c.args.map.now (MemoryFill c.in-MemoryFill.memory))

pub rewrite_instr-returns-in-ElemDrop : goal.rewrite_instr-returns-in-ElemDrop
unfolding out-Instr denote.Hole.Carrier.out
rewrite_instr-returns-in-ElemDrop t c = rw c.in-ElemDrop.is (ap ElemDrop (c.entry-in-ElemDrop.ensures ∙ ap (slice_index c.args.map.now.elems) c.in-ElemDrop.segment-is) ∙ renewed c.args.map.now (ElemDrop c.in-ElemDrop.segment))

pub rewrite_instr-returns-in-TableGrow : goal.rewrite_instr-returns-in-TableGrow
unfolding out-Instr denote.Hole.Carrier.out
rewrite_instr-returns-in-TableGrow t c = rw c.in-TableGrow.is (ap TableGrow (c.entry-in-TableGrow.ensures ∙ ap (slice_index c.args.map.now.tables) c.in-TableGrow.table-is) ∙ renewed c.args.map.now (TableGrow c.in-TableGrow.table))

pub rewrite_instr-returns-in-TableSize : goal.rewrite_instr-returns-in-TableSize
unfolding out-Instr denote.Hole.Carrier.out
rewrite_instr-returns-in-TableSize t c = rw c.in-TableSize.is (ap TableSize (c.entry-in-TableSize.ensures ∙ ap (slice_index c.args.map.now.tables) c.in-TableSize.table-is) ∙ renewed c.args.map.now (TableSize c.in-TableSize.table))

pub rewrite_instr-returns-in-TableFill : goal.rewrite_instr-returns-in-TableFill
unfolding out-Instr denote.Hole.Carrier.out
rewrite_instr-returns-in-TableFill t c = rw c.in-TableFill.is (ap TableFill (c.entry-in-TableFill.ensures ∙ ap (slice_index c.args.map.now.tables) c.in-TableFill.table-is) ∙ renewed c.args.map.now (TableFill c.in-TableFill.table))
