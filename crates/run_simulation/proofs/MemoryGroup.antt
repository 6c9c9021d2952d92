-- The law of steps on memories, tables and segments.
use Rattle.run_simulation.specs.Related
use Rattle.run_simulation.specs.Groups.{Memories, GroupAgrees}
use Rattle.run_simulation.proofs.MemorySteps.{load_rel, store_rel, memory_size_rel, memory_grow_rel, memory_init_rel, data_drop_rel, memory_copy_rel, memory_fill_rel}
use Rattle.run_simulation.proofs.TableSteps.{table_get_rel, table_set_rel, table_size_rel, table_grow_rel, table_fill_rel, table_copy_rel, table_init_rel, elem_drop_rel}

pub memories_agree : GroupAgrees Memories
memories_agree R off ev ew st _ _ r _ _ (Related.table_get {n = n} {m = m} p) reads _ = table_get_rel R off ev ew st n m r p reads
memories_agree R off ev ew st _ _ r _ _ (Related.table_set {n = n} {m = m} p) _ _ = table_set_rel R off ev ew st n m r p
memories_agree R off ev ew st _ _ r _ _ (Related.table_size {n = n} {m = m} p) _ _ = table_size_rel R off ev ew st n m r p
memories_agree R off ev ew st _ _ r _ _ (Related.table_grow {n = n} {m = m} p) _ _ = table_grow_rel R off ev ew st n m r p
memories_agree R off ev ew st _ _ r _ _ (Related.table_fill {n = n} {m = m} p) _ _ = table_fill_rel R off ev ew st n m r p
memories_agree R off ev ew st _ _ r _ _ (Related.table_copy {s = s} {t = t} {n = n} {m = m} p q) reads _ = table_copy_rel R off ev ew st s t n m r p q reads
memories_agree R off ev ew st _ _ r _ _ (Related.table_init {s = s} {t = t} {n = n} {m = m} p q) reads _ = table_init_rel R off ev ew st s t n m r p q reads
memories_agree R off ev ew st _ _ r _ _ (Related.elem_drop {s = s} {t = t} p) _ _ = elem_drop_rel R off ev ew st s t r p
memories_agree R off ev ew st _ _ r _ _ (Related.load {o = o} p) _ _ = load_rel R off ev ew st o r p
memories_agree R off ev ew st _ _ r _ _ (Related.store {o = o} p) _ _ = store_rel R off ev ew st o r p
memories_agree R off ev ew st _ _ r _ _ (Related.memory_size {n = n} {m = m} p) _ _ = memory_size_rel R off ev ew st n m r p
memories_agree R off ev ew st _ _ r _ _ (Related.memory_grow {n = n} {m = m} p) _ _ = memory_grow_rel R off ev ew st n m r p
memories_agree R off ev ew st _ _ r _ _ (Related.memory_fill {n = n} {m = m} p) _ _ = memory_fill_rel R off ev ew st n m r p
memories_agree R off ev ew st _ _ r _ _ (Related.memory_copy {s = s} {t = t} {n = n} {m = m} p q) _ _ = memory_copy_rel R off ev ew st s t n m r p q
memories_agree R off ev ew st _ _ r _ _ (Related.memory_init {s = s} {t = t} {n = n} {m = m} p q) _ _ = memory_init_rel R off ev ew st s t n m r p q
memories_agree R off ev ew st _ _ r _ _ (Related.data_drop {s = s} {t = t} p) _ _ = data_drop_rel R off ev ew st s t r p
memories_agree R off ev ew st h k r a b o reads e = absurd (cc e)
