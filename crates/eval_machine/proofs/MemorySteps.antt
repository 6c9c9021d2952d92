-- Loads, the size of the memory, and the stops of memory.fill and memory.copy.
use Rattle.base_lists.proofs.Common.{◌≡◌, ℕ, ◌+◌, ◌-◌, ◌<◌, ◌≤◌, arith, List, [], ◌∷◌, slice_get, false, Option, Some, None, Err, refl, sym, ◌∙◌, none-some}
use Rattle.block_pool.specs.Pages.{Pages, part, little as spelled, size}
use Rattle.wasm_tree_spec.specs.Prelude.{Memories, Limits, LoadOp, MemArg, Instr, Module}
use Rattle.wasm_tree.specs.declared.instr.LoadOp.TheVariants as load
use Rattle.wasm_tree.specs.declared.instr.Instr.TheVariants as i
use Rattle.wasm_tree.specs.declared.instr.Instr.TheOpen.{Instr-F}
use Rattle.wasm_num.specs.Operations.{W32}
use Rattle.wasm_meaning.specs.Prelude.{Gives, IllTyped, load_to, load_width, Val, Num, Memory, Entry, pop_num, pop_three, touched_by}
use Rattle.wasm_meaning.specs.Access.{little, loaded}
use Rattle.eval_spec.specs.declared.stop.Stop.TheVariants as why
use Rattle.eval_spec.specs.Prelude.{is_imported, own_inst}
use Rattle.eval_machine.specs.Prelude.{ended, LevelPlace, MachineFits, store_in, BeginsWith, done_by, env_in}
use Rattle.eval_machine.specs.Accesses.{loaded_from}
use Rattle.eval_machine.specs.declared.kept.Kept.{Kept}
use Rattle.eval_machine.proofs.InstructionSteps.{IsStill, ends_on, ends_trap, ends_trap_first, ends_unknown}
use Rattle.eval_machine.proofs.DefinedMemory.{IsThere, at_first, found, imported_memory, none_is, none_there, only_limits, own_memory, slice_in, slice_out}

little_same : (xs : List ℕ) → little xs ≡ spelled xs
unfolding little
little_same [] = refl
little_same (x ∷ xs) = rw (little_same xs)

loaded_is : (op : LoadOp) (xs : List ℕ) → Num (load_to op) (loaded op xs) ≡ loaded_from op (spelled xs)
unfolding loaded
loaded_is load.I32Load xs = rw (little_same xs)
loaded_is load.I64Load xs = rw (little_same xs)
loaded_is load.I32Load8S xs = rw (little_same xs)
loaded_is load.I32Load8U xs = rw (little_same xs)
loaded_is load.I32Load16S xs = rw (little_same xs)
loaded_is load.I32Load16U xs = rw (little_same xs)
loaded_is load.I64Load8S xs = rw (little_same xs)
loaded_is load.I64Load8U xs = rw (little_same xs)
loaded_is load.I64Load16S xs = rw (little_same xs)
loaded_is load.I64Load16U xs = rw (little_same xs)
loaded_is load.I64Load32S xs = rw (little_same xs)
loaded_is load.I64Load32U xs = rw (little_same xs)

module _ (m : Module) (k : Kept) (f : MachineFits m k) (op : LoadOp) (arg : MemArg) (vs us : List Val) where
  abbrev loads : Instr
  loads = i.Load op arg

  load_still : (ls : List Val) (rest : List Instr) (p : LevelPlace) (es : List Entry) → is_imported m Memories arg.memory ≡ false →
      IsStill m (record { kept = k; operands = vs; locals = ls }) loads (Instr-F.Load op arg) rest p es
  load_still ls rest p es e = record { grow = refl; table = refl; unknown = rw e; import = refl; further = refl; opens = refl; few = refl; written = refl }

  pub load_unknown : arg.memory < k.imports.memories → BeginsWith m loads k vs (Some why.Unknown) k us
  load_unknown lt = λ ls rest p es. ends_unknown m (record { kept = k; operands = vs; locals = ls }) loads (Instr-F.Load op arg) rest p es (i.outs-Load op arg) refl refl (rw (imported_memory m k f arg.memory lt))

  pub load_nowhere : k.imports.memories ≤ arg.memory → slice_get (own_inst m).mems arg.memory ≡ None → BeginsWith m loads k vs (Some why.Trap) k us
  load_nowhere le e = λ ls rest p es.
      ends_trap m (record { kept = k; operands = vs; locals = ls }) loads (Instr-F.Load op arg) rest p es (i.outs-Load op arg) (load_still ls rest p es (own_memory m k f arg.memory le)) (rw e)

  module _ (pages : Pages) (le : k.imports.memories ≤ arg.memory) (t : IsThere m k f arg.memory pages) where
    pub load_untyped : pop_num W32 vs ≡ IllTyped → BeginsWith m loads k vs (Some why.Trap) k us
    load_untyped e = λ ls rest p es.
        ends_trap m (record { kept = k; operands = vs; locals = ls }) loads (Instr-F.Load op arg) rest p es (i.outs-Load op arg) (load_still ls rest p es (own_memory m k f arg.memory le)) (rw (t.address, t.memory, e))

    pub load_outside : (a : ℕ) (below : List Val) → pop_num W32 vs ≡ Gives (a, below) → size pages < a + arg.offset + load_width op → BeginsWith m loads k vs (Some why.Trap) k us
    load_outside a below e lt = λ ls rest p es.
        ends_trap m (record { kept = k; operands = vs; locals = ls }) loads (Instr-F.Load op arg) rest p es (i.outs-Load op arg) (load_still ls rest p es (own_memory m k f arg.memory le))
        (rw (t.address, t.memory, e, slice_out pages.now.bytes (a + arg.offset) (load_width op) lt))

    pub load_inside : (a : ℕ) (below : List Val) → pop_num W32 vs ≡ Gives (a, below) → a + arg.offset + load_width op ≤ size pages →
        BeginsWith m loads k vs None k (loaded_from op (spelled (part pages.now.bytes (a + arg.offset) (load_width op))) ∷ below)
    load_inside a below e le' = λ ls rest p es.
        let bytes = part pages.now.bytes (a + arg.offset) (load_width op) in
        ends_on m (record { kept = k; operands = vs; locals = ls }) loads (Instr-F.Load op arg) rest p es (i.outs-Load op arg) (load_still ls rest p es (own_memory m k f arg.memory le))
        (record { kept = k; operands = loaded_from op (spelled bytes) ∷ below; locals = ls }) (rw (t.address, t.memory, e, slice_in pages.now.bytes (a + arg.offset) (load_width op) le', loaded_is op bytes)) refl

-- ---- memory.size ----

module _ (m : Module) (k : Kept) (f : MachineFits m k) (n : ℕ) (vs us : List Val) where
  size_still : (ls : List Val) (rest : List Instr) (p : LevelPlace) (es : List Entry) → is_imported m Memories n ≡ false →
      IsStill m (record { kept = k; operands = vs; locals = ls }) (i.MemorySize n) (Instr-F.MemorySize n) rest p es
  size_still ls rest p es e = record { grow = refl; table = refl; unknown = rw e; import = refl; further = refl; opens = refl; few = refl; written = refl }

  pub size_unknown : n < k.imports.memories → BeginsWith m (i.MemorySize n) k vs (Some why.Unknown) k us
  size_unknown lt = λ ls rest p es. ends_unknown m (record { kept = k; operands = vs; locals = ls }) (i.MemorySize n) (Instr-F.MemorySize n) rest p es (i.outs-MemorySize n) refl refl (rw (imported_memory m k f n lt))

  pub size_nowhere : k.imports.memories ≤ n → slice_get m.mems (n - k.imports.memories) ≡ None → BeginsWith m (i.MemorySize n) k vs (Some why.Trap) k us
  size_nowhere le e = λ ls rest p es.
      ends_trap m (record { kept = k; operands = vs; locals = ls }) (i.MemorySize n) (Instr-F.MemorySize n) rest p es (i.outs-MemorySize n) (size_still ls rest p es (own_memory m k f n le)) (rw (none_there m k f n le e))

  size_in : (l : Limits) → k.imports.memories ≤ n → slice_get m.mems (n - k.imports.memories) ≡ Some l → (o : Option Pages) → k.memory ≡ o → BeginsWith m (i.MemorySize n) k vs None k (Num W32 l.min ∷ vs)
  size_in l le e None q = absurd (none-some l (sym (none_is m k f q n) ∙ e))
  size_in l le e (Some p) q = λ ls rest place es.
      let same = at_first m k f n l le e in
      let t = found m k f n p same q in
      let is : t.limits ≡ l = only_limits m t.limits l (n - k.imports.memories) t.defined (omega (arith, same)) e in
      ends_on m (record { kept = k; operands = vs; locals = ls }) (i.MemorySize n) (Instr-F.MemorySize n) rest place es (i.outs-MemorySize n) (size_still ls rest place es (own_memory m k f n le))
      (record { kept = k; operands = Num W32 l.min ∷ vs; locals = ls }) (rw (t.address, t.memory, is)) refl

  pub size_there : (l : Limits) → k.imports.memories ≤ n → slice_get m.mems (n - k.imports.memories) ≡ Some l → BeginsWith m (i.MemorySize n) k vs None k (Num W32 l.min ∷ vs)
  size_there l le e = size_in l le e k.memory refl

-- ---- what stops memory.fill and memory.copy before they write ----

module _ (m : Module) (k : Kept) (f : MachineFits m k) (n : ℕ) (vs us : List Val) where
  -- A fill whose operands do not tell what it writes is stopped by nothing but a trap.
  fill_still : (ls : List Val) (rest : List Instr) (p : LevelPlace) (es : List Entry) → is_imported m Memories n ≡ false → touched_by (Instr-F.MemoryFill n) (env_in m k) vs ≡ IllTyped →
      IsStill m (record { kept = k; operands = vs; locals = ls }) (i.MemoryFill n) (Instr-F.MemoryFill n) rest p es
  fill_still ls rest p es e h = record { grow = refl; table = refl; unknown = rw e; import = refl; further = rw h; opens = refl; few = rw h; written = rw h }

  pub fill_unknown : n < k.imports.memories → BeginsWith m (i.MemoryFill n) k vs (Some why.Unknown) k us
  fill_unknown lt = λ ls rest p es. ends_unknown m (record { kept = k; operands = vs; locals = ls }) (i.MemoryFill n) (Instr-F.MemoryFill n) rest p es (i.outs-MemoryFill n) refl refl (rw (imported_memory m k f n lt))

  pub fill_nowhere : k.imports.memories ≤ n → slice_get (own_inst m).mems n ≡ None → BeginsWith m (i.MemoryFill n) k vs (Some why.Trap) k us
  fill_nowhere le e = λ ls rest p es.
      ends_trap m (record { kept = k; operands = vs; locals = ls }) (i.MemoryFill n) (Instr-F.MemoryFill n) rest p es (i.outs-MemoryFill n) (fill_still ls rest p es (own_memory m k f n le) (rw e)) (rw e)

  pub fill_untyped : k.imports.memories ≤ n → (pages : Pages) → IsThere m k f n pages → pop_three vs ≡ IllTyped → BeginsWith m (i.MemoryFill n) k vs (Some why.Trap) k us
  fill_untyped le pages t e = λ ls rest p es.
      ends_trap m (record { kept = k; operands = vs; locals = ls }) (i.MemoryFill n) (Instr-F.MemoryFill n) rest p es (i.outs-MemoryFill n) (fill_still ls rest p es (own_memory m k f n le) (rw (t.address, e))) (rw (t.address, t.memory, e))

-- ---- what stops memory.copy before it writes ----

module _ (m : Module) (k : Kept) (f : MachineFits m k) (n source : ℕ) (vs us : List Val) where
  abbrev copies_to : Instr
  copies_to = i.MemoryCopy n source

  pub copy_unknown : n < k.imports.memories → BeginsWith m copies_to k vs (Some why.Unknown) k us
  copy_unknown lt = λ ls rest p es. ends_unknown m (record { kept = k; operands = vs; locals = ls }) copies_to (Instr-F.MemoryCopy n source) rest p es (i.outs-MemoryCopy n source) refl refl (rw (imported_memory m k f n lt))

  pub copy_unknown_source : k.imports.memories ≤ n → source < k.imports.memories → BeginsWith m copies_to k vs (Some why.Unknown) k us
  copy_unknown_source le lt = λ ls rest p es.
      ends_unknown m (record { kept = k; operands = vs; locals = ls }) copies_to (Instr-F.MemoryCopy n source) rest p es (i.outs-MemoryCopy n source) refl refl (rw (own_memory m k f n le, imported_memory m k f source lt))

  module _ (le : k.imports.memories ≤ n) (le' : k.imports.memories ≤ source) where
    copy_stops : ((ls : List Val) (rest : List Instr) (p : LevelPlace) → ended (done_by m (record { kept = k; operands = vs; locals = ls }) (Instr-F.MemoryCopy n source) rest p) ≡ Err why.Trap) → BeginsWith m copies_to k vs (Some why.Trap) k us
    copy_stops h = λ ls rest p es.
        ends_trap_first m (record { kept = k; operands = vs; locals = ls }) copies_to (Instr-F.MemoryCopy n source) rest p es (i.outs-MemoryCopy n source) refl refl (rw (own_memory m k f n le, own_memory m k f source le')) refl (h ls rest p)

    by_source : (ls : List Val) (rest : List Instr) (p : LevelPlace) (a : Option ℕ) → slice_get (own_inst m).mems source ≡ a → (o : ℕ → Option Memory) → ((x : ℕ) → slice_get (store_in m k).mems x ≡ o x) → slice_get (own_inst m).mems n ≡ None →
        ended (done_by m (record { kept = k; operands = vs; locals = ls }) (Instr-F.MemoryCopy n source) rest p) ≡ Err why.Trap
    by_source ls rest p None a o q e = rw a
    by_source ls rest p (Some x) a o q e = by_memory (o x) (q x)
      where
        by_memory : (y : Option Memory) → slice_get (store_in m k).mems x ≡ y → ended (done_by m (record { kept = k; operands = vs; locals = ls }) (Instr-F.MemoryCopy n source) rest p) ≡ Err why.Trap
        by_memory None w = rw (a, w)
        by_memory (Some y) w = rw (a, w, e)

    pub copy_nowhere : slice_get (own_inst m).mems n ≡ None → BeginsWith m copies_to k vs (Some why.Trap) k us
    copy_nowhere e = copy_stops (λ ls rest p. by_source ls rest p (slice_get (own_inst m).mems source) refl (slice_get (store_in m k).mems) (λ x. refl) e)

    pub copy_nowhere_source : slice_get (own_inst m).mems source ≡ None → BeginsWith m copies_to k vs (Some why.Trap) k us
    copy_nowhere_source e = copy_stops (λ ls rest p. rw e)

    pub copy_untyped : (pages : Pages) → IsThere m k f n pages → source ≡ n → pop_three vs ≡ IllTyped → BeginsWith m copies_to k vs (Some why.Trap) k us
    copy_untyped pages t same e = copy_stops (λ ls rest p. rw (same, t.address, t.memory, e))

    pub copy_outside : (pages : Pages) → IsThere m k f n pages → source ≡ n → (to place count : ℕ) (below : List Val) → pop_three vs ≡ Gives ((to, place, count), below) → size pages < place + count → BeginsWith m copies_to k vs (Some why.Trap) k us
    copy_outside pages t same to place count below e lt = copy_stops (λ ls rest p. rw (same, t.address, t.memory, e, slice_out pages.now.bytes place count lt))
