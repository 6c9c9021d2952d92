-- The store instructions.
use Rattle.base_lists.proofs.Common.{◌≡◌, ℕ, zero, suc, ◌+◌, ◌-◌, ◌/◌, ◌%◌, ◌<◌, ◌≤◌, arith, List, [], ◌∷◌, length, slice_get, false, Option, Some, None, Err, refl, ap}
use Rattle.block_pool.specs.Pages.{Pages}
use Rattle.block_pool.specs.Pages.{little_bytes as lowest_bytes}
use Rattle.wasm_tree_spec.specs.Prelude.{Memories, StoreOp, MemArg, Instr, Module, store_width}
use Rattle.wasm_tree.specs.declared.instr.StoreOp.TheVariants as op
use Rattle.wasm_tree.specs.declared.instr.Instr.TheVariants as i
use Rattle.wasm_tree.specs.declared.instr.Instr.TheOpen.{Instr-F}
use Rattle.wasm_num.specs.Operations.{W32}
use Rattle.wasm_meaning.specs.Prelude.{Gives, IllTyped, overwrite, store_from, Val, Entry, num_of, pop_num}
use Rattle.wasm_meaning.specs.Access.{little_bytes, stored}
use Rattle.eval_spec.specs.declared.stop.Stop.{Stop}
use Rattle.eval_spec.specs.declared.stop.Stop.TheVariants as why
use Rattle.eval_spec.specs.Prelude.{first_held, is_imported, own_inst}
use Rattle.eval_machine.specs.declared.kept.Kept.{Kept}
use Rattle.eval_machine.specs.Prelude.{ended, LevelPlace, body_at, MachineFits, Wrote, told_of, write_tests, BeginsWith, done_by}
use Rattle.eval_machine.proofs.InstructionSteps.{ends_trap_first, ends_unknown}
use Rattle.eval_machine.proofs.DefinedMemory.{IsThere, imported_memory, own_memory}
use Rattle.eval_machine.proofs.WriteSteps.{IsWrite, begins_from, write_begins, wrote_form}

-- ---- the bytes that a store makes of its value ----

lowest_same : (count n : ℕ) → little_bytes count n ≡ lowest_bytes count n
unfolding little_bytes
lowest_same zero n = refl
lowest_same (suc count) n = ap (λ xs. n % 256 ∷ xs) (lowest_same count (n / 256))

pub stored_is : (o : StoreOp) (n : ℕ) → stored o n ≡ lowest_bytes (store_width o) n
unfolding stored
stored_is op.I32Store n = lowest_same 4 n
stored_is op.I64Store n = lowest_same 8 n
stored_is op.I32Store8 n = lowest_same 1 n
stored_is op.I32Store16 n = lowest_same 2 n
stored_is op.I64Store8 n = lowest_same 1 n
stored_is op.I64Store16 n = lowest_same 2 n
stored_is op.I64Store32 n = lowest_same 4 n

low_size : (o : StoreOp) (n : ℕ) → length (lowest_bytes (store_width o) n) ≡ store_width o
low_size o n = grind arith

no_turns : (o : StoreOp) → store_width o / 64 ≡ 0
no_turns op.I32Store = refl
no_turns op.I64Store = refl
no_turns op.I32Store8 = refl
no_turns op.I32Store16 = refl
no_turns op.I64Store8 = refl
no_turns op.I64Store16 = refl
no_turns op.I64Store32 = refl

-- ---- what stops a store before it writes ----

module _ (m : Module) (k : Kept) (f : MachineFits m k) (o : StoreOp) (arg : MemArg) (vs us : List Val) where
  abbrev stores : Instr
  stores = i.Store o arg

  pub store_unknown : arg.memory < k.imports.memories → BeginsWith m stores k vs (Some why.Unknown) k us
  store_unknown lt = λ ls rest p es. ends_unknown m (record { kept = k; operands = vs; locals = ls }) stores (Instr-F.Store o arg) rest p es (i.outs-Store o arg) refl refl (rw (imported_memory m k f arg.memory lt))

  module _ (le : k.imports.memories ≤ arg.memory) where
    store_stops : ((ls : List Val) (rest : List Instr) (p : LevelPlace) → ended (done_by m (record { kept = k; operands = vs; locals = ls }) (Instr-F.Store o arg) rest p) ≡ Err why.Trap) → BeginsWith m stores k vs (Some why.Trap) k us
    store_stops h = λ ls rest p es.
        ends_trap_first m (record { kept = k; operands = vs; locals = ls }) stores (Instr-F.Store o arg) rest p es (i.outs-Store o arg) refl refl (rw (own_memory m k f arg.memory le)) refl (h ls rest p)

    pub store_nowhere : slice_get (own_inst m).mems arg.memory ≡ None → BeginsWith m stores k vs (Some why.Trap) k us
    store_nowhere e = store_stops (λ ls rest p. rw e)

    module _ (pages : Pages) (t : IsThere m k f arg.memory pages) where
      -- The stack is empty, so no value can be stored.
      pub store_nothing : vs ≡ [] → BeginsWith m stores k vs (Some why.Trap) k us
      store_nothing e = store_stops (λ ls rest p. rw (t.address, t.memory, e))

      -- The value has another type than the one that is stored.
      pub store_untyped : (v : Val) (below : List Val) → vs ≡ v ∷ below → num_of (store_from o) v ≡ None → BeginsWith m stores k vs (Some why.Trap) k us
      store_untyped v below e h = store_stops (λ ls rest p. rw (t.address, t.memory, e, h))

      -- The stack has no address below the value.
      pub store_no_place : (v : Val) (below : List Val) (n : ℕ) → vs ≡ v ∷ below → num_of (store_from o) v ≡ Some n → pop_num W32 below ≡ IllTyped → BeginsWith m stores k vs (Some why.Trap) k us
      store_no_place v below n e h g = store_stops (λ ls rest p. rw (t.address, t.memory, e, h, g))

-- ---- the write ----

module _ (m : Module) (k : Kept) (f : MachineFits m k) (o : StoreOp) (arg : MemArg) (pages : Pages) (t : IsThere m k f arg.memory pages) (own : is_imported m Memories arg.memory ≡ false) (holds : k.memory ≡ Some pages) where
  module _ (v : Val) (middle below : List Val) (number base : ℕ) (is : num_of (store_from o) v ≡ Some number) (at : pop_num W32 middle ≡ Gives (base, below)) where
    abbrev low : List ℕ
    low = lowest_bytes (store_width o) number

    store_write : (ls : List Val) (rest : List Instr) (p : LevelPlace) (es : List Entry) → IsWrite m k f arg.memory pages t (i.Store o arg) (Instr-F.Store o arg) (v ∷ middle) ls rest p es (base + arg.offset) low below
    store_write ls rest p es = record {
      layer = i.outs-Store o arg;
      grow = refl;
      table = refl;
      unknown = rw own;
      import = refl;
      opens = refl;
      touched = rw (t.address, is, at, low_size o number);
      further = rw (t.address, is, at, low_size o number);
      done = rw (t.address, t.memory, is, at, stored_is o number) (wrote_form (record { most = t.limits.max; pages = t.limits.min; bytes = pages.now.bytes }) arg.memory (body_at (record { kept = k; operands = below; locals = ls }) rest p) (overwrite pages.now.bytes (base + arg.offset) low));
    }

    none_spent : k.turns - store_width o / 64 ≡ k.turns
    none_spent = let z : k.turns - 0 ≡ k.turns = omega arith in rw (no_turns o) z

    pub store_begins : (stop : Option Stop) (after : Pages) → (stop, k.turns) ≡ told_of (first_held (write_tests k.turns pages (base + arg.offset) (store_width o))) k.turns → Wrote stop pages after (base + arg.offset) low →
        BeginsWith m (i.Store o arg) k (v ∷ middle) stop (record k { memory = Some after; turns = k.turns }) below
    store_begins stop after told wrote = begins_from m k f arg.memory pages t own holds (v ∷ middle) below (i.Store o arg) (Instr-F.Store o arg) stop after k.turns
        (λ ls rest p es. write_begins m k f arg.memory pages t (i.Store o arg) (Instr-F.Store o arg) (v ∷ middle) ls rest p es (base + arg.offset) low below (store_write ls rest p es) after k.turns holds stop (rw (low_size o number, none_spent) (rw none_spent at told)) wrote)
