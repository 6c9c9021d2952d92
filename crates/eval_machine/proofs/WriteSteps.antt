-- An instruction that writes the memory: its tests in their order, and the pages and turns that it
-- leaves.
use Rattle.base_lists.proofs.Common.{◌≡◌, ℕ, ◌+◌, ◌-◌, ◌/◌, ◌%◌, ◌≤◌, List, [], ◌∷◌, length, replicate, Bool, true, false, Option, Some, None, refl, ap, arith, nat_lt, ltb-true, ltb-false, length-replicate}
use Rattle.std.proofs.Common.{length-drop, length-take-le}
use Rattle.block_pool.specs.Pages.{Pages, part, size, with_reached}
use Rattle.wasm_tree_spec.specs.Prelude.{Memories, Instr, out-Instr, Module}
use Rattle.wasm_tree.specs.declared.instr.Instr.TheVariants as i
use Rattle.wasm_meaning.specs.Prelude.{pop_three, Gives, bind, or_trap, overwrite, Val, Memory, Entry, Body, Goes, SetMemory, Bytes, touched_by}
use Rattle.eval_spec.specs.Prelude.{is_imported, Stopped, first_held, calls_import, changes_table, further_turns, grows, opens, test, too_many_blocks, uses_unknown}
use Rattle.wasm_tree.specs.declared.instr.Instr.TheOpen.{Instr-F}
use Rattle.eval_spec.specs.declared.stop.Stop.{Stop}
use Rattle.eval_spec.specs.declared.stop.Stop.TheVariants as why
use Rattle.eval_machine.specs.declared.kept.Kept.{Kept}
use Rattle.eval_machine.specs.declared.registers.Registers.{Registers}
use Rattle.eval_machine.specs.Prelude.{LevelPlace, body_at, running, MachineFits, state_in, Wrote, told_of, write_tests, BeginsWith, begun, done_by, env_in}
use Rattle.eval_machine.proofs.InitialContents.{copies_are}
use Rattle.eval_machine.proofs.InstructionSteps.{by_layer}
use Rattle.eval_machine.proofs.DefinedMemory.{IsThere, slice_in}
use Rattle.eval_machine.proofs.OverwrittenLists.{overwrite_in, overwrite_out}

module _ (m : Module) (k : Kept) (f : MachineFits m k) (n : ℕ) (pages : Pages) (t : IsThere m k f n pages) (o : Instr) (z : Instr-F Instr) (vs ls : List Val) (rest : List Instr) (p : LevelPlace) (es : List Entry) where
  abbrev before : Registers
  before = record { kept = k; operands = vs; locals = ls }

  -- The instruction grows nothing, writes no table, uses nothing unknown, calls no import, and
  -- opens nothing.
  pub record IsWrite (place : ℕ) (bytes : List ℕ) (below : List Val) : Type 0 where
    pub layer : out-Instr o ≡ z
    pub grow : grows z ≡ false
    pub table : changes_table z ≡ false
    pub unknown : uses_unknown m (state_in m k).unknown z (env_in m k) vs ≡ false
    pub import : calls_import z (env_in m k) vs ≡ false
    pub opens : opens z ≡ false
    pub touched : touched_by z (env_in m k) vs ≡ Gives (Bytes n place (length bytes))
    pub further : further_turns z (env_in m k) vs ≡ length bytes / 64
    pub done : done_by m before z rest p ≡ bind (or_trap (overwrite pages.now.bytes place bytes)) (λ b. Gives (Goes (SetMemory n (record { most = t.limits.max; pages = t.limits.min; bytes = b })) (body_at (record before { operands = below }) rest p)))

  abbrev WritesTo : List Val → Option Stop → Pages → (turns : ℕ) → Type 0
  WritesTo below None after turns = begun m before o rest p es ≡ running m (record { kept = record k { memory = Some after; turns = turns }; operands = below; locals = ls }) rest p es
  WritesTo below (Some x) after turns = begun m before o rest p es ≡ Stopped x turns

  module _ (place : ℕ) (bytes : List ℕ) (below : List Val) (w : IsWrite place bytes below) (after : Pages) (turns : ℕ) (holds : k.memory ≡ Some pages) where
    abbrev left : ℕ
    left = k.turns - length bytes / 64

    by_tests : (a b c : Bool) → nat_lt (size pages) (place + length bytes) ≡ a → nat_lt k.turns (length bytes / 64) ≡ b → too_many_blocks (with_reached place (length bytes) 0 pages.now.written) ≡ c → (stop : Option Stop) →
        (stop, turns) ≡ told_of (first_held (test a why.Trap k.turns ∷ test b why.Steps k.turns ∷ test c why.Memory left ∷ [])) left → Wrote stop pages after place bytes → WritesTo below stop after turns
    by_tests true b c ea eb ec None told wrote = absurd (let q = ap (λ q. q.0) told in cc)
    by_tests true b c ea eb ec (Some x) told wrote =
        let x' : x ≡ why.Trap = let q = ap (λ q. q.0) told in cc in let n' : turns ≡ k.turns = ap (λ q. q.1) told in
        rw (x', n') (by_layer m before o z rest p es _ w.layer (rw (w.grow, w.table, w.unknown, w.import, w.done, overwrite_out pages.now.bytes place bytes (ltb-true (size pages) (place + length bytes) ea))))
    by_tests false true c ea eb ec None told wrote = absurd (let q = ap (λ q. q.0) told in cc)
    by_tests false true c ea eb ec (Some x) told wrote =
        let x' : x ≡ why.Steps = let q = ap (λ q. q.0) told in cc in let n' : turns ≡ k.turns = ap (λ q. q.1) told in
        rw (x', n') (by_layer m before o z rest p es _ w.layer (rw (w.grow, w.table, w.unknown, w.import, w.done, overwrite_in pages.now.bytes place bytes (ltb-false (size pages) (place + length bytes) ea), w.further, eb)))
    by_tests false false true ea eb ec None told wrote = absurd (let q = ap (λ q. q.0) told in cc)
    by_tests false false true ea eb ec (Some x) told wrote =
        let x' : x ≡ why.Memory = let q = ap (λ q. q.0) told in cc in let n' : turns ≡ left = ap (λ q. q.1) told in
        rw (x', n') (by_layer m before o z rest p es _ w.layer (rw (w.grow, w.table, w.unknown, w.import, w.done, overwrite_in pages.now.bytes place bytes (ltb-false (size pages) (place + length bytes) ea), w.further, eb, w.opens, w.touched, holds, ec)))
    by_tests false false false ea eb ec (Some x) told wrote = absurd (let q = ap (λ q. q.0) told in cc)
    by_tests false false false ea eb ec None told wrote =
        let n' : turns ≡ left = ap (λ q. q.1) told in
        rw n' (by_layer m before o z rest p es _ w.layer (rw (w.grow, w.table, w.unknown, w.import, w.done, overwrite_in pages.now.bytes place bytes (ltb-false (size pages) (place + length bytes) ea), w.further, eb, w.opens, w.touched, holds, ec, t.first, t.defined, t.zero, wrote.now)))

    pub write_begins : (stop : Option Stop) → (stop, turns) ≡ told_of (first_held (write_tests k.turns pages place (length bytes))) left → Wrote stop pages after place bytes → WritesTo below stop after turns
    write_begins stop told wrote = by_tests _ _ _ refl refl refl stop told wrote

-- ---- two forms of the write ----

pub wrote_form : (mem : Memory) (a : ℕ) (h : Body) (o : Option (List ℕ)) →
    bind (bind (or_trap o) (λ b. Gives (record mem { bytes = b }))) (λ w. Gives (Goes (SetMemory a w) h)) ≡ bind (or_trap o) (λ b. Gives (Goes (SetMemory a (record mem { bytes = b })) h))
wrote_form mem a h None = refl
wrote_form mem a h (Some b) = refl

module _ (m : Module) (k : Kept) (f : MachineFits m k) (n : ℕ) (pages : Pages) (t : IsThere m k f n pages) (own : is_imported m Memories n ≡ false) (holds : k.memory ≡ Some pages) (vs below : List Val) where
  -- An instruction that writes begins with the pages and turns that the write leaves.
  pub begins_from : (o : Instr) (z : Instr-F Instr) (stop : Option Stop) (after : Pages) (turns : ℕ) → ((ls : List Val) (rest : List Instr) (p : LevelPlace) (es : List Entry) → WritesTo m k f n pages t o z vs ls rest p es below stop after turns) →
      BeginsWith m o k vs stop (record k { memory = Some after; turns = turns }) below
  begins_from o z None after turns w = w
  begins_from o z (Some x) after turns w = w

  module _ (to source count : ℕ) (pop : pop_three vs ≡ Gives ((to, source, count), below)) where
    fill_write : (ls : List Val) (rest : List Instr) (p : LevelPlace) (es : List Entry) → IsWrite m k f n pages t (i.MemoryFill n) (Instr-F.MemoryFill n) vs ls rest p es to (replicate count (source % 256)) below
    fill_write ls rest p es = record {
      layer = i.outs-MemoryFill n;
      grow = refl;
      table = refl;
      unknown = rw own;
      import = refl;
      opens = refl;
      touched = rw (t.address, pop, length-replicate count (source % 256));
      further = rw (t.address, pop, length-replicate count (source % 256));
      done = rw (t.address, t.memory, pop, copies_are count (source % 256)) (wrote_form (record { most = t.limits.max; pages = t.limits.min; bytes = pages.now.bytes }) n (body_at (record { kept = k; operands = below; locals = ls }) rest p)
          (overwrite pages.now.bytes to (replicate count (source % 256))));
    }

    pub fill_begins : (stop : Option Stop) (after : Pages) (turns : ℕ) → (stop, turns) ≡ told_of (first_held (write_tests k.turns pages to count)) (k.turns - count / 64) → Wrote stop pages after to (replicate count (source % 256)) →
        BeginsWith m (i.MemoryFill n) k vs stop (record k { memory = Some after; turns = turns }) below
    fill_begins stop after turns told wrote = begins_from (i.MemoryFill n) (Instr-F.MemoryFill n) stop after turns
        (λ ls rest p es. write_begins m k f n pages t (i.MemoryFill n) (Instr-F.MemoryFill n) vs ls rest p es to (replicate count (source % 256)) below (fill_write ls rest p es) after turns holds stop (rw (length-replicate count (source % 256)) told) wrote)

    module _ (inside : source + count ≤ size pages) where
      abbrev copied : List ℕ
      copied = part pages.now.bytes source count

      copied_size : length copied ≡ count
      copied_size = grind (arith, inside, length-take-le, length-drop)

      copy_write : (ls : List Val) (rest : List Instr) (p : LevelPlace) (es : List Entry) → IsWrite m k f n pages t (i.MemoryCopy n n) (Instr-F.MemoryCopy n n) vs ls rest p es to copied below
      copy_write ls rest p es = record {
        layer = i.outs-MemoryCopy n n;
        grow = refl;
        table = refl;
        unknown = rw own;
        import = refl;
        opens = refl;
        touched = rw (t.address, pop, copied_size);
        further = rw (t.address, pop, copied_size);
        done = rw (t.address, t.memory, pop, slice_in pages.now.bytes source count inside) (wrote_form (record { most = t.limits.max; pages = t.limits.min; bytes = pages.now.bytes }) n (body_at (record { kept = k; operands = below; locals = ls }) rest p) (overwrite pages.now.bytes to copied));
      }

      pub copy_begins : (stop : Option Stop) (after : Pages) (turns : ℕ) → (stop, turns) ≡ told_of (first_held (write_tests k.turns pages to count)) (k.turns - count / 64) → Wrote stop pages after to copied →
          BeginsWith m (i.MemoryCopy n n) k vs stop (record k { memory = Some after; turns = turns }) below
      copy_begins stop after turns told wrote = begins_from (i.MemoryCopy n n) (Instr-F.MemoryCopy n n) stop after turns
          (λ ls rest p es. write_begins m k f n pages t (i.MemoryCopy n n) (Instr-F.MemoryCopy n n) vs ls rest p es to copied below (copy_write ls rest p es) after turns holds stop (rw copied_size told) wrote)
