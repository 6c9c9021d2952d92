-- The instruction memory.init, and the data segment that it copies.
use Rattle.base_lists.proofs.Common.{◌≡◌, ℕ, zero, suc, ◌+◌, ◌-◌, ◌/◌, ◌<◌, ◌≤◌, arith, List, [], ◌∷◌, length, slice_get, Bool, true, false, Option, Some, None, Err, refl, sym, same_Some, slice_get_within, numbers_is}
use Rattle.std.proofs.Common.{length-drop, length-take-le}
use Rattle.base_lists.specs.Options.{◌>>=◌}
use Rattle.block_pool.specs.Pages.{Pages, part}
use Rattle.wasm_tree_spec.specs.Prelude.{DataSegments, Memories, DataSeg, Module, Instr}
use Rattle.wasm_tree.specs.declared.instr.Instr.TheVariants as i
use Rattle.wasm_tree.specs.declared.instr.Instr.TheOpen.{Instr-F}
use Rattle.wasm_meaning.specs.Prelude.{Outcome, Gives, IllTyped, bind, or_ill_typed, overwrite, Val, Data, Entry, pop_three}
use Rattle.eval_spec.specs.declared.stop.Stop.{Stop}
use Rattle.eval_spec.specs.declared.stop.Stop.TheVariants as why
use Rattle.eval_spec.specs.Prelude.{first_held, is_imported, own_inst}
use Rattle.eval_machine.specs.declared.kept.Kept.{Kept}
use Rattle.eval_machine.specs.Accesses.{bytes_in}
use Rattle.eval_machine.specs.Prelude.{ended, LevelPlace, body_at, MachineFits, datas_in, store_in, Wrote, told_of, write_tests, BeginsWith, done_by}
use Rattle.eval_machine.proofs.DataSteps.{data_kind, none_before}
use Rattle.eval_machine.proofs.IndexSpaces.{address_of}
use Rattle.eval_machine.proofs.InstructionSteps.{ends_trap_first, ends_unknown}
use Rattle.eval_machine.proofs.DefinedMemory.{IsThere, imported_memory, own_memory, slice_in, slice_out}
use Rattle.eval_machine.proofs.Openings.{none_of}
use Rattle.eval_machine.proofs.WriteSteps.{IsWrite, begins_from, write_begins, wrote_form}

-- ---- the bytes of a data segment ----

bytes_missing : (ds : List DataSeg) (bs : List Bool) (n : ℕ) → slice_get ds n ≡ None → bytes_in (datas_in ds bs) n ≡ None
bytes_missing [] bs n e = refl
bytes_missing (d ∷ ds) [] n e = refl
bytes_missing (d ∷ ds) (b ∷ bs) zero e = absurd (let k = e in cc)
bytes_missing (d ∷ ds) (b ∷ bs) (suc n) e = bytes_missing ds bs n e

pub no_segment : (ds : List DataSeg) (bs : List Bool) (n : ℕ) → None ≡ slice_get ds n → bytes_in (datas_in ds bs) n ≡ None
no_segment ds bs n e = bytes_missing ds bs n (sym e)

pub no_flag : (ds : List DataSeg) (bs : List Bool) (n : ℕ) → None ≡ slice_get bs n → bytes_in (datas_in ds bs) n ≡ None
no_flag [] bs n e = refl
no_flag (d ∷ ds) [] n e = refl
no_flag (d ∷ ds) (b ∷ bs) zero e = absurd (let k = e in cc)
no_flag (d ∷ ds) (b ∷ bs) (suc n) e = no_flag ds bs n e

pub no_bytes_left : (ds : List DataSeg) (bs : List Bool) (n : ℕ) (d : DataSeg) → Some d ≡ slice_get ds n → Some true ≡ slice_get bs n → bytes_in (datas_in ds bs) n ≡ Some []
no_bytes_left (x ∷ ds) (y ∷ bs) zero d e f = let h : y ≡ true = cc in rw h
no_bytes_left (x ∷ ds) (y ∷ bs) (suc n) d e f = no_bytes_left ds bs n d e f
no_bytes_left [] bs n d e f = absurd (let k = e in cc)
no_bytes_left (x ∷ ds) [] n d e f = absurd (let k = f in cc)

pub bytes_there : (ds : List DataSeg) (bs : List Bool) (n : ℕ) (d : DataSeg) → Some d ≡ slice_get ds n → Some false ≡ slice_get bs n → bytes_in (datas_in ds bs) n ≡ Some d.bytes
bytes_there (x ∷ ds) (y ∷ bs) zero d e f = let g : x ≡ d = cc in let h : y ≡ false = cc in rw (g, h)
bytes_there (x ∷ ds) (y ∷ bs) (suc n) d e f = bytes_there ds bs n d e f
bytes_there [] bs n d e f = absurd (let k = e in cc)
bytes_there (x ∷ ds) [] n d e f = absurd (let k = f in cc)

-- ---- the data segment that an instruction names ----

pub record IsData (m : Module) (k : Kept) (segment : ℕ) (bytes : List ℕ) : Type 0 where
  pub found : Data
  pub address : slice_get (own_inst m).datas segment ≡ Some segment
  pub there : slice_get (store_in m k).datas segment ≡ Some found
  pub holds : found.bytes ≡ bytes

no_more : (ds : List DataSeg) (bs : List Bool) → length (datas_in ds bs) ≤ length ds
no_more [] bs = omega arith
no_more (d ∷ ds) [] = omega arith
no_more (d ∷ ds) (b ∷ bs) = let le = no_more ds bs in omega (arith, le)

module _ (m : Module) (k : Kept) (segment : ℕ) where
  data_at : (bytes : List ℕ) (o : Option Data) → slice_get (datas_in m.datas k.dropped) segment ≡ o → (o >>= λ d. Some d.bytes) ≡ Some bytes → IsData m k segment bytes
  data_at bytes None e h = absurd (let q = h in cc)
  data_at bytes (Some d) e h = record {
    found = d;
    address = address_of (length m.datas) segment (omega (arith, slice_get_within (datas_in m.datas k.dropped) segment d e, no_more m.datas k.dropped));
    there = e;
    holds = same_Some d.bytes bytes h;
  }

  pub data_found : (bytes : List ℕ) → bytes_in (datas_in m.datas k.dropped) segment ≡ Some bytes → IsData m k segment bytes
  data_found bytes h = data_at bytes (slice_get (datas_in m.datas k.dropped) segment) refl h

  none_at : (o : Option Data) → (o >>= λ d. Some d.bytes) ≡ None → o ≡ None
  none_at None h = refl
  none_at (Some d) h = absurd (let q = h in cc)

  none_found : bytes_in (datas_in m.datas k.dropped) segment ≡ None → slice_get (store_in m k).datas segment ≡ None
  none_found h = none_at (slice_get (datas_in m.datas k.dropped) segment) h

-- ---- what stops memory.init before it writes ----

-- A look-up leads to a trap if each of its results does.
pub stops_with : {A B : Type 0} (o : Option A) (g : A → Outcome B) → ((x : A) → o ≡ Some x → ended (g x) ≡ Err why.Trap) → ended (bind (or_ill_typed o) g) ≡ Err why.Trap
stops_with None g h = refl
stops_with (Some x) g h = h x refl

module _ (m : Module) (k : Kept) (f : MachineFits m k) (segment n : ℕ) (vs us : List Val) where
  abbrev inits : Instr
  inits = i.MemoryInit segment n

  pub init_unknown : n < k.imports.memories → BeginsWith m inits k vs (Some why.Unknown) k us
  init_unknown lt = λ ls rest p es.
      ends_unknown m (record { kept = k; operands = vs; locals = ls }) inits (Instr-F.MemoryInit segment n) rest p es (i.outs-MemoryInit segment n) refl refl (rw (none_of DataSegments data_kind m.imports 0, none_before segment, imported_memory m k f n lt))

  module _ (le : k.imports.memories ≤ n) where
    init_stops : ((ls : List Val) (rest : List Instr) (p : LevelPlace) → ended (done_by m (record { kept = k; operands = vs; locals = ls }) (Instr-F.MemoryInit segment n) rest p) ≡ Err why.Trap) → BeginsWith m inits k vs (Some why.Trap) k us
    init_stops h = λ ls rest p es.
        ends_trap_first m (record { kept = k; operands = vs; locals = ls }) inits (Instr-F.MemoryInit segment n) rest p es (i.outs-MemoryInit segment n) refl refl (rw (none_of DataSegments data_kind m.imports 0, none_before segment, own_memory m k f n le)) refl (h ls rest p)

    pub init_nowhere : slice_get (own_inst m).mems n ≡ None → BeginsWith m inits k vs (Some why.Trap) k us
    init_nowhere e = init_stops (λ ls rest p. stops_with (slice_get (own_inst m).datas segment) _ (λ a ea. stops_with (slice_get (store_in m k).datas a) _ (λ d ed. rw e)))

    pub init_missing : bytes_in (datas_in m.datas k.dropped) segment ≡ None → BeginsWith m inits k vs (Some why.Trap) k us
    init_missing h = init_stops (λ ls rest p. stops_with (slice_get (own_inst m).datas segment) _ (λ a ea. let same : a ≡ segment = sym (numbers_is (length m.datas) segment a ea).1 in rw (same, none_found m k segment h)))

    pub init_untyped : (pages : Pages) → IsThere m k f n pages → (bytes : List ℕ) → IsData m k segment bytes → pop_three vs ≡ IllTyped → BeginsWith m inits k vs (Some why.Trap) k us
    init_untyped pages t bytes d e = init_stops (λ ls rest p. rw (d.address, d.there, t.address, t.memory, e))

    pub init_outside : (pages : Pages) → IsThere m k f n pages → (bytes : List ℕ) → IsData m k segment bytes → (to source count : ℕ) (below : List Val) → pop_three vs ≡ Gives ((to, source, count), below) → length bytes < source + count →
        BeginsWith m inits k vs (Some why.Trap) k us
    init_outside pages t bytes d to source count below e lt = init_stops (λ ls rest p. rw (d.address, d.there, t.address, t.memory, e, d.holds, slice_out bytes source count lt))

-- ---- the write ----

module _ (m : Module) (k : Kept) (f : MachineFits m k) (segment n : ℕ) (pages : Pages) (t : IsThere m k f n pages) (own : is_imported m Memories n ≡ false) (holds : k.memory ≡ Some pages) (vs below : List Val) where
  module _ (bytes : List ℕ) (d : IsData m k segment bytes) (to source count : ℕ) (pop : pop_three vs ≡ Gives ((to, source, count), below)) (inside : source + count ≤ length bytes) where
    abbrev taken : List ℕ
    taken = part bytes source count

    taken_size : length taken ≡ count
    taken_size = grind (arith, inside, length-take-le, length-drop)

    init_write : (ls : List Val) (rest : List Instr) (p : LevelPlace) (es : List Entry) → IsWrite m k f n pages t (i.MemoryInit segment n) (Instr-F.MemoryInit segment n) vs ls rest p es to taken below
    init_write ls rest p es = record {
      layer = i.outs-MemoryInit segment n;
      grow = refl;
      table = refl;
      unknown = rw (none_of DataSegments data_kind m.imports 0, none_before segment, own);
      import = refl;
      opens = refl;
      touched = rw (t.address, pop, taken_size);
      further = rw (t.address, pop, taken_size);
      done = rw (d.address, d.there, t.address, t.memory, pop, d.holds, slice_in bytes source count inside)
          (wrote_form (record { most = t.limits.max; pages = t.limits.min; bytes = pages.now.bytes }) n (body_at (record { kept = k; operands = below; locals = ls }) rest p) (overwrite pages.now.bytes to taken));
    }

    pub init_begins : (stop : Option Stop) (after : Pages) (turns : ℕ) → (stop, turns) ≡ told_of (first_held (write_tests k.turns pages to (length taken))) (k.turns - length taken / 64) → Wrote stop pages after to taken →
        BeginsWith m (i.MemoryInit segment n) k vs stop (record k { memory = Some after; turns = turns }) below
    init_begins stop after turns told wrote = begins_from m k f n pages t own holds vs below (i.MemoryInit segment n) (Instr-F.MemoryInit segment n) stop after turns
        (λ ls rest p es. write_begins m k f n pages t (i.MemoryInit segment n) (Instr-F.MemoryInit segment n) vs ls rest p es to taken below (init_write ls rest p es) after turns holds stop told wrote)
