-- The active data segments of an instantiation, one after the other.
use Rattle.base_lists.proofs.Common.{◌≡◌, ℕ, ℤ, zero, suc, ◌+◌, ◌<◌, ◌≤◌, List, [], ◌∷◌, ◌++◌, length, drop, replicate, Bool, true, false, cond, ◌||◌, Option, Some, None, refl, sym, ap, ◌∙◌, inl, inr, arith, slice_set, subst, length-map, length-replicate, length-set, nat_eq, nat_le, slice_get}
use Rattle.base_lists.proofs.Common.{cases_lt, cases_eq, cases_order, eq-eqb, eqb-true, leb-true, get_or_from_slice_get, same_Some, slice_get_past, slice_get_within, left_true, right_true, numbers_at, length-numbers, push_last, set_other, replicate_at}
use Rattle.std.proofs.Common.{length-append}
use Rattle.std.proofs.Math.Seq.{drop-cons}
use Rattle.std.proofs.lemmas.Bool.{leb-false}
use Rattle.base_lists.specs.Options.{◌>>=◌}
use Rattle.wasm_tree_spec.specs.Prelude.{Memories, Limits, ConstExpr, DataSeg, DataMode, Module, imported_memories, memories_of}
use Rattle.wasm_tree.specs.declared.module.ConstExpr.TheVariants as const
use Rattle.wasm_tree.specs.declared.module.DataMode.TheVariants as data'
use Rattle.wasm_num.specs.Operations.{W32, wrapped}
use Rattle.wasm_meaning.specs.Prelude.{Outcome, Gives, FuncRef, Ref, Memory, SetMemory, DropData, num_of, changed, no_bytes, Touched, Bytes, Filled, PlacedSegment, run_data_with}
use Rattle.block_pool.specs.Pages.{Pages, WritesBytes, size, with_reached}
use Rattle.eval_spec.specs.declared.stop.Stop.{Stop}
use Rattle.eval_spec.specs.declared.stop.Stop.TheVariants as why
use Rattle.eval_spec.specs.Prelude.{State, Stage, Finished, Stopped, stop_of, is_imported, too_many_blocks, own_inst, imported_store, reads_global, value_in, place_in, with_data, with_data_mode, in_order}
use Rattle.eval_spec.specs.Instantiation.{data_filled}
use Rattle.eval_machine.specs.Prelude.{PoursDatas, MemoryFits, datas_in, written_in}
use Rattle.eval_machine.specs.InstantiationParts.{PoursByMode, PoursData, WritesIn, data_state, data_stop, datas_end, datas_from, has_bytes, place_at}
use Rattle.eval_machine.proofs.OverwrittenLists.{put_over, overwrite_in, overwrite_out}
use Rattle.eval_machine.proofs.ActiveData.{is_imported_memory}

-- ---- lists ----

data_at : (ds : List DataSeg) (bs : List Bool) (n : ℕ) (d : DataSeg) → slice_get ds n ≡ Some d → slice_get bs n ≡ Some false → slice_get (datas_in ds bs) n ≡ Some (record { bytes = d.bytes; dropped = false })
data_at [] bs n d e f = absurd (let k = e in cc)
data_at (x ∷ ds) [] n d e f = absurd (let k = f in cc)
data_at (x ∷ ds) (b ∷ bs) zero d e f = let is : b ≡ false = same_Some b false f in let same : x ≡ d = same_Some x d e in rw (is, same) refl
data_at (x ∷ ds) (b ∷ bs) (suc n) d e f = data_at ds bs n d e f

-- A dropped segment has no bytes.
pub data_dropped : (ds : List DataSeg) (bs : List Bool) (n : ℕ) → slice_set (datas_in ds bs) n no_bytes ≡ datas_in ds (slice_set bs n true)
data_dropped [] bs n = refl
data_dropped (x ∷ ds) [] n = refl
data_dropped (x ∷ ds) (b ∷ bs) zero = refl
data_dropped (x ∷ ds) (b ∷ bs) (suc n) = ap (λ ys. cond b no_bytes (record { bytes = x.bytes; dropped = false }) ∷ ys) (data_dropped ds bs n)

set_last : {A : Type 0} (xs : List A) (y z : A) (n : ℕ) → n ≡ length xs → slice_set (xs ++ y ∷ []) n z ≡ xs ++ z ∷ []
set_last [] y z zero e = refl
set_last [] y z (suc n) e = absurd (omega (arith, e))
set_last (x ∷ xs) y z zero e = absurd (omega (arith, e))
set_last (x ∷ xs) y z (suc n) e = ap (λ ys. x ∷ ys) (set_last xs y z n (omega (arith, e)))

pub one_limit : (ls : List Limits) (p : Pages) → MemoryFits ls (Some p) → (l : Limits) × (ls ≡ l ∷ [])
one_limit [] p f = elim f [ ]
one_limit (l ∷ []) p f = (l, refl)
one_limit (l ∷ k ∷ ls) p f = elim f [ ]

no_limit : (ls : List Limits) → MemoryFits ls None → ls ≡ []
no_limit [] f = refl
no_limit (l ∷ []) f = elim f [ ]
no_limit (l ∷ k ∷ ls) f = elim f [ ]

-- ---- the stop of a segment ----

data StopIs (unknown there many : Bool) : Option Stop → Type 0 where
  nothing : unknown ≡ false → there ≡ true → many ≡ false → StopIs unknown there many None
  first_ : unknown ≡ true → StopIs unknown there many (Some why.Unknown)
  second : unknown ≡ false → there ≡ false → StopIs unknown there many (Some why.Trap)
  third : unknown ≡ false → there ≡ true → many ≡ true → StopIs unknown there many (Some why.Memory)

stop_is : (unknown there many : Bool) → StopIs unknown there many (cond unknown (Some why.Unknown) (cond there (cond many (Some why.Memory) None) (Some why.Trap)))
stop_is true there many = first_ refl
stop_is false true true = third refl refl refl
stop_is false true false = nothing refl refl refl
stop_is false false many = second refl refl

record HasBytes (m : Module) (p : Option Pages) (memory : ℕ) (offset : ConstExpr) (count : ℕ) : Type 0 where
  pub value : ℤ
  pub is : offset ≡ const.I32 value
  pub pages : Pages
  pub there : p ≡ Some pages
  pub own : memory ≡ length (imported_memories m.imports)
  pub fits : wrapped 32 value + count ≤ size pages

has_bytes_is : (m : Module) (p : Option Pages) (memory : ℕ) (offset : ConstExpr) (count : ℕ) → has_bytes m p memory offset count ≡ true → HasBytes m p memory offset count
has_bytes_is m None memory offset count e = absurd (let k = e in cc)
has_bytes_is m (Some q) memory (const.I32 v) count e = record {
  value = v;
  is = refl;
  pages = q;
  there = refl;
  own = eqb-true memory (length (imported_memories m.imports)) (left_true _ _ e);
  fits = leb-true (wrapped 32 v + count) (size q) (right_true (nat_eq memory (length (imported_memories m.imports))) _ e);
}
has_bytes_is m (Some q) memory (const.I64 v) count e = absurd (let k = e in cc)
has_bytes_is m (Some q) memory (const.Null v) count e = absurd (let k = e in cc)
has_bytes_is m (Some q) memory (const.Func v) count e = absurd (let k = e in cc)
has_bytes_is m (Some q) memory (const.Global v) count e = absurd (let k = e in cc)

-- ---- a segment ----

module _ (m : Module) (s : State) (n : ℕ) (d : DataSeg) (at : slice_get m.datas n ≡ Some d) (p : Option Pages) (holds : MemoryFits m.mems p) (flags : List Bool) (flag : slice_get flags n ≡ Some false) where
  abbrev task : PlacedSegment DataSeg
  task = record { part = 0; inst = own_inst m; address = n; segment = d }

  abbrev old : State
  old = data_state m s p flags

  abbrev run : (memory : ℕ) (offset : ConstExpr) → Filled
  run memory offset = run_data_with (value_in m) old.store task (data'.Active memory offset)

  abbrev touched : (memory : ℕ) (offset : ConstExpr) → Outcome Touched
  touched memory offset = Gives (Bytes memory (place_in m offset) (length d.bytes))

  abbrev stage : (memory : ℕ) (offset : ConstExpr) → Filled → Stage
  stage memory offset x = data_filled m old memory offset x (touched memory offset)

  stage_of : (memory : ℕ) (offset : ConstExpr) → d.mode ≡ data'.Active memory offset → with_data m old task ≡ stage memory offset (run memory offset)
  stage_of memory offset is = ap (with_data_mode m old task) is ∙ ap (λ mode. stage memory offset (run_data_with (value_in m) old.store task mode)) is

  its_data : slice_get old.store.datas n ≡ Some (record { bytes = d.bytes; dropped = false })
  its_data = data_at m.datas flags n d at flag

  imported_many : length (imported_store m).mems ≡ length (imported_memories m.imports)
  imported_many = length-map (imported_memories m.imports) _

  -- The segment is for the memory that the module defines.
  module _ (v : ℤ) (q : Pages) (there : p ≡ Some q) (memory : ℕ) (own : memory ≡ length (imported_memories m.imports)) where
    fits_q : MemoryFits m.mems (Some q)
    fits_q = rw there at holds

    abbrev the_memory : Limits → Pages → Memory
    the_memory l x = record { most = l.max; pages = l.min; bytes = x.now.bytes }

    address : slice_get (own_inst m).mems memory ≡ Some memory
    address =
        let l = one_limit m.mems q fits_q in
        let many : length (memories_of m) ≡ length (imported_memories m.imports) + length m.mems = length-append (imported_memories m.imports) m.mems in
        let one : length m.mems ≡ 1 = ap length l.1 in
        let z : 0 + memory ≡ memory = omega arith in
        numbers_at 0 (length (memories_of m)) memory (omega (arith, own, many, one)) ∙ ap Some z

    stands : (l : Limits) → m.mems ≡ l ∷ [] → slice_get old.store.mems memory ≡ Some (the_memory l q)
    stands l one =
        let z : memory ≡ length (imported_store m).mems = own ∙ sym imported_many in
        rw (there, one, z) (push_last (imported_store m).mems (the_memory l q))

    goes : wrapped 32 v + length d.bytes ≤ size q → (l : Limits) → m.mems ≡ l ∷ [] →
        run memory (const.I32 v) ≡ record { store = changed (changed old.store (SetMemory memory (record (the_memory l q) { bytes = put_over q.now.bytes (wrapped 32 v) d.bytes }))) (DropData n); trapped = false }
    goes fits l one = rw (address, stands l one, its_data, overwrite_in q.now.bytes (wrapped 32 v) d.bytes fits) refl

    passes : size q < wrapped 32 v + length d.bytes → (run memory (const.I32 v)).trapped ≡ true
    passes past = let l = one_limit m.mems q fits_q in rw (address, stands l.0 l.1, its_data, overwrite_out q.now.bytes (wrapped 32 v) d.bytes past) refl

    next_is : (new : Pages) → WritesBytes q new (wrapped 32 v) d.bytes → (l : Limits) → m.mems ≡ l ∷ [] →
        record old { store = changed (changed old.store (SetMemory memory (record (the_memory l q) { bytes = put_over q.now.bytes (wrapped 32 v) d.bytes }))) (DropData n); written = with_reached (wrapped 32 v) (length d.bytes) 0 (written_in p) }
        ≡ data_state m s (Some new) (slice_set flags n true)
    next_is new w l one =
        let z : memory ≡ length (imported_store m).mems = own ∙ sym imported_many in
        let bytes : put_over q.now.bytes (wrapped 32 v) d.bytes ≡ new.now.bytes = sym (ap (λ c. c.bytes) w.now) in
        let blocks : with_reached (wrapped 32 v) (length d.bytes) 0 q.now.written ≡ new.now.written = sym (ap (λ c. c.written) w.now) in
        rw (there, one, bytes, blocks, set_last (imported_store m).mems (the_memory l q) (the_memory l new) memory z, data_dropped m.datas flags n) refl

  -- No memory has this index, or the memory does not have the bytes.
  nowhere : (memory : ℕ) → length (memories_of m) ≤ memory → slice_get (own_inst m).mems memory ≡ None
  nowhere memory le = slice_get_past (own_inst m).mems memory (rw (length-numbers 0 (length (memories_of m))) le)

  module _ (single : length (memories_of m) ≤ 1) (memory : ℕ) where
    past_imports : is_imported m Memories memory ≡ false → length (imported_memories m.imports) ≤ memory
    past_imports e = elim (cases_lt memory (length (imported_memories m.imports))) [
      | inl lt ↦ absurd (let k : true ≡ false = sym (is_imported_memory m memory lt) ∙ e in cc)
      | inr le ↦ le
    ]

    traps_at : (v : ℤ) (o : Option Pages) → p ≡ o → is_imported m Memories memory ≡ false → has_bytes m o memory (const.I32 v) (length d.bytes) ≡ false → (run memory (const.I32 v)).trapped ≡ true
    traps_at v None there off h =
        let many : length (memories_of m) ≡ length (imported_memories m.imports) + length m.mems = length-append (imported_memories m.imports) m.mems in
        let none : length m.mems ≡ 0 = ap length (no_limit m.mems (rw there at holds)) in
        rw (nowhere memory (omega (arith, many, none, past_imports off))) refl
    traps_at v (Some q) there off h = elim (cases_eq memory (length (imported_memories m.imports))) [
      | inl own ↦
          let same : nat_eq memory (length (imported_memories m.imports)) ≡ true = eq-eqb memory (length (imported_memories m.imports)) own in
          let past : nat_le (wrapped 32 v + length d.bytes) (size q) ≡ false = rw same at h in
          passes v q there memory own (leb-false (wrapped 32 v + length d.bytes) (size q) past)
      | inr other ↦
          let many : length (memories_of m) ≡ length (imported_memories m.imports) + length m.mems = length-append (imported_memories m.imports) m.mems in
          let one = one_limit m.mems q (rw there at holds) in
          let has : length m.mems ≡ 1 = ap length one.1 in
          rw (nowhere memory (elim (cases_order memory (length (imported_memories m.imports))) [ inl e ↦ absurd (other e) | inr o ↦ elim o [ inl lt ↦ absurd (omega (arith, lt, past_imports off)) | inr gt ↦ omega (arith, gt, many, has) ] ])) refl
    ]

    traps : (offset : ConstExpr) → (reads_global offset || is_imported m Memories memory) ≡ false → has_bytes m p memory offset (length d.bytes) ≡ false → (run memory offset).trapped ≡ true
    traps (const.I32 v) known h = traps_at v p refl known h
    traps (const.I64 v) known h = refl
    traps (const.Null v) known h = refl
    traps (const.Func v) known h = rw (by (slice_get (own_inst m).funcs v)) refl
      where
        by : (o : Option ℕ) → (((o >>= λ a. Some (Ref (FuncRef (Some a)))) >>= num_of W32)) ≡ None
        by None = refl
        by (Some a) = refl
    traps (const.Global v) known h = absurd (let k = known in cc)

    stops_first : (offset : ConstExpr) (x : Filled) → (reads_global offset || is_imported m Memories memory) ≡ true → stage memory offset x ≡ Stopped why.Unknown old.turns
    stops_first offset x h = rw h refl

    stops_second : (offset : ConstExpr) (x : Filled) → (reads_global offset || is_imported m Memories memory) ≡ false → x.trapped ≡ true → stage memory offset x ≡ Stopped why.Trap old.turns
    stops_second offset x h k = rw (h, k) refl

    -- The memory has the bytes, but the segment writes too many blocks.
    at_place : (offset : ConstExpr) → (reads_global offset || is_imported m Memories memory) ≡ false → (b : HasBytes m p memory offset (length d.bytes)) → too_many_blocks (with_reached (place_at offset) (length d.bytes) 0 (written_in p)) ≡ true →
        stage memory offset (run memory offset) ≡ Stopped why.Memory old.turns
    at_place offset known b many =
        let l = one_limit m.mems b.pages (rw b.there at holds) in
        let off : is_imported m Memories memory ≡ false = rw b.is at known in
        let blocks : too_many_blocks (with_reached (wrapped 32 b.value) (length d.bytes) 0 (written_in p)) ≡ true = rw b.is at many in
        rw (b.is, goes b.value b.pages b.there memory b.own b.fits l.0 l.1, off, blocks) refl

    goes_on : (offset : ConstExpr) (new : Option Pages) → (reads_global offset || is_imported m Memories memory) ≡ false → (b : HasBytes m p memory offset (length d.bytes)) → too_many_blocks (with_reached (place_at offset) (length d.bytes) 0 (written_in p)) ≡ false →
        WritesIn p new (place_at offset) d.bytes → stage memory offset (run memory offset) ≡ Finished (data_state m s new (slice_set flags n true))
    goes_on offset None known b few w = absurd (let k : WritesIn (Some b.pages) None (place_at offset) d.bytes = rw b.there at w in elim k [ ])
    goes_on offset (Some new) known b few w =
        let l = one_limit m.mems b.pages (rw b.there at holds) in
        let off : is_imported m Memories memory ≡ false = rw b.is at known in
        let blocks : too_many_blocks (with_reached (wrapped 32 b.value) (length d.bytes) 0 (written_in p)) ≡ false = rw b.is at few in
        let writes : WritesBytes b.pages new (wrapped 32 b.value) d.bytes = rw (b.there, b.is) at w in
        rw (b.is, goes b.value b.pages b.there memory b.own b.fits l.0 l.1, off, blocks) (ap Finished (next_is b.value b.pages b.there memory b.own new writes l.0 l.1))

    data_stops : (offset : ConstExpr) (x : Stop) → d.mode ≡ data'.Active memory offset → data_stop m p memory offset (length d.bytes) ≡ Some x → with_data m old task ≡ Stopped x old.turns
    data_stops offset x is h = by (data_stop m p memory offset (length d.bytes)) (stop_is (reads_global offset || is_imported m Memories memory) (has_bytes m p memory offset (length d.bytes)) (too_many_blocks (with_reached (place_at offset) (length d.bytes) 0 (written_in p)))) h
      where
        by : (o : Option Stop) → StopIs (reads_global offset || is_imported m Memories memory) (has_bytes m p memory offset (length d.bytes)) (too_many_blocks (with_reached (place_at offset) (length d.bytes) 0 (written_in p))) o → o ≡ Some x → with_data m old task ≡ Stopped x old.turns
        by None (nothing a b c) g = absurd (let k = g in cc)
        by (Some _) (first_ a) g = stage_of memory offset is ∙ (stops_first offset (run memory offset) a ∙ ap (λ x. Stopped x old.turns) (same_Some _ _ g))
        by (Some _) (second a b) g = stage_of memory offset is ∙ (stops_second offset (run memory offset) a (traps offset a b) ∙ ap (λ x. Stopped x old.turns) (same_Some _ _ g))
        by (Some _) (third a b c) g = stage_of memory offset is ∙ (at_place offset a (has_bytes_is m p memory offset (length d.bytes) b) c ∙ ap (λ x. Stopped x old.turns) (same_Some _ _ g))

    data_goes : (offset : ConstExpr) (new : Option Pages) → d.mode ≡ data'.Active memory offset → data_stop m p memory offset (length d.bytes) ≡ None → WritesIn p new (place_at offset) d.bytes → with_data m old task ≡ Finished (data_state m s new (slice_set flags n true))
    data_goes offset new is h w = by (data_stop m p memory offset (length d.bytes)) (stop_is (reads_global offset || is_imported m Memories memory) (has_bytes m p memory offset (length d.bytes)) (too_many_blocks (with_reached (place_at offset) (length d.bytes) 0 (written_in p)))) h
      where
        by : (o : Option Stop) → StopIs (reads_global offset || is_imported m Memories memory) (has_bytes m p memory offset (length d.bytes)) (too_many_blocks (with_reached (place_at offset) (length d.bytes) 0 (written_in p))) o → o ≡ None →
            with_data m old task ≡ Finished (data_state m s new (slice_set flags n true))
        by None (nothing a b c) g = stage_of memory offset is ∙ goes_on offset new a (has_bytes_is m p memory offset (length d.bytes) b) c w
        by (Some _) (first_ a) g = absurd (let k = g in cc)
        by (Some _) (second a b) g = absurd (let k = g in cc)
        by (Some _) (third a b c) g = absurd (let k = g in cc)

-- ---- all data segments ----

one_less : (m : Module) (n : ℕ) (d : DataSeg) → slice_get m.datas n ≡ Some d → datas_from m n (drop n m.datas) ≡ record { part = 0; inst = own_inst m; address = n; segment = d } ∷ datas_from m (suc n) (drop (suc n) m.datas)
one_less m n d at = rw (drop-cons m.datas n d (slice_get_within m.datas n d at), get_or_from_slice_get m.datas n d d at) refl

-- The state after the first `n` data segments: these are copied, and none of the others is dropped.
pub record Stands (m : Module) (first : Option Pages) (flags : List Bool) (n : ℕ) (p : Option Pages) (now : List Bool) : Type 0 where
  pub leads : (s : State) → datas_end m (data_state m s first flags) ≡ in_order (with_data m) (Finished (data_state m s p now)) (datas_from m n (drop n m.datas))
  pub many : length now ≡ length m.datas
  pub later : (k : ℕ) → n ≤ k → k < length m.datas → slice_get now k ≡ Some false

pub begins : (m : Module) (p : Option Pages) (flags : List Bool) → flags ≡ replicate (length m.datas) false → Stands m p flags 0 p flags
begins m p flags is = record {
  leads = λ s. refl;
  many = ap length is ∙ length-replicate (length m.datas) false;
  later = λ k le lt. ap (λ bs. slice_get bs k) is ∙ replicate_at false (length m.datas) k lt;
}

stopped : (m : Module) (x : Stop) (left : ℕ) (xs : List (PlacedSegment DataSeg)) → stop_of (in_order (with_data m) (Stopped x left) xs) ≡ Some x
stopped m x left [] = refl
stopped m x left (y ∷ xs) = refl

module _ (m : Module) (single : length (memories_of m) ≤ 1) (first : Option Pages) (flags : List Bool) (n : ℕ) (p : Option Pages) (now : List Bool) (stands : Stands m first flags n p now) (holds : MemoryFits m.mems p) (d : DataSeg) (at : slice_get m.datas n ≡ Some d) where
  flag : slice_get now n ≡ Some false
  flag = stands.later n (omega arith) (slice_get_within m.datas n d at)

  stands_on : (memory : ℕ) (offset : ConstExpr) (new : Option Pages) → d.mode ≡ data'.Active memory offset → PoursData m memory offset d.bytes p None new → Stands m first flags (suc n) new (slice_set now n true)
  stands_on memory offset new is pours = record {
    leads = λ s.
        let t = data_goes m s n d at p holds now flag single memory offset new is pours.0 pours.1 in
        stands.leads s ∙ (ap (in_order (with_data m) (Finished (data_state m s p now))) (one_less m n d at) ∙ ap (λ x. in_order (with_data m) x (datas_from m (suc n) (drop (suc n) m.datas))) t);
    many = length-set now n true ∙ stands.many;
    later = λ k le lt. set_other now n k true (λ same. absurd (omega (arith, same, le))) ∙ stands.later k (omega (arith, le)) lt;
  }

  stands_still : d.mode ≡ data'.Passive → Stands m first flags (suc n) p now
  stands_still is = record {
    leads = λ s. stands.leads s ∙ (ap (in_order (with_data m) (Finished (data_state m s p now))) (one_less m n d at) ∙ ap (λ x. in_order (with_data m) x (datas_from m (suc n) (drop (suc n) m.datas))) (still s));
    many = stands.many;
    later = λ k le lt. stands.later k (omega (arith, le)) lt;
  }
    where
      still : (s : State) → with_data m (data_state m s p now) (record { part = 0; inst = own_inst m; address = n; segment = d }) ≡ Finished (data_state m s p now)
      still s = rw is refl

  stops_there : (memory : ℕ) (offset : ConstExpr) (new : Option Pages) (x : Stop) → d.mode ≡ data'.Active memory offset → PoursData m memory offset d.bytes p (Some x) new → (s : State) → stop_of (datas_end m (data_state m s first flags)) ≡ Some x
  stops_there memory offset new x is pours s =
      let t = data_stops m s n d at p holds now flag single memory offset x is pours in
      ap stop_of (stands.leads s ∙ (ap (in_order (with_data m) (Finished (data_state m s p now))) (one_less m n d at) ∙ ap (λ x. in_order (with_data m) x (datas_from m (suc n) (drop (suc n) m.datas))) t)) ∙ stopped m x s.turns (datas_from m (suc n) (drop (suc n) m.datas))

  pub one_poured : (stop : Option Stop) (new : Option Pages) (after : List Bool) → PoursByMode m n d d.mode p now stop new after → stop ≡ None → Stands m first flags (n + 1) new after
  one_poured stop new after pours none = subst (λ k. Stands m first flags k new after) z (by d.mode refl stop pours none)
    where
      z : suc n ≡ n + 1
      z = omega arith

      by : (mode : DataMode) → d.mode ≡ mode → (stop : Option Stop) → PoursByMode m n d mode p now stop new after → stop ≡ None → Stands m first flags (suc n) new after
      by (data'.Active memory offset) is None h k = subst (λ bs. Stands m first flags (suc n) new bs) (sym h.1) (stands_on memory offset new is h.0)
      by (data'.Active memory offset) is (Some x) h k = absurd (let j = k in cc)
      by data'.Passive is stop h k = rw (h.1.0, h.1.1) (stands_still is)

  pub one_stopped : (stop : Option Stop) (x : Stop) (new : Option Pages) (after : List Bool) → PoursByMode m n d d.mode p now stop new after → stop ≡ Some x → PoursDatas m first flags (Some x) new after
  one_stopped stop x new after pours some s = by d.mode refl stop pours some
    where
      by : (mode : DataMode) → d.mode ≡ mode → (stop : Option Stop) → PoursByMode m n d mode p now stop new after → stop ≡ Some x → stop_of (datas_end m (data_state m s first flags)) ≡ Some x
      by (data'.Active memory offset) is None h k = absurd (let j = k in cc)
      by (data'.Active memory offset) is (Some y) h k = stops_there memory offset new x is (subst (λ y. PoursData m memory offset d.bytes p (Some y) new) (same_Some y x k) h) s
      by data'.Passive is stop h k = absurd (let j : None ≡ Some x = sym h.0 ∙ k in cc)
