-- Memories and data segments of the machine's run and of the snapshot: the defined memory holds the
-- bytes that the quiet run left in its memory, and a data segment is as long as that of the quiet
-- run.
use Rattle.base_lists.proofs.Common.{◌≡◌, ◌∙◌, sym, ap, refl, ℕ, zero, suc, ◌+◌, ◌*◌, ◌^◌, ◌≤◌, List, [], ◌∷◌, length, Bool, true, false, cond, Option, Some, None, inl, inr, arith, slice_get, cases_lt, length-append, length-map, same_Some, slice_get_within, and_then_is, copies_length}
use Rattle.base_lists.proofs.Common.{overwritten_length}
use Rattle.std.specs.Prelude.{unwrap_or}
use Rattle.base_lists.specs.Options.{◌>>=◌}
use Rattle.wasm_tree_spec.specs.Prelude.{Limits, DataSeg, Module, imported_memories, memories_of}
use Rattle.wasm_valid.specs.declared.kinds.ItemKind.TheVariants as kind
use Rattle.wasm_meaning.specs.Prelude.{overwrite, Memory}
use Rattle.world_simulation.specs.InstantiatedStores.{Copy, nothing, contents, Leaves, all_over, data_copies, is_address, over}
use Rattle.world_simulation.specs.Prelude.{new_memory}
use Rattle.eval_spec.specs.Prelude.{State, imported_store, own_inst, value_in, memory_bytes}
use Rattle.eval_snapshot_spec.specs.After.{TellsTheSame}
use Rattle.eval_snapshot_spec.specs.Snapshot.{segment_left, segments_left}
use Rattle.wasm_valid.specs.Prelude.{ItemsHold}
use Rattle.eval_snapshot_proof.proofs.RelatedDataCopies.{AreBytesOf}
use Rattle.eval_snapshot_proof.proofs.UnchangedParts.{Steady}

-- ---- copies keep lengths ----

over_length : (address : ℕ) (c : Copy ℕ) (xs zs : List ℕ) → over address c xs ≡ Some zs → length zs ≡ length xs
over_length address nothing xs zs h = ap length (sym (same_Some _ _ h))
over_length address (contents to offset copied) xs zs h = by (is_address to address) h
  where
    by : (b : Bool) → cond b (offset >>= λ n. copied >>= λ ys. overwrite xs n ys) (Some xs) ≡ Some zs → length zs ≡ length xs
    by true e = let n = and_then_is offset _ zs e in let ys = and_then_is copied _ zs n.2 in overwritten_length xs n.0 ys.0 zs ys.2
    by false e = ap length (sym (same_Some _ _ e))

all_over_length : (address : ℕ) (cs : List (Copy ℕ)) (xs zs : List ℕ) → all_over address cs xs ≡ Some zs → length zs ≡ length xs
all_over_length address [] xs zs h = ap length (sym (same_Some _ _ h))
all_over_length address (c ∷ cs) xs zs h = let o = and_then_is (over address c xs) _ zs h in all_over_length address cs o.0 zs o.2 ∙ over_length address c xs o.0 o.1

pub segments_at : (s : State) (from : ℕ) (ds : List DataSeg) (n : ℕ) (d : DataSeg) → slice_get ds n ≡ Some d → slice_get (segments_left s from ds) n ≡ Some (segment_left s (from + n) d)
segments_at s from [] n d h = absurd (let k = h in cc)
segments_at s from (x ∷ xs) zero d h = let z : from ≡ from + 0 = omega arith in ap (λ k. Some (segment_left s k x)) z ∙ ap (λ x. Some (segment_left s (from + 0) x)) (same_Some _ _ h)
segments_at s from (x ∷ xs) (suc n) d h = let z : suc from + n ≡ from + suc n = omega arith in segments_at s (suc from) xs n d h ∙ ap (λ k. Some (segment_left s k d)) z

-- ---- the quiet run's own memory ----

module _ (m : Module) (s e q : State) (quiet : Leaves (value_in m) m (own_inst m) (imported_store m) q.store) (steady : Steady q.store e.store) (told : TellsTheSame m s e) where
  abbrev at : ℕ
  at = length (imported_memories m.imports)

  -- The defined memory has the limits that the module says, and it holds the bytes of the snapshot.
  pub record IsHeld (l : Limits) : Type 0 where
    pub memory : Memory
    pub there : slice_get e.store.mems at ≡ Some memory
    pub is : memory ≡ record { most = l.max; pages = l.min; bytes = memory_bytes m s }
    pub size : length (memory_bytes m s) ≡ 65536 * l.min

  pub is_held : (l : Limits) → slice_get m.mems 0 ≡ Some l → IsHeld l
  is_held l h =
      let p = quiet.mems 0 l h in
      let bs = and_then_is (all_over (length (imported_store m).mems + 0) (data_copies (value_in m) (own_inst m) m.datas) (new_memory l).bytes) _ p.0 p.1 in
      let made : record (new_memory l) { bytes = bs.0 } ≡ p.0 = same_Some _ _ bs.2 in
      let count : length (imported_store m).mems ≡ at = length-map (imported_memories m.imports) _ in
      let z : length (imported_store m).mems + 0 ≡ at = omega (arith, count) in
      let f = steady.mems at p.0 (ap (slice_get q.store.mems) (sym z) ∙ p.2) in
      let told_is : memory_bytes m s ≡ f.0.bytes = told.bytes ∙ ap (λ o. unwrap_or (o >>= λ (x : Memory). Some x.bytes) []) f.1 in
      let most : f.0.most ≡ l.max = f.2.most ∙ ap (λ (x : Memory). x.most) (sym made) in
      let pages : f.0.pages ≡ l.min = f.2.pages ∙ ap (λ (x : Memory). x.pages) (sym made) in
      let zeros = copies_length {A = ℕ} (65536 * l.min) 0 in
      let size : length f.0.bytes ≡ 65536 * l.min =
      f.2.size ∙ ap (λ (x : Memory). length x.bytes) (sym made) ∙ all_over_length _ (data_copies (value_in m) (own_inst m) m.datas) (new_memory l).bytes bs.0 bs.1 ∙ zeros in
      record {
        memory = f.0;
        there = f.1;
        is = ap (λ x. record { most = x; pages = f.0.pages; bytes = f.0.bytes }) most ∙ ap (λ x. record { most = l.max; pages = x; bytes = f.0.bytes }) pages
            ∙ ap (λ x. record { most = l.max; pages = l.min; bytes = x }) (sym told_is);
        size = ap length told_is ∙ size;
      }

  pub are_bytes : length q.store.mems ≡ length (memories_of m) → ItemsHold m → AreBytesOf m (memory_bytes m s)
  are_bytes counted items = record { none = none; size = λ l h. (is_held l h).size; small = small }
    where
      nothing_there : (o : Option Memory) → slice_get e.store.mems at ≡ o → length m.mems ≡ 0 → unwrap_or (o >>= λ (x : Memory). Some x.bytes) [] ≡ []
      nothing_there None h z = refl
      nothing_there (Some x) h z =
          let w = slice_get_within e.store.mems at x h in
          let c = steady.memory_count in
          let all = length-append (imported_memories m.imports) m.mems in
          absurd (omega (arith, w, c, counted, all, z))

      none : length m.mems ≡ 0 → memory_bytes m s ≡ []
      none z = told.bytes ∙ nothing_there (slice_get e.store.mems at) refl z

      small : length (memory_bytes m s) ≤ 2 ^ 32
      small = elim (cases_lt 0 (length m.mems)) [
        | inl lt ↦
            let l = items kind.Memory 0 lt in
            let size = (is_held l.0 l.1).size in
            let pages = l.2.1 in
            omega (arith, size, pages)
        | inr le ↦ let z : length m.mems ≡ 0 = omega (arith, le) in let size : length (memory_bytes m s) ≡ 0 = ap length (none z) in omega (arith, size)
      ]
