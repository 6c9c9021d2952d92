-- The bytes of the memory that a module defines, in the state that a machine makes with it.
use Rattle.base_lists.proofs.Common.{◌≡◌, ◌∙◌, ap, sym, refl, subst, ℕ, ◌+◌, ◌≤◌, List, [], ◌∷◌, ◌++◌, length, Option, Some, None, slice_get, arith, length-map, append_right}
use Rattle.std.specs.Prelude.{unwrap_or}
use Rattle.base_lists.specs.Options.{◌>>=◌}
use Rattle.block_pool.specs.Pages.{Pages}
use Rattle.wasm_tree_spec.specs.Prelude.{Limits, Module, imported_memories}
use Rattle.wasm_valid.specs.declared.kinds.ItemKind.TheVariants as kind
use Rattle.wasm_valid.specs.Prelude.{ItemsHold}
use Rattle.wasm_meaning.specs.Prelude.{Memory}
use Rattle.eval_spec.specs.Prelude.{imported_store, memory_bytes}
use Rattle.eval_machine.specs.declared.kept.Kept.{Kept}
use Rattle.eval_machine.specs.Prelude.{MachineFits, MemoryFits, memory_in, state_in}
use Rattle.eval_snapshot_spec.specs.Snapshot.{memory_segments}
use Rattle.eval_snapshot_spec.specs.Contents.{contents}

module _ (m : Module) (k : Kept) where
  abbrev found : List Memory → List ℕ
  found ms = unwrap_or (slice_get ms 0 >>= λ memory. Some memory.bytes) []

  bytes_are : memory_bytes m (state_in m k) ≡ found (memory_in m.mems k.memory)
  bytes_are =
      let many = length-map {B = Memory} (imported_memories m.imports) (λ l. record { most = l.max; pages = 0; bytes = [] }) in
      let place : length (imported_memories m.imports) ≡ length (imported_store m).mems + 0 = omega (arith, many) in
      ap (λ n. unwrap_or (slice_get ((imported_store m).mems ++ memory_in m.mems k.memory) n >>= λ memory. Some memory.bytes) []) place
      ∙ ap (λ o. unwrap_or (o >>= λ memory. Some memory.bytes) []) (append_right (imported_store m).mems (memory_in m.mems k.memory) 0)

  pub no_bytes : m.mems ≡ [] → memory_bytes m (state_in m k) ≡ []
  no_bytes h = bytes_are ∙ ap (λ ls. found (memory_in ls k.memory)) h

  pub no_segments : m.mems ≡ [] → memory_segments m (state_in m k) ≡ []
  no_segments h = ap (contents (length (imported_memories m.imports))) (no_bytes h)

  pub small_memory : ItemsHold m → MachineFits m k → length (memory_bytes m (state_in m k)) ≤ 4294967296
  small_memory holds fits = subst (λ bs. length bs ≤ 4294967296) (sym bytes_are) (by m.mems k.memory refl fits.memory)
    where
      by : (ls : List Limits) (o : Option Pages) → m.mems ≡ ls → MemoryFits ls o → length (found (memory_in ls o)) ≤ 4294967296
      by [] None e h = omega arith
      by [] (Some p) e h = absurd h
      by (l ∷ []) None e h = absurd h
      by (l ∷ []) (Some p) e h =
          let z = holds kind.Memory 0 (let n = ap length e in omega (arith, n)) in
          let both : Some z.0 ≡ Some l = sym z.1 ∙ ap (λ ls. slice_get ls 0) e in
          let same : z.0 ≡ l = cc in
          let pages : l.min ≤ 65536 = subst (λ (x : Limits). x.min ≤ 65536) same z.2.1 in
          let many = h.0 in
          omega (arith, pages, many)
      by (l ∷ (n ∷ ls)) None e h = absurd h
      by (l ∷ (n ∷ ls)) (Some p) e h = absurd h
