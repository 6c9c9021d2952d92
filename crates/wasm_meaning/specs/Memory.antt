-- Instructions on memories and data segments (WebAssembly Core 2.0, section 4.4.7).
use Rattle.std.proofs.Common.{ℕ, suc, ◌+◌, ◌%◌, List, ◌∷◌, Option, Some, None, Bool, true, cond, ◌&&◌}
use Rattle.std.specs.Prelude.{nat_lt}
use Rattle.wasm_tree_spec.specs.Prelude.{LoadOp, StoreOp, MemArg}
use Rattle.wasm_meaning.specs.Outcomes.{Outcome, Gives, bind, slice, overwrite, copies, or_trap, with_entry}
use Rattle.wasm_num.specs.Operations.{W32}
use Rattle.wasm_meaning.specs.Access.{load_to, load_width, loaded, store_from, stored}
use Rattle.wasm_meaning.specs.State.{Val, Num, Memory, Env, Body, GrowMemory, SetMemory, DropData, Act, Goes, AsksGrow}
use Rattle.wasm_meaning.specs.Values.{pop_num, with_values, on_values, pushes}

-- The memory with `bytes` written from `place` on; a trap if they pass its end.
abbrev pub written : Memory → ℕ → List ℕ → Outcome Memory
written m place bytes = bind (or_trap (overwrite m.bytes place bytes)) (λ b. Gives (record m { bytes = b }))

abbrev pub load_from : Memory → LoadOp → ℕ → List Val → Outcome (List Val)
load_from m o offset vs = bind (pop_num W32 vs) (λ a. bind (or_trap (slice m.bytes (a.0 + offset) (load_width o))) (λ bytes. Gives (Num (load_to o) (loaded o bytes) ∷ a.1)))

-- Passes the address and the contents of the memory with index `i` to `f`.
abbrev pub with_memory : {B : Type 0} → Env → ℕ → (ℕ → Memory → Outcome B) → Outcome B
with_memory env i f = with_entry env.inst.mems i (λ a. with_entry env.store.mems a (f a))

abbrev pub load : Env → Body → LoadOp → MemArg → Outcome Act
load env h o arg = with_memory env arg.memory (λ a m. on_values h (load_from m o arg.offset))

-- Sets the memory at address `a` to what `m` gives, and leaves the values `vs`.
abbrev pub writes : Body → ℕ → Outcome Memory → List Val → Outcome Act
writes h a m vs = bind m (λ n. Gives (Goes (SetMemory a n) (with_values h vs)))

abbrev pub store_into : Body → StoreOp → ℕ → ℕ → Memory → Outcome Act
store_into h o offset a m = bind (pop_num (store_from o) h.values) (λ v. bind (pop_num W32 v.1) (λ p. writes h a (written m (p.0 + offset) (stored o v.0)) p.1))

abbrev pub store : Env → Body → StoreOp → MemArg → Outcome Act
store env h o arg = with_memory env arg.memory (store_into h o arg.offset)

abbrev pub memory_size : Env → Body → ℕ → Outcome Act
memory_size env h i = with_memory env i (λ a m. pushes h (Num W32 m.pages))

abbrev pub below_most : Option ℕ → ℕ → Bool
below_most None n = true
below_most (Some most) n = nat_lt n (suc most)

abbrev pub memory_may_grow : Memory → ℕ → Bool
memory_may_grow m count = (nat_lt (m.pages + count) 65537) && (below_most m.most (m.pages + count))

abbrev pub grow_memory : Body → ℕ → Memory → Outcome Act
grow_memory h a m =
    bind (pop_num W32 h.values) (λ n. cond (memory_may_grow m n.0) (Gives (AsksGrow (GrowMemory a n.0) m.pages n.0 (with_values h n.1))) (pushes (with_values h n.1) (Num W32 4294967295)))

abbrev pub memory_grow : Env → Body → ℕ → Outcome Act
memory_grow env h i = with_memory env i (grow_memory h)

-- Pops three numbers: a destination; a source, or for memory.fill the value; and a length, which is
-- on top.
abbrev pub pop_three : List Val → Outcome ((ℕ × ℕ × ℕ) × List Val)
pop_three vs = bind (pop_num W32 vs) (λ n. bind (pop_num W32 n.1) (λ s. bind (pop_num W32 s.1) (λ d. Gives ((d.0, s.0, n.0), d.1))))

-- Writes a range of `bytes`: those of a segment, or for memory.copy those of the source before the
-- write.
abbrev pub init_memory : Body → List ℕ → ℕ → Memory → Outcome Act
init_memory h bytes a m = bind (pop_three h.values) (λ p. bind (or_trap (slice bytes p.0.1 p.0.2)) (λ b. writes h a (written m p.0.0 b) p.1))

abbrev pub memory_init : Env → Body → (segment memory : ℕ) → Outcome Act
memory_init env h s i = with_entry env.inst.datas s (λ d. with_entry env.store.datas d (λ d. with_memory env i (init_memory h d.bytes)))

abbrev pub data_drop : Env → Body → ℕ → Outcome Act
data_drop env h s = with_entry env.inst.datas s (λ a. Gives (Goes (DropData a) h))

abbrev pub memory_copy : Env → Body → (to source : ℕ) → Outcome Act
memory_copy env h i j = with_memory env j (λ b source. with_memory env i (init_memory h source.bytes))

abbrev pub fill_memory : Body → ℕ → Memory → Outcome Act
fill_memory h a m = bind (pop_three h.values) (λ p. writes h a (written m p.0.0 (copies p.0.2 (p.0.1 % 256))) p.1)

abbrev pub memory_fill : Env → Body → ℕ → Outcome Act
memory_fill env h i = with_memory env i (fill_memory h)
