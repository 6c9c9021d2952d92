-- What an active data segment does to the memory of a state (WebAssembly Core 2.0, section 4.5.4).
use Rattle.base_lists.proofs.Common.{◌≡◌, ℕ, ℤ, ◌+◌, ◌<◌, ◌≤◌, List, [], ◌∷◌, length, Bool, true, false, ◌&&◌, ◌||◌, Option, Some, None, refl, sym, ap, ◌∙◌, inl, inr, arith, count_by, min, nat_eq, nat_le, nat_lt, cases_lt, lt-ltb, le-ltb, le-leb, lt-leb, eq-eqb, ne_eqb}
use Rattle.std.proofs.lemmas.Bool.{or_right}
use Rattle.wasm_tree_spec.specs.Prelude.{Memories, Limits, ConstExpr, Module, imported_memories}
use Rattle.wasm_tree.specs.declared.module.ConstExpr.TheVariants as const
use Rattle.wasm_num.specs.Operations.{wrapped}
use Rattle.block_pool.specs.Pages.{Pages, Passes, WritesBytes, size, with_reached}
use Rattle.eval_spec.specs.declared.limits.TheConstants.{MOST_BLOCKS}
use Rattle.eval_spec.specs.declared.stop.Stop.TheVariants as why
use Rattle.eval_spec.specs.Prelude.{is_imported, too_many_blocks, reads_global}
use Rattle.eval_machine.specs.InstantiationParts.{data_stop, has_bytes}
use Rattle.eval_machine.specs.Prelude.{MemoryFits, HoldsMost}
use Rattle.eval_machine.proofs.IndexSpaces.{memories_many}
use Rattle.eval_machine.proofs.WrittenBlocks.{passes_too_many}

-- ---- blocks ----

-- A write that the pages allow does not write too many blocks for an evaluation.
few_enough : (p : Pages) (place count : ℕ) → HoldsMost p → ¬ Passes p place count → too_many_blocks (with_reached place count 0 p.now.written) ≡ false
few_enough p place count h q = elim (cases_lt p.most (count_by (λ w. w) (with_reached place count 0 p.now.written))) [
  | inl lt ↦ absurd (q lt)
  | inr le ↦ le-ltb MOST_BLOCKS (count_by (λ w. w) (with_reached place count 0 p.now.written)) (omega (arith, le, h))
]

-- ---- the stops of a data segment ----

pub is_imported_memory : (m : Module) (memory : ℕ) → memory < length (imported_memories m.imports) → is_imported m Memories memory ≡ true
is_imported_memory m memory lt = ap (λ n. nat_lt memory n) (memories_many m) ∙ lt-ltb memory (length (imported_memories m.imports)) lt

pub is_defined_memory : (m : Module) (memory : ℕ) → length (imported_memories m.imports) ≤ memory → is_imported m Memories memory ≡ false
is_defined_memory m memory le = ap (λ n. nat_lt memory n) (memories_many m) ∙ le-ltb memory (length (imported_memories m.imports)) le

pub memory_unknown : (m : Module) (p : Option Pages) (memory : ℕ) (offset : ConstExpr) (count : ℕ) → memory < length (imported_memories m.imports) → data_stop m p memory offset count ≡ Some why.Unknown
memory_unknown m p memory offset count lt = rw (or_right (reads_global offset) (is_imported m Memories memory) (is_imported_memory m memory lt)) refl

pub runs_past : (m : Module) (p : Option Pages) (memory : ℕ) (offset : ConstExpr) (count : ℕ) → length (imported_memories m.imports) ≤ memory → reads_global offset ≡ false → has_bytes m p memory offset count ≡ false →
    data_stop m p memory offset count ≡ Some why.Trap
runs_past m p memory offset count le known e = rw (known, is_defined_memory m memory le, e)

not_there : (m : Module) (p : Option Pages) (memory : ℕ) (offset : ConstExpr) (count : ℕ) → (memory ≡ length (imported_memories m.imports) → ⊥) → has_bytes m p memory offset count ≡ false
not_there m None memory offset count ne = refl
not_there m (Some p) memory (const.I32 v) count ne = ap (λ b. b && nat_le (wrapped 32 v + count) (size p)) (ne_eqb memory (length (imported_memories m.imports)) ne)
not_there m (Some p) memory (const.I64 v) count ne = refl
not_there m (Some p) memory (const.Null v) count ne = refl
not_there m (Some p) memory (const.Func v) count ne = refl
not_there m (Some p) memory (const.Global v) count ne = refl

abbrev pub is_place : ConstExpr → Bool
is_place (const.I32 v) = true
is_place _ = false

no_number : (m : Module) (p : Option Pages) (memory : ℕ) (offset : ConstExpr) (count : ℕ) → is_place offset ≡ false → has_bytes m p memory offset count ≡ false
no_number m None memory offset count e = refl
no_number m (Some p) memory (const.I32 v) count e = absurd (let k = e in cc)
no_number m (Some p) memory (const.I64 v) count e = refl
no_number m (Some p) memory (const.Null v) count e = refl
no_number m (Some p) memory (const.Func v) count e = refl
no_number m (Some p) memory (const.Global v) count e = refl

pub no_place : (m : Module) (p : Option Pages) (memory : ℕ) (offset : ConstExpr) (count : ℕ) → length (imported_memories m.imports) ≤ memory → is_place offset ≡ false → reads_global offset ≡ false → data_stop m p memory offset count ≡ Some why.Trap
no_place m p memory offset count le e known = runs_past m p memory offset count le known (no_number m p memory offset count e)

pub another_memory : (m : Module) (p : Option Pages) (memory : ℕ) (offset : ConstExpr) (count : ℕ) → length (imported_memories m.imports) ≤ memory → (memory ≡ length (imported_memories m.imports) → ⊥) → reads_global offset ≡ false →
    data_stop m p memory offset count ≡ Some why.Trap
another_memory m p memory offset count le ne known = runs_past m p memory offset count le known (not_there m p memory offset count ne)

pub no_memory : (m : Module) (memory : ℕ) (offset : ConstExpr) (count : ℕ) → length (imported_memories m.imports) ≤ memory → reads_global offset ≡ false → data_stop m None memory offset count ≡ Some why.Trap
no_memory m memory offset count le known = runs_past m None memory offset count le known refl

module _ (m : Module) (p : Pages) (memory : ℕ) (v : ℤ) (place count : ℕ) (at : place ≡ wrapped 32 v) (is : memory ≡ length (imported_memories m.imports)) where
  known : (reads_global (const.I32 v) || is_imported m Memories memory) ≡ false
  known = is_defined_memory m memory (omega (arith, is))

  own : nat_eq memory (length (imported_memories m.imports)) ≡ true
  own = eq-eqb memory (length (imported_memories m.imports)) is

  pub past_the_end : size p < place + count → data_stop m (Some p) memory (const.I32 v) count ≡ Some why.Trap
  past_the_end lt =
      let off : nat_le (wrapped 32 v + count) (size p) ≡ false = lt-leb (wrapped 32 v + count) (size p) (rw at at lt) in
      runs_past m (Some p) memory (const.I32 v) count (omega (arith, is)) refl (rw (own, off) refl)

  inside : place + count ≤ size p → has_bytes m (Some p) memory (const.I32 v) count ≡ true
  inside le = let on : nat_le (wrapped 32 v + count) (size p) ≡ true = le-leb (wrapped 32 v + count) (size p) (rw at at le) in rw (own, on) refl

  pub too_many : HoldsMost p → place + count ≤ size p → Passes p place count → data_stop m (Some p) memory (const.I32 v) count ≡ Some why.Memory
  too_many h le q =
      let many : too_many_blocks (with_reached (wrapped 32 v) count 0 p.now.written) ≡ true = rw at at (passes_too_many p place count h q) in
      rw (known, inside le, many) refl

  pub goes : HoldsMost p → place + count ≤ size p → ¬ Passes p place count → data_stop m (Some p) memory (const.I32 v) count ≡ None
  goes h le q =
      let few : too_many_blocks (with_reached (wrapped 32 v) count 0 p.now.written) ≡ false = rw at at (few_enough p place count h q) in
      rw (known, inside le, few) refl

-- ---- what a write leaves unchanged ----

pub holds_still : (p q : Pages) (place : ℕ) (bytes : List ℕ) → WritesBytes p q place bytes → HoldsMost p → HoldsMost q
holds_still p q place bytes w h = w.most ∙ (h ∙ ap (min MOST_BLOCKS) (sym w.flags))

pub fits_still : (ls : List Limits) (p q : Pages) (place : ℕ) (bytes : List ℕ) → WritesBytes p q place bytes → MemoryFits ls (Some p) → MemoryFits ls (Some q)
fits_still [] p q place bytes w f = elim f [ ]
fits_still (l ∷ []) p q place bytes w f = (w.size ∙ f.0, holds_still p q place bytes w f.1)
fits_still (l ∷ k ∷ ls) p q place bytes w f = elim f [ ]

pub fits_most : (ls : List Limits) (p : Pages) → MemoryFits ls (Some p) → HoldsMost p
fits_most [] p f = elim f [ ]
fits_most (l ∷ []) p f = f.1
fits_most (l ∷ k ∷ ls) p f = elim f [ ]
