-- The memory that a module defines, as an instruction finds it, and parts of its bytes.
use Rattle.base_lists.proofs.Common.{◌≡◌, ℕ, ◌+◌, ◌-◌, ◌*◌, ◌<◌, ◌≤◌, arith, List, [], ◌∷◌, length, drop, slice_get, Bool, true, false, cond, Some, None, refl, sym, ap, ◌∙◌, inl, inr, subst, nat_lt, cases_lt, lt-ltb, le-ltb, ltb-false, length-append, length-drop, same_Some, slice_get_past}
use Rattle.base_lists.proofs.Common.{slice_get_within, none_past, length-numbers, split_take}
use Rattle.block_pool.specs.Pages.{Pages, part, size as pages_size}
use Rattle.wasm_tree_spec.specs.Prelude.{Memories, Limits, Module, imported_memories, memories_of}
use Rattle.wasm_meaning.specs.Prelude.{slice}
use Rattle.eval_spec.specs.declared.limits.TheConstants.{MOST_TURNS}
use Rattle.eval_spec.specs.declared.stop.Stop.TheVariants as why
use Rattle.eval_spec.specs.Prelude.{Stage, Stopped, is_finished, is_imported, filled_from, own_inst, state_at_first}
use Rattle.eval_machine.specs.declared.kept.Kept.{Kept}
use Rattle.eval_machine.specs.Prelude.{MachineFits, MemoryFits, store_in, HoldsMost}
use Rattle.eval_machine.proofs.IndexSpaces.{address_of, memories_many}
use Rattle.eval_machine.proofs.OperandStacks.{split_short}

-- ---- parts of lists ----

pub slice_in : (xs : List ℕ) (place n : ℕ) → place + n ≤ length xs → slice xs place n ≡ Some (part xs place n)
slice_in xs place n le =
    let a : place ≤ length xs = omega (arith, le) in
    let b : n ≤ length (drop place xs) = omega (arith, le, length-drop place xs) in
    rw (split_take place xs a, split_take n (drop place xs) b)

pub slice_out : (xs : List ℕ) (place n : ℕ) → length xs < place + n → slice xs place n ≡ None
slice_out xs place n lt = elim (cases_lt (length xs) place) [
  | inl before ↦ rw (split_short place xs before)
  | inr le ↦
      let short : length (drop place xs) < n = omega (arith, lt, le, length-drop place xs) in
      rw (split_take place xs le, split_short n (drop place xs) short)
]

-- ---- the memory ----

module _ (m : Module) (k : Kept) (f : MachineFits m k) where
  counted : k.imports.memories ≡ length (imported_memories m.imports)
  counted = ap (λ i. i.memories) f.imports

  pub imported_memory : (n : ℕ) → n < k.imports.memories → is_imported m Memories n ≡ true
  imported_memory n lt = lt-ltb n _ (omega (arith, lt, counted, memories_many m))

  pub own_memory : (n : ℕ) → k.imports.memories ≤ n → is_imported m Memories n ≡ false
  own_memory n le = le-ltb n _ (omega (arith, le, counted, memories_many m))

  few_at : (b : Bool) (t : Stage) → is_finished (cond b (Stopped why.Memory MOST_TURNS) t) ≡ true → b ≡ false
  few_at true t e = absurd (let q = e in cc)
  few_at false t e = refl

  single : length (memories_of m) ≤ 1
  single = ltb-false 1 (length (memories_of m)) (few_at (nat_lt 1 (length (memories_of m))) (filled_from m MOST_TURNS (state_at_first m MOST_TURNS)) f.ready)

  counts : length (memories_of m) ≡ length (imported_memories m.imports) + length m.mems
  counts = length-append (imported_memories m.imports) m.mems

  -- No memory follows the one that the module defines.
  pub none_past_it : (n : ℕ) → k.imports.memories < n → slice_get (own_inst m).mems n ≡ None
  none_past_it n lt = slice_get_past (own_inst m).mems n (omega (arith, lt, single, length-numbers 0 (length (memories_of m))))

  no_mems : (ls : List Limits) → MemoryFits ls None → length ls ≡ 0
  no_mems [] h = refl
  no_mems (l ∷ []) h = elim h [ ]
  no_mems (l ∷ k ∷ ls) h = elim h [ ]

  -- No memory has the index after the imported ones if the module defines none.
  pub none_defined : (n : ℕ) → n ≡ k.imports.memories → k.memory ≡ None → slice_get (own_inst m).mems n ≡ None
  none_defined n e is =
      let h = subst (MemoryFits m.mems) is f.memory in slice_get_past (own_inst m).mems n (omega (arith, e, counted, counts, no_mems m.mems h, length-numbers 0 (length (memories_of m))))

  -- The memory that the module defines, with its limits and pages.
  pub record IsThere (n : ℕ) (p : Pages) : Type 0 where
    pub limits : Limits
    pub defined : m.mems ≡ limits ∷ []
    pub size : pages_size p ≡ 65536 * limits.min
    pub most : HoldsMost p
    pub first : imported_memories m.imports ≡ []
    pub zero : n ≡ 0
    pub address : slice_get (own_inst m).mems n ≡ Some n
    pub memory : slice_get (store_in m k).mems n ≡ Some (record { most = limits.max; pages = limits.min; bytes = p.now.bytes })

  nothing_left : {A : Type 0} (xs : List A) → length xs ≤ 0 → xs ≡ []
  nothing_left [] le = refl
  nothing_left (x ∷ xs) le = absurd (omega (arith, le))

  found_in : (n : ℕ) (p : Pages) (ls : List Limits) → m.mems ≡ ls → n ≡ k.imports.memories → k.memory ≡ Some p → MemoryFits ls (Some p) → IsThere n p
  found_in n p [] is e q h = elim h [ ]
  found_in n p (l ∷ j ∷ ls) is e q h = elim h [ ]
  found_in n p (l ∷ []) is e q h =
      let first = nothing_left (imported_memories m.imports) (omega (arith, single, counts, ap length is)) in
      let at : n ≡ 0 = omega (arith, e, counted, ap length first) in
      record {
        limits = l;
        defined = is;
        size = h.0;
        most = h.1;
        first = first;
        zero = at;
        address = address_of (length (memories_of m)) n (omega (arith, at, counts, ap length is));
        memory = rw (first, is, q, at);
      }

  pub found : (n : ℕ) (p : Pages) → n ≡ k.imports.memories → k.memory ≡ Some p → IsThere n p
  found n p e q = found_in n p m.mems refl e q (subst (MemoryFits m.mems) q f.memory)

  -- No memory has the index of limits that are not declared.
  pub none_there : (n : ℕ) → k.imports.memories ≤ n → slice_get m.mems (n - k.imports.memories) ≡ None → slice_get (own_inst m).mems n ≡ None
  none_there n le e = slice_get_past (own_inst m).mems n (omega (arith, le, counted, counts, none_past m.mems (n - k.imports.memories) (sym e), length-numbers 0 (length (memories_of m))))

  empty_none : (ls : List Limits) (i : ℕ) → length ls ≡ 0 → slice_get ls i ≡ None
  empty_none [] i e = refl
  empty_none (l ∷ ls) i e = absurd (omega (arith, e))

  pub none_is : k.memory ≡ None → (n : ℕ) → slice_get m.mems (n - k.imports.memories) ≡ None
  none_is q n = empty_none m.mems (n - k.imports.memories) (no_mems m.mems (subst (MemoryFits m.mems) q f.memory))

  pub at_first : (n : ℕ) (l : Limits) → k.imports.memories ≤ n → slice_get m.mems (n - k.imports.memories) ≡ Some l → n ≡ k.imports.memories
  at_first n l le e = omega (arith, le, slice_get_within m.mems (n - k.imports.memories) l e, single, counts)

pub only_limits : (m : Module) (l h : Limits) (i : ℕ) → m.mems ≡ l ∷ [] → i ≡ 0 → slice_get m.mems i ≡ Some h → l ≡ h
only_limits m l h i is z e = let first : slice_get m.mems i ≡ Some l = rw (is, z) in same_Some l h (sym first ∙ e)
