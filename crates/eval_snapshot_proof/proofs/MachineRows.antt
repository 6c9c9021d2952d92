-- What evaluated constructors leave in an environment: the state of the quiet run, computed, and wrong
-- claims, which are refuted: a state with another global, and a store in which what the environment
-- owns was changed.
use Rattle.base_lists.proofs.Common.{◌≡◌, ◌∙◌, ap, sym, subst, refl, true, arith, option_map, ℕ, List, [], ◌∷◌, ◌++◌, Option, Some, None, same_Some, slice_get, IsTrue}
use Rattle.base_lists.specs.Related.{BothRel, both}
use Rattle.wasm_tree.specs.declared.instr.Instr.{out-Instr}
use Rattle.wasm_tree_spec.specs.Prelude.{Globals}
use Rattle.wasm_num.specs.Operations.{W32, wrapped}
use Rattle.wasm_meaning.specs.Prelude.{Val, Num, Global, Memory, Environment, Begun, insts_from}
use Rattle.run_simulation.specs.Prelude.{Pairing, ValRel, number, reference, GlobalOff}
use Rattle.world_simulation.specs.Prelude.{one}
use Rattle.eval_spec.specs.Prelude.{State, own_inst, state_at_end}
use Rattle.eval_snapshot_proof.specs.EvaluatedWorlds.{evaluated_begun, with_empty_func}
use Rattle.eval_snapshot_proof.specs.QuietRunAddresses.{IsTheMachines, LeavesTheSame, stands_at}
use Rattle.eval_snapshot_proof.proofs.SmallRuns.{a, c, own, setting, reading, offering_four, fixed_i32, mutable_i32}

-- ---- a state with another global ----

abbrev holds : ℕ → List Global
holds n = record { ty = mutable_i32; value = Num W32 n } ∷ []

seven_in_the_quiet_run : option_map (λ (s : State). s.store.globals) (state_at_end setting (0 ∷ [])) ≡ Some (holds 7)
unfolding out-Instr denote.Hole.Carrier.out wrapped
seven_in_the_quiet_run = refl

seven_there : option_map (λ (b : Begun). b.store.globals) (evaluated_begun [] setting (a ∷ []) []) ≡ Some (holds 7)
unfolding out-Instr denote.Hole.Carrier.out wrapped
seven_there = refl

the_instance : insts_from [] (one (with_empty_func setting)) 0 (one (with_empty_func setting)) ≡ Some (record (own_inst setting) { funcs = 0 ∷ 1 ∷ 2 ∷ [] } ∷ [])
the_instance = refl

same_number : {R : Pairing} {v w : Val} → ValRel R v w → (n : ℕ) → v ≡ Num W32 n → w ≡ Num W32 n
same_number number n e = e
same_number (reference r) n e = absurd (let k = e in cc)

related_numbers : {R : Pairing} (x y : Global) → BothRel (GlobalOff R true) (Some x) (Some y) → (n : ℕ) → x.value ≡ Num W32 n → y.value ≡ Num W32 n
related_numbers x y (both r) n e = same_number (r.value refl) n e

-- Wrong: the state has 8 in the global.
eight_is_refused : (t : State) → t.store.globals ≡ holds 8 → t.unknown.globals ≡ [] → IsTheMachines [] setting (a ∷ []) [] t → ⊥
eight_is_refused t eight known h =
    let there : h.begun.store.globals ≡ holds 7 = same_Some _ _ (ap (option_map (λ (b : Begun). b.store.globals)) (sym h.is_begun) ∙ seven_there) in
    let insts = same_Some _ _ (sym h.is_inst ∙ the_instance) in
    let inst : h.inst ≡ record (own_inst setting) { funcs = 0 ∷ 1 ∷ 2 ∷ [] } = cc in
    let stands : IsTrue (stands_at setting h.inst Globals 0 0) = subst (λ i. IsTrue (stands_at setting i Globals 0 0)) (sym inst) refl in
    let r = h.related.globals {a = 0} {b = 0} stands in
    let s = rw (eight, there, known) at r in
    let e = related_numbers (record { ty = mutable_i32; value = Num W32 8 }) (record { ty = mutable_i32; value = Num W32 7 }) s 8 refl in
    cc

-- ---- a store in which what the environment owns was changed ----

-- The environment's number, which the module imports, and a memory without pages, which it does not.
abbrev offering_more : Environment
offering_more = offering_four ++ record { pair = (own, c); funcs = []; table = None; memory = Some (record { limits = record { min = 0; max = None }; pages = 0; bytes = [] }); global = None } ∷ []

abbrev four : Global
four = record { ty = fixed_i32; value = Num W32 4 }

abbrev no_pages : Memory
no_pages = record { most = None; pages = 0; bytes = [] }

the_number_is_as_before : option_map (λ (b : Begun). slice_get b.store.globals 0) (evaluated_begun offering_more reading (a ∷ []) []) ≡ Some (Some four)
unfolding out-Instr denote.Hole.Carrier.out wrapped
the_number_is_as_before = refl

the_memory_is_as_before : option_map (λ (b : Begun). b.store.mems) (evaluated_begun offering_more reading (a ∷ []) []) ≡ Some (no_pages ∷ [])
unfolding out-Instr denote.Hole.Carrier.out wrapped
the_memory_is_as_before = refl

numbers_differ : ¬ (Some (record four { value = Num W32 5 }) ≡ Some four)
numbers_differ e = let f = ap (option_map (λ (g : Global). g.value)) e in cc

memories_differ : ¬ (Some (record no_pages { pages = 1 }) ≡ Some no_pages)
memories_differ e = let f = ap (option_map (λ (x : Memory). x.pages)) e in cc

-- Wrong: the imported number is another one.
another_number_is_refused : (made : Option Begun) (t : State) → option_map (λ (b : Begun). slice_get b.store.globals 0) made ≡ Some (Some (record four { value = Num W32 5 })) →
    LeavesTheSame offering_more reading (with_empty_func reading) made t → ⊥
another_number_is_refused made t five h =
    let now : slice_get h.begun.store.globals 0 ≡ Some (record four { value = Num W32 5 }) = same_Some _ _ (ap (option_map (λ (b : Begun). slice_get b.store.globals 0)) (sym h.is_begun) ∙ five) in
    let was : slice_get h.begun.store.globals 0 ≡ Some four = h.stays.globals 0 (omega arith) in
    numbers_differ (sym now ∙ was)

-- Wrong: a memory of the environment that the module does not import has a page.
another_memory_is_refused : (made : Option Begun) (t : State) → option_map (λ (b : Begun). slice_get b.store.mems 0) made ≡ Some (Some (record no_pages { pages = 1 })) →
    LeavesTheSame offering_more reading (with_empty_func reading) made t → ⊥
another_memory_is_refused made t one_page h =
    let now : slice_get h.begun.store.mems 0 ≡ Some (record no_pages { pages = 1 }) = same_Some _ _ (ap (option_map (λ (b : Begun). slice_get b.store.mems 0)) (sym h.is_begun) ∙ one_page) in
    let was : slice_get h.begun.store.mems 0 ≡ Some no_pages = h.stays.mems 0 (omega arith) in
    memories_differ (sym now ∙ was)
