-- The instantiation of a valid module, from the state before any segment to the one after the last
-- data segment.
use Rattle.base_lists.proofs.Common.{◌≡◌, ℕ, suc, ◌+◌, ◌*◌, ◌≤◌, List, [], ◌∷◌, ◌++◌, map, length, replicate, Bool, false, Option, Some, None, refl, sym, ap, ◌∙◌, arith, nat_lt, slice_get, le-ltb, same_Some, slice_get_within}
use Rattle.std.proofs.Common.{length-append}
use Rattle.base_lists.specs.Places.{places}
use Rattle.wasm_tree_spec.specs.Prelude.{Limits, GlobalDef, Module, imported_memories, memories_of}
use Rattle.wasm_valid.specs.Prelude.{const_type, ItemsHold}
use Rattle.wasm_valid.specs.declared.kinds.ItemKind.TheVariants as kind
use Rattle.wasm_meaning.specs.Prelude.{copies}
use Rattle.block_pool.specs.Pages.{Pages}
use Rattle.eval_spec.specs.declared.limits.TheConstants.{MOST_TURNS}
use Rattle.eval_spec.specs.declared.stop.Stop.{Stop}
use Rattle.eval_spec.specs.Prelude.{State, Stage, Finished, Stopped, Going, stop_of, imported_store, instantiated, in_order, none_written, state_at_first, with_data}
use Rattle.eval_machine.specs.declared.globals.GlobalSlot.{GlobalSlot}
use Rattle.eval_machine.specs.declared.slots.Slot.{Slot}
use Rattle.eval_machine.specs.declared.kept.Kept.{Kept}
use Rattle.eval_machine.specs.Prelude.{FillsTables, IsFilled, IsInitialMachine, PoursDatas, StartsAs, elems_end, global_of, is_unset, IsUnmarked, MemoryFits, datas_in, memory_in, state_in, written_in}
use Rattle.eval_machine.specs.InstantiationParts.{AreFirst, IsBlank, LimitsFew, data_state, datas_end, datas_from}
use Rattle.eval_machine.specs.Undo.{FlagsAreRight}
use Rattle.eval_machine.specs.Kept.{base_of, counts_of}
use Rattle.eval_machine.proofs.InitialState.{elems_there, first_state, funcs_there, is_at_first, starts_as}
use Rattle.eval_machine.proofs.InitialContents.{copies_are, none_dropped}

-- ---- properties of a valid module ----

pub globals_typed : (m : Module) → ItemsHold m → (n : ℕ) (g : GlobalDef) → slice_get m.globals n ≡ Some g → const_type m g.init ≡ Some g.ty.ty
globals_typed m hold n g at = let h = hold kind.Global n (slice_get_within m.globals n g at) in let same : h.0 ≡ g = same_Some h.0 g (sym h.1 ∙ at) in rw same at h.2

pub limits_few : (m : Module) → ItemsHold m → length (memories_of m) ≤ 1 → LimitsFew m.mems
limits_few m hold single = by m.mems refl
  where
    by : (ls : List Limits) → m.mems ≡ ls → LimitsFew ls
    by [] e = tt
    by (l ∷ []) e =
        let at : slice_get m.mems 0 ≡ Some l = rw e refl in
        let h = hold kind.Memory 0 (slice_get_within m.mems 0 l at) in
        let same : h.0 ≡ l = same_Some h.0 l (sym h.1 ∙ at) in
        let holds = h.2 in
        rw same at holds.1
    by (l ∷ k ∷ ls) e =
        let many : length (memories_of m) ≡ length (imported_memories m.imports) + length m.mems = length-append (imported_memories m.imports) m.mems in
        let two : length m.mems ≡ suc (suc (length ls)) = ap length e in
        absurd (omega (arith, many, two, single))

-- ---- a memory at first ----

-- Blank pages have the bytes that the limits declare, and no written blocks.
pub blank_mems : (ls : List Limits) (p : Option Pages) → IsBlank ls p → map (λ l. record { most = l.max; pages = l.min; bytes = copies (65536 * l.min) 0 }) ls ≡ memory_in ls p
blank_mems [] None b = refl
blank_mems [] (Some p) b = elim b [ ]
blank_mems (l ∷ []) None b = elim b [ ]
blank_mems (l ∷ []) (Some p) b = let bytes : p.now.bytes ≡ replicate (65536 * l.min) 0 = ap (λ c. c.bytes) b.0 in rw (bytes, copies_are {A = ℕ} (65536 * l.min) 0) refl
blank_mems (l ∷ k ∷ ls) p b = elim b [ ]

pub blank_written : (ls : List Limits) (p : Option Pages) → IsBlank ls p → none_written ls ≡ written_in p
blank_written [] None b = refl
blank_written [] (Some p) b = elim b [ ]
blank_written (l ∷ []) None b = elim b [ ]
blank_written (l ∷ []) (Some p) b = ap (λ c. c.written) (sym b.0)
blank_written (l ∷ k ∷ ls) p b = elim b [ ]

-- ---- the stages ----

still_stopped : {A : Type 0} (f : State → A → Stage) (t : Stage) (xs : List A) (x : Stop) → stop_of t ≡ Some x → stop_of (in_order f t xs) ≡ Some x
still_stopped f (Stopped y left) [] x e = e
still_stopped f (Stopped y left) (z ∷ xs) x e = e
still_stopped f (Finished s) xs x e = absurd (let k = e in cc)
still_stopped f (Going s es) xs x e = absurd (let k = e in cc)

module _ (m : Module) (hold : ItemsHold m) (single : length (memories_of m) ≤ 1) (gs : List GlobalSlot) (g : AreFirst m gs) where
  abbrev first : State
  first = first_state m MOST_TURNS (funcs_there m hold).0 g.defined (elems_there m hold).0

  starts : StartsAs m first
  starts = starts_as m (funcs_there m hold).0 g.defined (elems_there m hold).0 MOST_TURNS (elems_there m hold).1

  whole : instantiated m MOST_TURNS ≡ in_order (with_data m) (elems_end m first) (datas_from m 0 m.datas)
  whole =
      let b : nat_lt 1 (length (memories_of m)) ≡ false = le-ltb 1 (length (memories_of m)) single in
      let at : state_at_first m MOST_TURNS ≡ Some first = is_at_first m (funcs_there m hold).0 g.defined (elems_there m hold).0 MOST_TURNS (funcs_there m hold).1 g.there (elems_there m hold).1 in
      rw (b, at) refl

  pub elems_stop : (x : Stop) (filled : List (ℕ × Slot)) → FillsTables m (elems_end m) (Some x) filled → stop_of (instantiated m MOST_TURNS) ≡ Some x
  elems_stop x filled fills = ap stop_of whole ∙ still_stopped (with_data m) (elems_end m first) (datas_from m 0 m.datas) x (fills first starts)

  module _ (filled : List (ℕ × Slot)) (fills : FillsTables m (elems_end m) None filled) (p : Option Pages) (is_blank : IsBlank m.mems p) (flags : List Bool) (none : flags ≡ replicate (length m.datas) false) where
    abbrev s : State
    s = (fills first starts).0

    f : IsFilled m first (length m.elems) filled s
    f = (fills first starts).2

    -- The state before the first data segment.
    begins : s ≡ data_state m s p flags
    begins =
        let mems : (imported_store m).mems ++ memory_in m.mems p ≡ s.store.mems = sym (f.mems ∙ ap (λ xs. (imported_store m).mems ++ xs) (blank_mems m.mems p is_blank)) in
        let datas : datas_in m.datas flags ≡ s.store.datas = sym (f.datas ∙ (none_dropped m.datas ∙ ap (datas_in m.datas) (sym none))) in
        let written : written_in p ≡ s.written = sym (f.written ∙ blank_written m.mems p is_blank) in
        rw (mems, datas, written) refl

    goes_on : instantiated m MOST_TURNS ≡ datas_end m (data_state m s p flags)
    goes_on = whole ∙ (ap (λ t. in_order (with_data m) t (datas_from m 0 m.datas)) (fills first starts).1 ∙ ap (datas_end m) begins)

    pub datas_stop : (x : Stop) (new : Option Pages) (after : List Bool) → PoursDatas m p flags (Some x) new after → stop_of (instantiated m MOST_TURNS) ≡ Some x
    datas_stop x new after pours = ap stop_of goes_on ∙ pours s

    module _ (k : Kept) (pours : PoursDatas m p flags None k.memory k.dropped) (same : k.globals ≡ gs) (held : k.slots ≡ filled) (turns : k.turns ≡ MOST_TURNS) where
      ends : instantiated m MOST_TURNS ≡ Finished (data_state m s k.memory k.dropped)
      ends = goes_on ∙ pours s

      based : base_of m ≡ data_state m s k.memory k.dropped
      unfolding base_of
      based = rw ends refl

      state_is : state_in m k ≡ data_state m s k.memory k.dropped
      state_is =
          let globals : map global_of k.globals ≡ s.store.globals = ap (map global_of) same ∙ (g.values ∙ sym f.globals) in
          let unset : places (λ g. is_unset g.standing) k.globals 0 ≡ s.unknown.globals = ap (λ gs. places (λ g. is_unset g.standing) gs 0) same ∙ (g.unset ∙ sym f.unset) in
          let spent : k.turns ≡ s.turns = turns ∙ sym f.turns in
          rw (based, globals, unset, spent) refl

      pub is_instantiated : MemoryFits m.mems k.memory → IsUnmarked k.memory → length k.dropped ≡ length m.datas → k.imports ≡ counts_of m → FlagsAreRight k.undo.globals k.undo.noted → IsInitialMachine m k
      is_instantiated memory unmarked many imports noted = record {
        fits = record {
          ready = rw ends refl;
          types = ap (map (λ g. g.ty)) same ∙ g.types;
          imported = λ n x at. g.imported n x (ap (λ gs. slice_get gs n) (sym same) ∙ at);
          memory = memory;
          dropped = many;
          slots = λ t q lt. rw (based, held) (f.slots t q lt);
          sizes = λ t. rw based (f.counts t ∙ starts.counts t);
          imports = imports;
          flags = noted;
        };
        unmarked = unmarked;
        ends = ends ∙ ap Finished (sym state_is);
      }
