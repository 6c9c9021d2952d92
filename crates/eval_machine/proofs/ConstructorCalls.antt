-- The call of a constructor, between the mark before it and the commit or rollback after it.
use Rattle.base_lists.proofs.Common.{◌≡◌, ℕ, List, [], ◌∷◌, map, length, length-map, Bool, Option, Some, None, refl, sym, ap, ◌∙◌, arith, slice_get, subst, min, same_Some}
use Rattle.wasm_tree_spec.specs.Prelude.{Limits, Module}
use Rattle.wasm_valid.specs.Prelude.{IsValid}
use Rattle.block_pool.specs.Pages.{Pages}
use Rattle.eval_spec.specs.declared.limits.TheConstants.{MOST_BLOCKS}
use Rattle.eval_spec.specs.declared.stop.Stop.{Stop}
use Rattle.eval_spec.specs.Prelude.{Stopped, Finished, left_behind, stop_of, call_end}
use Rattle.eval_proof.specs.GlobalValues.{CallsKeepRefs, CallsKeepTypes}
use Rattle.eval_machine.specs.declared.globals.GlobalSlot.{GlobalSlot}
use Rattle.eval_machine.specs.declared.kept.Kept.{Kept}
use Rattle.eval_machine.specs.Prelude.{CallEnds, SameButForTurns, StopsCall, global_of, MachineFits, IsUnmarked, MemoryFits, Rests, memory_in, state_in, written_in, MemoryStays, Stays}
use Rattle.eval_machine.specs.Undo.{AreGlobalsBefore, AreSegmentsBefore, FlagsAreRight, segment_before, global_before}
use Rattle.eval_machine.specs.Marks.{AreMarked, IsMarked, KeepsMarked, NothingToUndo, RollsMarked}
use Rattle.eval_machine.proofs.GlobalValues.{still_rests}
use Rattle.eval_machine.proofs.PreservedParts.{fits_still}

-- The pages have the same bytes and written blocks, and as many blocks may be written.
abbrev pub Alike : Option Pages → Option Pages → Type 0
Alike None None = Unit {0}
Alike (Some p) (Some q) = (q.now ≡ p.now) × (q.most ≡ p.most)
Alike _ _ = ⊥

memory_alike : (ls : List Limits) (p q : Option Pages) → Alike p q → memory_in ls q ≡ memory_in ls p
memory_alike [] p q a = refl
memory_alike (l ∷ ls) None None a = refl
memory_alike (l ∷ ls) None (Some q) a = elim a [ ]
memory_alike (l ∷ ls) (Some p) None a = elim a [ ]
memory_alike (l ∷ ls) (Some p) (Some q) a = rw a.0 refl

written_alike : (p q : Option Pages) → Alike p q → written_in q ≡ written_in p
written_alike None None a = refl
written_alike None (Some q) a = elim a [ ]
written_alike (Some p) None a = elim a [ ]
written_alike (Some p) (Some q) a = ap (λ c. c.written) a.0

fits_alike : (ls : List Limits) (p q : Option Pages) → Alike p q → MemoryFits ls p → MemoryFits ls q
fits_alike [] None None a f = f
fits_alike [] None (Some q) a f = elim a [ ]
fits_alike [] (Some p) q a f = elim f [ ]
fits_alike (l ∷ []) None q a f = elim f [ ]
fits_alike (l ∷ []) (Some p) None a f = elim a [ ]
fits_alike (l ∷ []) (Some p) (Some q) a f = (ap (λ c. length c.bytes) a.0 ∙ f.0, a.1 ∙ (f.1 ∙ ap (λ c. min MOST_BLOCKS (length c.written)) (sym a.0)))
fits_alike (l ∷ k ∷ ls) p q a f = elim f [ ]

state_alike : (m : Module) (k j : Kept) (n : ℕ) → j.globals ≡ k.globals → j.dropped ≡ k.dropped → Alike k.memory j.memory → j.turns ≡ n → state_in m j ≡ record (state_in m k) { turns = n }
state_alike m k j n g d a t = rw (g, d, t, memory_alike m.mems k.memory j.memory a, written_alike k.memory j.memory a) refl

machine_fits : (m : Module) (k j : Kept) → MachineFits m k → j.globals ≡ k.globals → j.dropped ≡ k.dropped → Alike k.memory j.memory → j.slots ≡ k.slots → j.imports ≡ k.imports → FlagsAreRight j.undo.globals j.undo.noted → MachineFits m j
machine_fits m k j f g d a s i n = record {
  ready = f.ready;
  types = ap (map (λ g. g.ty)) g ∙ f.types;
  imported = λ n x at. f.imported n x (ap (λ gs. slice_get gs n) (sym g) ∙ at);
  memory = fits_alike m.mems k.memory j.memory a f.memory;
  dropped = ap length d ∙ f.dropped;
  slots = λ t p lt. rw s (f.slots t p lt);
  sizes = f.sizes;
  imports = i ∙ f.imports;
  flags = n;
}

marked_alike : (p q : Option Pages) → AreMarked p q → Alike p q
marked_alike None None a = tt
marked_alike None (Some q) a = elim a [ ]
marked_alike (Some p) None a = elim a [ ]
marked_alike (Some p) (Some q) a = (ap (λ x. x.now) a, ap (λ x. x.most) a)

pub still_marked : (p q r : Option Pages) → AreMarked p q → MemoryStays q r → IsMarked r
still_marked None None None a s = tt
still_marked None None (Some r) a s = elim s [ ]
still_marked None (Some q) r a s = elim a [ ]
still_marked (Some p) None r a s = elim a [ ]
still_marked (Some p) (Some q) None a s = elim s [ ]
still_marked (Some p) (Some q) (Some r) a s = let e : r.mark ≡ Some p.now = s.mark ∙ ap (λ x. x.mark) a in rw e refl

kept_alike : (p q : Option Pages) → KeepsMarked p q → Alike p q
kept_alike None None a = tt
kept_alike None (Some q) a = elim a [ ]
kept_alike (Some p) None a = elim a [ ]
kept_alike (Some p) (Some q) a = (a.now, a.most)

kept_unmarked : (p q : Option Pages) → KeepsMarked p q → IsUnmarked q
kept_unmarked None None a = tt
kept_unmarked None (Some q) a = elim a [ ]
kept_unmarked (Some p) None a = elim a [ ]
kept_unmarked (Some p) (Some q) a = a.cleared

rolled_alike : (p q r z : Option Pages) → AreMarked p q → MemoryStays q r → RollsMarked r z → Alike p z
rolled_alike None None None None a s b = tt
rolled_alike None None None (Some z) a s b = elim b [ ]
rolled_alike None None (Some r) z a s b = elim s [ ]
rolled_alike None (Some q) r z a s b = elim a [ ]
rolled_alike (Some p) None r z a s b = elim a [ ]
rolled_alike (Some p) (Some q) None z a s b = elim s [ ]
rolled_alike (Some p) (Some q) (Some r) None a s b = elim b [ ]
rolled_alike (Some p) (Some q) (Some r) (Some z) a s b =
    (same_Some z.now p.now (sym b.back ∙ (s.mark ∙ ap (λ x. x.mark) a)), b.most ∙ (s.most ∙ ap (λ x. x.most) a))

rolled_unmarked : (p q : Option Pages) → RollsMarked p q → IsUnmarked q
rolled_unmarked None None a = tt
rolled_unmarked None (Some q) a = elim a [ ]
rolled_unmarked (Some p) None a = elim a [ ]
rolled_unmarked (Some p) (Some q) a = a.cleared

-- The globals and data segments at the mark, which a call does not change.
before_globals : (marked after : Kept) → NothingToUndo marked.undo → Stays marked after → AreGlobalsBefore after.undo.globals after.globals marked.globals
before_globals marked after none stays = record {
  many = sym (sym (length-map after.globals (λ g. g.ty)) ∙ (ap length stays.types ∙ length-map marked.globals (λ g. g.ty)));
  each = λ n. sym (stays.undo.globals n ∙ ap (λ es. global_before es marked.globals n) none.globals);
}

before_segments : (marked after : Kept) → NothingToUndo marked.undo → Stays marked after → AreSegmentsBefore after.undo.dropped after.dropped marked.dropped
before_segments marked after none stays = record {
  many = sym stays.dropped;
  each = λ n. sym (stays.undo.segments n ∙ ap (λ ds. segment_before ds marked.dropped n) none.dropped);
}

pub only_is : (inside old marked : Kept) → marked ≡ record inside { memory = marked.memory; undo = marked.undo } → inside ≡ old → marked ≡ record old { memory = marked.memory; undo = marked.undo }
only_is inside old marked a e = rw (← e) a

-- ---- the machine before the mark, with it, after the call and at the end ----

module _ (m : Module) (func : ℕ) (old marked : Kept) (rests : Rests m old) (only : marked ≡ record old { memory = marked.memory; undo = marked.undo }) (are : AreMarked old.memory marked.memory) (none : NothingToUndo marked.undo) where
  same_state : state_in m marked ≡ state_in m old
  same_state = state_alike m old marked old.turns (ap (λ k. k.globals) only) (ap (λ k. k.dropped) only) (marked_alike old.memory marked.memory are) (ap (λ k. k.turns) only)

  pub marked_fits : MachineFits m marked
  marked_fits = machine_fits m old marked rests.fits (ap (λ k. k.globals) only) (ap (λ k. k.dropped) only) (marked_alike old.memory marked.memory are) (ap (λ k. k.slots) only) (ap (λ k. k.imports) only) none.flags

  module _ (after new : Kept) (stays : Stays marked after) where
    pub is_marked : IsMarked after.memory
    is_marked = still_marked old.memory marked.memory after.memory are stays.memory

    pub still_noted : FlagsAreRight after.undo.globals after.undo.noted
    still_noted = stays.undo.flags none.flags

    -- The call comes to its end, and its writes are committed.
    module _ (rest : new ≡ record after { memory = new.memory }) (keeps : KeepsMarked after.memory new.memory) where
      pub done : CallEnds m func marked None after → CallEnds m func old None new
      done ends =
          let state : state_in m new ≡ state_in m after = state_alike m after new after.turns (ap (λ k. k.globals) rest) (ap (λ k. k.dropped) rest) (kept_alike after.memory new.memory keeps) (ap (λ k. k.turns) rest) in
          ap (λ s. call_end m s func) (sym same_state) ∙ (ends ∙ ap Finished (sym state))

      pub done_rests : CallsKeepRefs → CallsKeepTypes → IsValid m → CallEnds m func marked None after → Rests m new
      done_rests refs types valid ends =
          let noted : FlagsAreRight new.undo.globals new.undo.noted = subst (λ c. FlagsAreRight c.globals c.noted) (ap (λ k. k.undo) (sym rest)) still_noted in
          let fits = machine_fits m after new (fits_still m marked after marked_fits stays) (ap (λ k. k.globals) rest) (ap (λ k. k.dropped) rest) (kept_alike after.memory new.memory keeps) (ap (λ k. k.slots) rest) (ap (λ k. k.imports) rest) noted in
          still_rests m valid refs types old new func rests fits (kept_unmarked after.memory new.memory keeps) (done ends)

    -- The call is stopped, and its writes are rolled back.
    module _ (rest : new ≡ record after { memory = new.memory; globals = new.globals; dropped = new.dropped; undo = new.undo }) (rolls : RollsMarked after.memory new.memory)
        (globals_back : (gs : List GlobalSlot) → AreGlobalsBefore after.undo.globals after.globals gs → new.globals ≡ gs) (segments_back : (flags : List Bool) → AreSegmentsBefore after.undo.dropped after.dropped flags → new.dropped ≡ flags) where
      alike : Alike old.memory new.memory
      alike = rolled_alike old.memory marked.memory after.memory new.memory are stays.memory rolls

      globals : new.globals ≡ old.globals
      globals = globals_back marked.globals (before_globals marked after none stays) ∙ ap (λ k. k.globals) only

      dropped : new.dropped ≡ old.dropped
      dropped = segments_back marked.dropped (before_segments marked after none stays) ∙ ap (λ k. k.dropped) only

      pub back_rests : FlagsAreRight new.undo.globals new.undo.noted → Rests m new
      back_rests noted = record {
        fits = machine_fits m old new rests.fits globals dropped alike (ap (λ k. k.slots) rest ∙ (stays.slots ∙ ap (λ k. k.slots) only)) (ap (λ k. k.imports) rest ∙ (stays.imports ∙ ap (λ k. k.imports) only)) noted;
        unmarked = rolled_unmarked after.memory new.memory rolls;
        typed = λ n g e. rests.typed n g (ap (λ gs. slice_get (map global_of gs) n) (sym globals) ∙ e);
        references = λ n g e. rests.references n g (ap (λ gs. slice_get (map global_of gs) n) (sym globals) ∙ e);
      }

      back_state : state_in m new ≡ record (state_in m old) { turns = after.turns }
      back_state = state_alike m old new after.turns globals dropped alike (ap (λ k. k.turns) rest)

      pub stopped : (x : Stop) → CallEnds m func marked (Some x) after → StopsCall m func old x new
      stopped x ends =
          let end : call_end m (state_in m old) func ≡ Stopped x after.turns = ap (λ s. call_end m s func) (sym same_state) ∙ ends in
          record { stop = ap stop_of end; state = back_state ∙ ap (left_behind (state_in m old)) (sym end) }

      pub left : SameButForTurns m old new
      left =
          let turns : new.turns ≡ after.turns = ap (λ k. k.turns) rest in
          let first : marked.turns ≡ old.turns = ap (λ k. k.turns) only in
          record { state = back_state ∙ ap (λ n. record (state_in m old) { turns = n }) (sym turns); turns = omega (arith, turns, first, stays.turns) }
