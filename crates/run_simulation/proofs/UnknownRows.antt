-- The law of steps off unknown places, of two small stores that differ in a global and in a slot of
-- a table: a run that reads the other slot, and the global once it was set; and a read of the
-- global before, which breaks what the law says of steps that read no unknown place.
use Rattle.base_lists.proofs.Common.{◌≡◌, refl, sym, subst, ◌∙◌, ℕ, zero, suc, List, [], ◌∷◌, ◌++◌, Some, None, Bool, true, false, not, arith, slice_get}
use Rattle.base_lists.specs.Members.{is_among}
use Rattle.std.proofs.lemmas.Bool.{true≢false}
use Rattle.wasm_tree_spec.specs.Prelude.{Space, Types, Functions, Tables, Memories, Globals, ElementSegments, DataSegments, Instr}
use Rattle.wasm_tree.specs.declared.types.RefType.TheVariants as reft
use Rattle.wasm_tree.specs.declared.types.ValType.TheVariants as valt
use Rattle.wasm_tree.specs.declared.instr.Instr.{out-Instr}
use Rattle.wasm_tree.specs.declared.instr.Instr.TheVariants as i
use Rattle.wasm_num.specs.Operations.{W32}
use Rattle.wasm_meaning.specs.Prelude.{Outcome, Gives, RefVal, FuncRef, Val, Num, Inst, Store, Entry, Ran, step}
use Rattle.run_simulation.specs.Related
use Rattle.run_simulation.specs.Prelude.{Pairing, OneToOneWhereWritten, none, some, ResRel, done, OptRel, BothRel, both, ListRel, nil, cons, RefRel, func, ValRel, number, CodeRel, end, then, EntryRel, running, ran, TopSkips, passed, Above, Touches, EntriesKnown, Unknowns, is_place_among, GlobalOff}
use Rattle.run_simulation.specs.Prelude.{RefsOff, TableOff, StoreRelOff, ReadPlace, ReadsNothing, ReadsGlobal, ReadsSlots, IsKnown, ReadsKnown, StepReadsKnown, left_unknown, NextOff, KnownSteps, none_left, known_step}
use Rattle.run_simulation.specs.UnknownPlaces.{FollowsOff}
use Rattle.run_simulation.proofs.KnownNames.{entries_known}
use Rattle.run_simulation.proofs.AboveSteps.{entries_of}
use Rattle.run_simulation.proofs.EqualTraces.{touches, skips}
use Rattle.run_simulation.proofs.StepLawRows.{nowhere, no_store, runs, no_more}
use Rattle.run_simulation.proofs.UnknownSteps.{follows}

-- The relation of table 0 and global 0, each to itself.
abbrev zeros : Space → ℕ → ℕ → Bool
zeros Tables zero zero = true
zeros Globals zero zero = true
zeros _ _ _ = false

abbrev R : Pairing
R = passed zeros zeros []

only : (k : Space) (a b : ℕ) → R.of k a b → (a ≡ 0) × (b ≡ 0)
only Tables zero zero h = (refl, refl)
only Globals zero zero h = (refl, refl)
only Tables zero (suc b) h = no_more h
only Globals zero (suc b) h = no_more h
only Tables (suc a) b h = no_more h
only Globals (suc a) b h = no_more h
only Types a b h = no_more h
only Functions a b h = no_more h
only Memories a b h = no_more h
only ElementSegments a b h = no_more h
only DataSegments a b h = no_more h

apart : OneToOneWhereWritten R
apart = record { right = λ {k} w a b c h j. (only k a b h).1 ∙ sym (only k a c j).1; left = λ {k} w a b c h j. (only k a c h).0 ∙ sym (only k b c j).0 }

abbrev inst : Inst
inst = record nowhere { tables = 0 ∷ []; globals = 0 ∷ [] }

-- The store has a global of this value and a table of two slots, of which the second is null.
abbrev holding : ℕ → RefVal → Store
holding n r = record no_store { globals = record { ty = record { ty = valt.I32; mutable = true }; value = Num W32 n } ∷ []; tables = record { ty = reft.Func; most = None; slots = r ∷ (FuncRef None ∷ []) } ∷ [] }

abbrev first : Store
first = holding 1 (FuncRef (Some 5))

abbrev second : Store
second = holding 2 (FuncRef None)

-- The global and the first slot of the table are unknown.
abbrev unknown : Unknowns
unknown = record { globals = 0 ∷ []; slots = (0, 0) ∷ []; items = [] }

globals_related : (a b : ℕ) → R.of Globals a b → BothRel (GlobalOff R (not (is_among unknown.globals a))) (slice_get first.globals a) (slice_get second.globals b)
globals_related zero zero h = both (record { type = refl; value = λ k. absurd (true≢false (sym k)) })
globals_related zero (suc b) h = no_more h
globals_related (suc a) b h = no_more h

slots_related : RefsOff R (λ n. not (is_place_among unknown.slots 0 n)) (FuncRef (Some 5) ∷ (FuncRef None ∷ [])) (FuncRef None ∷ (FuncRef None ∷ []))
slots_related = record { size = refl; each = each }
  where
    each : (n : ℕ) → not (is_place_among unknown.slots 0 n) ≡ true → OptRel (RefRel R) (slice_get (FuncRef (Some 5) ∷ (FuncRef None ∷ [])) n) (slice_get (FuncRef None ∷ (FuncRef None ∷ [])) n)
    each zero k = absurd (true≢false (sym k))
    each (suc zero) k = some (func none)
    each (suc (suc n)) k = none

tables_related : (a b : ℕ) → R.of Tables a b → BothRel (TableOff R (λ n. not (is_place_among unknown.slots a n))) (slice_get first.tables a) (slice_get second.tables b)
tables_related zero zero h = both (record { type = refl; most = refl; slots = slots_related })
tables_related zero (suc b) h = no_more h
tables_related (suc a) b h = no_more h

stores_related : StoreRelOff R unknown first second
stores_related = record {
  types = λ h. no_more h;
  owns = λ h. no_more h;
  funcs = λ h n. no_more h;
  tables = λ {a} {b} h. tables_related a b h;
  mems = λ h. no_more h;
  globals = λ {a} {b} h. globals_related a b h;
  elems = λ h. no_more h;
  datas = λ h. no_more h;
}

-- ---- a run that reads no unknown place ----

-- The code reads slot 1 and drops what it holds, sets the global to 7 and reads it.
abbrev reads_a_slot : List Instr
reads_a_slot = i.TableGet 0 ∷ (i.Drop ∷ (i.GlobalSet 0 ∷ (i.GlobalGet 0 ∷ [])))

abbrev one_and_seven : List Val
one_and_seven = Num W32 1 ∷ (Num W32 7 ∷ [])

-- A step whose place of reading is known to be `r` reads what is known if `r` is known.
this_is_read : (u : Unknowns) (o : Outcome ReadPlace) (r : ReadPlace) → o ≡ Gives r → IsKnown u r → ReadsKnown u o
this_is_read u o r e k q f = subst (IsKnown u) (same (sym e ∙ f)) k
  where
    same : {x y : ReadPlace} → Gives x ≡ Gives y → x ≡ y
    same e = cc

-- One step of a frame that reads only what is known, in front of further such steps.
one_step : {n : ℕ} {u v : Unknowns} {s t r : Store} {vs : List Val} {c : List Instr} {fs gs : List Entry} → StepReadsKnown u s (runs inst vs c ∷ []) → step s (runs inst vs c ∷ []) ≡ Gives (Ran t fs) →
    KnownSteps R n (left_unknown u s (runs inst vs c ∷ [])) t fs v r gs → KnownSteps R (suc n) u s (runs inst vs c ∷ []) v r gs
one_step {s = s} {vs = vs} {c = c} reads is rest = known_step reads (skips zeros s (runs inst vs c ∷ [])) (λ hs e. entries_known R (λ k a b p. p) (runs inst vs c ∷ []) hs) is rest

abbrev learnt_all : Unknowns
learnt_all = record unknown { globals = [] }

abbrev after_set : Store
after_set = record first { globals = record { ty = record { ty = valt.I32; mutable = true }; value = Num W32 7 } ∷ [] }

reads_no_unknown_place : KnownSteps R 4 unknown first (runs inst one_and_seven reads_a_slot ∷ []) learnt_all after_set (runs inst (Num W32 7 ∷ []) [] ∷ [])
unfolding out-Instr denote.Hole.Carrier.out
reads_no_unknown_place =
    one_step (this_is_read unknown _ (ReadsSlots 0 1 1) refl second_slot) refl
    (one_step (this_is_read unknown _ ReadsNothing refl tt) refl
    (one_step (this_is_read unknown _ ReadsNothing refl tt) refl
    (one_step (this_is_read learnt_all _ (ReadsGlobal 0) refl refl) refl none_left)))
  where
    second_slot : IsKnown unknown (ReadsSlots 0 1 1)
    second_slot zero from below = absurd (omega (arith, from))
    second_slot (suc zero) from below = refl
    second_slot (suc (suc n)) from below = absurd (omega (arith, below))

-- The code of the instance is related to itself.
related_code : EntryRel R (runs inst one_and_seven reads_a_slot) (runs inst one_and_seven reads_a_slot)
unfolding out-Instr denote.Hole.Carrier.out
related_code = running (record {
  locals = nil;
  results = refl;
  levels = cons (record {
    values = cons number (cons number nil);
    code = then (Related.table_get (some refl)) (then Related.drop (then (Related.global_set (some refl)) (then (Related.global_get (some refl)) end)));
    gives = refl;
    takes = refl;
    back = end;
  }) nil;
})

-- The second machine takes four steps too, to a related store and the same number on its stack.
the_second_follows : FollowsOff R 4 learnt_all after_set (runs inst (Num W32 7 ∷ []) [] ∷ []) second (runs inst one_and_seven reads_a_slot ∷ [])
the_second_follows = follows R apart stores_related (cons related_code nil) reads_no_unknown_place

-- ---- a read of an unknown place ----

abbrev reads : List Instr
reads = i.GlobalGet 0 ∷ []

it_is_not_known : StepReadsKnown unknown first (runs inst [] reads ∷ []) → ⊥
unfolding out-Instr denote.Hole.Carrier.out
it_is_not_known h = true≢false (h (ReadsGlobal 0) refl)

reading_code : EntryRel R (runs inst [] reads) (runs inst [] reads)
unfolding out-Instr denote.Hole.Carrier.out
reading_code = running (record { locals = nil; results = refl; levels = cons (record { values = nil; code = then (Related.global_get (some refl)) end; gives = refl; takes = refl; back = end }) nil })

-- The law of steps without the premise that no unknown place is read.
abbrev WithoutThePremise : Type 0
WithoutThePremise =
    (of named : Space → ℕ → ℕ → Bool) (l : List ℕ) → OneToOneWhereWritten (passed of named l) → (u : Unknowns) (s t : Store) (es fs cs ds : List Entry) →
    StoreRelOff (passed of named l) u s t → ListRel (EntryRel (passed of named l)) es fs → Touches s es cs ds → TopSkips (passed of named l) s es → EntriesKnown (passed of named l) es fs →
    ResRel (NextOff (passed of named l) (left_unknown u s es) (Above (passed of named l) cs ds)) (step s (es ++ cs)) (step t (fs ++ ds))

different : ListRel (EntryRel R) (runs inst (Num W32 1 ∷ []) [] ∷ []) (runs inst (Num W32 2 ∷ []) [] ∷ []) → ⊥
different (cons (running f) r) = by f.levels
  where
    by_values : ListRel (ValRel R) (Num W32 1 ∷ []) (Num W32 2 ∷ []) → ⊥
    by_values (cons v r) = elim v [ ]

    by : ListRel (Related.LevelRel R inst inst) (record { values = Num W32 1 ∷ []; code = []; gives = 0; takes = 0; back = [] } ∷ []) (record { values = Num W32 2 ∷ []; code = []; gives = 0; takes = 0; back = [] } ∷ []) → ⊥
    by (cons l r) = by_values l.values

-- The law does not hold without the premise: the two numbers that are read differ.
it_breaks_the_law : WithoutThePremise → ⊥
unfolding out-Instr denote.Hole.Carrier.out
it_breaks_the_law law =
    go (law zeros zeros [] apart unknown first second (runs inst [] reads ∷ []) (runs inst [] reads ∷ []) [] [] stores_related (cons reading_code nil) (touches first (runs inst [] reads ∷ []))
    (skips zeros first (runs inst [] reads ∷ [])) (entries_known R (λ k a b p. p) (runs inst [] reads ∷ []) (runs inst [] reads ∷ [])))
  where
    go : ResRel (NextOff R unknown (Above R [] [])) (Gives (Ran first (runs inst (Num W32 1 ∷ []) [] ∷ []))) (Gives (Ran second (runs inst (Num W32 2 ∷ []) [] ∷ []))) → ⊥
    go (done (ran h a)) = different (entries_of R a)
