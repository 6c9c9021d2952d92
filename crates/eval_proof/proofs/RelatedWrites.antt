-- A step over another store writes at addresses that are related to those at which the quiet step
-- writes.
use Rattle.base_lists.proofs.Common.{◌≡◌, ◌∙◌, ℕ, List, [], ◌∷◌, Option, Some, None, Bool, true, false, cond, not, refl, sym, subst, slice_get, nat_eq, filter, eqb-false, ne_eqb, set_other}
use Rattle.base_lists.specs.Members.{is_among}
use Rattle.base_lists.proofs.Every.{every_with}
use Rattle.std.proofs.lemmas.Bool.{true≢false}
use Rattle.base_lists.specs.Every.{Every}
use Rattle.wasm_tree_spec.specs.Prelude.{Space, Memories, Globals, DataSegments, Instr, out-Instr, Module, operands}
use Rattle.wasm_tree.specs.declared.instr.Instr.TheOpen.{Instr-F}
use Rattle.wasm_num.specs.Operations.{W32}
use Rattle.wasm_meaning.specs.Prelude.{Outcome, Gives, Traps, IllTyped, bind, Val, Inst, Func, Code, Own, Placeholder, Level, Store, Change, Frame, Entry, Running, Mark, Opening, Waiting, Ended, Growing, Act, Goes, Calls, AsksGrow, Ends, Next, Ran, EndsCall, pop_num, pop_typed, pop_three, type_at}
use Rattle.wasm_meaning.specs.Prelude.{act, changed, give, give_levels, enter, perform, step, Touched, Nothing, Bytes, Slots, OneGlobal, touched_by, touched_next, touched_levels, touched, Writes, ActWrites, StepsWriteWhatTheyTouch}
use Rattle.wasm_meaning.specs.Touched
use Rattle.wasm_meaning.specs.Touched.{OneElem, OneData, WritesTold}
use Rattle.wasm_meaning.proofs.Outcomes.{AllOf, ill_typed, just, with_is, with_found, all_at, then_found}
use Rattle.run_simulation.specs.Related
use Rattle.run_simulation.specs.Prelude.{Pairing, OptRel, none, some, ListRel, nil, cons, OpRel, CodeRel, end, then, instead, LevelRel, FrameRel, EntryRel, running, Unknowns, left_by, left_after, left_unknown}
use Rattle.run_simulation.specs.UnknownPlaces.{learnt}
use Rattle.eval_spec.specs.Prelude.{State, Going, first_held, changes_table, is_unknown_import, instruction_tests, tests_at, tests, quiet_step, own_inst}
use Rattle.eval_spec.specs.Stops.{beginning_in, beginning_of}
use Rattle.eval_proof.specs.KnownQuietSteps.{RelatesAllButImports, FramesOf}
use Rattle.eval_proof.specs.UnrelatedPlaces.{LeavesAlone, QuietStepsPreserveUnrelated}
use Rattle.eval_proof.proofs.OperandAddresses.{Known, op_known}
use Rattle.eval_proof.proofs.QuietSteps.{neither, every_false, none_held, goes_on_quietly}
use Rattle.eval_proof.proofs.KnownSteps as steps

-- ---- what the step over the other store touches ----

-- The instruction sets the global at this address.
data Sets (i : Inst) (a : ℕ) : Instr-F Instr → Type 0 where
  sets : {n : ℕ} → slice_get i.globals n ≡ Some a → Sets i a (Instr-F.GlobalSet n)

-- Each touched memory is related to something, and a touched global to the one that the quiet step
-- sets; no table and no element segment is touched.
abbrev Told : Pairing → (sets : ℕ → Type 0) → Touched → Type 0
Told R set Nothing = Unit {0}
Told R set (Bytes b place count) = (a : ℕ) × R.of Memories a b
Told R set (Slots b place count) = ⊥
Told R set (OneGlobal b) = (a : ℕ) × (R.of Globals a b × set a)
Told R set (OneElem b) = ⊥
Told R set (OneData b) = (a : ℕ) × R.of DataSegments a b

named_at : (R : Pairing) {k : Space} {o p : Option ℕ} (b : ℕ) → OptRel (R.of k) o p → p ≡ Some b → (a : ℕ) × ((o ≡ Some a) × R.of k a b)
named_at R {k} b (some {a = a} {b = c} h) e = let same : c ≡ b = cc in (a, (refl, subst (λ x. R.of k a x) same h))
named_at R b none e = absurd (let k = e in cc)

memory_told : (R : Pairing) {o : Option ℕ} {b : ℕ} → (a : ℕ) × ((o ≡ Some a) × R.of Memories a b) → (a : ℕ) × R.of Memories a b
memory_told R h = (h.0, h.1.1)

module _ (R : Pairing) (i j : Inst) (z : Store) where
  op_told : {o p : Instr-F Instr} → changes_table o ≡ false → (vs : List Val) → OpRel R i j true o p → AllOf (Told R (λ a. Sets i a o)) (touched_by p (record { store = z; inst = j }) vs)
  op_told e vs Related.unreachable = just tt
  op_told e vs Related.nop = just tt
  op_told e vs (Related.block p0 p1) = just tt
  op_told e vs (Related.loop p0 p1) = just tt
  op_told e vs (Related.if_else p0 p1 p2) = just tt
  op_told e vs Related.br = just tt
  op_told e vs Related.br_if = just tt
  op_told e vs Related.br_table = just tt
  op_told e vs Related.return = just tt
  op_told e vs (Related.call p0) = just tt
  op_told e vs (Related.call_indirect p0 p1) = just tt
  op_told e vs Related.drop = just tt
  op_told e vs Related.select = just tt
  op_told e vs Related.select_typed = just tt
  op_told e vs Related.local_get = just tt
  op_told e vs Related.local_set = just tt
  op_told e vs Related.local_tee = just tt
  op_told e vs (Related.global_get p0) = just tt
  op_told e vs (Related.global_set p0) = with_found (slice_get j.globals _) _ (λ b e. just (let h = named_at R b p0 e in (h.0, (h.1.1, sets h.1.0))))
  op_told e vs (Related.table_get p0) = just tt
  op_told e vs (Related.table_set p0) = absurd (true≢false e)
  op_told e vs (Related.load p0) = just tt
  op_told e vs (Related.store p0) = with_found (slice_get j.mems _) _ (λ b e. with_is (pop_num _ vs) _ (λ v _. with_is (pop_num W32 v.1) _ (λ p _. just (memory_told R (named_at R b p0.memory e)))))
  op_told e vs (Related.memory_size p0) = just tt
  op_told e vs (Related.memory_grow p0) = just tt
  op_told e vs Related.i32_const = just tt
  op_told e vs Related.i64_const = just tt
  op_told e vs Related.un = just tt
  op_told e vs Related.bin = just tt
  op_told e vs Related.ref_null = just tt
  op_told e vs Related.ref_is_null = just tt
  op_told e vs (Related.ref_func p0) = just tt
  op_told e vs (Related.memory_init p0 p1) = with_found (slice_get j.mems _) _ (λ b e. with_is (pop_three vs) _ (λ p _. just (memory_told R (named_at R b p1 e))))
  op_told e vs (Related.data_drop p0) = with_found (slice_get j.datas _) _ (λ b e. just (let h = named_at R b p0 e in (h.0, h.1.1)))
  op_told e vs (Related.memory_copy p0 p1) = with_found (slice_get j.mems _) _ (λ b e. with_is (pop_three vs) _ (λ p _. just (memory_told R (named_at R b p0 e))))
  op_told e vs (Related.memory_fill p0) = with_found (slice_get j.mems _) _ (λ b e. with_is (pop_three vs) _ (λ p _. just (memory_told R (named_at R b p0 e))))
  op_told e vs (Related.table_init p0 p1) = absurd (true≢false e)
  op_told e vs (Related.elem_drop p0) = absurd (true≢false e)
  op_told e vs (Related.table_copy p0 p1) = absurd (true≢false e)
  op_told e vs (Related.table_grow p0) = absurd (true≢false e)
  op_told e vs (Related.table_size p0) = just tt
  op_told e vs (Related.table_fill p0) = absurd (true≢false e)

abbrev SetsIn : Inst → List Instr → ℕ → Type 0
SetsIn i [] a = ⊥
SetsIn i (o ∷ rest) a = Sets i a (out-Instr o)

abbrev SetsTop : Inst → List Level → ℕ → Type 0
SetsTop i [] a = ⊥
SetsTop i (l ∷ ls) a = SetsIn i l.code a

-- ---- what a change leaves ----

-- Each touched place may have changed: it is related to something, a global to one that is known.
abbrev Touchable : Pairing → Unknowns → Touched → Type 0
Touchable R u = Told R (λ a. is_among u.globals a ≡ false)

may_touch : (R : Pairing) (u : Unknowns) (set : ℕ → Type 0) → ((a : ℕ) → set a → is_among u.globals a ≡ false) → (t : Touched) → Told R set t → Touchable R u t
may_touch R u set f Nothing t = tt
may_touch R u set f (Bytes b place count) t = t
may_touch R u set f (Slots b place count) t = t
may_touch R u set f (OneGlobal b) t = (t.0, (t.1.0, f t.0 t.1.1))
may_touch R u set f (OneElem b) t = t
may_touch R u set f (OneData b) t = t

module _ (R : Pairing) (u : Unknowns) (x : Store) where
  same : LeavesAlone R u x x
  same = record { funcs = refl; tables = refl; elems = refl; mems = λ b n. refl; globals = λ b n. refl; datas = λ b n. refl }

  change_alone : {told : Touched} {c : Change} → Touchable R u told → Writes x told c → LeavesAlone R u x (changed x c)
  change_alone t Touched.nothing = same
  change_alone t (Touched.a_global {a = b} {h = h} e mut ty) = record {
    funcs = refl;
    tables = refl;
    elems = refl;
    mems = λ c n. refl;
    datas = λ c n. refl;
    globals = λ c n. set_other x.globals b c h (λ (q : c ≡ b). true≢false (sym (n t.0 (subst (λ k. R.of Globals t.0 k) (sym q) t.1.0)) ∙ t.1.1));
  }
  change_alone t (Touched.bytes {a = b} {n = m} written e w pages most) = record {
    funcs = refl;
    tables = refl;
    elems = refl;
    globals = λ c n. refl;
    datas = λ c n. refl;
    mems = λ c n. set_other x.mems b c m (λ (q : c ≡ b). n t.0 (subst (λ k. R.of Memories t.0 k) (sym q) t.1));
  }
  change_alone t (Touched.slots written e w ty most) = absurd t
  change_alone t Touched.an_elem = absurd t
  change_alone t (Touched.a_data {a = b}) = record {
    funcs = refl;
    tables = refl;
    elems = refl;
    globals = λ c n. refl;
    mems = λ c n. refl;
    datas = λ c n. set_other x.datas b c _ (λ (q : c ≡ b). n t.0 (subst (λ k. R.of DataSegments t.0 k) (sym q) t.1));
  }

  abbrev pub AloneNext : Next → Type 0
  AloneNext (Ran y hs) = LeavesAlone R u x y
  AloneNext (EndsCall vs y hs) = LeavesAlone R u x y
  AloneNext _ = Unit {0}

  give_levels_alone : (vs : List Val) (g : Frame) (ls : List Level) (fs : List Entry) → AllOf AloneNext (give_levels x vs g ls fs)
  give_levels_alone vs g [] fs = ill_typed
  give_levels_alone vs g (l ∷ ls) fs = just same

  give_alone : (vs : List Val) (fs : List Entry) → AllOf AloneNext (give x vs fs)
  give_alone vs [] = ill_typed
  give_alone vs (Running g ∷ fs) = give_levels_alone vs g g.levels fs
  give_alone vs (Mark ∷ fs) = just same
  give_alone vs (Opening starts ∷ fs) = just same
  give_alone vs (Waiting ts ∷ fs) = ill_typed
  give_alone vs (Ended ws ∷ fs) = ill_typed
  give_alone vs (Growing h ∷ fs) = ill_typed

  enter_alone : (f : Func) (args : List Val) (fs : List Entry) → AloneNext (enter x f args fs)
  enter_alone (Code t i ls c) args fs = same
  enter_alone (Own p t) args fs = tt
  enter_alone (Placeholder n t) args fs = tt

  perform_alone : (g : Frame) (fs : List Entry) (a : Act) (o : Outcome Touched) → ActWrites x o a → ((t : Touched) → o ≡ Gives t → Touchable R u t) → AllOf AloneNext (perform x g fs a)
  perform_alone g fs (Goes c h) o w touch = just (change_alone (touch w.told w.is) w.writes)
  perform_alone g fs (Calls a vs h) o w touch = with_found (type_at x a) _ (λ t _. with_is (pop_typed t.params vs) _ (λ p _. with_found (slice_get x.funcs a) _ (λ f _. just (enter_alone f p.0 _))))
  perform_alone g fs (AsksGrow h size count b) o w touch = just tt
  perform_alone g fs (Ends vs) o w touch = with_is (pop_typed g.results vs) _ (λ p _. give_alone p.0 fs)

  step_alone : StepsWriteWhatTheyTouch → (g : Frame) (fs : List Entry) → ((t : Touched) → touched x g ≡ Gives t → Touchable R u t) → AllOf AloneNext (step x (Running g ∷ fs))
  step_alone touches g fs touch = with_is (act x g) _ (λ a is. perform_alone g fs a (touched x g) (touches x g a is) touch)

-- ---- the global that the quiet step sets is known after it ----

forgotten : (xs : List ℕ) (a : ℕ) → is_among (filter (λ b. not (nat_eq b a)) xs) a ≡ false
forgotten [] a = refl
forgotten (x ∷ xs) a = by (nat_eq x a) refl (forgotten xs a)
  where
    by : (b : Bool) → nat_eq x a ≡ b → is_among (filter (λ b. not (nat_eq b a)) xs) a ≡ false → is_among (cond (not b) (x ∷ filter (λ b. not (nat_eq b a)) xs) (filter (λ b. not (nat_eq b a)) xs)) a ≡ false
    by true e more = more
    by false e more = rw (ne_eqb a x (λ q. eqb-false x a e (sym q))) more

set_is_known : (x : Store) (u : Unknowns) {told : Touched} {c : Change} (a : ℕ) → Writes x told c → told ≡ OneGlobal a → is_among (left_by u c).globals a ≡ false
set_is_known x u a Touched.nothing e = absurd (let k = e in cc)
set_is_known x u a (Touched.a_global {a = b} {h = h} f mut ty) e = let same : b ≡ a = cc in subst (λ k. is_among (learnt u k).globals a ≡ false) (sym same) (forgotten u.globals a)
set_is_known x u a (Touched.bytes written f w pages most) e = absurd (let k = e in cc)
set_is_known x u a (Touched.slots written f w ty most) e = absurd (let k = e in cc)
set_is_known x u a Touched.an_elem e = absurd (let k = e in cc)
set_is_known x u a Touched.a_data e = absurd (let k = e in cc)

same_told : {t v : Touched} → Gives t ≡ Gives v → t ≡ v
same_told e = cc

act_learns : (x : Store) (u : Unknowns) (o : Outcome Touched) (a : ℕ) (act : Act) → ActWrites x o act → o ≡ Gives (OneGlobal a) → is_among (left_after u (Gives act)).globals a ≡ false
act_learns x u o a (Goes c h) w e = set_is_known x u a w.writes (same_told (sym w.is ∙ e))
act_learns x u o a (Calls b vs h) w e = absurd (let k = sym w ∙ e in cc)
act_learns x u o a (AsksGrow g size count h) w e = absurd (let k = sym w ∙ e in cc)
act_learns x u o a (Ends vs) w e = absurd (let k = sym w ∙ e in cc)

sets_touch : (i : Inst) (st : Store) (a : ℕ) (vs : List Val) {op : Instr-F Instr} → Sets i a op → touched_by op (record { store = st; inst = i }) vs ≡ Gives (OneGlobal a)
sets_touch i st a vs (sets e) = then_found _ e

sets_touch_in : (i : Inst) (st : Store) (a : ℕ) (vs : List Val) (c : List Instr) → SetsIn i c a → touched_next (record { store = st; inst = i }) vs c ≡ Gives (OneGlobal a)
sets_touch_in i st a vs [] h = absurd h
sets_touch_in i st a vs (o ∷ rest) h = sets_touch i st a vs h

sets_touch_top : (i : Inst) (st : Store) (a : ℕ) (ls : List Level) → SetsTop i ls a → touched_levels (record { store = st; inst = i }) ls ≡ Gives (OneGlobal a)
sets_touch_top i st a [] h = absurd h
sets_touch_top i st a (l ∷ ls) h = sets_touch_in i st a l.values l.code h

step_learns : StepsWriteWhatTheyTouch → (x : Store) (u : Unknowns) (f : Frame) (es : List Entry) (n : Next) (a : ℕ) → step x (Running f ∷ es) ≡ Gives n → SetsTop f.inst f.levels a → is_among (left_unknown u x (Running f ∷ es)).globals a ≡ false
step_learns touches x u f es n a st h = by (act x f) refl st
  where
    by : (o : Outcome Act) → act x f ≡ o → bind o (perform x f es) ≡ Gives n → is_among (left_unknown u x (Running f ∷ es)).globals a ≡ false
    by Traps is e = absurd (let k = e in cc)
    by IllTyped is e = absurd (let k = e in cc)
    by (Gives act) is e = subst (λ o. is_among (left_after u o).globals a ≡ false) (sym is) (act_learns x u (touched x f) a act (touches x f act is) (sets_touch_top f.inst x a f.levels h))

-- ---- the two steps ----

module _ (m : Module) (of named : Space → ℕ → ℕ → Bool) (all : RelatesAllButImports m of named) where
  abbrev R : Pairing
  R = steps.R m of named all

  -- The next instruction changes no table, and its operands are related.
  abbrev NextIn : Inst → Inst → List Instr → Type 0
  NextIn i j [] = Unit {0}
  NextIn i j (o ∷ rest) = (changes_table (out-Instr o) ≡ false) × Every (Known R i j) (operands (out-Instr o))

  abbrev NextTop : Inst → Inst → List Level → Type 0
  NextTop i j [] = Unit {0}
  NextTop i j (l ∷ ls) = NextIn i j l.code

  next_in : (s : State) (es : List Entry) (i j : Inst) (vs : List Val) (c : List Instr) → i ≡ own_inst m → first_held (tests_at m s es (beginning_in i vs c)) ≡ None → NextIn i j c
  next_in s es i j vs [] is e = tt
  next_in s es i j vs (o ∷ rest) is e =
      let none = none_held (instruction_tests m s es (out-Instr o) (record { store = s.store; inst = i }) vs) e in
      (none.1.1.0, every_with _ _ (operands (out-Instr o)) (λ x h. steps.operand_known m of named all i j is x h) (every_false (is_unknown_import m) (operands (out-Instr o)) (neither _ _ none.1.1.1.0).0))

  next_top : (s : State) (es : List Entry) (i j : Inst) (ls : List Level) → i ≡ own_inst m → first_held (tests_at m s es (beginning_of i ls)) ≡ None → NextTop i j ls
  next_top s es i j [] is e = tt
  next_top s es i j (l ∷ ls) is e = next_in s es i j l.values l.code is e

  code_told : (i j : Inst) (z : Store) (c d : List Instr) → NextIn i j c → (ws : List Val) → CodeRel R i j c d → AllOf (Told R (SetsIn i c)) (touched_next (record { store = z; inst = j }) ws d)
  code_told i j z [] [] k ws end = just tt
  code_told i j z [] (p ∷ d) k ws c = elim c [ ]
  code_told i j z (o ∷ c) (p ∷ d) k ws (then r rest) = op_told R i j z k.0 ws (op_known R i j k.1 r)
  code_told i j z (o ∷ c) _ k ws (instead {a = b} e is at listed _ rest) = absurd (steps.no_opaque m of named all b listed)

  levels_told : (i j : Inst) (z : Store) (ls ks : List Level) → NextTop i j ls → ListRel (LevelRel R i j) ls ks → AllOf (Told R (SetsTop i ls)) (touched_levels (record { store = z; inst = j }) ks)
  levels_told i j z [] [] k nil = ill_typed
  levels_told i j z [] (n ∷ ks) k r = elim r [ ]
  levels_told i j z (l ∷ ls) [] k r = elim r [ ]
  levels_told i j z (l ∷ ls) (n ∷ ks) k (cons r rest) = code_told i j z l.code n.code k n.values r.code

  -- Any step that nothing stops leaves the unrelated parts of the other store alone, whatever it
  -- gives.
  pub alone_at : StepsWriteWhatTheyTouch → (s : State) (u : Unknowns) (n : Next) (es : List Entry) → FramesOf (own_inst m) es → first_held (tests m s es) ≡ None → step s.store es ≡ Gives n → u ≡ left_unknown s.unknown s.store es →
      (x : Store) (fs : List Entry) → ListRel (EntryRel R) es fs → AllOf (AloneNext R u x) (step x fs)
  alone_at touches s u n (Running f ∷ es) frames free is left x (Running g ∷ fs) (cons (running fr) rest) =
      let next = next_top s (Running f ∷ es) f.inst g.inst f.levels frames.0 free in
      let told = levels_told f.inst g.inst x f.levels g.levels next fr.levels in
      let learns : (a : ℕ) → SetsTop f.inst f.levels a → is_among u.globals a ≡ false =
      λ a h. subst (λ u. is_among u.globals a ≡ false) (sym left) (step_learns touches s.store s.unknown f es n a is h) in
      step_alone R u x touches g fs (λ t e. may_touch R u (SetsTop f.inst f.levels) learns t (all_at told e))
  alone_at touches s u n (Running f ∷ es) frames free is left x [] rel = elim rel [ ]
  alone_at touches s u n (Running f ∷ es) frames free is left x (Mark ∷ fs) (cons e rest) = elim e [ ]
  alone_at touches s u n (Running f ∷ es) frames free is left x (Opening starts ∷ fs) (cons e rest) = elim e [ ]
  alone_at touches s u n (Running f ∷ es) frames free is left x (Waiting ts ∷ fs) (cons e rest) = elim e [ ]
  alone_at touches s u n (Running f ∷ es) frames free is left x (Ended vs ∷ fs) (cons e rest) = elim e [ ]
  alone_at touches s u n (Running f ∷ es) frames free is left x (Growing h ∷ fs) (cons e rest) = elim e [ ]
  alone_at touches s u n [] frames free is left x fs rel = absurd (let k = is in cc)
  alone_at touches s u n (Mark ∷ es) frames free is left x fs rel = absurd (let k = is in cc)
  alone_at touches s u n (Opening starts ∷ es) frames free is left x fs rel = absurd (let k = is in cc)
  alone_at touches s u n (Waiting ts ∷ es) frames free is left x fs rel = absurd (let k = is in cc)
  alone_at touches s u n (Ended vs ∷ es) frames free is left x fs rel = absurd (let k = is in cc)
  alone_at touches s u n (Growing h ∷ es) frames free is left x fs rel = absurd (let k = is in cc)

  leave_alone : StepsWriteWhatTheyTouch → (s r : State) (es gs : List Entry) → FramesOf (own_inst m) es → quiet_step m s es ≡ Going r gs →
      (x y : Store) (fs hs : List Entry) → ListRel (EntryRel R) es fs → step x fs ≡ Gives (Ran y hs) → LeavesAlone R r.unknown x y
  leave_alone touches s r es gs frames q x y fs hs rel st =
      let quiet = goes_on_quietly m s es r gs q in all_at (alone_at touches s r.unknown (Ran r.store gs) es frames quiet.none_held quiet.steps quiet.unknown x fs rel) st

pub quiet_steps_leave_alone : StepsWriteWhatTheyTouch → QuietStepsPreserveUnrelated
quiet_steps_leave_alone touches m of named all s r es gs frames q x y fs hs rel st = leave_alone m of named all touches s r es gs frames q x y fs hs rel st
