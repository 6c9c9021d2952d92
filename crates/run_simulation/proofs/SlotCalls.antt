-- Calls through a slot of a table, by a trampoline and by two instructions in place of a direct
-- call.
use Rattle.base_lists.proofs.Common.{◌≡◌, true, ℕ, suc, ◌+◌, List, [], ◌∷◌, ◌++◌, length, Some, option_and_then, refl, ap, subst, ◌∙◌, arith, append-nil, slice_get, ℤ, and_from, each_same_self, append_rel}
use Rattle.wasm_tree_spec.specs.Prelude.{ValType, FuncType, Instr, Call, CallIndirect, same_type, same_types, same_func_type}
use Rattle.wasm_tree.specs.declared.instr.Instr.{out-Instr}
use Rattle.wasm_meaning.specs.Prelude.{Gives, bind, or_ill_typed, onto, Val, Num, Calls, Inst, Code, Store, Level, Frame, Entry, Running, Ran, pop_typed, zeros, type_of_func, type_at, act, perform, enter_at, step}
use Rattle.wasm_num.specs.Operations.{W32, wrapped}
use Rattle.run_simulation.specs.Prelude.{Pairing, ResRel, done, ListRel, nil, cons, ValRel, end, StoreRel, LevelRel, FrameRel, running, NextRel, ran, passing, WithPassing, through, FramesBetween, slot_call, gets, trampoline, InSlot, go_on, HaveTypes, at_code, CodeAt}
use Rattle.run_simulation.specs.Trampolines as between
use Rattle.run_simulation.proofs.RelatedOutcomes.{bind_rel}
use Rattle.run_simulation.proofs.ValueSteps.{pop_typed_rel, zeros_rel}
use Rattle.run_simulation.proofs.FramesBetween.{pop_pushed, frames, again}

func_type_self : (t : FuncType) → same_func_type t t ≡ true
func_type_self t =
    let self = each_same_self same_type (λ a. grind arith) in and_from (same_types t.params t.params) (same_types t.results t.results) (self t.params) (self t.results)

-- ---- the two instructions ----

-- The second of the two instructions calls the function in the slot, with the values below the
-- number of the slot.
pub slot_act : (t : Store) (g : Frame) (m : Level) (ms : List Level) (u : FuncType) (ty table : ℕ) (slot : ℤ) (c : ℕ) → InSlot t g.inst u ty table slot c → (more : List Val) (d : List Instr) →
    act t (at_code g m ms (Num W32 (wrapped 32 slot) ∷ more) (CallIndirect ty table ∷ d)) ≡ Gives (Calls c more (record { locals = g.locals; values = Num W32 (wrapped 32 slot) ∷ more; rest = d; gives = m.gives; takes = m.takes; back = m.back; outer = ms }))
unfolding out-Instr denote.Hole.Carrier.out
slot_act t g m ms u ty table slot c h more d =
    rw (h.names, h.stands, h.refers, h.is_function, h.typed, h.type, func_type_self u) refl

-- The two instructions pop the arguments, and enter the function in the slot with these.
slot_calls : (t : Store) (g : Frame) (m : Level) (ms : List Level) (u : FuncType) (ty table : ℕ) (slot : ℤ) (c : ℕ) → InSlot t g.inst u ty table slot c → (more : List Val) (d : List Instr) (fs : List Entry) →
    go_on 2 (Gives (Ran t (Running (at_code g m ms more (slot_call ty table slot ++ d)) ∷ fs))) ≡ bind (pop_typed u.params more) (λ p. enter_at t c p.0 (Running (at_code g m ms p.1 d) ∷ fs))
unfolding out-Instr denote.Hole.Carrier.out
slot_calls t g m ms u ty table slot c h more d fs =
    let called = at_code g m ms (Num W32 (wrapped 32 slot) ∷ more) (CallIndirect ty table ∷ d) in
    let type_is : type_at t c ≡ Some u = ap (option_and_then (λ f. Some (type_of_func f))) h.is_function ∙ ap Some h.typed in
    ap (λ a. bind a (perform t called fs)) (slot_act t g m ms u ty table slot c h more d)
    ∙ ap (λ o. bind (or_ill_typed o) (λ v. bind (pop_typed v.params more) (λ p. enter_at t c p.0 (Running (at_code g m ms p.1 d) ∷ fs)))) type_is

pub slot_calls_enter : (t : Store) (g : Frame) (m : Level) (ms : List Level) (u : FuncType) (ty table : ℕ) (slot : ℤ) (c : ℕ) → InSlot t g.inst u ty table slot c → (ws left more : List Val) (d : List Instr) (fs : List Entry) → pop_typed u.params more ≡ Gives (ws, left) →
    go_on 2 (Gives (Ran t (Running (at_code g m ms more (slot_call ty table slot ++ d)) ∷ fs))) ≡ enter_at t c ws (Running (at_code g m ms left d) ∷ fs)
slot_calls_enter t g m ms u ty table slot c h ws left more d fs pops =
    slot_calls t g m ms u ty table slot c h more d fs ∙ ap (λ o. bind o (λ p. enter_at t c p.0 (Running (at_code g m ms p.1 d) ∷ fs))) pops

-- ---- trampolines ----

abbrev body_level : List ValType → Level
body_level results = record { values = []; code = []; gives = length results; takes = length results; back = [] }

-- The first instructions of a trampoline push the locals from number `n` on, one after the other.
gets_push : (t : Store) (inst : Inst) (locals : List Val) (results : List ValType) (n : ℕ) {ts : List ValType} {ys : List Val} (values : List Val) (more : List Instr) (fs : List Entry) → HaveTypes ts ys →
    ((k : ℕ) (y : Val) → slice_get ys k ≡ Some y → slice_get locals (n + k) ≡ Some y) →
    go_on (suc (suc (length ts))) (Gives (Ran t (Running (at_code (passing inst locals results) (body_level results) [] values (gets n ts ++ more)) ∷ fs)))
    ≡ go_on 2 (Gives (Ran t (Running (at_code (passing inst locals results) (body_level results) [] (onto ys values) more) ∷ fs)))
unfolding out-Instr denote.Hole.Carrier.out
gets_push t inst locals results n values more fs nil there = refl
gets_push t inst locals results n values more fs (cons {b = y} p typed) there =
    let e : n + 0 ≡ n = omega arith in
    let here : slice_get locals n ≡ Some y = subst (λ k. slice_get locals k ≡ Some y) e (there 0 y refl) in
    rw here (gets_push t inst locals results (suc n) (y ∷ values) more fs typed (λ k z h. let f : n + suc k ≡ suc n + k = omega arith in subst (λ k. slice_get locals k ≡ Some z) f (there (suc k) z h)))

pub trampolines_enter : (t : Store) (inst : Inst) (u : FuncType) (ty table : ℕ) (slot : ℤ) (b c : ℕ) → slice_get t.funcs b ≡ Some (trampoline inst u ty table slot) → InSlot t inst u ty table slot c →
    (ws : List Val) (fs : List Entry) → HaveTypes u.params ws → go_on (length u.params + 2) (enter_at t b ws fs) ≡ enter_at t c ws (Running (passing inst ws u.results) ∷ fs)
trampolines_enter t inst u ty table slot b c is h ws fs typed =
    let count : length u.params + 2 ≡ suc (suc (length u.params)) = omega arith in
    rw (count, is, append-nil ws)
    (gets_push t inst ws u.results 0 [] (slot_call ty table slot) fs typed (λ k y h. let z : 0 + k ≡ k = omega arith in rw z h)
    ∙ slot_calls_enter t (passing inst ws u.results) (body_level u.results) [] u ty table slot c h ws [] (onto ws []) [] fs (pop_pushed [] typed))

-- ---- against the direct call ----

module _ (R : Pairing) where
  -- The frames of defined functions with related code and related arguments are related.
  entered : {s t : Store} {u : FuncType} {a c : ℕ} (k : CodeAt R s t u a c) {vs ws : List Val} → ListRel (ValRel R) vs ws → FrameRel R
      (record { inst = k.first_inst; locals = vs ++ zeros k.locals; results = u.results; levels = record (body_level u.results) { code = k.first_code } ∷ [] })
      (record { inst = k.second_inst; locals = ws ++ zeros k.locals; results = u.results; levels = record (body_level u.results) { code = k.second_code } ∷ [] })
  entered k v = record { locals = append_rel v (zeros_rel R k.locals); results = refl; levels = cons (record { values = nil; code = k.related; gives = refl; takes = refl; back = end }) nil }

  pub trampoline_calls : (s t : Store) (es fs : List Entry) → StoreRel R s t → WithPassing R es fs → (inst : Inst) (u : FuncType) (ty table : ℕ) (slot : ℤ) (a b c : ℕ) → slice_get t.funcs b ≡ Some (trampoline inst u ty table slot) → InSlot t inst u ty table slot c → CodeAt R s t u a c →
      (vs ws : List Val) → ListRel (ValRel R) vs ws → HaveTypes u.params ws → ResRel (NextRel R (FramesBetween R)) (enter_at s a vs es) (go_on (length u.params + 2) (enter_at t b ws fs))
  trampoline_calls s t es fs h below inst u ty table slot a b c is held k vs ws v typed =
      rw (trampolines_enter t inst u ty table slot b c is held ws fs typed, k.first, k.second) (done (ran h (through (entered k v) inst ws below)))

  direct_call : (s : Store) (f : Frame) (o : Level) (os : List Level) (u : FuncType) (n a : ℕ) (i : Inst) (ls : List ValType) (code c : List Instr) (vs : List Val) (es : List Entry) → slice_get f.inst.funcs n ≡ Some a → slice_get s.funcs a ≡ Some (Code u i ls code) →
      step s (Running (at_code f o os vs (Call n ∷ c)) ∷ es) ≡ bind (pop_typed u.params vs) (λ p. enter_at s a p.0 (Running (at_code f o os p.1 c) ∷ es))
  unfolding out-Instr denote.Hole.Carrier.out
  direct_call s f o os u n a i ls code c vs es named stands = rw (named, stands) refl

  -- Related lists of levels have related first levels, and related levels after these.
  values_on_top : {l m : Level} {ls ms : List Level} {i j : Inst} → ListRel (LevelRel R i j) (l ∷ ls) (m ∷ ms) → LevelRel R i j l m × ListRel (LevelRel R i j) ls ms
  values_on_top (cons l ls) = (l, ls)

  -- Both runs pop arguments of these types, and enter functions with related code; the calling
  -- frames stay below.
  enters_over : (s t : Store) (es fs : List Entry) → StoreRel R s t → (f g : Frame) (o m : Level) (os ms : List Level) (c d : List Instr) → WithPassing R (Running (at_code f o os o.values c) ∷ es) (Running (at_code g m ms m.values d) ∷ fs) → (u : FuncType) (a b : ℕ) → CodeAt R s t u a b →
      ResRel (NextRel R (FramesBetween R)) (bind (pop_typed u.params o.values) (λ p. enter_at s a p.0 (Running (at_code f o os p.1 c) ∷ es))) (bind (pop_typed u.params m.values) (λ p. enter_at t b p.0 (Running (at_code g m ms p.1 d) ∷ fs)))
  enters_over s t es fs h f g o m os ms c d below u a b k =
      let top = frames R below in
      let levels = values_on_top top.levels in
      bind_rel (pop_typed_rel R u.params levels.0.values) (λ p q z. both p q z.first
      (again R below refl (record { locals = top.locals; results = top.results; levels = cons (record { values = z.second; code = levels.0.code; gives = levels.0.gives; takes = levels.0.takes; back = levels.0.back }) levels.1 })))
    where
      both : (p q : List Val × List Val) → ListRel (ValRel R) p.0 q.0 → WithPassing R (Running (at_code f o os p.1 c) ∷ es) (Running (at_code g m ms q.1 d) ∷ fs) →
          ResRel (NextRel R (FramesBetween R)) (enter_at s a p.0 (Running (at_code f o os p.1 c) ∷ es)) (enter_at t b q.0 (Running (at_code g m ms q.1 d) ∷ fs))
      both p q v w = rw (k.first, k.second) (done (ran h (between.WithPassing.cons (running (entered k v)) w)))

  pub calls_agree : (s t : Store) (es fs : List Entry) → StoreRel R s t → (f g : Frame) (o m : Level) (os ms : List Level) (c d : List Instr) → WithPassing R (Running (at_code f o os o.values c) ∷ es) (Running (at_code g m ms m.values d) ∷ fs) →
      (u : FuncType) (n ty table : ℕ) (slot : ℤ) (a b : ℕ) → slice_get f.inst.funcs n ≡ Some a → InSlot t g.inst u ty table slot b → CodeAt R s t u a b →
      ResRel (NextRel R (FramesBetween R)) (step s (Running (at_code f o os o.values (Call n ∷ c)) ∷ es)) (go_on 2 (Gives (Ran t (Running (at_code g m ms m.values (slot_call ty table slot ++ d)) ∷ fs))))
  calls_agree s t es fs h f g o m os ms c d below u n ty table slot a b named held k =
      rw (direct_call s f o os u n a k.first_inst k.locals k.first_code c o.values es named k.first, slot_calls t g m ms u ty table slot b held m.values d fs) (enters_over s t es fs h f g o m os ms c d below u a b k)

  pub direct_calls_agree : (s t : Store) (es fs : List Entry) → StoreRel R s t → (f g : Frame) (o m : Level) (os ms : List Level) (c d : List Instr) → WithPassing R (Running (at_code f o os o.values c) ∷ es) (Running (at_code g m ms m.values d) ∷ fs) →
      (u : FuncType) (n k a b : ℕ) → slice_get f.inst.funcs n ≡ Some a → slice_get g.inst.funcs k ≡ Some b → CodeAt R s t u a b →
      ResRel (NextRel R (FramesBetween R)) (step s (Running (at_code f o os o.values (Call n ∷ c)) ∷ es)) (step t (Running (at_code g m ms m.values (Call k ∷ d)) ∷ fs))
  direct_calls_agree s t es fs h f g o m os ms c d below u n k a b named other held =
      rw (direct_call s f o os u n a held.first_inst held.locals held.first_code c o.values es named held.first, direct_call t g m ms u k b held.second_inst held.locals held.second_code d m.values fs other held.second) (enters_over s t es fs h f g o m os ms c d below u a b held)
