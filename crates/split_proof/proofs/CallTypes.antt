-- The types of a call, of a call through a slot and of a trampoline's body (WebAssembly Core 2.0,
-- sections 3.3.8 and 3.3.9).
use Rattle.base_lists.proofs.Common.{◌≡◌, ◌∙◌, ap, ap₂, sym, subst, refl, ℕ, suc, ◌+◌, List, [], ◌∷◌, ◌++◌, map, reverse, Option, Some, None, option_and_then, slice_get, arith, rules, append_assoc, ℤ, option_map, slice_index, map-append, reverse-append}
use Rattle.std.proofs.lemmas.List.{append-nil}
use Rattle.wasm_tree_spec.specs.Prelude.{RefType, ValType, I32, FuncType, Instr, the_lemmas, Call, CallIndirect, LocalGet}
use Rattle.wasm_tree.specs.declared.types.RefType.TheVariants.{Func as func_ref}
use Rattle.wasm_valid_bodies.specs.Typing.{Acts, AllMatch, Context, Gives, LeadsAll, Stack, WellTyped, effect_of, gives_of, is_func, only, operands, signature_in}
use Rattle.index_remap.specs.declared.remap.Remap.{Remap}
use Rattle.run_simulation.specs.Prelude.{gets, slot_call}
use Rattle.index_remap.specs.Prelude.{func_type, renumbered_all}

match_operands : (ts : List ValType) → AllMatch (map Some ts) ts
match_operands [] = tt
match_operands (t ∷ ts) = (refl, match_operands ts)

-- ---- a call ----

call_effect : (d : Context) (f : ℕ) (t : FuncType) → func_type d f ≡ Some t → effect_of d (Call f) ≡ Some (Gives t.params t.results)
call_effect d f t h = by (slice_get d.funcs f) h
  where
    by : (o : Option ℕ) → option_and_then (slice_get d.types) o ≡ Some t → gives_of (signature_in (option_and_then (λ ty. slice_get d.types ty) o)) ≡ Some (Gives t.params t.results)
    by None h = cc
    by (Some ty) h = ap (λ o. gives_of (signature_in o)) h

pub call_typed : (d : Context) (f : ℕ) (t : FuncType) → func_type d f ≡ Some t → WellTyped d (Call f ∷ []) t.params t.results
call_typed d f t h =
    let acts : Acts (Gives t.params t.results) (operands t.params) (operands t.results) =
    (operands t.params, [], sym (append-nil (operands t.params)), match_operands (reverse t.params), sym (append-nil (operands t.results))) in
    (operands t.results, (operands t.results, (Gives t.params t.results, call_effect d f t h, acts), refl), match_operands (reverse t.results))

-- ---- a call through a slot ----

indirect_effect : (d : Context) (ty table : ℕ) (t : FuncType) → slice_get d.types ty ≡ Some t → slice_get d.tables table ≡ Some func_ref → effect_of d (CallIndirect ty table) ≡ Some (Gives (t.params ++ I32 ∷ []) t.results)
indirect_effect d ty table t a b =
    ap₂ (λ (o : Option RefType) (p : Option FuncType). option_and_then (λ r. only (is_func r) (option_map (λ f. Gives (f.params ++ I32 ∷ []) f.results) (signature_in p))) o) b a

slot_leads : (d : Context) (ty table : ℕ) (slot : ℤ) (t : FuncType) → slice_get d.types ty ≡ Some t → slice_get d.tables table ≡ Some func_ref → LeadsAll d (slot_call ty table slot) (operands t.params) (operands t.results)
slot_leads d ty table slot t a b =
    let both : reverse (t.params ++ I32 ∷ []) ≡ I32 ∷ reverse t.params = reverse-append t.params (I32 ∷ []) in
    let matches : AllMatch (Some I32 ∷ operands t.params) (I32 ∷ reverse t.params) = (refl, match_operands (reverse t.params)) in
    let acts : Acts (Gives (t.params ++ I32 ∷ []) t.results) (Some I32 ∷ operands t.params) (operands t.results) =
    (Some I32 ∷ operands t.params, [], sym (append-nil (Some I32 ∷ operands t.params)), subst (AllMatch (Some I32 ∷ operands t.params)) (sym both) matches, sym (append-nil (operands t.results))) in (
      Some I32 ∷ operands t.params,
      (Gives [] (I32 ∷ []), refl, ([], operands t.params, refl, tt, refl)),
      (operands t.results, (Gives (t.params ++ I32 ∷ []) t.results, indirect_effect d ty table t a b, acts), refl),
    )

pub slot_call_typed : (d : Context) (ty table : ℕ) (slot : ℤ) (t : FuncType) → slice_get d.types ty ≡ Some t → slice_get d.tables table ≡ Some func_ref → WellTyped d (slot_call ty table slot) t.params t.results
slot_call_typed d ty table slot t a b = (operands t.results, slot_leads d ty table slot t a b, match_operands (reverse t.results))

-- ---- a trampoline ----

-- The instructions that get the parameters push operands of their types.
gets_lead : (d : Context) (n : ℕ) (ts : List ValType) (is : List Instr) (s u : Stack) → ((i : ℕ) (t : ValType) → slice_get ts i ≡ Some t → slice_get d.locals (n + i) ≡ Some t) → LeadsAll d is (operands ts ++ s) u → LeadsAll d (gets n ts ++ is) s u
gets_lead d n [] is s u there h = h
gets_lead d n (t ∷ ts) is s u there h =
    let e : n + 0 ≡ n = omega arith in
    let at : slice_get d.locals n ≡ Some t = ap (slice_get d.locals) (sym e) ∙ there 0 t refl in
    let last : operands ts ++ (Some t ∷ s) ≡ operands (t ∷ ts) ++ s =
    sym (append_assoc (operands ts) (Some t ∷ []) s) ∙ ap (λ z. z ++ s) (sym (map-append Some (reverse ts) (t ∷ []))) ∙ ap (λ z. map Some z ++ s) (sym (reverse-append (t ∷ []) ts)) in (
      Some t ∷ s,
      (Gives [] (t ∷ []), ap (option_map (λ u. Gives [] (u ∷ []))) at, ([], s, refl, tt, refl)),
      gets_lead d (suc n) ts is (Some t ∷ s) u (λ i v k. let q : suc n + i ≡ n + suc i = omega arith in ap (slice_get d.locals) q ∙ there (suc i) v k) (subst (λ z. LeadsAll d is z u) (sym last) h),
    )

-- The body of a trampoline has the type of its function, where the parameters are the first locals.
pub trampoline_typed : (d : Context) (ty table : ℕ) (slot : ℤ) (t : FuncType) → slice_get d.types ty ≡ Some t → slice_get d.tables table ≡ Some func_ref → ((i : ℕ) (v : ValType) → slice_get t.params i ≡ Some v → slice_get d.locals i ≡ Some v) →
    WellTyped d (gets 0 t.params ++ slot_call ty table slot) [] t.results
trampoline_typed d ty table slot t a b locals =
    let calls : LeadsAll d (slot_call ty table slot) (operands t.params ++ []) (operands t.results) =
    subst (λ z. LeadsAll d (slot_call ty table slot) z (operands t.results)) (sym (append-nil (operands t.params))) (slot_leads d ty table slot t a b) in
    (operands t.results, gets_lead d 0 t.params (slot_call ty table slot) [] (operands t.results) (λ i v h. let q : 0 + i ≡ i = omega arith in ap (slice_get d.locals) q ∙ locals i v h) calls, match_operands (reverse t.results))

-- ---- with other indices ----

pub call_renumbered : (r : Remap) (f : ℕ) → renumbered_all r (Call f ∷ []) ≡ Call (slice_index r.funcs f) ∷ []
call_renumbered r f = search (rules, the_lemmas)

pub slot_call_renumbered : (r : Remap) (ty table : ℕ) (slot : ℤ) → renumbered_all r (slot_call ty table slot) ≡ slot_call (slice_index r.types ty) (slice_index r.tables table) slot
slot_call_renumbered r ty table slot = search (rules, the_lemmas)

get_renumbered : (r : Remap) (n : ℕ) → renumbered_all r (LocalGet n ∷ []) ≡ LocalGet n ∷ []
get_renumbered r n = search (rules, the_lemmas)

gets_renumbered : (r : Remap) (n : ℕ) (ts : List ValType) → renumbered_all r (gets n ts) ≡ gets n ts
gets_renumbered r n [] = refl
gets_renumbered r n (t ∷ ts) = ap₂ (λ is js. is ++ js) (get_renumbered r n) (gets_renumbered r (suc n) ts)

pub trampoline_renumbered : (r : Remap) (ts : List ValType) (ty table : ℕ) (slot : ℤ) → renumbered_all r (gets 0 ts ++ slot_call ty table slot) ≡ gets 0 ts ++ slot_call (slice_index r.types ty) (slice_index r.tables table) slot
trampoline_renumbered r ts ty table slot = joined (gets 0 ts) ∙ ap₂ (λ is js. is ++ js) (gets_renumbered r 0 ts) (slot_call_renumbered r ty table slot)
  where
    joined : (is : List Instr) → renumbered_all r (is ++ slot_call ty table slot) ≡ renumbered_all r is ++ renumbered_all r (slot_call ty table slot)
    joined [] = refl
    joined (i ∷ is) = ap (λ js. renumbered_all r (i ∷ []) ++ js) (joined is)
