-- Steps that keep to values, locals and globals agree.
use Rattle.base_lists.proofs.Common.{◌≡◌, ℕ, List, [], ◌∷◌, Bool, true, false, cond, not, refl, ap, subst, nat_eq, there, cond_two, put_rel, get_rel}
use Rattle.wasm_tree_spec.specs.Prelude.{Functions, Globals, ValType}
use Rattle.wasm_tree.specs.declared.instr.Instr.TheOpen.{Instr-F}
use Rattle.wasm_tree.specs.declared.types.RefType.TheVariants as reft
use Rattle.wasm_tree.specs.declared.types.ValType.TheVariants as valt
use Rattle.wasm_num.specs.declared.UnOp.{UnOp}
use Rattle.wasm_num.specs.declared.BinOp.{BinOp}
use Rattle.wasm_meaning.specs.Prelude.{Outcome, Gives, IllTyped, or_trap, bind, RefVal, Val, Num, Global, Env, Body, type_of_ref, type_of, same_type, pop, pop_num, pop_ref, typed, pop_typed, null_of, zero_of, zeros, unary, binary, ref_is_null, select_of, select_any, select_typed, go, with_values}
use Rattle.wasm_meaning.specs.Prelude.{on_values, pushes, local_put, global_put, global_set}
use Rattle.wasm_num.specs.Operations.{Width, W32, W64, un_from, bin_from, bin_value}
use Rattle.wasm_meaning.specs.Values.{is_null, is_number, second_type, local_get, local_set, local_tee, global_get, ref_func}
use Rattle.run_simulation.specs.Prelude.{Pairing, none, some, ResRel, done, wrong, ListRel, nil, cons, RefRel, func, extern, ValRel, number, reference, AreIndicesRelated, BodyRel, keep, set_global, goes, Unknowns, StoreRelOff, ReadsGlobal, read_by, ReadsKnown, known, ActOff, HaveTypes}
use Rattle.run_simulation.proofs.RelatedOutcomes.{bind_rel, bind_same, bind_eq, bind_all, any, bind_found, bind_found_is}
use Rattle.base_lists.specs.Related.{PairRel}
use Rattle.wasm_meaning.proofs.Outcomes.{AllOf, just, then_found}

pub typed_is : (t : ValType) (v w : Val) → typed t v ≡ Gives w → typed t w ≡ Gives w
typed_is t v w e = go (same_type t (type_of v)) refl e
  where
    go : (b : Bool) → same_type t (type_of v) ≡ b → cond b (Gives v) IllTyped ≡ Gives w → typed t w ≡ Gives w
    go true q f = let h : v ≡ w = cc f in subst (λ x. cond (same_type t (type_of x)) (Gives x) IllTyped ≡ Gives x) h (ap (λ b. cond b (Gives v) IllTyped) q)
    go false q f = cc f

pub pop_typed_all : (ts : List ValType) (vs : List Val) → AllOf (λ p. HaveTypes ts p.0) (pop_typed ts vs)
pop_typed_all [] vs = just nil
pop_typed_all (t ∷ ts) vs =
    bind_all (pop_typed_all ts vs) (λ p _ r. bind_all (any (pop p.1)) (λ q _ _. bind_all (any (typed t q.0)) (λ v e _. just (cons (typed_is t q.0 v e) r))))

module _ (R : Pairing) where
  -- ---- what is on top ----

  pub pop_rel : {vs ws : List Val} → ListRel (ValRel R) vs ws → ResRel (PairRel (ValRel R) (ListRel (ValRel R))) (pop vs) (pop ws)
  pop_rel nil = wrong
  pop_rel (cons p r) = done (record { first = p; second = r })

  -- Related values have the same number on top, so that continuations that agree on it agree.
  pub bind_num_is : {C D : Type 0} {Q : C → D → Type 0} {vs ws : List Val} (w : Width) (f : ℕ × List Val → Outcome C) (g : ℕ × List Val → Outcome D) → ListRel (ValRel R) vs ws →
      ((n : ℕ) (xs ys : List Val) → pop_num w vs ≡ Gives (n, xs) → ListRel (ValRel R) xs ys → ResRel Q (f (n, xs)) (g (n, ys))) → ResRel Q (bind (pop_num w vs) f) (bind (pop_num w ws) g)
  bind_num_is w f g nil h = wrong
  bind_num_is W32 f g (cons (number {w = W32}) r) h = h _ _ _ refl r
  bind_num_is W32 f g (cons (number {w = W64}) r) h = wrong
  bind_num_is W64 f g (cons (number {w = W32}) r) h = wrong
  bind_num_is W64 f g (cons (number {w = W64}) r) h = h _ _ _ refl r
  bind_num_is W32 f g (cons (reference p) r) h = wrong
  bind_num_is W64 f g (cons (reference p) r) h = wrong

  pub bind_num : {C D : Type 0} {Q : C → D → Type 0} {vs ws : List Val} (w : Width) (f : ℕ × List Val → Outcome C) (g : ℕ × List Val → Outcome D) → ListRel (ValRel R) vs ws → ((n : ℕ) (xs ys : List Val) → ListRel (ValRel R) xs ys → ResRel Q (f (n, xs)) (g (n, ys))) →
      ResRel Q (bind (pop_num w vs) f) (bind (pop_num w ws) g)
  bind_num w f g r h = bind_num_is w f g r (λ n xs ys _ v. h n xs ys v)

  pub pop_ref_rel : {vs ws : List Val} → ListRel (ValRel R) vs ws → ResRel (PairRel (RefRel R) (ListRel (ValRel R))) (pop_ref vs) (pop_ref ws)
  pop_ref_rel nil = wrong
  pop_ref_rel (cons number r) = wrong
  pop_ref_rel (cons (reference p) r) = done (record { first = p; second = r })

  pub ref_type_rel : {r s : RefVal} → RefRel R r s → type_of_ref r ≡ type_of_ref s
  ref_type_rel (func p) = refl
  ref_type_rel extern = refl

  pub type_rel : {v w : Val} → ValRel R v w → type_of v ≡ type_of w
  type_rel number = refl
  type_rel (reference p) = ap valt.Ref (ref_type_rel p)

  pub typed_rel : {v w : Val} (t : ValType) → ValRel R v w → ResRel (ValRel R) (typed t v) (typed t w)
  typed_rel {v} {w} t p = subst (λ u. ResRel (ValRel R) (typed t v) (cond (same_type t u) (Gives w) IllTyped)) (type_rel p) (cond_two (ResRel (ValRel R)) (same_type t (type_of v)) (done p) wrong)

  pub pop_typed_rel : {vs ws : List Val} (ts : List ValType) → ListRel (ValRel R) vs ws → ResRel (PairRel (ListRel (ValRel R)) (ListRel (ValRel R))) (pop_typed ts vs) (pop_typed ts ws)
  pop_typed_rel [] r = done (record { first = nil; second = r })
  pop_typed_rel (t ∷ ts) r =
      bind_rel (pop_typed_rel ts r) (λ _ _ p. bind_rel (pop_rel p.second) (λ _ _ q. bind_rel (typed_rel t q.first) (λ _ _ v. done (record { first = cons v p.first; second = q.second }))))

  pub null_rel : (t : _) → RefRel R (null_of t) (null_of t)
  null_rel reft.Func = func none
  null_rel reft.Extern = extern

  zero_rel : (t : ValType) → ValRel R (zero_of t) (zero_of t)
  zero_rel valt.I32 = number
  zero_rel valt.I64 = number
  zero_rel (valt.Ref r) = reference (null_rel r)

  pub zeros_rel : (ts : List ValType) → ListRel (ValRel R) (zeros ts) (zeros ts)
  zeros_rel [] = nil
  zeros_rel (t ∷ ts) = cons (zero_rel t) (zeros_rel ts)

  -- ---- operations ----

  pub unary_rel : {vs ws : List Val} (o : UnOp) → ListRel (ValRel R) vs ws → ResRel (ListRel (ValRel R)) (unary o vs) (unary o ws)
  unary_rel o r = bind_num (un_from o) _ _ r (λ n _ _ r. done (cons number r))

  pub binary_rel : {vs ws : List Val} (o : BinOp) → ListRel (ValRel R) vs ws → ResRel (ListRel (ValRel R)) (binary o vs) (binary o ws)
  binary_rel o r = bind_num (bin_from o) _ _ r (λ b _ _ r. bind_num (bin_from o) _ _ r (λ a _ _ r. bind_same (or_trap (bin_value o a b)) (λ n. done (cons number r))))

  null_same : {r s : RefVal} → RefRel R r s → is_null r ≡ is_null s
  null_same (func none) = refl
  null_same (func (some p)) = refl
  null_same extern = refl

  number_eq : {n m : ℕ} → n ≡ m → ValRel R (Num W32 n) (Num W32 m)
  number_eq {n} e = subst (λ x. ValRel R (Num W32 n) (Num W32 x)) e number

  pub ref_is_null_rel : {vs ws : List Val} → ListRel (ValRel R) vs ws → ResRel (ListRel (ValRel R)) (ref_is_null vs) (ref_is_null ws)
  ref_is_null_rel r = bind_rel (pop_ref_rel r) (λ _ _ p. done (cons (number_eq (null_same p.first)) p.second))

  pub select_rel : {vs ws : List Val} (t : ValType) → ListRel (ValRel R) vs ws → ResRel (ListRel (ValRel R)) (select_of t vs) (select_of t ws)
  select_rel t r =
      bind_num W32 _ _ r (λ c _ _ r. bind_rel (pop_rel r) (λ _ _ b. bind_rel (typed_rel t b.first) (λ _ _ v. bind_rel (pop_rel b.second) (λ _ _ a. bind_rel (typed_rel t a.first) (λ _ _ w.
      done (cons (cond_two (ValRel R) (nat_eq c 0) v w) a.second))))))

  second_rel : {vs ws : List Val} → ListRel (ValRel R) vs ws → second_type vs ≡ second_type ws
  second_rel nil = refl
  second_rel (cons c nil) = refl
  second_rel (cons c (cons v r)) = ap (λ t. cond (is_number t) (Gives t) IllTyped) (type_rel v)

  pub select_any_rel : {vs ws : List Val} → ListRel (ValRel R) vs ws → ResRel (ListRel (ValRel R)) (select_any vs) (select_any ws)
  select_any_rel r = bind_eq (second_rel r) (λ t. select_rel t r)

  pub select_typed_rel : {vs ws : List Val} (ts : List ValType) → ListRel (ValRel R) vs ws → ResRel (ListRel (ValRel R)) (select_typed ts vs) (select_typed ts ws)
  select_typed_rel (t ∷ []) r = select_rel t r
  select_typed_rel [] r = wrong
  select_typed_rel (t ∷ u ∷ ts) r = wrong

module _ (R : Pairing) (off : Unknowns) (ev ew : Env) (st : StoreRelOff R off ev.store ew.store) where
  -- ---- the frame put together again ----

  pub go_rel : {h k : Body} → BodyRel R ev.inst ew.inst h k → ResRel (ActOff R off ev.inst ew.inst) (Gives (go h)) (Gives (go k))
  go_rel r = done (goes (known keep) r)

  pub values_rel : {h k : Body} {vs ws : List Val} → BodyRel R ev.inst ew.inst h k → ListRel (ValRel R) vs ws → BodyRel R ev.inst ew.inst (with_values h vs) (with_values k ws)
  values_rel r v = record { locals = r.locals; values = v; rest = r.rest; gives = r.gives; takes = r.takes; back = r.back; outer = r.outer }

  pub on_values_rel : {h k : Body} (f : List Val → Outcome (List Val)) → BodyRel R ev.inst ew.inst h k → ResRel (ListRel (ValRel R)) (f h.values) (f k.values) → ResRel (ActOff R off ev.inst ew.inst) (on_values h f) (on_values k f)
  on_values_rel f r v = bind_rel v (λ _ _ v. go_rel (values_rel r v))

  pub pushes_rel : {h k : Body} {v w : Val} → BodyRel R ev.inst ew.inst h k → ValRel R v w → ResRel (ActOff R off ev.inst ew.inst) (pushes h v) (pushes k w)
  pushes_rel r v = go_rel (values_rel r (cons v r.values))

  -- ---- locals and globals ----

  pub local_get_rel : {h k : Body} (i : ℕ) → BodyRel R ev.inst ew.inst h k → ResRel (ActOff R off ev.inst ew.inst) (local_get h i) (local_get k i)
  local_get_rel i r = bind_found (get_rel r.locals i) (λ _ _ v. pushes_rel r v)

  local_put_rel : {h k : Body} {v w : Val} (i : ℕ) → BodyRel R ev.inst ew.inst h k → ValRel R v w → ResRel (ActOff R off ev.inst ew.inst) (local_put h i v) (local_put k i w)
  local_put_rel i r q =
      bind_found (get_rel r.locals i) (λ a b old. rw (type_rel R old) (bind_rel (typed_rel R (type_of b) q) (λ _ _ new.
      go_rel (record { locals = put_rel r.locals i new; values = r.values; rest = r.rest; gives = r.gives; takes = r.takes; back = r.back; outer = r.outer }))))

  pub local_set_rel : {h k : Body} (i : ℕ) → BodyRel R ev.inst ew.inst h k → ResRel (ActOff R off ev.inst ew.inst) (local_set h i) (local_set k i)
  local_set_rel i r = bind_rel (pop_rel R r.values) (λ _ _ p. local_put_rel i (values_rel r p.second) p.first)

  pub local_tee_rel : {h k : Body} (i : ℕ) → BodyRel R ev.inst ew.inst h k → ResRel (ActOff R off ev.inst ew.inst) (local_tee h i) (local_tee k i)
  local_tee_rel i r = bind_rel (pop_rel R r.values) (λ _ _ p. local_put_rel i r p.first)

  pub global_get_rel : {h k : Body} (n m : ℕ) → BodyRel R ev.inst ew.inst h k → AreIndicesRelated R.of Globals ev.inst.globals ew.inst.globals n m → ReadsKnown off (read_by (Instr-F.GlobalGet n) ev h.values) → ResRel (ActOff R off ev.inst ew.inst) (global_get ev h n) (global_get ew k m)
  global_get_rel n m r p reads = bind_found_is p (λ a _ is p. bind_found (there (st.globals p)) (λ _ _ g. pushes_rel r (g.value (ap not (reads _ (then_found (λ a. Gives (ReadsGlobal a)) is))))))

  global_put_rel : {h k : Body} {v w : Val} {a b : ℕ} (g e : Global) → R.of Globals a b → g.ty ≡ e.ty → BodyRel R ev.inst ew.inst h k → ValRel R v w → ResRel (ActOff R off ev.inst ew.inst) (global_put h a g v) (global_put k b e w)
  global_put_rel g e n type r v =
      rw type (cond_two (ResRel (ActOff R off ev.inst ew.inst)) e.ty.mutable (bind_rel (typed_rel R e.ty.ty v) (λ x y new. done (goes (known (set_global n (record { type = refl; value = new }))) r))) wrong)

  pub global_set_rel : {h k : Body} (n m : ℕ) → BodyRel R ev.inst ew.inst h k → AreIndicesRelated R.of Globals ev.inst.globals ew.inst.globals n m → ResRel (ActOff R off ev.inst ew.inst) (global_set ev h n) (global_set ew k m)
  global_set_rel n m r p =
      bind_found p (λ _ _ p. bind_found (there (st.globals p)) (λ x y g. bind_rel (pop_rel R r.values) (λ _ _ v. global_put_rel x y p g.type (values_rel r v.second) v.first)))

  pub ref_func_rel : {h k : Body} (n m : ℕ) → BodyRel R ev.inst ew.inst h k → AreIndicesRelated R.of Functions ev.inst.funcs ew.inst.funcs n m → ResRel (ActOff R off ev.inst ew.inst) (ref_func ev h n) (ref_func ew k m)
  ref_func_rel n m r p = bind_found p (λ _ _ p. pushes_rel r (reference (func (some p))))
