-- The environment's own entities, where each has its address in both worlds.
use Rattle.base_lists.proofs.Common.{ℕ, suc, ◌+◌, ◌<◌, List, [], ◌∷◌, length, Option, Bool, option_and_then, refl, arith, then_rel, append_rel, self_rel, maps_rel}
use Rattle.wasm_tree_spec.specs.Prelude.{Space, Functions, RefType, ValType}
use Rattle.wasm_tree.specs.declared.types.RefType.TheVariants as reft
use Rattle.wasm_tree.specs.declared.types.ValType.TheVariants as valt
use Rattle.wasm_meaning.specs.Prelude.{Val, ref_of, null_of, Environment, Shown, OwnFunc, OwnKey, FuncKey, ExternalValue, FuncAt, TableAt, MemoryAt, GlobalAt, Owned, owned_of, look_up, same_key, address_of, received, addressed, flat, one_if, own_funcs, own_tables, own_memories, own_globals}
use Rattle.wasm_meaning.specs.Environment.{or_null, or_zero}
use Rattle.run_simulation.specs.Prelude.{Pairing, OptRel, none, some, ListRel, nil, cons, RefRel, func, extern, ValRel, number, reference, FuncRel, TableRel, GlobalRel, ExternalValueRel, a_func, a_table, a_memory, a_global, KeyRel}
use Rattle.world_simulation.specs.Prelude.{SharesOwn, OwnCorrespond}

pub null_rel : (R : Pairing) (ty : RefType) → RefRel R (null_of ty) (null_of ty)
null_rel R ty = grind (arith, func, extern, none)

pub address_rel : (R : Pairing) (k : Space) {x y : ExternalValue} → ExternalValueRel R x y → OptRel (R.of k) (address_of k x) (address_of k y)
address_rel R k r = grind (arith, none, some)

flat_rel : {A B C : Type 0} {P : B → C → Type 0} (f : A → List B) (g : A → List C) → ((a : A) → ListRel P (f a) (g a)) → (xs : List A) → ListRel P (flat f xs) (flat g xs)
flat_rel f g h [] = nil
flat_rel f g h (x ∷ xs) = append_rel (h x) (flat_rel f g h xs)

one_rel : {A B C : Type 0} {P : B → C → Type 0} (f : A → B) (g : A → C) → ((a : A) → P (f a) (g a)) → (o : Option A) → ListRel P (one_if f o) (one_if g o)
one_rel f g h o = grind (arith, nil, cons)

pub own_funcs_rel : (R : Pairing) (env : Environment) → ListRel (FuncRel R) (own_funcs env) (own_funcs env)
own_funcs_rel R env = flat_rel _ _ (λ o. maps_rel _ _ (self_rel o.funcs (λ ty. FuncRel.own))) env

module _ (R : Pairing) (env : Environment) (own : SharesOwn R env) where
  -- ---- by key ----

  -- Keys of the environment's own entities of one kind are related, if there are as many keys as
  -- entities and each entity is related to itself.
  addressed_rel : {A : Type 0} (thing : ℕ → ExternalValue) (n : ℕ) (entities : List A) {keys : List OwnKey} → ListRel (λ _ _. Unit {0}) keys entities → ((a : ℕ) → a < n + length entities → ExternalValueRel R (thing a) (thing a)) → ListRel (KeyRel R) (addressed thing n keys) (addressed thing n keys)
  addressed_rel thing n [] nil h = nil
  addressed_rel thing n (x ∷ xs) (cons _ l) h = cons (record { key = refl; thing = h n (omega arith) }) (addressed_rel thing (suc n) xs l (λ a m. h a (omega arith)))

  pub owned_rel : ListRel (KeyRel R) (owned_of env) (owned_of env)
  owned_rel =
      append_rel (addressed_rel FuncAt 0 (own_funcs env) (flat_rel _ _ (λ o. maps_rel _ _ (self_rel o.funcs (λ _. tt))) env) (grind (arith, a_func)))
      (append_rel (addressed_rel TableAt 0 (own_tables env) (flat_rel _ _ (λ o. one_rel _ _ (λ _. tt) o.table) env) (grind (arith, a_table)))
      (append_rel (addressed_rel MemoryAt 0 (own_memories env) (flat_rel _ _ (λ o. one_rel _ _ (λ _. tt) o.memory) env) (grind (arith, a_memory)))
      (addressed_rel GlobalAt 0 (own_globals env) (flat_rel _ _ (λ o. one_rel _ _ (λ _. tt) o.global) env) (grind (arith, a_global)))))

  pub look_rel : (is : OwnKey → Bool) {xs ys : Owned} → ListRel (KeyRel R) xs ys → OptRel (ExternalValueRel R) (look_up is xs) (look_up is ys)
  look_rel is nil = none
  look_rel is (cons p r) = let rest = look_rel is r in grind (arith, some)

  -- ---- their values ----

  received_rel : (ty : ValType) (x : Shown) → OptRel (ValRel R) (received (owned_of env) [] ty x) (received (owned_of env) [] ty x)
  received_rel (valt.Ref reft.Func) (OwnFunc pair ty) = then_rel (then_rel (look_rel (same_key (FuncKey pair ty)) owned_rel) (λ _ _. address_rel R Functions)) (λ _ _ p. some (reference (func (some p))))
  received_rel ty x = grind (arith, some, none, number, reference, func, extern)

  received_ref_rel : (ty : RefType) {o p : Option Val} → OptRel (ValRel R) o p → RefRel R (or_null ty (option_and_then ref_of o)) (or_null ty (option_and_then ref_of p))
  received_ref_rel ty r = grind (arith, func, extern, none)

  zero_rel : (ty : ValType) {o p : Option Val} → OptRel (ValRel R) o p → ValRel R (or_zero ty o) (or_zero ty p)
  zero_rel ty r = grind (arith, number, reference, func, extern, none)

  pub own_tables_rel : ListRel (TableRel R) (own_tables env) (own_tables env)
  own_tables_rel = flat_rel _ _ (λ o. one_rel _ _ (λ u. record { type = refl; most = refl; slots = maps_rel _ _ (self_rel u.entries (λ x. received_ref_rel u.ty (received_rel (valt.Ref u.ty) x))) }) o.table) env

  pub own_globals_rel : ListRel (GlobalRel R) (own_globals env) (own_globals env)
  own_globals_rel = flat_rel _ _ (λ o. one_rel _ _ (λ g. record { type = refl; value = zero_rel g.ty.ty (received_rel g.ty.ty g.value) }) o.global) env

  pub own_correspond : OwnCorrespond R env
  own_correspond = record { owned = owned_rel; tables = own_tables_rel; globals = own_globals_rel }
