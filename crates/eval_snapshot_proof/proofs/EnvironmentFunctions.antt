-- The function at the address that an imported function denotes is the environment's own function
-- of that pair and type.
use Rattle.base_lists.proofs.Common.{◌≡◌, ◌∙◌, sym, ap, ap₂, refl, ℕ, suc, ◌+◌, List, [], ◌∷◌, ◌++◌, map, append-nil, Option, Some, None, Bool, true, false, cond, arith, slice_get, and_parts, append_rel, self_rel, maps_rel, each_same_is}
use Rattle.base_lists.proofs.Same.{text_is}
use Rattle.wasm_tree_spec.specs.Prelude.{FuncType, same_type, same_func_type}
use Rattle.wasm_meaning.specs.Prelude.{Pair, Func, Own, same_pair, same_text, Environment, Offer, OwnKey, FuncKey, TableKey, MemoryKey, GlobalKey, ExternalValue, FuncAt, TableAt, MemoryAt, GlobalAt, Owned, same_key, look_up, owned_at, owned_of, addressed, flat, one_if, own_funcs}
use Rattle.run_simulation.specs.Prelude.{ListRel, nil, cons}

-- The function is the one that is allocated for the key.
abbrev IsOwn : OwnKey → Func → Type 0
IsOwn key f = (p : Pair) × (t : FuncType) × (key ≡ FuncKey p t) × (f ≡ Own p t)

allocated_own : (os : List Offer) → ListRel IsOwn (flat (λ o. map (FuncKey o.pair) o.funcs) os) (flat (λ o. map (Own o.pair) o.funcs) os)
allocated_own [] = nil
allocated_own (o ∷ os) = append_rel (maps_rel (FuncKey o.pair) (Own o.pair) (self_rel o.funcs (λ t. (o.pair, t, refl, refl)))) (allocated_own os)

module _ (pair : Pair) (t : FuncType) where
  abbrev is : OwnKey → Bool
  is = same_key (FuncKey pair t)

  -- Keys of other kinds do not affect the search for a function.
  passed_over : {B : Type 0} (of : Offer → Option B) (key : Offer → B → OwnKey) → ((o : Offer) (b : B) → is (key o b) ≡ false) → (os : List Offer) (thing : ℕ → ExternalValue) (n : ℕ) (rest : Owned) →
      look_up is (addressed thing n (flat (λ o. one_if (key o) (of o)) os) ++ rest) ≡ look_up is rest
  passed_over of key other [] thing n rest = refl
  passed_over {B} of key other (o ∷ os) thing n rest = go (of o) (λ n. passed_over of key other os thing n rest)
    where
      go : (x : Option B) → ((n : ℕ) → look_up is (addressed thing n (flat (λ o. one_if (key o) (of o)) os) ++ rest) ≡ look_up is rest) →
          look_up is (addressed thing n (one_if (key o) x ++ flat (λ o. one_if (key o) (of o)) os) ++ rest) ≡ look_up is rest
      go None again = again n
      go (Some b) again = rw (other o b) (again (suc n))

  no_other : (env : Environment) →
      look_up is (addressed TableAt 0 (flat (λ o. one_if (λ t. TableKey o.pair) o.table) env) ++
      (addressed MemoryAt 0 (flat (λ o. one_if (λ m. MemoryKey o.pair) o.memory) env) ++ addressed GlobalAt 0 (flat (λ o. one_if (λ g. GlobalKey o.pair) o.global) env))) ≡ None
  no_other env =
      passed_over (λ o. o.table) (λ o b. TableKey o.pair) (λ o b. refl) env TableAt 0 _ ∙ passed_over (λ o. o.memory) (λ o b. MemoryKey o.pair) (λ o b. refl) env MemoryAt 0 _
      ∙ ap (look_up is) (sym (append-nil (addressed GlobalAt 0 (flat (λ o. one_if (λ g. GlobalKey o.pair) o.global) env))))
      ∙ passed_over (λ o. o.global) (λ o b. GlobalKey o.pair) (λ o b. refl) env GlobalAt 0 []

  -- A function of the environment's own that the search finds, and its place.
  pub record FoundOwn (n : ℕ) (fs : List Func) (x : ExternalValue) : Type 0 where
    pub place : ℕ
    pub thing : x ≡ FuncAt (n + place)
    pub own : slice_get fs place ≡ Some (Own pair t)

  found : (n : ℕ) {keys : List OwnKey} {fs : List Func} (rest : Owned) → look_up is rest ≡ None → ListRel IsOwn keys fs → (x : ExternalValue) → look_up is (addressed FuncAt n keys ++ rest) ≡ Some x →
      FoundOwn n fs x
  found n rest none nil x e = absurd (let f = sym none ∙ e in cc)
  found n rest none (cons {a = key} {b = f} {xs = keys} {ys = fs} h hs) x e = go (is key) refl e (found (suc n) rest none hs x)
    where
      same : is (FuncKey h.0 h.1) ≡ true → Own h.0 h.1 ≡ Own pair t
      same q =
          let b = and_parts (same_pair pair h.0) (same_func_type t h.1) q in
          let c = and_parts (same_text pair.0 h.0.0) (same_text pair.1 h.0.1) b.0 in
          let first = text_is pair.0 h.0.0 c.0 in
          let second = text_is pair.1 h.0.1 c.1 in
          let p : h.0 ≡ pair = sym (ap₂ (λ x y. (x, y)) first second) in
          let equal = b.1 in
          let type : t ≡ h.1 = grind (arith, each_same_is same_type (λ a b e. grind arith)) in
          ap₂ Own p (sym type)

      go : (b : Bool) → is key ≡ b → cond b (Some (FuncAt n)) (look_up is (addressed FuncAt (suc n) keys ++ rest)) ≡ Some x →
          (look_up is (addressed FuncAt (suc n) keys ++ rest) ≡ Some x → FoundOwn (suc n) fs x) → FoundOwn n (f ∷ fs) x
      go true q e more =
          let i : FuncAt n ≡ x = cc in
          let z : n ≡ n + 0 = omega arith in
          record { place = 0; thing = sym i ∙ ap FuncAt z; own = ap Some (h.3 ∙ same (ap is (sym h.2) ∙ q)) }
      go false q e more =
          let r = more e in
          let z : suc n + r.place ≡ n + suc r.place = omega arith in
          record { place = suc r.place; thing = r.thing ∙ ap FuncAt z; own = r.own }

  pub own_found : (env : Environment) (x : ExternalValue) → owned_at (owned_of env) (FuncKey pair t) ≡ Some x → FoundOwn 0 (own_funcs env) x
  own_found env x e = found 0 _ (no_other env) (allocated_own env) x e
