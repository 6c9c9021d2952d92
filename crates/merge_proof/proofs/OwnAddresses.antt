-- The environment's own entities have addresses of their kind, below the number of its entities of
-- that kind.
use Rattle.base_lists.proofs.Common.{◌≡◌, ◌∙◌, refl, sym, ap, ℕ, suc, ◌+◌, ◌<◌, List, [], ◌∷◌, ◌++◌, map, length, Option, Some, None, Bool, true, ◌⊎◌, inl, inr, arith, add-zero, zero-add, cases_Bool, same_Some, append_rel, self_rel, maps_rel, add_next}
use Rattle.wasm_tree_spec.specs.Prelude.{Space, Functions, Tables, Memories, Globals}
use Rattle.wasm_meaning.specs.Prelude.{Environment, Offer, OwnKey, FuncKey, TableKey, MemoryKey, GlobalKey, ExternalValue, FuncAt, TableAt, MemoryAt, GlobalAt, Owned, same_key, look_up, owned_at, owned_of, addressed, flat, one_if, own_funcs, own_tables, own_memories, own_globals, own_count}
use Rattle.wasm_meaning.specs.Prelude.{external_value_at}
use Rattle.run_simulation.specs.Prelude.{ListRel, nil, cons}

abbrev pub kind_of_key : OwnKey → Space
kind_of_key (FuncKey p t) = Functions
kind_of_key (TableKey p) = Tables
kind_of_key (MemoryKey p) = Memories
kind_of_key (GlobalKey p) = Globals

same_key_kind : (x y : OwnKey) → same_key x y ≡ true → kind_of_key x ≡ kind_of_key y
same_key_kind x y e = grind arith

-- The keys of one kind, one for each entity.
abbrev Keys : Space → {A : Type 0} → List OwnKey → List A → Type 0
Keys k = ListRel (λ key _. kind_of_key key ≡ k)

flat_keys : {A : Type 0} (k : Space) (f : Offer → List OwnKey) (g : Offer → List A) → ((o : Offer) → Keys k (f o) (g o)) → (os : List Offer) → Keys k (flat f os) (flat g os)
flat_keys k f g h [] = nil
flat_keys k f g h (o ∷ os) = append_rel (h o) (flat_keys k f g h os)

one_key : {A B : Type 0} (k : Space) (f : B → OwnKey) (g : B → A) → ((b : B) → kind_of_key (f b) ≡ k) → (o : Option B) → Keys k (one_if f o) (one_if g o)
one_key k f g h None = nil
one_key k f g h (Some b) = cons (h b) nil

look_either : (is : OwnKey → Bool) (xs ys : Owned) (x : ExternalValue) → look_up is (xs ++ ys) ≡ Some x → (look_up is xs ≡ Some x) ⊎ (look_up is ys ≡ Some x)
look_either is [] ys x e = inr e
look_either is (z ∷ zs) ys x e = grind (arith, look_either is zs ys x)

-- The external value that is found among keys of one kind, with its place.
record Found (key : OwnKey) (thing : ℕ → ExternalValue) (n : ℕ) (k : Space) (count : ℕ) (x : ExternalValue) : Type 0 where
  place : ℕ
  is : x ≡ thing (n + place)
  low : place < count
  kind : kind_of_key key ≡ k

look_addressed : {A : Type 0} (key : OwnKey) (thing : ℕ → ExternalValue) (k : Space) (n : ℕ) {keys : List OwnKey} {entities : List A} → Keys k keys entities → (x : ExternalValue) → look_up (same_key key) (addressed thing n keys) ≡ Some x → Found key thing n k (length entities) x
look_addressed key thing k n nil x e = cc
look_addressed key thing k n (cons {a = y} h hs) x e = elim (cases_Bool (same_key key y)) [
  | inl s ↦ record { place = 0; is = rw add-zero (sym (same_Some _ _ (rw s at e))); low = omega arith; kind = same_key_kind key y s ∙ h }
  | inr s ↦ let f = look_addressed key thing k (suc n) hs x (rw s at e) in record { place = suc f.place; is = rw (← add_next n f.place) at f.is; low = omega (arith, f.low); kind = f.kind }
]

-- The address of an entity of the environment's own.
pub record OwnAt (env : Environment) (key : OwnKey) (x : ExternalValue) : Type 0 where
  pub address : ℕ
  pub is : Some x ≡ external_value_at (kind_of_key key) address
  pub low : address < own_count (kind_of_key key) env

abbrev funcs : Environment → List OwnKey
funcs = flat (λ o. map (FuncKey o.pair) o.funcs)

abbrev tables : Environment → List OwnKey
tables = flat (λ o. one_if (λ t. TableKey o.pair) o.table)

abbrev memories : Environment → List OwnKey
memories = flat (λ o. one_if (λ m. MemoryKey o.pair) o.memory)

abbrev globals : Environment → List OwnKey
globals = flat (λ o. one_if (λ g. GlobalKey o.pair) o.global)

module _ (env : Environment) (key : OwnKey) (x : ExternalValue) where
  own_found : {A : Type 0} (k : Space) (thing : ℕ → ExternalValue) → ((n : ℕ) → external_value_at k n ≡ Some (thing n)) → (keys : List OwnKey) (entities : List A) → Keys k keys entities → length entities ≡ own_count k env → look_up (same_key key) (addressed thing 0 keys) ≡ Some x → OwnAt env key x
  own_found k thing same keys entities alike many h =
      let f = look_addressed key thing k 0 alike x h in
      record { address = f.place; is = rw (f.kind, same f.place) (ap Some (rw zero-add at f.is)); low = rw (f.kind, ← many) f.low }

  pub own_at : owned_at (owned_of env) key ≡ Some x → OwnAt env key x
  own_at e = elim (look_either (same_key key) (addressed FuncAt 0 (funcs env)) (addressed TableAt 0 (tables env) ++ (addressed MemoryAt 0 (memories env) ++ addressed GlobalAt 0 (globals env))) x e) [
    | inl h ↦ own_found Functions FuncAt (λ n. refl) (funcs env) (own_funcs env) (flat_keys _ _ _ (λ o. maps_rel _ _ (self_rel o.funcs (λ _. refl))) env) refl h
    | inr h ↦ elim (look_either (same_key key) (addressed TableAt 0 (tables env)) (addressed MemoryAt 0 (memories env) ++ addressed GlobalAt 0 (globals env)) x h) [
      | inl h ↦ own_found Tables TableAt (λ n. refl) (tables env) (own_tables env) (flat_keys _ _ _ (λ o. one_key _ _ _ (λ _. refl) o.table) env) refl h
      | inr h ↦ elim (look_either (same_key key) (addressed MemoryAt 0 (memories env)) (addressed GlobalAt 0 (globals env)) x h) [
        | inl h ↦ own_found Memories MemoryAt (λ n. refl) (memories env) (own_memories env) (flat_keys _ _ _ (λ o. one_key _ _ _ (λ _. refl) o.memory) env) refl h
        | inr h ↦ own_found Globals GlobalAt (λ n. refl) (globals env) (own_globals env) (flat_keys _ _ _ (λ o. one_key _ _ _ (λ _. refl) o.global) env) refl h
      ]
    ]
  ]
