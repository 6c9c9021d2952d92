-- Stores that are related off a set of unknown places.
use Rattle.base_lists.proofs.Common.{◌≡◌, ◌∙◌, refl, sym, ap, subst, ℕ, List, [], ◌∷◌, Some, Bool, true, false, cond, not, ◌⊎◌, inl, inr, slice_get, nat_eq, ◌||◌, filter, eqb_tells, both_map}
use Rattle.base_lists.specs.Members.{is_among}
use Rattle.wasm_tree_spec.specs.Prelude.{Tables, Memories, Globals, ElementSegments, DataSegments}
use Rattle.wasm_meaning.specs.Prelude.{Outcome, Gives, Traps, IllTyped, Inst, Table, Global, Elem, Store, Entry, Running, Mark, Opening, Waiting, Ended, Growing, Change, Keep, SetGlobal, SetMemory, SetTable, DropElem, DropData, Act, Goes, Calls, AsksGrow, Ends, act, changed, no_items, no_bytes}
use Rattle.run_simulation.specs.Prelude.{Pairing, OneToOneWhereWritten, BothRel, both, nil, TableRel, GlobalRel, StoreRel, ChangeRel, keep, set_global, set_memory, set_table}
use Rattle.run_simulation.specs.Prelude.{drop_elem, drop_data, ActRel, goes, calls, asks_grow, ends, passed, Unknowns, none_unknown, is_place_among, GlobalOff, RefsOff}
use Rattle.run_simulation.specs.Prelude.{TableOff, StoreRelOff, ReadPlace, ReadsNothing, ReadsGlobal, ReadsSlots, ReadsItems, IsKnown, left_by, left_after, left_unknown, known, ActOff}
use Rattle.run_simulation.specs.UnknownPlaces.{learnt, NothingUnknown, SetGlobalsAreKnown, ChangeOff, off_slots}
use Rattle.run_simulation.proofs.RelatedOutcomes.{write_each, write_rel}
use Rattle.run_simulation.proofs.UnknownReferences.{refs_off, refs_related}

-- ---- nothing is unknown ----

module _ (R : Pairing) where
  pub to_related : (s t : Store) → StoreRelOff R none_unknown s t → StoreRel R s t
  to_related s t r = record {
    types = r.types;
    owns = r.owns;
    funcs = r.funcs;
    tables = λ n. both_map (λ t u x. record { type = x.type; most = x.most; slots = refs_related R t.slots u.slots x.slots }) (r.tables n);
    mems = r.mems;
    globals = λ n. both_map (λ g h x. record { type = x.type; value = x.value refl }) (r.globals n);
    elems = λ n. both_map (λ e f x. record { items = refs_related R e.items f.items x }) (r.elems n);
    datas = r.datas;
  }

  pub to_off : (s t : Store) → StoreRel R s t → StoreRelOff R none_unknown s t
  to_off s t r = record {
    types = r.types;
    owns = r.owns;
    funcs = r.funcs;
    tables = λ n. both_map (λ t u x. record { type = x.type; most = x.most; slots = refs_off R _ t.slots u.slots x.slots }) (r.tables n);
    mems = r.mems;
    globals = λ n. both_map (λ g h x. record { type = x.type; value = λ _. x.value }) (r.globals n);
    elems = λ n. both_map (λ e f x. refs_off R _ e.items f.items x.items) (r.elems n);
    datas = r.datas;
  }

pub nothing_unknown : NothingUnknown
nothing_unknown of named l s t = (to_related (passed of named l) s t, to_off (passed of named l) s t)

-- ---- a global is set ----

abbrev without : List ℕ → ℕ → List ℕ
without xs a = filter (λ b. not (nat_eq b a)) xs

-- Taking one number off a list leaves whether another is in it.
still_among : (xs : List ℕ) (a c : ℕ) → (a ≡ c → ⊥) → is_among (without xs a) c ≡ is_among xs c
still_among [] a c n = refl
still_among (x ∷ xs) a c n = go (eqb_tells x a) (still_among xs a c n)
  where
    tests : (b : Bool) → is_among (cond (not b) (x ∷ without xs a) (without xs a)) c ≡ cond b (is_among (without xs a) c) (nat_eq c x || is_among (without xs a) c)
    tests true = refl
    tests false = refl

    other : (x ≡ a) → nat_eq c x ≡ false
    other e = by (eqb_tells c x)
      where
        by : ((nat_eq c x ≡ true) × (c ≡ x)) ⊎ ((nat_eq c x ≡ false) × (c ≡ x → ⊥)) → nat_eq c x ≡ false
        by (inl h) = absurd (n (sym (h.1 ∙ e)))
        by (inr h) = h.0

    go : ((nat_eq x a ≡ true) × (x ≡ a)) ⊎ ((nat_eq x a ≡ false) × (x ≡ a → ⊥)) → is_among (without xs a) c ≡ is_among xs c → is_among (without (x ∷ xs) a) c ≡ is_among (x ∷ xs) c
    go (inl h) more = tests (nat_eq x a) ∙ ap (λ b. cond b (is_among (without xs a) c) (nat_eq c x || is_among (without xs a) c)) h.0 ∙ more ∙ ap (λ b. b || is_among xs c) (sym (other h.1))
    go (inr h) more = tests (nat_eq x a) ∙ ap (λ b. cond b (is_among (without xs a) c) (nat_eq c x || is_among (without xs a) c)) h.0 ∙ ap (λ y. nat_eq c x || y) more

-- Stores that are related off unknown places stay so after related changes, which may make a place
-- known.
module _ (R : Pairing) (apart : OneToOneWhereWritten R) (u : Unknowns) where
  abbrev GlobalsOff : List ℕ → ℕ → Global → Global → Type 0
  GlobalsOff xs c = GlobalOff R (not (is_among xs c))

  global_set : (s t : Store) (a b : ℕ) (g h : Global) → StoreRelOff R u s t → R.of Globals a b → GlobalRel R g h → StoreRelOff R (learnt u a) (changed s (SetGlobal a g)) (changed t (SetGlobal b h))
  global_set s t a b g h r n q = record {
    types = r.types;
    owns = r.owns;
    funcs = r.funcs;
    tables = r.tables;
    mems = r.mems;
    elems = r.elems;
    datas = r.datas;
    globals = write_each R apart Globals refl (GlobalsOff u.globals) (GlobalsOff (without u.globals a)) s.globals t.globals g h n (λ c d m. r.globals m)
        (λ c x y e. subst (λ k. GlobalOff R (not k) x y) (sym (still_among u.globals a c e))) (record { type = q.type; value = λ _. q.value }) _ _;
  }

  table_set : (s t : Store) (a b : ℕ) (x y : Table) → StoreRelOff R u s t → R.of Tables a b → TableOff R (λ n. not (is_place_among u.slots a n)) x y → StoreRelOff R u (changed s (SetTable a x)) (changed t (SetTable b y))
  table_set s t a b x y r n q = record {
    types = r.types;
    owns = r.owns;
    funcs = r.funcs;
    mems = r.mems;
    globals = r.globals;
    elems = r.elems;
    datas = r.datas;
    tables = let P : ℕ → Table → Table → Type 0 = λ c. TableOff R (λ n. not (is_place_among u.slots c n)) in write_each R apart Tables refl P P s.tables t.tables x y n (λ c d m. r.tables m) (λ _ _ _ _ q. q) q _ _;
  }

  known_change : {s t : Store} {c d : Change} → StoreRelOff R u s t → ChangeRel R c d → StoreRelOff R (left_by u c) (changed s c) (changed t d)
  known_change r keep = r
  known_change {s} {t} r (set_global {a = a} {b = b} {g = g} {h = h} n q) = global_set s t a b g h r n q
  known_change {s} {t} r (set_table {a = a} {b = b} {t = x} {u = y} n q) = table_set s t a b x y r n (record { type = q.type; most = q.most; slots = refs_off R _ x.slots y.slots q.slots })
  known_change {s} {t} r (set_memory {m = m} n) = record {
    types = r.types;
    owns = r.owns;
    funcs = r.funcs;
    tables = r.tables;
    globals = r.globals;
    elems = r.elems;
    datas = r.datas;
    mems = write_rel R apart Memories refl (λ m n. m ≡ n) s.mems t.mems m m n (λ c d q. r.mems q) refl _ _;
  }
  known_change {s} {t} r (drop_elem n) = record {
    types = r.types;
    owns = r.owns;
    funcs = r.funcs;
    tables = r.tables;
    mems = r.mems;
    globals = r.globals;
    datas = r.datas;
    elems = let P : ℕ → Elem → Elem → Type 0 = λ c e f. RefsOff R (λ n. not (is_place_among u.items c n)) e.items f.items in
        write_each R apart ElementSegments refl P P s.elems t.elems no_items no_items n (λ c d m. r.elems m) (λ _ _ _ _ q. q) (refs_off R _ [] [] nil) _ _;
  }
  known_change {s} {t} r (drop_data n) = record {
    types = r.types;
    owns = r.owns;
    funcs = r.funcs;
    tables = r.tables;
    mems = r.mems;
    globals = r.globals;
    elems = r.elems;
    datas = write_rel R apart DataSegments refl (λ d e. d.bytes ≡ e.bytes) s.datas t.datas no_bytes no_bytes n (λ c d q. r.datas q) refl _ _;
  }

  pub changed_off : {s t : Store} {c d : Change} → StoreRelOff R u s t → ChangeOff R u c d → StoreRelOff R (left_by u c) (changed s c) (changed t d)
  changed_off r (known c) = known_change r c
  changed_off {s} {t} r (off_slots {a = a} {b = b} {t = x} {v = y} n q) = table_set s t a b x y r n q

  -- Globals at related addresses have the same type.
  same_type : {s t : Store} {a b : ℕ} {g h : Global} → StoreRelOff R u s t → R.of Globals a b → slice_get s.globals a ≡ Some g → slice_get t.globals b ≡ Some h → g.ty ≡ h.ty
  same_type {t = t} {a = a} {b = b} {g = g} {h = h} r n at_g at_h = go (subst (BothRel (GlobalsOff u.globals a) (Some g)) at_h (subst (λ o. BothRel (GlobalsOff u.globals a) o (slice_get t.globals b)) at_g (r.globals n)))
    where
      go : BothRel (GlobalsOff u.globals a) (Some g) (Some h) → g.ty ≡ h.ty
      go (both y) = y.type

pub set_globals_are_known : SetGlobalsAreKnown
set_globals_are_known of named l apart u s t a b g h v w r n at_g at_h values =
    let R = passed of named l in
    global_set R apart u s t a b (record g { value = v }) (record h { value = w }) r n (record { type = same_type R apart u r n at_g at_h; value = values })

-- ---- nothing is unknown ----

pub all_is_known : (r : ReadPlace) → IsKnown none_unknown r
all_is_known ReadsNothing = tt
all_is_known (ReadsGlobal a) = refl
all_is_known (ReadsSlots a place count) = λ _ _ _. refl
all_is_known (ReadsItems a place count) = λ _ _ _. refl

pub none_left_by : (c : Change) → left_by none_unknown c ≡ none_unknown
none_left_by Keep = refl
none_left_by (SetGlobal a g) = refl
none_left_by (SetMemory a m) = refl
none_left_by (SetTable a t) = refl
none_left_by (DropElem a) = refl
none_left_by (DropData a) = refl

none_left_after : (o : Outcome Act) → left_after none_unknown o ≡ none_unknown
none_left_after Traps = refl
none_left_after IllTyped = refl
none_left_after (Gives (Goes c h)) = none_left_by c
none_left_after (Gives (Calls a vs h)) = refl
none_left_after (Gives (AsksGrow g m n h)) = refl
none_left_after (Gives (Ends vs)) = refl

pub none_is_left : (s : Store) (es : List Entry) → left_unknown none_unknown s es ≡ none_unknown
none_is_left s [] = refl
none_is_left s (Running f ∷ es) = none_left_after (act s f)
none_is_left s (Mark ∷ es) = refl
none_is_left s (Opening xs ∷ es) = refl
none_is_left s (Waiting ts ∷ es) = refl
none_is_left s (Ended vs ∷ es) = refl
none_is_left s (Growing g ∷ es) = refl

module _ (R : Pairing) where
  table_known : {t u : Table} → TableOff R (λ n. true) t u → TableRel R t u
  table_known {t} {u} q = record { type = q.type; most = q.most; slots = refs_related R t.slots u.slots q.slots }

  pub change_known : {c d : Change} → ChangeOff R none_unknown c d → ChangeRel R c d
  change_known (known c) = c
  change_known (off_slots n q) = set_table n (table_known q)

  pub act_known : {i j : Inst} {x y : Act} → ActOff R none_unknown i j x y → ActRel R i j x y
  act_known (goes c r) = goes (change_known c) r
  act_known (calls n v r) = calls n v r
  act_known (asks_grow g r) = asks_grow g r
  act_known (ends v) = ends v
