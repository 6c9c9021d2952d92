-- The primary module of a split imports its placeholders after the imports of the module, in the
-- order of their slots.
use Rattle.base_lists.proofs.Common.{◌≡◌, ◌≢◌, ◌∙◌, ap, sym, subst, refl, ℕ, zero, suc, ◌+◌, ◌^◌, ◌<◌, ◌≤◌, List, [], ◌∷◌, ◌++◌, length, map, Some, None, Bool, true, false, cond, nat_eq, arith, true≢false, ⊎_elim, slice_get, slice_index, unwrap_or, option_and_then, decimal, pos, flat_map, bytes_eq}
use Rattle.base_lists.proofs.Common.{decimal_injective, slice_get_within, bytes_eq-Decides, cond_is, left_true, right_true, length-numbers, numbers_at, pigeons, slice_get_there, slice_index_is, and_from, cases_Bool, same_number}
use Rattle.base_lists.proofs.Same.{text_is, text_self}
use Rattle.base_lists.proofs.Every.{every_from}
use Rattle.std.proofs.Common.{eq-eqb}
use Rattle.base_lists.specs.Places.{first_place, numbers}
use Rattle.wasm_num.specs.Operations.{wrapped}
use Rattle.wasm_tree_spec.specs.Prelude.{FuncType, Import, Module, funcs_of, type_of_func}
use Rattle.wasm_tree.specs.declared.module.ImportDesc.TheVariants as im
use Rattle.wasm_meaning.specs.Prelude.{Pair, same_pair, same_text, pair_of, flat, LoaderWorld, placeholders_of, slot_of}
use Rattle.index_remap.specs.Prelude.{declared_refs}
use Rattle.world_simulation.specs.Prelude.{IsWithDeclared}
use Rattle.world_simulation.specs.DefinedPlaceholders.{ArePlaceholders, ImportsThemLast}
use Rattle.split_spec.specs.declared.names.SplitNames.{SplitNames}
use Rattle.split_spec.specs.Prelude.{placeholder_imports, type_index}
use Rattle.split_spec.specs.Primary.{primary_with}
use Rattle.split_proof.proofs.PrimarySpaces as spaces
use Rattle.split_proof.proofs.DescribedSpaces.{declared_keeps, type_there}
use Rattle.wasm_valid.specs.Prelude.{ItemsHold}
use Rattle.split_proof.specs.SplitWorlds.{placeholders_for, secondaries_for, split_world, type_in}
use Rattle.split_proof.specs.SplitLaws.{CanBeSplit}

-- ---- lists ----

-- A slot is a number of 32 bits.
pub slot_stays : (slot : ℕ) → slot < 2 ^ 32 → wrapped 32 (pos slot) ≡ slot
unfolding wrapped
slot_stays slot lt = grind (arith, lt)

-- Where the search for an element that passes a test finds none, each element fails it.
none_passes : {A : Type 0} (test : A → Bool) (xs : List A) (from : ℕ) → first_place test xs from ≡ None → (n : ℕ) (x : A) → slice_get xs n ≡ Some x → test x ≡ false
none_passes test [] from h n x at = cc
none_passes {A} test (y ∷ ys) from h n x at =
    ⊎_elim (λ e. let is : Some from ≡ None = e.1 in cc) (λ e. by n at e.0 (none_passes test ys (suc from) e.1)) (cond_is (test y) (Some from) (first_place test ys (suc from)) None h)
  where
    by : (n : ℕ) → slice_get (y ∷ ys) n ≡ Some x → test y ≡ false → ((n : ℕ) (x : A) → slice_get ys n ≡ Some x → test x ≡ false) → test x ≡ false
    by zero at e later = let same : y ≡ x = cc in ap test (sym same) ∙ e
    by (suc n) at e later = later n x at

-- ---- pairs ----

module _ (namespace : ℕ → List ℕ) where
  -- The two names of the placeholder of a slot.
  abbrev pair_at : ℕ → Pair
  pair_at slot = (namespace slot, decimal slot)

  pair_self : (t : ℕ) → same_pair (pair_at t) (pair_at t) ≡ true
  pair_self t = and_from (same_text (namespace t) (namespace t)) (same_text (decimal t) (decimal t)) (text_self (namespace t)) (text_self (decimal t))

  pair_apart : (s t : ℕ) → s < 2 ^ 64 → t < 2 ^ 64 → nat_eq t s ≡ false → same_pair (pair_at t) (pair_at s) ≡ false
  pair_apart s t a b e = ⊎_elim
      (λ h.
      let tails = text_is (decimal t) (decimal s) (right_true (same_text (namespace t) (namespace s)) _ h) in
      absurd (true≢false (sym (eq-eqb t s (decimal_injective t s b a tails)) ∙ e)))
      (λ h. h)
      (cases_Bool (same_pair (pair_at t) (pair_at s)))

  module _ (m : Module) where
    abbrev from_slot : ℕ → List ℕ → List (Pair × FuncType)
    from_slot = placeholders_for namespace m

    -- The placeholder of a slot is found by its names.
    slot_there : (s t : ℕ) (fs : List ℕ) → s ≤ t → t < s + length fs → s + length fs < 2 ^ 64 → first_place (λ p. same_pair (pair_at t) p.0) (from_slot s fs) s ≡ Some t
    slot_there s t [] from to few = absurd (omega (arith, from, to))
    slot_there s t (f ∷ fs) from to few =
        ⊎_elim
        (λ e. let same = same_number t s e in ap (λ b. cond b (Some s) (first_place (λ p. same_pair (pair_at t) p.0) (from_slot (suc s) fs) (suc s))) (subst (λ s. same_pair (pair_at t) (pair_at s) ≡ true) same (pair_self t)) ∙ ap Some (sym same))
        (λ e.
        let other : t ≢ s = (λ z. true≢false (sym (eq-eqb t s z) ∙ e)) in
        ap (λ b. cond b (Some s) (first_place (λ p. same_pair (pair_at t) p.0) (from_slot (suc s) fs) (suc s))) (pair_apart s t (omega (arith, few)) (omega (arith, few, to)) e)
        ∙ slot_there (suc s) t fs (omega (arith, from, other)) (omega (arith, to)) (omega (arith, few)))
        (cases_Bool (nat_eq t s))

    -- The names of another import are those of no placeholder.
    no_slot : (pair : Pair) (s : ℕ) (fs : List ℕ) → ((t : ℕ) → s ≤ t → t < s + length fs → same_pair pair (pair_at t) ≡ false) → first_place (λ p. same_pair pair p.0) (from_slot s fs) s ≡ None
    no_slot pair s [] h = refl
    no_slot pair s (f ∷ fs) h =
        ap (λ b. cond b (Some s) (first_place (λ p. same_pair pair p.0) (from_slot (suc s) fs) (suc s))) (h s (omega arith) (omega arith)) ∙ no_slot pair (suc s) fs (λ t from to. h t (omega (arith, from)) (omega (arith, to)))

    joined_slots : (s : ℕ) (xs ys : List ℕ) → from_slot s (xs ++ ys) ≡ from_slot s xs ++ from_slot (s + length xs) ys
    joined_slots s [] ys = let e : s ≡ s + 0 = omega arith in ap (λ n. from_slot n ys) e
    joined_slots s (x ∷ xs) ys = let e : suc s + length xs ≡ s + suc (length xs) = omega arith in ap (λ ps. (pair_at s, type_in m x) ∷ ps) (joined_slots (suc s) xs ys ∙ ap (λ n. from_slot (suc s) xs ++ from_slot n ys) e)

    -- The slots of all secondary modules together are those of all moved functions.
    pub all_slots : (names : SplitNames) (moved : List ℕ) (before : ℕ) (owns : List (List ℕ)) → flat (λ s. s.placeholders) (secondaries_for namespace names m moved before owns) ≡ from_slot before (flat_map (λ own. own) owns)
    all_slots names moved before [] = refl
    all_slots names moved before (own ∷ owns) =
        ap (λ ps. from_slot before own ++ ps) (all_slots names moved (before + length own) owns) ∙ sym (joined_slots before own (flat_map (λ own. own) owns))

-- ---- the split ----

module _ (namespace : ℕ → List ℕ) (names : SplitNames) (m : Module) (moved : List ℕ) (owns : List (List ℕ)) (g : CanBeSplit namespace names m moved owns) (holds : ItemsHold m) where
  abbrev w : LoaderWorld
  w = split_world namespace names m moved owns

  abbrev plain : Module
  plain = spaces.u namespace names.export_prefix m holds moved g.can_move

  pub same : IsWithDeclared plain w.primary (declared_refs plain)
  unfolding primary_with
  same = declared_keeps plain

  pub placeholders_are : placeholders_of w ≡ placeholders_for namespace m 0 moved
  placeholders_are = all_slots namespace m names moved 0 owns ∙ ap (placeholders_for namespace m 0) g.lists

  -- No function moves twice, so there are no more moved functions than functions.
  pub moved_few : length moved ≤ length (funcs_of m)
  moved_few =
      let all = numbers 0 (length (funcs_of m)) in
      let many = length-numbers 0 (length (funcs_of m)) in
      let fewer = pigeons (length moved) (slice_index moved) all differ (λ i lt. let z : 0 + slice_index moved i ≡ slice_index moved i = omega arith in (slice_index moved i, numbers_at 0 (length (funcs_of m)) (slice_index moved i) (there i lt) ∙ ap Some z)) in
      omega (arith, many, fewer)
    where
      at : (i : ℕ) → i < length moved → slice_get moved i ≡ Some (slice_index moved i)
      at i lt = let f = slice_get_there moved i lt in f.1 ∙ ap Some (sym (slice_index_is moved i f.0 f.1))

      differ : (i j : ℕ) → i < length moved → j < length moved → slice_index moved i ≡ slice_index moved j → i ≡ j
      differ i j a b e = g.once i j (slice_index moved i) (at i a) (at j b ∙ ap Some (sym e))

      there : (i : ℕ) → i < length moved → slice_index moved i < length (funcs_of m)
      there i lt = let h = spaces.moved_moves namespace names.export_prefix m holds moved g.can_move i (slice_index moved i) (at i lt) in slice_get_within (funcs_of m) (slice_index moved i) h.func.ty h.typed

  pub few : length moved < 2 ^ 64
  few = let a = moved_few in let b = g.bounded.funcs in omega (arith, a, b)

  -- The type of a moved function.
  pub moved_typed : (p f : ℕ) → slice_get moved p ≡ Some f → slice_get m.types (type_index m f) ≡ Some (type_in m f)
  moved_typed p f at =
      let h = spaces.moved_moves namespace names.export_prefix m holds moved g.can_move p f at in
      let t = slice_get_there m.types h.func.ty (type_there m holds f h.func.ty h.typed) in
      let is : type_of_func m f ≡ Some t.0 = ap (option_and_then (slice_get m.types)) h.typed ∙ t.1 in
      ap (slice_get m.types) (slice_index_is (funcs_of m) f h.func.ty h.typed) ∙ t.1 ∙ ap Some (sym (ap (λ o. unwrap_or o (record { params = []; results = [] })) is))

  slot_is : (t : ℕ) (i : Import) → t < length moved → pair_of i ≡ pair_at namespace t → slot_of w i ≡ Some t
  slot_is t i lt e =
      let f = few in
      ap (λ ps. first_place (λ p. same_pair (pair_of i) p.0) ps 0) placeholders_are ∙ ap (λ pair. first_place (λ p. same_pair pair p.0) (placeholders_for namespace m 0 moved) 0) e
      ∙ slot_there namespace m 0 t moved (omega arith) (omega (arith, lt)) (omega (arith, f))

  own_is : (n : ℕ) (i : Import) → slice_get m.imports n ≡ Some i → slot_of w i ≡ None
  own_is n i at = ap (λ ps. first_place (λ p. same_pair (pair_of i) p.0) ps 0) placeholders_are ∙ no_slot namespace m (pair_of i) 0 moved (λ t from to. apart t to)
    where
      apart : (t : ℕ) → t < 0 + length moved → same_pair (pair_of i) (pair_at namespace t) ≡ false
      apart t lt = ⊎_elim
          (λ h.
          let name = text_is i.«module» (namespace t) (left_true (same_text i.«module» (namespace t)) _ h) in
          let fails = none_passes (λ i. bytes_eq i.«module» (namespace t)) m.imports 0 (g.namespaces t (omega (arith, lt))) n i at in
          absurd (true≢false (sym ((bytes_eq-Decides i.«module» (namespace t)).1 name) ∙ fails)))
          (λ h. h)
          (cases_Bool (same_pair (pair_of i) (pair_at namespace t)))

  are_placeholders : (n : ℕ) (fs : List ℕ) → ((p f : ℕ) → slice_get fs p ≡ Some f → slice_get moved (n + p) ≡ Some f) → ArePlaceholders w n (placeholder_imports namespace m n fs) (placeholders_for namespace m n fs) (map (type_index m) fs)
  are_placeholders n [] h = tt
  are_placeholders n (f ∷ fs) h =
      let zeroth : n + 0 ≡ n = omega arith in
      let at : slice_get moved n ≡ Some f = ap (slice_get moved) (sym zeroth) ∙ h 0 f refl in (
        refl,
        slot_is n (record { «module» = namespace n; field = decimal n; desc = im.Func (type_index m f) }) (slice_get_within moved n f at) refl,
        ap (λ ts. slice_get ts (type_index m f)) same.types ∙ moved_typed n f at,
        are_placeholders (suc n) fs (λ p f at. let e : suc n + p ≡ n + suc p = omega arith in ap (slice_get moved) e ∙ h (suc p) f at),
      )

  pub imports_them_last : ImportsThemLast w m.imports (map (type_index m) moved)
  imports_them_last = record {
    slots = placeholder_imports namespace m 0 moved;
    all = same.imports ∙ spaces.imports_stay namespace names.export_prefix m holds moved g.can_move;
    own = every_from (λ i. slot_of w i ≡ None) m.imports own_is;
    placeholders = subst (λ ps. ArePlaceholders w 0 (placeholder_imports namespace m 0 moved) ps (map (type_index m) moved)) (sym placeholders_are) (are_placeholders 0 moved (λ p f at. let e : 0 + p ≡ p = omega arith in ap (slice_get moved) e ∙ at));
  }
