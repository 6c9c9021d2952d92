-- Each export of the primary module is valid: its index is in its index space, and no export before
-- it has its name.
use Rattle.base_lists.proofs.Common.{◌≡◌, ◌∙◌, ap, ap₂, sym, subst, refl, ℕ, zero, suc, ◌+◌, ◌^◌, ◌<◌, ◌≤◌, List, [], ◌∷◌, ◌++◌, map, take, length, Bool, true, false, Some, None, ⊎_elim, slice_get, slice_index, arith, true≢false, Contains, list_any, bytes_eq, length-map, length-append, map-append}
use Rattle.base_lists.proofs.Common.{take-map, slice_get_within, bytes_eq-Decides, cond_is, has_chosen, length-numbers, numbers_index, append_from, map_at, map_from, map_twice, slice_get_there, any_from_place, there_contains, among_right, there_among}
use Rattle.base_lists.proofs.Each.{contains_there}
use Rattle.base_lists.specs.Members.{is_among}
use Rattle.base_lists.specs.Places.{numbers}
use Rattle.wasm_tree_spec.specs.Prelude.{Space, Functions, Tables, Memories, Globals, Export, ExportDesc, Module, IsBounded, funcs_of, globals_of, memories_of, tables_of}
use Rattle.wasm_tree.specs.declared.module.ExportDesc.TheVariants as ex
use Rattle.wasm_tree.specs.declared.module.ImportDesc.TheVariants as im
use Rattle.wasm_valid.specs.declared.kinds.ItemKind.TheVariants as kind
use Rattle.wasm_valid.specs.Prelude.{elem_refs, export_func, export_refs, global_refs, HoldsAt, InSpace, ItemsHold}
use Rattle.index_remap.specs.declared.remap.Remap.{Remap}
use Rattle.index_remap.specs.Prelude.{new_export, new_export_desc}
use Rattle.index_remap_proof.specs.Trees.{TreesAgree}
use Rattle.split_spec.specs.Prelude.{defined_at, slot_table, entities, exports_for_secondary, from_primary, is_from_primary, marks_from_primary, name_from_primary, slots_name, added_exports, is_left, prefix_taken}
use Rattle.split_spec.specs.FaultOrder.{name_taken}
use Rattle.split_proof.specs.Premises.{CanMove}
use Rattle.split_proof.proofs.AddedExportNames.{Distinct, HasLetter, distinct_append, letters_apart, named, named_distinct, named_letter}
use Rattle.split_proof.proofs.PrimarySpaces as spaces
use Rattle.split_proof.proofs.SharedFunctions.{shared_left, shared_within}

-- No export has one of the names where none of these is taken.
none_taken : (m : Module) (names : List (List ℕ)) → name_taken m names ≡ None → (i j : ℕ) (x : List ℕ) → slice_get names i ≡ Some x → slice_get (map (λ e. e.name) m.exports) j ≡ Some x → ⊥
none_taken m [] h i j x a b = cc
none_taken m (n ∷ ns) h i j x a b = ⊎_elim (λ e. let is : Some n ≡ None = e.1 in cc) (λ e. later (λ i a g. none_taken m ns g i j x a b) i a e) (cond_is (list_any (λ e. bytes_eq e.name n) m.exports) (Some n) (name_taken m ns) None h)
  where
    later : ((i : ℕ) → slice_get ns i ≡ Some x → name_taken m ns ≡ None → ⊥) → (i : ℕ) → slice_get (n ∷ ns) i ≡ Some x → (list_any (λ e. bytes_eq e.name n) m.exports ≡ false) × (name_taken m ns ≡ None) → ⊥
    later on zero a e =
        let same : n ≡ x = cc in
        let y = map_from (λ e. e.name) m.exports j x b in
        let equal : bytes_eq y.0.name n ≡ true = (bytes_eq-Decides y.0.name n).1 (y.2 ∙ sym same) in
        true≢false (sym (any_from_place (λ e. bytes_eq e.name n) m.exports j y.0 y.1 equal) ∙ e.0)
    later on (suc i) a e = on i a e.1

module _ (namespace : ℕ → List ℕ) (prefix : List ℕ) (m : Module) (holds : ItemsHold m) (moved : List ℕ) (can : CanMove m moved) (few : IsBounded m) where
  abbrev map_of : Remap
  map_of = spaces.r namespace prefix m holds moved can

  abbrev new : Module
  new = spaces.u namespace prefix m holds moved can

  abbrev agree : TreesAgree map_of (spaces.stays namespace prefix m holds moved can) m new
  agree = spaces.agree namespace prefix m holds moved can

  -- ---- names ----

  abbrev marks : Space → List Bool
  marks space = marks_from_primary m moved moved space

  marks_many : (space : Space) → length (marks space) ≡ length (entities m space)
  marks_many space = length-map (numbers 0 (length (entities m space))) (is_from_primary moved (defined_at m moved) space) ∙ length-numbers 0 (length (entities m space))

  few_funcs : length (marks Functions) < 2 ^ 64
  few_funcs = let a = marks_many Functions in let b = length-map (funcs_of m) im.Func in let c = few.funcs in omega (arith, a, b, c)

  few_tables : length (marks Tables) < 2 ^ 64
  few_tables = let a = marks_many Tables in let b = length-map (tables_of m) im.Table in let c = few.tables in omega (arith, a, b, c)

  few_memories : length (marks Memories) < 2 ^ 64
  few_memories = let a = marks_many Memories in let b = length-map (memories_of m) im.Memory in let c = few.memories in omega (arith, a, b, c)

  few_globals : length (marks Globals) < 2 ^ 64
  few_globals = let a = marks_many Globals in let b = length-map (globals_of m) im.Global in let c = few.globals in omega (arith, a, b, c)

  abbrev fs : List (List ℕ)
  fs = named prefix 102 (marks Functions) few_funcs

  abbrev ts : List (List ℕ)
  ts = named prefix 116 (marks Tables) few_tables

  abbrev ms : List (List ℕ)
  ms = named prefix 109 (marks Memories) few_memories

  abbrev gs : List (List ℕ)
  gs = named prefix 103 (marks Globals) few_globals

  abbrev last : List (List ℕ)
  last = slots_name prefix ∷ []

  abbrev all : List (List ℕ)
  all = fs ++ (ts ++ (ms ++ (gs ++ last)))

  names_are : map (λ e. e.name) (added_exports prefix m moved) ≡ all
  names_are =
      map-append (λ e. e.name) _ _
      ∙ ap₂ (λ xs ys. xs ++ ys) (map_twice (λ e. e.name) _ (from_primary m moved moved Functions)) (
      map-append (λ e. e.name) _ _
      ∙ ap₂ (λ xs ys. xs ++ ys) (map_twice (λ e. e.name) _ (from_primary m moved moved Tables)) (
      map-append (λ e. e.name) _ _
      ∙ ap₂ (λ xs ys. xs ++ ys) (map_twice (λ e. e.name) _ (from_primary m moved moved Memories)) (
      map-append (λ e. e.name) _ _ ∙ ap (λ xs. xs ++ last) (map_twice (λ e. e.name) _ (from_primary m moved moved Globals)))))

  last_letter : (i : ℕ) (x : List ℕ) → slice_get last i ≡ Some x → HasLetter prefix 115 x
  last_letter zero x h = let same : slots_name prefix ≡ x = cc in (_, sym same)
  last_letter (suc i) x h = absurd (let e = h in cc)

  last_distinct : Distinct last
  last_distinct i zero x lt a b = omega (arith, lt)
  last_distinct i (suc j) x lt a b = cc

  abbrev Letters : List ℕ → List (List ℕ) → Type 0
  Letters letters xs = (i : ℕ) (x : List ℕ) → slice_get xs i ≡ Some x → (a : ℕ) × (is_among letters a ≡ true) × HasLetter prefix a x

  more_letters : (letter : ℕ) (letters : List ℕ) (xs ys : List (List ℕ)) → ((i : ℕ) (x : List ℕ) → slice_get xs i ≡ Some x → HasLetter prefix letter x) → Letters letters ys → Letters (letter ∷ letters) (xs ++ ys)
  more_letters letter letters xs ys h k i x at =
      ⊎_elim (λ e. (letter, there_among (letter ∷ letters) 0 letter refl, h i x e)) (λ e. let r = k e.0 x e.2 in (r.0, among_right (letter ∷ []) letters r.0 r.1, r.2)) (append_from xs ys i x at)

  -- Names with a letter that none of the others has are distinct from these.
  block : (letter : ℕ) (letters : List ℕ) (xs ys : List (List ℕ)) → is_among letters letter ≡ false → ((i : ℕ) (x : List ℕ) → slice_get xs i ≡ Some x → HasLetter prefix letter x) → Letters letters ys → Distinct xs → Distinct ys → Distinct (xs ++ ys)
  block letter letters xs ys other h k dx dy =
      distinct_append xs ys dx dy (λ i j x a b.
      let r = k j x b in
      let same : letter ≡ r.0 = letters_apart prefix x letter r.0 (h i x a) r.2 in
      true≢false (sym r.1 ∙ ap (is_among letters) (sym same) ∙ other))

  slots_letters : Letters (115 ∷ []) last
  slots_letters i x at = (115, refl, last_letter i x at)

  globals_letters : Letters (103 ∷ 115 ∷ []) (gs ++ last)
  globals_letters = more_letters 103 (115 ∷ []) gs last (named_letter prefix 103 (marks Globals) few_globals) slots_letters

  memories_letters : Letters (109 ∷ 103 ∷ 115 ∷ []) (ms ++ (gs ++ last))
  memories_letters = more_letters 109 (103 ∷ 115 ∷ []) ms (gs ++ last) (named_letter prefix 109 (marks Memories) few_memories) globals_letters

  tables_letters : Letters (116 ∷ 109 ∷ 103 ∷ 115 ∷ []) (ts ++ (ms ++ (gs ++ last)))
  tables_letters = more_letters 116 (109 ∷ 103 ∷ 115 ∷ []) ts (ms ++ (gs ++ last)) (named_letter prefix 116 (marks Tables) few_tables) memories_letters

  all_distinct : Distinct all
  all_distinct =
      block 102 (116 ∷ 109 ∷ 103 ∷ 115 ∷ []) fs (ts ++ (ms ++ (gs ++ last))) refl (named_letter prefix 102 (marks Functions) few_funcs) tables_letters (named_distinct prefix 102 (marks Functions) few_funcs)
      (block 116 (109 ∷ 103 ∷ 115 ∷ []) ts (ms ++ (gs ++ last)) refl (named_letter prefix 116 (marks Tables) few_tables) memories_letters (named_distinct prefix 116 (marks Tables) few_tables)
      (block 109 (103 ∷ 115 ∷ []) ms (gs ++ last) refl (named_letter prefix 109 (marks Memories) few_memories) globals_letters (named_distinct prefix 109 (marks Memories) few_memories)
      (block 103 (115 ∷ []) gs last refl (named_letter prefix 103 (marks Globals) few_globals) slots_letters (named_distinct prefix 103 (marks Globals) few_globals) last_distinct)))

  -- ---- none is there twice ----

  take_there : (names : List (List ℕ)) (j : ℕ) (x : List ℕ) → Contains (take j names) x → (i : ℕ) × (i < j) × (slice_get names i ≡ Some x)
  take_there names j x h = let p = contains_there (take j names) x h in from names j p.0 p.1
    where
      from : (names : List (List ℕ)) (j p : ℕ) → slice_get (take j names) p ≡ Some x → (i : ℕ) × (i < j) × (slice_get names i ≡ Some x)
      from names zero p e = absurd (let z = e in cc)
      from [] (suc j) p e = absurd (let z = e in cc)
      from (n ∷ ns) (suc j) zero e = (0, omega arith, e)
      from (n ∷ ns) (suc j) (suc p) e = let r = from ns j p e in let lt = r.1 in (suc r.0, omega (arith, lt), r.2)

  there_take : (names : List (List ℕ)) (j i : ℕ) (x : List ℕ) → i < j → slice_get names i ≡ Some x → Contains (take j names) x
  there_take names j i x lt at = let p = to names j i lt at in there_contains (take j names) p.0 x p.1
    where
      to : (names : List (List ℕ)) (j i : ℕ) → i < j → slice_get names i ≡ Some x → (p : ℕ) × (slice_get (take j names) p ≡ Some x)
      to names zero i lt e = absurd (omega (arith, lt))
      to [] (suc j) i lt e = absurd (let z = e in cc)
      to (n ∷ ns) (suc j) zero lt e = (0, e)
      to (n ∷ ns) (suc j) (suc i) lt e = let r = to ns j i (omega (arith, lt)) e in (suc r.0, r.1)

  old_distinct : Distinct (map (λ e. e.name) m.exports)
  old_distinct i j x lt a b =
      let e = map_from (λ e. e.name) m.exports j x b in
      let h = holds kind.Export j (slice_get_within m.exports j e.0 e.1) in
      let both : Some h.0 ≡ Some e.0 = sym h.1 ∙ e.1 in
      let same : h.0 ≡ e.0 = cc in
      let is : h.0.name ≡ x = ap (λ (z : Export). z.name) same ∙ e.2 in
      h.3 (subst (λ ns. Contains ns h.0.name) (take-map (λ e. e.name) j m.exports) (there_take (map (λ e. e.name) m.exports) j i h.0.name lt (a ∙ ap Some (sym is))))

  -- ---- in their spaces ----

  export_left : (j : ℕ) (e : Export) → slice_get m.exports j ≡ Some e → ((f : ℕ) → is_among (elem_refs m.elems ++ (global_refs m.globals ++ export_refs m.exports)) f ≡ true → is_left m moved f ≡ true) → (f : ℕ) → export_func e.desc ≡ Some f → is_left m moved f ≡ true
  export_left j e at left f is =
      let c = has_chosen (λ e. export_func e.desc) m.exports j e f at is in
      left f (among_right (elem_refs m.elems) (global_refs m.globals ++ export_refs m.exports) f (among_right (global_refs m.globals) (export_refs m.exports) f (there_among (export_refs m.exports) c.0 f c.1)))

  table_within : (i : ℕ) → i ≤ length (tables_of m) → slice_index map_of.tables i < length (tables_of new)
  table_within i le =
      let entry : slice_index map_of.tables i ≡ i = numbers_index (suc (length (tables_of m))) i (omega (arith, le)) in
      let many : length (tables_of new) ≡ length (tables_of m) + 1 = ap length (spaces.tables_are namespace prefix m holds moved can) ∙ length-append (tables_of m) _ in
      omega (arith, entry, many, le)

  desc_kept : (d : ExportDesc) → ((f : ℕ) → export_func d ≡ Some f → is_left m moved f ≡ true) → InSpace m d → InSpace new (new_export_desc map_of d)
  desc_kept (ex.Func f) left h = agree.func_space f (left f refl) h
  desc_kept (ex.Table i) left h = let lt : i < length (tables_of m) = h in table_within i (omega (arith, lt))
  desc_kept (ex.Memory i) left h = agree.memories i refl h
  desc_kept (ex.Global i) left h =
      let entry : slice_index map_of.globals i ≡ i = numbers_index (length (globals_of m)) i h in
      subst (λ n. n < length (globals_of new)) (sym entry) (subst (λ gs. i < length gs) (sym (spaces.globals_are namespace prefix m holds moved can)) h)

  -- ---- those that are added ----

  abbrev Within : List Export → Type 0
  Within xs = (n : ℕ) (e : Export) → slice_get xs n ≡ Some e → InSpace new (new_export_desc map_of e.desc)

  both_within : (xs ys : List Export) → Within xs → Within ys → Within (xs ++ ys)
  both_within xs ys h k n e at = ⊎_elim (λ z. h n e z) (λ z. k z.0 e z.2) (append_from xs ys n e at)

  space_within : (space : Space) (desc : ℕ → ExportDesc) → ((i : ℕ) → i < length (entities m space) → is_from_primary moved (defined_at m moved) space i ≡ true → InSpace new (new_export_desc map_of (desc i))) →
      Within (exports_for_secondary prefix space desc (from_primary m moved moved space))
  space_within space desc each n e at =
      let i = map_from (λ i. record { name = name_from_primary prefix space i; desc = desc i }) (from_primary m moved moved space) n e at in
      let s = shared_within m moved moved space n i.0 i.1 in
      subst (λ (x : Export). InSpace new (new_export_desc map_of x.desc)) i.2 (each i.0 s.0 s.1)

  last_within : Within (record { name = slots_name prefix; desc = ex.Table (slot_table m) } ∷ [])
  last_within zero e at =
      let same : record { name = slots_name prefix; desc = ex.Table (slot_table m) } ≡ e = cc in
      subst (λ (x : Export). InSpace new (new_export_desc map_of x.desc)) same (table_within (slot_table m) (omega arith))
  last_within (suc n) e at = absurd (let z = at in cc)

  added_within : Within (added_exports prefix m moved)
  added_within =
      both_within _ _ (space_within Functions ex.Func (λ i lt h. agree.func_space i (shared_left m moved i h) (let many = length-map (funcs_of m) im.Func in omega (arith, lt, many))))
      (both_within _ _ (space_within Tables ex.Table (λ i lt h. table_within i (let many = length-map (tables_of m) im.Table in omega (arith, lt, many))))
      (both_within _ _ (space_within Memories ex.Memory (λ i lt h. agree.memories i refl (let many = length-map (memories_of m) im.Memory in omega (arith, lt, many))))
      (both_within _ _ (space_within Globals ex.Global (λ i lt h. desc_kept (ex.Global i) (λ f is. absurd (let z = is in cc)) (let many = length-map (globals_of m) im.Global in omega (arith, lt, many)))) last_within)))

  -- ---- all exports ----

  abbrev name_of : Export → List ℕ
  name_of e = e.name

  module _ (free : prefix_taken prefix m moved ≡ None) (left : (f : ℕ) → is_among (elem_refs m.elems ++ (global_refs m.globals ++ export_refs m.exports)) f ≡ true → is_left m moved f ≡ true) where
    whole_distinct : Distinct (map name_of m.exports ++ map name_of (added_exports prefix m moved))
    whole_distinct =
        distinct_append (map name_of m.exports) (map name_of (added_exports prefix m moved)) old_distinct (subst Distinct (sym names_are) all_distinct)
        (λ i j x a b. none_taken m (map name_of (added_exports prefix m moved)) free j i x b a)

    new_names : map name_of new.exports ≡ map name_of m.exports ++ map name_of (added_exports prefix m moved)
    new_names = map_twice name_of (new_export map_of) (m.exports ++ added_exports prefix m moved) ∙ map-append name_of m.exports (added_exports prefix m moved)

    each_within : Within (m.exports ++ added_exports prefix m moved)
    each_within = both_within m.exports (added_exports prefix m moved) old_within added_within
      where
        old_within : Within m.exports
        old_within n e at =
            let h = holds kind.Export n (slice_get_within m.exports n e at) in
            let both : Some h.0 ≡ Some e = sym h.1 ∙ at in
            let same : h.0 ≡ e = cc in
            desc_kept e.desc (export_left n e at left) (subst (λ (x : Export). InSpace m x.desc) same h.2)

    pub export_holds : (j : ℕ) → j < length new.exports → HoldsAt new kind.Export j
    export_holds j lt =
        let y = slice_get_there new.exports j lt in
        let e = map_from (new_export map_of) (m.exports ++ added_exports prefix m moved) j y.0 y.1 in
        let named : slice_get (map name_of new.exports) j ≡ Some y.0.name = map_at name_of new.exports j y.0 y.1 in (
          y.0,
          y.1,
          subst (λ (x : Export). InSpace new x.desc) e.2 (each_within j e.0 e.1),
          (λ c.
              let i = take_there (map name_of new.exports) j y.0.name (subst (λ ns. Contains ns y.0.name) (sym (take-map name_of j new.exports)) c) in
              subst Distinct (sym new_names) whole_distinct i.0 j y.0.name i.1 i.2 named),
        )
