-- Both modules of a sample are valid, and their parts are counted by a u32.
use Rattle.base_lists.proofs.Common.{◌≡◌, ◌∙◌, ap, sym, refl, subst, ℕ, zero, suc, ◌+◌, ◌-◌, ◌*◌, ◌%◌, ◌^◌, ◌<◌, ◌≤◌, List, [], ◌∷◌, ◌++◌, map, length, take, replicate, Contains, true, Option, Some, None, option_map, slice_get, decimal, arith, filter_map, cons_option, decimal_injective}
use Rattle.base_lists.proofs.Common.{append_cancel_left, length-append, length-map, length-replicate, map-append, slice_get-get_or, append_at_left, map_at, map_from, map_twice, replicate_at, slice_get_there, length-numbers, numbers_at, numbers_is, numbers_append}
use Rattle.std.proofs.Math.Seq.{take-append_seam}
use Rattle.base_lists.specs.Options.{◌>>=◌}
use Rattle.base_lists.specs.Places.{numbers}
use Rattle.wasm_num.specs.Operations.{bin_from, bin_to}
use Rattle.wasm_tree_spec.specs.Prelude.{I32, LocalGet, Bin, Import, ImportDesc, Export, Func, Module, IsBounded, local_count, table_of, memory_of, global_of, imported_funcs, imported_tables, imported_memories, imported_globals, funcs_of}
use Rattle.wasm_tree.specs.declared.module.ImportDesc.TheVariants as imported
use Rattle.wasm_tree.specs.declared.module.ExportDesc.TheVariants as exported
use Rattle.wasm_valid_bodies.specs.Typing.{Context, Fits, Gives, WellTyped, Operand, gives_of, signature_in}
use Rattle.wasm_valid.specs.declared.kinds.ItemKind.TheVariants as kind
use Rattle.wasm_valid.specs.Prelude.{ImportHolds, IsValid, body_context, ValidWhereItemsHold, ItemsHold}
use Rattle.wasm_gen.specs.Draws.{draw}
use Rattle.wasm_gen.specs.Modules.{unary, numbered, exports_of, module_of, operation, joined, first_func, first_module, passed, second_func, second_imports, second_from, a, f, g}

-- ---- lists of what is made for each number ----

made_at : {A : Type 0} (make : ℕ → A) (n i : ℕ) → i < n → slice_get (map make (numbers 0 n)) i ≡ Some (make i)
made_at make n i lt =
    let same : 0 + i ≡ i = omega arith in
    map_at make (numbers 0 n) i (0 + i) (numbers_at 0 n i lt) ∙ ap (λ k. Some (make k)) same

many : {A : Type 0} (make : ℕ → A) (n k : ℕ) → length (map make (numbers n k)) ≡ k
many make n k = length-map (numbers n k) make ∙ length-numbers n k

first_made : {A : Type 0} (make : ℕ → A) (n i : ℕ) → i ≤ n → take i (map make (numbers 0 n)) ≡ map make (numbers 0 i)
first_made make n i le =
    let whole : i + (n - i) ≡ n = omega (arith, le) in
    let front = map make (numbers 0 i) in
    let cut : map make (numbers 0 n) ≡ front ++ map make (numbers (0 + i) (n - i)) = ap (λ k. map make (numbers 0 k)) (sym whole) ∙ ap (map make) (numbers_append 0 i (n - i)) ∙ map-append make (numbers 0 i) (numbers (0 + i) (n - i)) in
    ap (take i) cut ∙ ap (λ k. take k (front ++ map make (numbers (0 + i) (n - i)))) (sym (many make 0 i)) ∙ take-append_seam front (map make (numbers (0 + i) (n - i)))

not_before : {A : Type 0} (make : ℕ → A) (i : ℕ) → ((j : ℕ) → j < i → make j ≡ make i → ⊥) → Contains (map make (numbers 0 i)) (make i) → ⊥
not_before make i other h =
    let at : slice_get (map make (numbers 0 i)) h.0 ≡ Some (make i) = slice_get-get_or (map make (numbers 0 i)) h.0 (make i) h.1 ∙ ap Some h.2 in
    let x = map_from make (numbers 0 i) h.0 (make i) at in
    let s = numbers_is i h.0 x.0 x.1 in
    let lt = s.0 in
    let same = s.1 in
    other x.0 (omega (arith, lt, same)) x.2

-- ---- bodies ----

abbrev one : List Operand
one = Some I32 ∷ []

gets_local : (c : Context) (s : List Operand) → slice_get c.locals 0 ≡ Some I32 → Fits c (LocalGet 0) s (Some I32 ∷ s)
gets_local c s h = (Gives [] (I32 ∷ []), ap (option_map (λ t. Gives [] (t ∷ []))) h, ([], s, refl, tt, refl))

joins : (c : Context) (n : ℕ) → Fits c (Bin (operation n)) (Some I32 ∷ one) one
unfolding bin_from bin_to
joins c zero = (Gives (I32 ∷ (I32 ∷ [])) (I32 ∷ []), refl, (Some I32 ∷ one, [], refl, (refl, (refl, tt)), refl))
joins c (suc zero) = (Gives (I32 ∷ (I32 ∷ [])) (I32 ∷ []), refl, (Some I32 ∷ one, [], refl, (refl, (refl, tt)), refl))
joins c (suc (suc n)) = (Gives (I32 ∷ (I32 ∷ [])) (I32 ∷ []), refl, (Some I32 ∷ one, [], refl, (refl, (refl, tt)), refl))

joined_typed : (c : Context) (number op : ℕ) → slice_get c.locals 0 ≡ Some I32 → WellTyped c (joined number op).body [] (I32 ∷ [])
joined_typed c number op h =
    (one, (one, gets_local c [] h, (Some I32 ∷ one, (Gives [] (I32 ∷ []), refl, ([], one, refl, tt, refl)), (one, joins c (op % 3), refl))), (refl, tt))

passed_typed : (c : Context) (callee : ℕ) → slice_get c.locals 0 ≡ Some I32 → slice_get c.funcs callee ≡ Some 0 → slice_get c.types 0 ≡ Some unary → WellTyped c (passed callee).body [] (I32 ∷ [])
passed_typed c callee h there type =
    let typed = ap (λ o. gives_of (signature_in (o >>= λ t. slice_get c.types t))) there ∙ ap (λ o. gives_of (signature_in o)) type in
    (one, (one, gets_local c [] h, (one, (Gives (I32 ∷ []) (I32 ∷ []), typed, (one, [], refl, (refl, tt), refl)), refl)), (refl, tt))

-- ---- items ----

-- A module whose functions all have one type and which exports `count` functions from an index on.
module _ (imports : List Import) (func : ℕ → Func) (letter : List ℕ) (index count : ℕ) where
  abbrev whole : Module
  whole = module_of imports (map func (numbers 0 count)) (exports_of letter index count)

  abbrev export_at : ℕ → Export
  export_at i = record { name = numbered letter i; desc = exported.Func (index + i) }

  other_name : (i j : ℕ) → j < i → i < 2 ^ 64 → numbered letter j ≡ numbered letter i → ⊥
  other_name i j lt few e =
      let same = decimal_injective j i (omega (arith, lt, few)) few (append_cancel_left letter (decimal j) (decimal i) e) in
      omega (arith, lt, same)

  names_are : (i : ℕ) → i ≤ count → map (λ (x : Export). x.name) (take i whole.exports) ≡ map (numbered letter) (numbers 0 i)
  names_are i le = ap (map (λ (x : Export). x.name)) (first_made export_at count i le) ∙ map_twice (λ (x : Export). x.name) export_at (numbers 0 i)

  pub holds :
      (few : count < 2 ^ 32)
      (from : (i : ℕ) (x : Import) → slice_get imports i ≡ Some x → x.desc ≡ imported.Func 0)
      (spaced : length (funcs_of whole) ≡ index + count)
      (typed : (i : ℕ) → i < count → ((func i).ty ≡ 0) × WellTyped (body_context whole (func i) unary) (func i).body [] (I32 ∷ [])) →
      ItemsHold whole
  holds few from spaced typed kind.Import i lt = let x = slice_get_there imports i lt in (x.0, x.1, subst (λ d. ImportHolds whole d) (sym (from i x.0 x.1)) (omega arith))
  holds few from spaced typed kind.Memories i lt = absurd (omega (arith, lt))
  holds few from spaced typed kind.Func i lt =
      let many = many func 0 count in
      let below : i < count = omega (arith, lt, many) in
      let zero = (typed i below).0 in
      (func i, made_at func count i below, omega (arith, zero))
  holds few from spaced typed kind.Table i lt = absurd (omega (arith, lt))
  holds few from spaced typed kind.Memory i lt = absurd (omega (arith, lt))
  holds few from spaced typed kind.Global i lt = absurd (omega (arith, lt))
  holds few from spaced typed kind.Export i lt =
      let many = many export_at 0 count in
      let below : i < count = omega (arith, lt, many) in
      (export_at i, made_at export_at count i below, omega (arith, below, spaced), λ h. not_before (numbered letter) i (λ j less. other_name i j less (omega (arith, few, below))) (subst (λ ns. Contains ns (numbered letter i)) (names_are i (omega (arith, below))) h))
  holds few from spaced typed kind.Start i lt = absurd (omega (arith, lt))
  holds few from spaced typed kind.Elem i lt = absurd (omega (arith, lt))
  holds few from spaced typed kind.Segment i lt = absurd (omega (arith, lt))
  holds few from spaced typed kind.Body i lt =
      let many = many func 0 count in
      let below : i < count = omega (arith, lt, many) in
      let t = typed i below in
      (func i, unary, made_at func count i below, ap (slice_get whole.types) t.0, t.1)

-- ---- the first ----

module _ (seed count : ℕ) (few : count < 2 ^ 31) where
  first_spaced : length (funcs_of (first_module seed count)) ≡ 0 + count
  first_spaced = length-map (map (first_func seed) (numbers 0 count)) (λ (x : Func). x.ty) ∙ many (first_func seed) 0 count ∙ (let z : count ≡ 0 + count = omega arith in z)

  pub first_holds : ItemsHold (first_module seed count)
  first_holds = holds [] (first_func seed) f 0 count (omega (arith, few)) (λ i x h. cc) first_spaced
      (λ i lt. (refl, joined_typed (body_context (first_module seed count) (first_func seed i) unary) (draw seed (i * 2 + 1)) (draw seed (i * 2 + 2)) refl))

-- ---- the second ----

imported_are : (n k : ℕ) → imported_funcs (map (λ i. record { «module» = a; field = numbered f i; desc = imported.Func 0 }) (numbers n k)) ≡ replicate k 0
imported_are n zero = refl
imported_are n (suc k) = ap (λ xs. 0 ∷ xs) (imported_are (suc n) k)

module _ (state count : ℕ) (some : 1 ≤ count) (few : count < 2 ^ 31) where
  abbrev pub second : Module
  second = second_from state count

  funcs_are : funcs_of second ≡ replicate count 0 ++ map (λ (x : Func). x.ty) second.funcs
  funcs_are = ap (λ xs. xs ++ map (λ (x : Func). x.ty) second.funcs) (imported_are 0 count)

  second_spaced : length (funcs_of second) ≡ count + count
  second_spaced =
      let left : length (replicate {A = ℕ} count 0) ≡ count = length-replicate count 0 in
      let right = length-map second.funcs (λ (x : Func). x.ty) ∙ many (second_func state count) 0 count in
      ap length funcs_are ∙ length-append (replicate count 0) (map (λ (x : Func). x.ty) second.funcs) ∙ omega (arith, left, right)

  -- The function of a drawn number is imported.
  callee_there : (n : ℕ) → slice_get (funcs_of second) (n % count) ≡ Some 0
  callee_there n = ap (λ xs. slice_get xs (n % count)) funcs_are ∙ append_at_left (replicate count 0) _ (n % count) 0 (replicate_at 0 count (n % count) (omega (arith, some)))

  import_desc : (i : ℕ) (x : Import) → slice_get (second_imports count) i ≡ Some x → x.desc ≡ imported.Func 0
  import_desc i x h = let y = map_from _ (numbers 0 count) i x h in ap (λ (z : Import). z.desc) (sym y.2)

  pub second_holds : ItemsHold second
  second_holds = holds (second_imports count) (second_func state count) g count count (omega (arith, few)) import_desc second_spaced
      (λ i lt. (refl, passed_typed (body_context second (second_func state count i) unary) (draw state (i + 1) % count) refl (callee_there (draw state (i + 1))) refl))

-- ---- both ----

pub first_valid : (law : ValidWhereItemsHold) (seed count : ℕ) (m : Module) → count ≤ 100000 → m ≡ first_module seed count → IsValid m
first_valid law seed count m few e = subst IsValid (sym e) ((law (first_module seed count)).1 (first_holds seed count (omega (arith, few))))

pub second_valid : (law : ValidWhereItemsHold) (state count : ℕ) (m : Module) → 1 ≤ count → count ≤ 100000 → m ≡ second_from state count → IsValid m
second_valid law state count m some few e = subst IsValid (sym e) ((law (second_from state count)).1 (second_holds state count some (omega (arith, few))))

no_locals : (make : ℕ → Func) (n : ℕ) → ((i : ℕ) → local_count (unary ∷ []) (make i) ≡ 1) → (i : ℕ) (x : Func) → slice_get (map make (numbers 0 n)) i ≡ Some x → local_count (unary ∷ []) x < 2 ^ 32
no_locals make n one i x h =
    let y = map_from make (numbers 0 n) i x h in
    let is = one y.0 in
    subst (λ (z : Func). local_count (unary ∷ []) z < 2 ^ 32) y.2 (omega (arith, is))

pub first_bounded : (seed count : ℕ) (m : Module) → count ≤ 100000 → m ≡ first_module seed count → IsBounded m
first_bounded seed count m few e = subst IsBounded (sym e) (record {
  types = omega arith;
  imports = omega arith;
  funcs = let n = first_spaced seed count (omega (arith, few)) in omega (arith, few, n);
  tables = omega arith;
  memories = omega arith;
  globals = omega arith;
  exports = let n = many {A = Export} (λ i. record { name = numbered f i; desc = exported.Func (0 + i) }) 0 count in omega (arith, few, n);
  elems = omega arith;
  datas = omega arith;
  locals = no_locals (first_func seed) count (λ i. refl);
})

-- Each import is a function, so there is no import of another kind.
none_else : {A : Type 0} (of : ImportDesc → Option A) → of (imported.Func 0) ≡ None → (n k : ℕ) → filter_map (λ (x : Import). of x.desc) (map (λ i. record { «module» = a; field = numbered f i; desc = imported.Func 0 }) (numbers n k)) ≡ []
none_else of is n zero = refl
none_else of is n (suc k) = ap (λ o. cons_option o (filter_map (λ (x : Import). of x.desc) (map (λ i. record { «module» = a; field = numbered f i; desc = imported.Func 0 }) (numbers (suc n) k)))) is ∙ none_else of is (suc n) k

pub second_bounded : (state count : ℕ) (m : Module) → 1 ≤ count → count ≤ 100000 → m ≡ second_from state count → IsBounded m
second_bounded state count m some few e = subst IsBounded (sym e) (record {
  types = omega arith;
  imports = let n = many {A = Import} (λ i. record { «module» = a; field = numbered f i; desc = imported.Func 0 }) 0 count in omega (arith, few, n);
  funcs = let n = second_spaced state count some (omega (arith, few)) in omega (arith, few, n);
  tables = let n = ap length (none_else table_of refl 0 count) in let z = length-append (imported_tables (second_imports count)) [] in omega (arith, n, z);
  memories = let n = ap length (none_else memory_of refl 0 count) in let z = length-append (imported_memories (second_imports count)) [] in omega (arith, n, z);
  globals = let n = ap length (none_else global_of refl 0 count) in let z = length-append (imported_globals (second_imports count)) [] in omega (arith, n, z);
  exports = let n = many {A = Export} (λ i. record { name = numbered g i; desc = exported.Func (count + i) }) 0 count in omega (arith, few, n);
  elems = omega arith;
  datas = omega arith;
  locals = no_locals (second_func state count) count (λ i. refl);
})
