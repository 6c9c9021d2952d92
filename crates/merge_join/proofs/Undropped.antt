-- If no export is dropped, the merged module declares each function that `ref.func` names in a
-- body: a part is valid, so it names the functions of its bodies outside them too, and the merged
-- module names them there as well.
use Rattle.base_lists.proofs.Common.{◌≡◌, ◌∙◌, refl, sym, ap, subst, ℕ, zero, suc, ◌+◌, ◌<◌, ◌≤◌, Bool, true, false, ◌&&◌, ◌||◌, not, nat_eq, nat_lt, List, [], ◌∷◌, ◌++◌, map, length, Option, Some, None, ◌⊎◌, inl, inr, ⊎_elim, arith, option_map, unwrap_or, slice_get, slice_index, filter, filter_map}
use Rattle.base_lists.proofs.Common.{flat_map, list_all, range_with_len, length-map, slice_get-get_or, eqb-true, eq-eqb, ltb-true, left_true, right_true, list_all_each, list_all_from, list_any_there, is_kept, chosen_from, has_chosen, length-numbers, Has, map_at, map_from, append_from, has_left}
use Rattle.base_lists.proofs.Common.{has_right, right_either}
use Rattle.base_lists.specs.Members.{is_among}
use Rattle.std.proofs.Common.{length-append}
use Rattle.std.proofs.lemmas.List.FromFn.{get_or-range_with_len, length-range_with_len}
use Rattle.base_lists.specs.Places.{numbers}
use Rattle.wasm_tree_spec.specs.Prelude.{Functions, fold_out-Instr, Call, ConstExpr, ElemMode, ElemSeg, ExportDesc, Export, Func, GlobalDef, Module, funcs_of}
use Rattle.wasm_tree.specs.declared.instr.Instr.{out-Instr}
use Rattle.wasm_tree.specs.declared.module.ConstExpr.TheVariants as const
use Rattle.wasm_tree.specs.declared.module.ElemMode.TheVariants as elem
use Rattle.wasm_tree.specs.declared.module.ExportDesc.TheVariants as ex
use Rattle.wasm_valid.specs.Prelude.{const_func, export_func, elem_refs, global_refs, export_refs, refs_of, IsValid}
use Rattle.wasm_meaning.specs.Prelude.{Text, Part, module_at}
use Rattle.index_remap.specs.Prelude.{has, fits_all, fits_func, fits_import, fits_tree, new_func, new_export, new_export_desc, renumbered_all, refs, refs_step, refs_all, body_refs, offset_refs, outside_refs, declared_refs, declaring, with_declared, declared}
use Rattle.index_remap.specs.References.{offset_func}
use Rattle.merge_spec.specs.Prelude.{by_part, by_part_from, new_index, merged_elem_mode, merged_const, merged_global, merged_elem, start_calls, starts, named_exports}
use Rattle.merge_spec.specs.Merged.{map_of, defined_funcs, all_exports, merged}
use Rattle.merge_join.specs.LinkedParts.{PartsHold}
use Rattle.merge_join.proofs.Reading.{becomes_new}
use Rattle.wasm_tree.specs.OperandLaws.{MappedCodePasses, PassesInside}
use Rattle.merge_join.proofs.RefOperands.{refs_kept}
use Rattle.base_lists.proofs.Bools.{and_not}
use Rattle.merge_proof.proofs.ListsByPart.{by_part_has}

-- ---- lists ----

nothing : (x : ℕ) → Has {A = ℕ} [] x → ⊥
nothing x (n, h) = cc

filter_none : {A : Type 0} (test : A → Bool) (xs : List A) → ((x : A) → test x ≡ false) → filter test xs ≡ []
filter_none test [] h = refl
filter_none test (x ∷ xs) h = rw (h x) (filter_none test xs h)

among_has : (xs : List ℕ) (x : ℕ) → is_among xs x ≡ true → Has xs x
among_has xs x h = let found = list_any_there (nat_eq x) xs h in subst (Has xs) (sym (eq_of x found.0 found.2)) found.1
  where
    eq_of : (a b : ℕ) → nat_eq a b ≡ true → a ≡ b
    eq_of a b h = eqb-true a b h

has_among : (xs : List ℕ) (x : ℕ) → Has xs x → is_among xs x ≡ true
has_among [] x (n, h) = cc
has_among (y ∷ ys) x (zero, h) = let e : x ≡ y = cc in ap (λ b. b || is_among ys x) (eq-eqb x y e)
has_among (y ∷ ys) x (suc n, h) = right_either (nat_eq x y) (is_among ys x) (has_among ys x (n, h))

flat_has : {A B : Type 0} (f : A → List B) (xs : List A) (x : A) (y : B) → Has xs x → Has (f x) y → Has (flat_map f xs) y
flat_has f [] x y (n, h) k = cc
flat_has f (z ∷ zs) x y (zero, h) k = let e : z ≡ x = cc in has_left (f z) (flat_map f zs) y (subst (λ a. Has (f a) y) (sym e) k)
flat_has f (z ∷ zs) x y (suc n, h) k = has_right (f z) (flat_map f zs) y (flat_has f zs x y (n, h) k)

either_has : {A : Type 0} (xs ys : List A) (x : A) → Has (xs ++ ys) x → Has xs x ⊎ Has ys x
either_has xs ys x (n, h) = by (append_from xs ys n x h)
  where
    by : (slice_get xs n ≡ Some x) ⊎ ((k : ℕ) × (n ≡ length xs + k) × (slice_get ys k ≡ Some x)) → Has xs x ⊎ Has ys x
    by (inl a) = inl (n, a)
    by (inr (k, e, b)) = inr (k, b)

flat_from : {A B : Type 0} (f : A → List B) (xs : List A) (y : B) → Has (flat_map f xs) y → (x : A) × Has xs x × Has (f x) y
flat_from f [] y (n, h) = cc
flat_from f (z ∷ zs) y h =
    ⊎_elim
    (λ a. (z, (0, refl), a))
    (λ b. let r = flat_from f zs y b in (r.0, (suc r.1.0, r.1.1), r.2))
    (either_has (f z) (flat_map f zs) y h)

-- An element of the list of all parts is one of the list of a part.
abbrev OfPart : {A : Type 0} → (ℕ → Module → List A) → ℕ → List Part → A → Type 0
OfPart f q ps x = (p : ℕ) × (m : Module) × (module_at ps p ≡ Some m) × Has (f (q + p) m) x

part_from : {A : Type 0} (f : ℕ → Module → List A) (q : ℕ) (ps : List Part) (x : A) → Has (by_part_from f q ps) x → OfPart f q ps x
part_from f q [] x (n, h) = cc
part_from f q (part ∷ ps) x h =
    ⊎_elim
    (λ a. let here : q ≡ q + 0 = omega arith in (0, part.«module», refl, subst (λ k. Has (f k part.«module») x) here a))
    (λ b. let r = part_from f (suc q) ps x b in let here : suc q + r.0 ≡ q + suc r.0 = omega arith in (suc r.0, r.1, r.2, subst (λ k. Has (f k r.1) x) here r.3))
    (either_has (f q part.«module») (by_part_from f (suc q) ps) x h)

-- ---- what a valid part names outside its bodies ----

none_declared : (m : Module) (rs : List ℕ) → with_declared m rs ≡ m → rs ≡ []
none_declared m [] e = refl
none_declared m (f ∷ fs) e = absurd (omega (arith, ap (λ (t : Module). length t.elems) e, length-append m.elems (declaring (f ∷ fs) ∷ [])))

range_has : (n i : ℕ) → i < n → Has (range_with_len 0 n) i
range_has n i lt = (i, slice_get-get_or (range_with_len 0 n) i 0 (omega (arith, lt, length-range_with_len 0 n)) ∙ ap Some (get_or-range_with_len 0 n i 0 lt ∙ omega arith))

-- If a module has no function to be declared, a function that a body names is also named outside
-- the bodies.
named_outside : (m : Module) → declared m ≡ m → (f : ℕ) → f < length (funcs_of m) → is_among (body_refs m.funcs) f ≡ true → is_among (outside_refs m) f ≡ true
named_outside m stays f lt h = by (is_among (outside_refs m) f) refl
  where
    by : (b : Bool) → is_among (outside_refs m) f ≡ b → is_among (outside_refs m) f ≡ true
    by true e = e
    by false e =
        let at = range_has (length (funcs_of m)) f lt in
        let test : is_among (body_refs m.funcs) f && not (is_among (outside_refs m) f) ≡ true = rw (h, e) refl in
        let kept = is_kept (λ f. is_among (body_refs m.funcs) f && not (is_among (outside_refs m) f)) (range_with_len 0 (length (funcs_of m))) at.0 f at.1 test in
        let none : Has {A = ℕ} [] f = subst (λ xs. Has xs f) (none_declared m (declared_refs m) stays) kept in
        absurd (nothing f none)

-- ---- the merged module names it outside its bodies too ----

has_mapped : {A B : Type 0} (f : A → B) (xs : List A) (x : A) → Has xs x → Has (map f xs) (f x)
has_mapped f xs x (n, h) = (n, map_at f xs n x h)

const_is : (e : ConstExpr) (f : ℕ) → const_func e ≡ Some f → e ≡ const.Func f
const_is (const.Func g) f h = let same : g ≡ f = cc in ap const.Func same
const_is (const.I32 v) f h = cc
const_is (const.I64 v) f h = cc
const_is (const.Null t) f h = cc
const_is (const.Global g) f h = cc

named_most : (es : List Export) (names : List (Option Text)) → length (named_exports es names) ≤ length names
named_most [] names = omega arith
named_most (e ∷ es) [] = omega arith
named_most (e ∷ es) (None ∷ names) = omega (arith, named_most es names)
named_most (e ∷ es) (Some t ∷ names) = omega (arith, named_most es names)

-- If no export is dropped, each export is kept under some name.
named_keeps : (es : List Export) (names : List (Option Text)) (e : Export) → length names ≡ length es → length names ≤ length (named_exports es names) → Has es e → (d : Export) × Has (named_exports es names) d × (d.desc ≡ e.desc)
named_keeps [] names e many all (n, h) = cc
named_keeps (x ∷ es) [] e many all h = absurd (omega (arith, many))
named_keeps (x ∷ es) (None ∷ names) e many all h = absurd (omega (arith, all, named_most es names))
named_keeps (x ∷ es) (Some t ∷ names) e many all (zero, h) = let same : x ≡ e = cc in (record x { name = t }, (0, refl), ap (λ (z : Export). z.desc) same)
named_keeps (x ∷ es) (Some t ∷ names) e many all (suc n, h) = let r = named_keeps es names e (omega (arith, many)) (omega (arith, all)) (n, h) in (r.0, (suc r.1.0, r.1.1), r.2)

module _ (inside : PassesInside) (mapped : MappedCodePasses) (ps : List Part) (names : List (Option Text)) (many : length names ≡ length (all_exports ps)) (all : length names ≤ length (named_exports (all_exports ps) names)) where
  abbrev Whole : Module
  Whole = merged ps names

  module _ (p : ℕ) (m : Module) (at : module_at ps p ≡ Some m) where
    new : ℕ → ℕ
    new f = slice_index (map_of ps p m).funcs f

    of_part : {A : Type 0} (f : ℕ → Module → List A) (x : A) → Has (f p m) x → Has (by_part f ps) x
    of_part f x h = let here : p ≡ 0 + p = omega arith in by_part_has f 0 ps p m x at (subst (λ k. Has (f k m) x) here h)

    const_named : (e : ConstExpr) (f : ℕ) → const_func e ≡ Some f → merged_const ps p e ≡ const.Func (new f)
    unfolding new
    const_named e f h = ap (merged_const ps p) (const_is e f h) ∙ sym (becomes_new ps p (const.Func f) m (λ x k. cc) at)

    elems_named : (f : ℕ) → Has (elem_refs m.elems) f → Has (elem_refs (by_part (λ p m. map (merged_elem ps p (map_of ps p m)) m.elems) ps)) (new f)
    elems_named f h =
        let found = flat_from (λ (s : ElemSeg). filter_map const_func s.items) m.elems f h in
        let s = found.0 in
        let item = chosen_from const_func s.items found.2.0 f found.2.1 in
        let there = has_mapped (merged_const ps p) s.items item.0 item.1 in
        flat_has (λ (s : ElemSeg). filter_map const_func s.items) (by_part (λ p m. map (merged_elem ps p (map_of ps p m)) m.elems) ps) (merged_elem ps p (map_of ps p m) s) (new f)
        (of_part (λ p m. map (merged_elem ps p (map_of ps p m)) m.elems) (merged_elem ps p (map_of ps p m) s) (has_mapped (merged_elem ps p (map_of ps p m)) m.elems s found.1))
        (has_chosen const_func (map (merged_const ps p) s.items) there.0 (merged_const ps p item.0) (new f) there.1 (ap const_func (const_named item.0 f item.2)))

    globals_named : (f : ℕ) → Has (global_refs m.globals) f → Has (global_refs (by_part (λ p m. map (merged_global ps p) m.globals) ps)) (new f)
    globals_named f h =
        let found = chosen_from (λ (g : GlobalDef). const_func g.init) m.globals h.0 f h.1 in
        let there = of_part (λ p m. map (merged_global ps p) m.globals) (merged_global ps p found.0) (has_mapped (merged_global ps p) m.globals found.0 found.1) in
        has_chosen (λ (g : GlobalDef). const_func g.init) (by_part (λ p m. map (merged_global ps p) m.globals) ps) there.0 (merged_global ps p found.0) (new f) there.1 (ap const_func (const_named found.0.init f found.2))

    offset_named : (mode : ElemMode) (f : ℕ) → offset_func mode ≡ Some f → offset_func (merged_elem_mode ps p (map_of ps p m) mode) ≡ Some (new f)
    offset_named (elem.Active table offset) f h = ap const_func (const_named offset f h)
    offset_named elem.Passive f h = cc
    offset_named elem.Declarative f h = cc

    offsets_named : (f : ℕ) → Has (offset_refs m.elems) f → Has (offset_refs (by_part (λ p m. map (merged_elem ps p (map_of ps p m)) m.elems) ps)) (new f)
    offsets_named f h =
        let found = chosen_from (λ (s : ElemSeg). offset_func s.mode) m.elems h.0 f h.1 in
        let there = of_part (λ p m. map (merged_elem ps p (map_of ps p m)) m.elems) (merged_elem ps p (map_of ps p m) found.0) (has_mapped (merged_elem ps p (map_of ps p m)) m.elems found.0 found.1) in
        has_chosen (λ (s : ElemSeg). offset_func s.mode) (by_part (λ p m. map (merged_elem ps p (map_of ps p m)) m.elems) ps) there.0 (merged_elem ps p (map_of ps p m) found.0) (new f) there.1 (offset_named found.0.mode f found.2)

    export_named : (d : ExportDesc) (f : ℕ) → export_func d ≡ Some f → export_func (new_export_desc (map_of ps p m) d) ≡ Some (new f)
    unfolding new
    export_named (ex.Func g) f h = let same : g ≡ f = cc in ap (λ x. Some (slice_index (map_of ps p m).funcs x)) same
    export_named (ex.Table x) f h = cc
    export_named (ex.Memory x) f h = cc
    export_named (ex.Global x) f h = cc

    exports_named : (f : ℕ) → Has (export_refs m.exports) f → Has (export_refs (named_exports (all_exports ps) names)) (new f)
    unfolding all_exports
    exports_named f h =
        let found = chosen_from (λ (e : Export). export_func e.desc) m.exports h.0 f h.1 in
        let there = of_part (λ p m. map (new_export (map_of ps p m)) m.exports) (new_export (map_of ps p m) found.0) (has_mapped (new_export (map_of ps p m)) m.exports found.0 found.1) in
        let kept = named_keeps (all_exports ps) names (new_export (map_of ps p m) found.0) many all there in
        has_chosen (λ (e : Export). export_func e.desc) (named_exports (all_exports ps) names) kept.1.0 kept.0 (new f) kept.1.1 (ap export_func kept.2 ∙ export_named found.0.desc f found.2)

    outside_kept : (f : ℕ) → Has (outside_refs m) f → Has (outside_refs Whole) (new f)
    unfolding merged
    outside_kept f h =
        let elems = elem_refs Whole.elems in let globals = global_refs Whole.globals in let exports = export_refs Whole.exports in let offsets = offset_refs Whole.elems in
        ⊎_elim
        (λ a. has_left (elems ++ (globals ++ exports)) offsets (new f) (⊎_elim
        (λ b. has_left elems (globals ++ exports) (new f) (elems_named f b))
        (λ b. has_right elems (globals ++ exports) (new f) (⊎_elim
        (λ c. has_left globals exports (new f) (globals_named f c))
        (λ c. has_right globals exports (new f) (exports_named f c))
        (either_has (global_refs m.globals) (export_refs m.exports) f b)))
        (either_has (elem_refs m.elems) (global_refs m.globals ++ export_refs m.exports) f a)))
        (λ a. has_right (elems ++ (globals ++ exports)) offsets (new f) (offsets_named f a))
        (either_has (refs_of m) (offset_refs m.elems) f h)

    -- A function that a body of the part names is named outside the bodies of the merged module,
    -- with its new index.
    module _ (stays : declared m ≡ m) (fits : fits_tree (map_of ps p m) m ≡ true) (k : ℕ) (g : Func) (here : slice_get m.funcs k ≡ Some g) where
      abbrev old : ℕ → Bool
      old f = not (nat_lt f (length (funcs_of m))) || is_among (outside_refs m) f

      old_at : (f : ℕ) → is_among (body_refs m.funcs) f ≡ true → old f ≡ true
      old_at f h = by (nat_lt f (length (funcs_of m))) refl
        where
          by : (b : Bool) → nat_lt f (length (funcs_of m)) ≡ b → old f ≡ true
          by true e = ap (λ b. not b || is_among (outside_refs m) f) e ∙ named_outside m stays f (ltb-true f (length (funcs_of m)) e) h
          by false e = ap (λ b. not b || is_among (outside_refs m) f) e

      space_size : length (map_of ps p m).funcs ≡ length (funcs_of m)
      unfolding map_of
      space_size = length-map (numbers 0 (length (funcs_of m))) (new_index ps p Functions) ∙ length-numbers 0 (length (funcs_of m))

      new_kept : (f : ℕ) → has (map_of ps p m).funcs f ≡ true → old f ≡ true → is_among (outside_refs Whole) (slice_index (map_of ps p m).funcs f) ≡ true
      unfolding new
      new_kept f h o =
          let within : nat_lt f (length (funcs_of m)) ≡ true = ap (nat_lt f) (sym space_size) ∙ h in
          let named : is_among (outside_refs m) f ≡ true = sym (ap (λ b. not b || is_among (outside_refs m) f) within) ∙ o in
          has_among (outside_refs Whole) (new f) (outside_kept f (among_has (outside_refs m) f named))

      body_fits : fits_all (map_of ps p m) g.body ≡ true
      body_fits =
          let r = map_of ps p m in
          let funcs = left_true (list_all (fits_func r) m.funcs) _ (right_true (list_all (fits_import r) m.imports) _ fits) in
          right_true (has r.types g.ty) (fits_all r g.body) (list_all_each (fits_func r) m.funcs funcs k g here)

      body_named : list_all (is_among (outside_refs Whole)) (refs_all (renumbered_all (map_of ps p m) g.body)) ≡ true
      body_named =
          refs_kept inside mapped (map_of ps p m) old (is_among (outside_refs Whole)) new_kept g.body body_fits
          (list_all_from old (refs_all g.body) (λ n f e. old_at f (has_among (body_refs m.funcs) f (flat_has (λ (x : Func). refs_all x.body) m.funcs g f (k, here) (n, e)))))

  no_call : (f : ℕ) → refs (Call f) ≡ []
  unfolding out-Instr denote.Hole.Carrier.out
  no_call f = fold_out-Instr (List ℕ) refs_step (Call f)

  no_calls : (fs : List ℕ) → refs_all (map Call fs) ≡ []
  no_calls [] = refl
  no_calls (f ∷ fs) = ap (λ xs. xs ++ refs_all (map Call fs)) (no_call f) ∙ no_calls fs

  calls_name_none : (fs : List ℕ) (g : Func) → Has (start_calls ps fs) g → refs_all g.body ≡ []
  calls_name_none [] g (n, h) = cc
  calls_name_none (a ∷ []) g (n, h) = cc
  calls_name_none (a ∷ b ∷ fs) g (zero, h) = let same : g.body ≡ map Call (a ∷ b ∷ fs) = sym (ap (λ (o : Option Func). unwrap_or (option_map (λ (x : Func). x.body) o) []) h) in ap refs_all same ∙ no_calls (a ∷ b ∷ fs)
  calls_name_none (a ∷ b ∷ fs) g (suc n, h) = cc

  module _ (stay : (p : ℕ) (m : Module) → module_at ps p ≡ Some m → declared m ≡ m) (fit : (p : ℕ) (m : Module) → module_at ps p ≡ Some m → fits_tree (map_of ps p m) m ≡ true) where
    named_once : (x : ℕ) → is_among (body_refs (defined_funcs ps ++ start_calls ps (starts ps))) x ≡ true → is_among (outside_refs Whole) x ≡ true
    unfolding defined_funcs
    named_once x h =
        let body = flat_from (λ (f : Func). refs_all f.body) (defined_funcs ps ++ start_calls ps (starts ps)) x (among_has _ x h) in
        ⊎_elim (of_defined body.0 body.2) (of_call body.0 body.2) (either_has (defined_funcs ps) (start_calls ps (starts ps)) body.0 body.1)
      where
        of_defined : (g : Func) → Has (refs_all g.body) x → Has (defined_funcs ps) g → is_among (outside_refs Whole) x ≡ true
        of_defined g inside d =
            let part = part_from (λ p m. map (new_func (map_of ps p m)) m.funcs) 0 ps g d in
            let p = part.0 in let m = part.1 in let at = part.2 in
            let here : 0 + p ≡ p = omega arith in
            let there = subst (λ q. Has (map (new_func (map_of ps q m)) m.funcs) g) here part.3 in
            let func = map_from (new_func (map_of ps p m)) m.funcs there.0 g there.1 in
            let named = body_named p m at (stay p m at) (fit p m at) there.0 func.0 func.1 in
            let there = subst (λ (f : Func). Has (refs_all f.body) x) (sym func.2) inside in
            list_all_each (is_among (outside_refs Whole)) (refs_all (renumbered_all (map_of ps p m) func.0.body)) named there.0 x there.1

        of_call : (g : Func) → Has (refs_all g.body) x → Has (start_calls ps (starts ps)) g → is_among (outside_refs Whole) x ≡ true
        of_call g inside c = absurd (nothing x (subst (λ xs. Has xs x) (calls_name_none (starts ps) g c) inside))

    undeclared_none : declared_refs Whole ≡ []
    unfolding merged
    undeclared_none = filter_none (λ f. is_among (body_refs Whole.funcs) f && not (is_among (outside_refs Whole) f)) (range_with_len 0 (length (funcs_of Whole)))
        (λ x. and_not (is_among (body_refs Whole.funcs) x) (is_among (outside_refs Whole) x) (named_once x))

    all_declared : declared Whole ≡ Whole
    all_declared = ap (with_declared Whole) undeclared_none

-- A valid module has no function to be declared.
abbrev pub ValidIsDeclared : Type 0
ValidIsDeclared = (m : Module) → IsValid m → declared m ≡ m

-- The map of a part has an entry for each index that its valid module names.
abbrev pub ValidHasEntries : Type 0
ValidHasEntries = (ps : List Part) (p : ℕ) (m : Module) → IsValid m → fits_tree (map_of ps p m) m ≡ true

-- If no export is dropped, the merged module has no function to be declared.
pub none_undeclared : PassesInside → MappedCodePasses → (ps : List Part) (names : List (Option Text)) (tree : Module) → ValidIsDeclared → ValidHasEntries → PartsHold ps → tree ≡ merged ps names → length names ≡ length (all_exports ps) → length names ≤ length tree.exports → declared tree ≡ tree
unfolding merged
none_undeclared inside mapped ps names tree stays entries hold is many all =
    let same : length tree.exports ≡ length (named_exports (all_exports ps) names) = ap (λ (t : Module). length t.exports) is in
    subst (λ t. declared t ≡ t) (sym is)
    (all_declared inside mapped ps names many (omega (arith, all, same)) (λ p m at. stays m (hold p m at).0) (λ p m at. entries ps p m (hold p m at).0))
