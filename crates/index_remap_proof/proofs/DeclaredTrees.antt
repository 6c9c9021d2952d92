-- Trees whose references are declared.
use Rattle.base_lists.proofs.Common.{◌≡◌, ℕ, zero, suc, ◌+◌, ◌^◌, ◌<◌, Bool, true, false, ◌&&◌, not, cond, nat_eq, nat_lt, List, [], ◌∷◌, ◌++◌, length, map, Some, ◌⊎◌, inl, inr, ⊎_elim, refl, sym, ap, ◌∙◌, subst, arith, append-nil, slice_get, replicate, filter, filter_map, range_with_len, lt-ltb}
use Rattle.base_lists.proofs.Common.{flat_map-append, map-append, slice_get_within, slice_get_there, map_from, append_at_left, replicate_at, and_from, cases_Bool, left_either, right_either, among_left, among_right, among_joined}
use Rattle.base_lists.proofs.Bools.{and_not}
use Rattle.base_lists.specs.Members.{is_among}
use Rattle.base_lists.proofs.Members.{among_either, joined_among, chosen_among}
use Rattle.std.proofs.Common.{length-append, eq-eqb}
use Rattle.base_kept.proofs.Marks.{among_is_marked, marked_is_among, named_within}
use Rattle.wasm_tree_spec.specs.Prelude.{RefType, I32, Ref, ImportDesc, ExportDesc, ElemMode, ElemSeg, DataMode, ConstExpr, Func, Module, IsBounded, funcs_of}
use Rattle.wasm_tree.specs.declared.types.RefType.TheVariants.{Func as func_ref}
use Rattle.wasm_tree.specs.declared.module.ImportDesc.TheVariants as im
use Rattle.wasm_tree.specs.declared.module.ExportDesc.TheVariants as ex
use Rattle.wasm_tree.specs.declared.module.ElemMode.TheVariants as elem
use Rattle.wasm_tree.specs.declared.module.DataMode.TheVariants as «data»
use Rattle.wasm_tree.specs.declared.module.ConstExpr.TheVariants as const
use Rattle.wasm_valid_bodies.specs.Typing.{only}
use Rattle.wasm_valid.specs.declared.kinds.ItemKind.{ItemKind}
use Rattle.wasm_valid.specs.declared.kinds.ItemKind.TheVariants as kind
use Rattle.wasm_valid.specs.Prelude.{const_type, const_func, elem_refs, global_refs, export_refs, named_of, refs_of, elem_types, HoldsAt, ImportHolds, InSpace, ElemModeHolds, DataModeHolds, IsSingle, IsValid, body_context, ValidWhereItemsHold, ItemsHold}
use Rattle.index_remap.specs.Prelude.{refs_all, body_refs, offset_refs, outside_refs, declared_refs, declaring, with_declared, declared, Keeps}
use Rattle.index_remap.specs.References.{offset_func}
use Rattle.index_remap_proof.specs.ButForReferences.{any_named, HoldsButForReferences, IsValidButForReferences}
use Rattle.base_lists.proofs.Places.{push_from, replicate_within}
use Rattle.index_remap_proof.proofs.NamedFuncs.{typed_named, typed_wider}

-- ---- filtered numbers ----

filter_none : (p : ℕ → Bool) (xs : List ℕ) → ((x : ℕ) → p x ≡ false) → filter p xs ≡ []
filter_none p [] h = refl
filter_none p (x ∷ xs) h = ap (λ b. cond b (x ∷ filter p xs) (filter p xs)) (h x) ∙ filter_none p xs h

among_first : (p : ℕ → Bool) (y x : ℕ) (xs : List ℕ) → p x ≡ true → x ≡ y → is_among (cond (p y) (y ∷ filter p xs) (filter p xs)) x ≡ true
among_first p y x xs h e =
    ap (λ b. is_among (cond b (y ∷ filter p xs) (filter p xs)) x) (ap p (sym e) ∙ h) ∙ left_either (nat_eq x y) (is_among (filter p xs) x) (eq-eqb x y e)

among_later : (b : Bool) (y x : ℕ) (xs : List ℕ) → is_among xs x ≡ true → is_among (cond b (y ∷ xs) xs) x ≡ true
among_later true y x xs h = right_either (nat_eq x y) (is_among xs x) h
among_later false y x xs h = h

-- A number of the range that passes the test is among those of the range that pass it.
passed : (p : ℕ → Bool) (a n k x : ℕ) → k < n → x ≡ a + k → p x ≡ true → is_among (filter p (range_with_len a n)) x ≡ true
passed p a zero k x lt e h = absurd (omega arith)
passed p a (suc n) zero x lt e h = among_first p a x (range_with_len (a + 1) n) h (omega arith)
passed p a (suc n) (suc k) x lt e h = among_later (p a) a x (filter p (range_with_len (a + 1) n)) (passed p (a + 1) n k x (omega arith) (omega arith) h)

first_or_later : (b : Bool) (y : ℕ) (ys : List ℕ) (j x : ℕ) → slice_get (cond b (y ∷ ys) ys) j ≡ Some x → (y ≡ x) ⊎ ((i : ℕ) × (slice_get ys i ≡ Some x))
first_or_later true y ys zero x e = inl (let same : y ≡ x = cc in same)
first_or_later true y ys (suc j) x e = inr (j, e)
first_or_later false y ys j x e = inr (j, e)

-- Each number of the range that passes the test is within the range.
passed_within : (p : ℕ → Bool) (a n j x : ℕ) → slice_get (filter p (range_with_len a n)) j ≡ Some x → x < a + n
passed_within p a zero j x e = absurd (let k = e in cc)
passed_within p a (suc n) j x e =
    ⊎_elim (λ f. omega (arith, f)) (λ r. let lt = passed_within p (a + 1) n r.0 x r.1 in omega arith) (first_or_later (p a) a (filter p (range_with_len (a + 1) n)) j x e)

-- ---- what is named ----

declared_funcs : (rs : List ℕ) → filter_map const_func (map const.Func rs) ≡ rs
declared_funcs [] = refl
declared_funcs (r ∷ rs) = ap (λ zs. r ∷ zs) (declared_funcs rs)

module _ (t : Module) where
  abbrev space : ℕ
  space = length (funcs_of t)

  abbrev is_missing : ℕ → Bool
  is_missing f = is_among (body_refs t.funcs) f && not (is_among (outside_refs t) f)

  -- The tree with one more element segment.
  abbrev with_segment : ElemSeg → Module
  with_segment s = record t { elems = t.elems ++ s ∷ [] }

  -- No well-typed offset of a segment names a function.
  no_offset : (q : RefType) (mode : ElemMode) (x : ℕ) → ElemModeHolds t q mode → offset_func mode ≡ Some x → ⊥
  no_offset q (elem.Active table offset) x h e = here offset h.1 e
    where
      func_typed : (b : Bool) → only b (Some (Ref func_ref)) ≡ Some I32 → ⊥
      func_typed false k = let z = k in cc
      func_typed true k = let z = k in cc

      here : (o : ConstExpr) → const_type t o ≡ Some I32 → const_func o ≡ Some x → ⊥
      here (const.I32 v) k f = let z = f in cc
      here (const.I64 v) k f = let z = f in cc
      here (const.Null r) k f = let z = f in cc
      here (const.Func f) k g = func_typed (nat_lt f space) k
      here (const.Global g) k f = let z = f in cc
  no_offset q elem.Passive x h e = let z = e in cc
  no_offset q elem.Declarative x h e = let z = e in cc

  abbrev ElemsHold : Type 0
  ElemsHold = (i : ℕ) → i < length t.elems → HoldsAt t kind.Elem i

  offsets_none : ElemsHold → (x : ℕ) → is_among (offset_refs t.elems) x ≡ true → ⊥
  offsets_none holds x h = here (chosen_among (λ s. offset_func s.mode) t.elems x h)
    where
      here : (i : ℕ) × (s : ElemSeg) × (slice_get t.elems i ≡ Some s) × (offset_func s.mode ≡ Some x) → ⊥
      here (i, s, e, f) = there (holds i (slice_get_within t.elems i s e))
        where
          there : HoldsAt t kind.Elem i → ⊥
          there (z, at, items, mode) = let same : z ≡ s = cc in no_offset s.ty s.mode x (subst (λ (w : ElemSeg). ElemModeHolds t w.ty w.mode) same mode) f

  -- A function that a body names is named outside the bodies, or is to be declared.
  named_or_missing : ElemsHold → (x : ℕ) → x < space → is_among (body_refs t.funcs) x ≡ true → (is_among (refs_of t) x ≡ true) ⊎ (is_among (declared_refs t) x ≡ true)
  named_or_missing holds x lt h = here (cases_Bool (is_among (outside_refs t) x))
    where
      outside : (is_among (refs_of t) x ≡ true) ⊎ (is_among (offset_refs t.elems) x ≡ true) → (is_among (refs_of t) x ≡ true) ⊎ (is_among (declared_refs t) x ≡ true)
      outside (inl k) = inl k
      outside (inr k) = absurd (offsets_none holds x k)

      here : (is_among (outside_refs t) x ≡ true) ⊎ (is_among (outside_refs t) x ≡ false) → (is_among (refs_of t) x ≡ true) ⊎ (is_among (declared_refs t) x ≡ true)
      here (inl k) = outside (among_either (refs_of t) (offset_refs t.elems) x k)
      here (inr k) = inr (passed is_missing 0 space x x lt (omega arith) (and_from _ _ h (ap not k)))

  abbrev rest : List ℕ
  rest = global_refs t.globals ++ export_refs t.exports

  elem_refs_more : (rs : List ℕ) → elem_refs (t.elems ++ declaring rs ∷ []) ≡ elem_refs t.elems ++ rs
  elem_refs_more rs = flat_map-append (λ s. filter_map const_func s.items) t.elems (declaring rs ∷ []) ∙ ap (λ zs. elem_refs t.elems ++ zs) (append-nil _ ∙ declared_funcs rs)

  old_among : (rs : List ℕ) (x : ℕ) → (is_among (elem_refs t.elems) x ≡ true) ⊎ (is_among rest x ≡ true) → is_among ((elem_refs t.elems ++ rs) ++ rest) x ≡ true
  old_among rs x (inl k) = among_left (elem_refs t.elems ++ rs) rest x (among_left (elem_refs t.elems) rs x k)
  old_among rs x (inr k) = among_right (elem_refs t.elems ++ rs) rest x k

  -- The functions of a segment are named outside the bodies once the segment is added, and so are
  -- those that were named before.
  refs_more : (rs : List ℕ) (x : ℕ) → (is_among (refs_of t) x ≡ true) ⊎ (is_among rs x ≡ true) → is_among (refs_of (with_segment (declaring rs))) x ≡ true
  refs_more rs x h = ap (λ zs. is_among (zs ++ rest) x) (elem_refs_more rs) ∙ ⊎_elim (λ k. old_among rs x (among_either (elem_refs t.elems) rest x k)) (λ k. among_left (elem_refs t.elems ++ rs) rest x (among_right (elem_refs t.elems) rs x k)) h

  refs_with : (rs : List ℕ) (x : ℕ) → (is_among (refs_of t) x ≡ true) ⊎ (is_among rs x ≡ true) → is_among (refs_of (with_declared t rs)) x ≡ true
  refs_with [] x (inl k) = k
  refs_with [] x (inr k) = cc
  refs_with (r ∷ rs) x h = refs_more (r ∷ rs) x h

  -- ---- items with one more segment ----

  module _ (s : ElemSeg) where
    const_same : (e : ConstExpr) → const_type (with_segment s) e ≡ const_type t e
    const_same (const.I32 v) = refl
    const_same (const.I64 v) = refl
    const_same (const.Null q) = refl
    const_same (const.Func f) = refl
    const_same (const.Global g) = refl

    import_same : (d : ImportDesc) → ImportHolds t d → ImportHolds (with_segment s) d
    import_same (im.Func ty) h = h
    import_same (im.Table ty) h = h
    import_same (im.Memory l) h = h
    import_same (im.Global g) h = h

    export_same : (d : ExportDesc) → InSpace t d → InSpace (with_segment s) d
    export_same (ex.Func i) h = h
    export_same (ex.Table i) h = h
    export_same (ex.Memory i) h = h
    export_same (ex.Global i) h = h

    elem_mode_same : (q : RefType) (mode : ElemMode) → ElemModeHolds t q mode → ElemModeHolds (with_segment s) q mode
    elem_mode_same q (elem.Active table offset) h = (h.0, const_same offset ∙ h.1)
    elem_mode_same q elem.Passive h = tt
    elem_mode_same q elem.Declarative h = tt

    data_mode_same : (mode : DataMode) → DataModeHolds t mode → DataModeHolds (with_segment s) mode
    data_mode_same («data».Active memory offset) h = (h.0, const_same offset ∙ h.1)
    data_mode_same «data».Passive h = tt

    elem_same : (i : ℕ) → HoldsAt t kind.Elem i → HoldsAt (with_segment s) kind.Elem i
    elem_same i (z, at, items, mode) = (z, append_at_left t.elems (s ∷ []) i z at, (λ j e g. const_same e ∙ items j e g), elem_mode_same z.ty z.mode mode)

  -- A declarative segment of functions of the index space is valid.
  declaring_holds : (rs : List ℕ) (i : ℕ) → ((j x : ℕ) → slice_get rs j ≡ Some x → x < space) → slice_get (t.elems ++ declaring rs ∷ []) i ≡ Some (declaring rs) → HoldsAt (with_segment (declaring rs)) kind.Elem i
  declaring_holds rs i within at = (declaring rs, at, each, tt)
    where
      each : (j : ℕ) (e : ConstExpr) → slice_get (map const.Func rs) j ≡ Some e → const_type (with_segment (declaring rs)) e ≡ Some (Ref func_ref)
      each j e g =
          let r = map_from const.Func rs j e g in
          ap (const_type (with_segment (declaring rs))) (sym r.2) ∙ ap (λ b. only b (Some (Ref func_ref))) (lt-ltb _ _ (within j r.0 r.1))

  elems_hold : (rs : List ℕ) → ((j x : ℕ) → slice_get rs j ≡ Some x → x < space) → ElemsHold → (i : ℕ) → i < length (t.elems ++ declaring rs ∷ []) → HoldsAt (with_segment (declaring rs)) kind.Elem i
  elems_hold rs within holds i lt = here (slice_get_there (t.elems ++ declaring rs ∷ []) i lt)
    where
      here : (z : ElemSeg) × (slice_get (t.elems ++ declaring rs ∷ []) i ≡ Some z) → HoldsAt (with_segment (declaring rs)) kind.Elem i
      here (z, e) = there (push_from t.elems (declaring rs) i z e)
        where
          there : (slice_get t.elems i ≡ Some z) ⊎ (z ≡ declaring rs) → HoldsAt (with_segment (declaring rs)) kind.Elem i
          there (inl f) = elem_same (declaring rs) i (holds i (slice_get_within t.elems i z f))
          there (inr f) = declaring_holds rs i within (e ∙ ap Some f)

  -- ---- bodies ----

  -- Each function that a body names may be named by `ref.func`.
  abbrev NamesHold : Module → Type 0
  NamesHold u = (x : ℕ) → x < space → is_among (body_refs t.funcs) x ≡ true → slice_get (named_of u) x ≡ Some true

  names_hold : ElemsHold → (rs : List ℕ) → declared_refs t ≡ rs → (x : ℕ) → x < space → is_among (body_refs t.funcs) x ≡ true → is_among (refs_of (with_declared t rs)) x ≡ true
  names_hold holds rs e x lt h = refs_with rs x (here (named_or_missing holds x lt h))
    where
      here : (is_among (refs_of t) x ≡ true) ⊎ (is_among (declared_refs t) x ≡ true) → (is_among (refs_of t) x ≡ true) ⊎ (is_among rs x ≡ true)
      here (inl k) = inl k
      here (inr k) = inr (ap (λ zs. is_among zs x) (sym e) ∙ k)

  body_named : (i : ℕ) (f : Func) → slice_get t.funcs i ≡ Some f → (x : ℕ) → is_among (refs_all f.body) x ≡ true → is_among (body_refs t.funcs) x ≡ true
  body_named i f e x h = among_joined (λ g. refs_all g.body) t.funcs i f x e h

  body_same : NamesHold t → (i : ℕ) → HoldsButForReferences t kind.Body i → HoldsAt t kind.Body i
  body_same names i (f, ft, at, ty, w) =
      let c = any_named (body_context t f ft) in
      (f, ft, at, ty, typed_wider c (elem_types t.elems) (named_of t) (λ j v q. q) f.body [] ft.results (λ x k n. names x (replicate_within true true space x n) (body_named i f at x k)) w)

  body_more : (s : ElemSeg) → NamesHold (with_segment s) → (i : ℕ) → HoldsButForReferences t kind.Body i → HoldsAt (with_segment s) kind.Body i
  body_more s names i (f, ft, at, ty, w) =
      let c = any_named (body_context t f ft) in
      let more : (j : ℕ) → Keeps (slice_get (elem_types t.elems) j) (slice_get (elem_types (t.elems ++ s ∷ [])) j) = λ j v q. ap (λ zs. slice_get zs j) (map-append (λ z. z.ty) t.elems (s ∷ [])) ∙ append_at_left (elem_types t.elems) (s.ty ∷ []) j v q in
      (f, ft, at, ty, typed_wider c (elem_types (t.elems ++ s ∷ [])) (named_of (with_segment s)) more f.body [] ft.results (λ x k n. names x (replicate_within true true space x n) (body_named i f at x k)) w)

  -- ---- the tree ----

  same_holds : NamesHold t → (k : ItemKind) (i : ℕ) → HoldsButForReferences t k i → HoldsAt t k i
  same_holds names kind.Body i h = body_same names i h
  same_holds names k i h = h

  module _ (rs : List ℕ) (within : (j x : ℕ) → slice_get rs j ≡ Some x → x < space) (names : NamesHold (with_segment (declaring rs))) (weak : IsValidButForReferences t) where
    abbrev s : ElemSeg
    s = declaring rs

    more_holds : ItemsHold (with_segment s)
    more_holds kind.Import i lt = let (x, at, p) = weak kind.Import i lt in (x, at, import_same s x.desc p)
    more_holds kind.Memories i lt = absurd (omega arith)
    more_holds kind.Func i lt = weak kind.Func i lt
    more_holds kind.Table i lt = weak kind.Table i lt
    more_holds kind.Memory i lt = weak kind.Memory i lt
    more_holds kind.Global i lt = let (g, at, p) = weak kind.Global i lt in (g, at, const_same s g.init ∙ p)
    more_holds kind.Export i lt = let (e, at, p, fresh) = weak kind.Export i lt in (e, at, export_same s e.desc p, fresh)
    more_holds kind.Start i lt = weak kind.Start i lt
    more_holds kind.Elem i lt = elems_hold rs within (weak kind.Elem) i lt
    more_holds kind.Segment i lt = let (z, at, p) = weak kind.Segment i lt in (z, at, data_mode_same s z.mode p)
    more_holds kind.Body i lt = body_more s names i (weak kind.Body i lt)

  with_valid : ValidWhereItemsHold → IsValidButForReferences t → (rs : List ℕ) → declared_refs t ≡ rs → IsValid (with_declared t rs)
  with_valid law weak [] e =
      let names : NamesHold t = λ x lt h. among_is_marked (refs_of t) space x lt (names_hold (weak kind.Elem) [] e x lt h) in
      (law t).1 (λ k i lt. same_holds names k i (weak k i lt))
  with_valid law weak (r ∷ rs) e =
      let u = with_segment (declaring (r ∷ rs)) in
      let names : NamesHold u = λ x lt h. among_is_marked (refs_of u) space x lt (names_hold (weak kind.Elem) (r ∷ rs) e x lt h) in
      let within : (j x : ℕ) → slice_get (r ∷ rs) j ≡ Some x → x < space = λ j x g. let lt = passed_within is_missing 0 space j x (ap (λ zs. slice_get zs j) e ∙ g) in omega arith in
      (law u).1 (more_holds (r ∷ rs) within names weak)

pub declared_valid : ValidWhereItemsHold → (t : Module) → IsValidButForReferences t → IsValid (declared t)
declared_valid law t weak = with_valid t law weak (declared_refs t) refl

with_single : (t : Module) (rs : List ℕ) → IsSingle t → IsSingle (with_declared t rs)
with_single t [] h = h
with_single t (r ∷ rs) h = h

pub declared_single : (t : Module) → IsSingle t → IsSingle (declared t)
declared_single t = with_single t (declared_refs t)

with_bounded : (t : Module) (rs : List ℕ) → IsBounded t → length t.elems + 1 < 2 ^ 32 → IsBounded (with_declared t rs)
with_bounded t [] h few = h
with_bounded t (r ∷ rs) h few = record {
  types = h.types;
  imports = h.imports;
  funcs = h.funcs;
  tables = h.tables;
  memories = h.memories;
  globals = h.globals;
  exports = h.exports;
  elems = subst (λ n. n < 2 ^ 32) (sym (length-append t.elems (declaring (r ∷ rs) ∷ []))) few;
  datas = h.datas;
  locals = h.locals;
}

pub declared_bounded : (t : Module) → IsBounded t → length t.elems + 1 < 2 ^ 32 → IsBounded (declared t)
declared_bounded t = with_bounded t (declared_refs t)

-- ---- valid trees ----

body_in_named : (t : Module) → ((i : ℕ) → i < length t.funcs → HoldsAt t kind.Body i) → (x : ℕ) → is_among (body_refs t.funcs) x ≡ true → is_among (outside_refs t) x ≡ true
body_in_named t holds x h = here (joined_among (λ f. refs_all f.body) t.funcs x h)
  where
    here : (i : ℕ) × (f : Func) × (slice_get t.funcs i ≡ Some f) × (is_among (refs_all f.body) x ≡ true) → is_among (outside_refs t) x ≡ true
    here (i, f, e, k) = there (holds i (slice_get_within t.funcs i f e))
      where
        there : HoldsAt t kind.Body i → is_among (outside_refs t) x ≡ true
        there (g, ft, at, ty, w) =
            let same : g ≡ f = cc in
            let named = typed_named (body_context t g ft) g.body [] ft.results w x (subst (λ (z : Func). is_among (refs_all z.body) x ≡ true) (sym same) k) in
            among_left (refs_of t) (offset_refs t.elems) x (marked_is_among (refs_of t) (length (funcs_of t)) x named)

pub declared_stays : ValidWhereItemsHold → (t : Module) → IsValid t → declared t ≡ t
declared_stays law t valid =
    let none : declared_refs t ≡ [] = filter_none (λ f. is_among (body_refs t.funcs) f && not (is_among (outside_refs t) f)) (range_with_len 0 (length (funcs_of t)))
    (λ x. and_not (is_among (body_refs t.funcs) x) (is_among (outside_refs t) x) (body_in_named t (λ i lt. (law t).0 valid kind.Body i lt) x)) in
    ap (with_declared t) none

weaker_item : (t : Module) (k : ItemKind) (i : ℕ) → HoldsAt t k i → HoldsButForReferences t k i
weaker_item t kind.Body i (f, ft, at, ty, w) =
    let c = body_context t f ft in
    (f, ft, at, ty, typed_wider c (elem_types t.elems) (replicate (length (funcs_of t)) true) (λ j v q. q) f.body [] ft.results (λ x k n. replicate_at true (length (funcs_of t)) x (named_within (refs_of t) 0 (length (funcs_of t)) x true n)) w)
weaker_item t k i h = h

pub valid_weaker : ValidWhereItemsHold → (t : Module) → IsValid t → IsValidButForReferences t
valid_weaker law t valid = λ k i lt. weaker_item t k i ((law t).0 valid k i lt)
