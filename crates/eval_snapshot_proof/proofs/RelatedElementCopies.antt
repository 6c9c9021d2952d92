-- The element segments of a module and of its snapshot: both copy the same references into tables
-- and leave the same segments, and the references are to functions that both have.
use Rattle.base_lists.proofs.Common.{◌≡◌, ◌∙◌, sym, ap, ap₂, refl, subst, ℕ, suc, List, [], ◌∷◌, ◌++◌, length, Bool, true, false, cond, Option, Some, None, slice_get, same_Some, and_then_is, overwrite_rel, opt_self}
use Rattle.base_lists.specs.Options.{◌>>=◌}
use Rattle.wasm_tree_spec.specs.Prelude.{ConstExpr, ElemMode, ElemSeg, Module, tables_of}
use Rattle.wasm_tree.specs.declared.module.ElemMode.TheVariants as elem
use Rattle.wasm_num.specs.Operations.{W32}
use Rattle.wasm_meaning.specs.Prelude.{overwrite, Text, Inst, RefVal, Val, Elem, num_of, ref_of, Environment, all_there, elem_with, new_elem}
use Rattle.run_simulation.specs.Prelude.{Pairing, ListRel, nil, cons, RefRel, ElemRel}
use Rattle.index_remap_proof.specs.Indices.{ConstNamesOnly, ElemModeNamesOnly, TreeNamesOnly, with_entry}
use Rattle.world_simulation.specs.Prelude.{one, IsInst, last_segments}
use Rattle.world_simulation.specs.InstantiatedStores.{contents, is_address, over, all_over, elem_copy, elem_copies, elem_left}
use Rattle.world_simulation.proofs.AllocatedStores.{ref_rel}
use Rattle.eval_spec.specs.Prelude.{State}
use Rattle.eval_snapshot_spec.specs.Snapshot.{snapshot}
use Rattle.world_simulation.specs.ConstantValues.{ConstantsAloneReadTheEnvironment}
use Rattle.eval_snapshot_proof.specs.EvaluatedWorlds.{with_empty_func}
use Rattle.eval_snapshot_proof.proofs.RelatedInstances.{R, first_value, second_value, table_shared, value_itself, values_same}
use Rattle.eval_snapshot_proof.proofs.NamedIndices.{below, each_index}

-- The items and the mode of each of these segments name only indices of the module.
abbrev pub SegmentsName : Module → List ElemSeg → Type 0
SegmentsName m es = (n : ℕ) (e : ElemSeg) → slice_get es n ≡ Some e →
    ((p : ℕ) (x : ConstExpr) → slice_get e.items p ≡ Some x → ConstNamesOnly (with_entry (each_index m)) x) × ElemModeNamesOnly (with_entry (each_index m)) e.mode

pub segments_name : (m : Module) → TreeNamesOnly (with_entry (each_index m)) m → SegmentsName m m.elems
segments_name m named n e at = ((λ p x is. named.items n p e x at is), named.elem_modes n e at)

module _ (constants : ConstantsAloneReadTheEnvironment) (env : Environment) (m : Module) (s : State) (name : Text) (names kept : List Text) (i j : Inst) (a : IsInst env (one (with_empty_func m)) 0 (with_empty_func m) i)
    (b : IsInst env (one (snapshot m s (name ∷ names) kept)) 0 (snapshot m s (name ∷ names) kept) j) where
  abbrev pub Q : Pairing
  Q = R env m s name names kept

  abbrev first : ConstExpr → Option Val
  first = first_value env m s name names kept i j a b

  abbrev second : ConstExpr → Option Val
  second = second_value env m s name names kept i j a b

  abbrev ItemsName : List ConstExpr → Type 0
  ItemsName xs = (p : ℕ) (x : ConstExpr) → slice_get xs p ≡ Some x → ConstNamesOnly (with_entry (each_index m)) x

  items_same : (xs : List ConstExpr) → ItemsName xs → all_there (λ x. first x >>= ref_of) xs ≡ all_there (λ x. second x >>= ref_of) xs
  items_same [] h = refl
  items_same (x ∷ xs) h = ap₂ (λ o p. o >>= λ y. p >>= λ ys. Some (y ∷ ys)) (ap (λ o. o >>= ref_of) (values_same env m s name names kept i j a b constants x (h 0 x refl))) (items_same xs (λ p. h (suc p)))

  items_itself : (xs : List ConstExpr) (rs : List RefVal) → ItemsName xs → all_there (λ x. first x >>= ref_of) xs ≡ Some rs → ListRel (RefRel Q) rs rs
  items_itself [] rs h is = subst (λ rs. ListRel (RefRel Q) rs rs) (same_Some _ _ is) nil
  items_itself (x ∷ xs) rs h is =
      let o = and_then_is (first x >>= ref_of) _ rs is in
      let y = and_then_is (first x) ref_of o.0 o.1 in
      let rest = and_then_is (all_there (λ x. first x >>= ref_of) xs) _ rs o.2 in
      let r = opt_self (ref_rel Q (value_itself env m s name names kept i j a b constants x y.0 (h 0 x refl) y.1)) y.2 in
      subst (λ rs. ListRel (RefRel Q) rs rs) (same_Some _ _ rest.2) (cons r (items_itself xs rest.0 (λ p. h (suc p)) rest.1))

  -- ---- copies ----

  pub copy_same : (e : ElemSeg) (mode : ElemMode) → ItemsName e.items → ElemModeNamesOnly (with_entry (each_index m)) mode → elem_copy first i e mode ≡ elem_copy second j e mode
  copy_same e (elem.Active x offset) h k =
      let o = table_shared env m s name names kept i j a b x (below (length (tables_of m)) x k.0) in
      ap (λ q. contents q (first offset >>= num_of W32) (all_there (λ x. first x >>= ref_of) e.items)) (o.first ∙ sym o.second)
      ∙ ap (λ q. contents (slice_get j.tables x) (q >>= num_of W32) (all_there (λ x. first x >>= ref_of) e.items)) (values_same env m s name names kept i j a b constants offset k.1)
      ∙ ap (contents (slice_get j.tables x) (second offset >>= num_of W32)) (items_same e.items h)
  copy_same e elem.Passive h k = refl
  copy_same e elem.Declarative h k = refl

  -- An element segment that declares references copies nothing, so the copies are the same with it.
  pub copies_same : (address : ℕ) (fs : List ℕ) (es : List ElemSeg) → SegmentsName m es → (xs : List RefVal) →
      all_over address (elem_copies second j (es ++ last_segments fs)) xs ≡ all_over address (elem_copies first i es) xs
  copies_same address [] [] h xs = refl
  copies_same address (f ∷ fs) [] h xs = refl
  copies_same address fs (e ∷ es) h xs =
      ap (λ c. over address c xs >>= all_over address (elem_copies second j (es ++ last_segments fs))) (sym (copy_same e e.mode (h 0 e refl).0 (h 0 e refl).1))
      ∙ on_both (λ ys. copies_same address fs es (λ n. h (suc n)) ys) (over address (elem_copy first i e e.mode) xs)
    where
      on_both : ((ys : List RefVal) → all_over address (elem_copies second j (es ++ last_segments fs)) ys ≡ all_over address (elem_copies first i es) ys) → (o : Option (List RefVal)) →
          (o >>= all_over address (elem_copies second j (es ++ last_segments fs))) ≡ (o >>= all_over address (elem_copies first i es))
      on_both again None = refl
      on_both again (Some ys) = again ys

  over_itself : (address : ℕ) (to offset : Option ℕ) (copied : Option (List RefVal)) (xs zs : List RefVal) → ((ys : List RefVal) → copied ≡ Some ys → ListRel (RefRel Q) ys ys) →
      ListRel (RefRel Q) xs xs → over address (contents to offset copied) xs ≡ Some zs → ListRel (RefRel Q) zs zs
  over_itself address to offset copied xs zs h r is = by (is_address to address) is
    where
      by : (b : Bool) → cond b (offset >>= λ n. copied >>= λ ys. overwrite xs n ys) (Some xs) ≡ Some zs → ListRel (RefRel Q) zs zs
      by true e =
          let n = and_then_is offset _ zs e in
          let ys = and_then_is copied _ zs n.2 in
          opt_self (overwrite_rel n.0 r (h ys.0 ys.1)) ys.2
      by false e = subst (λ zs. ListRel (RefRel Q) zs zs) (same_Some _ _ e) r

  one_itself : (address : ℕ) (e : ElemSeg) (mode : ElemMode) → ItemsName e.items → (xs zs : List RefVal) → ListRel (RefRel Q) xs xs → over address (elem_copy first i e mode) xs ≡ Some zs →
      ListRel (RefRel Q) zs zs
  one_itself address e (elem.Active x offset) h xs zs r is = over_itself address _ _ (all_there (λ x. first x >>= ref_of) e.items) xs zs (λ ys k. items_itself e.items ys h k) r is
  one_itself address e elem.Passive h xs zs r is = subst (λ zs. ListRel (RefRel Q) zs zs) (same_Some _ _ is) r
  one_itself address e elem.Declarative h xs zs r is = subst (λ zs. ListRel (RefRel Q) zs zs) (same_Some _ _ is) r

  pub copies_itself : (address : ℕ) (es : List ElemSeg) → SegmentsName m es → (xs zs : List RefVal) → ListRel (RefRel Q) xs xs → all_over address (elem_copies first i es) xs ≡ Some zs →
      ListRel (RefRel Q) zs zs
  copies_itself address [] h xs zs r is = subst (λ zs. ListRel (RefRel Q) zs zs) (same_Some _ _ is) r
  copies_itself address (e ∷ es) h xs zs r is =
      let o = and_then_is (over address (elem_copy first i e e.mode) xs) _ zs is in
      copies_itself address es (λ n. h (suc n)) o.0 zs (one_itself address e e.mode (h 0 e refl).0 xs o.0 r o.1) o.2

  -- ---- what is left of a segment ----

  pub elem_same : (e : ElemSeg) → ItemsName e.items → elem_with first e ≡ elem_with second e
  elem_same e h = ap (λ o. o >>= λ items. Some (new_elem e.mode items)) (items_same e.items h)

  pub left_same : (e : ElemSeg) (mode : ElemMode) → ItemsName e.items → elem_left first e mode ≡ elem_left second e mode
  left_same e elem.Passive h = elem_same e h
  left_same e (elem.Active x offset) h = refl
  left_same e elem.Declarative h = refl

  new_itself : (mode : ElemMode) (rs : List RefVal) → ListRel (RefRel Q) rs rs → ElemRel Q (new_elem mode rs) (new_elem mode rs)
  new_itself elem.Passive rs r = record { items = r }
  new_itself (elem.Active x offset) rs r = record { items = r }
  new_itself elem.Declarative rs r = record { items = nil }

  pub left_itself : (e : ElemSeg) (mode : ElemMode) (y : Elem) → ItemsName e.items → elem_left first e mode ≡ Some y → ElemRel Q y y
  left_itself e elem.Passive y h is =
      let rs = and_then_is (all_there (λ x. first x >>= ref_of) e.items) _ y is in
      subst (λ y. ElemRel Q y y) (same_Some _ _ rs.2) (new_itself e.mode rs.0 (items_itself e.items rs.0 h rs.1))
  left_itself e (elem.Active x offset) y h is = subst (λ y. ElemRel Q y y) (same_Some _ _ is) (record { items = nil })
  left_itself e elem.Declarative y h is = subst (λ y. ElemRel Q y y) (same_Some _ _ is) (record { items = nil })
