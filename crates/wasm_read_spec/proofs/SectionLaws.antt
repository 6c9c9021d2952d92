-- A section is read exactly if its content is encoded and within the limits.
use Rattle.base_lists.proofs.Common.{◌≡◌, ℕ, List, [], ◌∷◌, ◌++◌, length, Result, Ok, Err, Bool, true, false, None, ⊎_elim, refl, sym, ap, ◌∙◌, subst, append-nil, eqb-suc-zero, ◌==◌, if◌then◌else◌, cond_is, bind_ok, err_ok}
use Rattle.wasm_bytes.specs.Prelude.{Vector, ◌>>=◌, IsBytes}
use Rattle.wasm_tree_spec.specs.Prelude.{Imports, Exports, FuncType, imported_funcs, limit}
use Rattle.wasm_tree.specs.declared.which.Which.TheVariants.{Types, Functions, Tables, Memories, Globals, ElementSegments, DataSegments}
use Rattle.wasm_read_spec.specs.declared.fault.Fault.{Fault}
use Rattle.wasm_read_spec.specs.declared.fault.Fault.TheVariants as fault
use Rattle.wasm_read_spec.specs.declared.fault.ReadFault.{ReadFault}
use Rattle.wasm_read_spec.specs.declared.fault.ReadFault.TheVariants.{Malformed}
use Rattle.wasm_read_spec.specs.declared.parts.Parts.{Parts}
use Rattle.wasm_read_spec.specs.Prelude.{Never, MadeFrom, When, Any, Few, Limited, WhenSmall, SpellsFuncType, SpellsEntry, SmallCode, with_types, with_imports, with_func_types, with_tables, with_mems, with_globals, with_exports, with_start, with_elems, with_codes, with_datas, with_count}
use Rattle.wasm_read_spec.specs.Prelude.{SpellsCustom, Reader, name_at, func_type_of, in_place, codes_at, custom_at, put_at}
use Rattle.wasm_read_spec.specs.Files.{section_form, small_form}
use Rattle.wasm_read_spec.specs.Reading.{whole_at}
use Rattle.wasm_read_spec.specs.Contents.{section_at}
use Rattle.wasm_read_spec.specs.Unambiguous.{IsPrefixFree, ItemsArePrefixFree}
use Rattle.wasm_read_spec.specs.Exact.{Exact}
use Rattle.wasm_read_spec.proofs.Exact.{u32_exact, name_exact, both_exact, mapped_exact, tagged_exact, list_exact, vector_exact}
use Rattle.wasm_read_spec.proofs.ItemLaws.{val_exact, func_type_exact, import_exact, table_exact, limits_exact, global_def_exact, export_exact, elem_exact, data_exact}
use Rattle.wasm_read_spec.proofs.EntryLaws.{prefix_free_of, vector_prefix_free, entry_prefix_free, in_ok, codes_sound, codes_complete}

-- ---- all of the bytes

none_left : (bs : List ℕ) → (length bs == 0) ≡ true → bs ≡ []
none_left [] e = refl
none_left (b ∷ bs) e = absurd (let bad = sym (eqb-suc-zero (length bs)) ∙ e in cc)

module _ {A : Type 0} (P : List ℕ → A → Type 0) (S : A → Type 0) (r : Reader A) (exact : Exact P S r) where
  whole_sound : (bs : List ℕ) (x : A) → IsBytes bs → whole_at r bs ≡ Ok x → P bs x × S x
  unfolding whole_at
  whole_sound bs x small e =
      let w = bind_ok (r bs) _ _ e in
      let t = exact.sound bs w.0.0 w.0.1 small w.1 in
      ⊎_elim
      (λ h.
      let none = none_left w.0.1 h.0 in
      let all : bs ≡ t.0.0 = t.0.2 ∙ ap (λ z. t.0.0 ++ z) none ∙ append-nil t.0.0 in
      let same : w.0.0 ≡ x = (let k = h.1 in cc) in
      (subst (P bs) same (subst (λ z. P z w.0.0) (sym all) t.0.1), subst S same t.1))
      (λ h. absurd (err_ok fault.Malformed _ h.1))
      (cond_is _ _ _ _ w.2)

  whole_complete : (bs : List ℕ) (x : A) → P bs x → S x → whole_at r bs ≡ Ok x
  unfolding whole_at
  whole_complete bs x h k =
      let e : r bs ≡ Ok (x, []) = subst (λ z. r z ≡ Ok (x, [])) (append-nil bs) (exact.complete bs [] x h k) in rw e

pub one_whole : {A : Type 0} (P : List ℕ → A → Type 0) → IsPrefixFree P → (c : List ℕ) (x y : A) → P c x → P c y → x ≡ y
one_whole P free c x y h k = (free c c [] [] x y refl h k).0

-- ---- sections

-- The reading function of a content finds what is encoded and small, and nothing else.
pub record Right (spells : List ℕ → Parts → Type 0) (small : List ℕ → Type 0) (read : List ℕ → Result Parts ReadFault) : Type 0 where
  pub sound : (c : List ℕ) (q : Parts) → IsBytes c → read c ≡ Ok q → spells c q × small c
  pub complete : (c : List ℕ) (q : Parts) → spells c q → small c → read c ≡ Ok q
  pub one : (c : List ℕ) (q r : Parts) → spells c q → spells c r → q ≡ r

right_when : {P Q : List ℕ → Parts → Type 0} {S T : List ℕ → Type 0} {r q : List ℕ → Result Parts ReadFault} (test : Bool) → Right P S r → Right Q T q →
    Right (When test P Q) (WhenSmall test S T) (λ c. if test then r c else q c)
right_when true a b = record { sound = a.sound; complete = a.complete; one = a.one }
right_when false a b = record { sound = b.sound; complete = b.complete; one = b.one }

right_never : (n : ℕ) → Right Never Any (λ c. Err (Malformed n))
right_never n = record {
  sound = λ c q small e. absurd (err_ok (Malformed n) q e);
  complete = λ c q h k. absurd h;
  one = λ c q r h k. absurd h;
}

put_ok : {A : Type 0} (n : ℕ) (make : A → Parts) (r : Result A Fault) (q : Parts) → put_at n make r ≡ Ok q → (x : A) × (r ≡ Ok x) × (q ≡ make x)
put_ok n make r q e =
    let w = bind_ok (in_place n None r) _ _ e in
    (w.0, in_ok false n None r w.0 w.1, let k = w.2 in let same : make w.0 ≡ q = cc in sym same)

right_put : {A : Type 0} {P : List ℕ → A → Type 0} {S : A → Type 0} {r : Reader A} (n : ℕ) (make : A → Parts) → Exact P S r → IsPrefixFree P → Right (MadeFrom make P) (Limited P S) (λ c. put_at n make (whole_at r c))
right_put {A} {P} {S} {r} n make exact free = record {
  sound = λ c q small e.
      let p = put_ok n make (whole_at r c) q e in
      let w = whole_sound P S r exact c p.0 small p.1 in
      ((p.0, w.0, p.2), λ x h. subst S (one_whole P free c p.0 x w.0 h) w.1);
  complete = λ c q h k. rw (whole_complete P S r exact c h.0 h.1 (k h.0 h.1), h.2);
  one = λ c q t h k. h.2 ∙ ap make (one_whole P free c h.0 k.0 h.1 k.1) ∙ sym k.2;
}

-- A section without a limit is read exactly.
right_free : {A : Type 0} {P : List ℕ → A → Type 0} {r : Reader A} (n : ℕ) (make : A → Parts) → Exact P Any r → IsPrefixFree P → Right (MadeFrom make P) Any (λ c. put_at n make (whole_at r c))
right_free {A} {P} {r} n make exact free = record {
  sound = λ c q small e. let w = (right_put n make exact free).sound c q small e in (w.0, tt);
  complete = λ c q h k. (right_put n make exact free).complete c q h (λ x y. tt);
  one = λ c q t h k. (right_put n make exact free).one c q t h k;
}

custom_sound : (n : ℕ) (p : Parts) (c : List ℕ) (q : Parts) → IsBytes c → put_at n (λ u. p) (custom_at c) ≡ Ok q → SpellsCustom p c q
custom_sound n p c q small e =
    let w = put_ok n (λ u. p) (custom_at c) q e in
    let m = bind_ok (name_at c) _ _ w.1 in
    let t = (name_exact.sound c m.0.0 m.0.1 small m.1).0 in
    ((m.0.0, (t.0, m.0.1, t.1, tt, t.2)), w.2)

right_custom : (n : ℕ) (p : Parts) → Right (SpellsCustom p) Any (λ c. put_at n (λ u. p) (custom_at c))
right_custom n p = record {
  sound = λ c q small e. (custom_sound n p c q small e, tt);
  complete = λ c q h k. let t = h.0.1 in rw (t.4, name_exact.complete t.0 t.1 h.0.0 t.2 tt, h.1);
  one = λ c q r h k. h.1 ∙ sym k.1;
}

right_codes : (many : Bool) (n func : ℕ) (p : Parts) → Right (MadeFrom (with_codes p) (Vector (SpellsEntry many))) (Limited (Vector (SpellsEntry many)) (Few (limit Functions) SmallCode)) (λ c. codes_at many n func c >>= (λ xs. Ok (with_codes p xs)))
right_codes many n func p = record {
  sound = λ c q small e.
      let w = bind_ok (codes_at many n func c) _ _ e in
      let s = codes_sound many n func c w.0 small w.1 in
      let same : with_codes p w.0 ≡ q = (let k = w.2 in cc) in
      ((w.0, s.0, sym same), λ x h. subst (Few (limit Functions) SmallCode) (one_whole _ (vector_prefix_free (entry_prefix_free many)) c w.0 x s.0 h) s.1);
  complete = λ c q h k. rw (codes_complete many n func c h.0 h.1 (k h.0 h.1), h.2);
  one = λ c q t h k. h.2 ∙ ap (with_codes p) (one_whole _ (vector_prefix_free (entry_prefix_free many)) c h.0 k.0 h.1 k.1) ∙ sym k.2;
}

-- The encodings of function types are prefix-free.
type_prefix_free : IsPrefixFree SpellsFuncType
type_prefix_free = prefix_free_of (tagged_exact 0x60 (mapped_exact func_type_of (λ (t : FuncType). (t.params, t.results)) (λ x. refl) (λ y. refl) (both_exact (list_exact val_exact) (list_exact val_exact))))

-- The encodings of the items of sections are prefix-free.
pub items_prefix_free : ItemsArePrefixFree
items_prefix_free = record {
  types = type_prefix_free;
  imports = prefix_free_of import_exact;
  func_types = prefix_free_of u32_exact;
  tables = prefix_free_of table_exact;
  mems = prefix_free_of limits_exact;
  globals = prefix_free_of global_def_exact;
  exports = prefix_free_of export_exact;
  elems = prefix_free_of elem_exact;
  codes = entry_prefix_free;
  datas = prefix_free_of data_exact;
}

pub section_right : (many : Bool) (n : ℕ) (p : Parts) (id : ℕ) → Right (section_form many p id) (small_form many id) (λ c. section_at many n p (id, c))
unfolding section_form small_form section_at
section_right many n p id =
    right_when (id == 0) (right_custom n p)
    (right_when (id == 1) (right_put n (with_types p) (vector_exact Types func_type_exact) (vector_prefix_free items_prefix_free.types))
    (right_when (id == 2) (right_put n (with_imports p) (vector_exact Imports import_exact) (vector_prefix_free items_prefix_free.imports))
    (right_when (id == 3) (right_put n (with_func_types p) (vector_exact Functions u32_exact) (vector_prefix_free items_prefix_free.func_types))
    (right_when (id == 4) (right_put n (with_tables p) (vector_exact Tables table_exact) (vector_prefix_free items_prefix_free.tables))
    (right_when (id == 5) (right_put n (with_mems p) (vector_exact Memories limits_exact) (vector_prefix_free items_prefix_free.mems))
    (right_when (id == 6) (right_put n (with_globals p) (vector_exact Globals global_def_exact) (vector_prefix_free items_prefix_free.globals))
    (right_when (id == 7) (right_put n (with_exports p) (vector_exact Exports export_exact) (vector_prefix_free items_prefix_free.exports))
    (right_when (id == 8) (right_free n (with_start p) u32_exact (prefix_free_of u32_exact))
    (right_when (id == 9) (right_put n (with_elems p) (vector_exact ElementSegments elem_exact) (vector_prefix_free items_prefix_free.elems))
    (right_when (id == 10) (right_codes many n (length (imported_funcs p.imports)) p)
    (right_when (id == 11) (right_put n (with_datas p) (vector_exact DataSegments data_exact) (vector_prefix_free items_prefix_free.datas))
    (right_when (id == 12) (right_free n (with_count p) u32_exact (prefix_free_of u32_exact))
    (right_never n)))))))))))))
