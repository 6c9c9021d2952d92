-- The conditions under which a segment is copied at the instantiation of its module (WebAssembly
-- Core 2.0, section 4.5.4), and the store after the copy.
use Rattle.base_lists.proofs.Common.{◌≡◌, ◌∙◌, ap, subst, refl, ℕ, suc, List, [], ◌∷◌, length, Bool, true, false, cond, Option, Some, None, slice_get, option_and_then, same_Some}
use Rattle.base_lists.specs.Every.{Every}
use Rattle.wasm_tree_spec.specs.Prelude.{Space, Types, Functions, Tables, Memories, Globals, ElementSegments, DataSegments, same_space, Import, ImportDesc, space_of_import}
use Rattle.wasm_tree.specs.declared.module.ImportDesc.TheVariants as im
use Rattle.wasm_meaning.specs.Prelude.{overwrite, RefVal, Inst, Store, Table, Memory, Elem, Data, SetTable, SetMemory, DropElem, DropData, changed, has_kind, places, Filled, copy_bytes, copy_data, copy_elem, copy_slots, or_trapped}
use Rattle.run_simulation.specs.Prelude.{BothRel, both}
use Rattle.eval_spec.specs.Prelude.{State, Finished, Test, first_held, stopped_or}

-- ---- what no test stopped ----

-- A finished stage fulfilled none of the tests that stop it.
pub went : (ts : List Test) (u s : State) → stopped_or (first_held ts) (Finished u) ≡ Finished s → Every (λ t. t.holds ≡ false) ts × (u ≡ s)
went [] u s e = (tt, cc)
went (t ∷ ts) u s e = by t.holds refl e (went ts u s)
  where
    by : (b : Bool) → t.holds ≡ b → stopped_or (cond b (Some t) (first_held ts)) (Finished u) ≡ Finished s →
        (stopped_or (first_held ts) (Finished u) ≡ Finished s → Every (λ t. t.holds ≡ false) ts × (u ≡ s)) → Every (λ t. t.holds ≡ false) (t ∷ ts) × (u ≡ s)
    by true h e again = absurd (let k = e in cc)
    by false h e again = let r = again e in ((h, r.0), r.1)

-- A copy that does not trap found what it looked up.
goes_on : {A : Type 0} (s : Store) (o : Option A) (f : A → Option Filled) → (or_trapped s (option_and_then f o)).trapped ≡ false → (a : A) × (o ≡ Some a) × ((or_trapped s (f a)).trapped ≡ false)
goes_on s None f e = absurd (let k = e in cc)
goes_on s (Some a) f e = (a, refl, e)

pub both_there : {A B : Type 0} {P : A → B → Type 0} {o : Option A} {p : Option B} → BothRel P o p → (a : A) → o ≡ Some a → (b : B) × (p ≡ Some b) × P a b
both_there {P = P} (both {a = x} {b = y} r) a e = (y, refl, subst (λ x. P x y) (same_Some x a e) r)

-- The relation may also use that the first entity is the one found.
pub with_it : {A B : Type 0} {P : A → B → Type 0} {o : Option A} {p : Option B} → BothRel P o p → BothRel (λ a b. (o ≡ Some a) × P a b) o p
with_it (both r) = both (refl, r)

abbrev pub is_of_segments : Space → Bool
is_of_segments ElementSegments = true
is_of_segments DataSegments = true
is_of_segments _ = false

no_import : (k : Space) → is_of_segments k ≡ true → (d : ImportDesc) → same_space k (space_of_import d) ≡ false
no_import ElementSegments h (im.Func ty) = refl
no_import ElementSegments h (im.Table t) = refl
no_import ElementSegments h (im.Memory l) = refl
no_import ElementSegments h (im.Global t) = refl
no_import DataSegments h (im.Func ty) = refl
no_import DataSegments h (im.Table t) = refl
no_import DataSegments h (im.Memory l) = refl
no_import DataSegments h (im.Global t) = refl
no_import Types h d = absurd (let k = h in cc)
no_import Functions h d = absurd (let k = h in cc)
no_import Tables h d = absurd (let k = h in cc)
no_import Memories h d = absurd (let k = h in cc)
no_import Globals h d = absurd (let k = h in cc)

-- No import is a segment.
pub none_imported : (k : Space) → is_of_segments k ≡ true → (is : List Import) (from : ℕ) → length (places (has_kind k) is from) ≡ 0
none_imported k h [] from = refl
none_imported k h (x ∷ is) from = ap (λ b. length (cond b (from ∷ places (has_kind k) is (suc from)) (places (has_kind k) is (suc from)))) (no_import k h x.desc) ∙ none_imported k h is (suc from)

-- ---- what a copy did ----

-- The store in which the table has these slots and the element segment is dropped.
abbrev pub with_table : Store → (segment address : ℕ) → Table → List RefVal → Store
with_table s n a t slots = changed (changed s (SetTable a (record t { slots = slots }))) (DropElem n)

-- The store in which the memory has these bytes and the data segment is dropped.
abbrev pub with_memory : Store → (segment address : ℕ) → Memory → List ℕ → Store
with_memory s n a t bytes = changed (changed s (SetMemory a (record t { bytes = bytes }))) (DropData n)

-- An element segment was copied into a table.
pub record ElemCopied (s : Store) (n : ℕ) (i : Inst) (x : ℕ) (o : Option ℕ) : Type 0 where
  pub place : ℕ
  pub place_is : o ≡ Some place
  pub address : ℕ
  pub address_is : slice_get i.tables x ≡ Some address
  pub table : Table
  pub table_is : slice_get s.tables address ≡ Some table
  pub element : Elem
  pub element_is : slice_get s.elems n ≡ Some element
  pub slots : List RefVal
  pub written : overwrite table.slots place element.items ≡ Some slots
  pub left : (copy_elem s n i x o).store ≡ with_table s n address table slots

pub elem_copied : (s : Store) (n : ℕ) (i : Inst) (x : ℕ) (o : Option ℕ) → (copy_elem s n i x o).trapped ≡ false → ElemCopied s n i x o
elem_copied s n i x o e =
    let p = goes_on s o _ e in
    let a = goes_on s (slice_get i.tables x) _ p.2 in
    let t = goes_on s (slice_get s.tables a.0) _ a.2 in
    let d = goes_on s (slice_get s.elems n) _ t.2 in
    by p.0 a.0 t.0 d.0 p.1 a.1 t.1 d.1 (overwrite t.0.slots p.0 d.0.items) refl d.2
  where
    by : (p a : ℕ) (t : Table) (d : Elem) → o ≡ Some p → slice_get i.tables x ≡ Some a → slice_get s.tables a ≡ Some t → slice_get s.elems n ≡ Some d → (w : Option (List RefVal)) →
        overwrite t.slots p d.items ≡ w → (copy_slots s n a t w).trapped ≡ false → ElemCopied s n i x o
    by p a t d pe ae te de None we h = absurd (let k = h in cc)
    by p a t d pe ae te de (Some slots) we h =
        record { place = p; place_is = pe; address = a; address_is = ae; table = t; table_is = te; element = d; element_is = de; slots = slots; written = we; left = rw (pe, ae, te, de, we) refl }

-- A data segment was copied into a memory.
pub record DataCopied (s : Store) (n : ℕ) (i : Inst) (x : ℕ) (o : Option ℕ) : Type 0 where
  pub place : ℕ
  pub place_is : o ≡ Some place
  pub address : ℕ
  pub address_is : slice_get i.mems x ≡ Some address
  pub memory : Memory
  pub memory_is : slice_get s.mems address ≡ Some memory
  pub segment : Data
  pub segment_is : slice_get s.datas n ≡ Some segment
  pub bytes : List ℕ
  pub written : overwrite memory.bytes place segment.bytes ≡ Some bytes
  pub left : (copy_data s n i x o).store ≡ with_memory s n address memory bytes

pub data_copied : (s : Store) (n : ℕ) (i : Inst) (x : ℕ) (o : Option ℕ) → (copy_data s n i x o).trapped ≡ false → DataCopied s n i x o
data_copied s n i x o e =
    let p = goes_on s o _ e in
    let a = goes_on s (slice_get i.mems x) _ p.2 in
    let t = goes_on s (slice_get s.mems a.0) _ a.2 in
    let d = goes_on s (slice_get s.datas n) _ t.2 in
    by p.0 a.0 t.0 d.0 p.1 a.1 t.1 d.1 (overwrite t.0.bytes p.0 d.0.bytes) refl d.2
  where
    by : (p a : ℕ) (t : Memory) (d : Data) → o ≡ Some p → slice_get i.mems x ≡ Some a → slice_get s.mems a ≡ Some t → slice_get s.datas n ≡ Some d → (w : Option (List ℕ)) →
        overwrite t.bytes p d.bytes ≡ w → (copy_bytes s n a t w).trapped ≡ false → DataCopied s n i x o
    by p a t d pe ae te de None we h = absurd (let k = h in cc)
    by p a t d pe ae te de (Some bytes) we h =
        record { place = p; place_is = pe; address = a; address_is = ae; memory = t; memory_is = te; segment = d; segment_is = de; bytes = bytes; written = we; left = rw (pe, ae, te, de, we) refl }

-- A segment is copied without a trap if all parts of the copy exist and the segment fits.
pub elem_copies : (s : Store) (n : ℕ) (i : Inst) (x : ℕ) (o : Option ℕ) (p a : ℕ) (t : Table) (d : Elem) (slots : List RefVal) → o ≡ Some p → slice_get i.tables x ≡ Some a →
    slice_get s.tables a ≡ Some t → slice_get s.elems n ≡ Some d → overwrite t.slots p d.items ≡ Some slots →
    copy_elem s n i x o ≡ record { store = with_table s n a t slots; trapped = false }
elem_copies s n i x o p a t d slots pe ae te de we = rw (pe, ae, te, de, we) refl

pub data_copies : (s : Store) (n : ℕ) (i : Inst) (x : ℕ) (o : Option ℕ) (p a : ℕ) (t : Memory) (d : Data) (bytes : List ℕ) → o ≡ Some p → slice_get i.mems x ≡ Some a →
    slice_get s.mems a ≡ Some t → slice_get s.datas n ≡ Some d → overwrite t.bytes p d.bytes ≡ Some bytes →
    copy_data s n i x o ≡ record { store = with_memory s n a t bytes; trapped = false }
data_copies s n i x o p a t d bytes pe ae te de we = rw (pe, ae, te, de, we) refl
