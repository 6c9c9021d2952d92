-- A module that bytes encode has bytes in its data segments, and its tables have fewer than 2 ^ 32
-- slots.
use Rattle.base_lists.proofs.Common.{ℕ, zero, suc, ◌^◌, ◌<◌, List, [], ◌∷◌, Bool, true, false, sym, subst, arith, ◌==◌}
use Rattle.base_lists.specs.Every.{Every}
use Rattle.wasm_bytes.specs.Prelude.{Section, Each, Sized, U32, Vector, IsBytes, Framed}
use Rattle.wasm_bytes.specs.Numbers.{Unsigned}
use Rattle.wasm_tree_spec.specs.Prelude.{Limits, TableType, DataSeg, Module}
use Rattle.wasm_read_spec.specs.declared.parts.Parts.{Parts}
use Rattle.wasm_read_spec.specs.Prelude.{Both, MadeFrom, Never, When, SpellsConst, SpellsFuncType, SpellsLimits, SpellsTable, at_least, between, SpellsData, SpellsElem, SpellsExport, SpellsGlobalDef, SpellsImport, data0, data1, data2, SpellsEntry, SectionContents, Spells, nothing, tree_of}
use Rattle.wasm_read_spec.specs.Prelude.{with_codes, with_count, with_datas, with_elems, with_exports, with_func_types, with_globals, with_imports, with_mems, with_start, with_tables, with_types}
use Rattle.wasm_read_spec.specs.Values.{limits_form}
use Rattle.wasm_read_spec.specs.Sections.{data_form}
use Rattle.wasm_read_spec.specs.Files.{section_form}
use Rattle.wasm_read_spec.specs.Contents.{AreBytes}
use Rattle.wasm_read_spec.proofs.FileLaws.{front_holds}
use Rattle.wasm_bytes.proofs.Lists.{rest_holds}
use Rattle.wasm_write_proof.proofs.NumberRanges.{says_made, says_never, says_vector, says_when}
use Rattle.wasm_write_proof.specs.Ranges.{EncodesOnly}
use Rattle.eval_snapshot_proof.specs.Ranges.{BeginsInRange, IsByte}

-- ---- tables ----

abbrev FewSlots : Limits → Type 0
FewSlots l = l.min < 2 ^ 32

-- The law that numbers that bytes encode are in range.
abbrev NumbersAreInRange : Type 0
NumbersAreInRange = (bits : ℕ) (text : List ℕ) (n : ℕ) → Unsigned bits text n → n < 2 ^ bits

limits_few : NumbersAreInRange → EncodesOnly FewSlots SpellsLimits
unfolding limits_form
limits_few numbers bytes l h =
    says_when FewSlots _ _ (h.0 == 0x00) (says_made FewSlots at_least U32 (λ b n u. numbers 32 b n u))
    (says_when FewSlots _ _ (h.0 == 0x01) (says_made FewSlots between (Both U32 U32) (λ b p u. numbers 32 u.0 p.0 u.2))
    (says_never FewSlots)) h.1.1 l h.1.3

abbrev FewInTable : TableType → Type 0
FewInTable t = FewSlots t.limits

table_few : NumbersAreInRange → EncodesOnly FewInTable SpellsTable
table_few numbers bytes t h = limits_few numbers h.1 t.limits h.3

-- ---- what spellings by bytes say of their values ----

abbrev SaysOfBytes : {A : Type 0} → (A → Type 0) → (List ℕ → A → Type 0) → Type 0
SaysOfBytes {A} K P = (bytes : List ℕ) (x : A) → IsBytes bytes → P bytes x → K x

of_bytes_when : {A : Type 0} (K : A → Type 0) (P Q : List ℕ → A → Type 0) (test : Bool) → SaysOfBytes K P → SaysOfBytes K Q → SaysOfBytes K (When test P Q)
of_bytes_when K P Q true a b = a
of_bytes_when K P Q false a b = b

of_bytes_made : {A B : Type 0} (K : B → Type 0) (make : A → B) (P : List ℕ → A → Type 0) → SaysOfBytes (λ x. K (make x)) P → SaysOfBytes K (MadeFrom make P)
of_bytes_made K make P a bytes y small h = subst K (sym h.2) (a bytes h.0 small h.1)

of_bytes_never : {A : Type 0} (K : A → Type 0) → SaysOfBytes K Never
of_bytes_never K bytes x small h = absurd h

of_bytes_each : {A : Type 0} (K : A → Type 0) (P : List ℕ → A → Type 0) → SaysOfBytes K P → SaysOfBytes (Every K) (Each P)
of_bytes_each K P a bytes [] small h = tt
of_bytes_each K P a bytes (x ∷ xs) small h = let both = subst IsBytes h.4 small in (a h.0 x (front_holds (λ n. n < 256) (omega arith) h.0 h.1 both) h.2, of_bytes_each K P a h.1 xs (rest_holds (λ n. n < 256) h.0 h.1 both) h.3)

of_bytes_vector : {A : Type 0} (K : A → Type 0) (P : List ℕ → A → Type 0) → SaysOfBytes K P → SaysOfBytes (Every K) (Vector P)
of_bytes_vector K P a bytes xs small h = of_bytes_each K P a h.1 xs (rest_holds (λ n. n < 256) h.0 h.1 (subst IsBytes h.4 small)) h.3

-- ---- data segments ----

each_byte : (bytes : List ℕ) → IsBytes bytes → Every IsByte bytes
each_byte [] small = tt
each_byte (b ∷ bs) small = (small zero, each_byte bs (λ i. small (suc i)))

content_bytes : SaysOfBytes (Every IsByte) Sized
content_bytes bytes content small h = each_byte content (rest_holds (λ n. n < 256) h.0 content (subst IsBytes h.2 small))

abbrev HoldsBytes : DataSeg → Type 0
HoldsBytes d = Every IsByte d.bytes

data_form_bytes : (n : ℕ) → SaysOfBytes HoldsBytes (data_form n)
unfolding data_form
data_form_bytes n =
    of_bytes_when HoldsBytes _ _ (n == 0) (of_bytes_made HoldsBytes data0 (Both SpellsConst Sized) (λ b p small s. content_bytes s.1 p.1 (rest_holds (λ n. n < 256) s.0 s.1 (subst IsBytes s.4 small)) s.3))
    (of_bytes_when HoldsBytes _ _ (n == 1) (of_bytes_made HoldsBytes data1 Sized content_bytes)
    (of_bytes_when HoldsBytes _ _ (n == 2) (of_bytes_made HoldsBytes data2 (Both U32 (Both SpellsConst Sized)) (λ b p small s.
    let r = s.3 in content_bytes r.1 p.1.1 (rest_holds (λ n. n < 256) r.0 r.1 (subst IsBytes r.4 (rest_holds (λ n. n < 256) s.0 s.1 (subst IsBytes s.4 small)))) r.3))
    (of_bytes_never HoldsBytes)))

data_bytes : SaysOfBytes HoldsBytes SpellsData
data_bytes bytes d small h = data_form_bytes h.0 h.1.1 d (rest_holds (λ n. n < 256) h.1.0 h.1.1 (subst IsBytes h.1.4 small)) h.1.3

-- ---- the parts of a file ----

record PartsBegin (p : Parts) : Type 0 where
  tables : Every FewInTable p.tables
  datas : Every HoldsBytes p.datas

module _ (numbers : NumbersAreInRange) (many : Bool) where
  section_begins : (p : Parts) (id : ℕ) → PartsBegin p → SaysOfBytes PartsBegin (section_form many p id)
  unfolding section_form
  section_begins p id r =
      of_bytes_when PartsBegin _ _ (id == 0) (λ c q small h. subst PartsBegin (sym h.1) r)
      (of_bytes_when PartsBegin _ _ (id == 1) (of_bytes_made PartsBegin (with_types p) (Vector SpellsFuncType) (λ c x small h. record { tables = r.tables; datas = r.datas }))
      (of_bytes_when PartsBegin _ _ (id == 2) (of_bytes_made PartsBegin (with_imports p) (Vector SpellsImport) (λ c x small h. record { tables = r.tables; datas = r.datas }))
      (of_bytes_when PartsBegin _ _ (id == 3) (of_bytes_made PartsBegin (with_func_types p) (Vector U32) (λ c x small h. record { tables = r.tables; datas = r.datas }))
      (of_bytes_when PartsBegin _ _ (id == 4) (of_bytes_made PartsBegin (with_tables p) (Vector SpellsTable) (λ c x small h.
      record { tables = says_vector FewInTable SpellsTable (table_few numbers) c x h; datas = r.datas }))
      (of_bytes_when PartsBegin _ _ (id == 5) (of_bytes_made PartsBegin (with_mems p) (Vector SpellsLimits) (λ c x small h. record { tables = r.tables; datas = r.datas }))
      (of_bytes_when PartsBegin _ _ (id == 6) (of_bytes_made PartsBegin (with_globals p) (Vector SpellsGlobalDef) (λ c x small h. record { tables = r.tables; datas = r.datas }))
      (of_bytes_when PartsBegin _ _ (id == 7) (of_bytes_made PartsBegin (with_exports p) (Vector SpellsExport) (λ c x small h. record { tables = r.tables; datas = r.datas }))
      (of_bytes_when PartsBegin _ _ (id == 8) (of_bytes_made PartsBegin (with_start p) U32 (λ c x small h. record { tables = r.tables; datas = r.datas }))
      (of_bytes_when PartsBegin _ _ (id == 9) (of_bytes_made PartsBegin (with_elems p) (Vector SpellsElem) (λ c x small h. record { tables = r.tables; datas = r.datas }))
      (of_bytes_when PartsBegin _ _ (id == 10) (of_bytes_made PartsBegin (with_codes p) (Vector (SpellsEntry many)) (λ c x small h. record { tables = r.tables; datas = r.datas }))
      (of_bytes_when PartsBegin _ _ (id == 11) (of_bytes_made PartsBegin (with_datas p) (Vector SpellsData) (λ c x small h.
      record { tables = r.tables; datas = of_bytes_vector HoldsBytes SpellsData data_bytes c x small h }))
      (of_bytes_when PartsBegin _ _ (id == 12) (of_bytes_made PartsBegin (with_count p) U32 (λ c x small h. record { tables = r.tables; datas = r.datas }))
      (of_bytes_never PartsBegin)))))))))))))

  contents_begin : (p : Parts) (ss : List Section) (q : Parts) → AreBytes ss → PartsBegin p → SectionContents many p ss q → PartsBegin q
  contents_begin p [] q small r h = subst PartsBegin h r
  contents_begin p (s ∷ ss) q small r h = contents_begin h.0 ss q small.1 (section_begins p s.0 r s.1 h.0 small.0 h.1) h.2

parts_begin : (p : Parts) → PartsBegin p → BeginsInRange (tree_of p)
parts_begin p r = record { tables = r.tables; datas = r.datas }

-- The second premise is the law that the contents of sections of bytes are bytes.
pub spelled_begin : NumbersAreInRange → ((bytes : List ℕ) (ss : List Section) → IsBytes bytes → Framed bytes ss → AreBytes ss) → (bytes : List ℕ) (m : Module) (many : Bool) → IsBytes bytes → Spells bytes m many → BeginsInRange m
spelled_begin numbers contents bytes m many small h = subst BeginsInRange (sym h.5) (parts_begin h.1 (contents_begin numbers many nothing h.0 h.1 (contents bytes h.0 small h.2) (record { tables = tt; datas = tt }) h.3))
