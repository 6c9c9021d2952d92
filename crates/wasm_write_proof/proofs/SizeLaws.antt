-- If the canonical encoding of a module has fewer than 2^32 bytes, each vector and each written
-- size is below 2^32.
use Rattle.base_lists.proofs.Common.{◌≡◌, ℕ, suc, ◌+◌, ◌<◌, ◌^◌, List, [], ◌∷◌, ◌++◌, map, length, Bool, true, refl, ap, ◌∙◌, subst, arith, append-nil, ⊎_elim, list_all, list_all-map, and_from, cases_Bool}
use Rattle.base_lists.proofs.Every.{every_of}
use Rattle.std.proofs.Common.{length-append}
use Rattle.wasm_bytes.specs.Prelude.{u32_text, sized_text}
use Rattle.wasm_bytes.specs.Writing.{unsigned_text}
use Rattle.wasm_tree_spec.specs.Prelude.{FuncType, Instr, map-Instr, Import, Export, ElemSeg, DataSeg, Func, Module}
use Rattle.wasm_tree.specs.declared.instr.Instr.{ind-Instr, fold-roll-Instr, roll-Instr}
use Rattle.wasm_tree.specs.declared.instr.Instr.TheOpen.{Instr-F}
use Rattle.base_lists.specs.Every.{Every}
use Rattle.wasm_read_spec.specs.Prelude.{Any}
use Rattle.wasm_write_spec.specs.PlainValues.{vector_text, val_text, block_type_text, func_type_text, import_desc_text, import_text, table_text, limits_text, global_text, export_desc_text, export_text, const_text, func_of, by_index, index_items, const_items, elem_text, data_mode_text, data_text}
use Rattle.wasm_write_spec.specs.PlainCode.{instr_step, instr_text, instrs_text, body_text, group_text, code_text, entry_text}
use Rattle.wasm_write_spec.specs.Plain.{list_section, plain}
use Rattle.wasm_write_proof.specs.SmallSizes.{IsShort, lists_step, has_short_lists, all_have_short_lists, SmallSection, FuncTypeIsSmall, ImportIsSmall, FuncIsSmall, SmallSizes}
use Rattle.wasm_write_proof.proofs.Parts.{u32_some, vector_count, every_short}
use Rattle.wasm_write_proof.proofs.NumberRanges.{is_small}
use Rattle.wasm_write_proof.proofs.ItemTexts.{val_some, func_type_some, import_some, table_some, limits_some, global_some, export_some, const_some}
use Rattle.wasm_write_proof.proofs.SegmentTexts.{index_long, const_long, elem_some, data_some}
use Rattle.wasm_write_proof.proofs.EntryTexts.{group_some, entry_some}
use Rattle.wasm_write_proof.proofs.FileTexts.{each_short, section_short, section_lengths}

-- ---- lists in bodies

abbrev Short : Instr → Type 0
Short i = length (instr_text i) < 2 ^ 32 → has_short_lists i ≡ true

abbrev Such : Type 0
Such = (i : Instr) × Short i

abbrev trees : List Such → List Instr
trees = map (λ e. e.0)

body_short : (es : List Such) → length (instrs_text (trees es)) < 2 ^ 32 → all_have_short_lists (trees es) ≡ true
body_short [] few = refl
body_short (e ∷ es) few =
    let sizes = length-append (instr_text e.0) (instrs_text (trees es)) in
    and_from (has_short_lists e.0) (all_have_short_lists (trees es)) (e.1 (omega (arith, few, sizes))) (body_short es (omega (arith, few, sizes)))

whole_short : (es : List Such) → length (instrs_text (trees es)) < 2 ^ 32 → list_all (λ b. b) (map has_short_lists (trees es)) ≡ true
whole_short es few = list_all-map (λ b. b) has_short_lists (trees es) ∙ body_short es few

inside : (a b c : List ℕ) → length (a ++ b ++ c) < 2 ^ 32 → length b < 2 ^ 32
inside a b c h = omega (arith, h, length-append (a ++ b) c, length-append a b)

node : (y : Instr-F Such) → length (instr_step (map-Instr Instr (List ℕ) instr_text (map-Instr Such Instr (λ e. e.0) y))) < 2 ^ 32 →
    lists_step (map-Instr Instr Bool has_short_lists (map-Instr Such Instr (λ e. e.0) y)) ≡ true
node Instr-F.Unreachable k = refl
node Instr-F.Nop k = refl
node (Instr-F.Block ty body) k = whole_short body (inside (0x02 ∷ block_type_text ty) (instrs_text (trees body)) (0x0B ∷ []) k)
node (Instr-F.Loop ty body) k = whole_short body (inside (0x03 ∷ block_type_text ty) (instrs_text (trees body)) (0x0B ∷ []) k)
node (Instr-F.If ty body []) k =
    let begin = 0x04 ∷ block_type_text ty in
    let none : (begin ++ instrs_text (trees body) ++ []) ++ 0x0B ∷ [] ≡ begin ++ instrs_text (trees body) ++ 0x0B ∷ [] = ap (λ x. x ++ 0x0B ∷ []) (append-nil (begin ++ instrs_text (trees body))) in
    and_from (list_all (λ b. b) (map has_short_lists (trees body))) true (whole_short body (inside begin (instrs_text (trees body)) (0x0B ∷ []) (subst (λ t. length t < 2 ^ 32) none k))) refl
node (Instr-F.If ty body (e ∷ es)) k =
    let begin = 0x04 ∷ block_type_text ty in
    let inner = instrs_text (trees body) in
    let other = instrs_text (trees (e ∷ es)) in
    let all : length ((begin ++ inner ++ (0x05 ∷ other)) ++ 0x0B ∷ []) < 2 ^ 32 = k in
    let sizes : length ((begin ++ inner ++ (0x05 ∷ other)) ++ 0x0B ∷ []) ≡ length begin + length inner + (1 + length other) + 1 =
    length-append (begin ++ inner ++ (0x05 ∷ other)) (0x0B ∷ []) ∙ ap (λ n. n + 1) (length-append (begin ++ inner) (0x05 ∷ other) ∙ ap (λ n. n + suc (length other)) (length-append begin inner)) ∙ omega arith in
    and_from (list_all (λ b. b) (map has_short_lists (trees body))) (list_all (λ b. b) (map has_short_lists (trees (e ∷ es)))) (whole_short body (omega (arith, all, sizes))) (whole_short (e ∷ es) (omega (arith, all, sizes)))
node (Instr-F.Br x) k = refl
node (Instr-F.BrIf x) k = refl
node (Instr-F.BrTable xs y) k =
    let few : length (vector_text u32_text xs) < 2 ^ 32 = omega (arith, k, length-append (vector_text u32_text xs) (u32_text y)) in is_small (length xs) (vector_count u32_text xs u32_some few)
node Instr-F.Return k = refl
node (Instr-F.Call x) k = refl
node (Instr-F.CallIndirect x y) k = refl
node Instr-F.Drop k = refl
node Instr-F.Select k = refl
node (Instr-F.SelectTyped ts) k =
    let few : length (vector_text val_text ts) < 2 ^ 32 = omega (arith, k) in is_small (length ts) (vector_count val_text ts val_some few)
node (Instr-F.LocalGet x) k = refl
node (Instr-F.LocalSet x) k = refl
node (Instr-F.LocalTee x) k = refl
node (Instr-F.GlobalGet x) k = refl
node (Instr-F.GlobalSet x) k = refl
node (Instr-F.TableGet x) k = refl
node (Instr-F.TableSet x) k = refl
node (Instr-F.Load op a) k = refl
node (Instr-F.Store op a) k = refl
node (Instr-F.MemorySize x) k = refl
node (Instr-F.MemoryGrow x) k = refl
node (Instr-F.I32Const x) k = refl
node (Instr-F.I64Const x) k = refl
node (Instr-F.Un x) k = refl
node (Instr-F.Bin x) k = refl
node (Instr-F.RefNull x) k = refl
node Instr-F.RefIsNull k = refl
node (Instr-F.RefFunc x) k = refl
node (Instr-F.MemoryInit x m) k = refl
node (Instr-F.DataDrop x) k = refl
node (Instr-F.MemoryCopy x y) k = refl
node (Instr-F.MemoryFill x) k = refl
node (Instr-F.TableInit x y) k = refl
node (Instr-F.ElemDrop x) k = refl
node (Instr-F.TableCopy x y) k = refl
node (Instr-F.TableGrow x) k = refl
node (Instr-F.TableSize x) k = refl
node (Instr-F.TableFill x) k = refl

good : (i : Instr) → Short i
good = ind-Instr Short (λ x y is. subst (λ z. Short (roll-Instr z)) is (λ k.
    let z = map-Instr Such Instr (λ e. e.0) y in
    fold-roll-Instr Bool lists_step z ∙ node y (subst (λ t. length t < 2 ^ 32) (fold-roll-Instr (List ℕ) instr_step z) k)))

instrs_short : (is : List Instr) → length (instrs_text is) < 2 ^ 32 → all_have_short_lists is ≡ true
instrs_short [] few = refl
instrs_short (i ∷ is) few =
    let sizes = length-append (instr_text i) (instrs_text is) in
    and_from (has_short_lists i) (all_have_short_lists is) (good i (omega (arith, few, sizes))) (instrs_short is (omega (arith, few, sizes)))

-- ---- items

named_short : (text : List ℕ) → length (sized_text text) < 2 ^ 32 → IsShort text
named_short text few = omega (arith, few, length-append (u32_text (length text)) text)

type_small : (t : FuncType) → length (func_type_text t) < 2 ^ 32 → FuncTypeIsSmall t
unfolding func_type_text
type_small t few =
    let ps = vector_text val_text t.params in
    let rs = vector_text val_text t.results in
    let sizes = length-append ps rs in
    (vector_count val_text t.params val_some (omega (arith, few, sizes)), vector_count val_text t.results val_some (omega (arith, few, sizes)))

import_small : (i : Import) → length (import_text i) < 2 ^ 32 → ImportIsSmall i
unfolding import_text
import_small i few =
    let a = sized_text i.«module» in
    let b = sized_text i.field in
    let c = import_desc_text i.desc in
    let p = length-append (a ++ b) c in
    let q = length-append a b in
    (named_short i.«module» (omega (arith, few, p, q)), named_short i.field (omega (arith, few, p, q)))

export_small : (e : Export) → length (export_text e) < 2 ^ 32 → IsShort e.name
unfolding export_text
export_small e few = named_short e.name (omega (arith, few, length-append (sized_text e.name) (export_desc_text e.desc)))

elem_small : (s : ElemSeg) → length (elem_text s) < 2 ^ 32 → IsShort s.items
unfolding elem_text index_items const_items
elem_small s few = ⊎_elim
    (λ yes. let short = rw yes at few in let k = index_long s.mode s.items in vector_count (λ c. u32_text (func_of c)) s.items (λ c. u32_some (func_of c)) (omega (arith, short, k)))
    (λ no. let short = rw no at few in let k = const_long s.mode s.ty s.items in vector_count const_text s.items const_some (omega (arith, short, k)))
    (cases_Bool (by_index s))

data_small : (s : DataSeg) → length (data_text s) < 2 ^ 32 → IsShort s.bytes
unfolding data_text
data_small s few = named_short s.bytes (omega (arith, few, length-append (data_mode_text s.mode) (sized_text s.bytes)))

func_small : (f : Func) → length (entry_text f) < 2 ^ 32 → FuncIsSmall f
unfolding entry_text
func_small f few =
    let code : length (code_text f) < 2 ^ 32 = omega (arith, few, length-append (u32_text (length (code_text f))) (code_text f)) in
    let groups = vector_text group_text f.locals in
    let sizes = length-append groups (body_text f.body) in
    let ends = length-append (instrs_text f.body) (0x0B ∷ []) in
    (vector_count group_text f.locals group_some (omega (arith, code, sizes)), instrs_short f.body (omega (arith, code, sizes, ends)), code)

-- ---- sections

vector_none : length (u32_text 0 ++ []) < 2 ^ 32
unfolding unsigned_text
vector_none = omega arith

vector_short : {A : Type 0} (id : ℕ) (text : A → List ℕ) (xs : List A) → length (list_section id text xs) < 2 ^ 32 → IsShort (vector_text text xs)
vector_short id text [] few = vector_none
vector_short id text (x ∷ xs) few = section_short id (vector_text text (x ∷ xs)) few

section_small : {A : Type 0} (id : ℕ) (text : A → List ℕ) (xs : List A) → ((x : A) → 0 < length (text x)) → length (list_section id text xs) < 2 ^ 32 → SmallSection text xs
section_small id text xs some few = let short = vector_short id text xs few in record { items = vector_count text xs some short; size = short }

every_small : {A : Type 0} (Q : A → Type 0) (id : ℕ) (text : A → List ℕ) (xs : List A) → ((x : A) → length (text x) < 2 ^ 32 → Q x) → length (list_section id text xs) < 2 ^ 32 → Every Q xs
every_small Q id text xs small_one few = every_short Any Q text xs (λ x u k. small_one x k) (each_short text xs (vector_short id text xs few)) (every_of Any xs (λ x. tt))

pub sizes_small : (m : Module) → length (plain m) < 2 ^ 32 → SmallSizes m
sizes_small m few =
    let s = section_lengths m few in
    record {
      types = section_small 1 func_type_text m.types func_type_some s.types;
      imports = section_small 2 import_text m.imports import_some s.imports;
      func_types = section_small 3 (λ (f : Func). u32_text f.ty) m.funcs (λ f. u32_some f.ty) s.func_types;
      tables = section_small 4 table_text m.tables table_some s.tables;
      mems = section_small 5 limits_text m.mems limits_some s.mems;
      globals = section_small 6 global_text m.globals global_some s.globals;
      exports = section_small 7 export_text m.exports export_some s.exports;
      elems = section_small 9 elem_text m.elems elem_some s.elems;
      codes = section_small 10 entry_text m.funcs entry_some s.codes;
      datas = section_small 11 data_text m.datas data_some s.datas;
      each_type = every_small FuncTypeIsSmall 1 func_type_text m.types type_small s.types;
      each_import = every_small ImportIsSmall 2 import_text m.imports import_small s.imports;
      each_export = every_small (λ (e : Export). IsShort e.name) 7 export_text m.exports export_small s.exports;
      each_elem = every_small (λ (t : ElemSeg). IsShort t.items) 9 elem_text m.elems elem_small s.elems;
      each_func = every_small FuncIsSmall 10 entry_text m.funcs func_small s.codes;
      each_data = every_small (λ (t : DataSeg). IsShort t.bytes) 11 data_text m.datas data_small s.datas;
    }
