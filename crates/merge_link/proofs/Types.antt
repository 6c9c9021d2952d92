-- External types of the entities that modules define, and the comparison of lists of types.
use Rattle.base_lists.proofs.Common.{◌≡◌, ◌∙◌, sym, ap, refl, ℕ, zero, suc, ◌-◌, ◌≤◌, List, [], ◌∷◌, ◌++◌, Option, Some, None, Bool, true, false, cond, ◌&&◌, map, length, slice_get, arith, cons_option, slice_get-map, slice_get_none}
use Rattle.wasm_tree_spec.specs.Prelude.{Functions, Tables, Memories, Globals, same_space, ValType, Import, ImportDesc, Func, GlobalDef, Module, func_of, table_of, memory_of, global_of, imported_funcs, imported_tables, imported_memories, imported_globals, funcs_of, index_of_export, space_of_export}
use Rattle.wasm_tree_spec.specs.Prelude.{space_of_import}
use Rattle.std.specs.Option.{option_map, option_and_then}
use lib.Pointwise.{pointwise}
use Rattle.wasm_tree.specs.declared.types.ValType.TheVariants as valt
use Rattle.wasm_tree.specs.declared.types.RefType.TheVariants as reft
use Rattle.wasm_tree.specs.contracts.types.ValTypePartialEq as ValTypePartialEq
use Rattle.wasm_tree.specs.declared.module.ImportDesc.TheVariants as im
use Rattle.wasm_tree.specs.declared.module.ExportDesc.TheVariants as ex
use Rattle.wasm_meaning.specs.Linking as linking
use Rattle.wasm_tree.specs.SameTypes as types
use Rattle.merge_spec.specs.Faults as faults
use Rattle.merge_link.specs.Externals.{own_func, own_table, own_memory, own_global}

pub type_same : (a b : ValType) → (ValTypePartialEq.TheImpl.ghosts).eq a b ≡ types.same_type a b
type_same valt.I32 valt.I32 = refl
type_same valt.I32 valt.I64 = refl
type_same valt.I32 (valt.Ref r) = refl
type_same valt.I64 valt.I32 = refl
type_same valt.I64 valt.I64 = refl
type_same valt.I64 (valt.Ref r) = refl
type_same (valt.Ref r) valt.I32 = refl
type_same (valt.Ref r) valt.I64 = refl
type_same (valt.Ref reft.Func) (valt.Ref reft.Func) = refl
type_same (valt.Ref reft.Func) (valt.Ref reft.Extern) = refl
type_same (valt.Ref reft.Extern) (valt.Ref reft.Func) = refl
type_same (valt.Ref reft.Extern) (valt.Ref reft.Extern) = refl

pub types_same : (E : ValType → ValType → Bool) → ((a b : ValType) → E a b ≡ types.same_type a b) → (xs ys : List ValType) → pointwise E xs ys ≡ types.same_types xs ys
types_same E same [] [] = refl
types_same E same [] (y ∷ ys) = refl
types_same E same (x ∷ xs) [] = refl
types_same E same (x ∷ xs) (y ∷ ys) = by (E x y) (types.same_type x y) (same x y) (types_same E same xs ys)
  where
    by : (a b : Bool) → a ≡ b → pointwise E xs ys ≡ types.same_types xs ys → a && pointwise E xs ys ≡ b && types.same_types xs ys
    by true true e rest = rest
    by true false e rest = absurd (cc)
    by false true e rest = absurd (cc)
    by false false e rest = refl

then_map : {A B : Type 0} (o : Option A) (f : A → B) → option_and_then (λ x. Some (f x)) o ≡ option_map f o
then_map None f = refl
then_map (Some x) f = refl

behind : {A : Type 0} (xs ys : List A) (i n : ℕ) → length xs ≡ n → n ≤ i → slice_get (xs ++ ys) i ≡ slice_get ys (i - n)
behind [] ys i n e h = let k : i ≡ i - n = omega arith in ap (slice_get ys) k
behind (x ∷ xs) ys zero n e h = absurd (omega arith)
behind (x ∷ xs) ys (suc i) n e h = let k : i - (n - 1) ≡ suc i - n = omega arith in behind xs ys i (n - 1) (omega arith) (omega arith) ∙ ap (slice_get ys) k

-- The number of imports of a kind is the number of their places.
count_funcs : (is : List Import) (n : ℕ) → length (imported_funcs is) ≡ length (linking.places (linking.has_kind Functions) is n)
count_funcs [] n = refl
count_funcs (i ∷ is) n = by i.desc (count_funcs is (suc n))
  where
    by : (d : ImportDesc) → length (imported_funcs is) ≡ length (linking.places (linking.has_kind Functions) is (suc n))
        → length (cons_option (func_of d) (imported_funcs is)) ≡ length (cond (same_space Functions (space_of_import d)) (n ∷ linking.places (linking.has_kind Functions) is (suc n)) (linking.places (linking.has_kind Functions) is (suc n)))
    by (im.Func t) e = ap suc e
    by (im.Table t) e = e
    by (im.Memory t) e = e
    by (im.Global t) e = e

count_tables : (is : List Import) (n : ℕ) → length (imported_tables is) ≡ length (linking.places (linking.has_kind Tables) is n)
count_tables [] n = refl
count_tables (i ∷ is) n = by i.desc (count_tables is (suc n))
  where
    by : (d : ImportDesc) → length (imported_tables is) ≡ length (linking.places (linking.has_kind Tables) is (suc n))
        → length (cons_option (table_of d) (imported_tables is)) ≡ length (cond (same_space Tables (space_of_import d)) (n ∷ linking.places (linking.has_kind Tables) is (suc n)) (linking.places (linking.has_kind Tables) is (suc n)))
    by (im.Func t) e = e
    by (im.Table t) e = ap suc e
    by (im.Memory t) e = e
    by (im.Global t) e = e

count_memories : (is : List Import) (n : ℕ) → length (imported_memories is) ≡ length (linking.places (linking.has_kind Memories) is n)
count_memories [] n = refl
count_memories (i ∷ is) n = by i.desc (count_memories is (suc n))
  where
    by : (d : ImportDesc) → length (imported_memories is) ≡ length (linking.places (linking.has_kind Memories) is (suc n))
        → length (cons_option (memory_of d) (imported_memories is)) ≡ length (cond (same_space Memories (space_of_import d)) (n ∷ linking.places (linking.has_kind Memories) is (suc n)) (linking.places (linking.has_kind Memories) is (suc n)))
    by (im.Func t) e = e
    by (im.Table t) e = e
    by (im.Memory t) e = ap suc e
    by (im.Global t) e = e

pub count_globals : (is : List Import) (n : ℕ) → length (imported_globals is) ≡ length (linking.places (linking.has_kind Globals) is n)
count_globals [] n = refl
count_globals (i ∷ is) n = by i.desc (count_globals is (suc n))
  where
    by : (d : ImportDesc) → length (imported_globals is) ≡ length (linking.places (linking.has_kind Globals) is (suc n))
        → length (cons_option (global_of d) (imported_globals is)) ≡ length (cond (same_space Globals (space_of_import d)) (n ∷ linking.places (linking.has_kind Globals) is (suc n)) (linking.places (linking.has_kind Globals) is (suc n)))
    by (im.Func t) e = e
    by (im.Table t) e = e
    by (im.Memory t) e = e
    by (im.Global t) e = ap suc e

-- The external type of an entry that the module defines.
pub external_func : (m : Module) (i n : ℕ) → n ≡ length (linking.imports_of Functions m) → n ≤ i → faults.external_of m (ex.Func i) ≡ own_func m (i - n)
external_func m i n e h =
    then_map (option_and_then (slice_get m.types) (slice_get (funcs_of m) i)) faults.FuncOf
    ∙ ap (λ o. option_map faults.FuncOf (option_and_then (slice_get m.types) o)) (behind (imported_funcs m.imports) (map (λ (f : Func). f.ty) m.funcs) i n (count_funcs m.imports 0 ∙ sym e) h ∙ slice_get-map (λ (f : Func). f.ty) m.funcs (i - n))

pub external_table : (m : Module) (i n : ℕ) → n ≡ length (linking.imports_of Tables m) → n ≤ i → faults.external_of m (ex.Table i) ≡ own_table m (i - n)
external_table m i n e h =
    then_map (slice_get (imported_tables m.imports ++ m.tables) i) faults.TableOf ∙ ap (option_map faults.TableOf) (behind (imported_tables m.imports) m.tables i n (count_tables m.imports 0 ∙ sym e) h)

pub external_memory : (m : Module) (i n : ℕ) → n ≡ length (linking.imports_of Memories m) → n ≤ i → faults.external_of m (ex.Memory i) ≡ own_memory m (i - n)
external_memory m i n e h =
    then_map (slice_get (imported_memories m.imports ++ m.mems) i) faults.MemoryOf ∙ ap (option_map faults.MemoryOf) (behind (imported_memories m.imports) m.mems i n (count_memories m.imports 0 ∙ sym e) h)

pub external_global : (m : Module) (i n : ℕ) → n ≡ length (linking.imports_of Globals m) → n ≤ i → faults.external_of m (ex.Global i) ≡ own_global m (i - n)
external_global m i n e h =
    then_map (slice_get (imported_globals m.imports ++ map (λ (g : GlobalDef). g.ty) m.globals) i) faults.GlobalOf
    ∙ ap (option_map faults.GlobalOf) (behind (imported_globals m.imports) (map (λ (g : GlobalDef). g.ty) m.globals) i n (count_globals m.imports 0 ∙ sym e) h ∙ slice_get-map (λ (g : GlobalDef). g.ty) m.globals (i - n))
    ∙ by (slice_get m.globals (i - n))
  where
    by : (o : Option GlobalDef) → option_map faults.GlobalOf (option_map (λ (g : GlobalDef). g.ty) o) ≡ option_map (λ g. faults.GlobalOf g.ty) o
    by None = refl
    by (Some g) = refl

-- An entity that is no import has an index behind those of the imports.
pub not_imported : (lp : List linking.Part) (e : linking.Entity) (m : Module) → linking.module_at lp e.part ≡ Some m → linking.imported_as lp e ≡ None
    → length (linking.imports_of (space_of_export e.what) m) ≤ index_of_export e.what
not_imported lp e m at none = slice_get_none (linking.imports_of (space_of_export e.what) m) (index_of_export e.what) (by (slice_get (linking.imports_of (space_of_export e.what) m) (index_of_export e.what)) (rw at at none))
  where
    by : (o : Option ℕ) → option_and_then (λ n. let s : linking.Site = record { part = e.part; import = n } in Some s) o ≡ None → o ≡ None
    by None h = refl
    by (Some n) h = absurd (cc)
