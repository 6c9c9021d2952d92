-- A tree that is read has no list above its limit.
use Rattle.base_lists.proofs.Common.{ℕ, ◌-◌, ◌≤◌, List, [], ◌∷◌, length, Bool, true, false, sym, subst, arith, ◌==◌}
use Rattle.wasm_bytes.specs.Prelude.{Section}
use Rattle.wasm_tree_spec.specs.Prelude.{Imports, limit, Func, Module}
use Rattle.wasm_tree.specs.declared.which.Which.TheVariants.{Types, Functions, Tables, Memories, Globals, ElementSegments, DataSegments}
use Rattle.wasm_read_spec.specs.declared.parts.Parts.{Parts}
use Rattle.base_lists.specs.Every.{Every}
use Rattle.wasm_read_spec.specs.Prelude.{Never, MadeFrom, When, Any, Limited, WhenSmall, nothing, with_types, with_imports, with_func_types, with_tables, with_mems, with_globals, with_exports, with_start, with_elems, with_codes, with_datas, with_count, SpellsCustom, SectionIsSmall}
use Rattle.wasm_read_spec.specs.Prelude.{SectionContents, typed, tree_of}
use Rattle.wasm_read_spec.specs.Files.{section_form, small_form}
use Rattle.tools_cli_spec.specs.Prelude.{Text, IsReadAs}
use Rattle.tools_cli_decide.specs.Prelude.{IsWithinLimits}

-- No list of a section is above its limit.
record FewParts (p : Parts) : Type 0 where
  pub types : length p.types ≤ limit Types
  pub imports : length p.imports ≤ limit Imports
  pub func_types : length p.func_types ≤ limit Functions
  pub tables : length p.tables ≤ limit Tables
  pub mems : length p.mems ≤ limit Memories
  pub globals : length p.globals ≤ limit Globals
  pub elems : length p.elems ≤ limit ElementSegments
  pub datas : length p.datas ≤ limit DataSegments

-- A section keeps all lists within their limits.
record Keeps (P : List ℕ → Parts → Type 0) (S : List ℕ → Type 0) : Type 0 where
  keep : (c : List ℕ) (q : Parts) → P c q → S c → FewParts q

keep_when : {P Q : List ℕ → Parts → Type 0} {S T : List ℕ → Type 0} (test : Bool) → Keeps P S → Keeps Q T → Keeps (When test P Q) (WhenSmall test S T)
keep_when true a b = record { keep = a.keep }
keep_when false a b = record { keep = b.keep }

keep_put : {A : Type 0} {P : List ℕ → A → Type 0} {S : A → Type 0} (make : A → Parts) → ((x : A) → S x → FewParts (make x)) → Keeps (MadeFrom make P) (Limited P S)
keep_put {A} {P} {S} make keep = record { keep = λ c q h s. subst FewParts (sym h.2) (keep h.0 (s h.0 h.1)) }

keep_free : {A : Type 0} {P : List ℕ → A → Type 0} (make : A → Parts) → ((x : A) → FewParts (make x)) → Keeps (MadeFrom make P) Any
keep_free {A} {P} make keep = record { keep = λ c q h s. subst FewParts (sym h.2) (keep h.0) }

keep_same : (p : Parts) → FewParts p → Keeps (SpellsCustom p) Any
keep_same p k = record { keep = λ c q h s. subst FewParts (sym h.1) k }

keep_never : Keeps Never Any
keep_never = record { keep = λ c q h s. absurd h }

section_keeps : (many : Bool) (p : Parts) (id : ℕ) → FewParts p → Keeps (section_form many p id) (small_form many id)
unfolding section_form small_form
section_keeps many p id s =
    keep_when (id == 0) (keep_same p s)
    (keep_when (id == 1) (keep_put (with_types p) (λ x k. record { types = k.0; imports = s.imports; func_types = s.func_types; tables = s.tables; mems = s.mems; globals = s.globals; elems = s.elems; datas = s.datas }))
    (keep_when (id == 2) (keep_put (with_imports p) (λ x k. record { types = s.types; imports = k.0; func_types = s.func_types; tables = s.tables; mems = s.mems; globals = s.globals; elems = s.elems; datas = s.datas }))
    (keep_when (id == 3) (keep_put (with_func_types p) (λ x k. record { types = s.types; imports = s.imports; func_types = k.0; tables = s.tables; mems = s.mems; globals = s.globals; elems = s.elems; datas = s.datas }))
    (keep_when (id == 4) (keep_put (with_tables p) (λ x k. record { types = s.types; imports = s.imports; func_types = s.func_types; tables = k.0; mems = s.mems; globals = s.globals; elems = s.elems; datas = s.datas }))
    (keep_when (id == 5) (keep_put (with_mems p) (λ x k. record { types = s.types; imports = s.imports; func_types = s.func_types; tables = s.tables; mems = k.0; globals = s.globals; elems = s.elems; datas = s.datas }))
    (keep_when (id == 6) (keep_put (with_globals p) (λ x k. record { types = s.types; imports = s.imports; func_types = s.func_types; tables = s.tables; mems = s.mems; globals = k.0; elems = s.elems; datas = s.datas }))
    (keep_when (id == 7) (keep_put (with_exports p) (λ x k. record { types = s.types; imports = s.imports; func_types = s.func_types; tables = s.tables; mems = s.mems; globals = s.globals; elems = s.elems; datas = s.datas }))
    (keep_when (id == 8) (keep_free (with_start p) (λ x. record { types = s.types; imports = s.imports; func_types = s.func_types; tables = s.tables; mems = s.mems; globals = s.globals; elems = s.elems; datas = s.datas }))
    (keep_when (id == 9) (keep_put (with_elems p) (λ x k. record { types = s.types; imports = s.imports; func_types = s.func_types; tables = s.tables; mems = s.mems; globals = s.globals; elems = k.0; datas = s.datas }))
    (keep_when (id == 10) (keep_put (with_codes p) (λ x k. record { types = s.types; imports = s.imports; func_types = s.func_types; tables = s.tables; mems = s.mems; globals = s.globals; elems = s.elems; datas = s.datas }))
    (keep_when (id == 11) (keep_put (with_datas p) (λ x k. record { types = s.types; imports = s.imports; func_types = s.func_types; tables = s.tables; mems = s.mems; globals = s.globals; elems = s.elems; datas = k.0 }))
    (keep_when (id == 12) (keep_free (with_count p) (λ x. record { types = s.types; imports = s.imports; func_types = s.func_types; tables = s.tables; mems = s.mems; globals = s.globals; elems = s.elems; datas = s.datas }))
    keep_never))))))))))))

contents_keep : (many : Bool) (p : Parts) (ss : List Section) (q : Parts) → FewParts p → SectionContents many p ss q → Every (SectionIsSmall many) ss → FewParts q
contents_keep many p [] q s h k = subst FewParts h s
contents_keep many p (t ∷ ss) q s h k = contents_keep many h.0 ss q ((section_keeps many p t.0 s).keep t.1 h.0 h.1 k.0) h.2 k.1

none_yet : FewParts nothing
none_yet = record { types = omega arith; imports = omega arith; func_types = omega arith; tables = omega arith; mems = omega arith; globals = omega arith; elems = omega arith; datas = omega arith }

-- At most as many functions are put together as they have types.
few_typed : (ts : List ℕ) (fs : List Func) (most : ℕ) → length ts ≤ most → length (typed ts fs) ≤ most
few_typed [] fs most h = omega arith
few_typed (t ∷ ts) [] most h = omega arith
few_typed (t ∷ ts) (f ∷ fs) most h = let k = few_typed ts fs (most - 1) (omega arith) in omega (arith, k)

tree_few : (p : Parts) → FewParts p → IsWithinLimits (tree_of p)
tree_few p s = record {
  types = s.types;
  imports = s.imports;
  funcs = few_typed p.func_types p.codes (limit Functions) s.func_types;
  tables = s.tables;
  mems = s.mems;
  globals = s.globals;
  elems = s.elems;
  datas = s.datas;
}

pub read_within : (many : Bool) (bytes : Text) (tree : Module) → IsReadAs many bytes tree → IsWithinLimits tree
read_within many bytes tree r = let h = r.spelled in subst IsWithinLimits (sym h.5) (tree_few h.1 (contents_keep many nothing h.0 h.1 none_yet h.3 (r.within h.0 h.2)))
