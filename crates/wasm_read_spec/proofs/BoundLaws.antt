-- Encoded trees are within the limits, and name no memory other than memory 0 where memories have
-- no indices.
use Rattle.base_lists.proofs.Common.{◌≡◌, ℕ, ◌≤◌, List, [], ◌∷◌, map, length, slice_get, Bool, true, false, Option, Some, None, refl, arith, rules, ◌==◌, and_parts, length-map, every_at, filter_map_most}
use Rattle.std.proofs.Common.{length-append}
use Rattle.wasm_bytes.specs.Prelude.{Each, Section}
use Rattle.wasm_tree_spec.specs.Prelude.{FuncType, Func, Module, func_of, table_of, memory_of, global_of, param_count, declared_count, IsBounded, memory_zero_all, memory_zero_funcs, limit, Imports, Exports, Locals, Parameters}
use Rattle.wasm_tree.specs.OperandLaws.{BlockPasses, LoopPasses, IfPasses}
use Rattle.wasm_tree.specs.declared.which.Which.TheVariants.{Types, Functions, Tables, Memories, Globals, ElementSegments, DataSegments}
use Rattle.wasm_read_spec.specs.declared.parts.Parts.{Parts}
use Rattle.base_lists.specs.Every.{Every}
use Rattle.wasm_read_spec.specs.Prelude.{Never, MadeFrom, When, Any, Few, Limited, WhenSmall, SmallFuncType, CodeEntry, SpellsEntry, SmallCode, HasSmallCode, nothing, with_types, with_imports, with_func_types, with_tables, with_mems, with_globals, with_exports, with_start, with_elems, with_codes}
use Rattle.wasm_read_spec.specs.Prelude.{with_datas, with_count, SpellsCustom, SectionIsSmall, SectionContents, typed, untyped, tree_of, Spells, Within}
use Rattle.wasm_read_spec.specs.Files.{section_form, small_form}
use Rattle.wasm_read_spec.proofs.NestLaws.{body_zero}

-- Each list of the parts is within its limit.
pub record Small (p : Parts) : Type 0 where
  pub types : Few (limit Types) SmallFuncType p.types
  pub imports : length p.imports ≤ limit Imports
  pub func_types : length p.func_types ≤ limit Functions
  pub tables : length p.tables ≤ limit Tables
  pub mems : length p.mems ≤ limit Memories
  pub globals : length p.globals ≤ limit Globals
  pub exports : length p.exports ≤ limit Exports
  pub elems : length p.elems ≤ limit ElementSegments
  pub codes : Few (limit Functions) HasSmallCode p.codes
  pub datas : length p.datas ≤ limit DataSegments

-- Encoded contents within the limits lead only to parts with this property.
record Keeps (K : Parts → Type 0) (P : List ℕ → Parts → Type 0) (S : List ℕ → Type 0) : Type 0 where
  keep : (c : List ℕ) (q : Parts) → P c q → S c → K q

module _ {K : Parts → Type 0} where
  keep_when : {P Q : List ℕ → Parts → Type 0} {S T : List ℕ → Type 0} (test : Bool) → Keeps K P S → Keeps K Q T → Keeps K (When test P Q) (WhenSmall test S T)
  keep_when true a b = a
  keep_when false a b = b

  -- A section that puts a small value into the parts keeps the property.
  keep_put : {A : Type 0} {P : List ℕ → A → Type 0} {S : A → Type 0} (make : A → Parts) → ((x : A) → S x → K (make x)) → Keeps K (MadeFrom make P) (Limited P S)
  keep_put make keep = record { keep = λ c q h s. rw h.2 (keep h.0 (s h.0 h.1)) }

  keep_free : {A : Type 0} {P : List ℕ → A → Type 0} (make : A → Parts) → ((x : A) → K (make x)) → Keeps K (MadeFrom make P) Any
  keep_free make keep = record { keep = λ c q h s. rw h.2 (keep h.0) }

  keep_same : (p : Parts) → K p → Keeps K (SpellsCustom p) Any
  keep_same p k = record { keep = λ c q h s. rw h.1 k }

  keep_never : Keeps K Never Any
  keep_never = record { keep = λ c q h s. absurd h }

-- Code entries within the limits give functions within the limits.
small_untyped : (cs : List CodeEntry) → Few (limit Functions) SmallCode cs → Few (limit Functions) HasSmallCode (map untyped cs)
small_untyped cs h = (rw (length-map cs untyped) h.0, each cs h.1)
  where
    each : (cs : List CodeEntry) → Every SmallCode cs → Every HasSmallCode (map untyped cs)
    each [] h = tt
    each (c ∷ cs) h = (h.0, each cs h.1)

small_kept : (many : Bool) (p : Parts) (id : ℕ) → Small p → Keeps Small (section_form many p id) (small_form many id)
unfolding section_form small_form
small_kept many p id s =
    keep_when (id == 0) (keep_same p s)
    (keep_when (id == 1) (keep_put (with_types p) (λ x k. assumption))
    (keep_when (id == 2) (keep_put (with_imports p) (λ x k. assumption))
    (keep_when (id == 3) (keep_put (with_func_types p) (λ x k. assumption))
    (keep_when (id == 4) (keep_put (with_tables p) (λ x k. assumption))
    (keep_when (id == 5) (keep_put (with_mems p) (λ x k. assumption))
    (keep_when (id == 6) (keep_put (with_globals p) (λ x k. assumption))
    (keep_when (id == 7) (keep_put (with_exports p) (λ x k. assumption))
    (keep_when (id == 8) (keep_free (with_start p) (λ x. assumption))
    (keep_when (id == 9) (keep_put (with_elems p) (λ x k. assumption))
    (keep_when (id == 10) (keep_put (with_codes p) (λ x k. let codes = small_untyped x k in assumption))
    (keep_when (id == 11) (keep_put (with_datas p) (λ x k. assumption))
    (keep_when (id == 12) (keep_free (with_count p) (λ x. assumption))
    keep_never))))))))))))

small_contents : (many : Bool) (p : Parts) (ss : List Section) (q : Parts) → Small p → SectionContents many p ss q → Every (SectionIsSmall many) ss → Small q
small_contents many p [] q s h k = rw (← h) s
small_contents many p (t ∷ ss) q s h k = small_contents many h.0 ss q ((small_kept many p t.0 s).keep t.1 h.0 h.1 k.0) h.2 k.1

small_nothing : Small nothing
small_nothing = search (rules, arith)

-- ---- the tree

length_typed : (ts : List ℕ) (fs : List Func) → length (typed ts fs) ≤ length ts
length_typed (t ∷ ts) (f ∷ fs) = omega (arith, length_typed ts fs)
length_typed _ _ = omega arith

abbrev FewDeclared : List Func → Type 0
FewDeclared fs = Every (λ (f : Func). declared_count f.locals ≤ limit Locals) fs

typed_few : (ts : List ℕ) (fs : List Func) → Every HasSmallCode fs → FewDeclared (typed ts fs)
typed_few (t ∷ ts) (f ∷ fs) h = (h.0.0, typed_few ts fs h.1)
typed_few _ _ h = tt

few_params : (types : List FuncType) (ty : ℕ) (o : Option FuncType) → Every SmallFuncType types → slice_get types ty ≡ o → param_count o ≤ limit Parameters
few_params types ty None h e = omega arith
few_params types ty (Some t) h e = (every_at SmallFuncType types ty t h e).0.0

module _ (p : Parts) (s : Small p) where
  bounded_parts : IsBounded (tree_of p)
  bounded_parts = record {
    types = omega arith;
    imports = omega arith;
    funcs = simp (length-append, length-map) (omega (arith, length_typed p.func_types p.codes, filter_map_most (λ i. func_of i.desc) p.imports));
    tables = simp length-append (omega (arith, filter_map_most (λ i. table_of i.desc) p.imports));
    memories = simp length-append (omega (arith, filter_map_most (λ i. memory_of i.desc) p.imports));
    globals = simp (length-append, length-map) (omega (arith, filter_map_most (λ i. global_of i.desc) p.imports));
    exports = omega arith;
    elems = omega arith;
    datas = omega arith;
    locals = λ i f e. omega (arith, every_at _ _ i f (typed_few p.func_types p.codes s.codes.1) e, few_params p.types f.ty (slice_get p.types f.ty) s.types.1 refl);
  }

pub tree_bounded : (many : Bool) (bytes : List ℕ) (m : Module) → Spells bytes m many → Within bytes many → IsBounded m
tree_bounded many bytes m h k = rw h.5 (bounded_parts h.1 (small_contents many nothing h.0 h.1 small_nothing h.3 (k h.0 h.2)))

-- ---- memory 0

abbrev Zeros : Parts → Type 0
Zeros p = memory_zero_funcs p.codes ≡ true

-- Encoded contents lead only to parts with this property, whatever the limits are.
record Keeps' (K : Parts → Type 0) (P : List ℕ → Parts → Type 0) : Type 0 where
  keep : (c : List ℕ) (q : Parts) → P c q → K q

module _ {K : Parts → Type 0} where
  when_keeps : {P Q : List ℕ → Parts → Type 0} (test : Bool) → Keeps' K P → Keeps' K Q → Keeps' K (When test P Q)
  when_keeps true a b = a
  when_keeps false a b = b

  put_keeps : {A : Type 0} {P : List ℕ → A → Type 0} (make : A → Parts) → ((c : List ℕ) (x : A) → P c x → K (make x)) → Keeps' K (MadeFrom make P)
  put_keeps make keep = record { keep = λ c q h. rw h.2 (keep c h.0 h.1) }

module _ (blocks : BlockPasses) (loops : LoopPasses) (ifs : IfPasses) where
  entries_zero : (cs : List CodeEntry) (bytes : List ℕ) → Each (SpellsEntry false) bytes cs → memory_zero_funcs (map untyped cs) ≡ true
  entries_zero [] bytes h = refl
  entries_zero (c ∷ cs) bytes h = rw (body_zero blocks loops ifs h.2.2.1 c.body h.2.2.3, entries_zero cs h.1 h.3)

  zeros_kept : (p : Parts) (id : ℕ) → Zeros p → Keeps' Zeros (section_form false p id)
  unfolding section_form
  zeros_kept p id z =
      when_keeps (id == 0) (record { keep = λ c q h. rw h.1 z })
      (when_keeps (id == 1) (put_keeps (with_types p) (λ c x h. z))
      (when_keeps (id == 2) (put_keeps (with_imports p) (λ c x h. z))
      (when_keeps (id == 3) (put_keeps (with_func_types p) (λ c x h. z))
      (when_keeps (id == 4) (put_keeps (with_tables p) (λ c x h. z))
      (when_keeps (id == 5) (put_keeps (with_mems p) (λ c x h. z))
      (when_keeps (id == 6) (put_keeps (with_globals p) (λ c x h. z))
      (when_keeps (id == 7) (put_keeps (with_exports p) (λ c x h. z))
      (when_keeps (id == 8) (put_keeps (with_start p) (λ c x h. z))
      (when_keeps (id == 9) (put_keeps (with_elems p) (λ c x h. z))
      (when_keeps (id == 10) (put_keeps (with_codes p) (λ c x h. entries_zero x h.1 h.3))
      (when_keeps (id == 11) (put_keeps (with_datas p) (λ c x h. z))
      (when_keeps (id == 12) (put_keeps (with_count p) (λ c x h. z))
      (record { keep = λ c q h. absurd h })))))))))))))

  zeros_contents : (p : Parts) (ss : List Section) (q : Parts) → Zeros p → SectionContents false p ss q → Zeros q
  zeros_contents p [] q z h = rw (← h) z
  zeros_contents p (t ∷ ss) q z h = zeros_contents h.0 ss q ((zeros_kept p t.0 z).keep t.1 h.0 h.1) h.2

  typed_zero : (ts : List ℕ) (fs : List Func) → memory_zero_funcs fs ≡ true → memory_zero_funcs (typed ts fs) ≡ true
  typed_zero (t ∷ ts) (f ∷ fs) h = let k = and_parts (memory_zero_all f.body) (memory_zero_funcs fs) h in rw (k.0, typed_zero ts fs k.1)
  typed_zero _ _ h = refl

  pub tree_zero : (bytes : List ℕ) (m : Module) → Spells bytes m false → memory_zero_funcs m.funcs ≡ true
  tree_zero bytes m h = rw h.5 (typed_zero h.1.func_types h.1.codes (zeros_contents nothing h.0 h.1 refl h.3))
