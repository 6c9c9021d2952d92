-- The constant expressions of a part in the merged module, by the reads through the imported
-- globals of the part.
use Rattle.base_lists.proofs.Common.{◌≡◌, ◌∙◌, ap, sym, subst, refl, ℕ, zero, suc, ◌+◌, ◌<◌, List, [], ◌∷◌, length, Option, Some, None, Bool, true, false, cond, ◌&&◌, not, nat_lt, arith, slice_get, get_or, option_and_then, unwrap_or, is_some, cons_option, ltb-true, slice_get-map, slice_get_within}
use Rattle.base_lists.proofs.Common.{get_or_from_slice_get, and_then_is, left_true, right_true, only_true, not-true, append_left, map}
use Rattle.wasm_tree_spec.specs.Prelude.{Globals, ValType, GlobalType, Import, ConstExpr, Module, globals_of, global_of, imported_globals, GlobalDef}
use Rattle.std.specs.Option.{option_map}
use Rattle.wasm_tree.specs.declared.module.ImportDesc.TheVariants as im
use Rattle.wasm_tree.specs.declared.module.ConstExpr.TheVariants as const
use Rattle.wasm_valid_bodies.specs.Typing.{only}
use Rattle.wasm_valid.specs.Prelude.{const_type, IsValid}
use Rattle.wasm_meaning.specs.Linking as linking
use Rattle.wasm_meaning.specs.Prelude.{Part, places, has_kind, space_index, module_at, import_at, imports_of, read_of}
use Rattle.index_remap.specs.Prelude.{new_const}
use Rattle.merge_spec.specs.declared.links.Read.{Read}
use Rattle.merge_spec.specs.Prelude.{named_modules, link_fault, read_entry, when_fixed, read_at, map_of, merged_read}
use Rattle.merge_spec.specs.Linked.{read_at_desc}
use Rattle.merge_spec.specs.Merged.{merged_const}
use Rattle.merge_proof.specs.MapEntries.{HasEntry}
use Rattle.merge_proof.specs.Joinable.{EachPart}
use Rattle.merge_join.specs.declared.mapped_parts.MappedParts.{MappedParts}
use Rattle.merge_join.specs.LinkedParts.{HaveTheirMaps, site}
use Rattle.merge_join.specs.Reads.{AreReads, HasType}

-- ---- an imported global ----

-- The import that adds a global, and its place.
record Found (is : List Import) (from x : ℕ) (g : GlobalType) : Type 0 where
  n : ℕ
  import : Import
  at : slice_get (places (has_kind Globals) is from) x ≡ Some (from + n)
  there : slice_get is n ≡ Some import
  desc : import.desc ≡ im.Global g
  index : space_index is n Globals ≡ x

found : (is : List Import) (from x : ℕ) (g : GlobalType) → slice_get (imported_globals is) x ≡ Some g → Found is from x g
found [] from x g h = absurd (let k = h in cc)
found (i ∷ is) from x g h = by (λ x h. found is (suc from) x g h) (global_of i.desc) (has_kind Globals i) refl refl (grind arith) x h
  where
    rest : List ℕ
    rest = places (has_kind Globals) is (suc from)

    on : (x y : ℕ) → (b : Bool) → has_kind Globals i ≡ b → (f : Found is (suc from) x g) → slice_get (cond b (from ∷ rest) rest) y ≡ slice_get rest x → cond b (suc (space_index is f.n Globals)) (space_index is f.n Globals) ≡ y → Found (i ∷ is) from y g
    on x y b k f same count =
        let z : suc from + f.n ≡ from + suc f.n = omega arith in
        record {
          n = suc f.n;
          import = f.import;
          at = ap (λ b. slice_get (cond b (from ∷ rest) rest) y) k ∙ same ∙ f.at ∙ ap Some z;
          there = f.there;
          desc = f.desc;
          index = ap (λ b. cond b (suc (space_index is f.n Globals)) (space_index is f.n Globals)) k ∙ count;
        }

    by : ((x : ℕ) → slice_get (imported_globals is) x ≡ Some g → Found is (suc from) x g) → (o : Option GlobalType) (b : Bool) → global_of i.desc ≡ o → has_kind Globals i ≡ b → is_some (global_of i.desc) ≡ has_kind Globals i → (x : ℕ) →
        slice_get (cons_option o (imported_globals is)) x ≡ Some g → Found (i ∷ is) from x g
    by more None false e k t x h = let f = more x h in on x x false k f refl f.index
    by more None true e k t x h = absurd (let z : false ≡ true = sym (ap is_some e) ∙ t ∙ k in cc)
    by more (Some c) false e k t x h = absurd (let z : true ≡ false = sym (ap is_some e) ∙ t ∙ k in cc)
    by more (Some c) true e k t zero h =
        let z : from ≡ from + 0 = omega arith in
        record {
          n = 0;
          import = i;
          at = ap (λ b. slice_get (cond b (from ∷ rest) rest) 0) k ∙ ap Some z;
          there = refl;
          desc = grind (arith, e ∙ h);
          index = refl;
        }
    by more (Some c) true e k t (suc x) h = let f = more x h in on x (suc x) true k f refl (ap suc f.index)

-- Global `x` is imported and immutable.
pub record ReadsGlobal (m : Module) (x : ℕ) : Type 0 where
  pub global : GlobalType
  pub at : slice_get (imported_globals m.imports) x ≡ Some global
  pub fixed : global.mutable ≡ false

pub reads_global : (m : Module) (x : ℕ) (ty : ValType) → const_type m (const.Global x) ≡ Some ty → ReadsGlobal m x
reads_global m x ty h =
    let g = and_then_is (slice_get (globals_of m) x) (λ g. only (nat_lt x (length (imported_globals m.imports)) && not g.mutable) (Some g.ty)) ty h in
    let b = only_true (nat_lt x (length (imported_globals m.imports)) && not g.0.mutable) (Some g.0.ty) ty g.2 in
    let lt = ltb-true _ _ (left_true _ _ b) in
    record { global = g.0; at = sym (append_left (imported_globals m.imports) (map (λ (d : GlobalDef). d.ty) m.globals) x lt) ∙ g.1; fixed = not-true g.0.mutable (right_true (nat_lt x (length (imported_globals m.imports))) _ b) }

-- The entry of an imported global in the list of reads is the result of reading it.
module _ (ps : List Part) (p : ℕ) (reads : List (Option Read)) (are : AreReads ps p reads) (x : ℕ) (typed : HasType ps p (const.Global x)) where
  abbrev of : Module
  of = typed.0

  abbrev fixed : ReadsGlobal of x
  fixed = reads_global of x typed.1 typed.3

  abbrev import : Found of.imports 0 x fixed.global
  import = found of.imports 0 x fixed.global fixed.at

  read_is : read_at ps (site p import.n) ≡ option_map read_entry (read_of ps p (const.Global x))
  read_is =
      let g = fixed.global in
      let s = site p import.n in
      let at : import_at ps s ≡ Some import.import = ap (λ o. option_and_then (λ m. slice_get m.imports import.n) o) typed.2 ∙ import.there in
      ap (λ o. option_map read_entry (option_and_then {T = Import} {U = linking.Read} (λ i. read_at_desc ps s i.desc) o)) at
      ∙ ap (λ d. option_map read_entry (read_at_desc ps s d)) import.desc
      ∙ ap (λ b. option_map read_entry (when_fixed b (option_and_then (λ m. read_of ps p (const.Global (space_index m.imports import.n Globals))) (module_at ps p)))) fixed.fixed
      ∙ ap (λ o. option_map read_entry (option_and_then {T = Module} {U = linking.Read} (λ m. read_of ps p (const.Global (space_index m.imports import.n Globals))) o)) typed.2
      ∙ ap (λ x. option_map read_entry (read_of ps p (const.Global x))) import.index

  there_is : slice_get reads x ≡ Some (option_map read_entry (read_of ps p (const.Global x)))
  there_is =
      let ns = imports_of Globals of in
      let z : 0 + import.n ≡ import.n = omega arith in
      let at : slice_get ns x ≡ Some import.n = import.at ∙ ap Some z in
      ap (λ l. slice_get l x) (are of typed.2) ∙ slice_get-map (λ n. read_at ps (site p n)) ns x ∙ ap (option_map (λ n. read_at ps (site p n))) at ∙ ap Some read_is

  pub entry_within : x < length reads
  entry_within = slice_get_within reads x _ there_is

  pub entry_is : (d : Option Read) → get_or reads x d ≡ option_map read_entry (read_of ps p (const.Global x))
  entry_is d = get_or_from_slice_get reads x _ d there_is

-- ---- what an expression becomes ----

abbrev pub back : Read → linking.Read
back r = record { part = r.part; expr = r.expr }

read_back : (o : Option linking.Read) (r : Read) → option_map read_entry o ≡ Some r → o ≡ Some (back r)
read_back None r h = cc
read_back (Some q) r h = let same : read_entry q ≡ r = cc in ap (λ (r : Read). Some (back r)) same

no_read : (o : Option linking.Read) → option_map read_entry o ≡ None → o ≡ None
no_read None h = refl
no_read (Some q) h = cc

pub becomes_read : (ps : List Part) (p : ℕ) (e : ConstExpr) (r : Read) (m : Module) → option_map read_entry (read_of ps p e) ≡ Some r → module_at ps r.part ≡ Some m → new_const (map_of ps r.part m) r.expr ≡ merged_const ps p e
unfolding merged_const
becomes_read ps p e r m h at =
    sym (ap (λ o. unwrap_or (option_and_then {T = linking.Read} {U = ConstExpr} (merged_read ps) o) e) (read_back (read_of ps p e) r h)
    ∙ ap (λ o. unwrap_or (option_and_then {T = Module} {U = ConstExpr} (λ m. Some (new_const (map_of ps r.part m) r.expr)) o) e) at)

pub stays_expr : (ps : List Part) (p : ℕ) (e : ConstExpr) → option_map read_entry (read_of ps p e) ≡ None → e ≡ merged_const ps p e
unfolding merged_const
stays_expr ps p e h = sym (ap (λ o. unwrap_or (option_and_then {T = linking.Read} {U = ConstExpr} (merged_read ps) o) e) (no_read (read_of ps p e) h))

pub becomes_new : (ps : List Part) (p : ℕ) (e : ConstExpr) (m : Module) → ((x : ℕ) → e ≡ const.Global x → ⊥) → module_at ps p ≡ Some m → new_const (map_of ps p m) e ≡ merged_const ps p e
becomes_new ps p (const.I32 v) m not at = becomes_read ps p (const.I32 v) (record { part = p; expr = const.I32 v }) m refl at
becomes_new ps p (const.I64 v) m not at = becomes_read ps p (const.I64 v) (record { part = p; expr = const.I64 v }) m refl at
becomes_new ps p (const.Null t) m not at = becomes_read ps p (const.Null t) (record { part = p; expr = const.Null t }) m refl at
becomes_new ps p (const.Func f) m not at = becomes_read ps p (const.Func f) (record { part = p; expr = const.Func f }) m refl at
becomes_new ps p (const.Global x) m not at = absurd (not x refl)

-- The entity that a read ends at has an entry in the map of its part.
abbrev pub ReadsHaveEntries : Type 0
ReadsHaveEntries = (ps : List Part) (p : ℕ) (m : Module) (e : ConstExpr) (ty : ValType) (r : linking.Read) → EachPart IsValid ps → link_fault ps true ≡ None → module_at ps p ≡ Some m → const_type m e ≡ Some ty → read_of ps p e ≡ Some r → HasEntry ps r

module _ (j : MappedParts) (joined : HaveTheirMaps j) (p : ℕ) (reads : List (Option Read)) (are : AreReads (named_modules j.parts.now) p reads) (e : ConstExpr) (typed : HasType (named_modules j.parts.now) p e) (x : ℕ) (is : e ≡ const.Global x) where
  abbrev parts : List Part
  parts = named_modules j.parts.now

  abbrev has : HasType parts p (const.Global x)
  has = subst (HasType parts p) is typed

  pub global_within : x < length reads
  global_within = entry_within parts p reads are x has

  pub global_read : (d : Option Read) → option_map read_entry (read_of parts p e) ≡ get_or reads x d
  global_read d = ap (λ e. option_map read_entry (read_of parts p e)) is ∙ sym (entry_is parts p reads are x has d)

  pub read_entry_there : ReadsHaveEntries → (r : Read) → get_or reads x None ≡ Some r → HasEntry parts (back r)
  read_entry_there law r h = law parts p typed.0 e typed.1 (back r) (λ p m at. (joined.linked.hold p m at).0) joined.linked.no_fault typed.2 typed.3 (read_back (read_of parts p e) r (global_read None ∙ h))
