-- The entities of the index spaces of a valid module can be imported: each satisfies the conditions
-- of a valid import (WebAssembly Core 2.0, section 3.4.9).
use Rattle.base_lists.proofs.Common.{◌≡◌, ◌∙◌, ap, sym, subst, ℕ, ◌<◌, List, [], ◌∷◌, ◌++◌, append-nil, map, length, Option, Some, true, ⊎_elim, slice_get, ◌+◌, ◌-◌, ◌≤◌, false, arith, slice_get_within, chosen_from, nat_le, nat_lt, option_map_or, leb-true, ltb-true, length-append, length-map}
use Rattle.base_lists.proofs.Common.{left_true, right_true, append_right, map_at, slice_get_there, append_from, map_from}
use Rattle.std.proofs.Common.{filter_map}
use Rattle.wasm_tree_spec.specs.Prelude.{Space, Types, Functions, Tables, Memories, Globals, ElementSegments, DataSegments, Limits, TableType, Func, Import, ImportDesc, Module, func_of, table_of, memory_of, imported_funcs, funcs_of, any_operand_passes}
use Rattle.wasm_tree.specs.declared.module.ImportDesc.TheVariants as im
use Rattle.wasm_valid.specs.declared.kinds.ItemKind.TheVariants as kind
use Rattle.wasm_valid.specs.Prelude.{ImportHolds, LimitsHold, ItemsHold}
use Rattle.wasm_valid.specs.Validity.{PagesHold}
use Rattle.index_remap.specs.Prelude.{declared, declared_refs, with_declared}
use Rattle.world_simulation.specs.Prelude.{IsWithDeclared}
use Rattle.split_spec.specs.Prelude.{entities}
use Rattle.split_plan.specs.SegmentReferences.{names_segment, uses_segment}
use Rattle.split_plan.specs.NamedFunctions.{is_defined}
use Rattle.split_plan.specs.PlannedMoves.{body_uses_segment}

-- A module with declared references differs only by at most one more segment.
pub declared_keeps : (t : Module) → IsWithDeclared t (declared t) (declared_refs t)
declared_keeps t = by (declared_refs t)
  where
    by : (fs : List ℕ) → IsWithDeclared t (with_declared t fs) fs
    by [] = assumption (sym (append-nil t.elems))
    by (f ∷ fs) = assumption

-- A function that can move is defined, and its body names no segment.
pub record Moves (m : Module) (f : ℕ) : Type 0 where
  pub func : Func
  pub is : slice_get m.funcs (f - length (imported_funcs m.imports)) ≡ Some func
  pub typed : slice_get (funcs_of m) f ≡ Some func.ty
  pub names_none : any_operand_passes names_segment func.body ≡ false

pub moves : (m : Module) (f : ℕ) → is_defined m f ≡ true → body_uses_segment m f ≡ false → Moves m f
moves m f d s =
    let n = length (imported_funcs m.imports) in
    let from : n ≤ f = leb-true n f (left_true (nat_le n f) (nat_lt f (length (funcs_of m))) d) in
    let to : f < length (funcs_of m) = ltb-true f (length (funcs_of m)) (right_true (nat_le n f) (nat_lt f (length (funcs_of m))) d) in
    let all = length-append (imported_funcs m.imports) (map (λ f. f.ty) m.funcs) in
    let types = length-map m.funcs (λ f. f.ty) in
    let back : n + (f - n) ≡ f = omega (arith, from) in
    let g = slice_get_there m.funcs (f - n) (omega (arith, from, to, all, types)) in
    record {
      func = g.0;
      is = g.1;
      typed = ap (slice_get (funcs_of m)) (sym back) ∙ append_right (imported_funcs m.imports) (map (λ f. f.ty) m.funcs) (f - n) ∙ map_at (λ f. f.ty) m.funcs (f - n) g.0 g.1;
      names_none = ap (λ (o : Option Func). option_map_or (λ f. uses_segment f.body) o false) (sym g.1) ∙ s;
    }

func_desc : (d : ImportDesc) (ty : ℕ) → func_of d ≡ Some ty → d ≡ im.Func ty
func_desc (im.Func x) ty e = let same : x ≡ ty = cc in ap im.Func same
func_desc (im.Table x) ty e = absurd (let k = e in cc)
func_desc (im.Memory x) ty e = absurd (let k = e in cc)
func_desc (im.Global x) ty e = absurd (let k = e in cc)

table_desc : (d : ImportDesc) (ty : TableType) → table_of d ≡ Some ty → d ≡ im.Table ty
table_desc (im.Func x) ty e = absurd (let k = e in cc)
table_desc (im.Table x) ty e = let same : x ≡ ty = cc in ap im.Table same
table_desc (im.Memory x) ty e = absurd (let k = e in cc)
table_desc (im.Global x) ty e = absurd (let k = e in cc)

memory_desc : (d : ImportDesc) (l : Limits) → memory_of d ≡ Some l → d ≡ im.Memory l
memory_desc (im.Func x) l e = absurd (let k = e in cc)
memory_desc (im.Table x) l e = absurd (let k = e in cc)
memory_desc (im.Memory x) l e = let same : x ≡ l = cc in ap im.Memory same
memory_desc (im.Global x) l e = absurd (let k = e in cc)

module _ (m : Module) (holds : ItemsHold m) where
  pub import_holds : (i : ℕ) (x : Import) → slice_get m.imports i ≡ Some x → ImportHolds m x.desc
  import_holds i x at =
      let z = holds kind.Import i (slice_get_within m.imports i x at) in
      let both : Some z.0 ≡ Some x = sym z.1 ∙ at in
      let same : z.0 ≡ x = cc in
      subst (λ (y : Import). ImportHolds m y.desc) same z.2

  -- The case of each index space: its imports, and then its definitions.
  space_holds : {A : Type 0} (of : ImportDesc → Option A) (c : A → ImportDesc) (defined : List A) → ((d : ImportDesc) (a : A) → of d ≡ Some a → d ≡ c a) → ((j : ℕ) (a : A) → slice_get defined j ≡ Some a → ImportHolds m (c a)) →
      (i : ℕ) (a : A) → slice_get (filter_map (λ x. of x.desc) m.imports ++ defined) i ≡ Some a → ImportHolds m (c a)
  space_holds of c defined is own i a at =
      ⊎_elim (λ h. let x = chosen_from (λ x. of x.desc) m.imports i a h in subst (ImportHolds m) (is x.0.desc a x.2) (import_holds x.1.0 x.0 x.1.1)) (λ h. own h.0 a h.2)
      (append_from (filter_map (λ x. of x.desc) m.imports) defined i a at)

  pub func_holds : (i : ℕ) (f : Func) → slice_get m.funcs i ≡ Some f → f.ty < length m.types
  func_holds i f at =
      let z = holds kind.Func i (slice_get_within m.funcs i f at) in
      let both : Some z.0 ≡ Some f = sym z.1 ∙ at in
      let same : z.0 ≡ f = cc in
      subst (λ (g : Func). g.ty < length m.types) same z.2

  pub type_there : (i ty : ℕ) → slice_get (funcs_of m) i ≡ Some ty → ty < length m.types
  type_there = space_holds func_of im.Func (map (λ f. f.ty) m.funcs) func_desc (λ j ty h. let f = map_from (λ f. f.ty) m.funcs j ty h in subst (λ n. n < length m.types) f.2 (func_holds j f.0 f.1))

  pub table_holds : (j : ℕ) (t : TableType) → slice_get m.tables j ≡ Some t → LimitsHold t.limits
  table_holds j t at =
      let z = holds kind.Table j (slice_get_within m.tables j t at) in
      let both : Some z.0 ≡ Some t = sym z.1 ∙ at in
      let same : z.0 ≡ t = cc in
      subst (λ (g : TableType). LimitsHold g.limits) same z.2

  memory_holds : (j : ℕ) (l : Limits) → slice_get m.mems j ≡ Some l → PagesHold l
  memory_holds j l at =
      let z = holds kind.Memory j (slice_get_within m.mems j l at) in
      let both : Some z.0 ≡ Some l = sym z.1 ∙ at in
      let same : z.0 ≡ l = cc in
      subst PagesHold same z.2

  mapped_holds : {A : Type 0} (c : A → ImportDesc) (xs : List A) → ((i : ℕ) (a : A) → slice_get xs i ≡ Some a → ImportHolds m (c a)) → (i : ℕ) (d : ImportDesc) → slice_get (map c xs) i ≡ Some d → ImportHolds m d
  mapped_holds c xs each i d at = let a = map_from c xs i d at in subst (ImportHolds m) a.2 (each i a.0 a.1)

  pub entity_holds : (space : Space) (i : ℕ) (d : ImportDesc) → slice_get (entities m space) i ≡ Some d → ImportHolds m d
  entity_holds Functions i d at = mapped_holds im.Func _ type_there i d at
  entity_holds Tables i d at = mapped_holds im.Table _ (space_holds table_of im.Table m.tables table_desc table_holds) i d at
  entity_holds Memories i d at = mapped_holds im.Memory _ (space_holds memory_of im.Memory m.mems memory_desc memory_holds) i d at
  entity_holds Globals i d at = mapped_holds im.Global _ (λ i g h. tt) i d at
  entity_holds Types i d at = absurd (let k = at in cc)
  entity_holds ElementSegments i d at = absurd (let k = at in cc)
  entity_holds DataSegments i d at = absurd (let k = at in cc)
