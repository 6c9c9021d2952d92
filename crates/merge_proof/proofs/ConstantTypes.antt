-- A constant expression of a part keeps its type when it becomes the expression that it reads
-- through joined globals.
use Rattle.base_lists.proofs.Common.{◌≡◌, ◌∙◌, ap, ap₂, sym, subst, refl, ℕ, zero, suc, ◌+◌, ◌-◌, ◌<◌, ◌≤◌, List, [], ◌∷◌, length, Option, Some, Bool, true, false, cond, ◌&&◌, not, nat_lt, arith, IsTrue, option_and_then, unwrap_or, slice_get, slice_index, ltb-true, lt-ltb, is_some_there}
use Rattle.base_lists.proofs.Common.{and_then_is, slice_get_within, slice_get_there, map_from, append_at_left, place_of, places_many, left_true, right_true, only_true, only_rest}
use Rattle.wasm_tree_spec.specs.Prelude.{Space, Functions, Globals, ValType, Ref, GlobalType, Import, ConstExpr, GlobalDef, Module, funcs_of, globals_of, imported_globals, index_of_export}
use Rattle.wasm_tree.specs.declared.types.RefType.TheVariants.{Func as func_ref}
use Rattle.wasm_tree.specs.declared.module.ConstExpr.TheVariants as const
use Rattle.wasm_tree.specs.declared.module.ExportDesc.TheVariants as ex
use Rattle.wasm_valid_bodies.specs.Typing.{only}
use Rattle.wasm_valid.specs.declared.kinds.ItemKind.TheVariants as kind
use Rattle.wasm_valid.specs.Prelude.{const_type, ItemsHold}
use Rattle.wasm_meaning.specs.Prelude.{Text, PathStep, EndsWith, LeadsTo, Path, ends, goes, EndsArePaths, Part, Site, Outside, Entity, Read, places, has_kind, space_index, module_at, imports_of, global_import, end_of, initial, outside_read, end_step, read_step, read_of}
use Rattle.wasm_meaning.specs.Laws.{ReadsArePaths}
use Rattle.index_remap.specs.declared.remap.Remap.{Remap}
use Rattle.index_remap.specs.Prelude.{fits_const, new_const}
use Rattle.index_remap_proof.specs.Indices.{Indices, with_entry, ConstNamesOnly}
use Rattle.index_remap_proof.specs.Trees.{TreesAgree, ReadsImport, ConstComesFrom}
use Rattle.merge_spec.specs.Prelude.{merged, map_of, merged_read, staying_of, place_of_end, new_index}
use Rattle.merge_spec.specs.Merged.{merged_const}
use Rattle.merge_proof.specs.MapEntries.{HasEntry}
use Rattle.merge_proof.proofs.EntityTypes.{of_import, own, imported, space, import_kind, GlobalTy, type_of, asked_type}
use Rattle.merge_proof.proofs.LinkFaults.{AllAreSuited, import_site}
use Rattle.merge_proof.proofs.EndTypes.{EndsInside, EndsOutside, Landed, inside, outside}
use Rattle.merge_proof.proofs.MergedSpaces.{imported_many}
use Rattle.merge_proof.proofs.NewIndices.{inside_own, own_entry, outside_kind, outside_place, kind_there, site_at, imported_is, index_imported, joined_entry}
use Rattle.merge_proof.proofs.PartAgreement.{entry_at, entries_many, trees_agree}

-- ---- constant expressions of one module ----

-- The imported immutable global that a constant expression of a valid module reads.
record ReadsGlobal (m : Module) (x : ℕ) (ty : ValType) : Type 0 where
  global : GlobalType
  at : slice_get (globals_of m) x ≡ Some global
  imported : x < length (imported_globals m.imports)
  fixed : not global.mutable ≡ true
  typed : global.ty ≡ ty

reads_global : (m : Module) (x : ℕ) (ty : ValType) → const_type m (const.Global x) ≡ Some ty → ReadsGlobal m x ty
reads_global m x ty h =
    let g = and_then_is (slice_get (globals_of m) x) (λ g. only (nat_lt x (length (imported_globals m.imports)) && not g.mutable) (Some g.ty)) ty h in
    let b = only_true (nat_lt x (length (imported_globals m.imports)) && not g.0.mutable) (Some g.0.ty) ty g.2 in
    let s = only_rest (nat_lt x (length (imported_globals m.imports)) && not g.0.mutable) (Some g.0.ty) ty g.2 in
    let same : g.0.ty ≡ ty = cc in
    record { global = g.0; at = g.1; imported = ltb-true _ _ (left_true _ _ b); fixed = right_true (nat_lt x (length (imported_globals m.imports))) _ b; typed = same }

global_typed : (m : Module) (x : ℕ) (g : GlobalType) → slice_get (globals_of m) x ≡ Some g → x < length (imported_globals m.imports) → not g.mutable ≡ true → const_type m (const.Global x) ≡ Some g.ty
global_typed m x g at lt fixed =
    ap (λ o. option_and_then (λ g. only (nat_lt x (length (imported_globals m.imports)) && not g.mutable) (Some g.ty)) o) at
    ∙ ap₂ (λ a b. only (a && b) (Some g.ty)) (lt-ltb _ _ lt) fixed

const_fits : (m : Module) (r : Remap) (e : ConstExpr) (ty : ValType) → length (funcs_of m) ≤ length r.funcs → length (globals_of m) ≤ length r.globals → const_type m e ≡ Some ty → IsTrue (fits_const r e)
const_fits m r (const.I32 v) ty a b h = refl
const_fits m r (const.I64 v) ty a b h = refl
const_fits m r (const.Null t) ty a b h = refl
const_fits m r (const.Func f) ty a b h = let l = ltb-true _ _ (only_true (nat_lt f (length (funcs_of m))) (Some (Ref func_ref)) ty h) in lt-ltb _ _ (omega (arith, l, a))
const_fits m r (const.Global x) ty a b h = let g = reads_global m x ty h in let l = slice_get_within (globals_of m) x g.global g.at in lt-ltb _ _ (omega (arith, l, b))

const_named : (r : Remap) (e : ConstExpr) → IsTrue (fits_const r e) → ConstNamesOnly (with_entry r) e
const_named r (const.I32 v) h = tt
const_named r (const.I64 v) h = tt
const_named r (const.Null t) h = tt
const_named r (const.Func f) h = h
const_named r (const.Global x) h = h

pub map_fits : (parts : List Part) (p : ℕ) (m : Module) (e : ConstExpr) (ty : ValType) → const_type m e ≡ Some ty → IsTrue (fits_const (map_of parts p m) e)
map_fits parts p m e ty h =
    let f = entries_many parts p m Functions refl in
    let g = entries_many parts p m Globals refl in
    const_fits m (map_of parts p m) e ty (omega (arith, f)) (omega (arith, g)) h

-- ---- the place of an import in its space ----

index_place : (k : Space) (is : List Import) (n from : ℕ) (i : Import) → slice_get is n ≡ Some i → has_kind k i ≡ true → slice_get (places (has_kind k) is from) (space_index is n k) ≡ Some (from + n)
index_place k [] n from i h e = cc
index_place k (x ∷ xs) zero from i h e =
    let same : x ≡ i = cc in
    let z : from ≡ from + 0 = omega arith in
    ap (λ b. slice_get (cond b (from ∷ places (has_kind k) xs (suc from)) (places (has_kind k) xs (suc from))) 0) (ap (has_kind k) same ∙ e) ∙ ap Some z
index_place k (x ∷ xs) (suc n) from i h e = by (has_kind k x) (index_place k xs n (suc from) i h e)
  where
    by : (b : Bool) → slice_get (places (has_kind k) xs (suc from)) (space_index xs n k) ≡ Some (suc from + n) →
        slice_get (cond b (from ∷ places (has_kind k) xs (suc from)) (places (has_kind k) xs (suc from))) (cond b (suc (space_index xs n k)) (space_index xs n k)) ≡ Some (from + suc n)
    by true on = on ∙ ap Some (let z : suc from + n ≡ from + suc n = omega arith in z)
    by false on = on ∙ ap Some (let z : suc from + n ≡ from + suc n = omega arith in z)

-- ---- the expression at which a read ends ----

module _ (ends_law : EndsArePaths) (parts : List Part) (names : List (Option Text)) (links : AllAreSuited parts) where
  -- An expression at which a read ends: it has this type, and a global in it is an import of the
  -- merged module.
  pub record Ended (r : Read) (ty : ValType) : Type 0 where
    pub of : Module
    pub is_part : module_at parts r.part ≡ Some of
    pub typed : const_type of r.expr ≡ Some ty
    pub reads : ReadsImport (map_of parts r.part of) (merged parts names) r.expr

  -- One step of a read from an expression of this type: the read ends, or it continues with the
  -- initialiser of a global that a part defines.
  data Step (r : Read) (ty : ValType) : Type 0 where
    stop : (q : Read) → read_step parts r ≡ Some (EndsWith q) → Ended q ty → Step r ty
    on : (e : Entity) (of : Module) (j : ℕ) (g : GlobalDef) → read_step parts r ≡ Some (LeadsTo (record { part = e.part; expr = g.init })) → module_at parts e.part ≡ Some of → slice_get of.globals j ≡ Some g → g.ty.ty ≡ ty → Step r ty

  global_type : (g h : GlobalType) → Some (GlobalTy g) ≡ Some (GlobalTy h) → g ≡ h
  global_type g h e = cc

  -- A global import that stays ends the read.
  stays_read : (r : Read) (s : Site) (g : GlobalType) → not g.mutable ≡ true → read_step parts r ≡ end_step parts (end_of parts s) → EndsOutside parts s (GlobalTy g) → Step r g.ty
  stays_read r s g fixed step w =
      let k = Globals in
      let to : w.to ≡ w.first = w.same (λ e. cc) in
      let m = import_site parts w.to w.stays.import w.stays.at in
      let x = space_index m.0.imports w.to.import k in
      let h = outside_kind parts k s (GlobalTy g) refl w in
      let at : slice_get m.0.imports w.to.import ≡ Some w.stays.import = m.2 in
      let z : 0 + w.to.import ≡ w.to.import = omega arith in
      let p : slice_get (imports_of k m.0) x ≡ Some w.to.import = index_place k m.0.imports w.to.import 0 w.stays.import at h ∙ ap Some z in
      let c = is_some_there (of_import k w.stays.import) (import_kind k w.stays.import ∙ h) in
      let got = place_of (has_kind k) (of_import k) m.0.imports (import_kind k) 0 x w.to.import p in
      let n : w.to.import ≡ got.0 = (let d = got.2 in omega (arith, d)) in
      let both : Some w.stays.import ≡ Some got.1 = sym at ∙ ap (slice_get m.0.imports) n ∙ got.3 in
      let same : got.1 ≡ w.stays.import = cc in
      let is_c : slice_get (imported k m.0) x ≡ Some c.0 = got.5 ∙ ap (of_import k) same ∙ c.1 in
      let asks = kind_there parts w.to w.stays.import w.thing m.0 m.1 m.2 w.asks in
      let c_g : c.0 ≡ g = global_type c.0 g (asked_type m.0 k w.stays.import.desc c.0 w.thing c.1 asks ∙ ap Some w.typed) in
      let lt = slice_get_within (imported k m.0) x c.0 is_c in
      let at_x : slice_get (globals_of m.0) x ≡ Some g = append_at_left (imported k m.0) (own k m.0) x c.0 is_c ∙ ap Some c_g in
      let q : Read = record { part = w.to.part; expr = const.Global x } in
      let out : outside_read parts w.to ≡ Some q = ap (λ o. option_and_then {T = Module} {U = Read} (λ m. Some (record { part = w.to.part; expr = const.Global (space_index m.imports w.to.import Globals) })) o) m.1 in
      let space_lt : x < length (space k m.0) = slice_get_within (space k m.0) x g at_x in
      let entry : new_index parts w.to.part k x ≡ place_of_end parts k (Outside w.to) =
      index_imported parts w.to.part m.0 k x w.to.import (Outside w.to) m.1 p w.stays.linked in
      let in_map : slice_index (map_of parts w.to.part m.0).globals x ≡ place_of_end parts k (Outside w.to) = entry_at parts w.to.part m.0 k x refl space_lt ∙ entry in
      let few : place_of_end parts k (Outside w.to) < length (staying_of parts k) = slice_get_within (staying_of parts k) _ w.to (outside_place parts k w.to w.stays h) in
      let many = imported_many parts names k in
      let imports : slice_index (map_of parts w.to.part m.0).globals x < length (imported k (merged parts names)) = omega (arith, in_map, few, many) in
      stop q (step ∙ ap (end_step parts) w.end ∙ ap (λ t. option_and_then (λ r. Some (EndsWith r)) (outside_read parts t)) (sym to) ∙ ap (λ o. option_and_then {T = Read} {U = PathStep Read Read} (λ r. Some (EndsWith r)) o) out)
      (record { of = m.0; is_part = m.1; typed = global_typed m.0 x g at_x lt fixed; reads = imports })

  -- A joined global import leads the read to the initialiser of the global that a part defines.
  joins_read : (r : Read) (s : Site) (g : GlobalType) → read_step parts r ≡ end_step parts (end_of parts s) → EndsInside parts s (GlobalTy g) → Step r g.ty
  joins_read r s g step w =
      let k = Globals in
      let o = inside_own parts k s (GlobalTy g) refl w in
      let n = index_of_export w.entity.what in
      let c = and_then_is (slice_get (space k w.of) n) (type_of w.of k) (GlobalTy g) o.typed in
      let at : slice_get (own k w.of) (n - length (imports_of k w.of)) ≡ Some c.0 = own_entry k w.of n c.0 o.own c.1 in
      let c_g : c.0 ≡ g = global_type c.0 g c.2 in
      let d = map_from (λ (g : GlobalDef). g.ty) w.of.globals (n - length (imports_of k w.of)) c.0 at in
      let got : slice_get w.of.globals (n - length (imports_of k w.of)) ≡ Some d.0 = d.1 in
      let init : initial parts w.entity ≡ Some d.0.init =
      ap (λ o. option_and_then (λ m. option_and_then (λ g. Some g.init) (slice_get m.globals (index_of_export w.entity.what - length (imports_of Globals m)))) o) w.is_part ∙ ap (λ o. option_and_then {T = GlobalDef} (λ g. Some g.init) o) got in
      on w.entity w.of (n - length (imports_of k w.of)) d.0
      (step ∙ ap (end_step parts) w.end ∙ ap (λ o. option_and_then {T = ConstExpr} {U = PathStep Read Read} (λ expr. Some (LeadsTo (record { part = w.entity.part; expr = expr }))) o) init) w.is_part d.1 (ap (λ (g : GlobalType). g.ty) (d.2 ∙ c_g))

  global_step : (p x : ℕ) (m : Module) (ty : ValType) → module_at parts p ≡ Some m → ReadsGlobal m x ty → Step (record { part = p; expr = const.Global x }) ty
  global_step p x m ty is g =
      let lt = g.imported in
      let many = places_many (has_kind Globals) (of_import Globals) m.imports (import_kind Globals) 0 in
      let n = slice_get_there (imports_of Globals m) x (omega (arith, lt, many)) in
      let at : slice_get (imports_of Globals m) x ≡ Some n.0 = n.1 in
      let j = joined_entry ends_law parts links p m Globals x n.0 (GlobalTy g.global) is at (ap (λ o. option_and_then (type_of m Globals) o) g.at) in
      let import : global_import parts p x ≡ Some (site_at p n.0) = imported_is parts Globals p m (ex.Global x) x is refl refl ∙ ap (λ o. option_and_then {T = ℕ} {U = Site} (λ n. Some (record { part = p; import = n })) o) at in
      subst (Step (record { part = p; expr = const.Global x })) g.typed
      (lands (site_at p n.0) (ap (λ o. end_step parts (option_and_then (end_of parts) o)) import) j.lands)
    where
      lands : (s : Site) → read_step parts (record { part = p; expr = const.Global x }) ≡ end_step parts (end_of parts s) → Landed parts s (GlobalTy g.global) → Step (record { part = p; expr = const.Global x }) g.global.ty
      lands s step (inside w) = joins_read (record { part = p; expr = const.Global x }) s g.global step w
      lands s step (outside w) = stays_read (record { part = p; expr = const.Global x }) s g.global g.fixed step w

  step_of : (p : ℕ) (e : ConstExpr) (m : Module) (ty : ValType) → module_at parts p ≡ Some m → const_type m e ≡ Some ty → Step (record { part = p; expr = e }) ty
  step_of p (const.I32 v) m ty is h = stop (record { part = p; expr = const.I32 v }) refl (record { of = m; is_part = is; typed = h; reads = tt })
  step_of p (const.I64 v) m ty is h = stop (record { part = p; expr = const.I64 v }) refl (record { of = m; is_part = is; typed = h; reads = tt })
  step_of p (const.Null t) m ty is h = stop (record { part = p; expr = const.Null t }) refl (record { of = m; is_part = is; typed = h; reads = tt })
  step_of p (const.Func f) m ty is h = stop (record { part = p; expr = const.Func f }) refl (record { of = m; is_part = is; typed = h; reads = tt })
  step_of p (const.Global x) m ty is h = global_step p x m ty is (reads_global m x ty h)

  module _ (reads_law : ReadsArePaths) (valid : (p : ℕ) (m : Module) → module_at parts p ≡ Some m → ItemsHold m) where
    -- The initialiser of a global that a part defines has the type of the global.
    init_typed : (m : Module) → ItemsHold m → (j : ℕ) (g : GlobalDef) → slice_get m.globals j ≡ Some g → const_type m g.init ≡ Some g.ty.ty
    init_typed m holds j g at =
        let z = holds kind.Global j (slice_get_within m.globals j g at) in
        let both : Some z.0 ≡ Some g = sym z.1 ∙ at in
        let same : z.0 ≡ g = cc in
        subst (λ (g : GlobalDef). const_type m g.init ≡ Some g.ty.ty) same z.2

    -- The steps of a read keep the type of the expression.
    ended : (r q : Read) → Path (read_step parts) r q → (m : Module) (ty : ValType) → module_at parts r.part ≡ Some m → const_type m r.expr ≡ Some ty → Ended q ty
    ended r q (ends h) m ty is t = by (step_of r.part r.expr m ty is t)
      where
        by : Step r ty → Ended q ty
        by (stop z k e) =
            let both : Some (EndsWith z) ≡ Some (EndsWith q) = sym k ∙ h in
            let same : z ≡ q = cc in subst (λ z. Ended z ty) same e
        by (on e of j g k is at y) = absurd (let both : Some (LeadsTo (record { part = e.part; expr = g.init })) ≡ Some (EndsWith q) = sym k ∙ h in cc)
    ended r q (goes {b = b} h p) m ty is t = by (λ m is t. ended b q p m ty is t) (step_of r.part r.expr m ty is t)
      where
        by : ((m : Module) → module_at parts b.part ≡ Some m → const_type m b.expr ≡ Some ty → Ended q ty) → Step r ty → Ended q ty
        by more (stop z k e) = absurd (let both : Some (EndsWith z) ≡ Some (LeadsTo b) = sym k ∙ h in cc)
        by more (on e of j g k is at y) =
            let both : Some (LeadsTo (record { part = e.part; expr = g.init })) ≡ Some (LeadsTo b) = sym k ∙ h in
            let same : record { part = e.part; expr = g.init } ≡ b = cc in
            more of (ap (λ b. module_at parts b.part) (sym same) ∙ is) (ap (λ b. const_type of b.expr) (sym same) ∙ init_typed of (valid e.part of is) j g at ∙ ap Some y)

    -- The global in an expression at which a read ends has an entry in the map of its part.
    pub read_fits : (p : ℕ) (e : ConstExpr) (m : Module) (ty : ValType) (r : Read) → module_at parts p ≡ Some m → const_type m e ≡ Some ty → read_of parts p e ≡ Some r → HasEntry parts r
    read_fits p e m ty r is t reads =
        let z = ended (record { part = p; expr = e }) r ((reads_law parts p e r).1 reads) m ty is t in
        record { of = z.of; is_part = z.is_part; fits = map_fits parts r.part z.of r.expr ty z.typed }

    -- Each constant expression with a type reads something.
    pub read_there : (p : ℕ) (e : ConstExpr) (m : Module) (ty : ValType) → module_at parts p ≡ Some m → const_type m e ≡ Some ty → (r : Read) × (read_of parts p e ≡ Some r)
    read_there p e m ty is t = by (step_of p e m ty is t)
      where
        by : Step (record { part = p; expr = e }) ty → (r : Read) × (read_of parts p e ≡ Some r)
        by (stop q k z) = (q, (reads_law parts p e q).0 (ends k))
        by (on d of j g k is at y) =
            let r = links.globals d.part of j g is at in
            (r.0, (reads_law parts p e r.0).0 (goes k ((reads_law parts d.part g.init r.0).1 r.1)))

    module _ (constants : (m : Remap) (kept : Indices) (t u : Module) (e : ConstExpr) → TreesAgree m kept t u → ConstNamesOnly kept e → ReadsImport m u e → ConstComesFrom t u e (new_const m e)) where
      -- The merged constant expression has the type of the part's constant expression.
      pub const_stands : (p : ℕ) (m : Module) (e : ConstExpr) → module_at parts p ≡ Some m → ConstComesFrom m (merged parts names) e (merged_const parts p e)
      unfolding merged_const
      const_stands p m e is ty t =
          let r = read_there p e m ty is t in
          let z = ended (record { part = p; expr = e }) r.0 ((reads_law parts p e r.0).1 r.1) m ty is t in
          let named = const_named (map_of parts r.0.part z.of) r.0.expr (map_fits parts r.0.part z.of r.0.expr ty z.typed) in
          let agree = trees_agree ends_law parts names links r.0.part z.of z.is_part (valid r.0.part z.of z.is_part) in
          ap (λ o. const_type (merged parts names) (unwrap_or (option_and_then (merged_read parts) o) e)) r.1
          ∙ ap (λ o. const_type (merged parts names) (unwrap_or (option_and_then {T = Module} {U = ConstExpr} (λ m. Some (new_const (map_of parts r.0.part m) r.0.expr)) o) e)) z.is_part
          ∙ constants (map_of parts r.0.part z.of) (with_entry (map_of parts r.0.part z.of)) z.of (merged parts names) r.0.expr agree named z.reads ty z.typed
