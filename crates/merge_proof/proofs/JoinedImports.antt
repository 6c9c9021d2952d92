-- An import of a part is joined with the same entity among the parts before it as among all parts,
-- if each joined import leads to an earlier part.
use Rattle.merge_proof.proofs.PartLaws.{Instances}
use Rattle.base_lists.proofs.Common.{◌≡◌, ◌∙◌, refl, ap, ℕ, zero, suc, ◌+◌, ◌<◌, ◌≤◌, List, [], ◌∷◌, length, Option, Some, None, Bool, true, false, cond, arith, add-zero, zero-add, slice_get, and_then_is, same_Some, add_next}
use Rattle.wasm_tree_spec.specs.Prelude.{Import, ExportDesc, Module, index_of_export, space_of_export}
use Rattle.wasm_meaning.specs.Prelude.{Text, Inst, Part, Site, Entity, Defined, Outside, imports_of, module_at, export_named, first_place, source_of, joined, imported_as, joined_step, import_step, end_of, Environment, ExternalValue, owned_of, defined_count, external_value_of}
use Rattle.wasm_meaning.specs.Prelude.{imported_external_value, address_in, external_value_for, JoinsEarlier}
use Rattle.wasm_meaning.specs.Linking.{is_named}
use Rattle.wasm_meaning.specs.Sequential.{Made, made_named, exported_by, external_value_or_own}
use Rattle.merge_proof.proofs.ExternalValues.{goes_to, ends_at, defined_is, imported_is, part_inst}
use Rattle.world_simulation.specs.Prelude.{IsInst}

-- The first parts, each with its instance.
abbrev pub made_upto : ℕ → List Part → List Inst → List Made
made_upto (suc k) (p ∷ ps) (i ∷ is) = record { part = p; inst = i } ∷ made_upto k ps is
made_upto _ _ _ = []

-- The part of a name: it is among the first k, or the first part of that name comes later.
data Named (name : Text) (k off : ℕ) (ps : List Part) (is : List Inst) : Type 0 where
  among : {j : ℕ} {part : Part} {inst : Inst} → j < k → first_place (is_named name) ps off ≡ Some (off + j) → slice_get ps j ≡ Some part → slice_get is j ≡ Some inst → made_named (made_upto k ps is) name ≡ Some (record { part = part; inst = inst }) → Named name k off ps is
  later : ((q : ℕ) → first_place (is_named name) ps off ≡ Some q → off + k ≤ q) → made_named (made_upto k ps is) name ≡ None → Named name k off ps is

first_high : {A : Type 0} (test : A → Bool) (xs : List A) (off q : ℕ) → first_place test xs off ≡ Some q → off ≤ q
first_high test [] off q e = absurd (let k = e in cc)
first_high test (x ∷ xs) off q e = elim (test x) as (λ b. cond b (Some off) (first_place test xs (suc off)) ≡ Some q → off ≤ q) [
  | true ↦ λ e. omega (arith, same_Some _ _ e)
  | false ↦ λ e. omega (arith, first_high test xs (suc off) q e)
] e

named : (name : Text) (k off : ℕ) (ps : List Part) (is : List Inst) → length is ≡ length ps → Named name k off ps is
named name zero off ps is e = later (λ q h. omega (arith, first_high (is_named name) ps off q h)) refl
named name (suc k) off [] [] e = later (λ q h. cc) refl
named name (suc k) off (p ∷ ps) (i ∷ is) e = go (is_named name p) refl (named name k (suc off) ps is (omega arith))
  where
    go : (b : Bool) → is_named name p ≡ b → Named name k (suc off) ps is → Named name (suc k) off (p ∷ ps) (i ∷ is)
    go true t h = among {j = 0} (omega arith) (rw (t, add-zero)) refl refl (rw t)
    go false t (among {j = j} l f a b m) = among {j = suc j} (omega arith) (rw (t, add_next) f) a b (rw t m)
    go false t (later f m) = later (λ q h. let l = f q (rw t at h) in omega arith) (rw t m)
named name (suc k) off _ _ e = absurd (omega arith)

-- The entities that parts export exist.
abbrev pub ExportsThere : List Part → Type 0
ExportsThere parts = (p : ℕ) (m : Module) (field : Text) (d : ExportDesc) → module_at parts p ≡ Some m → export_named m.exports field ≡ Some d → index_of_export d < length (imports_of (space_of_export d) m) + defined_count (space_of_export d) m

pub module_is : (parts : List Part) (p : ℕ) (part : Part) → slice_get parts p ≡ Some part → module_at parts p ≡ Some part.«module»
module_is parts p part e = rw e

module _ (env : Environment) (parts : List Part) (insts : List Inst) (are : Instances env parts insts) (size : length insts ≡ length parts) (earlier : JoinsEarlier parts) where
  abbrev made : ℕ → List Made
  made p = made_upto p parts insts

  pub inst_of_part : (q : ℕ) (m : Module) (i : Inst) → module_at parts q ≡ Some m → slice_get insts q ≡ Some i → IsInst env parts q m i
  inst_of_part = part_inst env parts insts are

  module _ (p n : ℕ) (m : Module) (i : Import) (is_part : module_at parts p ≡ Some m) (is_import : slice_get m.imports n ≡ Some i) where
    abbrev site : Site
    site = record { part = p; import = n }

    step_is : import_step parts site ≡ Some (joined_step parts site (joined parts i))
    step_is = rw (is_part, is_import)

    -- An import that is joined with nothing denotes an entity of the environment's own.
    pub stays_own : (x : ExternalValue) (o : Option (Made × ExportDesc)) → joined parts i ≡ None → o ≡ None → imported_external_value env parts site ≡ Some x → external_value_or_own (owned_of env) m i o ≡ Some x
    stays_own x o j none h =
        let e = and_then_is (end_of parts site) (external_value_of env parts) x h in
        let end = ends_at parts site e.0 (Outside site) (rw j at step_is) e.1 in
        rw none (rw (← end, is_part, is_import) at e.2)

    -- A joined import denotes the entity that the other part's instance has.
    pub joins : (x : ExternalValue) (q : ℕ) (part : Part) (inst : Inst) (d : ExportDesc) → joined parts i ≡ Some (record { part = q; what = d }) → slice_get parts q ≡ Some part → slice_get insts q ≡ Some inst →
        imported_external_value env parts site ≡ Some x → address_in inst d ≡ Some x
    joins x q part inst d j at_part at_inst h =
        let e = and_then_is (end_of parts site) (external_value_of env parts) x h in
        let is_source = module_is parts q part at_part in
        let is_inst = inst_of_part q part.«module» inst is_source at_inst in
        elim (imported_as parts (record { part = q; what = d })) as (λ o. imported_as parts (record { part = q; what = d }) ≡ o → address_in inst d ≡ Some x) [
          | None ↦ λ imp. defined_is env parts q part.«module» is_source inst is_inst d imp ∙ ap (external_value_of env parts) (ends_at parts site e.0 (Defined (record { part = q; what = d })) (rw (j, imp) at step_is) e.1) ∙ e.2
          | Some t ↦ λ imp. imported_is env parts q part.«module» is_source inst is_inst d t x imp (rw (goes_to parts site t e.0 (rw (j, imp) at step_is) e.1) e.2)
        ] refl

    pub thing_same : (x : ExternalValue) → imported_external_value env parts site ≡ Some x → external_value_for (owned_of env) (made p) m i ≡ Some x
    thing_same x h = by_source (named i.«module» p 0 parts insts size)
      where
        -- The named part is one of the parts before.
        there_before : (q : ℕ) (part : Part) (inst : Inst) → source_of parts i ≡ Some q → slice_get parts q ≡ Some part → slice_get insts q ≡ Some inst → made_named (made p) i.«module» ≡ Some (record { part = part; inst = inst }) → (o : Option ExportDesc) →
            export_named part.«module».exports i.field ≡ o → external_value_for (owned_of env) (made p) m i ≡ Some x
        there_before q part inst s a b c None e = stays_own x (exported_by (made p) i) (rw (s, a, e)) (rw (c, e)) h
        there_before q part inst s a b c (Some d) e = rw (c, e) (joins x q part inst d (rw (s, a, e)) a b h)

        -- The named part comes later, or there is none.
        not_before : ((q : ℕ) → source_of parts i ≡ Some q → p ≤ q) → made_named (made p) i.«module» ≡ None → (o : Option Entity) → joined parts i ≡ o → external_value_for (owned_of env) (made p) m i ≡ Some x
        not_before l c None j = stays_own x (exported_by (made p) i) j (rw c) h
        not_before l c (Some e) j =
            let s = and_then_is (source_of parts i) _ e j in
            let a = and_then_is (module_at parts s.0) _ e s.2 in
            let b = and_then_is (export_named a.0.exports i.field) _ e a.2 in
            let same : s.0 ≡ e.part = ap (λ z. z.part) (same_Some _ _ b.2) in
            absurd (omega (arith, earlier p n m i e is_part is_import j, l s.0 s.1))

        by_source : Named i.«module» p 0 parts insts → external_value_for (owned_of env) (made p) m i ≡ Some x
        by_source (among {j = q} {part = part} {inst = inst} l f a b c) = there_before q part inst (rw zero-add at f) a b c (export_named part.«module».exports i.field) refl
        by_source (later l c) = not_before (λ q e. omega (arith, l q e)) c (joined parts i) refl
