-- The map of a part, from its lists.
use Rattle.base_lists.proofs.Common.{◌≡◌, ◌∙◌, sym, ap, subst, ℕ, List, length, map, Some, unwrap_or}
use Rattle.wasm_tree_spec.specs.Prelude.{Functions, Tables, Memories, Globals, DataSegments, ElementSegments, Module, funcs_of, tables_of, memories_of, globals_of, same_func_type, Space}
use Rattle.wasm_meaning.specs.Prelude.{numbers, defined_before, Part, module_at, first_place}
use Rattle.index_remap.specs.declared.remap.Remap.{Remap}
use Rattle.merge_spec.specs.declared.parts.Part as declared
use Rattle.merge_spec.specs.Prelude.{named_modules, new_index, merged_types}
use Rattle.merge_spec.specs.Merged.{place_of_type, map_of}
use Rattle.merge_join.specs.LinkedParts.{space_size}
use Rattle.merge_join.proofs.SpaceSizes.{funcs_size, tables_size, memories_size, globals_size}

-- The new indices of an index space of a part, for equal parts and equal index spaces.
pub space_is : (qs parts : List declared.Part) (of k : Space) (p : ℕ) (new : List ℕ) → qs ≡ parts → of ≡ k
    → ((m : Module) → module_at (named_modules qs) p ≡ Some m → new ≡ map (new_index (named_modules qs) p of) (numbers 0 (space_size of m)))
    → (m : Module) → module_at (named_modules parts) p ≡ Some m → new ≡ map (new_index (named_modules parts) p k) (numbers 0 (space_size k m))
space_is qs parts of k p new same is h =
    subst (λ (xs : List declared.Part). (m : Module) → module_at (named_modules xs) p ≡ Some m → new ≡ map (new_index (named_modules xs) p k) (numbers 0 (space_size k m))) same
    (subst (λ (x : Space). (m : Module) → module_at (named_modules qs) p ≡ Some m → new ≡ map (new_index (named_modules qs) p x) (numbers 0 (space_size x m))) is h)

abbrev pub built : (types funcs tables mems globals elems datas : List ℕ) → Remap
built types funcs tables mems globals elems datas = record { types = types; funcs = funcs; tables = tables; mems = mems; globals = globals; elems = elems; datas = datas }

-- The lists that make up the map of a part.
pub record AreLists (ps : List Part) (p : ℕ) (m : Module) (types funcs tables mems globals elems datas : List ℕ) : Type 0 where
  pub types_are : types ≡ map (λ t. unwrap_or (first_place (same_func_type t) (merged_types ps) 0) 0) m.types
  pub funcs_are : funcs ≡ map (new_index ps p Functions) (numbers 0 (space_size Functions m))
  pub tables_are : tables ≡ map (new_index ps p Tables) (numbers 0 (space_size Tables m))
  pub mems_are : mems ≡ map (new_index ps p Memories) (numbers 0 (space_size Memories m))
  pub globals_are : globals ≡ map (new_index ps p Globals) (numbers 0 (space_size Globals m))
  pub elems_are : elems ≡ numbers (defined_before ElementSegments ps p) (length m.elems)
  pub datas_are : datas ≡ numbers (defined_before DataSegments ps p) (length m.datas)

pub map_built : (ps : List Part) (p : ℕ) (m : Module) (types funcs tables mems globals elems datas : List ℕ) → AreLists ps p m types funcs tables mems globals elems datas → built types funcs tables mems globals elems datas ≡ map_of ps p m
unfolding map_of place_of_type
map_built ps p m types funcs tables mems globals elems datas a =
    let ts = map (λ t. unwrap_or (first_place (same_func_type t) (merged_types ps) 0) 0) m.types in
    let fs = map (new_index ps p Functions) (numbers 0 (length (funcs_of m))) in
    let tabs = map (new_index ps p Tables) (numbers 0 (length (tables_of m))) in
    let ms = map (new_index ps p Memories) (numbers 0 (length (memories_of m))) in
    let gs = map (new_index ps p Globals) (numbers 0 (length (globals_of m))) in
    let es = numbers (defined_before ElementSegments ps p) (length m.elems) in
    ap (λ x. built x funcs tables mems globals elems datas) a.types_are
    ∙ ap (λ x. built ts x tables mems globals elems datas) (a.funcs_are ∙ ap (λ n. map (new_index ps p Functions) (numbers 0 n)) (sym (funcs_size m)))
    ∙ ap (λ x. built ts fs x mems globals elems datas) (a.tables_are ∙ ap (λ n. map (new_index ps p Tables) (numbers 0 n)) (sym (tables_size m)))
    ∙ ap (λ x. built ts fs tabs x globals elems datas) (a.mems_are ∙ ap (λ n. map (new_index ps p Memories) (numbers 0 n)) (sym (memories_size m)))
    ∙ ap (λ x. built ts fs tabs ms x elems datas) (a.globals_are ∙ ap (λ n. map (new_index ps p Globals) (numbers 0 n)) (sym (globals_size m)))
    ∙ ap (λ x. built ts fs tabs ms gs x datas) a.elems_are
    ∙ ap (built ts fs tabs ms gs es) a.datas_are
