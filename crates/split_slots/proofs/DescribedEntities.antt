-- An index space of a module has the entities that are imported, and then those that are defined.
use Rattle.base_lists.proofs.Common.{◌≡◌, ℕ, ◌+◌, ◌<◌, List, [], ◌∷◌, ◌++◌, map, take, length, get_or, None, refl, sym, ap, ap₂, ◌∙◌, cons_option, map-append, take_more, filter_map-append}
use Rattle.wasm_tree_spec.specs.Prelude.{Space, Types, Functions, Tables, Memories, Globals, ElementSegments, DataSegments, Func, GlobalDef, Import, ImportDesc, Module, func_of, global_of, imported_funcs, imported_globals, imported_memories, imported_tables, memory_of, table_of}
use Rattle.wasm_tree.specs.declared.module.ImportDesc.TheVariants as im
use Rattle.split_spec.specs.Prelude.{entities}
use Rattle.split_slots.specs.EntityDescriptions.{defined_in, desc_in, imported_in}

pub described_more : (space : Space) (imports : List Import) (k : ℕ) (x : Import) → k < length imports → x ≡ get_or imports k x → imported_in space (take (k + 1) imports) ≡ imported_in space (take k imports) ++ cons_option (desc_in space x.desc) []
described_more space imports k x lt is =
    ap (imported_in space) (take_more imports k x lt ∙ ap (λ y. take k imports ++ y ∷ []) (sym is)) ∙ filter_map-append (λ i. desc_in space i.desc) (take k imports) (x ∷ [])

-- ---- what imports add ----

joined : {A B : Type 0} (f : A → B) (xs ys : List A) (zs ws : List B) → zs ≡ map f xs → ws ≡ map f ys → zs ++ ws ≡ map f (xs ++ ys)
joined f xs ys zs ws a b = ap₂ (λ x y. x ++ y) a b ∙ sym (map-append f xs ys)

funcs_in : (imports : List Import) → imported_in Functions imports ≡ map im.Func (imported_funcs imports)
funcs_in [] = refl
funcs_in (i ∷ is) = split i.desc (funcs_in is)
  where
    split : (d : ImportDesc) → imported_in Functions is ≡ map im.Func (imported_funcs is) → cons_option (desc_in Functions d) (imported_in Functions is) ≡ map im.Func (cons_option (func_of d) (imported_funcs is))
    split (im.Func ty) later = ap (λ xs. im.Func ty ∷ xs) later
    split (im.Table ty) later = later
    split (im.Memory limits) later = later
    split (im.Global ty) later = later

tables_in : (imports : List Import) → imported_in Tables imports ≡ map im.Table (imported_tables imports)
tables_in [] = refl
tables_in (i ∷ is) = split i.desc (tables_in is)
  where
    split : (d : ImportDesc) → imported_in Tables is ≡ map im.Table (imported_tables is) → cons_option (desc_in Tables d) (imported_in Tables is) ≡ map im.Table (cons_option (table_of d) (imported_tables is))
    split (im.Func ty) later = later
    split (im.Table ty) later = ap (λ xs. im.Table ty ∷ xs) later
    split (im.Memory limits) later = later
    split (im.Global ty) later = later

memories_in : (imports : List Import) → imported_in Memories imports ≡ map im.Memory (imported_memories imports)
memories_in [] = refl
memories_in (i ∷ is) = split i.desc (memories_in is)
  where
    split : (d : ImportDesc) → imported_in Memories is ≡ map im.Memory (imported_memories is) → cons_option (desc_in Memories d) (imported_in Memories is) ≡ map im.Memory (cons_option (memory_of d) (imported_memories is))
    split (im.Func ty) later = later
    split (im.Table ty) later = later
    split (im.Memory limits) later = ap (λ xs. im.Memory limits ∷ xs) later
    split (im.Global ty) later = later

globals_in : (imports : List Import) → imported_in Globals imports ≡ map im.Global (imported_globals imports)
globals_in [] = refl
globals_in (i ∷ is) = split i.desc (globals_in is)
  where
    split : (d : ImportDesc) → imported_in Globals is ≡ map im.Global (imported_globals is) → cons_option (desc_in Globals d) (imported_in Globals is) ≡ map im.Global (cons_option (global_of d) (imported_globals is))
    split (im.Func ty) later = later
    split (im.Table ty) later = later
    split (im.Memory limits) later = later
    split (im.Global ty) later = ap (λ xs. im.Global ty ∷ xs) later

none_in : (space : Space) → ((d : ImportDesc) → desc_in space d ≡ None) → (imports : List Import) → imported_in space imports ≡ []
none_in space none [] = refl
none_in space none (i ∷ is) = ap (λ o. cons_option o (imported_in space is)) (none i.desc) ∙ none_in space none is

-- ---- with what is defined ----

func_types : (fs : List Func) → map (λ f. im.Func f.ty) fs ≡ map im.Func (map (λ f. f.ty) fs)
func_types [] = refl
func_types (f ∷ fs) = ap (λ xs. im.Func f.ty ∷ xs) (func_types fs)

global_types : (gs : List GlobalDef) → map (λ g. im.Global g.ty) gs ≡ map im.Global (map (λ g. g.ty) gs)
global_types [] = refl
global_types (g ∷ gs) = ap (λ xs. im.Global g.ty ∷ xs) (global_types gs)

pub all_described : (m : Module) (space : Space) → imported_in space m.imports ++ defined_in m space ≡ entities m space
all_described m Functions = joined im.Func (imported_funcs m.imports) (map (λ f. f.ty) m.funcs) (imported_in Functions m.imports) (map (λ f. im.Func f.ty) m.funcs) (funcs_in m.imports) (func_types m.funcs)
all_described m Tables = joined im.Table (imported_tables m.imports) m.tables (imported_in Tables m.imports) (map im.Table m.tables) (tables_in m.imports) refl
all_described m Memories = joined im.Memory (imported_memories m.imports) m.mems (imported_in Memories m.imports) (map im.Memory m.mems) (memories_in m.imports) refl
all_described m Globals = joined im.Global (imported_globals m.imports) (map (λ g. g.ty) m.globals) (imported_in Globals m.imports) (map (λ g. im.Global g.ty) m.globals) (globals_in m.imports) (global_types m.globals)
all_described m Types = ap (λ xs. xs ++ []) (none_in Types (λ d. none d) m.imports)
  where
    none : (d : ImportDesc) → desc_in Types d ≡ None
    none (im.Func ty) = refl
    none (im.Table ty) = refl
    none (im.Memory limits) = refl
    none (im.Global ty) = refl
all_described m ElementSegments = ap (λ xs. xs ++ []) (none_in ElementSegments (λ d. none d) m.imports)
  where
    none : (d : ImportDesc) → desc_in ElementSegments d ≡ None
    none (im.Func ty) = refl
    none (im.Table ty) = refl
    none (im.Memory limits) = refl
    none (im.Global ty) = refl
all_described m DataSegments = ap (λ xs. xs ++ []) (none_in DataSegments (λ d. none d) m.imports)
  where
    none : (d : ImportDesc) → desc_in DataSegments d ≡ None
    none (im.Func ty) = refl
    none (im.Table ty) = refl
    none (im.Memory limits) = refl
    none (im.Global ty) = refl
