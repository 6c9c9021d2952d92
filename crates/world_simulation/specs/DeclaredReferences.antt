-- A module with its references declared: it has perhaps one more element segment, which is
-- declarative. In a world of any one module, it is allocated if the instance has as many functions
-- as the module whose references it declares.
use Rattle.std.specs.Prelude.{◌≡◌, ℕ, List, [], ◌∷◌, ◌++◌, length, Some}
use Rattle.wasm_tree_spec.specs.Prelude.{ElemSeg, Module, funcs_of}
use Rattle.wasm_meaning.specs.Prelude.{Inst, Elem, Environment, all_there, elem_of}
use Rattle.index_remap.specs.Prelude.{declared_refs, with_declared, declaring}
use Rattle.world_simulation.specs.ModulesAlone.{one}

-- the segment that declares references, if there are any
abbrev pub last_segments : List ℕ → List ElemSeg
last_segments [] = []
last_segments (f ∷ fs) = declaring (f ∷ fs) ∷ []

-- the second is the first with the segment that declares these functions
pub record IsWithDeclared (m n : Module) (fs : List ℕ) : Type 0 where
  pub types : n.types ≡ m.types
  pub imports : n.imports ≡ m.imports
  pub funcs : n.funcs ≡ m.funcs
  pub tables : n.tables ≡ m.tables
  pub mems : n.mems ≡ m.mems
  pub globals : n.globals ≡ m.globals
  pub exports : n.exports ≡ m.exports
  pub start : n.start ≡ m.start
  pub elems : n.elems ≡ m.elems ++ last_segments fs
  pub datas : n.datas ≡ m.datas
  pub func_space : funcs_of n ≡ funcs_of m

-- ---- the laws ----

abbrev pub DeclaringAddsASegment : Type 0
DeclaringAddsASegment = (m : Module) (fs : List ℕ) → IsWithDeclared m (with_declared m fs) fs

-- The segment that declares a module's references is allocated, where the instance names as many
-- functions as the module has.
abbrev pub DeclaringSegmentsAreAllocated : Type 0
DeclaringSegmentsAreAllocated =
    (env : Environment) (u : Module) (j : Inst) (m : Module) → length j.funcs ≡ length (funcs_of m) →
    (es : List Elem) × (all_there (elem_of env (one u) (j ∷ []) 0) (last_segments (declared_refs m)) ≡ Some es)
