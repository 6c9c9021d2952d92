-- Definitions of two instantiated worlds that correspond under a relation of addresses.
use Rattle.std.specs.Prelude.{◌≡◌, ℕ, ◌+◌, ◌<◌, List, Option, Some, slice_get, Bool, true, false}
use Rattle.wasm_tree_spec.specs.Prelude.{Space, Functions, Tables, Memories, Globals, ElementSegments, DataSegments, ConstExpr, GlobalDef, ElemMode, ElemSeg, Module}
use Rattle.wasm_tree.specs.declared.module.Func as tree
use Rattle.wasm_tree.specs.declared.module.ElemMode.TheVariants as elem
use Rattle.wasm_meaning.specs.Prelude.{Val, Inst, Part, module_at, Environment, base, own_count, value_of}
use Rattle.run_simulation.specs.Prelude.{Pairing, OptRel, ListRel, ValRel, CodeRel}

-- the parts of a world, each with its instance
pub record Instantiated : Type 0 where
  pub parts : List Part
  pub insts : List Inst

-- the values of the constant expressions of a part
abbrev pub values_in : Environment → Instantiated → ℕ → ConstExpr → Option Val
values_in env w p = value_of env w.parts w.insts p

-- ---- what is defined at an address ----

-- a part defines what is at the address: it is at this place among the part's definitions of the
-- index space
pub record DefinedAt (env : Environment) (w : Instantiated) (k : Space) {A : Type 0} (definitions : Module → List A) (a : ℕ) : Type 0 where
  pub part : ℕ
  pub of : Module
  pub is_part : module_at w.parts part ≡ Some of
  pub inst : Inst
  pub is_inst : slice_get w.insts part ≡ Some inst
  pub place : ℕ
  pub definition : A
  pub stands : slice_get (definitions of) place ≡ Some definition
  pub address : a ≡ base env w.parts k part + place

-- ---- definitions that correspond ----

-- equal types and locals, and related code
pub record FuncsCorrespond (R : Pairing) (i j : Inst) (f g : tree.Func) : Type 0 where
  pub type : slice_get i.types f.ty ≡ slice_get j.types g.ty
  pub locals : f.locals ≡ g.locals
  pub code : CodeRel R i j f.body g.body

-- the functions correspond, of which the first is at address `a` of its world; if that one is
-- opaque, only their types have to be equal
pub data FuncsAt (R : Pairing) (a : ℕ) (i j : Inst) (f g : tree.Func) : Type 0 where
  alike : FuncsCorrespond R i j f g → FuncsAt R a i j f g
  set_apart : R.listed a → slice_get i.types f.ty ≡ slice_get j.types g.ty → FuncsAt R a i j f g

-- equal types, and initial values that are related
pub record GlobalsCorrespond (R : Pairing) (value second_value : ConstExpr → Option Val) (g h : GlobalDef) : Type 0 where
  pub type : g.ty ≡ h.ty
  pub init : OptRel (ValRel R) (value g.init) (second_value h.init)

-- whether a segment is declarative, so that it is dropped when it is allocated
abbrev pub is_declarative : ElemMode → Bool
is_declarative elem.Declarative = true
is_declarative _ = false

-- both are declarative, so that their items are gone after the allocation; or neither is, and the
-- values of their items are related
pub data ElemsCorrespond (R : Pairing) (value second_value : ConstExpr → Option Val) (d e : ElemSeg) : Type 0 where
  declared : is_declarative d.mode ≡ true → is_declarative e.mode ≡ true → ElemsCorrespond R value second_value d e
  kept : is_declarative d.mode ≡ false → is_declarative e.mode ≡ false → ListRel (λ x y. OptRel (ValRel R) (value x) (second_value y)) d.items e.items → ElemsCorrespond R value second_value d e

-- Items that are related, and both segments are declarative or neither is: so what is allocated is
-- there in both or in neither.
pub record ElemsAlike (R : Pairing) (value second_value : ConstExpr → Option Val) (d e : ElemSeg) : Type 0 where
  pub declarative : is_declarative d.mode ≡ is_declarative e.mode
  pub items : ListRel (λ x y. OptRel (ValRel R) (value x) (second_value y)) d.items e.items

-- what is at two addresses of an index space: one entity of the environment's own, or definitions
-- that correspond, in their parts and instances
pub data Partners (env : Environment) (v w : Instantiated) (k : Space) {A : Type 0} (definitions : Module → List A) (correspond : ℕ → Inst → A → ℕ → Inst → A → Type 0) (a b : ℕ) : Type 0 where
  own : a ≡ b → a < own_count k env → Partners env v w k definitions correspond a b
  defined : (x : DefinedAt env v k definitions a) (y : DefinedAt env w k definitions b) → correspond x.part x.inst x.definition y.part y.inst y.definition →
      Partners env v w k definitions correspond a b

-- related addresses have partners: functions, globals and element segments that correspond (of
-- opaque functions only the types), tables and memories of equal types, data segments of equal
-- bytes
pub record DefinitionsCorrespond (R : Pairing) (env : Environment) (v w : Instantiated) : Type 0 where
  pub funcs : (a b : ℕ) → R.of Functions a b → Partners env v w Functions (λ m. m.funcs) (λ p i f q j g. FuncsAt R a i j f g) a b
  pub tables : (a b : ℕ) → R.of Tables a b → Partners env v w Tables (λ m. m.tables) (λ p i t q j u. t ≡ u) a b
  pub mems : (a b : ℕ) → R.of Memories a b → Partners env v w Memories (λ m. m.mems) (λ p i l q j n. l ≡ n) a b
  pub globals : (a b : ℕ) → R.of Globals a b → Partners env v w Globals (λ m. m.globals) (λ p i g q j h. GlobalsCorrespond R (values_in env v p) (values_in env w q) g h) a b
  pub elems : (a b : ℕ) → R.of ElementSegments a b → Partners env v w ElementSegments (λ m. m.elems) (λ p i d q j e. ElemsCorrespond R (values_in env v p) (values_in env w q) d e) a b
  pub datas : (a b : ℕ) → R.of DataSegments a b → Partners env v w DataSegments (λ m. m.datas) (λ p i d q j e. d.bytes ≡ e.bytes) a b
