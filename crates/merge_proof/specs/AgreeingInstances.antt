-- The instances of the parts, and the instance of the merged module.
use Rattle.std.specs.Prelude.{◌≡◌, ℕ, ◌<◌, List, [], ◌∷◌, length, slice_index, Some, slice_get}
use Rattle.wasm_tree_spec.specs.Prelude.{Space, Functions, Tables, Memories, Globals, ElementSegments, DataSegments, FuncType, Module}
use Rattle.wasm_meaning.specs.Prelude.{Inst, Part, module_at, Environment}
use Rattle.merge_spec.specs.Prelude.{map_of}
use Rattle.merge_proof.specs.SharedAddresses.{shared_count}

-- an index of a part and its entry name the same address, which both worlds have
pub record SameAddress (env : Environment) (parts : List Part) (k : Space) (xs ys entries : List ℕ) (x : ℕ) : Type 0 where
  pub address : ℕ
  pub first : slice_get xs x ≡ Some address
  pub second : slice_get ys (slice_index entries x) ≡ Some address
  pub shared : address < shared_count env parts k

-- each index of an index space has an entry, and both name the same address
pub record SpaceAgrees (env : Environment) (parts : List Part) (k : Space) (xs ys entries : List ℕ) : Type 0 where
  pub size : length xs ≡ length entries
  pub each : (x : ℕ) → x < length entries → SameAddress env parts k xs ys entries x

-- a part's instance agrees with the merged module's
pub record PartAgrees (env : Environment) (parts : List Part) (p : ℕ) (m : Module) (i j : Inst) : Type 0 where
  pub own_types : i.types ≡ m.types
  pub types : (x : ℕ) (t : FuncType) → slice_get m.types x ≡ Some t → slice_get j.types (slice_index (map_of parts p m).types x) ≡ Some t
  pub funcs : SpaceAgrees env parts Functions i.funcs j.funcs (map_of parts p m).funcs
  pub tables : SpaceAgrees env parts Tables i.tables j.tables (map_of parts p m).tables
  pub mems : SpaceAgrees env parts Memories i.mems j.mems (map_of parts p m).mems
  pub globals : SpaceAgrees env parts Globals i.globals j.globals (map_of parts p m).globals
  pub elems : SpaceAgrees env parts ElementSegments i.elems j.elems (map_of parts p m).elems
  pub datas : SpaceAgrees env parts DataSegments i.datas j.datas (map_of parts p m).datas

-- the instance of each part agrees with the one of the merged module
pub record InstancesAgree (env : Environment) (parts : List Part) (insts js : List Inst) : Type 0 where
  pub merged : Inst
  pub alone : js ≡ merged ∷ []
  pub size : length insts ≡ length parts
  pub each : (p : ℕ) (m : Module) → module_at parts p ≡ Some m → (i : Inst) × (slice_get insts p ≡ Some i) × PartAgrees env parts p m i merged
