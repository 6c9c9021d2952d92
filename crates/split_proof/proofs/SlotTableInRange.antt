-- The numbers of the slot table and of its segment are in range, and bounds on the numbers of
-- entities to export or import.
use Rattle.base_lists.proofs.Common.{ℕ, ◌<◌, ◌^◌, List, length, arith, pos, ints, length-map}
use Rattle.base_lists.proofs.Every.{every_of, every_map}
use Rattle.base_lists.specs.Every.{Every}
use Rattle.wasm_bytes.specs.Prelude.{IsWithin}
use Rattle.wasm_tree_spec.specs.Prelude.{Space, Types, Functions, Tables, Memories, Globals, ElementSegments, DataSegments, Module, IsBounded, funcs_of, globals_of, memories_of, tables_of}
use Rattle.wasm_tree.specs.declared.module.ConstExpr.TheVariants as const
use Rattle.wasm_tree.specs.declared.module.ImportDesc.TheVariants as im
use Rattle.wasm_write_proof.specs.Ranges.{LimitsInRange}
use Rattle.wasm_valid_proof.specs.Numbers.{ConstNumberInRange, ElemNumbersInRange, OwnNumbersAreInRange, RenumberedNumbersAreInRange, DeclaredNumbersAreInRange}
use Rattle.split_spec.specs.Prelude.{slot_segment, slot_table_type, entities}

-- The laws that the lemmas of this file assume.
pub record NumberLaws : Type 0 where
  pub own : OwnNumbersAreInRange
  pub renumbered : RenumberedNumbersAreInRange
  pub declared : DeclaredNumbersAreInRange

pub slot_limits_in : (count : ℕ) → count < 2 ^ 32 → LimitsInRange (slot_table_type count).limits
slot_limits_in count few = (few, few)

refs_in : (funcs : List ℕ) → Every ConstNumberInRange (slot_segment 0 0 funcs).items
refs_in funcs = every_map (λ (f : ℕ). Unit {0}) ConstNumberInRange const.Func (λ f u. tt) funcs (every_of (λ (f : ℕ). Unit {0}) funcs (λ f. tt))

pub slots_from : (table from : ℕ) (funcs : List ℕ) → from < 2 ^ 31 → ElemNumbersInRange (slot_segment table from funcs)
slots_from table from funcs few = let offset : IsWithin 32 (pos from) = (omega (arith, ints), omega (arith, ints, few)) in (offset, refs_in funcs)

pub entities_few : (m : Module) → IsBounded m → (space : Space) → length (entities m space) < 2 ^ 32
entities_few m few Functions = let many = length-map (funcs_of m) im.Func in let count = few.funcs in omega (arith, many, count)
entities_few m few Tables = let many = length-map (tables_of m) im.Table in let count = few.tables in omega (arith, many, count)
entities_few m few Memories = let many = length-map (memories_of m) im.Memory in let count = few.memories in omega (arith, many, count)
entities_few m few Globals = let many = length-map (globals_of m) im.Global in let count = few.globals in omega (arith, many, count)
entities_few m few Types = omega arith
entities_few m few ElementSegments = omega arith
entities_few m few DataSegments = omega arith
