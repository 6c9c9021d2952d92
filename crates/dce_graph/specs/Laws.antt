-- When imports are reached (WebAssembly Core 2.0, section 2.5.11), and the marks on exactly what is
-- reached.
use Rattle.std.specs.Prelude.{◌≡◌, ◌↔◌, ℕ, true, Some, slice_get}
use Rattle.wasm_tree_spec.specs.Prelude.{Space, Module, space_of_import}
use Rattle.wasm_tree.specs.declared.module.Import.{Import as ModuleImport}
use Rattle.dce_graph.specs.declared.graph.Graph.{Graph}
use Rattle.dce_graph.specs.declared.point.Point.{Point}
use Rattle.dce_graph.specs.declared.point.Point.TheVariants.{Import}
use Rattle.dce_graph.specs.declared.marks.Reached.{Reached}
use Rattle.dce_graph.specs.Marks.{AreExact}
use Rattle.dce_graph.specs.Reach.{IsReached, imports_into, stays_imported}

-- an import is reached if and only if its entry in its index space is
abbrev pub AreReachedTogether : Space → (ℕ → Point) → Type 0
AreReachedTogether space entry = (g : Graph) (m : Module) (i n : ℕ) → slice_get (imports_into space m.imports) i ≡ Some n → IsReached g m (Import n) ↔ IsReached g m (entry i)

-- imports of tables and memories are reached in every graph
abbrev pub StayingImportsAreReached : Type 0
StayingImportsAreReached = (g : Graph) (m : Module) (n : ℕ) (d : ModuleImport) → slice_get m.imports n ≡ Some d → stays_imported (space_of_import d.desc) ≡ true → IsReached g m (Import n)

-- such marks exist for each graph and module
abbrev pub ExactMarksExist : Type 0
ExactMarksExist = (g : Graph) (m : Module) → (r : Reached) × AreExact g m r

-- all such marks are the same
abbrev pub ExactMarksAreOne : Type 0
ExactMarksAreOne = (g : Graph) (m : Module) (r s : Reached) → AreExact g m r → AreExact g m s → r ≡ s
