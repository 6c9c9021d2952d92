-- The names of kinds of items and of limited quantities, each beside its item.
use Rattle.base_lists.proofs.Common.{◌≡◌, refl, codes}
use Rattle.wasm_tree.specs.declared.which.Which.TheVariants as which
use Rattle.wasm_valid.specs.declared.kinds.ItemKind.TheVariants as kind
use Rattle.tools_cli_spec.specs.Texts.{kind_text, which_text}

pub record KindsAreNamed : Type 0 where
  pub import : kind_text kind.Import ≡ codes "import "
  pub memories : kind_text kind.Memories ≡ codes "memories "
  pub func : kind_text kind.Func ≡ codes "func "
  pub table : kind_text kind.Table ≡ codes "table "
  pub memory : kind_text kind.Memory ≡ codes "memory "
  pub global : kind_text kind.Global ≡ codes "global "
  pub export : kind_text kind.Export ≡ codes "export "
  pub start : kind_text kind.Start ≡ codes "start "
  pub elem : kind_text kind.Elem ≡ codes "elem "
  pub segment : kind_text kind.Segment ≡ codes "data "
  pub body : kind_text kind.Body ≡ codes "body "

kinds_are_named : KindsAreNamed
kinds_are_named = record { import = refl; memories = refl; func = refl; table = refl; memory = refl; global = refl; export = refl; start = refl; elem = refl; segment = refl; body = refl }

pub record QuantitiesAreNamed : Type 0 where
  pub input_bytes : which_text which.InputBytes ≡ codes "input bytes"
  pub parts : which_text which.Parts ≡ codes "parts"
  pub types : which_text which.Types ≡ codes "types"
  pub imports : which_text which.Imports ≡ codes "imports"
  pub functions : which_text which.Functions ≡ codes "functions"
  pub tables : which_text which.Tables ≡ codes "tables"
  pub memories : which_text which.Memories ≡ codes "memories"
  pub globals : which_text which.Globals ≡ codes "globals"
  pub exports : which_text which.Exports ≡ codes "exports"
  pub element_segments : which_text which.ElementSegments ≡ codes "element segments"
  pub data_segments : which_text which.DataSegments ≡ codes "data segments"
  pub nesting : which_text which.Nesting ≡ codes "nesting"
  pub locals : which_text which.Locals ≡ codes "locals"
  pub parameters : which_text which.Parameters ≡ codes "parameters"
  pub results : which_text which.Results ≡ codes "results"
  pub trampolines : which_text which.Trampolines ≡ codes "trampolines"
  pub output_bytes : which_text which.OutputBytes ≡ codes "output bytes"

quantities_are_named : QuantitiesAreNamed
quantities_are_named =
    record {
      input_bytes = refl;
      parts = refl;
      types = refl;
      imports = refl;
      functions = refl;
      tables = refl;
      memories = refl;
      globals = refl;
      exports = refl;
      element_segments = refl;
      data_segments = refl;
      nesting = refl;
      locals = refl;
      parameters = refl;
      results = refl;
      trampolines = refl;
      output_bytes = refl;
    }
