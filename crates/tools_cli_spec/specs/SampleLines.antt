-- The lines that a sample prints.
use Rattle.std.specs.Prelude.{◌++◌, length, codes, decimal}
use Rattle.wasm_tree_spec.specs.Prelude.{Module}
use Rattle.wasm_write_spec.specs.Plain.{plain}
use Rattle.tools_cli_spec.specs.CommandLine.{Text, SampleTask}

-- The seed and the count; the number of parts; and, of the merged module, how many functions it
-- defines, how many exports it has, and how many bytes its canonical encoding has.
abbrev pub sample_lines : SampleTask → Module → Text
sample_lines sample tree =
    codes "sample seed " ++ (decimal sample.seed ++ (codes " count " ++ (decimal sample.count ++ (codes "\nparts 2\nfunctions " ++ (decimal (length tree.funcs)
    ++ (codes "\nexports " ++ (decimal (length tree.exports) ++ (codes "\nbytes " ++ (decimal (length (plain tree)) ++ codes "\n")))))))))
