-- What the clauses of `run` do not allow: lists of different lengths, a text that is no line, lines
-- of a merge, a status of a missing file.
use Rattle.base_lists.proofs.Common.{◌≡◌, refl, ◌⊎◌, inl, inr, Bool, true, false, cond, List, [], ◌∷◌, get_or, bytes_eq, codes, arith}
use Rattle.tool_io.specs.FilesAndSinks.{FileContents}
use Rattle.wasm_tree_spec.specs.Prelude.{Module}
use Rattle.tools_cli_spec.specs.Prelude.{Text, MergeTask, Merge, Makes, Merges, merged, Output}
use Rattle.tools_cli_spec.specs.CommandLine.{may_print, usage_line}
use Rattle.tools_cli_spec.specs.Job.{Missing}
use Rattle.tools_cli_spec.specs.ErrorLines.{IsLine, usage, fault_line, invalid_line, parts_line, link_line, join_line, graph_line, plan_line, split_line, eval_line, output_line, cannot_read_line, cannot_write_line, cannot_print_line, no_memory_line}
use Rattle.tools_cli_spec.specs.Faithful.{HoldModules}
use Rattle.tools_cli_spec.specs.Run.{StatusOfJob}
use Rattle.tools_cli_spec.specs.declared.status.Status.{Status}

-- ---- modules of files ----

a_name_holds_no_module_of_none : (many : Bool) (files : FileContents) (name : Text) → HoldModules many files (name ∷ []) [] → ⊥
a_name_holds_no_module_of_none many files name h = h

no_name_holds_a_module : (many : Bool) (files : FileContents) (tree : Module) → HoldModules many files [] (tree ∷ []) → ⊥
no_name_holds_a_module many files tree h = h

two_names_hold_no_one_module : (many : Bool) (files : FileContents) (name other : Text) (tree : Module) → HoldModules many files (name ∷ other ∷ []) (tree ∷ []) → ⊥
two_names_hold_no_one_module many files name other tree h = h.1

-- ---- lines on standard error ----

-- A line begins as `binkit: ` or as `usage: ` does.
abbrev Begins : Text → Type 0
Begins text = (get_or text 0 0 ≡ 98) ⊎ (get_or text 0 0 ≡ 117)

usage_begins : (words : List Text) → Begins (usage_line words)
usage_begins [] = inr refl
usage_begins (word ∷ words) = by (bytes_eq word (codes "merge")) (bytes_eq word (codes "metadce")) (bytes_eq word (codes "split")) (bytes_eq word (codes "ctor-eval")) (bytes_eq word (codes "sample"))
  where
    by : (a b c d e : Bool) → Begins (cond a (codes "usage: binkit merge\n") (cond b (codes "usage: binkit metadce\n") (cond c (codes "usage: binkit split\n") (cond d (codes "usage: binkit ctor-eval\n")
        (cond e (codes "usage: binkit sample\n") (codes "usage: binkit merge|split|metadce|ctor-eval|sample\n"))))))
    by true b c d e = inr refl
    by false true c d e = inr refl
    by false false true d e = inr refl
    by false false false true e = inr refl
    by false false false false true = inr refl
    by false false false false false = inr refl

line_begins : (text : Text) → IsLine text → Begins text
line_begins _ (usage words) = usage_begins words
line_begins _ (fault_line file text fault e) = inl refl
line_begins _ (invalid_line file item) = inl refl
line_begins _ parts_line = inl refl
line_begins _ (link_line files text fault e) = inl refl
line_begins _ (join_line text fault e) = inl refl
line_begins _ (graph_line file text fault e) = inl refl
line_begins _ (plan_line text fault e) = inl refl
line_begins _ (split_line file text fault e) = inl refl
line_begins _ (eval_line text fault e) = inl refl
line_begins _ (output_line which) = inl refl
line_begins _ (cannot_read_line file) = inl refl
line_begins _ (cannot_write_line file) = inl refl
line_begins _ cannot_print_line = inl refl
line_begins _ no_memory_line = inl refl

never_begins : Begins (codes "done\n") → ⊥
never_begins (inl e) = let same : 100 ≡ 98 = e in omega arith
never_begins (inr e) = let same : 100 ≡ 117 = e in omega arith

done_is_no_line : IsLine (codes "done\n") → ⊥
done_is_no_line h = never_begins (line_begins _ h)

nothing_begins : Begins [] → ⊥
nothing_begins (inl e) = cc
nothing_begins (inr e) = cc

nothing_is_no_line : IsLine [] → ⊥
nothing_is_no_line h = nothing_begins (line_begins _ h)

-- ---- lines of a merge ----

merge_may_not_print : (merge : MergeTask) → may_print (Merge merge) ≡ false
merge_may_not_print merge = refl

merge_prints_no_lines : (merge : MergeTask) (trees : List Module) (outputs : List Output) (lines : Text) → Merges merge trees (Makes outputs lines) → lines ≡ []
merge_prints_no_lines merge trees _ _ (merged tree is) = refl

-- ---- a missing file ----

a_missing_file_has_no_status : (s : Status) → StatusOfJob Missing s → ⊥
a_missing_file_has_no_status s h = h
