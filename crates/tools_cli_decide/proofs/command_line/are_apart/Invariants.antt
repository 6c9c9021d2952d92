use Rattle.base_lists.proofs.Common.{◌≡◌, ℕ, List, true, take, is_some, get_by, slice_cmp, nat_cmp, list_any, bytes_eq}
use Rattle.tools_cli_spec.specs.Prelude.{are_apart}
use Rattle.tools_cli_decide.specs.Prelude.{names_of}
use Rattle.tools_cli_decide.proofs.command_line.are_apart.Given as goal

abbrev pub invariant-loop-word : goal.invariant-loop-word
invariant-loop-word l = record {
  known : (text : List ℕ) → is_some (get_by (λ k. slice_cmp nat_cmp text k.now) l.came) ≡ list_any (bytes_eq text) (names_of (take l.word-index l.words));
  apart : are_apart (names_of (take l.word-index l.words)) ≡ true;
}
