-- The arguments that are picked for a command, and the task of these.
use Rattle.base_lists.proofs.Common.{codes, ◌≡◌, ◌∙◌, refl, sym, ap, ◌<◌, arith, map, length, Bool, true, false, cond, List, ◌∷◌, Option, Some, None, option_map, option_and_then, Bor}
use Rattle.std.specs.Prelude.{[], unwrap_or, bytes_eq}
use Rattle.tools_cli_words.specs.Arguments.{Text, Arguments, said_together}
use Rattle.tools_cli_words.specs.Vocabularies.{vocabulary_of}
use Rattle.tools_cli_words.specs.declared.tool.Tool.{Tool}
use Rattle.tools_cli_spec.specs.Prelude.{Source, are_apart}
use Rattle.tools_cli_decide.specs.Prelude.{source_values, source_names}
use Rattle.tools_cli_spec.specs.CommandLine.{some_apart, merge_of, metadce_of, split_of, ctor_eval_of, sample_of, task_of, tool_named, tool_in, said_to_tool, task_of_arguments}
use Rattle.tools_cli_words.specs.declared.tool.Tool.TheVariants as tool
use Rattle.tools_cli_decide.specs.declared.merge.Source as code
use Rattle.std.proofs.Common.{ℕ, ◌+◌, ◌++◌, append_assoc}

-- An optional text, or a default in its place.
pub one_or : (o : Option (Bor Text)) (other : Bor Text) → (unwrap_or o other).now ≡ unwrap_or (option_map (λ t. t.now) o) other.now
one_or None other = refl
one_or (Some x) other = refl

-- ---- the merge of arguments ----

pub names_once : (xs : List code.Source) → map (λ (s : Source). s.name) (source_values xs) ≡ source_names xs
names_once [] = refl
names_once (x ∷ xs) = ap (λ (l : List Text). x.name.now ∷ l) (names_once xs)

-- A list of at least one source is accepted exactly if the names of the sources are distinct.
pub sources_apart : (xs : List code.Source) (o : Option (List Source)) → Some (source_values xs) ≡ o → 0 < length xs → are_apart (source_names xs) ≡ true → Some (source_values xs) ≡ option_and_then some_apart o
sources_apart [] o e some apart = absurd (omega arith)
sources_apart (x ∷ xs) o e some apart =
    ap (λ b. cond b (Some (source_values (x ∷ xs))) None) (sym apart ∙ ap are_apart (sym (names_once (x ∷ xs)))) ∙ ap (option_and_then some_apart) e

pub sources_not_apart : (xs : List code.Source) (o : Option (List Source)) → Some (source_values xs) ≡ o → 0 < length xs → are_apart (source_names xs) ≡ false → None ≡ option_and_then some_apart o
sources_not_apart [] o e some apart = absurd (omega arith)
sources_not_apart (x ∷ xs) o e some apart =
    ap (λ b. cond b (Some (source_values (x ∷ xs))) None) (sym apart ∙ ap are_apart (sym (names_once (x ∷ xs)))) ∙ ap (option_and_then some_apart) e

-- ---- the task by its tool ----

by_tool : (word : Text) (rest : List Text) → task_of (word ∷ rest) ≡ option_and_then (λ t. option_and_then (task_of_arguments t) (said_together (vocabulary_of t) rest)) (tool_named word)
unfolding task_of
by_tool word rest = by (bytes_eq word (codes "merge")) (bytes_eq word (codes "metadce")) (bytes_eq word (codes "split")) (bytes_eq word (codes "ctor-eval")) (bytes_eq word (codes "sample"))
  where
    by : (a b c d e : Bool) → cond a (merge_of rest) (cond b (metadce_of rest) (cond c (split_of rest) (cond d (ctor_eval_of rest) (cond e (sample_of rest) None))))
        ≡ option_and_then (λ t. option_and_then (task_of_arguments t) (said_together (vocabulary_of t) rest))
        (cond a (Some tool.Merge) (cond b (Some tool.Metadce) (cond c (Some tool.Split) (cond d (Some tool.CtorEval) (cond e (Some tool.Sample) None)))))
    by true b c d e = refl
    by false true c d e = refl
    by false false true d e = refl
    by false false false true e = refl
    by false false false false true = refl
    by false false false false false = refl

no_words : task_of [] ≡ None
unfolding task_of
no_words = refl

pub task_is : (words : List Text) (t : Tool) (arguments : Arguments) → Some t ≡ tool_in words → Some arguments ≡ said_to_tool words → task_of_arguments t arguments ≡ task_of words
task_is [] t arguments e h = absurd (cc)
task_is (word ∷ rest) t arguments e h =
    let said : Some arguments ≡ said_together (vocabulary_of t) rest = h ∙ ap (option_and_then (λ t. said_together (vocabulary_of t) rest)) (sym e) in
    ap (option_and_then (task_of_arguments t)) said ∙ ap (option_and_then (λ t. option_and_then (task_of_arguments t) (said_together (vocabulary_of t) rest))) e ∙ sym (by_tool word rest)

pub no_said : (words : List Text) → None ≡ said_to_tool words → None ≡ task_of words
no_said [] e = sym no_words
no_said (word ∷ rest) e = by (tool_named word) e ∙ sym (by_tool word rest)
  where
    by : (o : Option Tool) → None ≡ option_and_then (λ t. said_together (vocabulary_of t) rest) o → None ≡ option_and_then (λ t. option_and_then (task_of_arguments t) (said_together (vocabulary_of t) rest)) o
    by None h = refl
    by (Some t) h = ap (option_and_then (task_of_arguments t)) h

-- A text grows by three pieces.
pub three_more : (old a b c m n o : List ℕ) → m ≡ old ++ a → n ≡ m ++ b → o ≡ n ++ c → o ≡ old ++ (a ++ (b ++ c))
three_more old a b c m n o e f g = g ∙ ap (λ l. l ++ c) (f ∙ ap (λ l. l ++ b) e) ∙ append_assoc (old ++ a) b c ∙ append_assoc old a (b ++ c)
