-- The properties of each task: its names are UTF-8 if the words that ask for it are, no two of its
-- outputs have the same name, and a sample has at least one function and not too many.
use Rattle.base_lists.proofs.Common.{IsUtf8-from_ascii, ◌≡◌, ◌∙◌, refl, ap, subst, Bool, true, false, cond, ℕ, suc, ◌+◌, ◌<◌, ◌≤◌, List, ◌∷◌, ◌++◌}
use Rattle.base_lists.proofs.Common.{drop, length, get_or, add-one, Option, Some, None, IfSome, option_map, option_and_then, arith, ◌==◌, IsUtf8, codes, nat_lt, IsAscii, and_parts, IsAscii-cons}
use Rattle.base_lists.proofs.Common.{IsAscii-nil, option_or, list_any, list_all, nat_tests}
use Rattle.std.specs.Prelude.{[], bytes_eq, unwrap_or}
use Rattle.std.proofs.lemmas.Str.{IsUtf8-drop, IsCharBoundary-after_ascii}
use Rattle.base_lists.specs.Every.{Every}
use Rattle.split_spec.specs.declared.names.SplitNames.{SplitNames}
use Rattle.tools_cli_spec.specs.declared.split_words.SplitWords.{SplitWords}
use Rattle.tools_cli_words.specs.Arguments.{Text, Vocabulary, Argument, Value, Flag, Plain, is_plain, behind, long_name, takes_value, own_value, some_value, value_behind, joined_value, other_word, next_argument, add_argument, said_from, OptionValue, Arguments, add_to_arguments}
use Rattle.tools_cli_words.specs.Arguments.{arguments_of, value_of, with_value, valued_options, in_order, are_apart, options_and_flags, said_once, values_of, at_most_one, only_value, value_or}
use Rattle.tools_cli_spec.specs.Prelude.{Task, Merge, Metadce, Split, CtorEval, Sample, Source, MergeTask, MetadceTask, SplitTask, CtorEvalTask, SampleTask}
use Rattle.tools_cli_spec.specs.CommandLine.{SplitOutputs, make_ctor_eval, ctor_eval_of_arguments, ctor_eval_of, ctor_eval_vocabulary, make_merge, make_metadce, make_outputs, make_names, make_split, make_sample, names_said, outputs_said, words_said, count_in, merge_of_arguments}
use Rattle.tools_cli_spec.specs.CommandLine.{metadce_of_arguments, split_of_arguments, sample_of_arguments, merge_of, metadce_of, split_of, sample_of, merge_vocabulary, metadce_vocabulary, split_vocabulary, sample_vocabulary, task_of}
use Rattle.merge_names.specs.declared.mode.Mode.{Mode}
use Rattle.tools_cli_proof.proofs.NumberRanges.{in_range}

-- ---- one word ----

abbrev IsTextArgument : Argument → Type 0
IsTextArgument (Value option value) = IsUtf8 value
IsTextArgument (Flag word) = Unit {0}
IsTextArgument (Plain word) = Unit {0}

behind_is : (beginning text rest : Text) → behind beginning text ≡ Some rest → text ≡ beginning ++ rest
behind_is [] text rest e = cc
behind_is (c ∷ beginning) [] rest e = absurd (cc)
behind_is (c ∷ beginning) (d ∷ text) rest e = by (c == d) refl e (λ more. behind_is beginning text rest more)
  where
    by : (b : Bool) → (c == d) ≡ b → cond b (behind beginning text) None ≡ Some rest → (behind beginning text ≡ Some rest → text ≡ beginning ++ rest) → d ∷ text ≡ c ∷ (beginning ++ rest)
    by true is e later = let same : d ≡ c = grind (arith, nat_tests) in ap (λ x. x ∷ text) same ∙ ap (λ (l : Text). c ∷ l) (later e)
    by false is e later = absurd (cc)

at_seam : (xs : Text) (c : ℕ) (ys : Text) → get_or (xs ++ c ∷ ys) (length xs) 0 ≡ c
at_seam [] c ys = refl
at_seam (x ∷ xs) c ys = at_seam xs c ys

before_end : (xs : Text) (c : ℕ) (ys : Text) → length xs < length (xs ++ c ∷ ys)
before_end [] c ys = omega arith
before_end (x ∷ xs) c ys = let rest = before_end xs c ys in omega arith

past_seam : (xs : Text) (c : ℕ) (ys : Text) → drop (suc (length xs)) (xs ++ c ∷ ys) ≡ ys
past_seam [] c ys = refl
past_seam (x ∷ xs) c ys = past_seam xs c ys

-- The rest of a UTF-8 text behind an ASCII character is UTF-8.
behind_ascii : (xs : Text) (c : ℕ) (ys : Text) → c < 128 → IsUtf8 (xs ++ c ∷ ys) → IsUtf8 ys
behind_ascii xs c ys low h =
    let here = at_seam xs c ys in
    let ascii : get_or (xs ++ c ∷ ys) (length xs) 0 < 128 = omega arith in
    let cut = IsUtf8-drop (xs ++ c ∷ ys) (length xs + 1) h (IsCharBoundary-after_ascii (xs ++ c ∷ ys) (length xs) h (before_end xs c ys) ascii) in
    subst IsUtf8 (ap (λ n. drop n (xs ++ c ∷ ys)) (add-one (length xs)) ∙ past_seam xs c ys) cut

some_text : (option value : Text) → IsUtf8 value → IfSome (some_value option value) IsTextArgument
some_text option [] h = tt
some_text option (c ∷ value) h = h

behind_text : (option word rest : Text) → IsUtf8 word → word ≡ option ++ rest → (o : Option Text) → behind (codes "=") rest ≡ o → IfSome (option_and_then (some_value option) o) IsTextArgument
behind_text option word rest h is None e = tt
behind_text option word rest h is (Some value) e =
    let whole : word ≡ option ++ 61 ∷ value = is ∙ ap (λ l. option ++ l) (behind_is (codes "=") rest value e) in
    some_text option value (behind_ascii option 61 value (omega arith) (subst IsUtf8 whole h))

first_text : (option word : Text) → IsUtf8 word → (o : Option Text) → behind option word ≡ o → IfSome (option_and_then (value_behind option) o) IsTextArgument
first_text option word h None e = tt
first_text option word h (Some rest) e = behind_text option word rest h (behind_is option word rest e) (behind (codes "=") rest) refl

either_text : (a b : Option Argument) → IfSome a IsTextArgument → IfSome b IsTextArgument → IfSome (option_or a b) IsTextArgument
either_text None b h k = k
either_text (Some a) b h k = h

joined_text : (options : List Text) (word : Text) → IsUtf8 word → IfSome (joined_value options word) IsTextArgument
joined_text [] word h = tt
joined_text (option ∷ options) word h = either_text (option_and_then (value_behind option) (behind option word)) (joined_value options word) (first_text option word h (behind option word) refl) (joined_text options word h)

own_text : (option word : Text) → IsUtf8 word → IfSome (own_value option word) IsTextArgument
own_text option word h = by (is_plain word)
  where
    by : (b : Bool) → IfSome (cond b (Some (Value option word)) None) IsTextArgument
    by true = h
    by false = tt

other_text : (v : Vocabulary) (word : Text) → IsUtf8 word → IfSome (other_word v word) IsTextArgument
other_text v word h = by (is_plain word) (list_any (bytes_eq word) v.flags) (joined_text v.options word h)
  where
    by : (a b : Bool) → IfSome (joined_value v.options word) IsTextArgument → IfSome (cond a (Some (Plain word)) (cond b (Some (Flag word)) (joined_value v.options word))) IsTextArgument
    by true b k = tt
    by false true k = tt
    by false false k = k

-- ---- all words ----

added_text : (first : Option Argument) (rest : Option (List Argument)) → IfSome first IsTextArgument → IfSome rest (Every IsTextArgument) → IfSome (add_argument first rest) (Every IsTextArgument)
added_text (Some first) (Some rest) h k = (h, k)
added_text (Some first) None h k = tt
added_text None (Some rest) h k = tt
added_text None None h k = tt

said_texts : (v : Vocabulary) (due : Option Text) (words : List Text) → Every IsUtf8 words → IfSome (said_from v due words) (Every IsTextArgument)
said_texts v None [] h = tt
said_texts v (Some option) [] h = tt
said_texts v (Some option) (word ∷ rest) h = added_text (own_value option word) (said_from v None rest) (own_text option word h.0) (said_texts v None rest h.1)
said_texts v None (word ∷ rest) h =
    by (takes_value v.options word) (said_texts v (Some (long_name word)) rest h.1) (added_text (other_word v word) (said_from v None rest) (other_text v word h.0) (said_texts v None rest h.1))
  where
    by : (b : Bool) → IfSome (said_from v (Some (long_name word)) rest) (Every IsTextArgument) → IfSome (add_argument (other_word v word) (said_from v None rest)) (Every IsTextArgument)
        → IfSome (cond b (said_from v (Some (long_name word)) rest) (add_argument (next_argument v None word) (said_from v None rest))) (Every IsTextArgument)
    by true h k = h
    by false h k = k

abbrev AreTextValues : Arguments → Type 0
AreTextValues arguments = Every (λ (v : OptionValue). IsUtf8 v.value) arguments.values

one_added : (said : Argument) (arguments : Arguments) → IsTextArgument said → AreTextValues arguments → AreTextValues (add_to_arguments said arguments)
one_added (Value option value) arguments h k = (h, k)
one_added (Flag word) arguments h k = k
one_added (Plain word) arguments h k = k

sorted_texts : (said : List Argument) → Every IsTextArgument said → AreTextValues (arguments_of said)
sorted_texts [] h = tt
sorted_texts (a ∷ said) h = one_added a (arguments_of said) h.0 (sorted_texts said h.1)

value_text : (option : Text) (values : List OptionValue) → Every (λ (v : OptionValue). IsUtf8 v.value) values → IfSome (value_of option values) IsUtf8
value_text option [] h = tt
value_text option (v ∷ values) h = by (bytes_eq v.option option) (value_text option values h.1)
  where
    by : (b : Bool) → IfSome (value_of option values) IsUtf8 → IfSome (cond b (Some v.value) (value_of option values)) IsUtf8
    by true k = h.0
    by false k = k

with_text : (option : Text) (value : Option Text) (rest : List OptionValue) → IfSome value IsUtf8 → Every (λ (v : OptionValue). IsUtf8 v.value) rest → Every (λ (v : OptionValue). IsUtf8 v.value) (with_value option value rest)
with_text option None rest h k = k
with_text option (Some value) rest h k = (h, k)

ordered_texts : (options : List Text) (values : List OptionValue) → Every (λ (v : OptionValue). IsUtf8 v.value) values → Every (λ (v : OptionValue). IsUtf8 v.value) (valued_options options values)
ordered_texts [] values h = tt
ordered_texts (option ∷ options) values h = with_text option (value_of option values) (valued_options options values) (value_text option values h) (ordered_texts options values h)

picked_texts : (option : Text) (values : List OptionValue) → Every (λ (v : OptionValue). IsUtf8 v.value) values → Every IsUtf8 (values_of option values)
picked_texts option [] h = tt
picked_texts option (v ∷ values) h = by (bytes_eq v.option option) (picked_texts option values h.1)
  where
    by : (b : Bool) → Every IsUtf8 (values_of option values) → Every IsUtf8 (cond b (v.value ∷ values_of option values) (values_of option values))
    by true k = (h.0, k)
    by false k = k

default_text : (values : List Text) (default : Text) → Every IsUtf8 values → IsUtf8 default → IfSome (option_map (λ value. unwrap_or value default) (at_most_one values)) IsUtf8
default_text [] default h k = k
default_text (v ∷ []) default h k = h.0
default_text (v ∷ w ∷ values) default h k = tt

said_text : (option default : Text) (arguments : Arguments) → AreTextValues arguments → IsUtf8 default → IfSome (value_or option default arguments) IsUtf8
said_text option default arguments h k = default_text (values_of option arguments.values) default (picked_texts option arguments.values h) k

-- ---- the task ----

-- The names that a split adds are UTF-8.
abbrev pub AreTexts : SplitNames → Type 0
AreTexts names = IsUtf8 names.import_namespace × IsUtf8 names.placeholder_namespace × IsUtf8 names.export_prefix

abbrev pub IsTextTask : Task → Type 0
IsTextTask (Merge merge) = Unit {0}
IsTextTask (Metadce metadce) = Unit {0}
IsTextTask (Split split) = AreTexts split.names
IsTextTask (CtorEval eval) = Unit {0}
IsTextTask (Sample sample) = Unit {0}

made_names : (a b c : Option Text) → IfSome a IsUtf8 → IfSome b IsUtf8 → IfSome c IsUtf8 → IfSome (make_names a b c) AreTexts
made_names (Some a) (Some b) (Some c) h k l = (h, k, l)
made_names (Some a) (Some b) None h k l = tt
made_names (Some a) None c h k l = tt
made_names None b c h k l = tt

made_split : (P : Task → Type 0) (Q : SplitOutputs → Type 0) (R : SplitNames → Type 0) → ((split : SplitTask) → Q split.outputs → R split.names → P (Split split)) → (file : Option Text) (outputs : Option SplitOutputs) (words : Option SplitWords) (names : Option SplitNames)
    → IfSome outputs Q → IfSome names R → IfSome (make_split file outputs words names) P
made_split P Q R f (Some file) (Some outputs) (Some words) (Some names) h k = f (record { file = file; outputs = outputs; words = words; names = names }) h k
made_split P Q R f (Some file) (Some outputs) (Some words) None h k = tt
made_split P Q R f (Some file) (Some outputs) None names h k = tt
made_split P Q R f (Some file) None words names h k = tt
made_split P Q R f None outputs words names h k = tt

made_merge : (P : Task → Type 0) → ((merge : MergeTask) → P (Merge merge)) → (sources : Option (List Source)) (output : Option Text) (mode : Option Mode) → IfSome (make_merge sources output mode) P
made_merge P f (Some sources) (Some output) (Some mode) = f (record { sources = sources; output = output; mode = mode })
made_merge P f (Some sources) (Some output) None = tt
made_merge P f (Some sources) None mode = tt
made_merge P f None output mode = tt

made_metadce : (P : Task → Type 0) → ((metadce : MetadceTask) → P (Metadce metadce)) → (file graph output : Option Text) → IfSome (make_metadce file graph output) P
made_metadce P f (Some file) (Some graph) (Some output) = f (record { file = file; graph_file = graph; output = output })
made_metadce P f (Some file) (Some graph) None = tt
made_metadce P f (Some file) None output = tt
made_metadce P f None graph output = tt

made_ctor_eval : (P : Task → Type 0) → ((eval : CtorEvalTask) → P (CtorEval eval)) → (file : Option Text) (ctors : Option (List Text)) (kept : Option (Option Text)) (output : Option Text) → IfSome (make_ctor_eval file ctors kept output) P
made_ctor_eval P f (Some file) (Some ctors) (Some kept) (Some output) = f _
made_ctor_eval P f (Some file) (Some ctors) (Some kept) None = tt
made_ctor_eval P f (Some file) (Some ctors) None output = tt
made_ctor_eval P f (Some file) None kept output = tt
made_ctor_eval P f None ctors kept output = tt

made_sample : (P : Task → Type 0) (Q : ℕ → Type 0) → ((sample : SampleTask) → Q sample.count → P (Sample sample)) → (plain : List Text) (seed count : Option ℕ) (output : Option (Option Text)) → IfSome count Q → IfSome (make_sample plain seed count output) P
made_sample P Q f [] (Some seed) (Some count) (Some output) h = f (record { seed = seed; count = count; output = output }) h
made_sample P Q f [] (Some seed) (Some count) None h = tt
made_sample P Q f [] (Some seed) None output h = tt
made_sample P Q f [] None count output h = tt
made_sample P Q f (word ∷ plain) seed count output h = tt

-- A property of the task of a command follows from a property of its arguments.
from_said : (P : Task → Type 0) (S : List Argument → Type 0) (v : Vocabulary) (said : Option (List Argument)) (make : Arguments → Option Task) → ((said : List Argument) → S said → IfSome (make (in_order v (arguments_of said))) P) → IfSome said S
    → IfSome (option_and_then make (option_and_then (said_once v) (option_map arguments_of said))) P
from_said P S v None make f h = tt
from_said P S v (Some said) make f h = by (are_apart (options_and_flags (arguments_of said))) (f said h)
  where
    by : (b : Bool) → IfSome (make (in_order v (arguments_of said))) P → IfSome (option_and_then make (cond b (Some (in_order v (arguments_of said))) None)) P
    by true k = k
    by false k = tt

any_said : (said : Option (List Argument)) → IfSome said (λ said. Unit {0})
any_said None = tt
any_said (Some said) = tt

from_words : (P : Task → Type 0) → ((merge : MergeTask) → P (Merge merge)) → ((metadce : MetadceTask) → P (Metadce metadce)) → ((eval : CtorEvalTask) → P (CtorEval eval)) → (word : Text) (rest : List Text) → IfSome (split_of rest) P → IfSome (sample_of rest) P
    → IfSome (task_of (word ∷ rest)) P
unfolding task_of
from_words P f g e word rest h i =
    by (bytes_eq word (codes "merge")) (bytes_eq word (codes "metadce")) (bytes_eq word (codes "split")) (bytes_eq word (codes "ctor-eval")) (bytes_eq word (codes "sample"))
    (from_said P (λ said. Unit {0}) merge_vocabulary (said_from merge_vocabulary None rest) merge_of_arguments (λ said k. made_merge P f _ _ _) (any_said (said_from merge_vocabulary None rest)))
    (from_said P (λ said. Unit {0}) metadce_vocabulary (said_from metadce_vocabulary None rest) metadce_of_arguments (λ said k. made_metadce P g _ _ _) (any_said (said_from metadce_vocabulary None rest)))
    (from_said P (λ said. Unit {0}) ctor_eval_vocabulary (said_from ctor_eval_vocabulary None rest) ctor_eval_of_arguments (λ said k. made_ctor_eval P e _ _ _ _) (any_said (said_from ctor_eval_vocabulary None rest)))
  where
    by : (a b c d e : Bool) → IfSome (merge_of rest) P → IfSome (metadce_of rest) P → IfSome (ctor_eval_of rest) P
        → IfSome (cond a (merge_of rest) (cond b (metadce_of rest) (cond c (split_of rest) (cond d (ctor_eval_of rest) (cond e (sample_of rest) None))))) P
    by true b c d e m n o = m
    by false true c d e m n o = n
    by false false true d e m n o = h
    by false false false true e m n o = o
    by false false false false true m n o = i
    by false false false false false m n o = tt

-- The task that words of a sample ask for has each property that all samples have.
any_sample : (P : Task → Type 0) → ((sample : SampleTask) → P (Sample sample)) → (rest : List Text) → IfSome (sample_of rest) P
any_sample P f rest = from_said P (λ said. Unit {0}) sample_vocabulary (said_from sample_vocabulary None rest) sample_of_arguments (λ said k. made_sample P (λ n. Unit {0}) (λ sample one. f sample) _ _ (count said) _ (any_count (count said))) (any_said (said_from sample_vocabulary None rest))
  where
    count : List Argument → Option ℕ
    count said = option_and_then count_in (only_value (codes "--count") (in_order sample_vocabulary (arguments_of said)))

    any_count : (o : Option ℕ) → IfSome o (λ n. Unit {0})
    any_count None = tt
    any_count (Some n) = tt

no_words : (P : Task → Type 0) → IfSome (task_of []) P
unfolding task_of
no_words P = tt

-- ---- names that are text ----

ascii_where : (text : Text) → list_all (λ c. nat_lt c 128) text ≡ true → IsAscii text
ascii_where [] e = IsAscii-nil
ascii_where (c ∷ text) e =
    let both = and_parts (nat_lt c 128) (list_all (λ c. nat_lt c 128) text) e in
    IsAscii-cons c text (low c both.0) (ascii_where text both.1)
  where
    low : (c : ℕ) → nat_lt c 128 ≡ true → c < 128
    low c h = grind (arith, nat_tests)

any_outputs : (outputs : Option SplitOutputs) → IfSome outputs (λ o. Unit {0})
any_outputs None = tt
any_outputs (Some outputs) = tt

split_text : (said : List Argument) → Every IsTextArgument said → IfSome (split_of_arguments (in_order split_vocabulary (arguments_of said))) IsTextTask
split_text said h =
    let arguments = in_order split_vocabulary (arguments_of said) in
    let are = ordered_texts split_vocabulary.options (arguments_of said).values (sorted_texts said h) in
    made_split IsTextTask (λ o. Unit {0}) AreTexts (λ split one names. names) _ (outputs_said arguments) (words_said arguments) (names_said arguments) (any_outputs (outputs_said arguments))
    (made_names _ _ _ (said_text (codes "--import-namespace") (codes "primary") arguments are (IsUtf8-from_ascii (codes "primary") (ascii_where (codes "primary") refl)))
    (said_text (codes "--placeholder-namespace") (codes "placeholder") arguments are (IsUtf8-from_ascii (codes "placeholder") (ascii_where (codes "placeholder") refl)))
    (said_text (codes "--export-prefix") (codes "%") arguments are (IsUtf8-from_ascii (codes "%") (ascii_where (codes "%") refl))))

words_text : (words : List Text) → Every IsUtf8 words → IfSome (task_of words) IsTextTask
words_text [] h = no_words IsTextTask
words_text (word ∷ rest) h =
    from_words IsTextTask (λ merge. tt) (λ metadce. tt) (λ eval. tt) word rest (from_said IsTextTask (Every IsTextArgument) split_vocabulary (said_from split_vocabulary None rest) split_of_arguments split_text (said_texts split_vocabulary None rest h.1)) (any_sample IsTextTask (λ sample. tt) rest)

pub task_is_text : (words : List Text) → Every IsUtf8 words → (task : Task) → task_of words ≡ Some task → IsTextTask task
task_is_text words h task e = let P : Option Task → Type 0 = λ o. IfSome o IsTextTask in subst P e (words_text words h)

-- ---- outputs that differ ----

abbrev AreUnlike : SplitOutputs → Type 0
AreUnlike outputs = bytes_eq outputs.primary outputs.secondary ≡ false

abbrev pub WritesUnlike : Task → Type 0
WritesUnlike (Merge merge) = Unit {0}
WritesUnlike (Metadce metadce) = Unit {0}
WritesUnlike (Split split) = AreUnlike split.outputs
WritesUnlike (CtorEval eval) = Unit {0}
WritesUnlike (Sample sample) = Unit {0}

unlike_made : (primary secondary : Option Text) → IfSome (make_outputs primary secondary) AreUnlike
unlike_made (Some primary) (Some secondary) = by (bytes_eq primary secondary) refl
  where
    by : (b : Bool) → bytes_eq primary secondary ≡ b → IfSome (cond b None (Some (record { primary = primary; secondary = secondary }))) AreUnlike
    by true e = tt
    by false e = e
unlike_made (Some primary) None = tt
unlike_made None secondary = tt

any_names : (names : Option SplitNames) → IfSome names (λ n. Unit {0})
any_names None = tt
any_names (Some names) = tt

split_unlike : (said : List Argument) → Unit {0} → IfSome (split_of_arguments (in_order split_vocabulary (arguments_of said))) WritesUnlike
split_unlike said h =
    let arguments = in_order split_vocabulary (arguments_of said) in
    made_split WritesUnlike AreUnlike (λ n. Unit {0}) (λ split outputs names. outputs) _ (outputs_said arguments) (words_said arguments) (names_said arguments) (unlike_made (only_value (codes "--primary-output") arguments) (only_value (codes "--secondary-output") arguments))
    (any_names (names_said arguments))

words_unlike : (words : List Text) → IfSome (task_of words) WritesUnlike
words_unlike [] = no_words WritesUnlike
words_unlike (word ∷ rest) =
    from_words WritesUnlike (λ merge. tt) (λ metadce. tt) (λ eval. tt) word rest (from_said WritesUnlike (λ said. Unit {0}) split_vocabulary (said_from split_vocabulary None rest) split_of_arguments split_unlike (any_said (said_from split_vocabulary None rest)))
    (any_sample WritesUnlike (λ sample. tt) rest)

pub task_writes_unlike : (words : List Text) (task : Task) → task_of words ≡ Some task → WritesUnlike task
task_writes_unlike words task e = let P : Option Task → Type 0 = λ o. IfSome o WritesUnlike in subst P e (words_unlike words)

-- ---- a sample's functions ----

abbrev pub IsCounted : Task → Type 0
IsCounted (Merge merge) = Unit {0}
IsCounted (Metadce metadce) = Unit {0}
IsCounted (Split split) = Unit {0}
IsCounted (CtorEval eval) = Unit {0}
IsCounted (Sample sample) = (1 ≤ sample.count) × (sample.count ≤ 100000)

any_split : (P : Task → Type 0) → ((split : SplitTask) → P (Split split)) → (rest : List Text) → IfSome (split_of rest) P
any_split P f rest =
    from_said P (λ said. Unit {0}) split_vocabulary (said_from split_vocabulary None rest) split_of_arguments
    (λ said k. let arguments = in_order split_vocabulary (arguments_of said) in made_split P (λ o. Unit {0}) (λ n. Unit {0}) (λ split o n. f split) _ (outputs_said arguments) (words_said arguments) (names_said arguments) (any_outputs (outputs_said arguments)) (any_names (names_said arguments)))
    (any_said (said_from split_vocabulary None rest))

count_of_text : (o : Option Text) → IfSome (option_and_then count_in o) (λ n. (1 ≤ n) × (n ≤ 100000))
count_of_text None = tt
count_of_text (Some text) = in_range 1 100000 text

sample_counted : (rest : List Text) → IfSome (sample_of rest) IsCounted
sample_counted rest =
    from_said IsCounted (λ said. Unit {0}) sample_vocabulary (said_from sample_vocabulary None rest) sample_of_arguments
    (λ said k. made_sample IsCounted (λ n. (1 ≤ n) × (n ≤ 100000)) (λ sample h. h) _ _ (option_and_then count_in (count said)) _ (count_of_text (count said)))
    (any_said (said_from sample_vocabulary None rest))
  where
    count : List Argument → Option Text
    count said = only_value (codes "--count") (in_order sample_vocabulary (arguments_of said))

words_counted : (words : List Text) → IfSome (task_of words) IsCounted
words_counted [] = no_words IsCounted
words_counted (word ∷ rest) = from_words IsCounted (λ merge. tt) (λ metadce. tt) (λ eval. tt) word rest (any_split IsCounted (λ split. tt) rest) (sample_counted rest)

pub task_is_counted : (words : List Text) (task : Task) → task_of words ≡ Some task → IsCounted task
task_is_counted words task e = let P : Option Task → Type 0 = λ o. IfSome o IsCounted in subst P e (words_counted words)
