-- A run that ends done is faithful, since the files that it read hold bytes.
use Rattle.base_lists.proofs.Common.{◌≡◌, ◌∙◌, sym, subst, ◌-◌, List, [], ◌∷◌, Option, Some, None, IfSome, OnOk, Result, Ok, Err, map, IsUtf8}
use Rattle.tool_io.specs.FilesAndSinks.{FileContents}
use Rattle.tools_cli_spec.specs.Prelude.{Text, Task, task_of, inputs_of, NamedFile, made, Done, Whole, gathered, most_input, HasJob, asked}
use Rattle.tools_cli_spec.specs.Run.{EndsDone}
use Rattle.tools_cli_spec.specs.Faithful.{IsFaithful, EndsFaithful, SplitWordsAreText, HoldBytesAt, ReadsBytes}
use Rattle.tools_cli.proofs.ReadBytes.{all_read_are}
use Rattle.wasm_bytes.specs.Prelude.{IsBytes}
use Rattle.base_lists.specs.Every.{Every}
use Rattle.base_lists.proofs.Common.{string_bytes}
use Rattle.std.specs.declared.string.String.{String}
use Rattle.std.proofs.lemmas.Str.{IsUtf8-string_bytes}
use Rattle.tools_cli_proof.proofs.Faithful.{gathered_held}

-- A run that ends done is faithful.
abbrev pub DoneIsFaithful : Type 0
DoneIsFaithful = (words : List Text) (before : FileContents) (writes : List NamedFile) (lines : Text) → SplitWordsAreText words → ReadsBytes words before → HasJob words before (Done writes lines) → IsFaithful words before (made writes before)

pub end_is_faithful : DoneIsFaithful → (held new : Option FileContents) (words : List Text) (out out' : Option Text) → SplitWordsAreText words → IfSome held (ReadsBytes words) → IfSome held (λ before. EndsDone words before new out out') → IfSome held (λ before. EndsFaithful words before new)
end_is_faithful law None new words out out' text are h = tt
end_is_faithful law (Some before) new words out out' text are (writes, lines, job, (made_all, gains)) = (made writes before, made_all, law words before writes lines text are job)

-- Files whose gathered contents are bytes hold bytes.
pub read_bytes : (held : Option FileContents) (task : Task) (inputs : List NamedFile) → IfSome held (λ a. gathered (inputs_of task) a most_input ≡ Whole inputs) → Every (λ (e : NamedFile). IsBytes e.1) inputs → IfSome held (HoldBytesAt (inputs_of task))
read_bytes None task inputs h are = tt
read_bytes (Some a) task inputs h are = all_read_are a (inputs_of task) inputs (gathered_held a (inputs_of task) most_input inputs h) are

pub on_ok : {A E P : Type 0} (r : Result A E) → P → OnOk r P
on_ok (Ok x) p = p
on_ok (Err e) p = tt

-- Words ask for one task, so the files that the words read hold bytes if those of the task do.
pub words_read : (held : Option FileContents) (words : List Text) (task : Task) → task_of words ≡ Some task → IfSome held (HoldBytesAt (inputs_of task)) → IfSome held (ReadsBytes words)
words_read None words task e h = tt
words_read (Some a) words task e h = λ other asked. let both : Some task ≡ Some other = sym e ∙ asked in let same : task ≡ other = cc in subst (λ (t : Task). HoldBytesAt (inputs_of t) a) same h

pub strings_are_text : {Z : Type 0} (words : List (String Z)) → Every IsUtf8 (map string_bytes words)
strings_are_text [] = tt
strings_are_text (word ∷ words) = (IsUtf8-string_bytes word, strings_are_text words)
