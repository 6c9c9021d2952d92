-- The contract of a whole run, from those of its parts.
use Rattle.base_lists.proofs.Common.{◌≡◌, ◌∙◌, arith, sym, refl, ap, subst, ℕ, ◌≤◌, List, [], ◌∷◌, ◌++◌, length, map, drop, Option, Some, None, IfSome, Contains, OnOk, Result, Ok, Err, string_bytes, inl, inr, ◌⊎◌, get, map_twice}
use Rattle.tool_io.specs.FilesAndSinks.{FileContents, Becomes, AppendsPrefix, Rose}
use Rattle.tools_cli.proofs.Changes.{becomes_itself, becomes_weaker, becomes_same}
use Rattle.base_lists.specs.Every.{Every}
use Rattle.wasm_bytes.specs.Prelude.{IsBytes}
use Rattle.tools_cli_spec.specs.Job.{InputsAreBytes, InputsHoldBytes}
use Rattle.tools_cli_spec.specs.Prelude.{Text, Task, task_of, modules_of, texts_of, inputs_of, NamedFile, made, AreWrittenInPart, written_names, Job, Usage, Refused, Done, Whole, TooLong, gathered, most_input, InputsJob, TaskJob, refused_before, not_begun, too_long, all_read, HasJob, no_task, asked}
use Rattle.tools_cli_decide.specs.Prelude.{refusal_text, StopsWith}
use Rattle.tools_cli.specs.Causes.{PrintsAsAllowed}
use Rattle.tools_cli_spec.specs.Prelude.{HostState, over_limit}
use Rattle.tools_cli_spec.specs.CommandLine.{usage_line}
use Rattle.tools_cli_spec.specs.ErrorLines.{IsLine, usage, fault_line, invalid_line, parts_line, link_line, join_line, graph_line, plan_line, split_line, eval_line, output_line, cannot_read_line, cannot_write_line, cannot_print_line, no_memory_line, no_memory, stop_line, Says}
use Rattle.tools_cli.specs.Reports.{line_of, Reports}
use Rattle.tools_cli.specs.Causes.{StopsGathering, StopsPreparing, StopsFinishing, AreOutputs, AllWritten, PrintsAfter}
use Rattle.tools_cli_spec.specs.Turns.{MayHold}
use Rattle.tools_cli.specs.Work.{IsUsage, StopsWork}
use Rattle.tools_cli_spec.specs.Run.{PrintsNothing, JobIsDone, ChangesByTheJob, PrintsForTheJob, EndsDone, EndsRefused, Gains, IsSame, HasOutsideCause, HasStatus, StatusOfJob, SomeRose}
use Rattle.tools_cli_spec.specs.declared.status.Status.{Status}
use Rattle.tools_cli_spec.specs.declared.status.Status.TheVariants as status
use Rattle.tools_cli_decide.specs.declared.stop.Stop.{Stop}
use Rattle.tools_cli_decide.specs.declared.stop.Stop.TheVariants as stop
use Rattle.wasm_tree_spec.specs.Prelude.{InputBytes}
use Rattle.tools_cli_decide.specs.declared.refusal.Refusal.{Refusal}
use Rattle.tools_cli_decide.specs.declared.refusal.Refusal.TheVariants as refusal
use Rattle.dce_graph.specs.declared.fault.GraphFault.TheVariants as graph
use Rattle.split_plan.specs.declared.fault.PlanFault.TheVariants as plan
use Rattle.split_spec.specs.declared.faults.SplitFault.TheVariants as split
use Rattle.tools_cli_spec.specs.declared.evaluation.EvalFault.TheVariants as eval
use Rattle.merge_spec.specs.declared.faults.LinkFault.TheVariants as link
use Rattle.merge_spec.specs.declared.faults.JoinFault.TheVariants as join
use Rattle.wasm_read_spec.specs.declared.fault.ReadFault.TheVariants as fault
use Rattle.tools_cli_proof.proofs.Faithful.{gathered_held}
use Rattle.tools_cli.proofs.Deciding.{text_contents}
use Rattle.tools_cli.proofs.Pieces.{prefix_none}

-- The job of a task, from the contents of its inputs.
pub decided_at : (held : Option FileContents) (t : Task) (inputs : List NamedFile) (job : Job) → refused_before t ≡ None → IfSome held (λ a. gathered (inputs_of t) a most_input ≡ Whole inputs) → InputsJob t inputs job → IfSome held (λ a. TaskJob t a job)
decided_at None t inputs job begun g d = tt
decided_at (Some a) t inputs job begun g d = all_read inputs job begun g d

-- The inputs of a task are the files that were gathered.
inputs_known : (t : Task) (a : FileContents) (inputs : List NamedFile) → gathered (inputs_of t) a most_input ≡ Whole inputs → Every (λ (e : NamedFile). IsBytes e.1) inputs → InputsAreBytes t a
inputs_known t a inputs g are others begun h =
    let both : Whole inputs ≡ Whole others = sym g ∙ h in
    let same : inputs ≡ others = cc in
    subst (λ (es : List NamedFile). Every (λ (e : NamedFile). IsBytes e.1) es) same are

pub inputs_at : (held : Option FileContents) (t : Task) (inputs : List NamedFile) → IfSome held (λ a. gathered (inputs_of t) a most_input ≡ Whole inputs) → Every (λ (e : NamedFile). IsBytes e.1) inputs → IfSome held (InputsAreBytes t)
inputs_at None t inputs g are = tt
inputs_at (Some a) t inputs g are = inputs_known t a inputs g are

-- The words ask for one task, so its inputs are those of the words.
inputs_of_words : (words : List Text) (t : Task) (a : FileContents) → task_of words ≡ Some t → InputsAreBytes t a → InputsHoldBytes words a
inputs_of_words words t a e are other asks =
    let both : Some t ≡ Some other = sym e ∙ asks in
    let same : t ≡ other = cc in
    subst (λ (x : Task). InputsAreBytes x a) same are

pub words_at : (held : Option FileContents) (words : List Text) (t : Task) → task_of words ≡ Some t → IfSome held (InputsAreBytes t) → IfSome held (InputsHoldBytes words)
words_at None words t e are = tt
words_at (Some a) words t e are = inputs_of_words words t a e are

-- The job of a task with a file that is too long.
too_long_at : (held : Option FileContents) (t : Task) (text : Text) → refused_before t ≡ None → IfSome held (λ a. (name : Text) × (gathered (inputs_of t) a most_input ≡ TooLong name) × (text ≡ over_limit name InputBytes)) → IfSome held (λ a. TaskJob t a (Refused text) × InputsAreBytes t a)
too_long_at None t text begun h = tt
too_long_at (Some a) t text begun (name, g, e) = let P : Text → Type 0 = λ x. TaskJob t a (Refused x) in (subst P (sym e) (too_long name begun g), λ inputs begun h. absurd (let both : TooLong name ≡ Whole inputs = sym g ∙ h in cc))

-- The job of a task that is refused at once.
pub not_begun_at : (held : Option FileContents) (t : Task) (text : Text) → refused_before t ≡ Some text → IfSome held (λ a. TaskJob t a (Refused text) × InputsAreBytes t a)
not_begun_at None t text e = tt
not_begun_at (Some a) t text e = (not_begun text e, λ inputs begun h. absurd (let both : Some text ≡ None = sym e ∙ begun in cc))

-- A task that is refused over its inputs, which are bytes.
refused_with : (held : Option FileContents) (t : Task) (text : Text) → IfSome held (λ a. TaskJob t a (Refused text)) → IfSome held (InputsAreBytes t) → IfSome held (λ a. TaskJob t a (Refused text) × InputsAreBytes t a)
refused_with None t text job are = tt
refused_with (Some a) t text job are = (job, are)

pub preparing_from_planning : (held : Option FileContents) (before now : Text → ℕ) (t : Task) (inputs : List NamedFile) (s : Stop) → refused_before t ≡ None
    → IfSome held (λ a. gathered (inputs_of t) a most_input ≡ Whole inputs) → Every (λ (e : NamedFile). IsBytes e.1) inputs → StopsWith (λ text. InputsJob t inputs (Refused text)) s → StopsPreparing held before now t s
preparing_from_planning held before now t inputs (stop.Refused refusal) begun g are d = refused_with held t (refusal_text refusal) (decided_at held t inputs (Refused (refusal_text refusal)) begun g d) (inputs_at held t inputs g are)
preparing_from_planning held before now t inputs stop.NoMemory begun g are d = tt
preparing_from_planning held before now t inputs (stop.Usage line) begun g are d = absurd d
preparing_from_planning held before now t inputs (stop.CannotRead name) begun g are d = absurd d
preparing_from_planning held before now t inputs (stop.CannotWrite name) begun g are d = absurd d
preparing_from_planning held before now t inputs stop.CannotPrint begun g are d = absurd d

pub preparing_from_gathering : (held : Option FileContents) (before now : Text → ℕ) (t : Task) (s : Stop) → refused_before t ≡ None → StopsGathering held before now (inputs_of t) most_input s → StopsPreparing held before now t s
preparing_from_gathering held before now t (stop.Refused refusal) begun h = too_long_at held t (refusal_text refusal) begun h
preparing_from_gathering held before now t (stop.CannotRead name) begun h = (begun, h)
preparing_from_gathering held before now t stop.NoMemory begun h = tt
preparing_from_gathering held before now t (stop.Usage line) begun h = absurd h
preparing_from_gathering held before now t (stop.CannotWrite name) begun h = absurd h
preparing_from_gathering held before now t stop.CannotPrint begun h = absurd h

-- The other texts that a task reads are the contents of the files behind its modules.
texts_behind_modules : (files : FileContents) (modules texts : List Text) (inputs : List NamedFile) → map (get files) (modules ++ texts) ≡ map (λ (e : NamedFile). Some e.1) inputs → map (get files) texts ≡ map (λ (e : NamedFile). Some e.1) (drop (length modules) inputs)
texts_behind_modules files [] texts inputs e = e
texts_behind_modules files (name ∷ modules) texts [] e = absurd (cc)
texts_behind_modules files (name ∷ modules) texts (input ∷ inputs) e = texts_behind_modules files modules texts inputs (let rest : map (get files) (modules ++ texts) ≡ map (λ (e : NamedFile). Some e.1) inputs = cc in rest)

pub texts_held : (held : Option FileContents) (t : Task) (inputs : List NamedFile) → IfSome held (λ a. gathered (inputs_of t) a most_input ≡ Whole inputs) → MayHold held (texts_of t) (text_contents t inputs)
texts_held None t inputs h = tt
texts_held (Some a) t inputs h =
    texts_behind_modules a (modules_of t) (texts_of t) inputs (gathered_held a (inputs_of t) most_input inputs h)
    ∙ sym (map_twice Some (λ (e : NamedFile). e.1) (drop (length (modules_of t)) inputs))

-- The job of the words is that of their task.
job_at : (words : List Text) (t : Task) (held : Option FileContents) (job : Job) → task_of words ≡ Some t → IfSome held (λ a. TaskJob t a job) → IfSome held (λ a. HasJob words a job)
job_at words t None job e h = tt
job_at words t (Some a) job e h = asked t job e h

pub changes_from_cut : (words : List Text) (t : Task) (x y : Option FileContents) (writes : List NamedFile) (lines : Text) → task_of words ≡ Some t
    → IfSome x (λ a. TaskJob t a (Done writes lines)) → Becomes x y (AreWrittenInPart writes) → Becomes x y (ChangesByTheJob words)
changes_from_cut words t (Some a) (Some b) writes lines e job cut = inr (writes, lines, asked t (Done writes lines) e job, cut)
changes_from_cut words t (Some a) None writes lines e job cut = absurd cut
changes_from_cut words t None (Some b) writes lines e job cut = absurd cut
changes_from_cut words t None None writes lines e job cut = tt

all_is : (writes : List NamedFile) (a : FileContents) (y : Option FileContents) → AllWritten writes (Some a) y → y ≡ Some (made writes a)
all_is writes a (Some b) h = ap Some h
all_is writes a None h = absurd h

prints_at : (words : List Text) (t : Task) (a : FileContents) (y : Option FileContents) (writes : List NamedFile) (lines before after : Text) → task_of words ≡ Some t → TaskJob t a (Done writes lines)
    → PrintsAfter lines (AllWritten writes (Some a) y) before after → PrintsForTheJob words a y before after
prints_at words t a y writes lines before after e job (inl same) = inl same
prints_at words t a y writes lines before after e job (inr (prefix, all)) = inr (writes, lines, asked t (Done writes lines) e job, (all_is writes a y all, prefix))

pub prints_from_lines : (words : List Text) (t : Task) (x y : Option FileContents) (o o' : Option Text) (writes : List NamedFile) (lines : Text) → task_of words ≡ Some t
    → IfSome x (λ a. TaskJob t a (Done writes lines)) → Becomes o o' (PrintsAfter lines (AllWritten writes x y)) → IfSome x (λ a. Becomes o o' (PrintsForTheJob words a y))
prints_from_lines words t None y o o' writes lines e job h = tt
prints_from_lines words t (Some a) y o o' writes lines e job h =
    becomes_weaker o o' (PrintsAfter lines (AllWritten writes (Some a) y)) (PrintsForTheJob words a y) h (λ before after p. prints_at words t a y writes lines before after e job p)

pub ends_done : {T E : Type 0} (r : Result T E) (words : List Text) (t : Task) (x y : Option FileContents) (o o' : Option Text) (writes : List NamedFile) (lines : Text) → task_of words ≡ Some t
    → IfSome x (λ a. TaskJob t a (Done writes lines)) → OnOk r (AllWritten writes x y) → OnOk r (Gains lines o o') → OnOk r (IfSome x (λ a. EndsDone words a y o o'))
ends_done (Err e) words t x y o o' writes lines asks job all gains = tt
ends_done (Ok u) words t None y o o' writes lines asks job all gains = tt
ends_done (Ok u) words t (Some a) y o o' writes lines asks job all gains = (writes, lines, asked t (Done writes lines) asks job, (all_is writes a y all, gains))

written_at : (words : List Text) (t : Task) (held : Option FileContents) (writes : List NamedFile) (lines name : Text) → task_of words ≡ Some t
    → IfSome held (λ a. TaskJob t a (Done writes lines)) → Contains (written_names writes) name
    → IfSome held (λ a. JobIsDone words a (λ writes lines. Contains (written_names writes) name))
written_at words t None writes lines name e h c = tt
written_at words t (Some a) writes lines name e h c = (writes, lines, asked t (Done writes lines) e h, c)

done_at : (words : List Text) (t : Task) (held new : Option FileContents) (writes : List NamedFile) (lines : Text) → task_of words ≡ Some t
    → IfSome held (λ a. TaskJob t a (Done writes lines)) → AllWritten writes held new → IfSome held (λ a. JobIsDone words a (λ writes lines. new ≡ Some (made writes a)))
done_at words t None new writes lines e h all = tt
done_at words t (Some a) new writes lines e h all = (writes, lines, asked t (Done writes lines) e h, all_is writes a new all)

refused_job_at : (words : List Text) (t : Task) (held : Option FileContents) (text : Text) → task_of words ≡ Some t → IfSome held (λ a. TaskJob t a (Refused text) × InputsAreBytes t a) → IfSome held (λ a. HasJob words a (Refused text) × InputsHoldBytes words a)
refused_job_at words t None text e h = tt
refused_job_at words t (Some a) text e (job, are) = (asked t (Refused text) e job, inputs_of_words words t a e are)

-- A stop of the writes or of the printed lines is a stop of the work.
pub finish_stops : (words : List Text) (t : Task) (old new : HostState) (mid : Text → ℕ) (writes : List NamedFile) (lines : Text) (s : Stop) → task_of words ≡ Some t
    → ((name : Text) → old.writes name ≤ mid name)
    → IfSome old.files (λ a. TaskJob t a (Done writes lines))
    → AreOutputs t old.files (written_names writes)
    → StopsFinishing mid new.writes old.out_faults new.out_faults old.files new.files old.out new.out writes s
    → StopsWork words old new s
finish_stops words t old new mid writes lines (stop.CannotWrite name) e later done outputs (h, out) = (
  (t, e, outputs (string_bytes name) h.0, omega (arith, later (string_bytes name), h.1), written_at words t old.files writes lines (string_bytes name) e done h.0),
  out,
)
finish_stops words t old new mid writes lines stop.CannotPrint e later done outputs h = (h.0, done_at words t old.files new.files writes lines e done h.1)
finish_stops words t old new mid writes lines stop.NoMemory e later done outputs h = tt
finish_stops words t old new mid writes lines (stop.Usage line) e later done outputs h = absurd h
finish_stops words t old new mid writes lines (stop.Refused refusal) e later done outputs h = absurd h
finish_stops words t old new mid writes lines (stop.CannotRead name) e later done outputs h = absurd h

same_at : {A : Type 0} (x y : Option A) → y ≡ x → IsSame x y
same_at x y e = becomes_same x y (λ a b. b ≡ a) e (λ a. refl)

-- A stop before anything is written is a stop of the work.
pub prepare_stops : (words : List Text) (t : Task) (old new : HostState) (s : Stop) → task_of words ≡ Some t → new.files ≡ old.files → new.out ≡ old.out
    → StopsPreparing old.files old.reads new.reads t s → StopsWork words old new s
prepare_stops words t old new (stop.Refused refusal) e files out h = (refused_job_at words t old.files (refusal_text refusal) e h, same_at _ _ files, same_at _ _ out)
prepare_stops words t old new (stop.CannotRead name) e files out h = ((t, e, h.0, h.1), same_at _ _ files, same_at _ _ out)
prepare_stops words t old new stop.NoMemory e files out h = tt
prepare_stops words t old new (stop.Usage line) e files out h = absurd h
prepare_stops words t old new (stop.CannotWrite name) e files out h = absurd h
prepare_stops words t old new stop.CannotPrint e files out h = absurd h

-- The text of a refusal is a line.
refusal_line : (refusal : Refusal) → IsLine (stop_line (refusal_text refusal))
refusal_line (refusal.NotModule file) = fault_line file.now _ fault.NotModule refl
refusal_line (refusal.Malformed file section) = fault_line file.now _ (fault.Malformed section.number) refl
refusal_line (refusal.MalformedBody file func) = fault_line file.now _ (fault.MalformedBody func.number) refl
refusal_line (refusal.Unsupported file section) = fault_line file.now _ (fault.Unsupported section.number None) refl
refusal_line (refusal.UnsupportedBody file func) = fault_line file.now _ (fault.Unsupported 0 (Some func.number)) refl
refusal_line (refusal.Limit file which) = fault_line file.now _ (fault.Limit which) refl
refusal_line (refusal.Invalid file kind index) = invalid_line file.now (record { kind = kind; index = index.number })
refusal_line refusal.TooManyParts = parts_line
refusal_line (refusal.ImportMismatch file import) = link_line (file.now ∷ []) _ (link.ImportMismatch 0 import.number) refl
refusal_line (refusal.ImportCycle file import) = link_line (file.now ∷ []) _ (link.ImportCycle 0 import.number) refl
refusal_line (refusal.LimitsClash file import) = link_line (file.now ∷ []) _ (link.LimitsClash 0 import.number) refl
refusal_line refusal.TooManyMemories = link_line [] _ link.TooManyMemories refl
refusal_line (refusal.GlobalCycle file global) = link_line (file.now ∷ []) _ (link.GlobalCycle 0 global.number) refl
refusal_line (refusal.ExportConflict name) = join_line _ (join.ExportConflict name) refl
refusal_line (refusal.TooMany which) = output_line which
refusal_line (refusal.GraphText file) = graph_line file.now _ graph.GraphText refl
refusal_line (refusal.GraphShape file entry) = graph_line file.now _ (graph.GraphShape entry.number) refl
refusal_line (refusal.NodeTwice file name) = graph_line file.now _ (graph.NodeTwice name) refl
refusal_line (refusal.UnknownNode file name) = graph_line file.now _ (graph.UnknownNode name) refl
refusal_line (refusal.NoSuchFunction name) = plan_line _ (plan.NoSuchFunction name) refl
refusal_line (refusal.AmbiguousFunction name) = plan_line _ (plan.AmbiguousFunction name) refl
refusal_line (refusal.KeptAndSplit name) = plan_line _ (plan.KeptAndSplit name) refl
refusal_line (refusal.NamespaceTaken file import) = split_line file.now _ (split.NamespaceTaken import.number) refl
refusal_line (refusal.PrefixTaken name) = split_line [] _ (split.PrefixTaken name) refl
refusal_line (refusal.NoSuchExport name) = eval_line _ (eval.NoSuchExport name) refl

-- The text of a stop is a line.
line_is : (words : List Text) (old new : HostState) (s : Stop) → StopsWork words old new s → IsLine (line_of s)
line_is words old new (stop.Usage line) h = subst IsLine (sym h.1) (usage words)
line_is words old new (stop.Refused refusal) h = refusal_line refusal
line_is words old new (stop.CannotRead file) h = cannot_read_line file.now
line_is words old new (stop.CannotWrite file) h = cannot_write_line (string_bytes file)
line_is words old new stop.CannotPrint h = cannot_print_line
line_is words old new stop.NoMemory h = no_memory_line

pub says_nothing : (x : Option Text) → Becomes x x Says
says_nothing x = becomes_itself x Says (λ a. (stop_line no_memory, no_memory_line, prefix_none _ a a refl))

pub says_a_line : (words : List Text) (old new : HostState) (s : Stop) (x y : Option Text) → StopsWork words old new s → Becomes x y (AppendsPrefix (line_of s)) → Becomes x y Says
says_a_line words old new s x y h p = becomes_weaker x y (AppendsPrefix (line_of s)) Says p (λ a b q. (line_of s, line_is words old new s h, q))

-- A stop that reports a fault of the outside has its cause there.
pub outside_cause : (words : List Text) (old new : HostState) (s : Stop) (err err' : Option Text) (before now : ℕ) (result : Status)
    → StopsWork words old new s → Reports s err err' before now result → result ≡ status.Outside → HasOutsideCause words old new err err' before now
outside_cause words old new s err err' before now result h (inr (inl p)) is = inl p.1
outside_cause words old new s err err' before now result h (inr (inr e)) is = cc
outside_cause words old new (stop.CannotRead name) err err' before now result h (inl p) is = inr (inl (name.now, h.0, h.1, h.2, p.1))
outside_cause words old new (stop.CannotWrite name) err err' before now result h (inl p) is = inr (inr (inl (string_bytes name, h.0, h.1, p.1)))
outside_cause words old new stop.CannotPrint err err' before now result h (inl p) is = inr (inr (inr (h, p.1)))
outside_cause words old new (stop.Usage line) err err' before now result h (inl p) is = let e = p.0 in cc
outside_cause words old new (stop.Refused refusal) err err' before now result h (inl p) is = let e = p.0 in cc
outside_cause words old new stop.NoMemory err err' before now result h (inl p) is = let e = p.0 in cc

-- No two jobs of a command line differ.
abbrev pub JobsAreOne : Type 0
JobsAreOne = (words : List Text) (files : FileContents) (one other : Job) → InputsHoldBytes words files → HasJob words files one → HasJob words files other → one ≡ other

has_status : JobsAreOne → (words : List Text) (a : FileContents) (job : Job) (result : Status) → InputsHoldBytes words a → HasJob words a job → StatusOfJob job result → HasStatus words a result
has_status law words a job result are has is = record { some = (job, has); each = λ other h. subst (λ (j : Job). StatusOfJob j result) (law words a job other are has h) is }

no_words_read : (words : List Text) (a : FileContents) → task_of words ≡ None → InputsHoldBytes words a
no_words_read words a none task e = absurd (let both : None ≡ Some task = sym none ∙ e in cc)

usage_status : JobsAreOne → (words : List Text) (held : Option FileContents) (result : Status) → task_of words ≡ None → result ≡ status.Usage → IfSome held (λ a. HasStatus words a result)
usage_status law words None result e is = tt
usage_status law words (Some a) result e is = has_status law words a Usage result (no_words_read words a e) (no_task e) is

refused_status : JobsAreOne → (words : List Text) (held : Option FileContents) (text : Text) (result : Status) → IfSome held (λ a. HasJob words a (Refused text) × InputsHoldBytes words a) → result ≡ status.Refused → IfSome held (λ a. HasStatus words a result)
refused_status law words None text result job is = tt
refused_status law words (Some a) text result (job, are) is = has_status law words a (Refused text) result are job is

pub done_status : JobsAreOne → (words : List Text) (held new : Option FileContents) (out out' : Option Text) (result : Status) → IfSome held (InputsHoldBytes words) → IfSome held (λ a. EndsDone words a new out out') → result ≡ status.Done → IfSome held (λ a. HasStatus words a result)
done_status law words None new out out' result are ends is = tt
done_status law words (Some a) new out out' result are (writes, lines, job, ends) is = has_status law words a (Done writes lines) result are job is

-- A stop comes with a risen count of failures, with a lack of memory, or with the status of the
-- job.
pub complete_at_stop : JobsAreOne → (words : List Text) (old new : HostState) (s : Stop) (err err' : Option Text) (before now : ℕ) (result : Status)
    → StopsWork words old new s → Reports s err err' before now result
    → SomeRose old new before now ⊎ ((result ≡ status.NoMemory) ⊎ IfSome old.files (λ a. HasStatus words a result))
complete_at_stop law words old new s err err' before now result h (inr (inl p)) = inl (inr (inr (inr p.1)))
complete_at_stop law words old new s err err' before now result h (inr (inr e)) = inr (inl e)
complete_at_stop law words old new (stop.CannotRead name) err err' before now result h (inl p) = inl (inl (name.now, h.0.3.1))
complete_at_stop law words old new (stop.CannotWrite name) err err' before now result h (inl p) = inl (inr (inl (string_bytes name, h.0.3)))
complete_at_stop law words old new stop.CannotPrint err err' before now result h (inl p) = inl (inr (inr (inl h.0)))
complete_at_stop law words old new (stop.Usage line) err err' before now result h (inl p) = inr (inr (usage_status law words old.files result h.0 p.0))
complete_at_stop law words old new (stop.Refused refusal) err err' before now result h (inl p) = inr (inr (refused_status law words old.files _ result h.0 p.0))
complete_at_stop law words old new stop.NoMemory err err' before now result h (inl p) = inr (inl p.0)

-- A stop because of the words ends with the status of usage if no write to the standard error
-- fails.
pub usage_at_stop : (s : Stop) (err err' : Option Text) (before now : ℕ) (result : Status) → IsUsage (Err s) → Reports s err err' before now result
    → Rose before now ⊎ ((result ≡ status.NoMemory) ⊎ (result ≡ status.Usage))
usage_at_stop s err err' before now result h (inr (inl p)) = inl p.1
usage_at_stop s err err' before now result h (inr (inr e)) = inr (inl e)
usage_at_stop (stop.Usage line) err err' before now result h (inl p) = inr (inr p.0)
usage_at_stop (stop.Refused refusal) err err' before now result h (inl p) = absurd h
usage_at_stop (stop.CannotRead name) err err' before now result h (inl p) = absurd h
usage_at_stop (stop.CannotWrite name) err err' before now result h (inl p) = absurd h
usage_at_stop stop.CannotPrint err err' before now result h (inl p) = absurd h
usage_at_stop stop.NoMemory err err' before now result h (inl p) = inr (inl p.0)

-- A task whose words print nothing has no lines.
pub has_no_lines : (words : List Text) (t : Task) (lines : Text) → task_of words ≡ Some t → PrintsAsAllowed t lines → PrintsNothing words → lines ≡ []
has_no_lines words t lines e allowed nothing = allowed (nothing t e)

-- The line of a stop because of words that are no task is the usage line.
pub usage_told : (words : List Text) (old new : HostState) (s : Stop) (err err' : Option Text) (before now : ℕ) (result : Status)
    → StopsWork words old new s → Reports s err err' before now result → result ≡ status.Usage → (task_of words ≡ None) × Gains (usage_line words) err err' × IsSame old.files new.files × IsSame old.out new.out
usage_told words old new s err err' before now result h (inr (inl p)) is = let e = p.0 in cc
usage_told words old new s err err' before now result h (inr (inr e)) is = cc
usage_told words old new (stop.Usage line) err err' before now result h (inl p) is = let P : Text → Type 0 = λ text. Gains text err err' in (h.0, subst P h.1 p.1, h.2, h.3)
usage_told words old new (stop.Refused refusal) err err' before now result h (inl p) is = let e = p.0 in cc
usage_told words old new (stop.CannotRead name) err err' before now result h (inl p) is = let e = p.0 in cc
usage_told words old new (stop.CannotWrite name) err err' before now result h (inl p) is = let e = p.0 in cc
usage_told words old new stop.CannotPrint err err' before now result h (inl p) is = let e = p.0 in cc
usage_told words old new stop.NoMemory err err' before now result h (inl p) is = let e = p.0 in cc

-- No stop ends with the status of done.
pub no_stop_is_done : (s : Stop) (err err' : Option Text) (before now : ℕ) (result : Status) → Reports s err err' before now result → result ≡ status.Done → ⊥
no_stop_is_done s err err' before now result (inr (inl p)) is = let e = p.0 in cc
no_stop_is_done s err err' before now result (inr (inr e)) is = cc
no_stop_is_done (stop.Usage line) err err' before now result (inl p) is = let e = p.0 in cc
no_stop_is_done (stop.Refused refusal) err err' before now result (inl p) is = let e = p.0 in cc
no_stop_is_done (stop.CannotRead name) err err' before now result (inl p) is = let e = p.0 in cc
no_stop_is_done (stop.CannotWrite name) err err' before now result (inl p) is = let e = p.0 in cc
no_stop_is_done stop.CannotPrint err err' before now result (inl p) is = let e = p.0 in cc
no_stop_is_done stop.NoMemory err err' before now result (inl p) is = let e = p.0 in cc

refused_at : (words : List Text) (err err' : Option Text) (files : Option FileContents) (text : Text) → IfSome files (λ a. HasJob words a (Refused text) × InputsHoldBytes words a) → Gains (stop_line text) err err' → IfSome files (λ a. EndsRefused words a err err')
refused_at words err err' None text job gains = tt
refused_at words err err' (Some a) text (job, are) gains = (text, job, gains)

-- The line of a stop that is a refusal is that of the refusal.
pub refusal_told : (words : List Text) (old new : HostState) (s : Stop) (err err' : Option Text) (before now : ℕ) (result : Status)
    → StopsWork words old new s → Reports s err err' before now result → result ≡ status.Refused → IfSome old.files (λ a. EndsRefused words a err err') × IsSame old.files new.files × IsSame old.out new.out
refusal_told words old new s err err' before now result h (inr (inl p)) is = let e = p.0 in cc
refusal_told words old new s err err' before now result h (inr (inr e)) is = cc
refusal_told words old new (stop.Refused refusal) err err' before now result h (inl p) is = (refused_at words err err' old.files _ h.0 p.1, h.1, h.2)
refusal_told words old new (stop.Usage line) err err' before now result h (inl p) is = let e = p.0 in cc
refusal_told words old new (stop.CannotRead name) err err' before now result h (inl p) is = let e = p.0 in cc
refusal_told words old new (stop.CannotWrite name) err err' before now result h (inl p) is = let e = p.0 in cc
refusal_told words old new stop.CannotPrint err err' before now result h (inl p) is = let e = p.0 in cc
refusal_told words old new stop.NoMemory err err' before now result h (inl p) is = let e = p.0 in cc
