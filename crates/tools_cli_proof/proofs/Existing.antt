-- A command line has a job.
use Rattle.base_lists.proofs.Common.{Bool, true, false, cond, ltb, ◌-◌, ◌≡◌, ◌∙◌, sym, refl, ap, subst, map, inl, inr, ◌⊎◌, ℕ, zero, suc, ◌<◌, ◌≤◌, take, List, [], ◌∷◌, length, Option, Some, None, Result, Ok, Err, slice_get, option_map, arith, get, length-map}
use Rattle.std.proofs.Common.{length-append}
use Rattle.wasm_bytes.specs.Prelude.{IsBytes}
use Rattle.tool_io.specs.FilesAndSinks.{FileContents}
use Rattle.tools_cli_spec.specs.Prelude.{Text, Source, MergeTask, Task, Merge, Metadce, Split, CtorEval, Sample, task_of, source_files, many_of, modules_of, texts_of, inputs_of, NamedFile, fault_text, link_text, IsReadAs, IsAccepted, invalid, Job, Gathered, add_first, add_file, Whole}
use Rattle.tools_cli_spec.specs.Prelude.{Lacks, TooLong, gathered, most_input, LoadsFile, loaded, faulty, AllLoad, OneFails, Decision, Merges, not_linked, not_joined, merged, parts_of, sample_merge, sample_modules, Decides, job_of, module_files, contents_of, InputsJob, not_loaded, decided}
use Rattle.tools_cli_spec.specs.Prelude.{refused_before, TaskJob, not_begun, missing, too_long, all_read, HasJob, no_task, asked}
use Rattle.tools_cli_spec.specs.Texts.{invalid_text, import_mismatch, import_cycle, limits_clash, global_cycle, too_many_memories}
use Rattle.tools_cli_spec.specs.Job.{InputsAreBytes, InputsHoldBytes}
use Rattle.wasm_tree_spec.specs.Prelude.{Module}
use Rattle.wasm_read_spec.specs.declared.fault.ReadFault.{ReadFault}
use Rattle.wasm_valid.specs.declared.kinds.Invalid.{Invalid}
use Rattle.wasm_valid.specs.Prelude.{IsFirstInvalid}
use Rattle.wasm_read_spec.specs.Prelude.{read_fault, Cause}
use Rattle.merge_spec.specs.Prelude.{link_fault, LinkFaultsNameParts, NamesPart, NoPartsWantMemory, repeated_name, joined_module}
use Rattle.merge_spec.specs.Joined.{join_of, outcome}
use Rattle.module_limits.specs.Counts.{over_limit}
use Rattle.merge_spec.specs.declared.faults.LinkFault.{LinkFault}
use Rattle.merge_spec.specs.declared.faults.JoinFault.{JoinFault}
use Rattle.dce_graph.specs.Laws.{ExactMarksExist}
use Rattle.tools_cli_proof.proofs.MergeDecided.{length_parts, length_files}
use Rattle.tools_cli_proof.proofs.MetadceDecided.{metadce_told}
use Rattle.tools_cli_proof.proofs.SplitDecided.{NamesAreRead, split_decides}
use Rattle.tools_cli_proof.proofs.CtorEvalDecided.{eval_decides}
use Rattle.tools_cli_proof.proofs.SampleDecided.{sample_decides}
use Rattle.split_plan.specs.Causes.{FaultsHaveCauses}
use Rattle.tools_cli_proof.proofs.Loads.{as_many}
use Rattle.tools_cli_proof.proofs.Determined.{AreBytes, SpelledHasNoFault, FirstIsBytes, first_are_bytes, first_is_bytes}
use Rattle.wasm_read_spec.specs.declared.fault.ReadFault.TheVariants as fault
use Rattle.merge_spec.specs.declared.faults.LinkFault.TheVariants as link
use Rattle.merge_spec.specs.declared.faults.JoinFault.TheVariants as join

-- A tree is accepted or has a first invalid item.
abbrev pub IsDecided : Bool → Module → Type 0
IsDecided many tree = IsAccepted many tree ⊎ ((item : Invalid) × IsFirstInvalid tree many item)

-- The laws of other crates on reading, on validity, on linking, on reach, on names and on words.
pub record Known : Type 0 where
  pub marks : ExactMarksExist
  pub names : NamesAreRead
  pub words : FaultsHaveCauses
  pub faults : SpelledHasNoFault
  pub causes : (bytes : List ℕ) (many : Bool) (fault : ReadFault) → IsBytes bytes → read_fault bytes many ≡ Some fault → Cause bytes many fault
  pub decided : (many : Bool) (tree : Module) → IsDecided many tree
  pub link_names : LinkFaultsNameParts
  pub link_memory : NoPartsWantMemory

abbrev SomeText : Option Text → Type 0
SomeText o = (text : Text) × (o ≡ Some text)

-- ---- one file

fault_told : (many : Bool) (file bytes : Text) (fault : ReadFault) → Cause bytes many fault → SomeText (fault_text file fault)
fault_told many file bytes fault.NotModule cause = (_, refl)
fault_told many file bytes (fault.Malformed section) cause = (_, refl)
fault_told many file bytes (fault.MalformedBody func) cause = (_, refl)
fault_told many file bytes (fault.Unsupported section None) cause = (_, refl)
fault_told many file bytes (fault.Unsupported section (Some func)) cause = (_, refl)
fault_told many file bytes (fault.Limit which) cause = (_, refl)
fault_told many file bytes fault.NoMemory cause = absurd cause

tree_loads : (many : Bool) (file bytes : Text) (tree : Module) → IsReadAs many bytes tree → IsDecided many tree → (r : Result Module Text) × LoadsFile many file bytes r
tree_loads many file bytes tree h (inl accepted) = (Ok tree, loaded tree h accepted)
tree_loads many file bytes tree h (inr (item, first)) = (Err (invalid_text file item), invalid tree item h first)

file_loads : Known → (many : Bool) (file bytes : Text) → IsBytes bytes → (o : Option ReadFault) → read_fault bytes many ≡ o → (r : Result Module Text) × LoadsFile many file bytes r
file_loads k many file bytes are None e =
    let (tree, spelled, within) = (k.faults many bytes are).0 e in
    tree_loads many file bytes tree (record { spelled = spelled; within = within }) (k.decided many tree)
file_loads k many file bytes are (Some fault) e =
    let told = fault_told many file bytes fault (k.causes bytes many fault are e) in (Err told.0, faulty fault told.0 e told.1)

-- ---- all files

abbrev AllOrOne : Bool → List NamedFile → Type 0
AllOrOne many files = ((trees : List Module) × AllLoad many files trees) ⊎ ((text : Text) × OneFails many files text)

and_more : (many : Bool) (file : NamedFile) (files : List NamedFile) (r : Result Module Text) → LoadsFile many file.0 file.1 r → AllOrOne many files → AllOrOne many (file ∷ files)
and_more many file files (Err text) h rest = inr (text, inl h)
and_more many file files (Ok tree) h (inl (trees, all)) = inl (tree ∷ trees, (h, all))
and_more many file files (Ok tree) h (inr (text, fails)) = inr (text, inr (tree, h, fails))

files_load : Known → (many : Bool) (files : List NamedFile) → AreBytes files → AllOrOne many files
files_load k many [] are = inl ([], tt)
files_load k many (file ∷ files) are = let first = file_loads k many file.0 file.1 are.0 _ refl in and_more many file files first.0 first.1 (files_load k many files are.1)

-- ---- a merge

there_at : (sources : List Source) (n : ℕ) → n < length sources → (file : Text) × (slice_get (map (λ (s : Source). s.file) sources) n ≡ Some file)
there_at [] n lt = absurd (omega arith)
there_at (s ∷ sources) zero lt = (s.file, refl)
there_at (s ∷ sources) (suc n) lt = there_at sources n (omega arith)

named_text : (f : Text → Text) (o : Option Text) → SomeText o → SomeText (option_map f o)
named_text f o (text, e) = (f text, ap (option_map f) e)

link_told : (merge : MergeTask) (fault : LinkFault) → (fault ≡ link.NoMemory → ⊥) → NamesPart (length merge.sources) fault → SomeText (link_text (source_files merge) fault)
link_told merge (link.ImportMismatch part import) never names = named_text (λ file. import_mismatch file import) (slice_get (source_files merge) part) (there_at merge.sources part names)
link_told merge (link.ImportCycle part import) never names = named_text (λ file. import_cycle file import) (slice_get (source_files merge) part) (there_at merge.sources part names)
link_told merge (link.LimitsClash part import) never names = named_text (λ file. limits_clash file import) (slice_get (source_files merge) part) (there_at merge.sources part names)
link_told merge link.TooManyMemories never names = (too_many_memories, refl)
link_told merge (link.GlobalCycle part global) never names = named_text (λ file. global_cycle file global) (slice_get (source_files merge) part) (there_at merge.sources part names)
link_told merge link.NoMemory never names = absurd (never refl)

joins_told : (merge : MergeTask) (trees : List Module) (r : Result Module JoinFault) → link_fault (parts_of merge.sources trees) (many_of (Merge merge)) ≡ None → join_of (parts_of merge.sources trees) merge.mode ≡ r → (r ≡ Err join.NoMemory → ⊥)
    → (decision : Decision) × Merges merge trees decision
joins_told merge trees (Ok tree) linked e never = (_, merged tree (linked, e))
joins_told merge trees (Err (join.ExportConflict name)) linked e never = (_, not_joined (join.ExportConflict name) _ linked e refl)
joins_told merge trees (Err (join.TooMany which)) linked e never = (_, not_joined (join.TooMany which) _ linked e refl)
joins_told merge trees (Err join.NoMemory) linked e never = absurd (never refl)

no_want : (name : Option Text) (which : _) (m : Module) → outcome name which m ≡ Err join.NoMemory → ⊥
no_want (Some name) which m e = cc
no_want None (Some which) m e = cc
no_want None None m e = cc

merge_told : Known → (merge : MergeTask) (trees : List Module) → length trees ≡ length merge.sources → (o : Option LinkFault) → link_fault (parts_of merge.sources trees) (many_of (Merge merge)) ≡ o → (decision : Decision) × Merges merge trees decision
merge_told k merge trees each None e =
    let parts = parts_of merge.sources trees in
    joins_told merge trees (join_of parts merge.mode) e refl (no_want (repeated_name parts merge.mode) (over_limit (joined_module parts merge.mode)) (joined_module parts merge.mode))
merge_told k merge trees each (Some fault) e =
    let parts = parts_of merge.sources trees in
    let there : NamesPart (length merge.sources) fault = subst (λ n. NamesPart n fault) (length_parts merge.sources trees each) (k.link_names parts (many_of (Merge merge)) fault e) in
    let told = link_told merge fault (λ is. k.link_memory parts (many_of (Merge merge)) (e ∙ ap Some is)) there in
    (_, not_linked fault told.0 e told.1)

task_told : Known → (t : Task) (trees : List Module) (contents : List Text) → FirstIsBytes contents → length trees ≡ length (modules_of t) → length contents ≡ length (inputs_of t) → (decision : Decision) × Decides t trees contents decision
task_told k (Merge merge) trees contents are each all = merge_told k merge trees (each ∙ length_files merge.sources) _ refl
task_told k (Metadce metadce) trees contents are each all = metadce_told k.marks metadce trees contents each all
task_told k (Split split) trees contents are each all = split_decides k.names k.words split trees contents are each all
task_told k (CtorEval eval) trees contents are each all = eval_decides eval trees contents each all
task_told k (Sample sample) trees contents are each all = sample_decides sample trees contents each all (merge_told k sample_merge (sample_modules sample) refl _ refl)

-- ---- the job

length_first : {A : Type 0} (n : ℕ) (xs : List A) → n ≤ length xs → length (take n xs) ≡ n
length_first zero xs h = refl
length_first (suc n) [] h = absurd (omega arith)
length_first (suc n) (x ∷ xs) h = ap suc (length_first n xs (omega arith))

over_inputs : Known → (t : Task) (inputs : List NamedFile) → AreBytes inputs → length (modules_of t) ≤ length inputs → length inputs ≡ length (inputs_of t) → AllOrOne (many_of t) (module_files t inputs) → (job : Job) × InputsJob t inputs job
over_inputs k t inputs are enough every (inr (text, fails)) = (_, not_loaded text fails)
over_inputs k t inputs are enough every (inl (trees, all)) =
    let each = as_many (many_of t) (module_files t inputs) trees all ∙ length_first (length (modules_of t)) inputs enough in
    let told = task_told k t trees (contents_of inputs) (first_is_bytes inputs are) each (length-map inputs (λ (e : NamedFile). e.1) ∙ every) in
    (job_of told.0, decided trees told.0 all told.1)

-- The number of gathered files is the number of names.
first_count : (file : NamedFile) (g : Gathered) (inputs : List NamedFile) (n : ℕ) → ((rest : List NamedFile) → g ≡ Whole rest → length rest ≡ n) → add_first file g ≡ Whole inputs → length inputs ≡ suc n
first_count file (Whole rest) inputs n count e = let same : file ∷ rest ≡ inputs = cc in sym (ap length same) ∙ ap suc (count rest refl)
first_count file (Lacks name) inputs n count e = absurd (cc)
first_count file (TooLong name) inputs n count e = absurd (cc)

file_count : (name : Text) (left : ℕ) (o : Option Text) (rest : ℕ → Gathered) (inputs : List NamedFile) (n : ℕ) → ((more : List NamedFile) (left : ℕ) → rest left ≡ Whole more → length more ≡ n) → add_file name left o rest ≡ Whole inputs → length inputs ≡ suc n
file_count name left None rest inputs n count e = absurd (cc)
file_count name left (Some bytes) rest inputs n count e = by (ltb left (length bytes)) e
  where
    by : (b : Bool) → cond b (TooLong name) (add_first (name, bytes) (rest (left - length bytes))) ≡ Whole inputs → length inputs ≡ suc n
    by true e = absurd (cc)
    by false e = first_count (name, bytes) (rest (left - length bytes)) inputs n (λ more h. count more (left - length bytes) h) e

gathered_count : (files : FileContents) (names : List Text) (most : ℕ) (inputs : List NamedFile) → gathered names files most ≡ Whole inputs → length inputs ≡ length names
gathered_count files [] most inputs e = let same : [] ≡ inputs = cc in ap length (sym same)
gathered_count files (name ∷ names) most inputs e = file_count name most (get files name) (gathered names files) inputs (length names) (λ more n h. gathered_count files names n more h) e

begun_job : Known → (t : Task) (files : FileContents) → InputsAreBytes t files → refused_before t ≡ None → (g : Gathered) → gathered (inputs_of t) files most_input ≡ g → (job : Job) × TaskJob t files job
begun_job k t files hold begun (Lacks name) e = (_, missing name begun e)
begun_job k t files hold begun (TooLong name) e = (_, too_long name begun e)
begun_job k t files hold begun (Whole inputs) e =
    let count = gathered_count files (inputs_of t) most_input inputs e in
    let both = length-append (modules_of t) (texts_of t) in
    let enough : length (modules_of t) ≤ length inputs = omega arith in
    let are = hold inputs begun e in
    let told = over_inputs k t inputs are enough count (files_load k (many_of t) (module_files t inputs) (first_are_bytes (length (modules_of t)) inputs are)) in
    (told.0, all_read inputs told.0 begun e told.1)

task_job : Known → (t : Task) (files : FileContents) → InputsAreBytes t files → (o : Option Text) → refused_before t ≡ o → (job : Job) × TaskJob t files job
task_job k t files hold (Some text) e = (_, not_begun text e)
task_job k t files hold None e = begun_job k t files hold e _ refl

words_job : Known → (words : List Text) (files : FileContents) → InputsHoldBytes words files → (o : Option Task) → task_of words ≡ o → (job : Job) × HasJob words files job
words_job k words files hold None e = (_, no_task e)
words_job k words files hold (Some t) e = let told = task_job k t files (hold t e) _ refl in (told.0, asked t told.0 e told.1)

pub job_exists : Known → (words : List Text) (files : FileContents) → InputsHoldBytes words files → (job : Job) × HasJob words files job
job_exists k words files hold = words_job k words files hold _ refl
