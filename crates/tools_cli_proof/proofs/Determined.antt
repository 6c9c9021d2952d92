-- A command line has at most one job.
use Rattle.base_lists.proofs.Common.{Bool, take, zero, suc, ◌↔◌, ◌≡◌, ◌∙◌, sym, refl, ap, ap₂, subst, inl, inr, ℕ, List, [], ◌∷◌, Some, None, Result, Ok, Err, false, length}
use Rattle.wasm_bytes.specs.Prelude.{IsBytes}
use Rattle.tool_io.specs.FilesAndSinks.{FileContents}
use Rattle.tools_cli_spec.specs.Prelude.{Text, MergeTask, Task, Merge, Metadce, Split, CtorEval, Sample, source_files, many_of, modules_of, NamedFile, fault_text, link_text, over_limit, IsReadAs, IsAccepted, invalid, Job, Refused}
use Rattle.tools_cli_spec.specs.Prelude.{LoadsFile, loaded, faulty, AllLoad, OneFails, Decision, Refuses, Makes, Merges, not_linked, not_joined, merged, parts_of, Decides, job_of, module_files, contents_of, InputsJob, not_loaded, decided, TaskJob, not_begun}
use Rattle.tools_cli_spec.specs.Prelude.{missing, too_long, all_read, HasJob, no_task, asked}
use Rattle.tools_cli_spec.specs.Texts.{invalid_text, join_text}
use Rattle.wasm_tree_spec.specs.Prelude.{InputBytes, Module}
use Rattle.base_lists.specs.Every.{Every}
use Rattle.tools_cli_spec.specs.Job.{InputsAreBytes, InputsHoldBytes}
use Rattle.dce_graph.specs.Laws.{ExactMarksAreOne}
use Rattle.tools_cli_proof.proofs.MetadceDecided.{metadce_once}
use Rattle.tools_cli_proof.proofs.SplitDecided.{NamesAreRead, split_once}
use Rattle.tools_cli_proof.proofs.CtorEvalDecided.{eval_once}
use Rattle.tools_cli_proof.proofs.SampleDecided.{sample_once}
use Rattle.wasm_read_spec.specs.declared.fault.ReadFault.{ReadFault}
use Rattle.wasm_valid.specs.declared.kinds.Invalid.{Invalid}
use Rattle.wasm_valid.specs.Prelude.{IsValid, IsSingle, IsFirstInvalid}
use Rattle.wasm_read_spec.specs.Prelude.{Spells, Within, read_fault}
use Rattle.wasm_meaning.specs.Prelude.{Part}
use Rattle.merge_spec.specs.Prelude.{link_fault}
use Rattle.merge_spec.specs.declared.faults.LinkFault.{LinkFault}
use Rattle.merge_spec.specs.declared.faults.JoinFault.{JoinFault}

-- Bytes spell at most one tree, and they have no fault exactly if they spell a tree within the
-- limits.
abbrev pub TreeIsOne : Type 0
TreeIsOne = (many : Bool) (bytes : List ℕ) (one other : Module) → Spells bytes one many → Spells bytes other many → one ≡ other

abbrev pub SpelledHasNoFault : Type 0
SpelledHasNoFault = (many : Bool) (bytes : List ℕ) → IsBytes bytes → (read_fault bytes many ≡ None) ↔ ((tree : Module) × Spells bytes tree many × Within bytes many)

-- A tree has at most one first invalid item, and none if it is accepted.
abbrev pub FirstIsOne : Type 0
FirstIsOne = (many : Bool) (tree : Module) (one other : Invalid) → IsFirstInvalid tree many one → IsFirstInvalid tree many other → one ≡ other

abbrev pub NoneIsFirst : Type 0
NoneIsFirst = (many : Bool) (tree : Module) (item : Invalid) → IsValid tree → (many ≡ false → IsSingle tree) → IsFirstInvalid tree many item → ⊥

-- The laws of other crates on reading, on validity, on reach and on names.
pub record Known : Type 0 where
  pub marks : ExactMarksAreOne
  pub names : NamesAreRead
  pub trees : TreeIsOne
  pub faults : SpelledHasNoFault
  pub first : FirstIsOne
  pub none : NoneIsFirst

same_tree : Known → (many : Bool) (bytes : Text) (tree tree' : Module) → IsReadAs many bytes tree → IsReadAs many bytes tree' → tree ≡ tree'
same_tree k many bytes tree tree' h h' = k.trees many bytes tree tree' h.spelled h'.spelled

no_fault : Known → (many : Bool) (bytes : Text) → IsBytes bytes → (tree : Module) (fault : ReadFault) → IsReadAs many bytes tree → read_fault bytes many ≡ Some fault → ⊥
no_fault k many bytes are tree fault h found = let e : None ≡ Some fault = sym ((k.faults many bytes are).1 (tree, h.spelled, h.within)) ∙ found in cc

not_first : Known → (many : Bool) (bytes : Text) (tree tree' : Module) (item : Invalid) → IsReadAs many bytes tree → IsAccepted many tree → IsReadAs many bytes tree' → IsFirstInvalid tree' many item → ⊥
not_first k many bytes tree tree' item h accepted h' first =
    let P : Module → Type 0 = λ t. IsFirstInvalid t many item in
    k.none many tree item accepted.valid accepted.single (subst P (same_tree k many bytes tree' tree h' h) first)

loads_once : Known → (many : Bool) (file bytes : Text) → IsBytes bytes → (one other : Result Module Text) → LoadsFile many file bytes one → LoadsFile many file bytes other → one ≡ other
loads_once k many file bytes are one other (loaded tree h accepted) (loaded tree' h' accepted') = ap Ok (same_tree k many bytes tree tree' h h')
loads_once k many file bytes are one other (loaded tree h accepted) (faulty fault text found told) = absurd (no_fault k many bytes are tree fault h found)
loads_once k many file bytes are one other (loaded tree h accepted) (invalid tree' item h' first) = absurd (not_first k many bytes tree tree' item h accepted h' first)
loads_once k many file bytes are one other (faulty fault text found told) (loaded tree h accepted) = absurd (no_fault k many bytes are tree fault h found)
loads_once k many file bytes are one other (faulty fault text found told) (faulty fault' text' found' told') =
    let same : fault ≡ fault' = cc in
    let texts : Some text ≡ Some text' = sym told ∙ ap (fault_text file) same ∙ told' in
    let text_is : text ≡ text' = cc in
    ap Err text_is
loads_once k many file bytes are one other (faulty fault text found told) (invalid tree item h first) = absurd (no_fault k many bytes are tree fault h found)
loads_once k many file bytes are one other (invalid tree item h first) (loaded tree' h' accepted) = absurd (not_first k many bytes tree' tree item h' accepted h first)
loads_once k many file bytes are one other (invalid tree item h first) (faulty fault text found told) = absurd (no_fault k many bytes are tree fault h found)
loads_once k many file bytes are one other (invalid tree item h first) (invalid tree' item' h' first') =
    let P : Module → Type 0 = λ t. IsFirstInvalid t many item in
    ap (λ i. Err (invalid_text file i)) (k.first many tree' item item' (subst P (same_tree k many bytes tree tree' h h') first) first')

-- The contents of all these files are bytes.
abbrev pub AreBytes : List NamedFile → Type 0
AreBytes = Every (λ (e : NamedFile). IsBytes e.1)

decoding_is_unique : Known → (many : Bool) (file bytes : Text) → IsBytes bytes → (tree tree' : Module) → LoadsFile many file bytes (Ok tree) → LoadsFile many file bytes (Ok tree') → tree ≡ tree'
decoding_is_unique reads many file bytes are tree tree' h k = let same : ◌≡◌ {A = Result Module Text} (Ok tree) (Ok tree') = loads_once reads many file bytes are (Ok tree) (Ok tree') h k in cc

two_ways : Known → (many : Bool) (file bytes : Text) → IsBytes bytes → (tree : Module) (text : Text) → LoadsFile many file bytes (Ok tree) → LoadsFile many file bytes (Err text) → ⊥
two_ways reads many file bytes are tree text h k = let same : Ok tree ≡ Err text = loads_once reads many file bytes are (Ok tree) (Err text) h k in cc

-- Files load as the same trees each time, or the same file fails.
trees_once : Known → (many : Bool) (files : List NamedFile) (trees trees' : List Module) → AllLoad many files trees → AllLoad many files trees' → AreBytes files → trees ≡ trees'
trees_once k many [] [] [] h h' are = refl
trees_once k many (file ∷ files) (tree ∷ trees) (tree' ∷ trees') h h' are = ap₂ (λ (t : Module) (ts : List Module). t ∷ ts) (decoding_is_unique k many file.0 file.1 are.0 tree tree' h.0 h'.0) (trees_once k many files trees trees' h.1 h'.1 are.1)
trees_once k many [] [] (tree' ∷ trees') h h' are = absurd h'
trees_once k many [] (tree ∷ trees) trees' h h' are = absurd h
trees_once k many (file ∷ files) [] trees' h h' are = absurd h
trees_once k many (file ∷ files) (tree ∷ trees) [] h h' are = absurd h'

fails_once : Known → (many : Bool) (files : List NamedFile) (text text' : Text) → OneFails many files text → OneFails many files text' → AreBytes files → text ≡ text'
fails_once k many [] text text' h h' are = absurd h
fails_once k many (file ∷ files) text text' (inl h) (inl h') are =
    let same : ◌≡◌ {A = Result Module Text} (Err text) (Err text') = loads_once k many file.0 file.1 are.0 (Err text) (Err text') h h' in cc
fails_once k many (file ∷ files) text text' (inl h) (inr (tree, loads, later)) are = absurd (two_ways k many file.0 file.1 are.0 tree text loads h)
fails_once k many (file ∷ files) text text' (inr (tree, loads, later)) (inl h') are = absurd (two_ways k many file.0 file.1 are.0 tree text' loads h')
fails_once k many (file ∷ files) text text' (inr (tree, loads, later)) (inr (tree', loads', later')) are = fails_once k many files text text' later later' are.1

load_or_fail : Known → (many : Bool) (files : List NamedFile) (trees : List Module) (text : Text) → AllLoad many files trees → OneFails many files text → AreBytes files → ⊥
load_or_fail k many [] trees text h f are = f
load_or_fail k many (file ∷ files) [] text h f are = h
load_or_fail k many (file ∷ files) (tree ∷ trees) text h (inl f) are = two_ways k many file.0 file.1 are.0 tree text h.0 f
load_or_fail k many (file ∷ files) (tree ∷ trees) text h (inr (tree', loads, later)) are = load_or_fail k many files trees text h.1 later are.1

text_once : (one other : Text) → Some one ≡ Some other → one ≡ other
text_once one other e = cc

-- The text of the refusal of parts that do not link is unique.
link_text_once : (files : List Text) (parts : List Part) (many : Bool) (fault fault' : LinkFault) (text text' : Text) → link_fault parts many ≡ Some fault → link_fault parts many ≡ Some fault' → link_text files fault ≡ Some text → link_text files fault' ≡ Some text' → text ≡ text'
link_text_once files parts many fault fault' text text' h h' e e' =
    let both : Some fault ≡ Some fault' = sym h ∙ h' in
    let same : fault ≡ fault' = cc in
    text_once text text' (sym e ∙ ap (link_text files) same ∙ e')

join_text_once : (fault fault' : JoinFault) (text text' : Text) → ◌≡◌ {A = Result Module JoinFault} (Err fault) (Err fault') → join_text fault ≡ Some text → join_text fault' ≡ Some text' → text ≡ text'
join_text_once fault fault' text text' h e e' = let same : fault ≡ fault' = cc in text_once text text' (sym e ∙ ap join_text same ∙ e')

merges_once : (merge : MergeTask) (trees : List Module) (one other : Decision) → Merges merge trees one → Merges merge trees other → one ≡ other
merges_once merge trees one other (not_linked fault text found says) (not_linked fault' text' found' says') =
    ap Refuses (link_text_once (source_files merge) (parts_of merge.sources trees) (many_of (Merge merge)) fault fault' text text' found found' says says')
merges_once merge trees one other (not_linked fault text found says) (not_joined fault' text' linked found' says') = absurd (let both : None ≡ Some fault = sym linked ∙ found in cc)
merges_once merge trees one other (not_linked fault text found says) (merged tree is) = absurd (let both : None ≡ Some fault = sym is.0 ∙ found in cc)
merges_once merge trees one other (not_joined fault text linked found says) (not_linked fault' text' found' says') = absurd (let both : None ≡ Some fault' = sym linked ∙ found' in cc)
merges_once merge trees one other (not_joined fault text linked found says) (not_joined fault' text' linked' found' says') = ap Refuses (join_text_once fault fault' text text' (sym found ∙ found') says says')
merges_once merge trees one other (not_joined fault text linked found says) (merged tree is) = absurd (let both : ◌≡◌ {A = Result Module JoinFault} (Err fault) (Ok tree) = sym found ∙ is.1 in cc)
merges_once merge trees one other (merged tree is) (not_linked fault' text' found' says') = absurd (let both : None ≡ Some fault' = sym is.0 ∙ found' in cc)
merges_once merge trees one other (merged tree is) (not_joined fault' text' linked' found' says') = absurd (let both : ◌≡◌ {A = Result Module JoinFault} (Ok tree) (Err fault') = sym is.1 ∙ found' in cc)
merges_once merge trees one other (merged tree is) (merged tree' is') =
    let both : ◌≡◌ {A = Result Module JoinFault} (Ok tree) (Ok tree') = sym is.1 ∙ is'.1 in
    let same : tree ≡ tree' = cc in
    ap (λ (t : Module). Makes (record { name = merge.output; tree = t; custom = [] } ∷ []) []) same

-- The contents of the first file are bytes.
abbrev pub FirstIsBytes : List Text → Type 0
FirstIsBytes contents = (bytes : Text) (more : List Text) → contents ≡ bytes ∷ more → IsBytes bytes

pub first_is_bytes : (inputs : List NamedFile) → AreBytes inputs → FirstIsBytes (contents_of inputs)
first_is_bytes [] are bytes more e = absurd (cc)
first_is_bytes (x ∷ xs) are bytes more e = let same : x.1 ≡ bytes = cc in subst IsBytes same are.0

decides_once : Known → (t : Task) (trees : List Module) (contents : List Text) → FirstIsBytes contents → (one other : Decision) → Decides t trees contents one → Decides t trees contents other → one ≡ other
decides_once known (Merge merge) trees contents are one other h k = merges_once merge trees one other h k
decides_once known (Metadce metadce) trees contents are one other h k = metadce_once known.marks metadce trees contents one other h k
decides_once known (Split split) trees contents are one other h k = split_once known.names split trees contents are one other h k
decides_once known (CtorEval eval) trees contents are one other h k = eval_once eval trees contents one other h k
decides_once known (Sample sample) trees contents are one other h k = sample_once merges_once sample trees contents one other h k

pub first_are_bytes : (n : ℕ) (files : List NamedFile) → AreBytes files → AreBytes (take n files)
first_are_bytes zero files are = tt
first_are_bytes (suc n) [] are = tt
first_are_bytes (suc n) (file ∷ files) are = (are.0, first_are_bytes n files are.1)

inputs_once : Known → (t : Task) (inputs : List NamedFile) → AreBytes inputs → (one other : Job) → InputsJob t inputs one → InputsJob t inputs other → one ≡ other
inputs_once k t inputs are one other (not_loaded text h) (not_loaded text' h') = ap Refused (fails_once k (many_of t) (module_files t inputs) text text' h h' (first_are_bytes (length (modules_of t)) inputs are))
inputs_once k t inputs are one other (not_loaded text h) (decided trees decision loads d) = absurd (load_or_fail k (many_of t) (module_files t inputs) trees text loads h (first_are_bytes (length (modules_of t)) inputs are))
inputs_once k t inputs are one other (decided trees decision loads d) (not_loaded text h) = absurd (load_or_fail k (many_of t) (module_files t inputs) trees text loads h (first_are_bytes (length (modules_of t)) inputs are))
inputs_once k t inputs are one other (decided trees decision loads d) (decided trees' decision' loads' d') =
    let P : List Module → Type 0 = λ ts. Decides t ts (contents_of inputs) decision in
    let same = trees_once k (many_of t) (module_files t inputs) trees trees' loads loads' (first_are_bytes (length (modules_of t)) inputs are) in
    ap job_of (decides_once k t trees' (contents_of inputs) (first_is_bytes inputs are) decision decision' (subst P same d) d')

task_jobs_once : Known → (t : Task) (files : FileContents) → InputsAreBytes t files → (one other : Job) → TaskJob t files one → TaskJob t files other → one ≡ other
task_jobs_once reads t files hold one other (not_begun text e) (not_begun text' e') =
    let u = sym e ∙ e' in
    let same : text ≡ text' = cc in
    ap Refused same
task_jobs_once reads t files hold one other (not_begun text e) (missing name' b' e') = absurd (let u = sym e ∙ b' in cc)
task_jobs_once reads t files hold one other (not_begun text e) (too_long name' b' e') = absurd (let u = sym e ∙ b' in cc)
task_jobs_once reads t files hold one other (not_begun text e) (all_read inputs' job' b' e' d') = absurd (let u = sym e ∙ b' in cc)
task_jobs_once reads t files hold one other (missing name b e) (not_begun text' e') = absurd (let u = sym b ∙ e' in cc)
task_jobs_once reads t files hold one other (missing name b e) (missing name' b' e') = refl
task_jobs_once reads t files hold one other (missing name b e) (too_long name' b' e') = absurd (let u = sym e ∙ e' in cc)
task_jobs_once reads t files hold one other (missing name b e) (all_read inputs' job' b' e' d') = absurd (let u = sym e ∙ e' in cc)
task_jobs_once reads t files hold one other (too_long name b e) (not_begun text' e') = absurd (let u = sym b ∙ e' in cc)
task_jobs_once reads t files hold one other (too_long name b e) (missing name' b' e') = absurd (let u = sym e ∙ e' in cc)
task_jobs_once reads t files hold one other (too_long name b e) (too_long name' b' e') =
    let u = sym e ∙ e' in
    let same : name ≡ name' = cc in
    ap (λ n. Refused (over_limit n InputBytes)) same
task_jobs_once reads t files hold one other (too_long name b e) (all_read inputs' job' b' e' d') = absurd (let u = sym e ∙ e' in cc)
task_jobs_once reads t files hold one other (all_read inputs job b e d) (not_begun text' e') = absurd (let u = sym b ∙ e' in cc)
task_jobs_once reads t files hold one other (all_read inputs job b e d) (missing name' b' e') = absurd (let u = sym e ∙ e' in cc)
task_jobs_once reads t files hold one other (all_read inputs job b e d) (too_long name' b' e') = absurd (let u = sym e ∙ e' in cc)
task_jobs_once reads t files hold one other (all_read inputs job b e d) (all_read inputs' job' b' e' d') =
    let u = sym e ∙ e' in
    let same : inputs ≡ inputs' = cc in
    inputs_once reads t inputs' (hold inputs' b' e') job job' (let P : List NamedFile → Type 0 = λ l. InputsJob t l job in subst P same d) d'

pub jobs_once : Known → (words : List Text) (files : FileContents) → InputsHoldBytes words files → (one other : Job) → HasJob words files one → HasJob words files other → one ≡ other
jobs_once reads words files hold one other (no_task e) (no_task e') = refl
jobs_once reads words files hold one other (no_task e) (asked t job e' h) = absurd (let u = sym e ∙ e' in cc)
jobs_once reads words files hold one other (asked t job e h) (no_task e') = absurd (let u = sym e ∙ e' in cc)
jobs_once reads words files hold one other (asked t job e h) (asked t' job' e' h') =
    let u = sym e ∙ e' in
    let same : t ≡ t' = cc in
    task_jobs_once reads t' files (hold t' e') job job' (let P : Task → Type 0 = λ x. TaskJob x files job in subst P same h) h'
