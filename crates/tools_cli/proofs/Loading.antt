-- Files that are loaded one after another.
use Rattle.tools_cli_decide.specs.Prelude.{StopsWith, refusal_text}
use Rattle.tools_cli_decide.specs.declared.stop.Stop.{Stop}
use Rattle.tools_cli_decide.specs.declared.stop.Stop.TheVariants as stop
use Rattle.base_lists.proofs.Common.{◌≡◌, ◌∙◌, sym, refl, ap, subst, ◌⊎◌, inl, inr, Bool, false, Some, Result, Ok, Err, ℕ, zero, suc, ◌+◌, ◌<◌, ◌≤◌, ◌^◌, List, [], ◌∷◌, ◌++◌, append-nil, add-one, drop, drop-cons, length, get_or, arith, drop_all}
use Rattle.base_lists.specs.Every.{Every}
use Rattle.tools_cli_spec.specs.Prelude.{Text, LoadsFile, faulty, invalid, loaded, IsReadAs, IsAccepted, AllLoad, OneFails, most_input, NamedFile, fault_text}
use Rattle.tools_cli_decide.specs.Prelude.{total, IsWithinLimits, input_entry, input_entries}
use Rattle.wasm_tree_spec.specs.Prelude.{Module}
use Rattle.wasm_read_spec.specs.declared.fault.ReadFault.{ReadFault}
use Rattle.wasm_read_spec.specs.declared.fault.ReadFault.TheVariants.{NoMemory}
use Rattle.wasm_read_spec.specs.Prelude.{read_fault}
use Rattle.tools_cli.specs.Causes.{InvalidText}
use Rattle.tools_cli_decide.specs.declared.input.Input.{Input}
use Rattle.tools_cli.proofs.Limits.{read_within}

-- A property of the text of a stop implies a weaker one.
pub stops_weaker : (P Q : Text → Type 0) → ((text : Text) → P text → Q text) → (s : Stop) → StopsWith P s → StopsWith Q s
stops_weaker P Q f (stop.Refused refusal) h = f (refusal_text refusal) h
stops_weaker P Q f stop.NoMemory h = tt
stops_weaker P Q f (stop.Usage line) h = absurd h
stops_weaker P Q f (stop.CannotRead r) h = absurd h
stops_weaker P Q f (stop.CannotWrite r) h = absurd h
stops_weaker P Q f stop.CannotPrint h = absurd h

-- ---- one file more ----

entries_at : (inputs : List Input) (i : ℕ) (x : Input) → i < length inputs → x ≡ get_or inputs i x → input_entries (drop i inputs) ≡ input_entry x ∷ input_entries (drop (i + 1) inputs)
entries_at inputs i x lt is = rw add-one (ap input_entries (drop-cons inputs i x lt) ∙ ap (λ y. input_entry y ∷ input_entries (drop (suc i) inputs)) (sym is))

-- The invariant of loading: all files load if the rest loads, and one of all fails if one of the
-- rest fails.
abbrev pub LoadSoFar : List Input → ℕ → List Module → Type 0
LoadSoFar inputs i trees = (rest : List Module) → AllLoad false (input_entries (drop i inputs)) rest → AllLoad false (input_entries inputs) (trees ++ rest)

abbrev pub FailLater : List Input → ℕ → Type 0
FailLater inputs i = (text : Text) → OneFails false (input_entries (drop i inputs)) text → OneFails false (input_entries inputs) text

pub all_load : (inputs : List Input) (i : ℕ) (trees : List Module) → length inputs ≤ i → LoadSoFar inputs i trees → AllLoad false (input_entries inputs) trees
all_load inputs i trees over h =
    let P : List Input → Type 0 = λ l. AllLoad false (input_entries l) [] in
    let Q : List Module → Type 0 = AllLoad false (input_entries inputs) in
    subst Q (append-nil trees) (h [] (subst P (sym (drop_all i inputs over)) tt))

pub fails_here : (inputs : List Input) (i : ℕ) (x : Input) → i < length inputs → x ≡ get_or inputs i x → FailLater inputs i → (text : Text) → LoadsFile false x.name.now x.bytes.items (Err text) → OneFails false (input_entries inputs) text
fails_here inputs i x lt is later text h =
    let P : List NamedFile → Type 0 = λ l. OneFails false l text in
    later text (subst P (sym (entries_at inputs i x lt is)) (inl h))

-- Each file is within the limit of all files together.
pub short_input : (inputs : List Input) (i : ℕ) (x : Input) → i < length inputs → x ≡ get_or inputs i x → total (input_entries inputs) ≤ most_input → length x.bytes.items < 2 ^ 32
short_input [] i x lt is room = absurd (omega arith)
short_input (y ∷ ys) zero x lt is room = let same : length x.bytes.items ≡ length y.bytes.items = ap (λ (j : Input). length j.bytes.items) is in omega arith
short_input (y ∷ ys) (suc i) x lt is room = short_input ys i x (omega arith) is (omega arith)

-- A file that cannot be read is refused with the text of its first fault.
pub faulty_from : (file bytes seen text : Text) (fault : ReadFault) → seen ≡ bytes → (fault ≡ NoMemory) ⊎ (read_fault seen false ≡ Some fault) → fault_text file fault ≡ Some text → LoadsFile false file bytes (Err text)
faulty_from file bytes seen text fault e (inl none) told = let no_text : fault_text file NoMemory ≡ Some text = ap (fault_text file) (sym none) ∙ told in cc
faulty_from file bytes seen text fault e (inr found) told = faulty fault text (ap (λ b. read_fault b false) (sym e) ∙ found) told

pub loaded_from : (file bytes : Text) (tree valid : Module) → IsReadAs false bytes tree → (valid ≡ tree) × IsAccepted false tree → LoadsFile false file bytes (Ok valid)
loaded_from file bytes tree valid reads (same, accepted) = rw same (loaded tree reads accepted)

pub invalid_from : (file bytes : Text) (tree : Module) → IsReadAs false bytes tree → (text : Text) → InvalidText file tree text → LoadsFile false file bytes (Err text)
invalid_from file bytes tree reads text (item, first, told) = rw told (invalid tree item reads first)

pub inputs_once : (inputs : List Input) → length (input_entries inputs) ≡ length inputs
inputs_once [] = refl
inputs_once (x ∷ xs) = ap suc (inputs_once xs)

-- ---- what is known of modules that are loaded ----

loaded_within : (many : Bool) (file bytes : Text) (r : Result Module Text) (tree : Module) → r ≡ Ok tree → LoadsFile many file bytes r → IsWithinLimits tree
loaded_within many file bytes r tree e (loaded other h accepted) = let same : other ≡ tree = cc in subst IsWithinLimits same (read_within many bytes other h)
loaded_within many file bytes r tree e (faulty fault text found told) = absurd (cc)
loaded_within many file bytes r tree e (invalid other item h first) = absurd (cc)

pub loads_within : (many : Bool) (files : List NamedFile) (trees : List Module) → AllLoad many files trees → Every IsWithinLimits trees
loads_within many [] [] h = tt
loads_within many [] (tree ∷ trees) h = absurd h
loads_within many (file ∷ files) [] h = absurd h
loads_within many (file ∷ files) (tree ∷ trees) h = (loaded_within many file.0 file.1 (Ok tree) tree refl h.0, loads_within many files trees h.1)
