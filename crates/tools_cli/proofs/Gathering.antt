-- Files that are read in order.
use Rattle.base_lists.proofs.Common.{◌≡◌, ◌∙◌, sym, refl, ap, subst, ℕ, zero, suc, ◌+◌, ◌-◌, ◌≤◌, ◌<◌, ltb, min, arith, List, [], ◌∷◌, ◌++◌, length, get_or, take, drop, map, append_assoc, add-one, Option, Some, None, option_map, Contains, IfSome, true, false, cond, take_all, drop_all, map-append}
use Rattle.base_lists.proofs.Common.{nat_tests}
use Rattle.std.proofs.Common.{Bor}
use Rattle.std.proofs.lemmas.List.{length-take}
use Rattle.tools_cli.proofs.Pieces.{append-nil}
use Rattle.std.proofs.Math.Seq.{drop-cons}
use Rattle.tool_io.specs.FilesAndSinks.{FileContents, first_bytes}
use Rattle.tools_cli_spec.specs.Prelude.{Text, Gathered, Whole, Lacks, TooLong, add_first, add_file, gathered, over_limit, NamedFile}
use Rattle.tools_cli_decide.specs.Prelude.{total, names_of, input_entry, input_entries}
use Rattle.wasm_tree_spec.specs.Prelude.{InputBytes}
use Rattle.tools_cli_spec.specs.Turns.{turns, turns_after}
use Rattle.tools_cli_decide.specs.declared.input.Input.{Input}

-- The name at a place past the end of a list.
unfoldable pub no_word : Bor Text
no_word = record { ref_ptr = (0, 0); now = [] }

-- The files that were read before, followed by the rest.
abbrev pub add_all : List NamedFile → Gathered → Gathered
add_all read (Whole rest) = Whole (read ++ rest)
add_all read (Lacks name) = Lacks name
add_all read (TooLong name) = TooLong name

add_all-add_first : (read : List NamedFile) (file : NamedFile) (g : Gathered) → add_all read (add_first file g) ≡ add_all (read ++ file ∷ []) g
add_all-add_first read file (Whole rest) = ap Whole (sym (append_assoc read (file ∷ []) rest))
add_all-add_first read file (Lacks name) = refl
add_all-add_first read file (TooLong name) = refl

some_is : {A : Type 0} (x y : A) → Some x ≡ Some y → x ≡ y
some_is x y e = cc

-- A read of one byte more than the room that is left gave the whole file if the result fits that
-- room.
read_whole : (o : Option Text) (left : ℕ) (bytes : Text) → option_map (take (left + 1)) o ≡ Some bytes → length bytes ≤ left → o ≡ Some bytes
read_whole None left bytes e h = e
read_whole (Some all) left bytes e h =
    let same : take (left + 1) all ≡ bytes = some_is _ _ e in
    let count : length bytes ≡ min (left + 1) (length all) = ap length (sym same) ∙ length-take (left + 1) all in
    let short : length all ≤ left + 1 = omega arith in
    ap Some (sym (take_all (left + 1) all short) ∙ same)

ltb_true : (m n : ℕ) → m < n → ltb m n ≡ true
ltb_true m n h = grind (arith, nat_tests)

ltb_false : (m n : ℕ) → n ≤ m → ltb m n ≡ false
ltb_false m n h = grind (arith, nat_tests)

-- A file is too long if such a read gave more than the room.
read_long : (o : Option Text) (name : Text) (left : ℕ) (bytes : Text) (rest : ℕ → Gathered) → option_map (take (left + 1)) o ≡ Some bytes → left < length bytes → add_file name left o rest ≡ TooLong name
read_long None name left bytes rest e h = cc
read_long (Some all) name left bytes rest e h =
    let same : take (left + 1) all ≡ bytes = some_is _ _ e in
    let count : length bytes ≡ min (left + 1) (length all) = ap length (sym same) ∙ length-take (left + 1) all in
    let long : left < length all = omega arith in
    ap (λ b. cond b (TooLong name) (add_first (name, all) (rest (left - length all)))) (ltb_true left (length all) long)

-- A file that fits is gathered, and the others follow.
add_file_fits : (name : Text) (left : ℕ) (bytes : Text) (rest : ℕ → Gathered) → length bytes ≤ left → add_file name left (Some bytes) rest ≡ add_first (name, bytes) (rest (left - length bytes))
add_file_fits name left bytes rest h = ap (λ b. cond b (TooLong name) (add_first (name, bytes) (rest (left - length bytes)))) (ltb_false left (length bytes) h)

turns_fits : (left : ℕ) (bytes : Text) (rest : ℕ → List Text) → length bytes ≤ left → turns_after left (Some bytes) rest ≡ rest (left - length bytes)
turns_fits left bytes rest h = ap (λ b. cond b [] (rest (left - length bytes))) (ltb_false left (length bytes) h)

-- The names from a place on are the name there and the names behind it.
pub names-drop : (names : List (Bor Text)) (i : ℕ) (d : Bor Text) → i < length names → names_of (drop i names) ≡ (get_or names i d).now ∷ names_of (drop (i + 1) names)
names-drop names i d h = rw add-one (ap names_of (drop-cons names i d h))

-- The gathered files are those read so far and the rest, also after one more file.
pub one_file_more : (o : Option FileContents) (names : List (Bor Text)) (i : ℕ) (d : Bor Text) (most left : ℕ) (read : List NamedFile) (bytes : Text) → i < length names
    → IfSome o (λ held. gathered (names_of names) held most ≡ add_all read (gathered (names_of (drop i names)) held left))
    → IfSome o (λ held. first_bytes held (get_or names i d).now (left + 1) ≡ Some bytes)
    → length bytes ≤ left
    → IfSome o (λ held. gathered (names_of names) held most ≡ add_all (read ++ ((get_or names i d).now, bytes) ∷ []) (gathered (names_of (drop (i + 1) names)) held (left - length bytes)))
one_file_more None names i d most left read bytes h before got fits = tt
one_file_more (Some held) names i d most left read bytes h before got fits =
    before
    ∙ ap (λ ns. add_all read (gathered ns held left)) (names-drop names i d h)
    ∙ ap (λ o. add_all read (add_file (get_or names i d).now left o (gathered (names_of (drop (i + 1) names)) held))) (read_whole _ left bytes got fits)
    ∙ ap (add_all read) (add_file_fits (get_or names i d).now left bytes (gathered (names_of (drop (i + 1) names)) held) fits)
    ∙ add_all-add_first read ((get_or names i d).now, bytes) _

-- Gathering gives the next file as too long if it is.
pub too_long : (o : Option FileContents) (names : List (Bor Text)) (i : ℕ) (d : Bor Text) (most left : ℕ) (read : List NamedFile) (bytes : Text) → i < length names
    → IfSome o (λ held. gathered (names_of names) held most ≡ add_all read (gathered (names_of (drop i names)) held left))
    → IfSome o (λ held. first_bytes held (get_or names i d).now (left + 1) ≡ Some bytes)
    → left < length bytes
    → IfSome o (λ held. gathered (names_of names) held most ≡ TooLong (get_or names i d).now)
too_long None names i d most left read bytes h before got long = tt
too_long (Some held) names i d most left read bytes h before got long =
    before
    ∙ ap (λ ns. add_all read (gathered ns held left)) (names-drop names i d h)
    ∙ ap (add_all read) (read_long _ (get_or names i d).now left bytes (gathered (names_of (drop (i + 1) names)) held) got long)

-- The refusal tells the file that is too long.
pub too_long_told : (o : Option FileContents) (names : List (Bor Text)) (i : ℕ) (d : Bor Text) (most left : ℕ) (read : List NamedFile) (bytes text : Text) → i < length names
    → IfSome o (λ held. gathered (names_of names) held most ≡ add_all read (gathered (names_of (drop i names)) held left))
    → IfSome o (λ held. first_bytes held (get_or names i d).now (left + 1) ≡ Some bytes)
    → left < length bytes → text ≡ over_limit (get_or names i d).now InputBytes
    → IfSome o (λ held. (name : Text) × (gathered (names_of names) held most ≡ TooLong name) × (text ≡ over_limit name InputBytes))
too_long_told None names i d most left read bytes text h before got long is = tt
too_long_told (Some held) names i d most left read bytes text h before got long is =
    ((get_or names i d).now, too_long (Some held) names i d most left read bytes h before got long, is)

-- The files that are read are all gathered files once each name was read.
pub all_files : (o : Option FileContents) (names : List (Bor Text)) (i most left : ℕ) (read : List NamedFile) → length names ≤ i
    → IfSome o (λ held. gathered (names_of names) held most ≡ add_all read (gathered (names_of (drop i names)) held left))
    → IfSome o (λ held. gathered (names_of names) held most ≡ Whole read)
all_files None names i most left read h before = tt
all_files (Some held) names i most left read h before =
    before ∙ ap (λ ns. add_all read (gathered (names_of ns) held left)) (drop_all i names h) ∙ ap Whole (append-nil read)

-- The names whose turn comes when files are gathered from a place on have their turn in the whole
-- gathering too.
abbrev pub AreTurns : List (Bor Text) → ℕ → ℕ → ℕ → FileContents → Type 0
AreTurns names i most left held = (name : Text) → Contains (turns (names_of (drop i names)) held left) name → Contains (turns (names_of names) held most) name

pub contains_first : (x : Text) (xs : List Text) → Contains (x ∷ xs) x
contains_first x xs = (0, omega arith, refl)

pub contains_later : (x : Text) (xs : List Text) (y : Text) → Contains xs y → Contains (x ∷ xs) y
contains_later x xs y (k, h, e) = (suc k, omega arith, e)

pub one_turn_more : (o : Option FileContents) (names : List (Bor Text)) (i : ℕ) (d : Bor Text) (most left : ℕ) (bytes : Text) → i < length names
    → IfSome o (AreTurns names i most left)
    → IfSome o (λ held. first_bytes held (get_or names i d).now (left + 1) ≡ Some bytes)
    → length bytes ≤ left
    → IfSome o (AreTurns names (i + 1) most (left - length bytes))
one_turn_more None names i d most left bytes h before got fits = tt
one_turn_more (Some held) names i d most left bytes h before got fits = λ name later.
    let rest = turns (names_of (drop (i + 1) names)) held in
    before name
    (let P : List Text → Type 0 = λ ns. Contains (turns ns held left) name in
    let Q : Option Text → Type 0 = λ o. Contains ((get_or names i d).now ∷ turns_after left o rest) name in
    subst P (sym (names-drop names i d h))
    (subst Q (sym (read_whole _ left bytes got fits))
    (contains_later (get_or names i d).now _ name
    (let R : List Text → Type 0 = λ l. Contains l name in subst R (sym (turns_fits left bytes rest fits)) later))))

pub this_turn : (o : Option FileContents) (names : List (Bor Text)) (i : ℕ) (d : Bor Text) (most left : ℕ) → i < length names
    → IfSome o (AreTurns names i most left)
    → IfSome o (λ held. Contains (turns (names_of names) held most) (get_or names i d).now)
this_turn None names i d most left h before = tt
this_turn (Some held) names i d most left h before =
    before (get_or names i d).now
    (let P : List Text → Type 0 = λ ns. Contains (turns ns held left) (get_or names i d).now in
    subst P (sym (names-drop names i d h)) (contains_first (get_or names i d).now _))

pub contains_name : (names : List (Bor Text)) (i : ℕ) (d : Bor Text) → i < length names → Contains (names_of names) (get_or names i d).now
contains_name [] i d h = absurd (omega arith)
contains_name (x ∷ names) zero d h = contains_first x.now (names_of names)
contains_name (x ∷ names) (suc i) d h = contains_later x.now (names_of names) _ (contains_name names i d (omega arith))

-- The files that were read, extended by one file.
pub same_read : (o : Option FileContents) (names : List (Bor Text)) (i most left : ℕ) (read : List Input) (input : Input)
    → IfSome o (λ held. gathered (names_of names) held most ≡ add_all (input_entries read ++ input_entry input ∷ []) (gathered (names_of (drop i names)) held left))
    → IfSome o (λ held. gathered (names_of names) held most ≡ add_all (input_entries (read ++ input ∷ [])) (gathered (names_of (drop i names)) held left))
same_read o names i most left read input h = rw (map-append input_entry read (input ∷ [])) h

-- The names of the files that were read.
abbrev pub read_names : List NamedFile → List Text
read_names entries = map (λ e. e.0) entries

-- The names of the files that were read, extended by one name.
pub one_name_more : (names : List (Bor Text)) (i : ℕ) (d : Bor Text) (read : List Input) (input : Input) → i < length names
    → input.name.now ≡ (get_or names i d).now
    → names_of names ≡ read_names (input_entries read) ++ names_of (drop i names)
    → names_of names ≡ read_names (input_entries (read ++ input ∷ [])) ++ names_of (drop (i + 1) names)
one_name_more names i d read input h same before =
    before
    ∙ ap (λ l. read_names (input_entries read) ++ l) (names-drop names i d h ∙ ap (λ n. n ∷ names_of (drop (i + 1) names)) (sym same))
    ∙ sym (append_assoc (read_names (input_entries read)) (input.name.now ∷ []) (names_of (drop (i + 1) names)))
    ∙ ap (λ l. l ++ names_of (drop (i + 1) names))
    (sym (ap read_names (map-append input_entry read (input ∷ [])) ∙ map-append (λ e. e.0) (input_entries read) (input_entry input ∷ [])))

-- The names of the files that were read are all names once each was read.
pub all_names : (names : List (Bor Text)) (i : ℕ) (read : List Input) → length names ≤ i
    → names_of names ≡ read_names (input_entries read) ++ names_of (drop i names)
    → read_names (input_entries read) ≡ names_of names
all_names names i read h before =
    sym (before ∙ ap (λ ns. read_names (input_entries read) ++ names_of ns) (drop_all i names h) ∙ append-nil _)

-- The total length of files is the sum over both lists.
total-append : (xs ys : List NamedFile) → total (xs ++ ys) ≡ total xs + total ys
total-append [] ys = let same : total ys ≡ 0 + total ys = omega arith in same
total-append (x ∷ xs) ys = let more : total (xs ++ ys) ≡ total xs + total ys = total-append xs ys in omega arith

pub one_total_more : (read : List Input) (input : Input) (left most : ℕ) → total (input_entries read) + left ≡ most → length input.bytes.items ≤ left
    → total (input_entries (read ++ input ∷ [])) + (left - length input.bytes.items) ≡ most
one_total_more read input left most before fits =
    let more : total (input_entries (read ++ input ∷ [])) ≡ total (input_entries read) + (length input.bytes.items + 0) = ap total (map-append input_entry read (input ∷ [])) ∙ total-append (input_entries read) (input_entry input ∷ []) in
    omega arith
