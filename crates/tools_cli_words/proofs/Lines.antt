-- The loops that read arguments one by one.
use Rattle.base_lists.proofs.Common.{nat_tests, ◌&&◌, ◌||◌, ◌==◌, is_none, is_some, option_to_list, list_any, ◌≡◌, ◌∙◌, refl, sym, ap, ap₂, ◌++◌, ℕ, suc, ◌+◌, ◌<◌, arith, add-one, map, drop, drop-cons, length, get_or, Bool, true, false, cond, List, [], ◌∷◌, append_assoc, append-nil, Option, Some}
use Rattle.base_lists.proofs.Common.{None, option_map, option_and_then, Bor, nat_list_eq_equiv}
use Rattle.std.specs.Prelude.{unwrap_or, bytes_eq}
use Rattle.std.specs.Option.{option_flatten}
use Rattle.tools_cli_words.specs.Arguments.{Text, Vocabulary, Argument, Value, Flag, Plain, OptionValue, Arguments, behind, long_name, takes_value, next_argument, add_argument, said_from, arguments_of, values_of, only_text, at_most_one}
use Rattle.tools_cli_words.specs.Meaning.{join_arguments, names_of}

-- ---- one more argument ----

abbrev pub arguments_from : Vocabulary → Option Text → List Text → Option Arguments
arguments_from v due words = option_map arguments_of (said_from v due words)

-- Parsed arguments, and then those of more words, if these parse.
abbrev pub and_then_arguments : Arguments → Option Arguments → Option Arguments
and_then_arguments arguments more = option_map (join_arguments arguments) more

wants_value : (v : Vocabulary) (word : Text) (rest : List Text) → takes_value v.options word ≡ true → said_from v None (word ∷ rest) ≡ said_from v (Some (long_name word)) rest
wants_value v word rest e = rw e refl

says_next : (v : Vocabulary) (due : Option Text) (word : Text) (rest : List Text) → (due ≡ None → takes_value v.options word ≡ false)
    → said_from v due (word ∷ rest) ≡ add_argument (next_argument v due word) (said_from v None rest)
says_next v (Some option) word rest h = refl
says_next v None word rest h = let e = h refl in rw e refl

join_first : (said : Argument) (more : Option (List Argument)) → option_map arguments_of (add_argument (Some said) more) ≡ and_then_arguments (arguments_of (said ∷ [])) (option_map arguments_of more)
join_first (Value option value) None = refl
join_first (Flag word) None = refl
join_first (Plain word) None = refl
join_first (Value option value) (Some more) = refl
join_first (Flag word) (Some more) = refl
join_first (Plain word) (Some more) = refl

join_more : (a b : Arguments) (more : Option Arguments) → and_then_arguments a (and_then_arguments b more) ≡ and_then_arguments (join_arguments a b) more
join_more a b None = refl
join_more a b (Some c) = simp append_assoc

add_nothing : (more : Option (List Argument)) → add_argument None more ≡ None
add_nothing None = refl
add_nothing (Some more) = refl

pub none_before : (more : Option Arguments) → and_then_arguments (arguments_of []) more ≡ more
none_before None = refl
none_before (Some arguments) = refl

-- The words from a position on are the word there and those after it.
pub words_at : {A B : Type 0} (f : A → B) (xs : List A) (i : ℕ) (x : A) → i < length xs → x ≡ get_or xs i x → map f (drop i xs) ≡ f x ∷ map f (drop (i + 1) xs)
words_at f xs i x lt is = rw add-one (ap (map f) (drop-cons xs i x lt) ∙ ap (λ y. f y ∷ map f (drop (suc i) xs)) (sym is))

pub none_behind : (v : Vocabulary) (arguments : Arguments) → and_then_arguments arguments (arguments_from v None []) ≡ Some arguments
none_behind v arguments = simp append-nil

-- A word begins no option if it fails the test and no option needs its value.
pub fresh_word : (due : Option (Bor Text)) (b : Bool) → (is_none due && b) ≡ false → option_map (λ o. o.now) due ≡ None → b ≡ false
fresh_word None b e none = e
fresh_word (Some x) b e none = absurd (cc)

-- A word that passes the test begins an option, and no option needs its value.
pub begun_word : (due : Option (Bor Text)) (b : Bool) → (is_none due && b) ≡ true → (option_map (λ o. o.now) due ≡ None) × (b ≡ true)
begun_word None b e = (refl, e)
begun_word (Some x) b e = absurd (cc)

-- An iteration over an option whose value is the next word.
pub now_due : (v : Vocabulary) (arguments : Arguments) (whole : Option Arguments) (word : Text) (rest : List Text) → takes_value v.options word ≡ true
    → whole ≡ and_then_arguments arguments (arguments_from v None (word ∷ rest)) → whole ≡ and_then_arguments arguments (arguments_from v (Some (long_name word)) rest)
now_due v arguments whole word rest e h = h ∙ ap (λ o. and_then_arguments arguments (option_map arguments_of o)) (wants_value v word rest e)

-- A word that does not parse makes all words fail to parse.
pub wrong_word : (v : Vocabulary) (due : Option Text) (arguments : Arguments) (whole : Option Arguments) (word : Text) (rest : List Text) → (due ≡ None → takes_value v.options word ≡ false)
    → next_argument v due word ≡ None
    → whole ≡ and_then_arguments arguments (arguments_from v due (word ∷ rest)) → whole ≡ None
wrong_word v due arguments whole word rest test e h =
    h ∙ ap (λ o. and_then_arguments arguments (option_map arguments_of o)) (says_next v due word rest test ∙ ap (λ o. add_argument o (said_from v None rest)) e ∙ add_nothing (said_from v None rest))

-- An iteration over a word that parses adds its argument.
pub right_word : (v : Vocabulary) (due : Option Text) (arguments : Arguments) (whole : Option Arguments) (word : Text) (said : Argument) (rest : List Text)
    → (due ≡ None → takes_value v.options word ≡ false) → next_argument v due word ≡ Some said
    → whole ≡ and_then_arguments arguments (arguments_from v due (word ∷ rest)) → whole ≡ and_then_arguments (join_arguments arguments (arguments_of (said ∷ []))) (arguments_from v None rest)
right_word v due arguments whole word said rest test e h =
    h
    ∙ ap (λ o. and_then_arguments arguments (option_map arguments_of o)) (says_next v due word rest test ∙ ap (λ o. add_argument o (said_from v None rest)) e)
    ∙ ap (and_then_arguments arguments) (join_first said (said_from v None rest))
    ∙ join_more arguments (arguments_of (said ∷ [])) (arguments_from v None rest)

-- ---- values and words that are looked up ----

-- The value of an option that may be absent: the one found so far, or one among more values.
abbrev pub found_then : Option (Bor Text) → List Text → Option (Option Text)
found_then found more = at_most_one (option_to_list (option_map (λ t. t.now) found) ++ more)

pub found_again : (option : Text) (found : Option (Bor Text)) (v : OptionValue) (rest : List OptionValue) (whole : Option (Option Text)) → is_some found ≡ true → bytes_eq v.option option ≡ true
    → found_then found (values_of option (v ∷ rest)) ≡ whole → None ≡ whole
found_again option None v rest whole some is e = absurd (cc)
found_again option (Some x) v rest whole some is e = ap (λ b. at_most_one (x.now ∷ cond b (v.value ∷ values_of option rest) (values_of option rest))) (sym is) ∙ e

pub found_first : (option : Text) (found : Option (Bor Text)) (value : Bor Text) (v : OptionValue) (rest : List OptionValue) (whole : Option (Option Text)) → is_some found ≡ false
    → bytes_eq v.option option ≡ true → value.now ≡ v.value
    → found_then found (values_of option (v ∷ rest)) ≡ whole → found_then (Some value) (values_of option rest) ≡ whole
found_first option (Some x) value v rest whole none is same e = absurd (cc)
found_first option None value v rest whole none is same e = ap (λ x. at_most_one (x ∷ values_of option rest)) same
    ∙ ap (λ b. at_most_one (cond b (v.value ∷ values_of option rest) (values_of option rest))) (sym is) ∙ e

pub passed_value : (option : Text) (found : Option (Bor Text)) (v : OptionValue) (rest : List OptionValue) (whole : Option (Option Text)) → bytes_eq v.option option ≡ false
    → found_then found (values_of option (v ∷ rest)) ≡ whole → found_then found (values_of option rest) ≡ whole
passed_value option found v rest whole is e = ap (λ b. found_then found (cond b (v.value ∷ values_of option rest) (values_of option rest))) (sym is) ∙ e

pub all_found : (found : Option (Bor Text)) (whole : Option (Option Text)) → found_then found [] ≡ whole → Some (option_map (λ t. t.now) found) ≡ whole
all_found None whole e = e
all_found (Some x) whole e = e

pub only_from : (r : Option (Option (Bor Text))) (values : List Text) → option_map (option_map (λ t. t.now)) r ≡ at_most_one values → option_map (λ t. t.now) (option_flatten r) ≡ only_text values
only_from None [] e = absurd (cc)
only_from (Some None) [] e = refl
only_from (Some (Some x)) [] e = absurd (cc)
only_from None (v ∷ []) e = absurd (cc)
only_from (Some None) (v ∷ []) e = absurd (cc)
only_from (Some (Some x)) (v ∷ []) e = cc
only_from None (v ∷ w ∷ values) e = refl
only_from (Some r) (v ∷ w ∷ values) e = absurd (cc)

-- The loop has taken all words when none is left.
pub all_taken : (words whole : List Text) (rest : List (Bor Text)) → length rest ≡ 0 → words ++ names_of rest ≡ whole → words ≡ whole
all_taken words whole [] none e = sym (append-nil words) ∙ e
all_taken words whole (x ∷ rest) none e = absurd (omega arith)

pub one_taken : (words more whole : List Text) (word : Text) (x : Bor Text) (items rest : List (Bor Text)) → more ≡ words ++ word ∷ [] → word ≡ x.now → items ≡ x ∷ rest
    → words ++ names_of items ≡ whole → more ++ names_of rest ≡ whole
one_taken words more whole word x items rest added same first e =
    ap (λ l. l ++ names_of rest) added ∙ append_assoc words (word ∷ []) (names_of rest) ∙ ap (λ w. words ++ w ∷ names_of rest) same ∙ ap (λ l. words ++ names_of l) (sym first) ∙ e

-- The test whether a word is among others does not depend on the order of comparison.
pub any_from_either : (word : Text) (words : List (Bor Text)) → list_any (λ w. bytes_eq w.now word) words ≡ list_any (bytes_eq word) (names_of words)
any_from_either word [] = refl
any_from_either word (w ∷ words) = ap₂ (λ a b. a || b) (nat_list_eq_equiv.symm w.now word) (any_from_either word words)

-- The rest of a text after its beginning.
pub behind_found : (beginning text rest : Text) → text ≡ beginning ++ rest → behind beginning text ≡ Some rest
behind_found [] text rest e = ap Some e
behind_found (c ∷ beginning) [] rest e = absurd (cc)
behind_found (c ∷ beginning) (d ∷ text) rest e =
    let first : c ≡ d = cc in
    let more : text ≡ beginning ++ rest = cc in
    let test : (c == d) ≡ true = grind (arith, nat_tests) in
    ap (λ b. cond b (behind beginning text) None) test ∙ behind_found beginning text rest more

pub behind_lacks : (beginning text : Text) → ((rest : Text) → text ≡ beginning ++ rest → ⊥) → behind beginning text ≡ None
behind_lacks [] text lacks = absurd (lacks text refl)
behind_lacks (c ∷ beginning) [] lacks = refl
behind_lacks (c ∷ beginning) (d ∷ text) lacks = by (c == d) refl (λ more. behind_lacks beginning text more)
  where
    by : (b : Bool) → (c == d) ≡ b → (((rest : Text) → text ≡ beginning ++ rest → ⊥) → behind beginning text ≡ None) → cond b (behind beginning text) None ≡ None
    by true e later = let same : d ≡ c = grind (arith, nat_tests) in later (λ rest is. lacks rest (ap₂ (λ (x : ℕ) (xs : Text). x ∷ xs) same is))
    by false e later = refl
