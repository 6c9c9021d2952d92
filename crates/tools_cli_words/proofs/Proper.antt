-- Parsed arguments have only options and flags of the vocabulary.
use Rattle.base_lists.proofs.Common.{◌≡◌, ◌∙◌, refl, sym, ap, subst, Bool, true, false, cond, List, [], ◌∷◌, Option, Some, None, option_map, option_and_then, codes, IfSome, ◌||◌, list_any, option_or, bytes_eq, nat_list_eq_equiv, right_either}
use Rattle.base_lists.specs.Every.{Every}
use Rattle.tools_cli_words.specs.Arguments.{Text, Vocabulary, Argument, Value, Flag, Plain, OptionValue, Arguments, is_plain, behind, long_name, takes_value, own_value, some_value, value_behind, joined_value, other_word, next_argument, add_argument, said_from, arguments_of, add_to_arguments}

abbrev IsOf : Vocabulary → Argument → Type 0
IsOf v (Value option value) = list_any (bytes_eq option) v.options ≡ true
IsOf v (Flag flag) = list_any (bytes_eq flag) v.flags ≡ true
IsOf v (Plain word) = is_plain word ≡ true

-- The options and flags are those of the vocabulary, and the positional arguments can be
-- positional.
abbrev pub IsProper : Vocabulary → Arguments → Type 0
IsProper v said = Every (λ (w : OptionValue). list_any (bytes_eq w.option) v.options ≡ true) said.values × Every (λ flag. list_any (bytes_eq flag) v.flags ≡ true) said.flags × Every
    (λ word. is_plain word ≡ true) said.plain

own_proper : (v : Vocabulary) (option word : Text) → list_any (bytes_eq option) v.options ≡ true → IfSome (own_value option word) (IsOf v)
own_proper v option word h = by (is_plain word)
  where
    by : (b : Bool) → IfSome (cond b (Some (Value option word)) None) (IsOf v)
    by true = h
    by false = tt

-- The argument is an option with its value, and the option is one of these.
abbrev IsAmong : List Text → Argument → Type 0
IsAmong options (Value option value) = list_any (bytes_eq option) options ≡ true
IsAmong options (Flag flag) = ⊥
IsAmong options (Plain word) = ⊥

some_among : (options : List Text) (option : Text) → list_any (bytes_eq option) options ≡ true → (value : Text) → IfSome (some_value option value) (IsAmong options)
some_among options option h [] = tt
some_among options option h (c ∷ value) = h

behind_among : (options : List Text) (option : Text) → list_any (bytes_eq option) options ≡ true → (rest : Option Text) → IfSome (option_and_then (value_behind option) rest) (IsAmong options)
behind_among options option h None = tt
behind_among options option h (Some rest) = by (behind (codes "=") rest)
  where
    by : (o : Option Text) → IfSome (option_and_then (some_value option) o) (IsAmong options)
    by None = tt
    by (Some value) = some_among options option h value

or_among : (options : List Text) (a b : Option Argument) → IfSome a (IsAmong options) → IfSome b (IsAmong options) → IfSome (option_or a b) (IsAmong options)
or_among options None b h k = k
or_among options (Some a) b h k = h

joined_among : (options : List Text) (word : Text) (all : List Text) → ((option : Text) → list_any (bytes_eq option) options ≡ true → list_any (bytes_eq option) all ≡ true)
    → IfSome (joined_value options word) (IsAmong all)
joined_among [] word all h = tt
joined_among (option ∷ options) word all h =
    let first : list_any (bytes_eq option) all ≡ true = h option (ap (λ b. b || list_any (bytes_eq option) options) (nat_list_eq_equiv.refl option)) in
    or_among all (option_and_then (value_behind option) (behind option word)) (joined_value options word) (behind_among all option first (behind option word))
    (joined_among options word all (λ other e. h other (right_either (bytes_eq other option) (list_any (bytes_eq other) options) e)))

among_proper : (v : Vocabulary) (o : Option Argument) → IfSome o (IsAmong v.options) → IfSome o (IsOf v)
among_proper v None h = tt
among_proper v (Some (Value option value)) h = h
among_proper v (Some (Flag flag)) h = absurd h
among_proper v (Some (Plain word)) h = absurd h

other_proper : (v : Vocabulary) (word : Text) → IfSome (other_word v word) (IsOf v)
other_proper v word = by (is_plain word) refl (list_any (bytes_eq word) v.flags) refl
  where
    by : (a : Bool) → is_plain word ≡ a → (b : Bool) → list_any (bytes_eq word) v.flags ≡ b → IfSome (cond a (Some (Plain word)) (cond b (Some (Flag word)) (joined_value v.options word))) (IsOf v)
    by true h b k = h
    by false h true k = k
    by false h false k = among_proper v (joined_value v.options word) (joined_among v.options word v.options (λ option e. e))

added_proper : (v : Vocabulary) (first : Option Argument) (rest : Option (List Argument)) → IfSome first (IsOf v) → IfSome rest (Every (IsOf v)) → IfSome (add_argument first rest) (Every (IsOf v))
added_proper v (Some first) (Some rest) h k = (h, k)
added_proper v (Some first) None h k = tt
added_proper v None (Some rest) h k = tt
added_proper v None None h k = tt

abbrev IsDue : Vocabulary → Option Text → Type 0
IsDue v due = IfSome due (λ option. list_any (bytes_eq option) v.options ≡ true)

said_proper : (v : Vocabulary) (due : Option Text) (words : List Text) → IsDue v due → IfSome (said_from v due words) (Every (IsOf v))
said_proper v None [] h = tt
said_proper v (Some option) [] h = tt
said_proper v (Some option) (word ∷ rest) h = added_proper v (own_value option word) (said_from v None rest) (own_proper v option word h) (said_proper v None rest tt)
said_proper v None (word ∷ rest) h =
    by (takes_value v.options word) refl (λ due. said_proper v (Some (long_name word)) rest due)
    (added_proper v (other_word v word) (said_from v None rest) (other_proper v word) (said_proper v None rest tt))
  where
    by : (b : Bool) → takes_value v.options word ≡ b → (IsDue v (Some (long_name word)) → IfSome (said_from v (Some (long_name word)) rest) (Every (IsOf v)))
        → IfSome (add_argument (other_word v word) (said_from v None rest)) (Every (IsOf v))
        → IfSome (cond b (said_from v (Some (long_name word)) rest) (add_argument (next_argument v None word) (said_from v None rest))) (Every (IsOf v))
    by true e h k = h e
    by false e h k = k

one_proper : (v : Vocabulary) (a : Argument) (said : Arguments) → IsOf v a → IsProper v said → IsProper v (add_to_arguments a said)
one_proper v (Value option value) said h k = ((h, k.0), k.1, k.2)
one_proper v (Flag flag) said h k = (k.0, (h, k.1), k.2)
one_proper v (Plain word) said h k = (k.0, k.1, (h, k.2))

sorted_proper : (v : Vocabulary) (said : List Argument) → Every (IsOf v) said → IsProper v (arguments_of said)
sorted_proper v [] h = (tt, tt, tt)
sorted_proper v (a ∷ said) h = one_proper v a (arguments_of said) h.0 (sorted_proper v said h.1)

pub words_proper : (v : Vocabulary) (words : List Text) (said : Arguments) → Some said ≡ option_map arguments_of (said_from v None words) → IsProper v said
words_proper v words said e = by (said_from v None words) (said_proper v None words tt) e
  where
    by : (o : Option (List Argument)) → IfSome o (Every (IsOf v)) → Some said ≡ option_map arguments_of o → IsProper v said
    by None h e = absurd (cc)
    by (Some all) h e = let same : said ≡ arguments_of all = cc in subst (IsProper v) (sym same) (sorted_proper v all h)
