-- The rows that arranged arguments give for each option and flag, and for the positional arguments.
use Rattle.base_lists.proofs.Common.{◌≡◌, ◌∙◌, refl, sym, ap, ap₂, subst, ℕ, ◌<◌, ◌^◌, Bool, true, false, cond, List, [], ◌∷◌, ◌++◌, map, length, Option, Some, None, option_map, option_and_then, codes, fold, inl, inr, ◌||◌, ◌&&◌, slice_get, list_any, option_or, bytes_eq, nat_list_eq_equiv}
use Rattle.base_lists.proofs.Common.{bytes_eq-Decides}
use Rattle.std.specs.Prelude.{unwrap_or}
use Rattle.base_lists.specs.Every.{Every}
use Rattle.clap.specs.Words.{Row, Rule, Shape, built, fault_of, matches_of, rows_of, first_value, one_text, raw_values, matched_of}
use Rattle.clap.specs.Words.{kind_of, found_of, HasKind, Kinds}
use Rattle.clap.specs.declared.parser.matches.ArgMatches.{ArgMatches}
use Rattle.clap.specs.declared.error.Error.{Error}
use Rattle.clap.specs.declared.error.kind.ErrorKind.TheVariants as kind
use Rattle.clap.specs.Faults.{level_fault}
use Rattle.clap.specs.Walk.{nothing_held, rows_after, has_row, with_default, first_of, one_of, all_of, row_text}
use Rattle.clap.specs.declared.parser.matches.Found.{Found}
use Rattle.clap.proofs.WalkLemmas.{first_value-rows, one_text-rows, raw_values-rows}
use Rattle.tools_cli_words.specs.Arguments.{Text, Vocabulary, OptionValue, Arguments, option_word, arranged_words, options_and_flags, are_apart, value_of, with_value, valued_options, said_flags, in_order, said_from, arguments_of, said_once, said_together}
use Rattle.tools_cli_words.specs.Reader.{plain_id, app_of_vocabulary, matched_options, GivesFlag, ReadFrom, Parsed}
use Rattle.tools_cli_words.proofs.Equal.{of_member}
use Rattle.tools_cli_words.proofs.Proper.{IsProper, words_proper}
use Rattle.tools_cli_words.proofs.Reader.{Use, Turns, Reads, ReadsOption, ReadsFlag, IsReader, row, put, option_use, flag_use, default_row, false_row, is_nothing}
use Rattle.tools_cli_words.proofs.Rows.{or_none, row_at, ids, uses_fault, are_fresh, faultless, none_before, all_put, find_more, found_after}
use Rattle.tools_cli_words.proofs.Walking.{arranged, plain_row, plain_rows, level_is, rows_are}

-- ---- the uses of options and flags

abbrev uses : List OptionValue → List Text → List Use
uses values flags = map (λ (w : OptionValue). option_use w.option w.value) values ++ map flag_use flags

abbrev pub uses_of : Arguments → List Use
uses_of said = uses said.values said.flags

flag_words : (flags plain : List Text) → flags ++ plain ≡ arranged (map flag_use flags) plain
flag_words [] plain = refl
flag_words (flag ∷ flags) plain = ap (λ l. flag ∷ l) (flag_words flags plain)

words_are : (values : List OptionValue) (flags plain : List Text) → map option_word values ++ flags ++ plain ≡ arranged (uses values flags) plain
words_are [] flags plain = flag_words flags plain
words_are (w ∷ values) flags plain = ap (λ l. option_word w ∷ l) (words_are values flags plain)

flag_ids : (flags : List Text) → ids (map flag_use flags) ≡ flags
flag_ids [] = refl
flag_ids (flag ∷ flags) = ap (λ l. flag ∷ l) (flag_ids flags)

ids_are : (values : List OptionValue) (flags : List Text) → ids (uses values flags) ≡ map (λ (w : OptionValue). w.option) values ++ flags
ids_are [] flags = flag_ids flags
ids_are (w ∷ values) flags = ap (λ l. w.option ∷ l) (ids_are values flags)

module _ (top : Shape) (v : Vocabulary) (reader : IsReader top v) where
  flags_turn : (flags : List Text) → Every (λ flag. list_any (bytes_eq flag) v.flags ≡ true) flags → Every (Turns top) (map flag_use flags)
  flags_turn [] h = tt
  flags_turn (flag ∷ flags) h = ((of_member (ReadsFlag top v) v.flags reader.flags flag h.0).0, flags_turn flags h.1)

  uses_turn : (values : List OptionValue) (flags : List Text) → Every (λ (w : OptionValue). list_any (bytes_eq w.option) v.options ≡ true) values
      → Every (λ flag. list_any (bytes_eq flag) v.flags ≡ true) flags → Every (Turns top) (uses values flags)
  uses_turn [] flags h k = flags_turn flags k
  uses_turn (w ∷ values) flags h k = ((of_member (ReadsOption top v) v.options reader.options w.option h.0).0 w.value, uses_turn values flags h.1 k)

-- ---- rows of options and flags that are not looked for

-- A text of a list differs from a text that is not in the list.
not_same : (texts : List Text) (x id : Text) → list_any (bytes_eq x) texts ≡ true → list_any (bytes_eq id) texts ≡ false → bytes_eq x id ≡ false
not_same texts x id among lacks = by (bytes_eq x id) refl
  where
    by : (b : Bool) → bytes_eq x id ≡ b → bytes_eq x id ≡ false
    by true e = let there : list_any (bytes_eq id) texts ≡ true = ap (λ t. list_any (bytes_eq t) texts) (sym ((bytes_eq-Decides x id).0 e)) ∙ among in absurd (cc)
    by false e = e

no_flag_row : (known : List Text) (id : Text) (flags : List Text) → Every (λ flag. list_any (bytes_eq flag) known ≡ true) flags → list_any (bytes_eq id) known ≡ false
    → row_at id (map row (map flag_use flags)) ≡ None
no_flag_row known id [] h lacks = refl
no_flag_row known id (flag ∷ flags) h lacks = rw (not_same known flag id h.0 lacks) (no_flag_row known id flags h.1 lacks)

past_options : (known : List Text) (id : Text) (values : List OptionValue) (flags : List Text) → Every (λ (w : OptionValue). list_any (bytes_eq w.option) known ≡ true) values
    → list_any (bytes_eq id) known ≡ false
    → row_at id (map row (uses values flags)) ≡ row_at id (map row (map flag_use flags))
past_options known id [] flags h lacks = refl
past_options known id (w ∷ values) flags h lacks = rw (not_same known w.option id h.0 lacks) (past_options known id values flags h.1 lacks)

no_plain_row : (id : Text) (plain : List Text) → bytes_eq plain_id id ≡ false → row_at id (plain_rows plain) ≡ None
no_plain_row id [] e = refl
no_plain_row id (word ∷ words) e = ap (λ b. cond b (Some (plain_row (word ∷ words))) None) e

abbrev first_text : Row → Option Text
first_text r = slice_get r.values 0

value_found : (id : Text) (values : List OptionValue) (flags : List Text) → row_at id (map row (map flag_use flags)) ≡ None
    → option_and_then first_text (row_at id (map row (uses values flags))) ≡ value_of id values
value_found id [] flags none = ap (option_and_then first_text) none
value_found id (w ∷ values) flags none = by (bytes_eq w.option id) (value_found id values flags none)
  where
    by : (b : Bool) → option_and_then first_text (row_at id (map row (uses values flags))) ≡ value_of id values
        → option_and_then first_text (cond b (Some (row (option_use w.option w.value))) (row_at id (map row (uses values flags)))) ≡ cond b (Some w.value) (value_of id values)
    by true h = refl
    by false h = h

flag_found : (id : Text) (flags : List Text)
    → option_and_then row_text (option_or (row_at id (map row (map flag_use flags))) (Some (false_row id))) ≡ Some (cond (list_any (bytes_eq id) flags) (codes "true") (codes "false"))
flag_found id [] = refl
flag_found id (flag ∷ flags) = by (bytes_eq flag id) (bytes_eq id flag) (nat_list_eq_equiv.symm flag id) (flag_found id flags)
  where
    by : (a b : Bool) → a ≡ b
        → option_and_then row_text (option_or (row_at id (map row (map flag_use flags))) (Some (false_row id))) ≡ Some (cond (list_any (bytes_eq id) flags) (codes "true") (codes "false"))
        → option_and_then row_text (option_or (cond a (Some (row (flag_use flag))) (row_at id (map row (map flag_use flags)))) (Some (false_row id))) ≡ Some
        (cond (b || list_any (bytes_eq id) flags) (codes "true") (codes "false"))
    by true true e h = refl
    by true false e h = absurd (cc)
    by false true e h = absurd (cc)
    by false false e h = h

plain_found : (plain : List Text) → unwrap_or (option_map (λ (r : Row). r.values) (row_at plain_id (plain_rows plain))) [] ≡ plain
plain_found [] = refl
plain_found (word ∷ words) = refl

-- ---- all words

abbrev pub all_words : Arguments → List Text
all_words said = codes "binkit" ∷ arranged_words said

abbrev all_rows : Arguments → List Row
all_rows said = map row (uses_of said) ++ plain_rows said.plain

module _ (v : Vocabulary) (reads : Reads v) (said : Arguments) (proper : IsProper v said) where
  abbrev pub top : Shape
  top = (built (app_of_vocabulary v)).top

  turn : Every (Turns top) (uses_of said)
  turn = uses_turn top v reads.reader said.values said.flags proper.0 proper.1

  -- There is a fault exactly if an option or a flag is repeated.
  pub fault_is : length said.plain < 2 ^ 64 → is_nothing (fault_of (app_of_vocabulary v) (all_words said)) ≡ are_apart (options_and_flags said)
  fault_is short =
      ap is_nothing (reads.fault (codes "binkit") (arranged_words said) ∙ ap (λ l. level_fault top [] nothing_held l false []) (words_are said.values said.flags said.plain)
      ∙ level_is top v reads.reader (uses_of said) said.plain turn proper.2 short)
      ∙ faultless [] (uses_of said) ∙ ap₂ (λ a b. a && are_apart b) (none_before (uses_of said)) (ids_are said.values said.flags)

  no_plain_use : row_at plain_id (map row (uses_of said)) ≡ None
  no_plain_use = past_options v.options plain_id said.values said.flags proper.0 reads.reader.plain_option ∙ no_flag_row v.flags plain_id said.flags proper.1 reads.reader.plain_flag

  lacks_row : (id : Text) (rows : List Row) → row_at id rows ≡ None → has_row id rows ≡ false
  lacks_row id [] e = refl
  lacks_row id (r ∷ rows) e = by (bytes_eq r.id id) (lacks_row id rows) e
    where
      by : (b : Bool) → (row_at id rows ≡ None → has_row id rows ≡ false) → cond b (Some r) (row_at id rows) ≡ None → (b || has_row id rows) ≡ false
      by true more e = absurd (cc)
      by false more e = more e

  pub matches_are : are_apart (options_and_flags said) ≡ true → matches_of (app_of_vocabulary v) (all_words said) ≡ fold with_default (all_rows said) top.rules
  matches_are apart =
      let us = uses_of said in
      let put_all : fold put [] us ≡ map row us = all_put [] us (ap₂ (λ a b. a && are_apart b) (none_before us) (ids_are said.values said.flags) ∙ apart) in
      let new : has_row plain_id (fold put [] us) ≡ false = ap (has_row plain_id) put_all ∙ lacks_row plain_id (map row us) no_plain_use in
      reads.rows (codes "binkit") (arranged_words said) ∙ ap (rows_after top.rules []) (words_are said.values said.flags said.plain) ∙ rows_are top v reads.reader us said.plain turn proper.2 new
      ∙ ap (λ r. fold with_default (r ++ plain_rows said.plain) top.rules) put_all

  found_row : (id : Text)
      → row_at id (fold with_default (all_rows said) top.rules) ≡ option_or (option_or (row_at id (map row (uses_of said))) (row_at id (plain_rows said.plain))) (default_row id top.rules)
  found_row id = found_after id (all_rows said) top.rules ∙ ap (λ o. option_or o (default_row id top.rules)) (find_more id (map row (uses_of said)) (plain_rows said.plain))

  value_is : (option : Text) → ReadsOption top v option → first_of option (fold with_default (all_rows said) top.rules) ≡ value_of option said.values
  value_is option h =
      ap (option_and_then first_text) (found_row option ∙ ap₂ (λ p d. option_or (option_or (row_at option (map row (uses_of said))) p) d) (no_plain_row option said.plain h.3) h.1
      ∙ or_none (option_or (row_at option (map row (uses_of said))) None) ∙ or_none (row_at option (map row (uses_of said))))
      ∙ value_found option said.values said.flags (no_flag_row v.flags option said.flags proper.1 h.2)

  flag_text : (flag : Text) → ReadsFlag top v flag → one_of flag (fold with_default (all_rows said) top.rules) ≡ Some (cond (list_any (bytes_eq flag) said.flags) (codes "true") (codes "false"))
  flag_text flag h =
      ap (option_and_then row_text) (found_row flag ∙ ap₂ (λ p d. option_or (option_or (row_at flag (map row (uses_of said))) p) d) (no_plain_row flag said.plain h.3) h.1
      ∙ ap (λ o. option_or o (Some (false_row flag))) (or_none (row_at flag (map row (uses_of said))) ∙ past_options v.options flag said.values said.flags proper.0 h.2))
      ∙ flag_found flag said.flags

  plain_are : unwrap_or (all_of plain_id (fold with_default (all_rows said) top.rules)) [] ≡ said.plain
  plain_are =
      ap (λ o. unwrap_or (option_map (λ (r : Row). r.values) o) []) (found_row plain_id
      ∙ ap₂ (λ p d. option_or (option_or p (row_at plain_id (plain_rows said.plain))) d) no_plain_use reads.reader.plain_default ∙ or_none (row_at plain_id (plain_rows said.plain)))
      ∙ plain_found said.plain

  module _ (found : Found) (rows : rows_of found ≡ fold with_default (all_rows said) top.rules) where
    values_same : (options : List Text) → Every (ReadsOption top v) options → matched_options found options ≡ valued_options options said.values
    values_same [] h = refl
    values_same (option ∷ options) h =
        ap₂ (with_value option) (first_value-rows found option ∙ ap (first_of option) rows ∙ value_is option h.0) (values_same options h.1)

    flags_given : (flags : List Text) → Every (ReadsFlag top v) flags → Every (GivesFlag found said.flags) flags
    flags_given [] h = tt
    flags_given (flag ∷ flags) h = (one_text-rows found flag ∙ ap (one_of flag) rows ∙ flag_text flag h.0, flags_given flags h.1)

    pub read_in_order : (arguments : Arguments) → ReadFrom v found arguments → arguments ≡ in_order v said
    read_in_order arguments from =
        let values : arguments.values ≡ valued_options v.options said.values = from.values ∙ values_same v.options reads.reader.options in
        let flags : arguments.flags ≡ said_flags v.flags said.flags = from.flags said.flags (flags_given v.flags reads.reader.flags) in
        let plain : arguments.plain ≡ said.plain = from.plain ∙ ap (λ o. unwrap_or o []) (raw_values-rows found plain_id ∙ ap (all_of plain_id) rows) ∙ plain_are in
        λ i. record { values = values i; flags = flags i; plain = plain i }

pub once : (v : Vocabulary) (said : Arguments) → are_apart (options_and_flags said) ≡ true → said_once v said ≡ Some (in_order v said)
once v said e = ap (λ b. cond b (Some (in_order v said)) None) e

pub twice : (v : Vocabulary) (said : Arguments) → are_apart (options_and_flags said) ≡ false → said_once v said ≡ None
twice v said e = ap (λ b. cond b (Some (in_order v said)) None) e

pub no_kind : (e : Error) (kinds : Kinds) → kinds ≡ [] → (kind_of e ≡ kind.OutOfMemory → ⊥) → HasKind kinds e → ⊥
no_kind e [] none other (inl h) = other h
no_kind e [] none other (inr h) = h
no_kind e (k ∷ ks) none other h = cc

pub matches_said : (v : Vocabulary) → Reads v → (words : List Text) (said : Arguments) (m : ArgMatches) (arguments : Arguments) → Some said ≡ option_map arguments_of (said_from v None words)
    → length said.plain < 2 ^ 64
    → Parsed (app_of_vocabulary v) (all_words said) (Some m) → ReadFrom v (found_of m) arguments → Some arguments ≡ said_together v words
matches_said v reads words said m arguments is short parsed from =
    let proper = words_proper v words said is in
    let apart : are_apart (options_and_flags said) ≡ true = sym (fault_is v reads said proper short) ∙ ap is_nothing parsed.0 in
    ap Some (read_in_order v reads said proper (found_of m) (parsed.1 ∙ matches_are v reads said proper apart) arguments from) ∙ sym (once v said apart) ∙ ap (option_and_then (said_once v)) is

pub no_matches_said : (v : Vocabulary) → Reads v → (words : List Text) (said : Arguments) → Some said ≡ option_map arguments_of (said_from v None words) → length said.plain < 2 ^ 64
    → Parsed (app_of_vocabulary v) (all_words said) None → None ≡ said_together v words
no_matches_said v reads words said is short refused =
    let proper = words_proper v words said is in
    let apart : are_apart (options_and_flags said) ≡ false = sym (fault_is v reads said proper short) ∙ some_fault (fault_of (app_of_vocabulary v) (all_words said)) refused in
    sym (twice v said apart) ∙ ap (option_and_then (said_once v)) is
  where
    some_fault : (kinds : Kinds) → (kinds ≡ [] → ⊥) → is_nothing kinds ≡ false
    some_fault [] h = absurd (h refl)
    some_fault (k ∷ ks) h = refl
