-- The reading of arranged words by `clap`: uses of options and flags, and then positional
-- arguments.
use Rattle.base_lists.proofs.Common.{◌≡◌, ◌∙◌, refl, sym, ap, ap₂, subst, ℕ, ◌<◌, ◌≤◌, ◌^◌, arith, Bool, true, false, cond, List, [], ◌∷◌, ◌++◌, map, length, append_assoc, append-nil, Option, Some, None, option_map, codes, fold, ◌||◌, ◌&&◌, ◌==◌, not, nat_lt, list_all, list_any, option_map_or}
use Rattle.base_lists.proofs.Common.{option_or, bytes_eq, nat_tests, left_true, right_true}
use Rattle.base_lists.specs.Every.{Every}
use Rattle.clap.specs.Words.{App, Row, Rule, Shape, built, fault_of, matches_of}
use Rattle.clap.specs.Walk.{Walk, Held, walked, walk, walk_from, nothing_held, has_row, with_default, settled, finished, settled_rows, used_by_id, arg_by_id, more_values, used, rows_after, is_empty}
use Rattle.clap.specs.Faults.{turn_fault, walk_fault, repeat_fault, settle_fault, defaults_fault, default_fault, given_default_fault, check_fault, level_fault, use_fault, values_fault}
use Rattle.clap.specs.Kinds.{Kinds, or_else}
use Rattle.clap.specs.declared.parser.matches.ValueSource.TheVariants.{CommandLine}
use Rattle.clap.specs.declared.builder.value_parser.Reading.TheVariants as reading
use Rattle.tools_cli_words.specs.Arguments.{Text, Vocabulary, is_plain}
use Rattle.tools_cli_words.specs.Reader.{plain_id}
use Rattle.tools_cli_words.proofs.Reader.{Use, Turns, IsReader, row, put, begun, after_plain, built_plain, is_nothing, is_harmless}
use Rattle.tools_cli_words.proofs.Rows.{uses_fault, at_missing}

-- ---- steps over kinds

after_turn : (r more rest : Kinds) → or_else (or_else (or_else r []) []) (or_else more rest) ≡ or_else (or_else r more) rest
after_turn [] more rest = refl
after_turn (k ∷ ks) more rest = refl

pub nothing_more : (r : Kinds) → or_else (or_else r []) [] ≡ r
nothing_more [] = refl
nothing_more (k ∷ ks) = refl

no_minus : (c : ℕ) → not (c == 45) ≡ true → (c == 45) ≡ false
no_minus c h = by (c == 45) h
  where
    by : (b : Bool) → not b ≡ true → b ≡ false
    by true h = absurd (cc)
    by false h = refl

abbrev pub ArePlain : List Text → Type 0
ArePlain words = Every (λ word. is_plain word ≡ true) words

-- The state of `clap` after the positional arguments, and the row that they add to the matches.
abbrev pub ended : List Row → List Text → Walk
ended rows [] = begun rows
ended rows (word ∷ words) = after_plain rows (word ∷ words)

abbrev pub plain_row : List Text → Row
plain_row words = record { id = plain_id; values = words; count = None; source = Some CommandLine; reading = reading.AsWritten }

abbrev pub plain_rows : List Text → List Row
plain_rows [] = []
plain_rows (word ∷ words) = plain_row (word ∷ words) ∷ []

abbrev pub arranged : List Use → List Text → List Text
arranged us plain = map (λ u. u.word) us ++ plain

module _ (top : Shape) (v : Vocabulary) (reader : IsReader top v) where
  -- ---- uses

  walk_uses : (rows : List Row) (us : List Use) (rest : List Text) → Every (Turns top) us
      → fold (walked top.rules []) (begun rows) (map (λ u. u.word) us ++ rest) ≡ fold (walked top.rules []) (begun (fold put rows us)) rest
  walk_uses rows [] rest h = refl
  walk_uses rows (u ∷ us) rest h = ap (λ w. fold (walked top.rules []) w (map (λ u. u.word) us ++ rest)) (h.0 rows).0 ∙ walk_uses (put rows u) us rest h.1

  fault_uses : (rows : List Row) (us : List Use) (rest : List Text) → Every (Turns top) us
      → walk_fault top [] (begun rows) (map (λ u. u.word) us ++ rest) ≡ or_else (uses_fault rows us) (walk_fault top [] (begun (fold put rows us)) rest)
  unfolding walk_fault
  fault_uses rows [] rest h = refl
  fault_uses rows (u ∷ us) rest h =
      ap₂ or_else (h.0 rows).1 (ap (λ w. walk_fault top [] w (map (λ u. u.word) us ++ rest)) (h.0 rows).0 ∙ fault_uses (put rows u) us rest h.1)
      ∙ after_turn (repeat_fault false u.id rows) (uses_fault (put rows u) us) (walk_fault top [] (begun (fold put (put rows u) us)) rest)

  -- ---- plain words

  walk_more : (rows : List Row) (words rest : List Text) → ArePlain rest → fold (walked top.rules []) (after_plain rows words) rest ≡ after_plain rows (words ++ rest)
  walk_more rows words [] h = ap (after_plain rows) (sym (append-nil words))
  walk_more rows words ([] ∷ rest) h = absurd (cc)
  walk_more rows words ((c ∷ text) ∷ rest) h =
      ap (λ w. fold (walked top.rules []) w rest) (reader.next_plain rows words c text (no_minus c h.0)).0
      ∙ walk_more rows (words ++ (c ∷ text) ∷ []) rest h.1
      ∙ ap (after_plain rows) (append_assoc words ((c ∷ text) ∷ []) rest)

  walk_plain : (rows : List Row) (plain : List Text) → ArePlain plain → fold (walked top.rules []) (begun rows) plain ≡ ended rows plain
  walk_plain rows [] h = refl
  walk_plain rows ([] ∷ rest) h = absurd (cc)
  walk_plain rows ((c ∷ text) ∷ rest) h =
      ap (λ w. fold (walked top.rules []) w rest) (reader.first_plain rows c text (no_minus c h.0)).0 ∙ walk_more rows ((c ∷ text) ∷ []) rest h.1

  fault_more : (rows : List Row) (words rest : List Text) → ArePlain rest → walk_fault top [] (after_plain rows words) rest ≡ []
  unfolding walk_fault
  fault_more rows words [] h = refl
  fault_more rows words ([] ∷ rest) h = absurd (cc)
  fault_more rows words ((c ∷ text) ∷ rest) h =
      let step = reader.next_plain rows words c text (no_minus c h.0) in
      ap₂ or_else step.1 (ap (λ w. walk_fault top [] w rest) step.0 ∙ fault_more rows (words ++ (c ∷ text) ∷ []) rest h.1)

  fault_plain : (rows : List Row) (plain : List Text) → ArePlain plain → walk_fault top [] (begun rows) plain ≡ []
  unfolding walk_fault
  fault_plain rows [] h = refl
  fault_plain rows ([] ∷ rest) h = absurd (cc)
  fault_plain rows ((c ∷ text) ∷ rest) h =
      let step = reader.first_plain rows c text (no_minus c h.0) in
      ap₂ or_else step.1 (ap (λ w. walk_fault top [] w rest) step.0 ∙ fault_more rows ((c ∷ text) ∷ []) rest h.1)

  -- ---- the end

  pub walk_all : (us : List Use) (plain : List Text) → Every (Turns top) us → ArePlain plain → walk top.rules [] nothing_held (arranged us plain) ≡ ended (fold put [] us) plain
  walk_all us plain h k = walk_uses [] us plain h ∙ walk_plain (fold put [] us) plain k

  any_text : (values : List Text) → values_fault built_plain values ≡ []
  any_text [] = refl
  any_text (x ∷ values) = any_text values

  plain_use : (again : Bool) (rows : List Row) (word : Text) (words : List Text) → length (word ∷ words) < 2 ^ 64 → use_fault again built_plain (word ∷ words) rows ≡ []
  plain_use again rows word words short =
      let none : (length (word ∷ words) == 0) ≡ false = grind (arith, nat_tests) in
      let few : nat_lt (length (word ∷ words)) 1 ≡ false = grind (arith, nat_tests) in
      let most : nat_lt 18446744073709551615 (length (word ∷ words)) ≡ false = grind (arith, nat_tests) in
      simp (none, few, most) (any_text words)

  settle_nothing : (rows : List Row) (plain : List Text) → length plain < 2 ^ 64 → settle_fault top.rules top.args_override_self (ended rows plain).held ≡ []
  settle_nothing rows [] short = refl
  settle_nothing rows (word ∷ words) short =
      ap (λ o. option_map_or (λ a. use_fault top.args_override_self a (word ∷ words) rows) o []) reader.plain ∙ plain_use top.args_override_self rows word words short

  one_default_passes : (rows : List Row) (a : Rule) → is_harmless a ≡ true → default_fault rows a ≡ []
  one_default_passes rows a h = by (has_row a.id rows) (is_empty a.defaults) (given_default_fault a a.defaults) h
    where
      by : (x y : Bool) (k : Kinds) → (y || is_nothing k) ≡ true → cond (x || y) [] k ≡ []
      by true y k h = refl
      by false true k h = refl
      by false false [] h = refl
      by false false (e ∷ k) h = absurd (cc)

  defaults_pass : (rows : List Row) (rules : List Rule) → list_all is_harmless rules ≡ true → defaults_fault rows rules ≡ []
  unfolding defaults_fault
  defaults_pass rows [] h = refl
  defaults_pass rows (a ∷ rules) h =
      ap₂ or_else (one_default_passes rows a (left_true (is_harmless a) (list_all is_harmless rules) h))
      (defaults_pass (with_default rows a) rules (right_true (is_harmless a) (list_all is_harmless rules) h))

  pub level_is : (us : List Use) (plain : List Text) → Every (Turns top) us → ArePlain plain → length plain < 2 ^ 64 → level_fault top [] nothing_held (arranged us plain) false [] ≡ uses_fault [] us
  level_is us plain h k short =
      let rows = fold put [] us in
      let end : Walk = ended rows plain in
      let turns : walk_fault top [] (begun []) (arranged us plain) ≡ or_else (uses_fault [] us) [] = fault_uses [] us plain h ∙ ap (or_else (uses_fault [] us)) (fault_plain rows plain k) in
      ap₂ (λ f (w : Walk). or_else f (or_else [] (or_else (settle_fault top.rules top.args_override_self w.held)
      (or_else (defaults_fault (settled top.rules w.held).rows top.rules) (check_fault top (finished top.rules w.held) false)))))
      turns (walk_all us plain h k)
      ∙ ap₂ (λ s t. or_else (or_else (uses_fault [] us) []) (or_else s t)) (settle_nothing rows plain short)
      (ap₂ or_else (defaults_pass (settled top.rules end.held).rows top.rules reader.harmless) (reader.no_check (finished top.rules end.held)))
      ∙ nothing_more (uses_fault [] us)

  settled_are : (rows : List Row) (plain : List Text) → has_row plain_id rows ≡ false → (settled top.rules (ended rows plain).held).rows ≡ rows ++ plain_rows plain
  settled_are rows [] new = sym (append-nil rows)
  settled_are rows (word ∷ words) new =
      ap (λ a. used_by_id a (word ∷ words) rows) reader.plain ∙ at_missing plain_id (more_values CommandLine (word ∷ words)) (plain_row (word ∷ words) ∷ []) rows new

  pub rows_are : (us : List Use) (plain : List Text) → Every (Turns top) us → ArePlain plain → has_row plain_id (fold put [] us) ≡ false
      → rows_after top.rules [] (arranged us plain) ≡ fold with_default (fold put [] us ++ plain_rows plain) top.rules
  rows_are us plain h k new =
      ap (λ (w : Walk). finished top.rules w.held) (walk_all us plain h k) ∙ ap (λ r. fold with_default r top.rules) (settled_are (fold put [] us) plain new)
