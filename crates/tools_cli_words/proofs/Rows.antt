-- The rows of the matches: adding rows and looking them up.
use Rattle.base_lists.proofs.Common.{◌≡◌, ◌∙◌, refl, sym, ap, ap₂, Bool, true, false, cond, List, [], ◌∷◌, ◌++◌, map, append_assoc, append-nil, Option, Some, None, fold, ◌||◌, ◌&&◌, not, find, list_all, list_any, option_or, bytes_eq, bytes_eq-Decides}
use Rattle.clap.specs.Words.{Row, Rule}
use Rattle.clap.specs.Walk.{at_row, has_row, with_default, default_rows, without, more_values, reading_by}
use Rattle.clap.specs.Faults.{repeat_fault}
use Rattle.clap.specs.Kinds.{Kinds, or_else}
use Rattle.clap.specs.declared.parser.matches.ValueSource.TheVariants.{CommandLine, DefaultValue}
use Rattle.clap.specs.declared.builder.value_parser.Reading.TheVariants as reading
use Rattle.tools_cli_words.specs.Arguments.{Text, are_apart}
use Rattle.tools_cli_words.proofs.Reader.{Use, row, put, default_row, has_some, is_nothing}

abbrev pub row_at : Text → List Row → Option Row
row_at id rows = find (λ r. bytes_eq r.id id) rows

-- ---- a row that is not there yet

pub at_missing : (id : Text) (change : Row → List Row) (missing rows : List Row) → has_row id rows ≡ false → at_row id change missing rows ≡ rows ++ missing
at_missing id change missing [] e = refl
at_missing id change missing (r ∷ rows) e = by (bytes_eq r.id id) e (at_missing id change missing rows)
  where
    by : (b : Bool) → (b || has_row id rows) ≡ false → (has_row id rows ≡ false → at_row id change missing rows ≡ rows ++ missing)
        → cond b (change r ++ rows) (r ∷ at_row id change missing rows) ≡ r ∷ (rows ++ missing)
    by true e more = absurd (cc)
    by false e more = ap (λ l. r ∷ l) (more e)

pub fresh_put : (rows : List Row) (u : Use) → has_row u.id rows ≡ false → put rows u ≡ rows ++ row u ∷ []
fresh_put rows u e =
    let none : without u.id rows ≡ rows = at_missing u.id (λ r. []) [] rows e ∙ append-nil rows in
    ap (at_row u.id (more_values CommandLine (u.value ∷ [])) (row u ∷ [])) none ∙ at_missing u.id (more_values CommandLine (u.value ∷ [])) (row u ∷ []) rows e

pub has_more : (id : Text) (rows more : List Row) → has_row id (rows ++ more) ≡ (has_row id rows || has_row id more)
has_more id [] more = refl
has_more id (r ∷ rows) more = by (bytes_eq r.id id) (has_more id rows more)
  where
    by : (b : Bool) → has_row id (rows ++ more) ≡ (has_row id rows || has_row id more) → (b || has_row id (rows ++ more)) ≡ ((b || has_row id rows) || has_row id more)
    by true h = refl
    by false h = h

pub find_more : (id : Text) (rows more : List Row) → row_at id (rows ++ more) ≡ option_or (row_at id rows) (row_at id more)
find_more id [] more = refl
find_more id (r ∷ rows) more = by (bytes_eq r.id id) (find_more id rows more)
  where
    by : (b : Bool) → row_at id (rows ++ more) ≡ option_or (row_at id rows) (row_at id more)
        → cond b (Some r) (row_at id (rows ++ more)) ≡ option_or (cond b (Some r) (row_at id rows)) (row_at id more)
    by true h = refl
    by false h = h

-- ---- faults of uses: repeated options and flags

abbrev pub uses_fault : List Row → List Use → Kinds
uses_fault rows [] = []
uses_fault rows (u ∷ us) = or_else (repeat_fault false u.id rows) (uses_fault (put rows u) us)

abbrev pub are_fresh : List Row → List Use → Bool
are_fresh rows us = list_all (λ u. not (has_row u.id rows)) us

abbrev pub ids : List Use → List Text
ids us = map (λ u. u.id) us

fresh_more : (rows : List Row) (u : Use) (us : List Use) → are_fresh (rows ++ row u ∷ []) us ≡ (are_fresh rows us && not (list_any (bytes_eq u.id) (ids us)))
fresh_more rows u [] = refl
fresh_more rows u (w ∷ us) =
    ap₂ (λ a b. not a && b) (has_more w.id rows (row u ∷ [])) (fresh_more rows u us)
    ∙ by (has_row w.id rows) (bytes_eq u.id w.id) (are_fresh rows us) (list_any (bytes_eq u.id) (ids us))
  where
    by : (a b f l : Bool) → (not (a || (b || false)) && (f && not l)) ≡ ((not a && f) && not (b || l))
    by true b f l = refl
    by false true true l = refl
    by false true false l = refl
    by false false f l = refl

both_and : (f l a : Bool) → ((f && l) && a) ≡ (f && (l && a))
both_and true l a = refl
both_and false l a = refl

pub faultless : (rows : List Row) (us : List Use) → is_nothing (uses_fault rows us) ≡ (are_fresh rows us && are_apart (ids us))
faultless rows [] = refl
faultless rows (u ∷ us) = by (has_row u.id rows) refl (faultless (rows ++ row u ∷ []) us)
  where
    by : (b : Bool) → has_row u.id rows ≡ b → is_nothing (uses_fault (rows ++ row u ∷ []) us) ≡ (are_fresh (rows ++ row u ∷ []) us && are_apart (ids us))
        → is_nothing (uses_fault rows (u ∷ us)) ≡ ((not (has_row u.id rows) && are_fresh rows us) && are_apart (ids (u ∷ us)))
    by true e more = rw e refl
    by false e more =
        rw e (ap (λ r. is_nothing (uses_fault r us)) (fresh_put rows u e) ∙ more ∙ ap (λ f. f && are_apart (ids us)) (fresh_more rows u us)
        ∙ both_and (are_fresh rows us) (not (list_any (bytes_eq u.id) (ids us))) (are_apart (ids us)))

pub none_before : (us : List Use) → are_fresh [] us ≡ true
none_before [] = refl
none_before (u ∷ us) = none_before us

pub all_put : (rows : List Row) (us : List Use) → (are_fresh rows us && are_apart (ids us)) ≡ true → fold put rows us ≡ rows ++ map row us
all_put rows [] e = sym (append-nil rows)
all_put rows (u ∷ us) e = by (has_row u.id rows) refl (all_put (rows ++ row u ∷ []) us) e
  where
    by : (b : Bool) → has_row u.id rows ≡ b → ((are_fresh (rows ++ row u ∷ []) us && are_apart (ids us)) ≡ true → fold put (rows ++ row u ∷ []) us ≡ (rows ++ row u ∷ []) ++ map row us)
        → ((not b && are_fresh rows us) && are_apart (ids (u ∷ us))) ≡ true → fold put rows (u ∷ us) ≡ rows ++ map row (u ∷ us)
    by true is later e = absurd (cc)
    by false is later e =
        let more : (are_fresh (rows ++ row u ∷ []) us && are_apart (ids us)) ≡ true = ap (λ f. f && are_apart (ids us)) (fresh_more rows u us)
        ∙ both_and (are_fresh rows us) (not (list_any (bytes_eq u.id) (ids us))) (are_apart (ids us)) ∙ e in
        ap (λ r. fold put r us) (fresh_put rows u is) ∙ later more ∙ append_assoc rows (row u ∷ []) (map row us)

-- ---- defaults

pub or_none : {A : Type 0} (o : Option A) → option_or o None ≡ o
or_none None = refl
or_none (Some x) = refl

or_assoc : {A : Type 0} (o p q : Option A) → option_or (option_or o p) q ≡ option_or o (option_or p q)
or_assoc None p q = refl
or_assoc (Some x) p q = refl

found_has : (id : Text) (rows : List Row) (d : Option Row) → has_row id rows ≡ true → option_or (row_at id rows) d ≡ row_at id rows
found_has id [] d e = absurd (cc)
found_has id (r ∷ rows) d e = by (bytes_eq r.id id) (found_has id rows d) e
  where
    by : (b : Bool) → (has_row id rows ≡ true → option_or (row_at id rows) d ≡ row_at id rows) → (b || has_row id rows) ≡ true
        → option_or (cond b (Some r) (row_at id rows)) d ≡ cond b (Some r) (row_at id rows)
    by true more e = refl
    by false more e = more e

abbrev given : Rule → List Text → Row
given a values = record { id = a.id; values = values; count = None; source = Some DefaultValue; reading = reading_by a }

one_default : (id : Text) (rows : List Row) (a : Rule) → row_at id (with_default rows a) ≡ option_or (row_at id rows) (default_row id (a ∷ []))
one_default id rows a = by (has_row a.id rows) refl (bytes_eq a.id id) refl
  where
    fresh : (values : List Text) → has_row a.id rows ≡ false → (b : Bool) → bytes_eq a.id id ≡ b
        → row_at id (default_rows a.id (reading_by a) values rows) ≡ option_or (row_at id rows) (cond (b && has_some values) (Some (given a values)) None)
    fresh [] e true is = sym (or_none (row_at id rows))
    fresh [] e false is = sym (or_none (row_at id rows))
    fresh (x ∷ xs) e b is = ap (row_at id) (at_missing a.id (more_values DefaultValue (x ∷ xs)) (given a (x ∷ xs) ∷ []) rows e) ∙ find_more id rows (given a (x ∷ xs) ∷ []) ∙ rw is (same b)
      where
        same : (b : Bool) → option_or (row_at id rows) (cond b (Some (given a (x ∷ xs))) None)
            ≡ option_or (row_at id rows) (cond (b && true) (Some (given a (x ∷ xs))) None)
        same true = refl
        same false = refl

    by : (h : Bool) → has_row a.id rows ≡ h → (b : Bool) → bytes_eq a.id id ≡ b
        → row_at id (cond h rows (default_rows a.id (reading_by a) a.defaults rows)) ≡ option_or (row_at id rows) (default_row id (a ∷ []))
    by true e true is = let same : a.id ≡ id = (bytes_eq-Decides a.id id).0 is in sym (found_has id rows _ (ap (λ x. has_row x rows) (sym same) ∙ e))
    by true e false is = rw is (sym (or_none (row_at id rows)))
    by false e b is = fresh a.defaults e b is ∙ ap (λ c. option_or (row_at id rows) (cond (c && has_some a.defaults) (Some (given a a.defaults)) None)) (sym is)

default_split : (id : Text) (a : Rule) (rules : List Rule) → option_or (default_row id (a ∷ [])) (default_row id rules) ≡ default_row id (a ∷ rules)
default_split id a rules = by (bytes_eq a.id id && has_some a.defaults) _
  where
    by : (b : Bool) (r : Row) → option_or (cond b (Some r) None) (default_row id rules) ≡ cond b (Some r) (default_row id rules)
    by true r = refl
    by false r = refl

pub found_after : (id : Text) (rows : List Row) (rules : List Rule) → row_at id (fold with_default rows rules) ≡ option_or (row_at id rows) (default_row id rules)
found_after id rows [] = sym (or_none (row_at id rows))
found_after id rows (a ∷ rules) =
    found_after id (with_default rows a) rules ∙ ap (λ o. option_or o (default_row id rules)) (one_default id rows a) ∙ or_assoc (row_at id rows) (default_row id (a ∷ [])) (default_row id rules)
    ∙ ap (option_or (row_at id rows)) (default_split id a rules)
