-- How the exports of several parts are named in one module, where export names must differ
-- (WebAssembly Core 2.0, section 3.4.10).
use Rattle.std.specs.Prelude.{◌≡◌, ℕ, zero, suc, ◌+◌, ◌<◌, ◌≤◌, List, [], ◌∷◌, ◌++◌, Option, Some, None, Bool, true, false, cond, map, take, length, slice_get, decimal, Contains}
use Rattle.std.specs.List.{list_any, filter_map}
use Rattle.std.specs.Str.{bytes_eq}
use Rattle.merge_names.specs.declared.mode.Mode.{Mode}
use Rattle.merge_names.specs.declared.mode.Mode.TheVariants.{Refuse, Rename, Skip}

-- whether a name is one of these
abbrev pub among : List (List ℕ) → List ℕ → Bool
among names name = list_any (λ n. bytes_eq n name) names

-- a name with `_` and a number
abbrev pub numbered : List ℕ → ℕ → List ℕ
numbered name k = name ++ 95 ∷ decimal k

-- ---- the rules ----

-- the least number from 1 that makes a name that is not taken
pub record IsLeastFree (taken : List ℕ → Bool) (name : List ℕ) (k : ℕ) : Type 0 where
  pub from_one : 1 ≤ k
  pub free : taken (numbered name k) ≡ false
  pub least : (j : ℕ) → 1 ≤ j → j < k → taken (numbered name j) ≡ true

-- `new` is the new name of `name`, if `old` are the names before it and `chosen` their new names:
-- `name` itself if it is not in `old`, and otherwise `name` with the least number that makes a name
-- neither in `all` nor in `chosen`.
pub record IsRenamed (all old chosen : List (List ℕ)) (name new : List ℕ) : Type 0 where
  pub first : among old name ≡ false → new ≡ name
  pub again : among old name ≡ true → (k : ℕ) × IsLeastFree (among (all ++ chosen)) name k × (new ≡ numbered name k)

-- each name that repeats an earlier one gets a number
pub record AreRenamed (names news : List (List ℕ)) : Type 0 where
  pub one_each : length news ≡ length names
  pub right : (i : ℕ) (name new : List ℕ) → slice_get names i ≡ Some name → slice_get news i ≡ Some new → IsRenamed names (take i names) (take i news) name new

-- each name that repeats an earlier one is dropped
pub record AreKept (names : List (List ℕ)) (news : List (Option (List ℕ))) : Type 0 where
  pub one_each : length news ≡ length names
  pub first : (i : ℕ) (name : List ℕ) → slice_get names i ≡ Some name → among (take i names) name ≡ false → slice_get news i ≡ Some (Some name)
  pub again : (i : ℕ) (name : List ℕ) → slice_get names i ≡ Some name → among (take i names) name ≡ true → slice_get news i ≡ Some None

-- the name at this place is the first that repeats an earlier one
pub record IsConflict (names : List (List ℕ)) (place : ℕ) : Type 0 where
  pub came : (name : List ℕ) × (slice_get names place ≡ Some name) × (among (take place names) name ≡ true)
  pub least : (i : ℕ) (name : List ℕ) → i < place → slice_get names i ≡ Some name → among (take i names) name ≡ false

-- no two names are equal
abbrev pub AreDistinct : List (List ℕ) → Type 0
AreDistinct names = (i : ℕ) (name : List ℕ) → slice_get names i ≡ Some name → Contains (take i names) name → ⊥

-- the rule of a mode
abbrev pub FollowRule : Mode → List (List ℕ) → List (Option (List ℕ)) → Type 0
FollowRule Refuse names news = news ≡ map Some names
FollowRule Rename names news = (ns : List (List ℕ)) × (news ≡ map Some ns) × AreRenamed names ns
FollowRule Skip names news = AreKept names news

-- the names that are not dropped
abbrev pub given : List (Option (List ℕ)) → List (List ℕ)
given = filter_map (λ n. n)

-- ---- the same as functions ----

-- the least number from `k` on that makes a name that is not taken, with a bound on the tries
unfoldable pub least_free : ℕ → (List ℕ → Bool) → List ℕ → ℕ → ℕ
least_free zero taken name k = k
least_free (suc tries) taken name k = cond (taken (numbered name k)) (least_free tries taken name (k + 1)) k

unfoldable pub new_name : (all old chosen : List (List ℕ)) → List ℕ → List ℕ
new_name all old chosen name = cond (among old name) (numbered name (least_free (length (all ++ chosen)) (among (all ++ chosen)) name 1)) name

-- the new names of names that come after `old`
unfoldable pub renamed_behind : (all old chosen : List (List ℕ)) → List (List ℕ) → List (List ℕ)
renamed_behind all old chosen [] = []
renamed_behind all old chosen (n ∷ ns) =
    new_name all old chosen n ∷ renamed_behind all (old ++ n ∷ []) (chosen ++ new_name all old chosen n ∷ []) ns

abbrev pub renamed : List (List ℕ) → List (List ℕ)
renamed names = renamed_behind names [] [] names

unfoldable pub kept_behind : (old : List (List ℕ)) → List (List ℕ) → List (Option (List ℕ))
kept_behind old [] = []
kept_behind old (n ∷ ns) = cond (among old n) None (Some n) ∷ kept_behind (old ++ n ∷ []) ns

unfoldable pub conflict_behind : (old : List (List ℕ)) → List (List ℕ) → Option ℕ
conflict_behind old [] = None
conflict_behind old (n ∷ ns) = cond (among old n) (Some (length old)) (conflict_behind (old ++ n ∷ []) ns)

-- the place of the first name that repeats an earlier one
abbrev pub first_repeated : List (List ℕ) → Option ℕ
first_repeated names = conflict_behind [] names

-- the new name of each export, or none if it is dropped
abbrev pub new_names : Mode → List (List ℕ) → List (Option (List ℕ))
new_names Refuse names = map Some names
new_names Rename names = map Some (renamed names)
new_names Skip names = kept_behind [] names

-- the place of the first name that repeats an earlier one, if the mode allows none
abbrev pub conflict : Mode → List (List ℕ) → Option ℕ
conflict Refuse names = first_repeated names
conflict Rename names = None
conflict Skip names = None
