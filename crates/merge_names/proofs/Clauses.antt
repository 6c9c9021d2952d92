-- The properties of the new names that the contracts state.
use Rattle.base_lists.proofs.Common.{◌≡◌, ◌∙◌, sym, ap, refl, subst, ℕ, ◌<◌, ◌≤◌, ◌^◌, List, [], ◌∷◌, length, arith, Option, Some, None, Ok, Err, Result, IsOk, IfOk, IfErr, length-map}
use Rattle.merge_names.specs.declared.mode.Mode.{Mode}
use Rattle.merge_names.specs.declared.mode.Mode.TheVariants.{Refuse, Rename, Skip}
use Rattle.merge_names.specs.declared.fault.NameFault.{NameFault}
use Rattle.merge_names.specs.declared.fault.NameFault.TheVariants.{Conflict, NoMemory}
use Rattle.merge_names.specs.Names.{given, new_names, conflict, FollowRule, AreDistinct, IsConflict, renamed}
use Rattle.merge_names.specs.Given.{IsConflictOf}
use Rattle.merge_names.proofs.Distinct.{given_differ}
use Rattle.merge_names.proofs.Renamed.{renamed_length}
use Rattle.merge_names.proofs.Rules.{follow_rules, kept_length, conflicts_first}

given_short : (news : List (Option (List ℕ))) → length (given news) ≤ length news
given_short [] = omega arith
given_short (None ∷ news) = omega (arith, given_short news)
given_short (Some n ∷ news) = omega (arith, given_short news)

one_each : (mode : Mode) (names : List (List ℕ)) → length (new_names mode names) ≡ length names
one_each Refuse names = length-map names Some
one_each Rename names = length-map (renamed names) Some ∙ renamed_length names [] [] names
one_each Skip names = kept_length [] names

pub chosen_follow : (mode : Mode) (names : List (List ℕ)) (result : Result (List (Option (List ℕ))) NameFault) → length names < 2 ^ 62 → IfOk result (λ news. news ≡ new_names mode names) → IfOk result (λ news. FollowRule mode names news)
chosen_follow mode names (Ok news) few is = subst (FollowRule mode names) (sym is) (follow_rules mode names few)
chosen_follow mode names (Err e) few is = tt

pub chosen_differ : (mode : Mode) (names : List (List ℕ)) (result : Result (List (Option (List ℕ))) NameFault) → length names < 2 ^ 62 → IfOk result (λ news. news ≡ new_names mode names) → (IsOk result → conflict mode names ≡ None) → IfOk result (λ news. AreDistinct (given news))
chosen_differ mode names (Ok news) few is none =
    subst (λ (x : List (Option (List ℕ))). AreDistinct (given x)) (sym is) (given_differ mode names (none refl) (omega (arith, given_short (new_names mode names), one_each mode names)))
chosen_differ mode names (Err e) few is none = tt

pub chosen_conflict : (mode : Mode) (names : List (List ℕ)) (result : Result (List (Option (List ℕ))) NameFault) → IfErr result (λ e. IsConflictOf e (conflict mode names)) → (place : ℕ) → result ≡ Err (Conflict place) → (mode ≡ Refuse) × IsConflict names place
chosen_conflict mode names (Ok news) is place e = cc
chosen_conflict mode names (Err (Conflict p)) is place e = let same : p ≡ place = cc in conflicts_first mode names place (is ∙ ap Some same)
chosen_conflict mode names (Err NoMemory) is place e = cc
