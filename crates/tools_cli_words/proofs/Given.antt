-- The flags that are set in the matches.
use Rattle.base_lists.proofs.Common.{◌≡◌, ◌∙◌, refl, sym, ap, Bool, true, false, cond, List, [], ◌∷◌, ◌++◌, append_assoc, Some, codes, filter, list_any, bytes_eq}
use Rattle.clap.specs.Words.{one_text}
use Rattle.clap.specs.declared.parser.matches.Found.{Found}
use Rattle.tools_cli_words.specs.Arguments.{Text, said_flags}
use Rattle.tools_cli_words.specs.Reader.{GivesFlag}

flag_is : (found : Found) (said : List Text) (flag : Text) (r : Bool) → GivesFlag found said flag → (one_text found flag ≡ Some (codes "true") → r ≡ true)
    → (one_text found flag ≡ Some (codes "false") → r ≡ false) → list_any (bytes_eq flag) said ≡ r
flag_is found said flag r gives set unset = by (list_any (bytes_eq flag) said) gives
  where
    by : (b : Bool) → one_text found flag ≡ Some (cond b (codes "true") (codes "false")) → b ≡ r
    by true e = sym (set e)
    by false e = sym (unset e)

pub flag_set : (found : Found) (said : List Text) (flag : Text) (before rest all : List Text) (r : Bool) → GivesFlag found said flag → (one_text found flag ≡ Some (codes "true") → r ≡ true)
    → (one_text found flag ≡ Some (codes "false") → r ≡ false)
    → r ≡ true → before ++ said_flags (flag ∷ rest) said ≡ all → (before ++ flag ∷ []) ++ said_flags rest said ≡ all
flag_set found said flag before rest all r gives set unset is e =
    append_assoc before (flag ∷ []) (said_flags rest said)
    ∙ ap (λ b. before ++ cond b (flag ∷ said_flags rest said) (said_flags rest said)) (sym (flag_is found said flag r gives set unset ∙ is)) ∙ e

pub flag_unset : (found : Found) (said : List Text) (flag : Text) (before rest all : List Text) (r : Bool) → GivesFlag found said flag → (one_text found flag ≡ Some (codes "true") → r ≡ true)
    → (one_text found flag ≡ Some (codes "false") → r ≡ false)
    → r ≡ false → before ++ said_flags (flag ∷ rest) said ≡ all → before ++ said_flags rest said ≡ all
flag_unset found said flag before rest all r gives set unset is e =
    ap (λ b. before ++ cond b (flag ∷ said_flags rest said) (said_flags rest said)) (sym (flag_is found said flag r gives set unset ∙ is)) ∙ e
