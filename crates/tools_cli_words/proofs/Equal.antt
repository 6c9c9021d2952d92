-- Membership of a text in a list of texts.
use Rattle.base_lists.proofs.Common.{◌≡◌, refl, sym, subst, true, false, Bool, List, [], ◌∷◌, ◌||◌, list_any, bytes_eq, bytes_eq-Decides}
use Rattle.base_lists.specs.Every.{Every}
use Rattle.tools_cli_words.specs.Arguments.{Text}

-- A property of each text of a list holds of a text that is equal to one of them.
pub of_member : (P : Text → Type 0) (texts : List Text) → Every P texts → (text : Text) → list_any (bytes_eq text) texts ≡ true → P text
of_member P [] h text e = absurd (cc)
of_member P (x ∷ texts) h text e = by (bytes_eq text x) refl e (of_member P texts h.1 text)
  where
    by : (b : Bool) → bytes_eq text x ≡ b → (b || list_any (bytes_eq text) texts) ≡ true → (list_any (bytes_eq text) texts ≡ true → P text) → P text
    by true is e more = subst P (sym ((bytes_eq-Decides text x).0 is)) h.0
    by false is e more = more e
