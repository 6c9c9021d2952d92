-- The name that a table has for a function, if any.
use Rattle.std.specs.Prelude.{ℕ, Option, option_map}
use Rattle.std.specs.Borrow.{Bor}
use Rattle.std.specs.Ordering.{nat_cmp}
use Rattle.std.specs.BTreeMap.{BTreeMap, get_by}
use Rattle.tools_cli_words.specs.Arguments.{Text}

abbrev pub label_in : BTreeMap ℕ (Bor Text) → (func : ℕ) → Option Text
label_in labels func = option_map (λ name. name.now) (get_by (nat_cmp func) labels)
