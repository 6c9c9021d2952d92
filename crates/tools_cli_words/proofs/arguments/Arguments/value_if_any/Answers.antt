use Rattle.base_lists.proofs.Common.{◌≡◌, ◌∙◌, ap, sym, true, false, rules, ◌+◌, ◌∷◌, drop, map, length, ◌≤◌, arith, Some, drop_all, is_some, bytes_eq}
use Rattle.tools_cli_words.specs.Arguments.{values_of}
use Rattle.tools_cli_words.specs.Meaning.{option_value}
use Rattle.tools_cli_words.proofs.Lines.{words_at, found_then, found_again, found_first, passed_value, all_found}
use Rattle.tools_cli_words.proofs.arguments.Arguments.value_if_any.Goals.{then-eq+else-is_some, else-eq}
use Rattle.tools_cli_words.proofs.arguments.Arguments.value_if_any.Goals as goal

pub returns-then-is_some : goal.returns-then-is_some
returns-then-is_some c =
    let option = c.args.option.now in
    let all = c.as_slice-valued-items.ensures.value in
    let i = c.loop-valued.valued-index in
    let found = c.loop-valued.found in
    let v = c.valued-item.result in
    let values = c.as_slice-valued-items.result.now in
    let rest = map option_value (drop (i + 1) values) in
    let at : map option_value (drop i values) ≡ option_value v ∷ rest = words_at option_value values i v c.loop-valued-test.true c.valued-item.is in
    let some : is_some found ≡ true = search rules in
    let is : bytes_eq v.option.now option ≡ true = search rules in
    found_again option found (option_value v) rest _ some is (ap (λ l. found_then found (values_of option l)) (sym at ∙ ap (λ l. map option_value (drop i l)) all) ∙ c.loop-valued.invariant)

pub loop-valued-preserved : goal.loop-valued-preserved
loop-valued-preserved c =
    let option = c.args.option.now in
    let all = c.as_slice-valued-items.ensures.value in
    let i = c.loop-valued.valued-index in
    let found = c.loop-valued.found in
    let v = c.valued-item.result in
    let values = c.as_slice-valued-items.result.now in
    let rest = map option_value (drop (i + 1) values) in
    let at : map option_value (drop i values) ≡ option_value v ∷ rest = words_at option_value values i v c.loop-valued-test.true c.valued-item.is in
    let before = ap (λ l. found_then found (values_of option l)) (sym at ∙ ap (λ l. map option_value (drop i l)) all) ∙ c.loop-valued.invariant in
    let same = ap (λ l. map option_value (drop (i + 1) l)) all in
    elim c.if-eq.branch [
      | then-eq+else-is_some w ↦
          let fresh : is_some found ≡ false = sym w.is_some.ensures ∙ w.if-is_some.false in
          let is : bytes_eq v.option.now option ≡ true = sym c.eq.ensures ∙ w.if-eq.true in
          ap (λ o. found_then o (values_of option (map option_value (drop (i + 1) c.args.self.now.values.items)))) w.found-is
          ∙ ap (λ l. found_then (Some w.as_str.result) (values_of option l)) (sym same)
          ∙ found_first option found w.as_str.result (option_value v) rest _ fresh is w.as_str.ensures.value before
      | else-eq w ↦
          let is : bytes_eq v.option.now option ≡ false = sym c.eq.ensures ∙ w.if-eq.false in
          ap (λ o. found_then o (values_of option (map option_value (drop (i + 1) c.args.self.now.values.items)))) w.found-is
          ∙ ap (λ l. found_then found (values_of option l)) (sym same)
          ∙ passed_value option found (option_value v) rest _ is before
    ]

pub returns : goal.returns
returns c =
    let same = ap length c.as_slice-valued-items.ensures.value in
    let past = c.loop-valued-test.false in
    let over : length c.args.self.now.values.items ≤ c.loop-valued.valued-index = omega arith in
    all_found c.loop-valued.found _ (ap (λ l. found_then c.loop-valued.found (values_of c.args.option.now (map option_value l)))
    (sym (drop_all c.loop-valued.valued-index c.args.self.now.values.items over)) ∙ c.loop-valued.invariant)
