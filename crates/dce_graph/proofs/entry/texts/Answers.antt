use Rattle.base_lists.proofs.Common.{◌≡◌, ◌∙◌, ap, sym, true, false, is_some, Some, list_all}
use Rattle.serde_json.specs.Find.{as_str}
use Rattle.serde_json.specs.View.{view}
use Rattle.dce_graph.specs.Prelude.{texts_in}
use Rattle.dce_graph.proofs.Texts.{texts_are, all_texts, not_all_texts}
use Rattle.dce_graph.proofs.entry.texts.Goals as goal

pub returns-then-are_texts : goal.returns-then-are_texts
returns-then-are_texts c =
    let vs = c.in-Some.values.now.items in
    let all : list_all (λ v. is_some (as_str (view v))) vs ≡ true = sym (c.are_texts.ensures ∙ ap (list_all (λ v. is_some (as_str (view v)))) c.as_slice.ensures.value) ∙ c.if-are_texts.true in
    ap (λ xs. Some (texts_in xs)) c.as_slice-then-are_texts.ensures.value ∙ sym (texts_are (view c.args.value.now) vs c.in-Some.ensures ∙ all_texts vs all)

pub returns-else-are_texts : goal.returns-else-are_texts
returns-else-are_texts c =
    let vs = c.in-Some.values.now.items in
    let all : list_all (λ v. is_some (as_str (view v))) vs ≡ false = sym (c.are_texts.ensures ∙ ap (list_all (λ v. is_some (as_str (view v)))) c.as_slice.ensures.value) ∙ c.if-are_texts.false in
    sym (texts_are (view c.args.value.now) vs c.in-Some.ensures ∙ not_all_texts vs all)
