use Rattle.std.proofs.Common.{◌∙◌, ap, sym, map, option_and_then}
use Rattle.base_lists.specs.Options.{all_there}
use Rattle.serde_json.specs.Find.{as_str}
use Rattle.serde_json.specs.View.{view}
use Rattle.dce_graph.specs.GraphFile.{import_pair_of_two}
use Rattle.dce_graph.proofs.Texts.{texts_are}
use Rattle.dce_graph.proofs.entry.pair.Goals as goal

pub returns-in-Some : goal.returns-in-Some
returns-in-Some c =
    c.two_texts.ensures ∙ ap (λ vs. option_and_then import_pair_of_two (all_there as_str (map view vs))) c.as_slice.ensures.value
    ∙ ap (option_and_then import_pair_of_two) (sym (texts_are (view c.args.value.now) c.in-Some.values.now.items c.in-Some.ensures))
