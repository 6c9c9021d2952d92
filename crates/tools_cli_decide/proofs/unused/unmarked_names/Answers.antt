use Rattle.base_lists.proofs.Common.{◌≡◌, ◌∙◌, ap, sym, true, false, rules, ◌+◌, ◌<◌, length, drop, get_or, arith, nat_cmp, slice_cmp}
use Rattle.std.specs.BTreeSet.{insert_key}
use Rattle.dce_graph.specs.declared.graph.Node.{Node}
use Rattle.tools_cli_spec.specs.Prelude.{unmarked_from}
use Rattle.tools_cli_decide.specs.Prelude.{names_of}
use Rattle.tools_cli_spec.specs.Unmarked.{with_name}
use Rattle.tools_cli_decide.proofs.UnusedNames.{names_with, one_set_more, one_blank_more}
use Rattle.tools_cli_decide.proofs.unused.unmarked_names.Goals.{then-not-marks-place+in_ok-insert, else-not-marks-place}
use Rattle.tools_cli_decide.proofs.unused.unmarked_names.Goals as goal

pub loop-place-preserved : goal.loop-place-preserved
loop-place-preserved c =
    let nodes = c.args.nodes.now in
    let marks = c.args.marks.now in
    let i = c.loop-place.place in
    let keys = c.loop-place.names.keys in
    let lt : i < length nodes = c.loop-place-test.true in
    let long : i < length marks = omega (arith, c.requires, lt) in
    elim c.if-not-marks-place.branch [
      | then-not-marks-place+in_ok-insert w ↦
          let blank : get_or marks i false ≡ false = search rules in
          let added : c.if-not-marks-place.names.keys ≡ insert_key (λ x y. slice_cmp nat_cmp x.now y.now) keys w.as_str.result = search rules in
          c.loop-place.invariant ∙ one_blank_more (names_of keys) nodes marks i w.index-nodes-place.result lt long w.index-nodes-place.is blank
          ∙ ap (λ l. unmarked_from l (drop (i + 1) nodes) (drop (i + 1) marks)) (sym (ap names_of added ∙ names_with keys w.as_str.result ∙ ap (with_name (names_of keys)) (w.as_str.ensures.text ∙ sym (ap (λ (n : Node). n.name) w.index-nodes-place.is))))
      | else-not-marks-place w ↦
          let set : get_or marks i false ≡ true = search rules in
          let same : c.if-not-marks-place.names.keys ≡ keys = search rules in
          c.loop-place.invariant ∙ one_set_more (names_of keys) nodes marks i lt long set ∙ ap (λ l. unmarked_from (names_of l) (drop (i + 1) nodes) (drop (i + 1) marks)) (sym same)
    ]
