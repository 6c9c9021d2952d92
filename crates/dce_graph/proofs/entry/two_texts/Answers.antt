use Rattle.dce_graph.proofs.Texts.{not_two}
use Rattle.dce_graph.proofs.entry.two_texts.Goals as goal

pub returns-then-values-ne2 : goal.returns-then-values-ne2
returns-then-values-ne2 c = not_two c.args.values.now c.if-values-ne2.true
