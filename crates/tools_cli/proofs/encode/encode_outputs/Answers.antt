use Rattle.base_lists.proofs.Common.{◌≡◌, ◌++◌, ◌∷◌, [], rules, length, into_iter_items}
use Rattle.tools_cli.proofs.Encoding.{encoded_more, all_encoded}
use Rattle.tools_cli.proofs.encode.encode_outputs.Goals as goal

pub loop-output-preserved : goal.loop-output-preserved
loop-output-preserved c =
    let added : c.push.new.self.items ≡ c.loop-output.writes.items ++ c.in_ok-write.write ∷ [] = search rules in
    encoded_more _ c.loop-output.writes.items c.push.new.self.items c.in_ok-write.write c.in-Some.output _ _ added c.in-Some.ensures.steps.0 c.in_ok-write.ensures c.loop-output.invariant

pub returns : goal.returns
returns c =
    let none : length (into_iter_items c.loop-output.output-iterator) ≡ 0 = search rules in
    all_encoded _ c.loop-output.writes.items (into_iter_items c.loop-output.output-iterator) none c.loop-output.invariant
