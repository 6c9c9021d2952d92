use Rattle.base_lists.proofs.Common.{◌≡◌, ◌++◌, ◌∷◌, [], rules, length, into_iter_items}
use Rattle.tools_cli_words.proofs.Lines.{one_taken, all_taken}
use Rattle.tools_cli_words.proofs.lists.listed_words.Goals as goal

pub loop-piece-preserved : goal.loop-piece-preserved
loop-piece-preserved c =
    let added : c.keep.new.self ≡ c.loop-piece.words ++ c.in_ok-from_text.field-0 ∷ [] = c.in_ok-keep.ensures.ok in
    let same : c.in_ok-from_text.field-0 ≡ c.in-Some.piece.now = search rules in
    one_taken c.loop-piece.words c.keep.new.self _ c.in_ok-from_text.field-0 c.in-Some.piece (into_iter_items c.loop-piece.piece-iterator) (into_iter_items c.next.new.self) added same
    c.in-Some.ensures.steps.0 c.loop-piece.invariant

pub returns : goal.returns
returns c =
    let none : length (into_iter_items c.loop-piece.piece-iterator) ≡ 0 = search rules in
    all_taken c.loop-piece.words _ (into_iter_items c.loop-piece.piece-iterator) none c.loop-piece.invariant
