use Rattle.base_lists.proofs.Common.{◌≡◌, ◌∙◌, true, false, is_some, get_or, take, sym, ap, get_by, slice_cmp, nat_cmp, list_any, bytes_eq, btree_map_updates_str}
use Rattle.base_lists.proofs.Texts.{known_more, map_more}
use Rattle.tools_cli_decide.specs.Prelude.{names_of}
use Rattle.tools_cli_decide.proofs.Apart.{no_word, one_more_name, apart_so_far, came_before}
use Rattle.tools_cli_decide.proofs.command_line.are_apart.Goals as goal

pub returns-then-contains_key : goal.returns-then-contains_key
unfolding no_word
returns-then-contains_key c =
    let xs = c.args.words.now in
    let i = c.loop-word.word-index in
    let found : list_any (bytes_eq (get_or xs i no_word).now) (names_of (take i xs)) ≡ true = sym (c.loop-word.invariant.known (get_or xs i no_word).now) ∙ sym c.contains_key.ensures ∙ c.if-contains_key.true in
    sym (came_before (λ w. w.now) xs i no_word c.loop-word-test.true found)

pub loop-word-preserved : goal.loop-word-preserved
unfolding no_word
loop-word-preserved c =
    let xs = c.args.words.now in
    let i = c.loop-word.word-index in
    let before = names_of (take i xs) in
    let word = (get_or xs i no_word).now in
    let new : list_any (bytes_eq word) before ≡ false = sym (c.loop-word.invariant.known word) ∙ sym c.contains_key.ensures ∙ c.if-contains_key.false in
    record {
      known = λ text.
          known_more (λ t. is_some (get_by (λ k. slice_cmp nat_cmp t k.now) c.loop-word.came)) (λ t. is_some (get_by (λ k. slice_cmp nat_cmp t k.now) c.insert.new.self)) before word c.loop-word.invariant.known
          (λ t. map_more (bytes_eq word t) _ _ (btree_map_updates_str word c.loop-word.came c.insert.new.self _ c.in_ok-insert.ensures.updates t)) text
          ∙ ap (list_any (bytes_eq text)) (sym (one_more_name (λ w. w.now) xs i no_word c.loop-word-test.true));
      apart = apart_so_far (λ w. w.now) xs i no_word c.loop-word-test.true c.loop-word.invariant.apart new;
    }
