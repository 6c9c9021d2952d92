-- Names of nodes without a mark, one node after another.
use Rattle.base_lists.proofs.Common.{◌≡◌, ◌∙◌, refl, sym, ap, ap₂, ℕ, ◌+◌, ◌<◌, List, [], ◌∷◌, length, drop, drop-cons, get_or, Bool, true, false, cond, add-one, arith, nat_cmp, slice_cmp}
use Rattle.std.proofs.Common.{Bor}
use Rattle.std.specs.Ordering.{match_ordering}
use Rattle.std.specs.declared.cmp.Ordering.{Ordering}
use Rattle.std.specs.declared.cmp.Ordering.TheVariants.{Less, Equal, Greater}
use Rattle.std.specs.BTreeSet.{insert_key}
use Rattle.dce_graph.specs.declared.graph.Node.{Node}
use Rattle.tools_cli_words.specs.Arguments.{Text}
use Rattle.tools_cli_decide.specs.Prelude.{names_of}
use Rattle.tools_cli_spec.specs.Prelude.{unmarked_from}
use Rattle.tools_cli_spec.specs.Unmarked.{with_name}

pub names_with : (ks : List (Bor Text)) (k : Bor Text) → names_of (insert_key (λ x y. slice_cmp nat_cmp x.now y.now) ks k) ≡ with_name (names_of ks) k.now
names_with [] k = refl
names_with (x ∷ ks) k = by (slice_cmp nat_cmp k.now x.now) (names_with ks k)
  where
    by : (o : Ordering) → names_of (insert_key (λ x y. slice_cmp nat_cmp x.now y.now) ks k) ≡ with_name (names_of ks) k.now →
        names_of (match_ordering o (k ∷ x ∷ ks) (x ∷ ks) (x ∷ insert_key (λ x y. slice_cmp nat_cmp x.now y.now) ks k)) ≡ match_ordering o (k.now ∷ x.now ∷ names_of ks) (x.now ∷ names_of ks) (x.now ∷ with_name (names_of ks) k.now)
    by Less rest = refl
    by Equal rest = refl
    by Greater rest = ap (λ (l : List Text). x.now ∷ l) rest

-- The unmarked names of the first nodes, extended by one node.
pub one_node_more : (names : List Text) (nodes : List Node) (marks : List Bool) (i : ℕ) (d : Node) → i < length nodes → i < length marks
    → unmarked_from names (drop i nodes) (drop i marks) ≡ unmarked_from (cond (get_or marks i false) names (with_name names (get_or nodes i d).name)) (drop (i + 1) nodes) (drop (i + 1) marks)
one_node_more names nodes marks i d lt long =
    ap₂ (λ (ns : List Node) (bs : List Bool). unmarked_from names ns bs) (drop-cons nodes i d lt) (drop-cons marks i false long)
    ∙ ap (λ n. unmarked_from (cond (get_or marks i false) names (with_name names (get_or nodes i d).name)) (drop n nodes) (drop n marks)) (sym (add-one i))

pub one_set_more : (names : List Text) (nodes : List Node) (marks : List Bool) (i : ℕ) → i < length nodes → i < length marks → get_or marks i false ≡ true
    → unmarked_from names (drop i nodes) (drop i marks) ≡ unmarked_from names (drop (i + 1) nodes) (drop (i + 1) marks)
one_set_more names [] marks i lt long e = absurd (omega arith)
one_set_more names (n ∷ ns) marks i lt long e =
    one_node_more names (n ∷ ns) marks i n lt long
    ∙ ap (λ b. unmarked_from (cond b names (with_name names (get_or (n ∷ ns) i n).name)) (drop (i + 1) (n ∷ ns)) (drop (i + 1) marks)) e

pub one_blank_more : (names : List Text) (nodes : List Node) (marks : List Bool) (i : ℕ) (node : Node) → i < length nodes → i < length marks → node ≡ get_or nodes i node → get_or marks i false ≡ false
    → unmarked_from names (drop i nodes) (drop i marks) ≡ unmarked_from (with_name names node.name) (drop (i + 1) nodes) (drop (i + 1) marks)
one_blank_more names nodes marks i node lt long is e =
    one_node_more names nodes marks i node lt long
    ∙ ap (λ b. unmarked_from (cond b names (with_name names (get_or nodes i node).name)) (drop (i + 1) nodes) (drop (i + 1) marks)) e
    ∙ ap (λ (x : Node). unmarked_from (with_name names x.name) (drop (i + 1) nodes) (drop (i + 1) marks)) (sym is)
