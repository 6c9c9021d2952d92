-- The nodes that denote a module and a field are followed once for each module and field.
use Rattle.base_lists.proofs.Common.{◌≡◌, ◌∙◌, sym, ap, refl, subst, ℕ, ◌<◌, List, map, length, replicate, slice_set, Bool, true, false, Option, Some, None, ap₂, inl, ⊎_elim, arith, take_all}
use Rattle.base_lists.specs.Places.{places}
use Rattle.dce_graph.specs.declared.graph.Node.{Node as GraphNode}
use Rattle.dce_graph.specs.declared.marks.Reached.{Reached}
use Rattle.dce_graph.specs.declared.point.Point.{Point}
use Rattle.dce_graph.specs.declared.point.Point.TheVariants.{Node}
use Rattle.dce_graph.specs.declared.search.Search.{Search}
use Rattle.dce_graph.specs.declared.walk.Walk.{Walk}
use Rattle.dce_graph.specs.Prelude.{Text, Spread, place_in_kind, AreFollowed, found_pair, is_of_pair, last_place}
use Rattle.dce_graph.specs.Walks.{AreLookups, AreMet}
use Rattle.dce_graph.proofs.Marking.{list_other}
use Rattle.dce_graph.proofs.Searching.{none_marked}
use Rattle.dce_graph.proofs.NodeChainLaws.{IsLastBefore, last_before, meeting_starts, meeting_ends, pair_there}

-- A search that meets points that it met before does not change.
pub met_already : (s : Search) (ps : List Point) → AreMet s.marks ps → Spread s ps s
met_already s ps are = record {
  met = are;
  kept = λ q h. h;
  only = λ q h. inl h;
  fresh = λ q h. inl h;
  stays = λ q h. h;
  stacked = λ q h. inl h;
  weight = refl;
  as_many = λ q. refl;
}

pub none_followed : (nodes : List GraphNode) (n : ℕ) (r : Reached) → AreFollowed nodes (replicate n false) r
none_followed nodes n r = λ a b k is set. absurd (none_marked n k set)

-- A search never removes a mark, so nodes that were followed stay followed.
pub still_followed : (nodes : List GraphNode) (followed : List Bool) (a b : Search) (ps : List Point) → AreFollowed nodes followed a.marks → Spread a ps b → AreFollowed nodes followed b.marks
still_followed nodes followed a b ps are f = λ x y n is set q h has. f.kept q (are x y n is set q h (subst (λ m. place_in_kind q < m) (f.as_many q) has))

-- A look-up of a module and a field in the map gives the last node that denotes them.
pub stands_last : (w : Walk) (a b x y : Text) (found : Option ℕ) → AreLookups w → found ≡ found_pair w.last x y → x ≡ a → y ≡ b → last_place (is_of_pair a b) w.graph.now.nodes 0 ≡ found
stands_last w a b x y found lookups is same_module same_field =
    sym (is ∙ lookups.chains.last_one x y ∙ ap₂ (λ m f. last_place (is_of_pair m f) w.graph.now.nodes 0) same_module same_field)

-- A search does not change if no node denotes the module and the field.
pub none_stands : (nodes : List GraphNode) (test : GraphNode → Bool) (s : Search) → last_place test nodes 0 ≡ None → Spread s (map Node (places test nodes 0)) s
none_stands nodes test s is = meeting_ends nodes test None s s (meeting_starts nodes test None s (sym is)) refl

last_of_all : {A : Type 0} (test : A → Bool) (xs : List A) (n : ℕ) → last_place test xs 0 ≡ Some n → IsLastBefore test xs (length xs) n
last_of_all test xs n h = last_before test xs (length xs) n (omega arith) (ap (λ ys. last_place test ys 0) (take_all (length xs) xs (omega arith)) ∙ h)

-- A node denotes one module and field only.
one_pair : (nodes : List GraphNode) (a b x y : Text) (n : ℕ) → last_place (is_of_pair a b) nodes 0 ≡ Some n → last_place (is_of_pair x y) nodes 0 ≡ Some n → (a ≡ x) × (b ≡ y)
one_pair nodes a b x y n h k =
    let l = last_of_all (is_of_pair a b) nodes n h in
    let m = last_of_all (is_of_pair x y) nodes n k in
    let same : Some l.element ≡ Some m.element = sym l.at ∙ m.at in
    let element : l.element ≡ m.element = cc same in
    let p = pair_there a b l.element.import l.passes in
    let q = pair_there x y m.element.import m.passes in
    let both : Some p.0 ≡ Some q.0 = sym p.1 ∙ ap (λ e. e.import) element ∙ q.1 in
    let pair : p.0 ≡ q.0 = cc both in
    (sym p.2 ∙ ap (λ o. o.«module») pair ∙ q.2, sym p.3 ∙ ap (λ o. o.base) pair ∙ q.3)

-- After all nodes that denote a module and a field are met, these are followed too.
pub one_followed : (nodes : List GraphNode) (followed : List Bool) (s new : Search) (a b : Text) (n : ℕ) → AreFollowed nodes followed s.marks → last_place (is_of_pair a b) nodes 0 ≡ Some n
    → Spread s (map Node (places (is_of_pair a b) nodes 0)) new → AreFollowed nodes (slice_set followed n true) new.marks
one_followed nodes followed s new a b n are last f = λ x y k is set. ⊎_elim
    (λ same. let p = one_pair nodes a b x y n last (subst (λ m. last_place (is_of_pair x y) nodes 0 ≡ Some m) same is) in
    subst (λ t. AreMet new.marks (map Node (places (is_of_pair t y) nodes 0))) p.0 (subst (λ t. AreMet new.marks (map Node (places (is_of_pair a t) nodes 0))) p.1 met))
    (λ other. still_followed nodes followed s new (map Node (places (is_of_pair a b) nodes 0)) are f x y k is (sym other ∙ set))
    (list_other followed n k)
  where
    met : AreMet new.marks (map Node (places (is_of_pair a b) nodes 0))
    met q h has = f.met q h (subst (λ m. place_in_kind q < m) (f.as_many q) has)
