-- The chain of the nodes that denote one module and field, from the last to the first.
use Rattle.base_lists.proofs.Common.{◌≡◌, ◌∙◌, sym, ap, refl, ℕ, zero, suc, ◌+◌, ◌<◌, ◌≤◌, List, [], ◌∷◌, ◌++◌, map, take, drop, length, Bool, true, false, cond, Option, Some, None, slice_get, subst, ap₂, ◌&&◌, inl, inr, ⊎_elim, arith, Contains, option_and_then, option_or, nat_cmp, ordering_then}
use Rattle.base_lists.proofs.Common.{slice_cmp, cases_eq, is_eq-slice_cmp, slice_get_within, push_last, push_before, append_at_left, bytes_eq, and_parts, length-append, length-take-le, take_all, drop_all, take-append-le, Contains-push, Contains-append_left, Contains-append_right}
use Rattle.base_lists.proofs.Common.{Contains-push_cases, Contains-append_cases, bytes_eq-Decides}
use Rattle.base_lists.proofs.Bools.{both_equal}
use Rattle.std.specs.BTreeMap.{BTreeMap}
use Rattle.std.specs.Ordering.{is_eq}
use denote.Ref.{Bor}
use Rattle.base_lists.specs.Places.{places}
use Rattle.dce_graph.specs.declared.graph.ImportPair.{ImportPair}
use Rattle.dce_graph.specs.declared.graph.Node.{Node as GraphNode}
use Rattle.dce_graph.specs.declared.point.Point.{Point}
use Rattle.dce_graph.specs.declared.point.Point.TheVariants.{Node}
use Rattle.dce_graph.specs.declared.search.Search.{Search}
use Rattle.dce_graph.specs.declared.walk.Walk.{Walk}
use Rattle.dce_graph.specs.Prelude.{Text, Spread, pair_is, last_place, is_of_pair, found_pair, AreNodeChains}
use Rattle.dce_graph.specs.Walks.{last_of_pair, AreLookups, IsMeeting, ahead}
use Rattle.dce_graph.proofs.Marking.{spread_none, spread_then, spread_as}

-- If no element of the first list passes the test, all places of elements that pass lie in the
-- second list.
none_joined : {A : Type 0} (test : A → Bool) (xs zs : List A) (j : ℕ) → last_place test xs j ≡ None → places test (xs ++ zs) j ≡ places test zs (j + length xs)
none_joined test [] zs j h = ap (places test zs) (let e : j ≡ j + 0 = omega arith in e)
none_joined {A} test (x ∷ xs) zs j h = by (last_place test xs (suc j)) refl (test x) refl (none_joined test xs zs (suc j))
  where
    by : (o : Option ℕ) → last_place test xs (suc j) ≡ o → (b : Bool) → test x ≡ b → (last_place test xs (suc j) ≡ None → places test (xs ++ zs) (suc j) ≡ places test zs (suc j + length xs)) → places test (x ∷ xs ++ zs) j ≡ places test zs (j + suc (length xs))
    by (Some m) e b f on = let bad = rw e at h in cc
    by None e true f on = let bad = rw (e, f) at h in cc
    by None e false f on = ap (λ t. cond t (j ∷ places test (xs ++ zs) (suc j)) (places test (xs ++ zs) (suc j))) f ∙ on e ∙ ap (places test zs) (let k : suc j + length xs ≡ j + suc (length xs) = omega arith in k)

-- The last element of the list `xs` that passes the test, where the list `zs` follows `xs`.
pub record IsLast {A : Type 0} (test : A → Bool) (xs zs : List A) (j n : ℕ) : Type 0 where
  pub place : ℕ
  pub element : A
  pub is : n ≡ j + place
  pub within : place < length xs
  pub at : slice_get (xs ++ zs) place ≡ Some element
  pub passes : test element ≡ true
  pub behind : places test (drop place (xs ++ zs)) n ≡ n ∷ places test zs (j + length xs)

last_joined : {A : Type 0} (test : A → Bool) (xs zs : List A) (j n : ℕ) → last_place test xs j ≡ Some n → IsLast test xs zs j n
last_joined test [] zs j n h = cc
last_joined {A} test (x ∷ xs) zs j n h = by (last_place test xs (suc j)) refl (test x) refl (λ e. last_joined test xs zs (suc j) n e)
  where
    by : (o : Option ℕ) → last_place test xs (suc j) ≡ o → (b : Bool) → test x ≡ b → (last_place test xs (suc j) ≡ Some n → IsLast test xs zs (suc j) n) → IsLast test (x ∷ xs) zs j n
    by (Some m) e b f on =
        let same : Some m ≡ Some n = rw e at h in
        let r = on (e ∙ same) in
        record {
          place = suc r.place;
          element = r.element;
          is = omega (arith, r.is);
          within = omega (arith, r.within);
          at = r.at;
          passes = r.passes;
          behind = r.behind ∙ ap (λ k. n ∷ places test zs k) (let k : suc j + length xs ≡ j + suc (length xs) = omega arith in k);
        }
    by None e true f on =
        let some : Some j ≡ Some n = rw (e, f) at h in
        let same : j ≡ n = cc in
        record {
          place = 0;
          element = x;
          is = omega (arith, same);
          within = omega arith;
          at = refl;
          passes = f;
          behind =
              ap (places test (x ∷ xs ++ zs)) (sym same)
              ∙ ap (λ t. cond t (j ∷ places test (xs ++ zs) (suc j)) (places test (xs ++ zs) (suc j))) f
              ∙ ap (λ ps. j ∷ ps) (none_joined test xs zs (suc j) e ∙ ap (places test zs) (let k : suc j + length xs ≡ j + suc (length xs) = omega arith in k))
              ∙ ap (λ k. k ∷ places test zs (j + suc (length xs))) same;
        }
    by None e false f on = let bad = rw (e, f) at h in cc

split : {A : Type 0} (k : ℕ) (xs : List A) → take k xs ++ drop k xs ≡ xs
split zero xs = refl
split (suc k) [] = refl
split (suc k) (x ∷ xs) = ap (λ ys. x ∷ ys) (split k xs)

-- The last element among the first `k` that passes the test.
pub record IsLastBefore {A : Type 0} (test : A → Bool) (xs : List A) (k n : ℕ) : Type 0 where
  pub element : A
  pub before : n < k
  pub at : slice_get xs n ≡ Some element
  pub passes : test element ≡ true
  pub behind : places test (drop n xs) n ≡ n ∷ places test (drop k xs) k

pub last_before : {A : Type 0} (test : A → Bool) (xs : List A) (k n : ℕ) → k ≤ length xs → last_place test (take k xs) 0 ≡ Some n → IsLastBefore test xs k n
last_before test xs k n le h =
    let r = last_joined test (take k xs) (drop k xs) 0 n h in
    let long : length (take k xs) ≡ k = length-take-le k xs le in
    let same : r.place ≡ n = let e = r.is in omega (arith, e) in
    record {
      element = r.element;
      before = let w = r.within in omega (arith, w, same, long);
      at = subst (λ p. slice_get xs p ≡ Some r.element) same (subst (λ ys. slice_get ys r.place ≡ Some r.element) (split k xs) r.at);
      passes = r.passes;
      behind = subst (λ p. places test (drop p xs) n ≡ n ∷ places test (drop k xs) k) same
          (subst (λ ys. places test (drop r.place ys) n ≡ n ∷ places test (drop k xs) k) (split k xs)
          (r.behind ∙ ap (λ m. n ∷ places test (drop k xs) m) (let e : 0 + length (take k xs) ≡ k = omega (arith, long) in e)));
    }

pub none_before : {A : Type 0} (test : A → Bool) (xs : List A) (k : ℕ) → k ≤ length xs → last_place test (take k xs) 0 ≡ None → places test (drop k xs) k ≡ places test xs 0
none_before test xs k le h =
    let long : length (take k xs) ≡ k = length-take-le k xs le in
    sym (ap (λ ys. places test ys 0) (sym (split k xs)) ∙ none_joined test (take k xs) (drop k xs) 0 h ∙ ap (places test (drop k xs)) (let e : 0 + length (take k xs) ≡ k = omega (arith, long) in e))

-- The last place of a list with one more element is that of the new element if it passes the test.
pub last_more : {A : Type 0} (test : A → Bool) (xs : List A) (x : A) (j : ℕ) → last_place test (xs ++ x ∷ []) j ≡ cond (test x) (Some (j + length xs)) (last_place test xs j)
last_more test [] x j = by (test x)
  where
    by : (b : Bool) → cond b (Some j) None ≡ cond b (Some (j + 0)) None
    by true = ap Some (let e : j ≡ j + 0 = omega arith in e)
    by false = refl
last_more test (y ∷ ys) x j = ap (λ o. option_or o (cond (test y) (Some j) None)) (last_more test ys x (suc j)) ∙ by (test x)
  where
    by : (b : Bool) → option_or (cond b (Some (suc j + length ys)) (last_place test ys (suc j))) (cond (test y) (Some j) None) ≡ cond b (Some (j + suc (length ys))) (option_or (last_place test ys (suc j)) (cond (test y) (Some j) None))
    by true = ap Some (let e : suc j + length ys ≡ j + suc (length ys) = omega arith in e)
    by false = refl

-- ---- meeting them ----

-- A node that denotes a module and a field has an import with these texts.
pub pair_there : (a b : Text) (o : Option ImportPair) → pair_is a b o ≡ true → (pair : ImportPair) × (o ≡ Some pair) × (pair.«module» ≡ a) × (pair.base ≡ b)
pair_there a b None h = cc
pair_there a b (Some pair) h =
    let both = and_parts (bytes_eq pair.«module» a) (bytes_eq pair.base b) h in
    (pair, refl, (bytes_eq-Decides pair.«module» a).0 both.0, (bytes_eq-Decides pair.base b).0 both.1)

pub meeting_starts : (nodes : List GraphNode) (test : GraphNode → Bool) (next : Option ℕ) (s : Search) → next ≡ last_place test nodes 0 → IsMeeting nodes test next s s
meeting_starts nodes test next s is =
    let n = length nodes in
    let whole : take n nodes ≡ nodes = take_all n nodes (omega arith) in
    let rest : drop n nodes ≡ [] = drop_all n nodes (omega arith) in
    record {
      from = n;
      there = omega arith;
      next_is = is ∙ ap (λ xs. last_place test xs 0) (sym whole);
      spread = subst (λ xs. Spread s (map Node (places test xs n)) s) (sym rest) (spread_none s);
    }

pub meeting_last : (nodes : List GraphNode) (test : GraphNode → Bool) (next : Option ℕ) (old s : Search) (n : ℕ) → IsMeeting nodes test next old s → next ≡ Some n → (k : ℕ) × IsLastBefore test nodes k n
meeting_last nodes test next old s n m is = (m.from, last_before test nodes m.from n m.there (sym m.next_is ∙ is))

-- The entry of a node in the chain is the last node before it that denotes the same module and
-- field.
pub next_is : (w : Walk) (a b : Text) (k n : ℕ) → AreLookups w → IsLastBefore (is_of_pair a b) w.graph.now.nodes k n → slice_get w.before.items n ≡ Some (last_place (is_of_pair a b) (take n w.graph.now.nodes) 0)
next_is w a b k n lookups l =
    let nodes = w.graph.now.nodes in
    let p = pair_there a b l.element.import l.passes in
    lookups.chains.before_it n l.element l.at
    ∙ ap Some (ap (option_and_then (last_of_pair (take n nodes))) p.1 ∙ ap (λ x. last_place (is_of_pair x p.0.base) (take n nodes) 0) p.2 ∙ ap (λ y. last_place (is_of_pair a y) (take n nodes) 0) p.3)

pub meeting_more : (nodes : List GraphNode) (test : GraphNode → Bool) (next following : Option ℕ) (old s new : Search) (n : ℕ) → IsMeeting nodes test next old s → next ≡ Some n → Spread s (Node n ∷ []) new
    → following ≡ last_place test (take n nodes) 0 → IsMeeting nodes test following old new
meeting_more nodes test next following old s new n m is met follows =
    let l = last_before test nodes m.from n m.there (sym m.next_is ∙ is) in
    let done = map Node (places test (drop m.from nodes) m.from) in
    let all : Spread old (done ++ Node n ∷ []) new = spread_then old s new done (Node n ∷ []) m.spread met in
    record {
      from = n;
      there = let x = l.before in let y = m.there in omega (arith, x, y);
      next_is = follows;
      spread = subst (λ ps. Spread old (map Node ps) new) (sym l.behind) (spread_as old new (done ++ Node n ∷ []) (Node n ∷ done) (to_front done (Node n)) (to_back done (Node n)) all);
    }
  where
    to_front : (ps : List Point) (p : Point) (q : Point) → Contains (ps ++ p ∷ []) q → Contains (p ∷ ps) q
    to_front ps p q h = ⊎_elim (λ k. Contains-append_right (p ∷ []) ps q k) (λ e. subst (Contains (p ∷ ps)) e (Contains-append_left (p ∷ []) ps p (Contains-push [] p))) (Contains-push_cases ps p q h)

    to_back : (ps : List Point) (p : Point) (q : Point) → Contains (p ∷ ps) q → Contains (ps ++ p ∷ []) q
    to_back ps p q h = ⊎_elim (λ k. Contains-append_right ps (p ∷ []) q k) (λ k. Contains-append_left ps (p ∷ []) q k) (Contains-append_cases (p ∷ []) ps q h)

pub nearer : (nodes : List GraphNode) (test : GraphNode → Bool) (next following : Option ℕ) (n : ℕ) → n < length nodes → next ≡ Some n → following ≡ last_place test (take n nodes) 0 → ahead following < ahead next
nearer nodes test next None n lt is follows = subst (λ o. 0 < ahead o) (sym is) (omega arith)
nearer nodes test next (Some m) n lt is follows =
    let l = last_before test nodes n m (omega arith) (sym follows) in
    subst (λ o. suc m < ahead o) (sym is) (let b = l.before in omega (arith, b))

pub meeting_ends : (nodes : List GraphNode) (test : GraphNode → Bool) (next : Option ℕ) (old s : Search) → IsMeeting nodes test next old s → next ≡ None → Spread old (map Node (places test nodes 0)) s
meeting_ends nodes test next old s m is = subst (λ ps. Spread old (map Node ps) s) (none_before test nodes m.from m.there (sym m.next_is ∙ is)) m.spread

-- ---- the tables ----

pub pair_tested : (m f a b : Text) (pair : ImportPair) → m ≡ pair.«module» → f ≡ pair.base → is_eq (ordering_then (slice_cmp nat_cmp m a) (slice_cmp nat_cmp f b)) ≡ pair_is a b (Some pair)
pair_tested m f a b pair is_m is_f =
    both_equal (slice_cmp nat_cmp m a) (slice_cmp nat_cmp f b)
    ∙ ap₂ (λ x y. x && y) (is_eq-slice_cmp m a ∙ ap (λ t. bytes_eq t a) is_m) (is_eq-slice_cmp f b ∙ ap (λ t. bytes_eq t b) is_f)

pub one_longer : {A : Type 0} (xs : List A) (x : A) (n : ℕ) → length xs ≡ n → length (xs ++ x ∷ []) ≡ n + 1
one_longer xs x n h = omega (arith, length-append xs (x ∷ []), h)

-- The chains stay right when one more node is noted.
pub standing_more : (ns : List GraphNode) (x : GraphNode) (old new : BTreeMap (Bor Text × Bor Text) ℕ) (before : List (Option ℕ)) (d : Option ℕ) → AreNodeChains ns old before → length before ≡ length ns
    → ((a b : Text) → found_pair new a b ≡ cond (pair_is a b x.import) (Some (length ns)) (found_pair old a b)) → d ≡ option_and_then (λ pair. found_pair old pair.«module» pair.base) x.import
    → AreNodeChains (ns ++ x ∷ []) new (before ++ d ∷ [])
standing_more ns x old new before d are long noted is = record {
  last_one = λ a b. noted a b ∙ ap (cond (pair_is a b x.import) (Some (length ns))) (are.last_one a b) ∙ sym (last_more (is_of_pair a b) ns x 0 ∙ ap (λ n. cond (pair_is a b x.import) (Some n) (last_place (is_of_pair a b) ns 0)) (let e : 0 + length ns ≡ length ns = omega arith in e));
  before_it = λ n node h. elim (cases_eq n (length ns)) [
    | inl e ↦
        let at_end : slice_get (ns ++ x ∷ []) n ≡ Some x = ap (slice_get (ns ++ x ∷ [])) e ∙ push_last ns x in
        let same : x ≡ node = cc (sym at_end ∙ h) in
        let front : take n (ns ++ x ∷ []) ≡ ns = ap (λ k. take k (ns ++ x ∷ [])) e ∙ take-append-le (length ns) ns (x ∷ []) (omega arith) ∙ take_all (length ns) ns (omega arith) in
        ap (slice_get (before ++ d ∷ [])) (e ∙ sym long) ∙ push_last before d
        ∙ ap Some (is ∙ found_last x.import ∙ ap (λ xs. option_and_then (last_of_pair xs) x.import) (sym front) ∙ ap (λ y. option_and_then (last_of_pair (take n (ns ++ x ∷ []))) y.import) same)
    | inr ne ↦
        let old_one = push_before ns x n node ne h in
        append_at_left before (d ∷ []) n _ (are.before_it n node old_one)
        ∙ ap (λ xs. Some (option_and_then (last_of_pair xs) node.import)) (sym (take-append-le n ns (x ∷ []) (let l = slice_get_within ns n node old_one in omega (arith, l))))
  ];
}
  where
    found_last : (o : Option ImportPair) → option_and_then (λ pair. found_pair old pair.«module» pair.base) o ≡ option_and_then (last_of_pair ns) o
    found_last None = refl
    found_last (Some pair) = are.last_one pair.«module» pair.base
