-- The names of the nodes without a mark: they ascend, they are complete, and no other list has
-- these properties.
use Rattle.base_lists.proofs.Common.{◌≡◌, ◌∙◌, ◌⊎◌, inl, inr, refl, sym, ap, subst, ℕ, zero, suc, List, [], ◌∷◌, get_or, Bool, true, false, Some, arith, slice_get, Contains, nat_cmp, slice_cmp}
use Rattle.std.specs.Ordering.{match_ordering, ordering_reverse}
use Rattle.std.specs.declared.cmp.Ordering.{Ordering}
use Rattle.std.specs.declared.cmp.Ordering.TheVariants.{Less, Equal, Greater}
use Rattle.std.specs.Cmp.{both_ways}
use Rattle.std.specs.List.{AllByRecursion}
use Rattle.std.specs.List.Sorted.{IsStrictlySortedBy}
use Rattle.std.specs.BTreeSet.{BTreeSet}
use Rattle.std.proofs.lemmas.Cmp.{nat_list_cmp_total}
use Rattle.std.proofs.lemmas.Map.Lookups.{exact_bytes, btree_set_from_contains}
use Rattle.std.proofs.lemmas.Map.Views.{btree_set_contains_iff}
use Rattle.wasm_tree_spec.specs.Prelude.{Module}
use Rattle.dce_graph.specs.declared.graph.Graph.{Graph}
use Rattle.dce_graph.specs.declared.graph.Node.{Node}
use Rattle.dce_graph.specs.declared.marks.Reached.{Reached}
use Rattle.dce_graph.specs.Prelude.{AreExact}
use Rattle.tools_cli_words.specs.Arguments.{Text}
use Rattle.tools_cli_spec.specs.Prelude.{unmarked_from, unmarked_names}
use Rattle.tools_cli_spec.specs.Unused.{AreUnused, IsUnused}
use Rattle.tools_cli_spec.specs.Unmarked.{with_name}
use Rattle.dce_graph.specs.declared.point.Point.TheVariants as point

-- A list that has one more element first contains this element and those of the rest, and no other.
contains_first : {A : Type 0} (x : A) (xs : List A) → Contains (x ∷ xs) x
contains_first x xs = (0, omega arith, refl)

contains_later : {A : Type 0} (x : A) (xs : List A) (y : A) → Contains xs y → Contains (x ∷ xs) y
contains_later x xs y (k, h, e) = (suc k, omega arith, e)

first_or_later : {A : Type 0} (x : A) (xs : List A) (y : A) → Contains (x ∷ xs) y → (x ≡ y) ⊎ Contains xs y
first_or_later x xs y (zero, lt, is) = inl is
first_or_later x xs y (suc k, lt, is) = inr (k, omega arith, is)

-- ---- one name more ----

in_with : (xs : List Text) (x name : Text) → Contains (with_name xs x) name → (x ≡ name) ⊎ Contains xs name
in_with [] x name h = first_or_later x [] name h
in_with (y ∷ ys) x name h = by (slice_cmp nat_cmp x y) h (λ k. in_with ys x name k)
  where
    after : (y ≡ name) ⊎ ((x ≡ name) ⊎ Contains ys name) → (x ≡ name) ⊎ Contains (y ∷ ys) name
    after (inl e) = inr (subst (Contains (y ∷ ys)) e (contains_first y ys))
    after (inr (inl e)) = inl e
    after (inr (inr k)) = inr (contains_later y ys name k)

    below : (Contains (with_name ys x) name → (x ≡ name) ⊎ Contains ys name) → (y ≡ name) ⊎ Contains (with_name ys x) name → (y ≡ name) ⊎ ((x ≡ name) ⊎ Contains ys name)
    below later (inl e) = inl e
    below later (inr k) = inr (later k)

    by : (o : Ordering) → Contains (match_ordering o (x ∷ y ∷ ys) (y ∷ ys) (y ∷ with_name ys x)) name → (Contains (with_name ys x) name → (x ≡ name) ⊎ Contains ys name) → (x ≡ name) ⊎ Contains (y ∷ ys) name
    by Less k later = first_or_later x (y ∷ ys) name k
    by Equal k later = inr k
    by Greater k later = after (below later (first_or_later y (with_name ys x) name k))

with_has : (xs : List Text) (x : Text) → Contains (with_name xs x) x
with_has [] x = contains_first x []
with_has (y ∷ ys) x = by (slice_cmp nat_cmp x y) refl (with_has ys x)
  where
    by : (o : Ordering) → slice_cmp nat_cmp x y ≡ o → Contains (with_name ys x) x → Contains (match_ordering o (x ∷ y ∷ ys) (y ∷ ys) (y ∷ with_name ys x)) x
    by Less e later = contains_first x (y ∷ ys)
    by Equal e later = subst (Contains (y ∷ ys)) (sym (exact_bytes x y e)) (contains_first y ys)
    by Greater e later = contains_later y (with_name ys x) x later

nowhere : {A : Type 0} (name : Text) → Contains [] name → A
nowhere name h = absurd (let lt = h.1 in omega (arith, lt))

with_keeps : (xs : List Text) (x name : Text) → Contains xs name → Contains (with_name xs x) name
with_keeps [] x name h = nowhere name h
with_keeps (y ∷ ys) x name h = by (slice_cmp nat_cmp x y) (λ k. with_keeps ys x name k)
  where
    after : (Contains ys name → Contains (with_name ys x) name) → (y ≡ name) ⊎ Contains ys name → Contains (y ∷ with_name ys x) name
    after later (inl e) = subst (Contains (y ∷ with_name ys x)) e (contains_first y (with_name ys x))
    after later (inr k) = contains_later y (with_name ys x) name (later k)

    by : (o : Ordering) → (Contains ys name → Contains (with_name ys x) name) → Contains (match_ordering o (x ∷ y ∷ ys) (y ∷ ys) (y ∷ with_name ys x)) name
    by Less later = contains_later x (y ∷ ys) name h
    by Equal later = h
    by Greater later = after later (first_or_later y ys name h)

each_with : (P : Text → Type 0) (xs : List Text) (x : Text) → AllByRecursion P xs → P x → AllByRecursion P (with_name xs x)
each_with P [] x h p = (p, tt)
each_with P (y ∷ ys) x h p = by (slice_cmp nat_cmp x y) (each_with P ys x h.1 p)
  where
    by : (o : Ordering) → AllByRecursion P (with_name ys x) → AllByRecursion P (match_ordering o (x ∷ y ∷ ys) (y ∷ ys) (y ∷ with_name ys x))
    by Less rest = (p, h)
    by Equal rest = h
    by Greater rest = (h.0, rest)

below_all : (x y : Text) (zs : List Text) → slice_cmp nat_cmp x y ≡ Less → AllByRecursion (λ z. slice_cmp nat_cmp y z ≡ Less) zs → AllByRecursion (λ z. slice_cmp nat_cmp x z ≡ Less) zs
below_all x y [] e h = tt
below_all x y (z ∷ zs) e h = (nat_list_cmp_total.trans x y z e h.0, below_all x y zs e h.1)

sorted_with : (xs : List Text) (x : Text) → IsStrictlySortedBy (slice_cmp nat_cmp) xs → IsStrictlySortedBy (slice_cmp nat_cmp) (with_name xs x)
unfolding IsStrictlySortedBy
sorted_with [] x h = (tt, tt)
sorted_with (y ∷ ys) x h = by (slice_cmp nat_cmp x y) refl (sorted_with ys x h.1)
  where
    by : (o : Ordering) → slice_cmp nat_cmp x y ≡ o → IsStrictlySortedBy (slice_cmp nat_cmp) (with_name ys x) → IsStrictlySortedBy (slice_cmp nat_cmp) (match_ordering o (x ∷ y ∷ ys) (y ∷ ys) (y ∷ with_name ys x))
    by Less e rest = ((e, below_all x y ys e h.0), h)
    by Equal e rest = h
    by Greater e rest = (each_with (λ z. slice_cmp nat_cmp y z ≡ Less) ys x h.0 (nat_list_cmp_total.antisymm y x ∙ ap ordering_reverse e), rest)

-- ---- the names of all nodes that have no mark ----

abbrev Unmarked : List Node → List Bool → Text → Type 0
Unmarked nodes marks name = (place : ℕ) × (node : Node) × (slice_get nodes place ≡ Some node) × (node.name ≡ name) × (get_or marks place false ≡ false)

abbrev Found : List Text → List Node → List Bool → Text → Type 0
Found names nodes marks name = Contains names name ⊎ Unmarked nodes marks name

taken_first : (names : List Text) (n : Node) (ns : List Node) (marks ms : List Bool) (name : Text) → get_or marks 0 false ≡ false → ((place : ℕ) → get_or ms place false ≡ false → get_or marks (suc place) false ≡ false) → Found (with_name names n.name) ns ms name → Found names (n ∷ ns) marks name
taken_first names n ns marks ms name first more (inl k) = by (in_with names n.name name k)
  where
    by : (n.name ≡ name) ⊎ Contains names name → Found names (n ∷ ns) marks name
    by (inl e) = inr (0, n, refl, e, first)
    by (inr k) = inl k
taken_first names n ns marks ms name first more (inr (place, node, at, is, un)) = inr (suc place, node, at, is, more place un)

passed_first : (names : List Text) (n : Node) (ns : List Node) (mark : Bool) (ms : List Bool) (name : Text) → Found names ns ms name → Found names (n ∷ ns) (mark ∷ ms) name
passed_first names n ns mark ms name (inl k) = inl k
passed_first names n ns mark ms name (inr (place, node, at, is, un)) = inr (suc place, node, at, is, un)

only_from : (names : List Text) (nodes : List Node) (marks : List Bool) (name : Text) → Contains (unmarked_from names nodes marks) name → Found names nodes marks name
only_from names [] marks name h = inl h
only_from names (n ∷ ns) [] name h = taken_first names n ns [] [] name refl (λ place un. refl) (only_from (with_name names n.name) ns [] name h)
only_from names (n ∷ ns) (true ∷ ms) name h = passed_first names n ns true ms name (only_from names ns ms name h)
only_from names (n ∷ ns) (false ∷ ms) name h = taken_first names n ns (false ∷ ms) ms name refl (λ place un. un) (only_from (with_name names n.name) ns ms name h)

keeps_from : (names : List Text) (nodes : List Node) (marks : List Bool) (name : Text) → Contains names name → Contains (unmarked_from names nodes marks) name
keeps_from names [] marks name h = h
keeps_from names (n ∷ ns) [] name h = keeps_from (with_name names n.name) ns [] name (with_keeps names n.name name h)
keeps_from names (n ∷ ns) (true ∷ ms) name h = keeps_from names ns ms name h
keeps_from names (n ∷ ns) (false ∷ ms) name h = keeps_from (with_name names n.name) ns ms name (with_keeps names n.name name h)

here_from : (names : List Text) (n node : Node) (ns : List Node) (ms : List Bool) → slice_get (n ∷ ns) 0 ≡ Some node → Contains (unmarked_from (with_name names n.name) ns ms) node.name
here_from names n node ns ms at =
    let same : n ≡ node = cc in
    keeps_from (with_name names n.name) ns ms node.name (subst (λ (x : Node). Contains (with_name names n.name) x.name) same (with_has names n.name))

has_from : (names : List Text) (nodes : List Node) (marks : List Bool) (place : ℕ) (node : Node) → slice_get nodes place ≡ Some node → get_or marks place false ≡ false → Contains (unmarked_from names nodes marks) node.name
has_from names [] marks place node at un = absurd (cc)
has_from names (n ∷ ns) [] zero node at un = here_from names n node ns [] at
has_from names (n ∷ ns) [] (suc place) node at un = has_from (with_name names n.name) ns [] place node at refl
has_from names (n ∷ ns) (true ∷ ms) zero node at un = absurd (cc)
has_from names (n ∷ ns) (true ∷ ms) (suc place) node at un = has_from names ns ms place node at un
has_from names (n ∷ ns) (false ∷ ms) zero node at un = here_from names n node ns ms at
has_from names (n ∷ ns) (false ∷ ms) (suc place) node at un = has_from (with_name names n.name) ns ms place node at un

sorted_from : (names : List Text) (nodes : List Node) (marks : List Bool) → IsStrictlySortedBy (slice_cmp nat_cmp) names → IsStrictlySortedBy (slice_cmp nat_cmp) (unmarked_from names nodes marks)
sorted_from names [] marks h = h
sorted_from names (n ∷ ns) [] h = sorted_from (with_name names n.name) ns [] (sorted_with names n.name h)
sorted_from names (n ∷ ns) (true ∷ ms) h = sorted_from names ns ms h
sorted_from names (n ∷ ns) (false ∷ ms) h = sorted_from (with_name names n.name) ns ms (sorted_with names n.name h)

not_set : (b : Bool) → (b ≡ true → ⊥) → b ≡ false
not_set true never = absurd (never refl)
not_set false never = refl

no_names_ascend : IsStrictlySortedBy (slice_cmp nat_cmp) []
unfolding IsStrictlySortedBy
no_names_ascend = tt

pub unmarked_unused : (g : Graph) (m : Module) (r : Reached) → AreExact g m r → AreUnused g m (unmarked_names g.nodes r.nodes)
unmarked_unused g m r exact = record {
  exactly = λ name. ((λ h. unused name (only_from [] g.nodes r.nodes name h)), λ h. listed name h);
  ascending = sorted_from [] g.nodes r.nodes no_names_ascend;
}
  where
    unused : (name : Text) → Found [] g.nodes r.nodes name → IsUnused g m name
    unused name (inl k) = nowhere name k
    unused name (inr (place, node, at, is, un)) = (place, node, at, is, λ reached. let set = (exact.exactly (point.Node place)).1 reached in cc)

    listed : (name : Text) → IsUnused g m name → Contains (unmarked_names g.nodes r.nodes) name
    listed name (place, node, at, is, un) =
        subst (Contains (unmarked_names g.nodes r.nodes)) is (has_from [] g.nodes r.nodes place node at (not_set (get_or r.nodes place false) (λ set. un ((exact.exactly (point.Node place)).0 set))))

-- ---- one list ----

abbrev set_of : List Text → BTreeSet Text
set_of names = record { keys = names }

lists_once : (xs ys : List Text) → IsStrictlySortedBy (slice_cmp nat_cmp) xs → IsStrictlySortedBy (slice_cmp nat_cmp) ys → ((name : Text) → Contains xs name → Contains ys name) → ((name : Text) → Contains ys name → Contains xs name) → xs ≡ ys
lists_once xs ys h k to from =
    btree_set_from_contains nat_list_cmp_total (set_of xs) (set_of ys) h k
    (λ q. both_ways _ _ (λ t. (btree_set_contains_iff nat_list_cmp_total exact_bytes (set_of ys) q).1 (to q ((btree_set_contains_iff nat_list_cmp_total exact_bytes (set_of xs) q).0 t)))
    (λ t. (btree_set_contains_iff nat_list_cmp_total exact_bytes (set_of xs) q).1 (from q ((btree_set_contains_iff nat_list_cmp_total exact_bytes (set_of ys) q).0 t))))
    exact_bytes

pub unused_once : (g : Graph) (m : Module) (xs ys : List Text) → AreUnused g m xs → AreUnused g m ys → xs ≡ ys
unused_once g m xs ys h k = lists_once xs ys h.ascending k.ascending (λ name c. (k.exactly name).1 ((h.exactly name).0 c)) (λ name c. (h.exactly name).1 ((k.exactly name).0 c))
