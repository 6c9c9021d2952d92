-- The places of names in a list that grows by one name.
use Rattle.base_lists.proofs.Common.{◌≡◌, ◌∙◌, sym, ap, refl, ℕ, zero, suc, ◌+◌, ◌<◌, List, [], ◌∷◌, ◌++◌, length, take, drop, get_or, Option, Some, None, Bool, true, false, cond, is_some, arith, option_map, bytes_eq, bytes_eq-Decides, length-take-le}
use Rattle.dce_graph.specs.declared.fault.GraphFault.{GraphFault}
use Rattle.dce_graph.specs.declared.fault.GraphFault.TheVariants.{UnknownNode}
use Rattle.std.proofs.lemmas.Bool.{false≢true}
use Rattle.base_lists.specs.Places.{first_place}
use Rattle.dce_graph.specs.Prelude.{Text, names_of, place_of_name, first_unknown, reached_names, entries_now}
use Rattle.dce_graph.specs.GraphFile.{repeated_after}
use Rattle.dce_graph.specs.declared.entry.Entry.{Entry as Read}
use Rattle.dce_graph.specs.Entries.{entry_now}
use Rattle.dce_graph.proofs.Steps.{left_more, done_more}

same_from : (x y : Text) → bytes_eq x y ≡ true → x ≡ y
same_from x y e = (bytes_eq-Decides x y).0 e

differ : (x y : Text) → (x ≡ y → ⊥) → bytes_eq x y ≡ false
differ x y never = by (bytes_eq x y) refl
  where
    by : (b : Bool) → bytes_eq x y ≡ b → b ≡ false
    by true e = absurd (never (same_from x y e))
    by false e = refl

pub same_back : (x y : Text) → bytes_eq x y ≡ bytes_eq y x
same_back x y = by (bytes_eq x y) refl
  where
    by : (b : Bool) → bytes_eq x y ≡ b → bytes_eq x y ≡ bytes_eq y x
    by true e = e ∙ sym ((bytes_eq-Decides y x).1 (sym (same_from x y e)))
    by false e = e ∙ sym (differ y x (λ s. false≢true (sym e ∙ (bytes_eq-Decides x y).1 (sym s))))

-- A name that is not in a list differs from the first name of the list and is not in the rest.
head_differs : (name b : Text) (before : List Text) (k : ℕ) → is_some (first_place (bytes_eq name) (b ∷ before) k) ≡ false → (bytes_eq name b ≡ false) × (is_some (first_place (bytes_eq name) before (suc k)) ≡ false)
head_differs name b before k h = by (bytes_eq name b) refl
  where
    by : (t : Bool) → bytes_eq name b ≡ t → (bytes_eq name b ≡ false) × (is_some (first_place (bytes_eq name) before (suc k)) ≡ false)
    by true e = let no = rw e at h in cc
    by false e = (e, (let rest = rw e at h in rest))

-- A new name has the last place of the longer list. The other names keep their places.
place_push : (before : List Text) (name q : Text) (k : ℕ) → is_some (first_place (bytes_eq name) before k) ≡ false
    → first_place (bytes_eq q) (before ++ name ∷ []) k ≡ cond (bytes_eq name q) (Some (k + length before)) (first_place (bytes_eq q) before k)
place_push [] name q k h = by (bytes_eq name q) refl
  where
    by : (t : Bool) → bytes_eq name q ≡ t → cond (bytes_eq q name) (Some k) None ≡ cond t (Some (k + 0)) None
    by true e = let yes = (bytes_eq-Decides q name).1 (sym (same_from name q e)) in rw yes (ap Some (let z : k ≡ k + 0 = omega arith in z))
    by false e = let no = differ q name (λ s. false≢true (sym e ∙ (bytes_eq-Decides name q).1 (sym s))) in rw no refl
place_push (b ∷ before) name q k h = by (bytes_eq q b) refl (place_push before name q (suc k) (head_differs name b before k h).1)
  where
    by : (t : Bool) → bytes_eq q b ≡ t → first_place (bytes_eq q) (before ++ name ∷ []) (suc k) ≡ cond (bytes_eq name q) (Some (suc k + length before)) (first_place (bytes_eq q) before (suc k))
        → cond t (Some k) (first_place (bytes_eq q) (before ++ name ∷ []) (suc k)) ≡ cond (bytes_eq name q) (Some (k + suc (length before))) (cond t (Some k) (first_place (bytes_eq q) before (suc k)))
    by true e ih = let no = differ name q (λ s. false≢true (sym (head_differs name b before k h).0 ∙ (bytes_eq-Decides name b).1 (s ∙ same_from q b e))) in rw no refl
    by false e ih = ih ∙ ap (λ n. cond (bytes_eq name q) (Some n) (first_place (bytes_eq q) before (suc k))) (let z : suc k + length before ≡ k + suc (length before) = omega arith in z)

pub name_at : (es : List Read) (i : ℕ) (d : Read) → i < length es → (get_or es i d).name.now ≡ get_or (names_of (entries_now es)) i (get_or es i d).name.now
name_at [] i d lt = absurd (omega arith)
name_at (x ∷ es) zero d lt = refl
name_at (x ∷ es) (suc i) d lt = name_at es i d (omega arith)

pub names_long : (es : List Read) → length (names_of (entries_now es)) ≡ length es
names_long [] = refl
names_long (x ∷ es) = ap suc (names_long es)

-- The first repeated name comes later where the current name is new.
pub repeated_more : (names : List Text) (i : ℕ) (name : Text) → i < length names → name ≡ get_or names i name → is_some (place_of_name (take i names) name) ≡ false
    → repeated_after (take i names) (drop i names) ≡ repeated_after (take (i + 1) names) (drop (i + 1) names)
repeated_more names i name within is new =
    ap (repeated_after (take i names)) (left_more names i name within is)
    ∙ ap (λ b. cond b (Some name) (repeated_after (take i names ++ name ∷ []) (drop (i + 1) names))) new
    ∙ ap (λ xs. repeated_after xs (drop (i + 1) names)) (sym (done_more names i name within is))

-- The first repeated name is the current name where that occurred before.
pub repeated_here : (names : List Text) (i : ℕ) (name : Text) → i < length names → name ≡ get_or names i name → is_some (place_of_name (take i names) name) ≡ true
    → repeated_after (take i names) (drop i names) ≡ Some name
repeated_here names i name within is old =
    ap (repeated_after (take i names)) (left_more names i name within is)
    ∙ ap (λ b. cond b (Some name) (repeated_after (take i names ++ name ∷ []) (drop (i + 1) names))) old

pub places_more : (names : List Text) (i : ℕ) (name q : Text) → i < length names → name ≡ get_or names i name → is_some (place_of_name (take i names) name) ≡ false
    → place_of_name (take (i + 1) names) q ≡ cond (bytes_eq name q) (Some i) (place_of_name (take i names) q)
places_more names i name q within is new =
    ap (λ xs. place_of_name xs q) (done_more names i name within is)
    ∙ place_push (take i names) name q 0 new
    ∙ ap (λ n. cond (bytes_eq name q) (Some n) (place_of_name (take i names) q)) (let z : 0 + length (take i names) ≡ i = omega (arith, length-take-le i names) in z)

-- If all names of the first list are known, the first unknown name of both is that of the second
-- list.
pub unknown_behind : (place : Text → Option ℕ) (ts us : List Text) → first_unknown place ts ≡ None → first_unknown place (ts ++ us) ≡ first_unknown place us
unknown_behind place [] us h = refl
unknown_behind place (t ∷ ts) us h = by (is_some (place t)) refl (unknown_behind place ts us)
  where
    by : (b : Bool) → is_some (place t) ≡ b → (first_unknown place ts ≡ None → first_unknown place (ts ++ us) ≡ first_unknown place us) → cond b (first_unknown place (ts ++ us)) (Some t) ≡ first_unknown place us
    by true e on = on (let k = rw e at h in k)
    by false e on = let k = rw e at h in cc

-- If the first list has an unknown name, the first unknown name of both is that of the first list.
pub unknown_before : (place : Text → Option ℕ) (ts us : List Text) (u : Text) → first_unknown place ts ≡ Some u → first_unknown place (ts ++ us) ≡ Some u
unknown_before place [] us u h = cc
unknown_before place (t ∷ ts) us u h = by (is_some (place t)) refl (unknown_before place ts us u)
  where
    by : (b : Bool) → is_some (place t) ≡ b → (first_unknown place ts ≡ Some u → first_unknown place (ts ++ us) ≡ Some u) → cond b (first_unknown place (ts ++ us)) (Some t) ≡ Some u
    by true e on = on (let k = rw e at h in k)
    by false e on = let k = rw e at h in k

-- The names that the entries from place `i` on reach are those of entry `i` and those of the
-- entries behind it.
pub reached_more : (es : List Read) (i : ℕ) (e : Read) → i < length es → e ≡ get_or es i e → reached_names (entries_now (drop i es)) ≡ (entry_now e).reaches ++ reached_names (entries_now (drop (i + 1) es))
reached_more es i e within is = ap (λ xs. reached_names (entries_now xs)) (left_more es i e within is)

-- The fault that names the first unknown name of the first list is also the fault of both lists.
pub unknown_in : (place : Text → Option ℕ) (ts us : List Text) (f : GraphFault) → option_map UnknownNode (first_unknown place ts) ≡ Some f → option_map UnknownNode (first_unknown place (ts ++ us)) ≡ Some f
unknown_in place ts us f h = by (first_unknown place ts) refl
  where
    by : (o : Option Text) → first_unknown place ts ≡ o → option_map UnknownNode (first_unknown place (ts ++ us)) ≡ Some f
    by None e = let no = rw e at h in cc
    by (Some u) e = ap (option_map UnknownNode) (unknown_before place ts us u e) ∙ (let k = rw e at h in k)
