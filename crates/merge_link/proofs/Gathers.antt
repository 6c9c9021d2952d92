-- The gathering of the memories that stay: the map has the first memory of each pair.
use Rattle.base_lists.proofs.Common.{◌≡◌, ◌∙◌, sym, ap, refl, subst, inl, inr, ℕ, suc, ◌++◌, List, [], ◌∷◌, Option, Some, None, Bool, true, false, cond, map, length, drop, slice_get, ◌-◌, ◌&&◌, nat_cmp, ordering_then, slice_cmp, is_eq-slice_cmp, cases_eq, and_false, push_last, push_before}
use Rattle.base_lists.proofs.Bools.{both_equal}
use Rattle.wasm_tree_spec.specs.Prelude.{Memories, Import}
use Rattle.std.specs.Ordering.{is_eq}
use Rattle.wasm_meaning.specs.Prelude.{Pair}
use Rattle.wasm_meaning.specs.Linking as linking
use Rattle.merge_spec.specs.declared.parts.Part.{Part}
use Rattle.merge_spec.specs.Prelude.{named_modules}
use Rattle.merge_link.specs.declared.sites.Site.{Site}
use Rattle.merge_link.specs.Prelude.{AreSites, the_site, first_memory}
use Rattle.merge_link.specs.Sites.{ImportExists}
use Rattle.merge_link.specs.Gathering.{is_memory_of, is_of_pair, is_memory_at, linked_at, EndsThere}
use Rattle.merge_link.proofs.Found.{there_at}
use Rattle.merge_link.specs.declared.part_tables.Ending.{Ending}
use Rattle.merge_link.proofs.Places.{same_text_is, same_text_back}

-- ---- what is no memory ends where it stays ----

not_same : (i : Import) → linking.has_kind Memories i ≡ false → (o : Option Import) → linking.same_memory i o ≡ false
not_same i is_no None = refl
not_same i is_no (Some j) = rw is_no refl

alone : (lp : List linking.Part) (i : Import) (ss : List linking.Site) (other : linking.Site) → linking.has_kind Memories i ≡ false → linking.first_site (linking.stays_as lp i) ss other ≡ other
alone lp i [] other is_no = refl
alone lp i (s ∷ ss) other is_no =
    let here : linking.stays_as lp i s ≡ false = ap (λ b. linking.is_outside s (linking.end_of lp s) && b) (not_same i is_no (linking.import_at lp s)) ∙ and_false (linking.is_outside s (linking.end_of lp s)) in
    ap (λ b. cond b s (linking.first_site (linking.stays_as lp i) ss other)) here ∙ alone lp i ss other is_no

pub gathered_other : (ps : List Part) (s : linking.Site) (i : Import) → linking.import_at (named_modules ps) s ≡ Some i → linking.has_kind Memories i ≡ false
    → linking.gathered (named_modules ps) (linking.Outside s) ≡ linking.Outside s
gathered_other ps s i at is_no = ap (linking.gathered_at (named_modules ps) s) at ∙ ap linking.Outside (alone (named_modules ps) i (linking.sites (named_modules ps)) s is_no)

-- ---- memories ----

abbrev pub chosen : linking.Site → Option Site → linking.Site
chosen other None = other
chosen other (Some s) = the_site s

same_one : (i : Import) → linking.has_kind Memories i ≡ true → (o : Option Import) → linking.same_memory i o ≡ is_of_pair (linking.pair_of i) o
same_one i is_yes None = refl
same_one i is_yes (Some j) = rw is_yes refl

same_first : (ps : List Part) (i : Import) (ss : List Site) (other : linking.Site) → linking.has_kind Memories i ≡ true
    → linking.first_site (linking.stays_as (named_modules ps) i) (map the_site ss) other ≡ chosen other (first_memory ps (linking.pair_of i) ss)
unfolding is_memory_of
same_first ps i [] other is_yes = refl
same_first ps i (s ∷ ss) other is_yes =
    let lp = named_modules ps in
    let here : linking.stays_as lp i (the_site s) ≡ is_memory_of ps (linking.pair_of i) s
    = ap (λ b. linking.is_outside (the_site s) (linking.end_of lp (the_site s)) && b) (same_one i is_yes (linking.import_at lp (the_site s))) in
    ap (λ b. cond b (the_site s) (linking.first_site (linking.stays_as lp i) (map the_site ss) other)) here ∙ by (is_memory_of ps (linking.pair_of i) s) (same_first ps i ss other is_yes)
  where
    by : (b : Bool) → linking.first_site (linking.stays_as (named_modules ps) i) (map the_site ss) other ≡ chosen other (first_memory ps (linking.pair_of i) ss)
        → cond b (the_site s) (linking.first_site (linking.stays_as (named_modules ps) i) (map the_site ss) other) ≡ chosen other (cond b (Some s) (first_memory ps (linking.pair_of i) ss))
    by true rest = refl
    by false rest = rest

pub gathered_memory : (ps : List Part) (sites : List Site) (s : linking.Site) (i : Import) (o : Option Site) → AreSites ps sites → linking.import_at (named_modules ps) s ≡ Some i → linking.has_kind Memories i ≡ true
    → first_memory ps (linking.pair_of i) sites ≡ o → linking.gathered (named_modules ps) (linking.Outside s) ≡ linking.Outside (chosen s o)
gathered_memory ps sites s i o are at is_yes first =
    ap (linking.gathered_at (named_modules ps) s) at
    ∙ ap linking.Outside (ap (λ ss. linking.first_site (linking.stays_as (named_modules ps) i) ss s) (sym are) ∙ same_first ps i sites s is_yes ∙ ap (chosen s) first)

-- ---- pairs as keys ----

pub pair_tested : (a b c d : List ℕ) → is_eq (ordering_then (slice_cmp nat_cmp a c) (slice_cmp nat_cmp b d)) ≡ linking.same_pair (c, d) (a, b)
pair_tested a b c d =
    both_equal (slice_cmp nat_cmp a c) (slice_cmp nat_cmp b d)
    ∙ ap (λ x. x && is_eq (slice_cmp nat_cmp b d)) (is_eq-slice_cmp a c ∙ sym (same_text_back c a ∙ same_text_is a c))
    ∙ ap (λ x. linking.same_text c a && x) (is_eq-slice_cmp b d ∙ sym (same_text_back d b ∙ same_text_is b d))
    ∙ by (linking.same_text c a) (linking.same_text d b)
  where
    by : (x y : Bool) → x && y ≡ x && y
    by true y = refl
    by false y = refl

-- ---- one import more ----

-- An import that is no staying memory is not the memory of any pair.
pub passed : (ps : List Part) (pair : Pair) (s : Site) (e : linking.End) → linking.end_of (named_modules ps) (the_site s) ≡ Some e
    → linking.is_outside (the_site s) (Some e) && is_memory_at (linking.import_at (named_modules ps) (the_site s)) ≡ false → is_memory_of ps pair s ≡ false
unfolding is_memory_of
passed ps pair s e end is_no = rw end (by (linking.is_outside (the_site s) (Some e)) (linking.import_at (named_modules ps) (the_site s)) is_no)
  where
    by : (b : Bool) (o : Option Import) → b && is_memory_at o ≡ false → b && is_of_pair pair o ≡ false
    by true None h = refl
    by true (Some i) h = rw h refl
    by false o h = refl

pub taken : (ps : List Part) (pair : Pair) (s : Site) (e : linking.End) (i : Import) → linking.end_of (named_modules ps) (the_site s) ≡ Some e
    → linking.is_outside (the_site s) (Some e) ≡ true → linking.import_at (named_modules ps) (the_site s) ≡ Some i → linking.has_kind Memories i ≡ true
    → is_memory_of ps pair s ≡ linking.same_pair pair (linking.pair_of i)
unfolding is_memory_of
taken ps pair s e i end out at is_yes = rw (end, out, at, is_yes) refl

-- The look-ups in the map, with one more import from the end on.
pub firsts_same : (ps : List Part) (pair : Pair) (sites : List Site) (i : ℕ) (s : Site) (o : Option Site) → drop (i - 1) sites ≡ s ∷ drop i sites → is_memory_of ps pair s ≡ false
    → o ≡ first_memory ps pair (drop i sites) → o ≡ first_memory ps pair (drop (i - 1) sites)
firsts_same ps pair sites i s o back is_no old = old ∙ sym (ap (first_memory ps pair) back ∙ ap (λ b. cond b (Some s) (first_memory ps pair (drop i sites))) is_no)

pub firsts_new : (ps : List Part) (pair : Pair) (sites : List Site) (i : ℕ) (s : Site) (b : Bool) (o n : Option Site) → drop (i - 1) sites ≡ s ∷ drop i sites → is_memory_of ps pair s ≡ b
    → n ≡ cond b (Some s) o → o ≡ first_memory ps pair (drop i sites) → n ≡ first_memory ps pair (drop (i - 1) sites)
firsts_new ps pair sites i s b o n back is new old =
    new ∙ ap (cond b (Some s)) old ∙ sym (ap (first_memory ps pair) back ∙ ap (λ x. cond x (Some s) (first_memory ps pair (drop i sites))) is)

pub linked_here : (ps : List Part) (s : Site) (e g : linking.End) → linking.end_of (named_modules ps) (the_site s) ≡ Some e → g ≡ linking.gathered (named_modules ps) e → Some g ≡ linked_at ps s
unfolding linked_at
linked_here ps s e g end is = sym (rw end (ap Some (sym is)))

first_place : (ps : List Part) (pair : Pair) (ss : List Site) (t : Site) → first_memory ps pair ss ≡ Some t → (n : ℕ) × (slice_get ss n ≡ Some t)
first_place ps pair [] t h = cc
first_place ps pair (s ∷ ss) t h = by (is_memory_of ps pair s) (λ k. let r = first_place ps pair ss t k in (suc r.0, r.1)) h
  where
    by : (b : Bool) → (first_memory ps pair ss ≡ Some t → (n : ℕ) × (slice_get (s ∷ ss) n ≡ Some t)) → cond b (Some s) (first_memory ps pair ss) ≡ Some t → (n : ℕ) × (slice_get (s ∷ ss) n ≡ Some t)
    by true more k = (0, k)
    by false more k = more k

pub first_there : (ps : List Part) (pair : Pair) (sites : List Site) (t : Site) → AreSites ps sites → first_memory ps pair sites ≡ Some t → ImportExists ps t
first_there ps pair sites t are h = let r = first_place ps pair sites t h in there_at ps sites r.0 t are r.1

pub there_more : (ps : List Part) (ends : List Ending) (e : Ending) → ((n : ℕ) (f : Ending) → slice_get ends n ≡ Some f → EndsThere ps f) → EndsThere ps e → (n : ℕ) (f : Ending) → slice_get (ends ++ e ∷ []) n ≡ Some f → EndsThere ps f
there_more ps ends e all here n f h = elim (cases_eq n (length ends)) [
  | inl same ↦ let is : e ≡ f = let l : slice_get (ends ++ e ∷ []) n ≡ Some e = ap (slice_get (ends ++ e ∷ [])) same ∙ push_last ends e in cc in subst (EndsThere ps) is here
  | inr other ↦ all n f (push_before ends e n f other h)
]

pub there_none : (ps : List Part) (ends : List Ending) → ends ≡ [] → (n : ℕ) (f : Ending) → slice_get ends n ≡ Some f → EndsThere ps f
there_none ps ends e n f h = let k = ap (λ es. slice_get es n) e in absurd (cc)
