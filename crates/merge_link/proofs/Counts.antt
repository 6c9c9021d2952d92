-- Counts of memories.
use Rattle.base_lists.proofs.Common.{◌≡◌, ◌∙◌, sym, ap, refl, ℕ, zero, suc, ◌+◌, ◌<◌, ◌≤◌, List, [], ◌∷◌, Option, Some, None, Bool, true, false, cond, map, length, drop, get_or, nat_lt, arith, option_and_then, unwrap_or, ◌&&◌, drop_more, nat_tests}
use Rattle.wasm_tree_spec.specs.Prelude.{Space, Memories, Import, Module}
use Rattle.wasm_meaning.specs.Linking as linking
use Rattle.wasm_meaning.specs.Prelude.{defined_before, defined_count}
use Rattle.merge_spec.specs.declared.parts.Part.{Part}
use Rattle.merge_spec.specs.Faults as faults
use Rattle.merge_spec.specs.Prelude.{named_modules}
use Rattle.merge_link.specs.declared.sites.Site.{Site}
use Rattle.merge_link.specs.Prelude.{AreSites, the_site}
use Rattle.merge_link.specs.Gathering.{is_memory_at, linked_at}

pub defined_none : (k : Space) (lp : List linking.Part) → defined_before k lp 0 ≡ 0
defined_none k [] = refl
defined_none k (x ∷ lp) = refl

pub defined_more : (k : Space) (lp : List linking.Part) (p : ℕ) (m : Module) → linking.module_at lp p ≡ Some m → defined_before k lp (suc p) ≡ defined_before k lp p + defined_count k m
defined_more k [] p m h = cc
defined_more k (x ∷ lp) zero m h = let e : x.«module» ≡ m = cc in omega (arith, ap (defined_count k) e, defined_none k lp)
defined_more k (x ∷ lp) (suc p) m h = omega (arith, defined_more k lp p m h)

pub defined_most : (k : Space) (lp : List linking.Part) (p : ℕ) → defined_before k lp p ≤ defined_before k lp (length lp)
defined_most k [] p = omega arith
defined_most k (x ∷ lp) zero = omega arith
defined_most k (x ∷ lp) (suc p) = omega (arith, defined_most k lp p)

one_on : {A : Type 0} (test : A → Bool) (xs : List A) (i : ℕ) (x : A) → i < length xs → x ≡ get_or xs i x → linking.count_of test (drop i xs) ≡ cond (test x) (suc (linking.count_of test (drop (i + 1) xs))) (linking.count_of test (drop (i + 1) xs))
one_on test xs i x h is = ap (linking.count_of test) (drop_more xs i x h) ∙ ap (λ y. cond (test y) (suc (linking.count_of test (drop (i + 1) xs))) (linking.count_of test (drop (i + 1) xs))) (sym is)

pub count_yes : {A : Type 0} (test : A → Bool) (xs : List A) (i : ℕ) (x : A) → i < length xs → x ≡ get_or xs i x → test x ≡ true → linking.count_of test (drop i xs) ≡ suc (linking.count_of test (drop (i + 1) xs))
count_yes test xs i x h is t = one_on test xs i x h is ∙ ap (λ b. cond b (suc (linking.count_of test (drop (i + 1) xs))) (linking.count_of test (drop (i + 1) xs))) t

pub count_not : {A : Type 0} (test : A → Bool) (xs : List A) (i : ℕ) (x : A) → i < length xs → x ≡ get_or xs i x → test x ≡ false → linking.count_of test (drop i xs) ≡ linking.count_of test (drop (i + 1) xs)
count_not test xs i x h is t = one_on test xs i x h is ∙ ap (λ b. cond b (suc (linking.count_of test (drop (i + 1) xs))) (linking.count_of test (drop (i + 1) xs))) t

count_map : {A B : Type 0} (test : B → Bool) (g : A → B) (xs : List A) → linking.count_of test (map g xs) ≡ linking.count_of (λ x. test (g x)) xs
count_map test g [] = refl
count_map test g (x ∷ xs) = ap (λ n. cond (test (g x)) (suc n) n) (count_map test g xs)

-- An import is a staying memory exactly if its end is outside and it is a memory.
pub staying_here : (ps : List Part) (s : Site) (e : linking.End) → linked_at ps s ≡ Some e
    → linking.is_outside (the_site s) (Some e) && is_memory_at (linking.import_at (named_modules ps) (the_site s)) ≡ faults.is_staying_memory (named_modules ps) (the_site s)
unfolding linked_at faults.stays
staying_here ps s e h =
    ap (λ o. linking.is_outside (the_site s) o && is_memory_at (linking.import_at (named_modules ps) (the_site s))) (sym h)
    ∙ ap (λ b. linking.is_outside (the_site s) (linking.linked_end (named_modules ps) (the_site s)) && b) (by (linking.import_at (named_modules ps) (the_site s)))
  where
    by : (o : Option Import) → is_memory_at o ≡ unwrap_or (option_and_then (λ i. Some (linking.has_kind Memories i)) o) false
    by None = refl
    by (Some i) = refl

pub memories_counted : (ps : List Part) (sites : List Site) → AreSites ps sites
    → linking.count_of (λ s. faults.is_staying_memory (named_modules ps) (the_site s)) sites + defined_before Memories (named_modules ps) (length (named_modules ps)) ≡ faults.memory_count (named_modules ps)
unfolding faults.memory_count
memories_counted ps sites are =
    ap (λ n. n + defined_before Memories (named_modules ps) (length (named_modules ps))) (sym (count_map (faults.is_staying_memory (named_modules ps)) the_site sites) ∙ ap (linking.count_of (faults.is_staying_memory (named_modules ps))) are)

pub above_one : (n : ℕ) → 1 < n → true ≡ nat_lt 1 n
above_one n h = grind (arith, nat_tests)
