-- Two modules, each alone, of which the second has all index space entries, definitions and
-- segments of the first at the same places, and perhaps more after them.
use Rattle.base_lists.proofs.Common.{◌≡◌, ℕ, suc, ◌+◌, ◌-◌, ◌<◌, ◌≤◌, List, [], ◌∷◌, ◌++◌, map, length, Some, true, ◌⊎◌, inl, inr, refl, sym, ap, ap₂, subst, ◌∙◌, arith, slice_get, slice_index, cases_lt, ltb-true, slice_get_there, length-numbers, numbers_at, numbers_index, append_left, append_right}
use Rattle.base_lists.proofs.Common.{append_at_left, map_at, length-map, get_rel, opt_at}
use Rattle.std.proofs.Common.{length-append}
use Rattle.wasm_meaning.specs.Prelude.{numbers, PlacedSegment, segments_in, own_count, defined_count, Inst, Environment}
use Rattle.run_simulation.specs.Prelude.{OptRel, some, ListRel}
use Rattle.index_remap.specs.Prelude.{has}
use Rattle.wasm_tree_spec.specs.Prelude.{Space, ElemSeg, Module}
use Rattle.world_simulation.specs.Prelude.{last_segments, InOrder, both, ends, only_second, ElemAlone, Partners, Instantiated, one}
use Rattle.world_simulation.specs.CorrespondingDefinitions as partners
use Rattle.world_simulation.specs.SegmentsInOrder as order

-- Each entry of a list of the numbers from zero on is its own place.
pub stays_at : (size x : ℕ) → has (numbers 0 size) x ≡ true → (slice_index (numbers 0 size) x ≡ x) × (x < size)
stays_at size x h = let l = ltb-true _ _ h in let c = length-numbers 0 size in (numbers_index size x (omega arith), omega arith)

-- Two index spaces with the same imports, of which the second has as many definitions or more, are
-- related at each index of the first.
pub space_grows : (P : ℕ → ℕ → Type 0) (l : List ℕ) (from count more : ℕ) → ListRel P l l → count ≤ more → ((a : ℕ) → a < from + count → P a a) →
    (x : ℕ) → x < length l + count → OptRel P (slice_get (l ++ numbers from count) x) (slice_get (l ++ numbers from more) x)
space_grows P l from count more shared few related x h = by (cases_lt x (length l))
  where
    there : (many z : ℕ) → x ≡ length l + z → z < many → slice_get (l ++ numbers from many) x ≡ Some (from + z)
    there many z e lt = ap (slice_get (l ++ numbers from many)) e ∙ append_right l _ z ∙ numbers_at from many z lt

    by : (x < length l) ⊎ (length l ≤ x) → OptRel P (slice_get (l ++ numbers from count) x) (slice_get (l ++ numbers from more) x)
    by (inl lt) = opt_at (append_left l _ x lt) (append_left l _ x lt) (get_rel shared x)
    by (inr ge) =
        let z = x - length l in
        opt_at (there count z (omega arith) (omega arith)) (there more z (omega arith) (omega arith)) (some (related (from + z) (omega arith)))

-- If the second module has each definition of a space at the same place, equal addresses are
-- partners.
pub keeps_place : (env : Environment) (t u : Module) (i j : Inst) {A : Type 0} (k : Space) (definitions : Module → List A) (new : A → A) (more : List A) → ((c : Module) → defined_count k c ≡ length (definitions c)) → definitions u ≡ map new (definitions t) ++ more →
    (correspond : ℕ → Inst → A → ℕ → Inst → A → Type 0) → ((x : ℕ) (d : A) → slice_get (definitions t) x ≡ Some d → correspond 0 i d 0 j (new d)) → (c : ℕ) → c < own_count k env + defined_count k t →
    Partners env (record { parts = one t; insts = i ∷ [] }) (record { parts = one u; insts = j ∷ [] }) k definitions correspond c c
keeps_place env t u i j k definitions new more counts are correspond alike c h = by (cases_lt c (own_count k env))
  where
    by : (c < own_count k env) ⊎ (own_count k env ≤ c) → Partners env (record { parts = one t; insts = i ∷ [] }) (record { parts = one u; insts = j ∷ [] }) k definitions correspond c c
    by (inl lt) = partners.own refl lt
    by (inr ge) =
        let x = c - own_count k env in
        let counted = counts t in
        let d = slice_get_there (definitions t) x (omega arith) in
        partners.defined (record { part = 0; of = t; is_part = refl; inst = i; is_inst = refl; place = x; definition = d.0; stands = d.1; address = omega arith })
        (record { part = 0; of = u; is_part = refl; inst = j; is_inst = refl; place = x; definition = new d.0; stands = ap (λ ds. slice_get ds x) are ∙ append_at_left (map new (definitions t)) more x (new d.0) (map_at new (definitions t) x d.0 d.1); address = omega arith })
        (alike x d.0 d.1)

-- ---- segments ----

-- Two lists without segments are in order.
pub no_more : {A : Type 0} {P : PlacedSegment A → PlacedSegment A → Type 0} {F S : PlacedSegment A → Type 0} (j : Inst) (ns : List ℕ) → InOrder P F S [] (segments_in 0 j ns [] ++ [])
no_more j [] = ends
no_more j (n ∷ ns) = ends

-- A last segment that declares references needs no partner.
pub declared_alone : {P : PlacedSegment ElemSeg → PlacedSegment ElemSeg → Type 0} {F : PlacedSegment ElemSeg → Type 0} {alone : Space → ℕ → Type 0} {env : Environment} {w : Instantiated} (j : Inst) (fs ns : List ℕ) →
    InOrder P F (λ y. ElemAlone alone env w y y.segment.mode) [] (segments_in 0 j ns (last_segments fs) ++ [])
declared_alone j [] ns = no_more j ns
declared_alone j (f ∷ fs) [] = ends
declared_alone j (f ∷ fs) (n ∷ ns) = only_second order.ElemAlone.declarative (no_more j ns)

-- Segments of one module each, at the same addresses, are in order with more segments of the second
-- after them.
in_step : {A : Type 0} (partners : PlacedSegment A → PlacedSegment A → Type 0) (first second : PlacedSegment A → Type 0) (i j : Inst) (new : A → A) (more : List A) (from : ℕ) (es : List A) → InOrder partners first second [] (segments_in 0 j (numbers (from + length es) (length more)) more ++ []) →
    ((x : ℕ) (e : A) → slice_get es x ≡ Some e → partners (record { part = 0; inst = i; address = from + x; segment = e }) (record { part = 0; inst = j; address = from + x; segment = new e })) →
    InOrder partners first second (segments_in 0 i (numbers from (length es)) es ++ []) (segments_in 0 j (numbers from (length es + length more)) (map new es ++ more) ++ [])
in_step partners first second i j new more from [] last each = let here : from + 0 ≡ from = omega arith in let size : 0 + length more ≡ length more = omega arith in rw size (rw here at last)
in_step {A} partners first second i j new more from (e ∷ es) last each =
    let here : from + 0 ≡ from = omega arith in
    let further : from + suc (length es) ≡ suc from + length es = omega arith in
    let size : suc (length es) + length more ≡ suc (length es + length more) = omega arith in
    let at : (a : ℕ) (k : Inst) (x : A) → PlacedSegment A = λ a k x. record { part = 0; inst = k; address = a; segment = x } in
    rw size
    (both (subst (λ a. partners (at a i e) (at a j (new e))) here (each 0 e refl))
    (in_step partners first second i j new more (suc from) es (subst (λ n. InOrder partners first second [] (segments_in 0 j (numbers n (length more)) more ++ [])) further last) (λ x d h. let n : from + suc x ≡ suc from + x = omega arith in rw (← n) (each (suc x) d h))))

-- All the segments of two modules alone, of which the second has more, are in order.
pub all_in_step : {A : Type 0} (partners : PlacedSegment A → PlacedSegment A → Type 0) (first second : PlacedSegment A → Type 0) (i j : Inst) (new : A → A) (more : List A) (es us : List A) (xs ys : List ℕ) → xs ≡ numbers 0 (length es) → ys ≡ numbers 0 (length us) → us ≡ map new es ++ more →
    InOrder partners first second [] (segments_in 0 j (numbers (0 + length es) (length more)) more ++ []) →
    ((x : ℕ) (e : A) → slice_get es x ≡ Some e → partners (record { part = 0; inst = i; address = 0 + x; segment = e }) (record { part = 0; inst = j; address = 0 + x; segment = new e })) →
    InOrder partners first second (segments_in 0 i xs es ++ []) (segments_in 0 j ys us ++ [])
all_in_step partners first second i j new more es us xs ys xs_are ys_are us_are last each =
    let size : length es + length more ≡ length us = (let e = ap length us_are ∙ length-append (map new es) more in let c = length-map es new in omega arith) in
    rw xs_are
    (rw (← ap₂ (λ ns us. segments_in 0 j ns us ++ []) (ap (numbers 0) size ∙ sym ys_are) (sym us_are))
    (in_step partners first second i j new more 0 es last each))
