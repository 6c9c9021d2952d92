-- Reading the subsections of a name section finds what they encode, and nothing else.
use Rattle.base_lists.proofs.Common.{◌≡◌, ◌≢◌, ℕ, zero, suc, ◌≤◌, List, [], ◌∷◌, ◌++◌, length, Option, Some, None, Ok, Err, Bool, true, false, refl, sym, ap, ◌∙◌, subst, arith, append-nil, Bor, ◌==◌, is_some, option_to_list, bind_ok, ok_pair}
use Rattle.std.proofs.Common.{length-append}
use Rattle.wasm_bytes.specs.Prelude.{TakesOff, Section, Each, ◌>>=◌, IsBytes}
use Rattle.wasm_bytes.specs.declared.cursor.Wrong.{Wrong}
use Rattle.wasm_bytes.specs.Reading.{byte_at}
use Rattle.wasm_bytes.proofs.Lists.{small_rest}
use Rattle.wasm_read_spec.specs.declared.fault.Fault.{Fault}
use Rattle.wasm_read_spec.specs.declared.fault.Fault.TheVariants.{Malformed}
use Rattle.wasm_read_spec.specs.Prelude.{Fails, sized_at}
use Rattle.wasm_read_spec.proofs.Loops.{fails_through}
use Rattle.wasm_names.specs.NameList.{SpellsSubsection, func_name_maps}
use Rattle.wasm_names.specs.Reading.{found_after, name_map_at, lent_option}
use Rattle.wasm_names.proofs.NameMaps.{ReadsExactly}

-- The result is the one content that was found before or is among those that follow, if there is
-- one; there is at most one.
abbrev pub IsFound : Option (List ℕ) → List (List ℕ) → Option (List ℕ) → Type 0
IsFound found maps r = option_to_list r ≡ option_to_list found ++ maps

-- A step over one subsection, which names functions or is of another kind.
found_step : (found next : Option (List ℕ)) (s : Section) (ss : List Section) (r : Option (List ℕ)) → found_after found s ≡ Ok next → IsFound next (func_name_maps ss) r → IsFound found (func_name_maps (s ∷ ss)) r
found_step found next s ss r = by_kind (s.0 == 1) refl found
  where
    by_kind : (one : Bool) → (s.0 == 1) ≡ one → (found : Option (List ℕ)) → found_after found s ≡ Ok next → IsFound next (func_name_maps ss) r → IsFound found (func_name_maps (s ∷ ss)) r
    by_kind true is None e h = let same : Some s.1 ≡ next = (let k = rw is at e in cc) in rw is (h ∙ ap (λ z. option_to_list z ++ func_name_maps ss) (sym same))
    by_kind true is (Some x) e h = let k = rw is at e in cc
    by_kind false is found e h = let same : found ≡ next = (let k = rw is at e in cc) in rw is (h ∙ ap (λ z. option_to_list z ++ func_name_maps ss) (sym same))

too_many : (r : Option (List ℕ)) (x y : List ℕ) (ys : List (List ℕ)) → option_to_list r ≡ x ∷ y ∷ ys → ⊥
too_many None x y ys h = cc
too_many (Some z) x y ys h = cc

step_found : (found : Option (List ℕ)) (s : Section) (ss : List Section) (r : Option (List ℕ)) → IsFound found (func_name_maps (s ∷ ss)) r → (next : Option (List ℕ)) × (found_after found s ≡ Ok next) × IsFound next (func_name_maps ss) r
step_found found s ss r = by_kind (s.0 == 1) refl found
  where
    by_kind : (one : Bool) → (s.0 == 1) ≡ one → (found : Option (List ℕ)) → IsFound found (func_name_maps (s ∷ ss)) r → (next : Option (List ℕ)) × (found_after found s ≡ Ok next) × IsFound next (func_name_maps ss) r
    by_kind true is None h = (Some s.1, rw is refl, rw is at h)
    by_kind true is (Some x) h = absurd (too_many r x s.1 (func_name_maps ss) (rw is at h))
    by_kind false is found h = (found, rw is refl, rw is at h)

pub one_map_sound : ReadsExactly → (fuel : ℕ) (found : Option (List ℕ)) (bytes : List ℕ) (r : Option (List ℕ)) → IsBytes bytes → name_map_at fuel found bytes ≡ Ok r → (ss : List Section) × Each SpellsSubsection bytes ss × IsFound found (func_name_maps ss) r
unfolding name_map_at
one_map_sound reads fuel found [] r small e = let same : found ≡ r = cc in ([], refl, rw same (sym (append-nil (option_to_list r))))
one_map_sound reads zero found (b ∷ bs) r small e = cc
one_map_sound reads (suc fuel) found (b ∷ bs) r small e =
    let s = bind_ok (sized_at bs) _ _ e in
    let t = (reads.sized.sound bs s.0.0 s.0.1 (λ i. small (suc i)) s.1).0 in
    let next = bind_ok (found_after found (b, s.0.0)) _ _ s.2 in
    let later = one_map_sound reads fuel next.0 s.0.1 r (small_rest _ bs s.0.1 (λ i. small (suc i)) t) next.2 in
    let first : TakesOff (λ z. SpellsSubsection z (b, s.0.0)) (b ∷ bs) s.0.1 = (b ∷ t.0, (b ∷ [], t.0, refl, t.1, refl), ap (λ z. b ∷ z) t.2) in
    ((b, s.0.0) ∷ later.0, (first.0, s.0.1, first.1, later.1, first.2), found_step found next.0 (b, s.0.0) later.0 r next.1 later.2)

pub one_map_complete : ReadsExactly → (fuel : ℕ) (found : Option (List ℕ)) (bytes : List ℕ) (ss : List Section) (r : Option (List ℕ)) → length bytes ≤ fuel → Each SpellsSubsection bytes ss → IsFound found (func_name_maps ss) r → name_map_at fuel found bytes ≡ Ok r
unfolding name_map_at
one_map_complete reads fuel found bytes [] r enough h k = rw h (ap Ok (same_found found r (k ∙ append-nil (option_to_list found))))
  where
    same_found : (a b : Option (List ℕ)) → option_to_list b ≡ option_to_list a → a ≡ b
    same_found None None e = refl
    same_found None (Some y) e = cc
    same_found (Some x) None e = cc
    same_found (Some x) (Some y) e = let same : x ≡ y = cc in ap Some same
one_map_complete reads zero found bytes (s ∷ ss) r enough h k =
    let e : bytes ≡ (s.0 ∷ h.2.1) ++ h.1 = h.4 ∙ ap (λ z. z ++ h.1) (h.2.4 ∙ ap (λ z. z ++ h.2.1) h.2.2) in
    absurd (let long = rw e at enough in omega arith)
one_map_complete reads (suc fuel) found bytes (s ∷ ss) r enough h k =
    let e : bytes ≡ s.0 ∷ (h.2.1 ++ h.1) = h.4 ∙ ap (λ z. z ++ h.1) (h.2.4 ∙ ap (λ z. z ++ h.2.1) h.2.2) in
    let next = step_found found s ss r k in
    let less : length h.1 ≤ fuel = (let long = rw e at enough in omega (arith, length-append h.2.1 h.1)) in
    rw (e, reads.sized.complete h.2.1 h.1 s.1 h.2.3 tt, next.1) (one_map_complete reads fuel next.0 h.1 ss r less h.3 next.2)

-- ---- the loop that reads them

-- The result for all bytes is that for the bytes that are left, with what was found before.
pub record GoesOn (bytes : List ℕ) (found : Option (List ℕ)) (rest : List ℕ) : Type 0 where
  pub fuel : ℕ
  pub enough : length rest ≤ fuel
  pub reads : name_map_at (length bytes) None bytes ≡ name_map_at fuel found rest

pub begins : (bytes : List ℕ) → GoesOn bytes None bytes
begins bytes = record { fuel = length bytes; enough = omega arith; reads = refl }

pub ends : (bytes : List ℕ) (found : Option (List ℕ)) (rest : List ℕ) → rest ≡ [] → GoesOn bytes found rest → name_map_at (length bytes) None bytes ≡ Ok found
unfolding name_map_at
ends bytes found rest none on = on.reads ∙ rw none refl

-- The next byte is the id of a subsection.
step : (fuel : ℕ) (found : Option (List ℕ)) (rest bs : List ℕ) (b : ℕ) → length rest ≤ fuel → byte_at rest ≡ Ok (b, bs) →
    (more : ℕ) × (length bs ≤ more) × (name_map_at fuel found rest ≡ (sized_at bs >>= (λ s. found_after found (b, s.0) >>= (λ next. name_map_at more next s.1))))
unfolding name_map_at
step fuel found [] bs b enough is = cc
step zero found (x ∷ xs) bs b enough is = absurd (omega arith)
step (suc fuel) found (x ∷ xs) bs b enough is = let p = ok_pair {E = Wrong} x b xs bs is in (fuel, omega (arith, ap length p.1), rw (p.0, p.1) refl)

pub goes_on : (bytes : List ℕ) (found next : Option (List ℕ)) (rest bs part after : List ℕ) (b : ℕ) → byte_at rest ≡ Ok (b, bs) → sized_at bs ≡ Ok (part, after) → length after ≤ length bs → found_after found (b, part) ≡ Ok next → GoesOn bytes found rest → GoesOn bytes next after
goes_on bytes found next rest bs part after b is sized shorter after_it on =
    let s = step on.fuel found rest bs b on.enough is in
    record { fuel = s.0; enough = omega (arith, s.1); reads = on.reads ∙ s.2 ∙ rw (sized, after_it) refl }

pub stops : (bytes : List ℕ) (found : Option (List ℕ)) (rest bs : List ℕ) (b : ℕ) (e : Fault) → byte_at rest ≡ Ok (b, bs) → Fails e (sized_at bs) → GoesOn bytes found rest → Fails e (name_map_at (length bytes) None bytes)
stops bytes found rest bs b e is bad on =
    let s = step on.fuel found rest bs b on.enough is in
    subst (Fails e) (sym (on.reads ∙ s.2)) (fails_through e (sized_at bs) _ bad)

pub twice : (bytes : List ℕ) (found : Option (List ℕ)) (rest bs part after : List ℕ) (b : ℕ) → byte_at rest ≡ Ok (b, bs) → sized_at bs ≡ Ok (part, after) → found_after found (b, part) ≡ Err Malformed → GoesOn bytes found rest → name_map_at (length bytes) None bytes ≡ Err Malformed
twice bytes found rest bs part after b is sized bad on =
    let s = step on.fuel found rest bs b on.enough is in
    on.reads ∙ s.2 ∙ rw (sized, bad) refl

-- ---- what a subsection does

pub other_kind : (found : Option (List ℕ)) (id : ℕ) (part : List ℕ) → id ≢ 1 → found_after found (id, part) ≡ Ok found
other_kind found id part other = let no : (id == 1) ≡ false = grind arith in rw no refl

pub first_map : (found : Option (Bor (List ℕ))) (id : ℕ) (part : List ℕ) → id ≡ 1 → is_some found ≡ false → found_after (lent_option found) (id, part) ≡ Ok (Some part)
first_map None id part is none = let yes : (id == 1) ≡ true = grind arith in rw yes refl
first_map (Some x) id part is none = cc

pub second_map : (found : Option (Bor (List ℕ))) (id : ℕ) (part : List ℕ) → id ≡ 1 → is_some found ≡ true → found_after (lent_option found) (id, part) ≡ Err Malformed
second_map None id part is some = cc
second_map (Some x) id part is some = let yes : (id == 1) ≡ true = grind arith in rw yes refl
