-- Reading the frames of a file finds its frames, and nothing else.
use Rattle.base_lists.proofs.Common.{◌≡◌, ℕ, List, [], ◌∷◌, ◌++◌, take, Result, Ok, Err, Bool, true, false, cond, ◌⊎◌, inl, inr, ⊎_elim, refl, sym, ap, ◌∙◌, subst, arith, ◌↔◌, eqb-true, and_parts, cases_Bool, ◌==◌}
use Rattle.wasm_bytes.specs.Prelude.{IsBytes, Section, header, HasHeader, Framed, FirstBad, FramesAreRead, frames_behind}
use Rattle.wasm_read_spec.specs.declared.fault.ReadFault.{ReadFault}
use Rattle.wasm_read_spec.specs.declared.fault.ReadFault.TheVariants.{NotModule, Malformed}
use Rattle.wasm_read_spec.specs.Contents.{same_list, numbered, framed_at}

same_is : (xs ys : List ℕ) → same_list xs ys ≡ true → xs ≡ ys
same_is [] [] h = refl
same_is [] (y ∷ ys) h = cc
same_is (x ∷ xs) [] h = cc
same_is (x ∷ xs) (y ∷ ys) h =
    let k = and_parts (x == y) (same_list xs ys) h in
    ap (λ z. z ∷ xs) (eqb-true x y k.0) ∙ ap (λ zs. y ∷ zs) (same_is xs ys k.1)

is_same : (xs : List ℕ) → same_list xs xs ≡ true
is_same [] = refl
is_same (x ∷ xs) = let same : x == x ≡ true = grind arith in rw (same, is_same xs)

has_header : (bytes front back : List ℕ) → front ≡ header → bytes ≡ front ++ back → HasHeader bytes
has_header bytes front back h e = let whole : bytes ≡ header ++ back = e ∙ ap (λ t. t ++ back) h in ap (take 8) whole

pick : {A : Type 0} (b : Bool) (x y : A) → b ≡ true → cond b x y ≡ x
pick true x y e = refl
pick false x y e = cc

pick_other : {A : Type 0} (b : Bool) (x y : A) → b ≡ false → cond b x y ≡ y
pick_other true x y e = cc
pick_other false x y e = refl

with_header : (bytes : List ℕ) → HasHeader bytes → framed_at bytes ≡ numbered (frames_behind bytes)
unfolding framed_at
with_header bytes h = pick (same_list (take 8 bytes) header) _ _ (ap (λ z. same_list z header) h ∙ is_same header)

pub header_reads : (bytes : List ℕ) → (HasHeader bytes → ⊥) → framed_at bytes ≡ Err NotModule
unfolding framed_at
header_reads bytes never = ⊎_elim (λ h. absurd (never (same_is _ _ h))) (λ h. pick_other (same_list (take 8 bytes) header) _ _ h) (cases_Bool (same_list (take 8 bytes) header))

numbered_ok : {A : Type 0} (r : Result A ℕ) (x : A) → numbered r ≡ Ok x → r ≡ Ok x
numbered_ok (Ok y) x h = let same : y ≡ x = cc in ap Ok same
numbered_ok (Err n) x h = cc

numbered_err : {A : Type 0} (r : Result A ℕ) (e : ReadFault) → numbered r ≡ Err e → (n : ℕ) × (r ≡ Err n) × (e ≡ Malformed n)
numbered_err (Ok y) e h = cc
numbered_err (Err n) e h = let same : Malformed n ≡ e = cc in (n, refl, sym same)

-- The lemmas below use the law on the reading of frames.
module _ (reads : FramesAreRead) where
  pub framed_reads : (bytes : List ℕ) (ss : List Section) → Framed bytes ss → framed_at bytes ≡ Ok ss
  framed_reads bytes ss f = with_header bytes (has_header bytes f.0 f.1 f.2 f.4) ∙ ap numbered (reads.complete bytes ss f)

  pub bad_reads : (bytes : List ℕ) (n : ℕ) → IsBytes bytes → FirstBad bytes n → framed_at bytes ≡ Err (Malformed n)
  bad_reads bytes n small f = let h = has_header bytes f.0 f.1 f.2 f.4 in with_header bytes h ∙ ap numbered ((reads.bad bytes n small h).1 f)

  pub framed_sound : (bytes : List ℕ) (ss : List Section) → IsBytes bytes → framed_at bytes ≡ Ok ss → Framed bytes ss
  unfolding framed_at
  framed_sound bytes ss small e = ⊎_elim
      (λ h. let head = same_is _ _ h in reads.sound bytes ss small head (numbered_ok _ ss (sym (with_header bytes head) ∙ e)))
      (λ h. absurd (let bad = sym (pick_other (same_list (take 8 bytes) header) (numbered (frames_behind bytes)) (Err NotModule) h) ∙ e in cc))
      (cases_Bool (same_list (take 8 bytes) header))

  pub framed_fault : (bytes : List ℕ) (e : ReadFault) → IsBytes bytes → framed_at bytes ≡ Err e → ((e ≡ NotModule) × (HasHeader bytes → ⊥)) ⊎ ((n : ℕ) × (e ≡ Malformed n) × FirstBad bytes n)
  unfolding framed_at
  framed_fault bytes e small k = ⊎_elim
      (λ h.
      let head = same_is _ _ h in
      let r = numbered_err _ e (sym (with_header bytes head) ∙ k) in
      inr (r.0, r.2, (reads.bad bytes r.0 small head).0 r.1))
      (λ h.
      let bad : ◌≡◌ {A = Result (List Section) ReadFault} (Err NotModule) (Err e) = sym (pick_other (same_list (take 8 bytes) header) (numbered (frames_behind bytes)) (Err NotModule) h) ∙ k in
      let same : NotModule ≡ e = cc in
      inl (sym same, λ head. let t = ap (λ z. same_list z header) head ∙ is_same header in absurd (let no_way = sym h ∙ t in cc)))
      (cases_Bool (same_list (take 8 bytes) header))

  -- ---- what framed_at gives, exactly

  module _ (bytes : List ℕ) (small : IsBytes bytes) where
    pub framed_exactly : (ss : List Section) → (framed_at bytes ≡ Ok ss) ↔ Framed bytes ss
    framed_exactly ss = (framed_sound bytes ss small, framed_reads bytes ss)

    pub bad_exactly : (n : ℕ) → (framed_at bytes ≡ Err (Malformed n)) ↔ FirstBad bytes n
    bad_exactly n = (
      λ e. ⊎_elim (λ h. absurd (let other = h.0 in cc)) (λ h. let same : h.0 ≡ n = (let k = h.1 in cc) in subst (FirstBad bytes) same h.2) (framed_fault bytes (Malformed n) small e),
      bad_reads bytes n small,
    )

    pub header_exactly : (framed_at bytes ≡ Err NotModule) ↔ (HasHeader bytes → ⊥)
    header_exactly = (λ e. ⊎_elim (λ h. h.1) (λ h. absurd (let other = h.1 in cc)) (framed_fault bytes NotModule small e), header_reads bytes)
