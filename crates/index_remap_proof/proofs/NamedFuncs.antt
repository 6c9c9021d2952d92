-- What `ref.func` names in well typed code, and code that stays well typed where other functions
-- may be named and there are more element segments.
use Rattle.base_lists.proofs.Common.{◌≡◌, ℕ, Bool, true, false, nat_eq, List, [], ◌∷◌, ◌++◌, Option, Some, None, refl, sym, ap, ◌∙◌, ◌⊎◌, inl, inr, ⊎_elim, slice_get, and_then_is, either_true, left_either, same_number, among_left, among_right, keeps_map, keeps_only, only_true, flat_map-append}
use Rattle.base_lists.specs.Members.{is_among}
use Rattle.base_lists.proofs.Members.{among_either}
use Rattle.std.proofs.Common.{eq-eqb}
use Rattle.wasm_tree_spec.specs.Prelude.{RefType, ValType, BlockType, Instr, fold_out-Instr, map-Instr, Row_of-Instr, items-the_row-Instr, items_shown-the_row-Instr-0, end_of-Instr, more_of-Instr, Block', Loop', If', RefFunc, TableInit, ElemDrop}
use Rattle.wasm_tree.specs.declared.instr.Instr.{out-Instr}
use Rattle.wasm_tree.specs.declared.types.BlockType.TheVariants as block
use Rattle.wasm_tree.specs.declared.instr.Instr.TheViews.{outs-Block', outs-Loop', outs-If'}
use Rattle.wasm_valid_bodies.specs.Typing.{Stack, Effect, Context, effect_of, LeadsToMatch, Fits, Leads, LeadsAll, WellTyped, both}
use Rattle.index_remap.specs.Prelude.{refs, refs_all, refs_step, Keeps, labelled}

ends_map : (f g : Stack → Stack → Type 0) (ps rs : List ValType) → ((s t : Stack) → f s t → g s t) → LeadsToMatch f ps rs → LeadsToMatch g ps rs
ends_map f g ps rs k (last, l, a) = (last, k _ last l, a)

block_refs : (bt : BlockType) (n : _) (row : Row_of-Instr _) → refs (Block' bt n row) ≡ refs_all (items-the_row-Instr _ row)
block_refs block.Empty n row = fold_out-Instr (List ℕ) refs_step (Block' block.Empty n row) ∙ simp (outs-Block', items_shown-the_row-Instr-0)
block_refs (block.Value t) n row = fold_out-Instr (List ℕ) refs_step (Block' (block.Value t) n row) ∙ simp (outs-Block', items_shown-the_row-Instr-0)
block_refs (block.Index x) n row = fold_out-Instr (List ℕ) refs_step (Block' (block.Index x) n row) ∙ simp (outs-Block', items_shown-the_row-Instr-0)

loop_refs : (bt : BlockType) (n : _) (row : Row_of-Instr _) → refs (Loop' bt n row) ≡ refs_all (items-the_row-Instr _ row)
loop_refs block.Empty n row = fold_out-Instr (List ℕ) refs_step (Loop' block.Empty n row) ∙ simp (outs-Loop', items_shown-the_row-Instr-0)
loop_refs (block.Value t) n row = fold_out-Instr (List ℕ) refs_step (Loop' (block.Value t) n row) ∙ simp (outs-Loop', items_shown-the_row-Instr-0)
loop_refs (block.Index x) n row = fold_out-Instr (List ℕ) refs_step (Loop' (block.Index x) n row) ∙ simp (outs-Loop', items_shown-the_row-Instr-0)

if_refs : (bt : BlockType) (n : _) (row : Row_of-Instr _) (k : _) (other : Row_of-Instr _) → refs (If' bt n row k other) ≡ refs_all (items-the_row-Instr _ row) ++ refs_all (items-the_row-Instr _ other)
if_refs block.Empty n row k other = fold_out-Instr (List ℕ) refs_step (If' block.Empty n row k other) ∙ simp (outs-If', items_shown-the_row-Instr-0, flat_map-append)
if_refs (block.Value t) n row k other = fold_out-Instr (List ℕ) refs_step (If' (block.Value t) n row k other) ∙ simp (outs-If', items_shown-the_row-Instr-0, flat_map-append)
if_refs (block.Index x) n row k other = fold_out-Instr (List ℕ) refs_step (If' (block.Index x) n row k other) ∙ simp (outs-If', items_shown-the_row-Instr-0, flat_map-append)

among_refs : {xs ys : List ℕ} → xs ≡ ys → (x : ℕ) → is_among xs x ≡ true → is_among ys x ≡ true
among_refs e x h = ap (λ zs. is_among zs x) (sym e) ∙ h

-- ---- what is named is one of those that may be named ----

module _ (c : Context) where
  plain_named : (ls : List (List ValType)) (i : Instr) (e : Effect) → effect_of (labelled c ls) i ≡ Some e → (x : ℕ) → is_among (refs_step (map-Instr Instr (List ℕ) refs (out-Instr i))) x ≡ true → slice_get c.named x ≡ Some true
  unfolding out-Instr denote.Hole.Carrier.out
  plain_named ls (Block' bt n body) e h x k = cc
  plain_named ls (Loop' bt n body) e h x k = cc
  plain_named ls (If' bt n body l other) e h x k = cc
  plain_named ls (RefFunc y) e h x k = here (either_true (nat_eq x y) false k)
    where
      here : (nat_eq x y ≡ true) ⊎ (false ≡ true) → slice_get c.named x ≡ Some true
      here (inl q) = let b = and_then_is (slice_get c.named y) _ e h in ap (slice_get c.named) (same_number x y q) ∙ b.1 ∙ ap Some (only_true b.0 _ e b.2)
      here (inr q) = cc
  plain_named ls _ e h x k = cc

  mutual
    instr_named : (ls : List (List ValType)) (i : Instr) (s t : Stack) → Fits (labelled c ls) i s t → (x : ℕ) → is_among (refs i) x ≡ true → slice_get c.named x ≡ Some true
    instr_named ls (Block' bt n body) s t (f, e, (last, l, a), b) x k = row_named (f.results ∷ ls) body _ last l x (among_refs (block_refs bt n body) x k)
    instr_named ls (Loop' bt n body) s t (f, e, (last, l, a), b) x k = row_named (f.params ∷ ls) body _ last l x (among_refs (loop_refs bt n body) x k)
    instr_named ls (If' bt n body o other) s t (f, e, (last, l, a), (final, r, q), b) x k =
        ⊎_elim (λ z. row_named (f.results ∷ ls) body _ last l x z) (λ z. row_named (f.results ∷ ls) other _ final r x z)
        (among_either (refs_all (items-the_row-Instr _ body)) (refs_all (items-the_row-Instr _ other)) x (among_refs (if_refs bt n body o other) x k))
    instr_named ls i s t h x k = plain_named ls i h.0 h.1 x (among_refs (fold_out-Instr (List ℕ) refs_step i) x k)

    row_named : {n : _} (ls : List (List ValType)) (is : Row_of-Instr n) (s t : Stack) → Leads (labelled c ls) is s t → (x : ℕ) → is_among (refs_all (items-the_row-Instr n is)) x ≡ true → slice_get c.named x ≡ Some true
    row_named ls end_of-Instr s t h x k = cc
    row_named ls (more_of-Instr i is) s t (u, f, l) x k = ⊎_elim (λ z. instr_named ls i s u f x z) (λ z. row_named ls is u t l x z) (among_either (refs i) (refs_all (items-the_row-Instr _ is)) x k)

  all_named : (ls : List (List ValType)) (is : List Instr) (s t : Stack) → LeadsAll (labelled c ls) is s t → (x : ℕ) → is_among (refs_all is) x ≡ true → slice_get c.named x ≡ Some true
  all_named ls [] s t h x k = cc
  all_named ls (i ∷ is) s t (u, f, l) x k = ⊎_elim (λ z. instr_named ls i s u f x z) (λ z. all_named ls is u t l x z) (among_either (refs i) (refs_all is) x k)

  pub typed_named : (is : List Instr) (ps rs : List ValType) → WellTyped c is ps rs → (x : ℕ) → is_among (refs_all is) x ≡ true → slice_get c.named x ≡ Some true
  typed_named is ps rs (last, l, a) = all_named c.labels is _ last l

-- ---- other functions may be named ----

-- An element segment that had the type of a table still has it where there are more segments.
both_wider : (m n t : Option RefType) → Keeps m n → both m t ≡ true → both n t ≡ true
both_wider None n t k h = cc
both_wider (Some a) n t k h = ap (λ z. both z t) (k a refl) ∙ h

module _ (c : Context) (es : List RefType) (bs : List Bool) (segments : (i : ℕ) → Keeps (slice_get c.elems i) (slice_get es i)) where
  -- Each of these functions that `ref.func` may name in the first context may be named in the
  -- second.
  abbrev Named : List ℕ → Type 0
  Named xs = (x : ℕ) → is_among xs x ≡ true → slice_get c.named x ≡ Some true → slice_get bs x ≡ Some true

  abbrev wider : List (List ValType) → Context
  wider ls = record c { elems = es; named = bs; labels = ls }

  itself : (x : ℕ) → is_among (x ∷ []) x ≡ true
  itself x = left_either (nat_eq x x) false (eq-eqb x x refl)

  effect_wider : (ls : List (List ValType)) (i : Instr) (e : Effect) → Named (refs_step (map-Instr Instr (List ℕ) refs (out-Instr i))) → effect_of (labelled c ls) i ≡ Some e → effect_of (wider ls) i ≡ Some e
  unfolding out-Instr denote.Hole.Carrier.out
  effect_wider ls (RefFunc x) e n h =
      let b = and_then_is (slice_get c.named x) _ e h in
      let may : slice_get c.named x ≡ Some true = b.1 ∙ ap Some (only_true b.0 _ e b.2) in
      rw (n x (itself x) may) (rw may at h)
  effect_wider ls (TableInit x y) e n h = keeps_only _ _ _ _ (both_wider (slice_get c.elems x) (slice_get es x) (slice_get c.tables y) (segments x)) (λ z p. p) e h
  effect_wider ls (ElemDrop x) e n h = keeps_map _ _ _ (segments x) e h
  effect_wider ls _ e n h = h

  same_named : {xs ys : List ℕ} → xs ≡ ys → Named xs → Named ys
  same_named e n x k = n x (among_refs (sym e) x k)

  first_named : (xs ys : List ℕ) → Named (xs ++ ys) → Named xs
  first_named xs ys n x k = n x (among_left xs ys x k)

  second_named : (xs ys : List ℕ) → Named (xs ++ ys) → Named ys
  second_named xs ys n x k = n x (among_right xs ys x k)

  mutual
    instr_wider : (ls : List (List ValType)) (i : Instr) (s t : Stack) → Named (refs i) → Fits (labelled c ls) i s t → Fits (wider ls) i s t
    instr_wider ls (Block' bt n body) s t q (f, e, l, a) =
        (f, e, ends_map _ _ f.params f.results (row_wider (f.results ∷ ls) body (same_named (block_refs bt n body) q)) l, a)
    instr_wider ls (Loop' bt n body) s t q (f, e, l, a) =
        (f, e, ends_map _ _ f.params f.results (row_wider (f.params ∷ ls) body (same_named (loop_refs bt n body) q)) l, a)
    instr_wider ls (If' bt n body o other) s t q (f, e, l, r, a) =
        let both = same_named (if_refs bt n body o other) q in
        (f, e, ends_map _ _ f.params f.results (row_wider (f.results ∷ ls) body (first_named _ _ both)) l, ends_map _ _ f.params f.results (row_wider (f.results ∷ ls) other (second_named _ _ both)) r, a)
    instr_wider ls i s t q h = (h.0, effect_wider ls i h.0 (same_named (fold_out-Instr (List ℕ) refs_step i) q) h.1, h.2)

    row_wider : {n : _} (ls : List (List ValType)) (is : Row_of-Instr n) → Named (refs_all (items-the_row-Instr n is)) → (s t : Stack) → Leads (labelled c ls) is s t → Leads (wider ls) is s t
    row_wider ls end_of-Instr q s t h = h
    row_wider ls (more_of-Instr i is) q s t (u, f, l) = (u, instr_wider ls i s u (first_named _ _ q) f, row_wider ls is (second_named _ _ q) u t l)

  all_wider : (ls : List (List ValType)) (is : List Instr) → Named (refs_all is) → (s t : Stack) → LeadsAll (labelled c ls) is s t → LeadsAll (wider ls) is s t
  all_wider ls [] q s t h = h
  all_wider ls (i ∷ is) q s t (u, f, l) = (u, instr_wider ls i s u (first_named _ _ q) f, all_wider ls is (second_named _ _ q) u t l)

  pub typed_wider : (is : List Instr) (ps rs : List ValType) → Named (refs_all is) → WellTyped c is ps rs → WellTyped (record c { elems = es; named = bs }) is ps rs
  typed_wider is ps rs q (last, l, a) = (last, all_wider c.labels is q _ last l, a)
