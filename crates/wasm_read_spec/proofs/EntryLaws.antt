-- Reading code entries finds what is encoded and within the limits, and nothing else.
use Rattle.base_lists.proofs.Common.{◌≡◌, ℕ, zero, suc, ◌+◌, ◌≤◌, List, [], ◌∷◌, ◌++◌, length, Result, Ok, Err, Bool, cond, Option, Some, None, refl, sym, ap, ◌∙◌, subst, arith, append-nil, le-ltb, eqb-suc-zero, ◌==◌, bind_ok, ok_pair, within_most}
use Rattle.wasm_bytes.specs.Prelude.{TakesOff, U32, Each, Vector, Sized, IsBytes}
use Rattle.wasm_bytes.proofs.Lists.{small_rest}
use Rattle.wasm_tree.specs.declared.which.Which.TheVariants.{Functions}
use Rattle.wasm_tree_spec.specs.Prelude.{LocalGroup, limit}
use Rattle.wasm_read_spec.specs.declared.fault.Fault.{Fault}
use Rattle.wasm_read_spec.specs.declared.fault.ReadFault.{ReadFault}
use Rattle.wasm_read_spec.specs.declared.fault.ReadFault.TheVariants.{Malformed, Limit}
use Rattle.base_lists.specs.Every.{Every}
use Rattle.wasm_read_spec.specs.Prelude.{Any, Few, CodeEntry, SpellsGroup, SpellsCode, SpellsEntry, SmallCode, u32_at, sized_at, locals_at, each_from, body_at, code_of, in_place, next_func}
use Rattle.wasm_read_spec.specs.BodyReading.{code_at}
use Rattle.wasm_read_spec.specs.Contents.{entry_at, codes_at}
use Rattle.wasm_read_spec.specs.Unambiguous.{IsPrefixFree}
use Rattle.wasm_read_spec.specs.Exact.{Exact, Along}
use Rattle.wasm_read_spec.proofs.Exact.{took_then, split, u32_exact, sized_exact, both_exact, mapped_exact, one_value, each_sound, each_complete}
use Rattle.wasm_read_spec.proofs.ItemLaws.{val_exact, locals_exact}
use Rattle.wasm_read_spec.proofs.NestLaws.{body_found, body_read, body_prefix_free}

-- ---- prefix-free encodings

pub prefix_free_of : {A E : Type 0} {P : List ℕ → A → Type 0} {r : List ℕ → Result (A × List ℕ) E} → Exact P Any r → IsPrefixFree P
prefix_free_of {A} {E} {P} {r} exact = λ one other rest more x y e p q. one_value P Any r exact one other rest more x y e p tt q tt

each_prefix_free : {A : Type 0} (P : List ℕ → A → Type 0) → IsPrefixFree P → (xs ys : List A) (one other rest more : List ℕ) → length xs ≡ length ys → one ++ rest ≡ other ++ more → Each P one xs → Each P other ys → (xs ≡ ys) × (rest ≡ more)
each_prefix_free P free [] [] one other rest more n e h k = (refl, sym (ap (λ z. z ++ rest) h) ∙ e ∙ ap (λ z. z ++ more) k)
each_prefix_free P free [] (y ∷ ys) one other rest more n e h k = absurd (omega arith)
each_prefix_free P free (x ∷ xs) [] one other rest more n e h k = absurd (omega arith)
each_prefix_free P free (x ∷ xs) (y ∷ ys) one other rest more n e h k =
    let first = free h.0 k.0 (h.1 ++ rest) (k.1 ++ more) x y (sym (split _ _ one rest h) ∙ e ∙ split _ _ other more k) h.2 k.2 in
    let later = each_prefix_free P free xs ys h.1 k.1 rest more (omega arith) first.1 h.3 k.3 in
    (ap (λ z. z ∷ xs) first.0 ∙ ap (λ zs. y ∷ zs) later.0, later.1)

pub vector_prefix_free : {A : Type 0} {P : List ℕ → A → Type 0} → IsPrefixFree P → IsPrefixFree (Vector P)
vector_prefix_free {A} {P} free = λ one other rest more xs ys e h k.
    let count = prefix_free_of u32_exact h.0 k.0 (h.1 ++ rest) (k.1 ++ more) (length xs) (length ys) (sym (split _ _ one rest h) ∙ e ∙ split _ _ other more k) h.2 k.2 in
    each_prefix_free P free xs ys h.1 k.1 rest more count.0 count.1 h.3 k.3

-- ---- what is inside an entry

module _ (many : Bool) where
  pub code_sound : (bytes : List ℕ) (f : CodeEntry) → IsBytes bytes → code_at many bytes ≡ Ok f → SpellsCode many bytes f × SmallCode f
  unfolding code_at
  code_sound bytes f small e =
      let ls = bind_ok (locals_at bytes) _ _ e in
      let one = locals_exact.sound bytes ls.0.0 ls.0.1 small ls.1 in
      let is = bind_ok (body_at many ls.0.1) _ _ ls.2 in
      let two = body_found many ls.0.1 is.0 (small_rest _ bytes ls.0.1 small one.0) is.1 in
      let same : code_of ls.0.0 is.0 ≡ f = let k = is.2 in cc in
      subst (λ (z : CodeEntry). SpellsCode many bytes z × SmallCode z) same ((one.0.0, ls.0.1, one.0.1, two.0, one.0.2), (one.1, two.1))

  pub code_complete : (bytes : List ℕ) (f : CodeEntry) → SpellsCode many bytes f → SmallCode f → code_at many bytes ≡ Ok f
  unfolding code_at
  code_complete bytes f h k = rw (h.4, locals_exact.complete h.0 h.1 f.locals h.2 k.0, body_read many h.1 f.body h.3 k.1) refl

  group_prefix_free : IsPrefixFree SpellsGroup
  group_prefix_free = prefix_free_of (mapped_exact {A = ℕ × _} {B = LocalGroup} (λ p. record { count = p.0; ty = p.1 }) (λ g. (g.count, g.ty)) (λ x. refl) (λ y. refl) (both_exact u32_exact val_exact))

  code_one : (bytes : List ℕ) (f g : CodeEntry) → SpellsCode many bytes f → SpellsCode many bytes g → f ≡ g
  code_one bytes f g h k =
      let locals = vector_prefix_free group_prefix_free h.0 k.0 h.1 k.1 f.locals g.locals (sym h.4 ∙ k.4) h.2 k.2 in
      let body = body_prefix_free many h.1 k.1 [] [] f.body g.body (ap (λ z. z ++ []) locals.1) h.3 k.3 in
      ap (λ ls. code_of ls f.body) locals.0 ∙ ap (code_of g.locals) body.0

  -- ---- an entry

  pub entry_prefix_free : IsPrefixFree (SpellsEntry many)
  entry_prefix_free one other rest more f g e h k =
      let c = prefix_free_of sized_exact one other rest more h.0 k.0 e h.1 k.1 in
      (code_one k.0 f g (subst (λ z. SpellsCode many z f) c.0 h.2) k.2, c.1)

  pub in_ok : {B : Type 0} (n : ℕ) (f : Option ℕ) (q : Result B Fault) (x : B) → in_place n f q ≡ Ok x → q ≡ Ok x
  in_ok n f (Ok y) x e = let same : y ≡ x = cc in ap Ok same
  in_ok n f (Err w) x e = cc

  pub bytes_front : (a b : List ℕ) → IsBytes (a ++ b) → IsBytes a
  bytes_front [] b h zero = omega arith
  bytes_front [] b h (suc i) = omega arith
  bytes_front (x ∷ a) b h zero = h zero
  bytes_front (x ∷ a) b h (suc i) = bytes_front a b (λ j. h (suc j)) i

  -- The content after a size consists of bytes if all bytes do.
  pub content_bytes : (bytes content rest : List ℕ) → IsBytes bytes → TakesOff (λ t. Sized t content) bytes rest → IsBytes content
  content_bytes bytes content rest small t =
      let text = bytes_front t.0 rest (subst IsBytes t.2 small) in
      small_rest (λ z. U32 z (length content)) t.0 content text (t.1.0, t.1.1, t.1.2)

  pub entry_exact : (section func : ℕ) → Exact (SpellsEntry many) SmallCode (entry_at many section func)
  unfolding entry_at
  entry_exact section func = record {
    sound = λ bytes f rest small e.
        let s = bind_ok (in_place section None (sized_at bytes)) _ _ e in
        let one = (sized_exact.sound bytes s.0.0 s.0.1 small (in_ok section None _ s.0 s.1)).0 in
        let c = bind_ok (in_place section (Some func) (code_at many s.0.0)) _ _ s.2 in
        let two = code_sound s.0.0 c.0 (content_bytes bytes s.0.0 s.0.1 small one) (in_ok section (Some func) _ c.0 c.1) in
        let p = ok_pair {E = ReadFault} c.0 f s.0.1 rest c.2 in
        ((one.0, (s.0.0, one.1, subst (SpellsCode many s.0.0) p.0 two.0), one.2 ∙ ap (λ z. one.0 ++ z) p.1), subst SmallCode p.0 two.1);
    complete = λ text rest f h k. rw (sized_exact.complete text rest h.0 h.1 tt, code_complete h.0 f h.2 k);
  }

  -- ---- the code section

  along_every : (state : ℕ) (fs : List CodeEntry) → Along (λ s. SmallCode) next_func state fs → Every SmallCode fs
  along_every state [] h = tt
  along_every state (f ∷ fs) h = (h.0, along_every (state + 1) fs h.1)

  every_along : (state : ℕ) (fs : List CodeEntry) → Every SmallCode fs → Along (λ s. SmallCode) next_func state fs
  every_along state [] h = tt
  every_along state (f ∷ fs) h = (h.0, every_along (state + 1) fs h.1)

  ends : {A : Type 0} (n : ℕ) (r : List ℕ) (xs ys : A) → cond (length r == 0) (Ok xs) (Err (Malformed n)) ≡ Ok ys → (r ≡ []) × (xs ≡ ys)
  ends n [] xs ys e = let same : xs ≡ ys = cc in (refl, same)
  ends n (b ∷ bs) xs ys e = absurd (let bad = rw (eqb-suc-zero (length bs)) at e in cc)

  pub codes_sound : (n func : ℕ) (c : List ℕ) (fs : List CodeEntry) → IsBytes c → codes_at many n func c ≡ Ok fs → Vector (SpellsEntry many) c fs × Few (limit Functions) SmallCode fs
  unfolding codes_at
  codes_sound n func c fs small e =
      let k = bind_ok (in_place n None (u32_at c)) _ _ e in
      let count = (u32_exact.sound c k.0.0 k.0.1 small (in_ok n None _ k.0 k.1)).0 in
      let few = within_most (Limit Functions) (limit Functions) k.0.0 _ _ k.2 in
      let r = bind_ok (each_from (entry_at many n) next_func k.0.0 func k.0.1) _ _ few.1 in
      let later = each_sound (SpellsEntry many) (λ s. SmallCode) (entry_at many n) next_func (entry_exact n) k.0.0 func k.0.1 r.0.0 r.0.1 (small_rest _ c k.0.1 small count) r.1 in
      let done = ends n r.0.1 r.0.0 fs r.2 in
      let all = took_then (λ b. U32 b (length r.0.0)) (λ b. Each (SpellsEntry many) b r.0.0) c k.0.1 r.0.1 (subst (λ z. TakesOff (λ b. U32 b z) c k.0.1) later.1 count) later.0 in
      let whole : c ≡ all.0 = all.2 ∙ ap (λ z. all.0 ++ z) done.0 ∙ append-nil all.0 in
      subst (λ z. Vector (SpellsEntry many) c z × Few (limit Functions) SmallCode z) done.1
      (subst (λ b. Vector (SpellsEntry many) b r.0.0) (sym whole) all.1, (subst (λ z. z ≤ limit Functions) later.1 few.0, along_every func r.0.0 later.2))

  pub codes_complete : (n func : ℕ) (c : List ℕ) (fs : List CodeEntry) → Vector (SpellsEntry many) c fs → Few (limit Functions) SmallCode fs → codes_at many n func c ≡ Ok fs
  unfolding codes_at
  codes_complete n func c fs h k =
      let items : each_from (entry_at many n) next_func (length fs) func h.1 ≡ Ok (fs, []) =
      subst (λ z. each_from (entry_at many n) next_func (length fs) func z ≡ Ok (fs, [])) (append-nil h.1) (each_complete (SpellsEntry many) (λ s. SmallCode) (entry_at many n) next_func (entry_exact n) fs func h.1 [] h.3 (every_along func fs k.1)) in
      rw (h.4, u32_exact.complete h.0 h.1 (length fs) h.2 tt, le-ltb (limit Functions) (length fs) k.0, items)
