-- A prefix of a file that consists of frames has the first frames of the file.
use Rattle.base_lists.proofs.Common.{◌≡◌, ℕ, List, [], ◌∷◌, ◌++◌, length, Bool, ◌⊎◌, inl, inr, refl, sym, ap, ◌∙◌, subst, arith, append_assoc, append-nil, ◌≢◌}
use Rattle.wasm_bytes.specs.Prelude.{Sized, Section, header, Frames, Framed, order_after}
use Rattle.wasm_bytes.specs.Frames.{SectionFrame}
use Rattle.wasm_tree_spec.specs.Prelude.{Module}
use Rattle.wasm_read_spec.specs.Prelude.{Spells}
use Rattle.wasm_read_spec.specs.Cut.{EndsWithAFrame}
use Rattle.wasm_read_spec.specs.Unambiguous.{IsPrefixFree}
use Rattle.wasm_read_spec.proofs.Exact.{sized_exact}
use Rattle.wasm_read_spec.proofs.EntryLaws.{prefix_free_of}

sized_prefix_free : IsPrefixFree Sized
sized_prefix_free = prefix_free_of sized_exact

head_same : (a b : ℕ) (xs ys : List ℕ) → ◌≡◌ {A = List ℕ} (a ∷ xs) (b ∷ ys) → (a ≡ b) × (xs ≡ ys)
head_same a b xs ys h = (cc, cc)

-- The first frame of the bytes is unique.
frame_same : (last : ℕ) (one other rest more : List ℕ) (s t : Section) → one ++ rest ≡ other ++ more → SectionFrame last one s → SectionFrame last other t → (s ≡ t) × (rest ≡ more)
frame_same last one other rest more s t e f g =
    let a = f.1 in
    let b = g.1 in
    let whole : s.0 ∷ (a.0 ++ rest) ≡ t.0 ∷ (b.0 ++ more) = sym (ap (λ z. z ++ rest) a.2) ∙ e ∙ ap (λ z. z ++ more) b.2 in
    let h = head_same s.0 t.0 (a.0 ++ rest) (b.0 ++ more) whole in
    let c = sized_prefix_free a.0 b.0 rest more s.1 t.1 h.1 a.1 b.1 in
    (ap (λ id. (id, s.1)) h.0 ∙ ap (λ content. (t.0, content)) c.0, c.1)

frames_first : (ts ss : List Section) (last : ℕ) (text rest bytes : List ℕ) → bytes ≡ text ++ rest → Frames last text ts → Frames last bytes ss → (us : List Section) × (ss ≡ ts ++ us)
frames_first [] ss last text rest bytes e f g = (ss, refl)
frames_first (t ∷ ts) [] last text rest bytes e f g =
    let a = f.2.1 in
    let none : [] ≡ t.0 ∷ (a.0 ++ (f.1 ++ rest)) = sym g ∙ e ∙ ap (λ z. z ++ rest) (f.4 ∙ ap (λ z. z ++ f.1) a.2) ∙ simp append_assoc in
    let bad = ap length none in
    absurd (omega (arith, bad))
frames_first (t ∷ ts) (s ∷ ss) last text rest bytes e f g =
    let whole : g.0 ++ g.1 ≡ f.0 ++ (f.1 ++ rest) = sym g.4 ∙ e ∙ ap (λ z. z ++ rest) f.4 ∙ append_assoc f.0 f.1 rest in
    let c = frame_same last g.0 f.0 g.1 (f.1 ++ rest) s t whole g.2 f.2 in
    let later = frames_first ts ss (order_after last t.0) f.1 rest g.1 c.1 f.3 (subst (λ (z : Section). Frames (order_after last z.0) g.1 ss) c.0 g.3) in
    (later.0, ap (λ z. z ∷ ss) c.0 ∙ ap (λ zs. t ∷ zs) later.1)

-- A list with an item has a last item.
last_of : (t : Section) (ts : List Section) → (front : List Section) × (last : Section) × (t ∷ ts ≡ front ++ last ∷ [])
last_of t [] = ([], t, refl)
last_of t (u ∷ us) = let k = last_of u us in (t ∷ k.0, k.1, ap (λ zs. t ∷ zs) k.2)

ends : (prefix bytes : List ℕ) (ts us : List Section) → Framed prefix ts → Framed bytes (ts ++ us) → (prefix ≡ header) ⊎ EndsWithAFrame prefix bytes
ends prefix bytes [] us f g = inl (f.4 ∙ ap (λ z. f.0 ++ z) f.3 ∙ append-nil f.0 ∙ f.2)
ends prefix bytes (t ∷ ts) us f g =
    let k = last_of t ts in
    inr (k.0, k.1, us, subst (Framed bytes) (ap (λ z. z ++ us) k.2 ∙ append_assoc k.0 (k.1 ∷ []) us) g, subst (Framed prefix) k.2 f)

pub cut_files : (many : Bool) (prefix rest : List ℕ) (whole part : Module) → rest ≢ [] → Spells (prefix ++ rest) whole many → Spells prefix part many → (prefix ≡ header) ⊎ EndsWithAFrame prefix (prefix ++ rest)
cut_files many prefix rest whole part some w p =
    let f = p.2 in
    let g = w.2 in
    let back : g.1 ≡ f.1 ++ rest = behind_header f.0 g.0 (f.1 ++ rest) g.1 f.2 g.2 (sym (append_assoc f.0 f.1 rest) ∙ ap (λ z. z ++ rest) (sym f.4) ∙ g.4) in
    let first = frames_first p.0 w.0 0 f.1 rest g.1 back f.3 g.3 in
    ends prefix (prefix ++ rest) p.0 first.0 f (subst (Framed (prefix ++ rest)) first.1 g)
  where
    behind_header : (a b xs ys : List ℕ) → a ≡ header → b ≡ header → a ++ xs ≡ b ++ ys → ys ≡ xs
    behind_header a b xs ys h k e = let same = sym (ap (λ z. z ++ xs) h) ∙ e ∙ ap (λ z. z ++ ys) k in cc
