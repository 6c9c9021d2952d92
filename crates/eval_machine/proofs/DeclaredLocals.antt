-- The locals that groups declare.
use Rattle.base_lists.proofs.Common.{◌≡◌, ℕ, zero, suc, ◌+◌, ◌<◌, arith, List, [], ◌∷◌, ◌++◌, length, drop, get_or, drop-cons, refl, sym, ap, ◌∙◌, append_assoc, length-append}
use Rattle.wasm_tree_spec.specs.Prelude.{ValType, LocalGroup}
use Rattle.wasm_meaning.specs.Prelude.{copies, Val, declared, zero_of, zeros}

pub zeros_more : (n : ℕ) (t : ValType) → zeros (copies n t) ++ zero_of t ∷ [] ≡ zeros (copies (n + 1) t)
zeros_more zero t = refl
zeros_more (suc n) t = let e : suc n + 1 ≡ suc (n + 1) = omega arith in rw e (ap (λ l. zero_of t ∷ l) (zeros_more n t))

length_copies : (n : ℕ) (t : ValType) → length (copies n t) ≡ n
length_copies zero t = refl
length_copies (suc n) t = ap suc (length_copies n t)

pub declared_many : (g : LocalGroup) (gs : List LocalGroup) → length (declared (g ∷ gs)) ≡ g.count + length (declared gs)
declared_many g gs = length-append (copies g.count g.ty) (declared gs) ∙ ap (λ n. n + length (declared gs)) (length_copies g.count g.ty)

pub zeros_append : (ts us : List ValType) → zeros (ts ++ us) ≡ zeros ts ++ zeros us
zeros_append [] us = refl
zeros_append (t ∷ ts) us = ap (λ l. zero_of t ∷ l) (zeros_append ts us)

-- The locals of the groups from a place on are those of the group there, and then those of the
-- groups after it.
pub declared_drop : (gs : List LocalGroup) (i : ℕ) (g : LocalGroup) (n : ℕ) → i < length gs → n ≡ (get_or gs i g).count → length (declared (drop i gs)) ≡ n + length (declared (drop (i + 1) gs))
declared_drop gs i g n lt e =
    let s : i + 1 ≡ suc i = omega arith in rw (e, s) (ap (λ l. length (declared l)) (drop-cons gs i g lt) ∙ declared_many (get_or gs i g) (drop (suc i) gs))

pub zeros_drop : (old new : List Val) (gs : List LocalGroup) (i : ℕ) (g : LocalGroup) → i < length gs → new ≡ old ++ zeros (copies (get_or gs i g).count (get_or gs i g).ty) →
    new ++ zeros (declared (drop (i + 1) gs)) ≡ old ++ zeros (declared (drop i gs))
zeros_drop old new gs i g lt e =
    let s : i + 1 ≡ suc i = omega arith in
    let h = get_or gs i g in
    rw (e, s) (append_assoc old (zeros (copies h.count h.ty)) (zeros (declared (drop (suc i) gs))) ∙ ap (λ l. old ++ l) (sym (zeros_append (copies h.count h.ty) (declared (drop (suc i) gs))) ∙ ap (λ l. zeros (declared l)) (sym (drop-cons gs i g lt))))
