-- Remaps are equal where their lists are equal.
use Rattle.std.proofs.Common.{◌≡◌, ℕ, List, ap, ◌∙◌}
use Rattle.index_remap.specs.declared.remap.Remap.{Remap}

abbrev pub remap_of : (types funcs tables mems globals elems datas : List ℕ) → Remap
remap_of types funcs tables mems globals elems datas = record { types = types; funcs = funcs; tables = tables; mems = mems; globals = globals; elems = elems; datas = datas }

pub same_maps : {t t' f f' b b' m m' g g' e e' d d' : List ℕ} → t ≡ t' → f ≡ f' → b ≡ b' → m ≡ m' → g ≡ g' → e ≡ e' → d ≡ d' →
    remap_of t f b m g e d ≡ remap_of t' f' b' m' g' e' d'
same_maps {t} {t'} {f} {f'} {b} {b'} {m} {m'} {g} {g'} {e} {e'} {d} {d'} ts fs bs ms gs es ds =
    ap (λ x. remap_of x f b m g e d) ts ∙ ap (λ x. remap_of t' x b m g e d) fs ∙ ap (λ x. remap_of t' f' x m g e d) bs ∙ ap (λ x. remap_of t' f' b' x g e d) ms
    ∙ ap (λ x. remap_of t' f' b' m' x e d) gs ∙ ap (λ x. remap_of t' f' b' m' g' x d) es ∙ ap (λ x. remap_of t' f' b' m' g' e' x) ds
