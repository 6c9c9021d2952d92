-- At most one item of a list is the first that does not hold.
use Rattle.base_lists.proofs.Common.{◌≡◌, ◌∙◌, sym, ap, ap₂, subst, ℕ, List, [], ◌∷◌, ◌++◌, length, Bool, true, false, refl}
use Rattle.wasm_tree_spec.specs.Prelude.{Module}
use Rattle.wasm_valid.specs.declared.kinds.ItemKind.{ItemKind}
use Rattle.wasm_valid.specs.declared.kinds.Invalid.{Invalid}
use Rattle.wasm_valid.specs.Prelude.{Item, HoldsAt, EachHolds, IsValid, IsSingle, item, items, span, IsFirstInvalid, index_of}
use Rattle.wasm_valid.specs.declared.kinds.ItemKind.TheVariants as kind

abbrev Holds : Module → Item → Type 0
Holds m x = HoldsAt m x.kind x.place

heads : (x y : Item) (xs ys : List Item) → x ∷ xs ≡ y ∷ ys → x ≡ y
heads x y xs ys e = cc

tails : (x y : Item) (xs ys : List Item) → x ∷ xs ≡ y ∷ ys → xs ≡ ys
tails x y xs ys e = cc

-- Two splits of a list at its first invalid item are at the same item.
split_once : (m : Module) (b b' : List Item) (x x' : Item) (a a' : List Item) → b ++ x ∷ a ≡ b' ++ x' ∷ a' → EachHolds m b → (Holds m x → ⊥) → EachHolds m b' → (Holds m x' → ⊥) → x ≡ x'
split_once m [] [] x x' a a' e h fails h' fails' = heads x x' a a' e
split_once m [] (y ∷ b') x x' a a' e h fails h' fails' = absurd (fails (subst (Holds m) (sym (heads x y a (b' ++ x' ∷ a') e)) h'.0))
split_once m (y ∷ b) [] x x' a a' e h fails h' fails' = absurd (fails' (subst (Holds m) (heads y x' (b ++ x ∷ a) a' e) h.0))
split_once m (y ∷ b) (z ∷ b') x x' a a' e h fails h' fails' = split_once m b b' x x' a a' (tails y z (b ++ x ∷ a) (b' ++ x' ∷ a') e) h.1 fails h'.1 fails'

pub first_is_one : (many : Bool) (m : Module) (one other : Invalid) → IsFirstInvalid m many one → IsFirstInvalid m many other → one ≡ other
first_is_one many m one other (x, before, after, split, hold, fails, kind_is, index_is) (x', before', after', split', hold', fails', kind_is', index_is') =
    let same = split_once m before before' x x' after after' (sym split ∙ split') hold fails hold' fails' in
    let kinds : one.kind ≡ other.kind = kind_is ∙ ap (λ (i : Item). i.kind) same ∙ sym kind_is' in
    let indexes : one.index ≡ other.index = index_is ∙ ap (λ (i : Item). index_of m i.kind i.place) same ∙ sym index_is' in
    let make : ItemKind → ℕ → Invalid = λ k i. record { kind = k; index = i } in
    ap₂ make kinds indexes

each_insert : (m : Module) (xs ys : List Item) (x : Item) → EachHolds m (xs ++ ys) → Holds m x → EachHolds m (xs ++ x ∷ ys)
each_insert m [] ys x h holds = (holds, h)
each_insert m (z ∷ xs) ys x h holds = (h.0, each_insert m xs ys x h.1 holds)

each_at : (m : Module) (before after : List Item) (x : Item) → EachHolds m (before ++ x ∷ after) → Holds m x
each_at m [] after x h = h.0
each_at m (z ∷ before) after x h = each_at m before after x h.1

-- All items of an accepted module hold, also the number of memories where that is tested.
pub all_hold : (many : Bool) (m : Module) → IsValid m → (many ≡ false → IsSingle m) → EachHolds m (items m many)
all_hold true m valid single = valid
all_hold false m valid single = each_insert m (span kind.Import 0 (length m.imports)) _ (item kind.Memories 0) valid (single refl)

pub none_is_first : (many : Bool) (m : Module) (e : Invalid) → IsValid m → (many ≡ false → IsSingle m) → IsFirstInvalid m many e → ⊥
none_is_first many m e valid single (x, before, after, split, hold, fails, kind_is, index_is) =
    fails (each_at m before after x (subst (EachHolds m) split (all_hold many m valid single)))
