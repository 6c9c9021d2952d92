-- The tests of sameness: two values that pass one are equal, and each value passes with itself.
use Rattle.base_lists.proofs.Common.{◌≡◌, ap₂, refl, Bool, true, nat_eq, arith, eqb-true, and_parts, and_from}
use Rattle.base_lists.proofs.Same.{text_is, text_self}
use Rattle.std.proofs.Common.{eq-eqb}
use Rattle.wasm_tree_spec.specs.Prelude.{Space, same_space, RefType, ValType}
use Rattle.wasm_meaning.specs.Prelude.{Pair, same_ref, same_type, same_bool, Site, same_text, same_pair, same_site}

pub ref_is : (r s : RefType) → same_ref r s ≡ true → r ≡ s
ref_is r s h = grind arith

pub type_is : (s t : ValType) → same_type s t ≡ true → s ≡ t
type_is s t h = grind arith

pub ref_same : (r : RefType) → same_ref r r ≡ true
ref_same r = grind arith

pub type_same : (t : ValType) → same_type t t ≡ true
type_same t = grind arith

pub bool_is : (a b : Bool) → same_bool a b ≡ true → a ≡ b
bool_is a b h = grind arith

pub pair_is : (p q : Pair) → same_pair p q ≡ true → p ≡ q
pair_is p q h = let b = and_parts (same_text p.0 q.0) (same_text p.1 q.1) h in ap₂ (λ x y. (x, y)) (text_is p.0 q.0 b.0) (text_is p.1 q.1 b.1)

pub pair_same : (p : Pair) → same_pair p p ≡ true
pair_same p = and_from (same_text p.0 p.0) (same_text p.1 p.1) (text_self p.0) (text_self p.1)

pub site_is : (s t : Site) → same_site s t ≡ true → s ≡ t
site_is s t h =
    let b = and_parts (nat_eq s.part t.part) (nat_eq s.import t.import) h in
    ap₂ (λ x y. record { part = x; import = y }) (eqb-true s.part t.part b.0) (eqb-true s.import t.import b.1)

pub site_same : (s : Site) → same_site s s ≡ true
site_same s = and_from (nat_eq s.part s.part) (nat_eq s.import s.import) (eq-eqb s.part s.part refl) (eq-eqb s.import s.import refl)

pub kind_is : (k l : Space) → same_space k l ≡ true → k ≡ l
kind_is k l h = grind arith

pub kind_same : (k : Space) → same_space k k ≡ true
kind_same k = grind arith
