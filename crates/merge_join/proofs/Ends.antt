-- The entries that ends of imports have in the list of linked ends.
use Rattle.base_lists.proofs.Common.{◌≡◌, ap, refl, ℕ, List, Bool, false, Option, Some, None, arith, nat_tests}
use Rattle.std.proofs.Common.{eqb}
use Rattle.wasm_tree_spec.specs.Prelude.{Space, index_of_export}
use Rattle.std.specs.Option.{option_map, unwrap_or}
use Rattle.wasm_meaning.specs.Linking as linking
use Rattle.wasm_meaning.specs.Prelude.{Part, Site, linked_end, is_outside, same_site}
use Rattle.merge_spec.specs.declared.links.End.{End}
use Rattle.merge_spec.specs.declared.links.End.TheVariants.{Defined, Outside}
use Rattle.merge_spec.specs.Faults.{stays}
use Rattle.merge_spec.specs.Prelude.{end_entry}
use Rattle.merge_spec.specs.Merged.{place_of_end}
use Rattle.merge_join.specs.LinkedParts.{site, place_at}

-- Whether an import is this end.
abbrev pub is_self : Site → End → Bool
is_self s (Outside p n) = same_site s (site p n)
is_self s (Defined p i) = false

outside_is : (s : Site) (o : Option linking.End) (e : End) → option_map end_entry o ≡ Some e → is_outside s o ≡ is_self s e
outside_is s None e h = cc
outside_is s (Some (linking.Defined x)) e h = let is : Defined x.part (index_of_export x.what) ≡ e = cc in ap (is_self s) is
outside_is s (Some (linking.Outside t)) e h = let is : Outside t.part t.import ≡ e = cc in ap (is_self s) is

pub stays_is : (ps : List Part) (s : Site) (e : End) → option_map end_entry (linked_end ps s) ≡ Some e → stays ps s ≡ is_self s e
unfolding stays
stays_is ps s e h = outside_is s (linked_end ps s) e h

pub same_part : (p n q k : ℕ) → q ≡ p → eqb k n ≡ same_site (site p n) (site q k)
same_part p n q k e = grind (arith, nat_tests)

pub other_part : (p n q k : ℕ) → (q ≡ p → ⊥) → eqb q p ≡ same_site (site p n) (site q k)
other_part p n q k ne = grind (arith, nat_tests)

-- The place of an end depends only on its entry in the list of linked ends.
pub place_is : (ps : List Part) (k : Space) (end : linking.End) → place_of_end ps k end ≡ place_at ps k (end_entry end)
unfolding place_of_end place_at
place_is ps k (linking.Defined e) = refl
place_is ps k (linking.Outside s) = refl

pub or_zero : (o : Option ℕ) → unwrap_or o 0 ≡ unwrap_or o 0
or_zero None = refl
or_zero (Some a) = refl
