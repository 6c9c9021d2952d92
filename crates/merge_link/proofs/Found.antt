-- The place and the end of a single import, from the lists of places and ends.
use Rattle.base_lists.proofs.Common.{◌≡◌, ◌∙◌, sym, ap, ℕ, List, Option, Some, None, map, length, slice_get, slice_get-map, length-map}
use Rattle.std.specs.Option.{option_map, IfSome}
use Rattle.wasm_meaning.specs.Linking as linking
use Rattle.merge_spec.specs.declared.parts.Part.{Part}
use Rattle.merge_spec.specs.Prelude.{named_modules}
use Rattle.merge_spec.specs.Faults as faults
use Rattle.merge_link.specs.declared.sites.Site.{Site}
use Rattle.merge_link.specs.declared.part_tables.Ending.{Ending}
use Rattle.merge_link.specs.Prelude.{AreSites, the_site, AreKnown, the_end}
use Rattle.merge_link.specs.Sites.{ImportExists}
use Rattle.merge_link.specs.PartTables.{AreStops, IsStop, end_at}
use Rattle.merge_link.proofs.Numbers.{site_there}

pub there_at : (ps : List Part) (sites : List Site) (i : ℕ) (s : Site) → AreSites ps sites → slice_get sites i ≡ Some s → ImportExists ps s
there_at ps sites i s are h = site_there (named_modules ps) i (the_site s) (ap (λ xs. slice_get xs i) (sym are) ∙ slice_get-map the_site sites i ∙ ap (option_map the_site) h)

pub stop_at : (ps : List Part) (ends : List (Option Ending)) (i : ℕ) (o : Option Ending) → AreStops ps ends → slice_get ends i ≡ Some o → IfSome o (λ e. IsStop (named_modules ps) (the_end e))
stop_at ps ends i None are h = tt
stop_at ps ends i (Some e) are h = are i e h

-- Lists with equal images have elements with equal images at each place.
pub same_at : {A B C : Type 0} (f : A → C) (g : B → C) (xs : List A) (ys : List B) (i : ℕ) (x : A) (y : B) → map f xs ≡ map g ys → slice_get xs i ≡ Some x → slice_get ys i ≡ Some y → f x ≡ g y
same_at f g xs ys i x y e h k =
    let a = slice_get-map f xs i ∙ ap (option_map f) h in
    let b = slice_get-map g ys i ∙ ap (option_map g) k in
    let both : Some (f x) ≡ Some (g y) = sym a ∙ ap (λ zs. slice_get zs i) e ∙ b in
    cc

pub lengths_same : {A B C : Type 0} (f : A → C) (g : B → C) (xs : List A) (ys : List B) → map f xs ≡ map g ys → length xs ≡ length ys
lengths_same f g xs ys e = sym (length-map xs f) ∙ ap length e ∙ length-map ys g

-- The fault of an import depends only on its end.
pub fault_at : (ps : List Part) (sites : List Site) (ends : List (Option Ending)) (i : ℕ) (s : Site) (o : Option Ending) → map (option_map the_end) ends ≡ map (end_at ps) sites
    → slice_get sites i ≡ Some s → slice_get ends i ≡ Some o → faults.import_fault (named_modules ps) (the_site s) ≡ faults.end_fault (named_modules ps) (the_site s) (option_map the_end o)
unfolding faults.import_fault end_at
fault_at ps sites ends i s o e h k = ap (faults.end_fault (named_modules ps) (the_site s)) (sym (same_at (option_map the_end) (end_at ps) ends sites i o s e k h))

pub known_at : (ps : List Part) (sites : List Site) (ends : List Ending) (i : ℕ) (s : Site) (e : Ending) → AreKnown ps sites ends → slice_get sites i ≡ Some s → slice_get ends i ≡ Some e → linking.end_of (named_modules ps) (the_site s) ≡ Some (the_end e)
unfolding end_at
known_at ps sites ends i s e are h k = sym (same_at (λ x. Some (the_end x)) (end_at ps) ends sites i e s are.same k h)

pub known_size : (ps : List Part) (sites : List Site) (ends : List Ending) → AreKnown ps sites ends → length ends ≡ length sites
known_size ps sites ends are = lengths_same (λ x. Some (the_end x)) (end_at ps) ends sites are.same
