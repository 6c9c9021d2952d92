-- The parts of a machine that steps preserve; a machine in which they are preserved fits its module
-- as before.
use Rattle.base_lists.proofs.Common.{◌≡◌, ℕ, zero, suc, ◌≤◌, arith, List, [], ◌∷◌, length, map, Option, Some, None, refl, sym, ap, ◌∙◌, slice_get, min}
use Rattle.block_pool.specs.Pages.{Pages, WritesBytes}
use Rattle.wasm_tree_spec.specs.Prelude.{Limits, Module}
use Rattle.eval_spec.specs.declared.limits.TheConstants.{MOST_BLOCKS}
use Rattle.eval_machine.specs.declared.globals.GlobalSlot.{GlobalSlot}
use Rattle.eval_machine.specs.declared.kept.Kept.{Kept}
use Rattle.eval_machine.specs.Prelude.{is_of_import, MachineFits, MemoryFits, MemoryStays, Stays, HoldsMost}
use Rattle.eval_machine.specs.UnchangedParts.{PagesStay}
use Rattle.eval_machine.proofs.UndoNotes.{undo_same, undo_then}

pub pages_stay : (p : Pages) → PagesStay p p
pages_stay p = record { size = refl; blocks = refl; most = refl; mark = refl }

pub memory_stays : (p : Option Pages) → MemoryStays p p
memory_stays None = tt
memory_stays (Some p) = pages_stay p

pub memory_then : (p q r : Option Pages) → MemoryStays p q → MemoryStays q r → MemoryStays p r
memory_then None None None a b = tt
memory_then (Some p) (Some q) (Some r) a b = record { size = b.size ∙ a.size; blocks = b.blocks ∙ a.blocks; most = b.most ∙ a.most; mark = b.mark ∙ a.mark }
memory_then None (Some q) r a b = elim a [ ]
memory_then (Some p) None r a b = elim a [ ]
memory_then None None (Some r) a b = elim b [ ]
memory_then (Some p) (Some q) None a b = elim b [ ]

-- A machine that only spends turns keeps its other parts.
pub stays_less : (k : Kept) (turns : ℕ) → turns ≤ k.turns → Stays k (record k { turns = turns })
stays_less k turns le = record { slots = refl; imports = refl; dropped = refl; types = refl; imported = refl; memory = memory_stays k.memory; turns = le; undo = undo_same k.undo k.globals k.dropped }

pub stays_same : (k : Kept) → Stays k k
stays_same k = record { slots = refl; imports = refl; dropped = refl; types = refl; imported = refl; memory = memory_stays k.memory; turns = omega arith; undo = undo_same k.undo k.globals k.dropped }

pub stays_then : (i j k : Kept) → Stays i j → Stays j k → Stays i k
stays_then i j k a b = record {
  slots = b.slots ∙ a.slots;
  imports = b.imports ∙ a.imports;
  dropped = b.dropped ∙ a.dropped;
  types = b.types ∙ a.types;
  imported = b.imported ∙ a.imported;
  memory = memory_then i.memory j.memory k.memory a.memory b.memory;
  turns = omega (arith, a.turns, b.turns);
  undo = undo_then i.undo i.globals i.dropped j.undo j.globals j.dropped k.undo k.globals k.dropped a.undo b.undo;
}

pub holds_most : (p q : Pages) → PagesStay p q → HoldsMost p → HoldsMost q
holds_most p q a h = a.most ∙ h ∙ ap (min MOST_BLOCKS) (sym a.blocks)

memory_fits : (ls : List Limits) (p q : Option Pages) → MemoryStays p q → MemoryFits ls p → MemoryFits ls q
memory_fits [] None None a f = tt
memory_fits [] None (Some q) a f = elim a [ ]
memory_fits [] (Some p) q a f = elim f [ ]
memory_fits (l ∷ []) (Some p) (Some q) a f = (a.size ∙ f.0, holds_most p q a f.1)
memory_fits (l ∷ []) (Some p) None a f = elim a [ ]
memory_fits (l ∷ []) None q a f = elim f [ ]
memory_fits (l ∷ k ∷ ls) p q a f = elim f [ ]

-- Two lists that agree in which globals are imported agree in this at each index.
same_at : (xs ys : List GlobalSlot) → map (λ g. is_of_import g.standing) ys ≡ map (λ g. is_of_import g.standing) xs → (n : ℕ) (g : GlobalSlot) → slice_get ys n ≡ Some g →
    (h : GlobalSlot) × (slice_get xs n ≡ Some h) × (is_of_import g.standing ≡ is_of_import h.standing)
same_at xs [] e n g f = absurd (let k = f in cc)
same_at [] (y ∷ ys) e n g f = absurd (let k = e in cc)
same_at (x ∷ xs) (y ∷ ys) e zero g f = let k : y ≡ g = cc in (x, refl, ap (λ g. is_of_import g.standing) (sym k) ∙ (let h : is_of_import y.standing ≡ is_of_import x.standing = cc in h))
same_at (x ∷ xs) (y ∷ ys) e (suc n) g f = same_at xs ys (let h : map (λ g. is_of_import g.standing) ys ≡ map (λ g. is_of_import g.standing) xs = cc in h) n g f

pub fits_still : (m : Module) (k j : Kept) → MachineFits m k → Stays k j → MachineFits m j
fits_still m k j f a = record {
  ready = f.ready;
  types = a.types ∙ f.types;
  imported = λ n g e. let h = same_at k.globals j.globals a.imported n g e in h.2 ∙ f.imported n h.0 h.1;
  memory = memory_fits m.mems k.memory j.memory a.memory f.memory;
  dropped = a.dropped ∙ f.dropped;
  slots = λ table place lt. rw a.slots (f.slots table place lt);
  sizes = f.sizes;
  imports = a.imports ∙ f.imports;
  flags = a.undo.flags f.flags;
}

-- ---- writes ----

pub writes_stay : (p q : Pages) (at : ℕ) (bytes : List ℕ) → WritesBytes p q at bytes → PagesStay p q
writes_stay p q at bytes w = record { size = w.size; blocks = w.flags; most = w.most; mark = w.mark }
