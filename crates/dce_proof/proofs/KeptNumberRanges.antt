-- The numbers of what is left of a module are in range, because they are numbers of the module.
use Rattle.base_lists.proofs.Common.{List, [], ◌∷◌, Bool, true, false, cond, IsUtf8}
use Rattle.base_lists.proofs.Every.{every_map}
use Rattle.std.proofs.Common.{filter}
use Rattle.base_lists.specs.Every.{Every}
use Rattle.base_kept.specs.Kept.{kept}
use Rattle.wasm_tree_spec.specs.Prelude.{ConstExpr, Export, GlobalDef, ElemMode, ElemSeg, Module}
use Rattle.wasm_tree.specs.declared.module.ElemMode.TheVariants as elem
use Rattle.dce_spec.specs.Marks.{Marks}
use Rattle.dce_spec.specs.Swept.{is_kept_ref, kept_items, kept_elem, defined_funcs, defined_globals, kept_tree, sweep_map, renumbered_kept, swept}
use Rattle.wasm_write_proof.specs.Ranges.{InRange}
use Rattle.wasm_valid_proof.specs.Numbers.{ConstNumberInRange, ImportNumbersInRange, FuncNumbersInRange, ElemNumbersInRange, NumbersInRange, OwnNumbersAreInRange, RenumberedNumbersAreInRange, DeclaredNumbersAreInRange}

-- A property of all elements holds of those that are kept.
kept_every : {A : Type 0} (P : A → Type 0) (bs : List Bool) (xs : List A) → Every P xs → Every P (kept bs xs)
kept_every P [] xs h = tt
kept_every P (b ∷ bs) [] h = tt
kept_every P (true ∷ bs) (x ∷ xs) h = (h.0, kept_every P bs xs h.1)
kept_every P (false ∷ bs) (x ∷ xs) h = kept_every P bs xs h.1

filter_every : {A : Type 0} (P : A → Type 0) (test : A → Bool) (xs : List A) → Every P xs → Every P (filter test xs)
filter_every P test [] h = tt
filter_every P test (x ∷ xs) h = by (test x) (filter_every P test xs h.1)
  where
    by : (b : Bool) → Every P (filter test xs) → Every P (cond b (x ∷ filter test xs) (filter test xs))
    by true rest = (h.0, rest)
    by false rest = rest

kept_items_in : (k : Marks) (m : ElemMode) (items : List ConstExpr) → Every ConstNumberInRange items → Every ConstNumberInRange (kept_items k m items)
kept_items_in k (elem.Active table offset) items h = h
kept_items_in k elem.Passive items h = h
kept_items_in k elem.Declarative items h = filter_every ConstNumberInRange (is_kept_ref k) items h

kept_elem_in : (k : Marks) (s : ElemSeg) → ElemNumbersInRange s → ElemNumbersInRange (kept_elem k s)
kept_elem_in k s h = (h.0, kept_items_in k s.mode s.items h.1)

kept_numbers : (k : Marks) (m : Module) → NumbersInRange m → NumbersInRange (kept_tree k m)
kept_numbers k m h = record {
  imports = kept_every ImportNumbersInRange k.imports m.imports h.imports;
  funcs = kept_every FuncNumbersInRange (defined_funcs k m) m.funcs h.funcs;
  tables = h.tables;
  mems = h.mems;
  globals = kept_every (λ (g : GlobalDef). ConstNumberInRange g.init) (defined_globals k m) m.globals h.globals;
  exports = kept_every (λ (e : Export). IsUtf8 e.name) k.exports m.exports h.exports;
  elems = every_map ElemNumbersInRange ElemNumbersInRange (kept_elem k) (kept_elem_in k) m.elems h.elems;
  datas = h.datas;
}

pub swept_numbers : OwnNumbersAreInRange → RenumberedNumbersAreInRange → DeclaredNumbersAreInRange → (k : Marks) (m : Module) → InRange m → NumbersInRange (swept k m)
unfolding swept
swept_numbers own renumbered declared k m h = declared (renumbered_kept k m) (renumbered (sweep_map k m) (kept_tree k m) (kept_numbers k m (own m h)))
