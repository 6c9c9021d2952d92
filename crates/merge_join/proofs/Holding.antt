-- The indices of a module that have entries in a map that fits it.
use Rattle.base_lists.proofs.Common.{◌≡◌, sym, subst, ℕ, ◌<◌, List, length, IsTrue, get_or, list_all, left_true, right_true}
use Rattle.wasm_tree_spec.specs.Prelude.{Import, Module}
use Rattle.index_remap.specs.declared.remap.Remap.{Remap}
use Rattle.index_remap.specs.Prelude.{fits_func, fits_tree, fits_import, fits_import_desc, fits_global, fits_export, fits_start, fits_elem, fits_data}
use Rattle.base_lists.proofs.Each.{all_at_place}

-- The map has an entry for each index that these parts of a tree name.
pub record Fitting (r : Remap) (m : Module) : Type 0 where
  pub imports : IsTrue (list_all (fits_import r) m.imports)
  pub funcs : IsTrue (list_all (fits_func r) m.funcs)
  pub globals : IsTrue (list_all (fits_global r) m.globals)
  pub exports : IsTrue (list_all (fits_export r) m.exports)
  pub start : IsTrue (fits_start r m.start)
  pub elems : IsTrue (list_all (fits_elem r) m.elems)
  pub datas : IsTrue (list_all (fits_data r) m.datas)

pub fitting : (r : Remap) (m : Module) → IsTrue (fits_tree r m) → Fitting r m
fitting r m h =
    let funcs_on = right_true (list_all (fits_import r) m.imports) _ h in
    let globals_on = right_true (list_all (fits_func r) m.funcs) _ funcs_on in
    let exports_on = right_true (list_all (fits_global r) m.globals) _ globals_on in
    let start_on = right_true (list_all (fits_export r) m.exports) _ exports_on in
    let elems_on = right_true (fits_start r m.start) _ start_on in
    record {
      imports = left_true _ _ h;
      funcs = left_true _ _ funcs_on;
      globals = left_true _ _ globals_on;
      exports = left_true _ _ exports_on;
      start = left_true _ _ start_on;
      elems = left_true _ _ elems_on;
      datas = right_true (list_all (fits_elem r) m.elems) _ elems_on;
    }

pub import_fits : (r : Remap) (m : Module) (is : List Import) (n : ℕ) (i : Import) → IsTrue (fits_tree r m) → is ≡ m.imports → n < length is → i ≡ get_or is n i → IsTrue (fits_import_desc r i.desc)
import_fits r m is n i h same lt here = all_at_place (fits_import r) is n i (subst (λ (is : List Import). IsTrue (list_all (fits_import r) is)) (sym same) (fitting r m h).imports) lt here
