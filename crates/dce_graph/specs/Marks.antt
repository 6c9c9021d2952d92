-- Marks on points.
use Rattle.std.specs.Prelude.{◌≡◌, ◌↔◌, ◌⊎◌, ◌<◌, ◌+◌, ℕ, suc, List, [], ◌∷◌, length, Bool, true, false, get_or, slice_get, slice_set, replicate, Contains, Option, Some, None}
use Rattle.wasm_tree_spec.specs.Prelude.{Module, funcs_of, globals_of}
use Rattle.dce_graph.specs.declared.graph.Graph.{Graph}
use Rattle.dce_graph.specs.declared.point.Point.{Point}
use Rattle.dce_graph.specs.declared.point.Point.TheVariants.{Node, Export, Import, Func, Global}
use Rattle.dce_graph.specs.declared.marks.Reached.{Reached}
use Rattle.dce_graph.specs.declared.search.Search.{Search}
use Rattle.dce_graph.specs.Reach.{place_in_kind, IsReached, point_count}

-- the marks of the kind of a point
abbrev pub flags : Reached → Point → List Bool
flags r (Node i) = r.nodes
flags r (Export i) = r.exports
flags r (Import i) = r.imports
flags r (Func i) = r.funcs
flags r (Global i) = r.globals

-- whether the point is marked
abbrev pub marked : Reached → Point → Bool
marked r p = get_or (flags r p) (place_in_kind p) false

-- whether a mark exists and is not set
abbrev pub not_set : Option Bool → Bool
not_set None = false
not_set (Some true) = false
not_set (Some false) = true

abbrev pub unmet : Reached → Point → Bool
unmet r p = not_set (slice_get (flags r p) (place_in_kind p))

abbrev pub with_mark : Reached → Point → Reached
with_mark r (Node i) = record r { nodes = slice_set r.nodes i true }
with_mark r (Export i) = record r { exports = slice_set r.exports i true }
with_mark r (Import i) = record r { imports = slice_set r.imports i true }
with_mark r (Func i) = record r { funcs = slice_set r.funcs i true }
with_mark r (Global i) = record r { globals = slice_set r.globals i true }

abbrev pub blank_marks : Graph → Module → Reached
blank_marks g m = record {
  nodes = replicate (length g.nodes) false;
  exports = replicate (length m.exports) false;
  imports = replicate (length m.imports) false;
  funcs = replicate (length (funcs_of m)) false;
  globals = replicate (length (globals_of m)) false;
}

-- how many marks are not set
abbrev pub blanks : List Bool → ℕ
blanks [] = 0
blanks (true ∷ bs) = blanks bs
blanks (false ∷ bs) = suc (blanks bs)

abbrev pub unmarked : Reached → ℕ
unmarked r = blanks r.nodes + (blanks r.exports + (blanks r.imports + (blanks r.funcs + blanks r.globals)))

-- there is a mark for the point
abbrev pub HasMark : Reached → Point → Type 0
HasMark r p = place_in_kind p < length (flags r p)

-- a search visited the points `ps`: those of them that have a mark are now marked, and no others
-- but those that were, and each that is newly marked is on the stack
pub record Spread (old : Search) (ps : List Point) (new : Search) : Type 0 where
  pub met : (q : Point) → Contains ps q → HasMark old.marks q → marked new.marks q ≡ true
  pub kept : (q : Point) → marked old.marks q ≡ true → marked new.marks q ≡ true
  pub only : (q : Point) → marked new.marks q ≡ true → (marked old.marks q ≡ true) ⊎ (Contains ps q × HasMark old.marks q)
  pub fresh : (q : Point) → marked new.marks q ≡ true → (marked old.marks q ≡ true) ⊎ Contains new.stack q
  pub stays : (q : Point) → Contains old.stack q → Contains new.stack q
  pub stacked : (q : Point) → Contains new.stack q → Contains old.stack q ⊎ (marked new.marks q ≡ true)
  pub weight : unmarked new.marks + length new.stack ≡ unmarked old.marks + length old.stack
  pub as_many : (q : Point) → length (flags new.marks q) ≡ length (flags old.marks q)

abbrev pub with_stack : Search → List Point → Search
with_stack s stack = record s { stack = stack }

-- there is one mark for each point, and it is set if and only if a path from a root meets the point
pub record AreExact (g : Graph) (m : Module) (r : Reached) : Type 0 where
  pub exactly : (p : Point) → (marked r p ≡ true) ↔ IsReached g m p
  pub one_each : (p : Point) → length (flags r p) ≡ point_count g m p
