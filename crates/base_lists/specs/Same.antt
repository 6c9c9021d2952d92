-- Whether two lists have the same elements in the same order, by a test of two elements.
use Rattle.std.specs.Prelude.{Bool, true, false, ◌&&◌, List, [], ◌∷◌}

abbrev pub each_same : {A : Type 0} → (A → A → Bool) → List A → List A → Bool
each_same same [] [] = true
each_same same [] (y ∷ ys) = false
each_same same (x ∷ xs) [] = false
each_same same (x ∷ xs) (y ∷ ys) = same x y && each_same same xs ys
