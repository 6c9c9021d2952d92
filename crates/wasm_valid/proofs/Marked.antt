-- The marks at the functions that are named, set by three loops.
use Rattle.base_lists.proofs.Common.{◌≡◌, ℕ, Bool, false, List, [], ◌++◌, sym, ap, ◌∙◌, append_assoc, replicate}
use Rattle.base_kept.specs.Marks.{named_from, marked_all}
use Rattle.base_kept.proofs.Marks.{all_marks, marked_append, no_marks}

pub named_is : (n : ℕ) (start one two three : List Bool) (es gs xs : List ℕ) → start ≡ replicate n false → one ≡ marked_all start es → two ≡ marked_all one gs → three ≡ marked_all two xs →
    three ≡ named_from (es ++ (gs ++ xs)) 0 n
named_is n start one two three es gs xs s a b c =
    c ∙ ap (λ z. marked_all z xs) (b ∙ ap (λ z. marked_all z gs) (a ∙ ap (λ z. marked_all z es) (s ∙ sym (no_marks 0 n))))
    ∙ ap (λ z. marked_all z xs) (sym (marked_append (named_from [] 0 n) es gs)) ∙ sym (marked_append (named_from [] 0 n) (es ++ gs) xs)
    ∙ all_marks [] ((es ++ gs) ++ xs) n ∙ ap (λ z. named_from z 0 n) (append_assoc es gs xs)
