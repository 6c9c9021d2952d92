-- The lines of a sample, appended one by one.
use Rattle.std.proofs.Common.{[], ◌≡◌, ◌∙◌, ap, ℕ, ◌++◌, append_assoc, decimal}
use Rattle.tools_cli_spec.specs.CommandLine.{Text}

-- The new text is the old one with a text and the decimal digits of a number appended.
abbrev pub IsAdded : (old new text : Text) (number : ℕ) → Type 0
IsAdded old new text number = new ≡ old ++ (text ++ decimal number)

pub added_as : (old new text : Text) (n m : ℕ) → n ≡ m → IsAdded old new text n → IsAdded old new text m
added_as old new text n m same e = e ∙ ap (λ k. old ++ (text ++ decimal k)) same

pub five_added : (s0 s1 s2 s3 s4 s5 s6 a b c d e end : Text) (i j k l m : ℕ) → s0 ≡ [] → IsAdded s0 s1 a i → IsAdded s1 s2 b j → IsAdded s2 s3 c k → IsAdded s3 s4 d l → IsAdded s4 s5 e m → s6 ≡ s5 ++ end
    → s6 ≡ a ++ (decimal i ++ (b ++ (decimal j ++ (c ++ (decimal k ++ (d ++ (decimal l ++ (e ++ (decimal m ++ end)))))))))
five_added s0 s1 s2 s3 s4 s5 s6 a b c d e end i j k l m h0 h1 h2 h3 h4 h5 h6 =
    let one : s1 ≡ a ++ decimal i = h1 ∙ ap (λ s. s ++ (a ++ decimal i)) h0 in
    let two = h2 ∙ ap (λ s. s ++ (b ++ decimal j)) one in
    let three = h3 ∙ ap (λ s. s ++ (c ++ decimal k)) two in
    let four = h4 ∙ ap (λ s. s ++ (d ++ decimal l)) three in
    let five = h5 ∙ ap (λ s. s ++ (e ++ decimal m)) four in
    h6 ∙ ap (λ s. s ++ end) five ∙ simp append_assoc
