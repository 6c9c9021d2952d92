-- What a chain of results came to.
use Rattle.std.proofs.Common.{◌≡◌, ℕ, ◌≤◌, cond, nat_lt, Result, Ok, Err, ap, refl, ⊎_elim}
use Rattle.base_lists.specs.Results.{◌>>=◌}
use Rattle.std.proofs.lemmas.Bool.{cases_lt, le-ltb, lt-ltb}

pub bind_ok : {A B E : Type 0} (r : Result A E) (f : A → Result B E) (y : B) → (r >>= f) ≡ Ok y → (x : A) × (r ≡ Ok x) × (f x ≡ Ok y)
bind_ok (Ok x) f y e = (x, refl, e)
bind_ok (Err w) f y e = cc

pub ok_pair : {A B E : Type 0} (a c : A) (b d : B) → ◌≡◌ {A = Result (A × B) E} (Ok (a, b)) (Ok (c, d)) → (a ≡ c) × (b ≡ d)
ok_pair {A} {B} a c b d e = let same : (a, b) ≡ (c, d) = cc in (ap (λ (p : A × B). p.0) same, ap (λ (p : A × B). p.1) same)

pub err_ok : {A E : Type 0} (e : E) (x : A) → ◌≡◌ {A = Result A E} (Err e) (Ok x) → ⊥
err_ok e x h = cc

pub within_most : {B E : Type 0} (fault : E) (most n : ℕ) (r : Result B E) (y : B) → cond (nat_lt most n) (Err fault) r ≡ Ok y → (n ≤ most) × (r ≡ Ok y)
within_most fault most n r y e = ⊎_elim (λ lt. let bad = rw (lt-ltb most n lt) at e in cc) (λ le. (le, rw (le-ltb most n le) at e)) (cases_lt most n)
