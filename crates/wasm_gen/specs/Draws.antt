-- A linear congruential generator.
use Rattle.std.specs.Prelude.{ℕ, zero, suc, ◌+◌, ◌*◌, ◌%◌, ◌^◌}

-- the number that is drawn after this one
abbrev pub next : ℕ → ℕ
next s = (s * 1103515245 + 12345) % 2 ^ 31

-- the draw with this number; the seed is draw 0
abbrev pub draw : (seed number : ℕ) → ℕ
draw seed zero = seed
draw seed (suc n) = next (draw seed n)
