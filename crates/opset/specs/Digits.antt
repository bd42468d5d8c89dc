-- The binary digits of a number, counted from the lowest, which is digit 0.
-- Rests on arithmetic alone.
use Rattle.std.specs.Prelude.{ℕ, ◌/◌, ◌%◌, ◌^◌, Bool, ◌==◌}

-- digit i of n is 1
unfoldable pub bit : ℕ → ℕ → Bool
bit n i = n / 2 ^ i % 2 == 1
