-- Answers as plain numbers.
use Rattle.std.specs.Prelude.{ℕ}

-- The number of the case that was answered, and the value that came with it (0 where none does).
pub record Answer : Type 0 where
  pub number : ℕ
  pub value : ℕ

abbrev pub answer : ℕ → ℕ → Answer
answer n v = record { number = n; value = v }
