-- A partition: frame f below the count is frame first + f of the memory under it. Every other frame has cause 2.
use Rattle.std.specs.Prelude.{◌≡◌, ℕ, ◌+◌, Bool, true, false, cond, ◌||◌, Ok, Err, Result, ◌==◌, nat_lt}
use Rattle.memory.specs.Memory.{Memory, cause, frame_limit}
use Rattle.memory.specs.Numbers.{refusal_number}
use Rattle.memory.specs.declared.partition.Partition.{Partition}
use Rattle.memory.specs.declared.refusal.Refused.{Refused}

abbrev pub parted : Memory → ℕ → ℕ → Memory
parted m first count f = cond (nat_lt f count) (m (first + f)) (cause 2)

-- no frame, or one past the last that a memory may have
abbrev pub bad_range : ℕ → ℕ → Bool
bad_range first count = count == 0 || nat_lt frame_limit (first + count)

-- What building a partition of memory m gives: the partition, or refusal 9 and m again.
abbrev pub Built : {M : Type 0} → M → ℕ → ℕ → Result (Partition M) (Refused M) → Type 0
Built m first count (Ok p) = (bad_range first count ≡ false) × (p.under ≡ m) × (p.first ≡ first) × (p.count ≡ count)
Built m first count (Err e) = (bad_range first count ≡ true) × (refusal_number e.refusal ≡ 9) × (e.back ≡ m)
