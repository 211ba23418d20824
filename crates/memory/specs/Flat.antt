-- Flat memory: the whole frames of a store of words, at most 4,096 of them. Every other frame has cause 1.
use Rattle.std.specs.Prelude.{◌≡◌, ℕ, ◌+◌, ◌*◌, ◌/◌, ◌%◌, Bool, true, false, cond, ◌&&◌, List, length, Ok, Err, Result, nat_lt, slice_index}
use Rattle.memory.specs.Memory.{Memory, words, cause, frame_words, frame_limit}
use Rattle.memory.specs.declared.guest.Cause.{Cause}

-- is frame f whole in the store?
abbrev pub whole : List ℕ → ℕ → Bool
whole store f = nat_lt f frame_limit && nat_lt f (length store / frame_words)

-- where the word at index i of frame f stands in the store
abbrev pub position_of : ℕ → ℕ → ℕ
position_of f i = f * frame_words + i % frame_words

abbrev pub flat : List ℕ → Memory
flat store f = cond (whole store f) (words (λ i. slice_index store (position_of f i))) (cause 1)

-- what the question whether frame f is whole gives
abbrev pub ToldWhole : List ℕ → ℕ → Result Unit Cause → Type 0
ToldWhole store f (Ok u) = whole store f ≡ true
ToldWhole store f (Err c) = (whole store f ≡ false) × (c.number ≡ 1)
