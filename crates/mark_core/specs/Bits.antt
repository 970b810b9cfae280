-- Sets of numbers, as words of bits and as lists. Ours, unless a source stands beside.
use Rattle.std.specs.Prelude.{ℕ, ◌/◌, ◌%◌, ◌==◌, ◌<◌, List, length, slice_index, count_by}
use Rattle.std.specs.Int.{bit_at}

-- bit n stands in word n / 64, at n % 64
abbrev pub bit_of : List ℕ → ℕ → ℕ
bit_of words n = bit_at (slice_index words (n / 64)) (n % 64)

-- each number below the count has a word
abbrev pub HasRoom : ℕ → List ℕ → Type 0
HasRoom count words = (n : ℕ) → n < count → n / 64 < length words

-- how often n stands in the list
abbrev pub times : ℕ → List ℕ → ℕ
times n xs = count_by (λ x. x == n) xs
