-- A tile of 64 words of 64 bits, and its transposition by six exchanges.
use Rattle.std.specs.Prelude.{◌≡◌, ◌+◌, ◌-◌, ◌*◌, ◌/◌, ◌%◌, ◌^◌, ◌<◌, ℕ, List, slice_index, bit_xor, bit_and}
use Rattle.std.specs.Int.{bit_at}

-- bit j of word i is bit i of the old word j
abbrev pub IsTransposed : List ℕ → List ℕ → Type 0
IsTransposed old new =
    (i j : ℕ) → i < 64 → j < 64 → bit_at (slice_index new i) j ≡ bit_at (slice_index old j) i

-- the bits of a mask are those whose place, counted in runs of so many, is in an even run
abbrev pub IsMask : ℕ → ℕ → Type 0
IsMask shift mask = (j : ℕ) → j < 64 → bit_at mask j ≡ 1 - j / shift % 2

-- the bits under the mask that the two words exchange
abbrev pub turned : ℕ → ℕ → ℕ → ℕ → ℕ
turned shift mask low high = bit_and (bit_xor (low / 2 ^ shift) high) mask

-- the two words after the exchange of the low word's odd runs and the high word's even ones
abbrev pub first_of : ℕ → ℕ → ℕ → ℕ → ℕ
first_of shift mask low high = bit_xor low (turned shift mask low high * 2 ^ shift % 2 ^ 64)

abbrev pub second_of : ℕ → ℕ → ℕ → ℕ → ℕ
second_of shift mask low high = bit_xor high (turned shift mask low high)

-- words 2 k and 2 k + 1 are made of the old words k and k + 32
pub record MakesPair (shift mask : ℕ) (old new : List ℕ) (k : ℕ) : Type 0 where
  pub first : slice_index new (2 * k) ≡ first_of shift mask (slice_index old k) (slice_index old (k + 32))
  pub second : slice_index new (2 * k + 1) ≡ second_of shift mask (slice_index old k) (slice_index old (k + 32))

-- the word that bit c of word v comes from: one bit of c has become the top bit of v, which was turned by one
abbrev pub word_before : ℕ → ℕ → ℕ → ℕ
word_before shift v c = v / 2 + 32 * (c / shift % 2)

-- the place that it comes from in that word
abbrev pub place_before : ℕ → ℕ → ℕ → ℕ
place_before shift v c = c + shift * (v % 2) - shift * (c / shift % 2)

-- each bit comes from its place before the exchange of runs of so many bits
abbrev pub IsExchanged : ℕ → List ℕ → List ℕ → Type 0
IsExchanged shift old new = (v c : ℕ) → v < 64 → c < 64
    → bit_at (slice_index new v) c ≡ bit_at (slice_index old (word_before shift v c)) (place_before shift v c)
