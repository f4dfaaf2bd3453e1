-- Bits of bytes, and the words that bits make.
use Rattle.std.specs.Prelude.{◌≡◌, ◌<◌, ℕ, ◌+◌, ◌*◌, ◌/◌, ◌%◌, ◌^◌, List, [], ◌∷◌, length, replicate, slice_index, drop, zero, suc, bit_xor, bit_and}
use Rattle.std.specs.Int.{bit_at}
use Rattle.std.specs.Simd.Lanes.{zip2}

-- bit j of a list of bytes: bit j mod 8, from the lowest, of byte j div 8
abbrev pub bit_of : List ℕ → ℕ → ℕ
bit_of bytes j = bit_at (slice_index bytes (j / 8)) (j % 8)

-- the exclusive or of two byte lists, as long as the shorter one
abbrev pub xor : List ℕ → List ℕ → List ℕ
xor = zip2 bit_xor

-- the bits that two byte lists both have, as long as the shorter one
abbrev pub both : List ℕ → List ℕ → List ℕ
both = zip2 bit_and

-- a word of 512 bits: 64 bytes
pub record IsWord (word : List ℕ) : Type 0 where
  pub size : length word ≡ 64
  pub bytes : (i : ℕ) → slice_index word i < 2 ^ 8

-- the word of 512 zero bits
unfoldable pub zero_word : List ℕ
zero_word = replicate 64 0

-- eight bits as a byte, the first in the lowest place, with zeros where there are fewer
abbrev pub byte_of : List ℕ → ℕ
byte_of bits =
    slice_index bits 0 + 2 * slice_index bits 1 + 4 * slice_index bits 2 + 8 * slice_index bits 3
    + 16 * slice_index bits 4 + 32 * slice_index bits 5 + 64 * slice_index bits 6 + 128 * slice_index bits 7

-- n bytes of bits, eight to a byte, with zeros at the end
abbrev pub bytes_of : ℕ → List ℕ → List ℕ
bytes_of zero bits = []
bytes_of (suc n) bits = byte_of bits ∷ bytes_of n (drop 8 bits)

-- bits in as few bytes as hold them
unfoldable pub packed : List ℕ → List ℕ
packed bits = bytes_of ((length bits + 7) / 8) bits
