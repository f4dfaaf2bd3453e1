-- Words of 64 bits within bytes.
use Rattle.std.specs.Prelude.{◌≡◌, ◌+◌, ◌*◌, ◌^◌, ◌<◌, ℕ, List, length, slice_index}
use Rattle.std.specs.Int.{bit_at}
use Rattle.psi_spec.specs.Bits.{bit_of}

-- so many bytes
pub record IsBytes (count : ℕ) (bytes : List ℕ) : Type 0 where
  pub long : length bytes ≡ count
  pub small : (i : ℕ) → slice_index bytes i < 2 ^ 8

-- the new bytes have the bits of a word from byte `at` on, as far as they go, and those before as they were
pub record PutsWord (at word : ℕ) (old new : List ℕ) : Type 0 where
  pub inside : (i : ℕ) → i < 64 → 8 * at + i < 8 * length new → bit_of new (8 * at + i) ≡ bit_at word i
  pub below : (i : ℕ) → i < 8 * at → bit_of new i ≡ bit_of old i
