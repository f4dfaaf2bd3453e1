-- Deal files: the one byte list of each deal, and the deal that such a list spells.
use Rattle.std.specs.Prelude.{ℕ, ◌-◌, ◌==◌, ◌&&◌, Bool, not, List, [], ◌∷◌, ◌++◌, length, take, drop, slice_index, nat_lt, codes, zero, suc}
use Rattle.std.specs.Int.{w64, to_be_bytes, from_be_bytes}
use Rattle.std.specs.List.{flat_map}
use Rattle.std.specs.Str.{bytes_eq}
use Rattle.sha2.specs.Sha256.{sha256}
use Rattle.psi_spec.specs.Deals.{SeedPair, ReceiverDeal, SenderDeal, seed_pairs}

-- the version of a deal file, and the bytes of its two kinds
abbrev pub deal_version : ℕ
deal_version = 2

abbrev pub receiver_file_size : ℕ
receiver_file_size = 32848

abbrev pub sender_file_size : ℕ
sender_file_size = 16528

-- ---- what is written

-- the front of a deal file: its kind, 0 for the receiver's and 1 for the sender's, and what both deals hold
abbrev pub deal_front : ℕ → List ℕ → ℕ → List ℕ → ℕ → ℕ → List ℕ
deal_front role id session key tag_length stash =
    codes "PSID" ++ (deal_version ∷ role ∷ [] ++ (id ++ (to_be_bytes w64 session ++ (key ++ tag_length ∷ stash ∷ []))))

-- the two seeds of each pair
abbrev pub pairs_bytes : List SeedPair → List ℕ
pairs_bytes pairs = flat_map (λ pair. pair.zero ++ pair.one) pairs

-- each seed
abbrev pub seeds_bytes : List (List ℕ) → List ℕ
seeds_bytes seeds = flat_map (λ seed. seed) seeds

-- bytes with their hash behind them
abbrev pub sealed : List ℕ → List ℕ
sealed bytes = bytes ++ sha256 bytes

-- the receiver's deal file
unfoldable pub receiver_bytes : ReceiverDeal → List ℕ
receiver_bytes deal =
    sealed (deal_front 0 deal.id deal.session deal.key deal.tag_length deal.stash ++ pairs_bytes deal.seeds)

-- the sender's deal file
unfoldable pub sender_bytes : SenderDeal → List ℕ
sender_bytes deal =
    sealed (deal_front 1 deal.id deal.session deal.key deal.tag_length deal.stash
    ++ (deal.choice ++ seeds_bytes deal.chosen))

-- ---- what is read

-- n seeds of 32 bytes, one after another
unfoldable pub seeds_of : ℕ → List ℕ → List (List ℕ)
seeds_of zero bytes = []
seeds_of (suc n) bytes = take 32 bytes ∷ seeds_of n (drop 32 bytes)

-- the deal that a receiver's file spells
unfoldable pub receiver_of : List ℕ → ReceiverDeal
receiver_of bytes = record {
  id = take 16 (drop 6 bytes);
  session = from_be_bytes w64 (take 8 (drop 22 bytes));
  key = take 16 (drop 30 bytes);
  tag_length = slice_index bytes 46;
  stash = slice_index bytes 47;
  seeds = seed_pairs 512 (drop 48 bytes);
}

-- the deal that a sender's file spells
unfoldable pub sender_of : List ℕ → SenderDeal
sender_of bytes = record {
  id = take 16 (drop 6 bytes);
  session = from_be_bytes w64 (take 8 (drop 22 bytes));
  key = take 16 (drop 30 bytes);
  tag_length = slice_index bytes 46;
  stash = slice_index bytes 47;
  choice = take 64 (drop 48 bytes);
  chosen = seeds_of 512 (drop 112 bytes);
}

-- ---- what a reader tests

-- the first four bytes are the magic ones
abbrev pub has_magic : List ℕ → Bool
has_magic bytes = bytes_eq (take 4 bytes) (codes "PSID")

-- there is a byte at that place, and another one than is wanted
abbrev pub has_other : ℕ → ℕ → List ℕ → Bool
has_other at wanted bytes = nat_lt at (length bytes) && not (slice_index bytes at == wanted)

-- the last 32 bytes are the hash of those before
unfoldable pub is_sealed : List ℕ → Bool
is_sealed bytes = bytes_eq (drop (length bytes - 32) bytes) (sha256 (take (length bytes - 32) bytes))
