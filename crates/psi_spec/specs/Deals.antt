-- Deals: what the receiver and the sender hold, the two deals that a dealer makes of one seed, and when two are a pair.
use Rattle.std.specs.Prelude.{◌≡◌, ◌^◌, ◌<◌, ℕ, ◌+◌, ◌==◌, ◌&&◌, Bool, true, List, [], ◌∷◌, length, slice_index_or, take, drop, map, All, nat_le, zero, suc, if◌then◌else◌}
use Rattle.psi_spec.specs.Limits.{stash_limit, tag_limit}
use Rattle.psi_spec.specs.Bits.{bit_of}
use Rattle.psi_spec.specs.Columns.{key_stream, column}

-- the two seeds of a base transfer
pub record SeedPair : Type 0 where
  pub zero : List ℕ
  pub one : List ℕ

-- what the receiver is dealt: both seeds of each of 512 base transfers
pub record ReceiverDeal : Type 0 where
  pub id : List ℕ
  pub session : ℕ
  pub key : List ℕ
  pub tag_length : ℕ
  pub stash : ℕ
  pub seeds : List SeedPair

-- what the sender is dealt: a choice word, and of each base transfer the seed that its bit chooses
pub record SenderDeal : Type 0 where
  pub id : List ℕ
  pub session : ℕ
  pub key : List ℕ
  pub tag_length : ℕ
  pub stash : ℕ
  pub choice : List ℕ
  pub chosen : List (List ℕ)

-- ---- sizes

-- a pair of seeds of 32 bytes
abbrev pub HasSeeds : SeedPair → Type 0
HasSeeds pair = (length pair.zero ≡ 32) × (length pair.one ≡ 32)

-- a tag has 1 to 16 bytes
abbrev pub fits_tag_length : ℕ → Bool
fits_tag_length n = nat_le 1 n && nat_le n tag_limit

-- the stash has at most 16 rows
abbrev pub fits_stash : ℕ → Bool
fits_stash n = nat_le n stash_limit

-- what is dealt to the receiver has its sizes
pub record IsReceiverDeal (deal : ReceiverDeal) : Type 0 where
  pub id : length deal.id ≡ 16
  pub session : deal.session < 2 ^ 64
  pub key : length deal.key ≡ 16
  pub tag_length : fits_tag_length deal.tag_length ≡ true
  pub stash : fits_stash deal.stash ≡ true
  pub count : length deal.seeds ≡ 512
  pub seeds : All HasSeeds deal.seeds

-- what is dealt to the sender has its sizes
pub record IsSenderDeal (deal : SenderDeal) : Type 0 where
  pub id : length deal.id ≡ 16
  pub session : deal.session < 2 ^ 64
  pub key : length deal.key ≡ 16
  pub tag_length : fits_tag_length deal.tag_length ≡ true
  pub stash : fits_stash deal.stash ≡ true
  pub choice : length deal.choice ≡ 64
  pub count : length deal.chosen ≡ 512
  pub chosen : All (λ seed. length seed ≡ 32) deal.chosen

-- ---- seeds

-- of a pair the seed that a bit chooses
abbrev pub chosen_seed : ℕ → SeedPair → List ℕ
chosen_seed bit pair = if bit == 0 then pair.zero else pair.one

-- the zero seed, or the one seed, of base transfer c
abbrev pub seed_at : ReceiverDeal → ℕ → ℕ → List ℕ
seed_at deal which c = chosen_seed which (slice_index_or deal.seeds c (record { zero = []; one = [] }))

-- n pairs of seeds of 32 bytes, one after another
unfoldable pub seed_pairs : ℕ → List ℕ → List SeedPair
seed_pairs zero bytes = []
seed_pairs (suc n) bytes = record { zero = take 32 bytes; one = take 32 (drop 32 bytes) } ∷ seed_pairs n (drop 64 bytes)

-- of each pair from base transfer c on the seed that the choice word names
abbrev pub chosen_from : List ℕ → ℕ → List SeedPair → List (List ℕ)
chosen_from choice c [] = []
chosen_from choice c (pair ∷ pairs) = chosen_seed (bit_of choice c) pair ∷ chosen_from choice (c + 1) pairs

-- ---- the dealt pair

-- the bytes of a deal: the key stream of the seed, with stream number 0
abbrev pub deal_bytes : List ℕ → List ℕ
deal_bytes seed = key_stream seed 0 32864

-- the receiver's half of the dealt pair
unfoldable pub dealt_receiver : List ℕ → ℕ → ℕ → ℕ → ReceiverDeal
dealt_receiver seed session tag_length stash = record {
  id = take 16 (deal_bytes seed);
  session = session;
  key = take 16 (drop 16 (deal_bytes seed));
  tag_length = tag_length;
  stash = stash;
  seeds = seed_pairs 512 (drop 96 (deal_bytes seed));
}

-- the sender's half of the dealt pair
unfoldable pub dealt_sender : List ℕ → ℕ → ℕ → ℕ → SenderDeal
dealt_sender seed session tag_length stash = record {
  id = take 16 (deal_bytes seed);
  session = session;
  key = take 16 (drop 16 (deal_bytes seed));
  tag_length = tag_length;
  stash = stash;
  choice = take 64 (drop 32 (deal_bytes seed));
  chosen = chosen_from (take 64 (drop 32 (deal_bytes seed))) 0 (seed_pairs 512 (drop 96 (deal_bytes seed)));
}

-- ---- columns

-- the receiver's columns of so many rows: those of the zero seeds and those of the one seeds
abbrev pub zero_columns : ReceiverDeal → ℕ → List (List ℕ)
zero_columns deal rows = map (λ pair. column pair.zero deal.session rows) deal.seeds

abbrev pub one_columns : ReceiverDeal → ℕ → List (List ℕ)
one_columns deal rows = map (λ pair. column pair.one deal.session rows) deal.seeds

-- the sender's columns of so many rows
abbrev pub sender_columns : SenderDeal → ℕ → List (List ℕ)
sender_columns deal rows = map (λ seed. column seed deal.session rows) deal.chosen

-- ---- pairs

-- the two deals are a pair: what both hold agrees, and each chosen seed is the one that the choice word names
pub record ArePair (receiver : ReceiverDeal) (sender : SenderDeal) : Type 0 where
  pub id : receiver.id ≡ sender.id
  pub session : receiver.session ≡ sender.session
  pub key : receiver.key ≡ sender.key
  pub tag_length : receiver.tag_length ≡ sender.tag_length
  pub stash : receiver.stash ≡ sender.stash
  pub chosen : sender.chosen ≡ chosen_from sender.choice 0 receiver.seeds
