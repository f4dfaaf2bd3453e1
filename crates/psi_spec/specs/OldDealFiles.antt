-- Deal files of version 1, which have no byte for the rows of the stash: each of their deals has the usual ones.
use Rattle.std.specs.Prelude.{◌≡◌, ℕ, List, [], ◌∷◌, ◌++◌, take, drop, slice_index, codes}
use Rattle.std.specs.Int.{w64, to_be_bytes, from_be_bytes}
use Rattle.psi_spec.specs.Limits.{usual_stash}
use Rattle.psi_spec.specs.Deals.{ReceiverDeal, SenderDeal, IsReceiverDeal, IsSenderDeal, seed_pairs}
use Rattle.psi_spec.specs.DealFiles.{pairs_bytes, seeds_bytes, sealed, seeds_of}

-- their version, and the bytes of their two kinds
abbrev pub old_version : ℕ
old_version = 1

abbrev pub old_receiver_size : ℕ
old_receiver_size = 32847

abbrev pub old_sender_size : ℕ
old_sender_size = 16527

-- ---- what was written

-- the front of such a file: its kind, 0 for the receiver's and 1 for the sender's, and what both deals hold
abbrev pub old_front : ℕ → List ℕ → ℕ → List ℕ → ℕ → List ℕ
old_front role id session key tag_length =
    codes "PSID" ++ (old_version ∷ role ∷ [] ++ (id ++ (to_be_bytes w64 session ++ (key ++ tag_length ∷ []))))

-- the receiver's deal file
unfoldable pub old_receiver_bytes : ReceiverDeal → List ℕ
old_receiver_bytes deal =
    sealed (old_front 0 deal.id deal.session deal.key deal.tag_length ++ pairs_bytes deal.seeds)

-- the sender's deal file
unfoldable pub old_sender_bytes : SenderDeal → List ℕ
old_sender_bytes deal =
    sealed (old_front 1 deal.id deal.session deal.key deal.tag_length ++ (deal.choice ++ seeds_bytes deal.chosen))

-- the bytes are the file of version 1 of a receiver's deal
pub record IsOldReceiverFile (deal : ReceiverDeal) (bytes : List ℕ) : Type 0 where
  pub sizes : IsReceiverDeal deal
  pub stash : deal.stash ≡ usual_stash
  pub is : bytes ≡ old_receiver_bytes deal

-- the bytes are the file of version 1 of a sender's deal
pub record IsOldSenderFile (deal : SenderDeal) (bytes : List ℕ) : Type 0 where
  pub sizes : IsSenderDeal deal
  pub stash : deal.stash ≡ usual_stash
  pub is : bytes ≡ old_sender_bytes deal

-- ---- what is read

-- the deal that such a receiver's file spells
unfoldable pub old_receiver_of : List ℕ → ReceiverDeal
old_receiver_of bytes = record {
  id = take 16 (drop 6 bytes);
  session = from_be_bytes w64 (take 8 (drop 22 bytes));
  key = take 16 (drop 30 bytes);
  tag_length = slice_index bytes 46;
  stash = usual_stash;
  seeds = seed_pairs 512 (drop 47 bytes);
}

-- the deal that such a sender's file spells
unfoldable pub old_sender_of : List ℕ → SenderDeal
old_sender_of bytes = record {
  id = take 16 (drop 6 bytes);
  session = from_be_bytes w64 (take 8 (drop 22 bytes));
  key = take 16 (drop 30 bytes);
  tag_length = slice_index bytes 46;
  stash = usual_stash;
  choice = take 64 (drop 47 bytes);
  chosen = seeds_of 512 (drop 111 bytes);
}
