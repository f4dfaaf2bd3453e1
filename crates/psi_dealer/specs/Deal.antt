-- What `deal` does: it writes the two deal files of a seed.
use Rattle.std.specs.Prelude.{◌≡◌, ℕ, List, [], ◌∷◌, None}
use Rattle.psi_spec.specs.DealFiles.{receiver_bytes, sender_bytes}
use Rattle.psi_spec.specs.Deals.{ReceiverDeal, SenderDeal, ArePair}
use Rattle.psi_words.specs.Words.{word_at}
use Rattle.psi_base.specs.Outside.{Outside, written}
use Rattle.psi_walk.specs.NamedDeals.{receiver_of_words, sender_of_words}
use Rattle.psi_walk.specs.Tree.{puts, Tree, ends, End}
use Rattle.psi_texts.specs.declared.status.Status.TheVariants.{Done}

-- the pair of deals that the words of `deal` name from the first on
abbrev pub deal_receiver : List (List ℕ) → ReceiverDeal
deal_receiver words = receiver_of_words words 1

abbrev pub deal_sender : List (List ℕ) → SenderDeal
deal_sender words = sender_of_words words 1

-- the receiver's file is written, and then the sender's
abbrev pub deal_tree : List (List ℕ) → Tree
deal_tree words =
    ends None (puts 4 (receiver_bytes (deal_receiver words)) ∷ puts 5 (sender_bytes (deal_sender words)) ∷ [])

-- `deal` wrote the files of a pair of deals, and nothing else changed
pub record WroteDeals (words : List (List ℕ)) (before after : Outside) : Type 0 where
  pub pair : ArePair (deal_receiver words) (deal_sender words)
  pub left : after
      ≡ written (written before (word_at words 4) (receiver_bytes (deal_receiver words)))
      (word_at words 5) (sender_bytes (deal_sender words))

-- all that `deal` promises: where it is done it wrote both files, and changed nothing else
pub record DealPromise (words : List (List ℕ)) (before : Outside) (end : End) : Type 0 where
  pub writes : end.status ≡ Done → WroteDeals words before end.left
