-- What `send` does: it reads its items and its deal, opens the link, and runs the sender's end of a session.
use Rattle.std.specs.Prelude.{ℕ, List, [], None}
use Rattle.psi_spec.specs.Deals.{SenderDeal}
use Rattle.psi_sender.specs.Laws.{sender_dialogue}
use Rattle.psi_walk.specs.Files.{reads_items, reads_sender}
use Rattle.psi_words.specs.Words.{word_at}
use Rattle.psi_base.specs.Outside.{Link, link_to}
use Rattle.psi_base.specs.declared.opening.Side.TheVariants.{Listen}
use Rattle.psi_walk.specs.Tree.{Tree, opens, talks, holds, ends}

-- its link: it waits at the address of its first word for a receiver
abbrev pub receiver_link : List (List ℕ) → Link
receiver_link words = link_to Listen (word_at words 1)

-- what is left of `send` with its items and its deal
abbrev pub send_rest : List (List ℕ) → List (List ℕ) → SenderDeal → Tree
send_rest words ys deal = opens (receiver_link words) (talks (sender_dialogue deal ys) (λ taken. holds (ends None [])))

-- the items, the deal, the link and the session
abbrev pub send_tree : List (List ℕ) → Tree
send_tree words = reads_items 2 (λ ys. reads_sender 3 (λ deal. send_rest words ys deal))
