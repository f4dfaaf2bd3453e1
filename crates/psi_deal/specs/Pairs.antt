-- What contracts see of seeds that are kept in arrays.
use Rattle.std.specs.Prelude.{ℕ, List, map}
use Rattle.psi_spec.specs.Deals.{SeedPair, ReceiverDeal, SenderDeal}
use Rattle.psi_deal.specs.declared.head.Head.{Head}
use Rattle.psi_deal.specs.declared.seeds.SeedPair.{SeedPair as Pair}

abbrev pub pair_of : Pair → SeedPair
pair_of pair = record { zero = pair.zero; one = pair.one }

abbrev pub pairs_of : List Pair → List SeedPair
pairs_of pairs = map pair_of pairs

-- what contracts see of the two deals
abbrev pub receiver_view : Head → List Pair → ReceiverDeal
receiver_view head pairs = record {
  id = head.id;
  session = head.session;
  key = head.key;
  tag_length = head.tag_length;
  stash = head.stash;
  seeds = pairs_of pairs;
}

abbrev pub sender_view : Head → List ℕ → List (List ℕ) → SenderDeal
sender_view head choice seeds = record {
  id = head.id;
  session = head.session;
  key = head.key;
  tag_length = head.tag_length;
  stash = head.stash;
  choice = choice;
  chosen = seeds;
}
