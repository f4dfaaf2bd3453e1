-- The first field in which two deals are no pair.
use Rattle.std.specs.Prelude.{ℕ, ◌+◌, ◌==◌, not, List, [], ◌∷◌, Option, Some, None, option_map, if◌then◌else◌}
use Rattle.std.specs.Str.{bytes_eq}
use Rattle.psi_spec.specs.Deals.{ReceiverDeal, SenderDeal, chosen_from}
use Rattle.psi_deal.specs.declared.errors.DealField.{DealField}
use Rattle.psi_deal.specs.declared.errors.DealField.TheVariants.{Id, Session, Key, TagBytes, StashRows, Seed}

-- the least place, counted from c, at which two lists of seeds differ
abbrev pub differ_from : ℕ → List (List ℕ) → List (List ℕ) → Option ℕ
differ_from c [] [] = None
differ_from c [] (y ∷ ys) = Some c
differ_from c (x ∷ xs) [] = Some c
differ_from c (x ∷ xs) (y ∷ ys) = if bytes_eq x y then differ_from (c + 1) xs ys else Some c

-- in the order of fields: the first that both deals hold differently, or else the least base transfer whose chosen seed
-- is not the one that the choice word names
abbrev pub first_difference : ReceiverDeal → SenderDeal → Option DealField
first_difference receiver sender =
    if not (bytes_eq receiver.id sender.id) then Some Id
    else if not (receiver.session == sender.session) then Some Session
    else if not (bytes_eq receiver.key sender.key) then Some Key
    else if not (receiver.tag_length == sender.tag_length) then Some TagBytes
    else if not (receiver.stash == sender.stash) then Some StashRows
    else option_map Seed (differ_from 0 (chosen_from sender.choice 0 receiver.seeds) sender.chosen)
