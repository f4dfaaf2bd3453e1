-- What the words of `deal` say.
use Rattle.std.proofs.Common.{◌≡◌, ℕ, List, [], ◌∷◌, None}
use Rattle.psi_words.specs.Words.{alone, are_sizes, bad_word, is_name, is_output, is_seed, is_session}
use Rattle.psi_words.proofs.InForm.{bad_from-none}
use Rattle.psi_walk.specs.NamedDeals.{NameDeals}
use Rattle.psi_dealer.specs.Commands.{deal_forms}

-- words in form name a pair of deals
pub deal_words : (words : List (List ℕ)) → bad_word deal_forms words ≡ None → NameDeals words 1
deal_words words fit =
    let name = alone is_name in
    let sizes = alone are_sizes in
    let session = alone is_session in
    let first = bad_from-none (alone is_seed) (session ∷ sizes ∷ name ∷ is_output 4 5 ∷ []) [] words 1 fit in
    let second = bad_from-none session (sizes ∷ name ∷ is_output 4 5 ∷ []) [] words 2 first.1 in
    let third = bad_from-none sizes (name ∷ is_output 4 5 ∷ []) [] words 3 second.1 in
    record { seed = first.0; session = second.0; sizes = third.0 }
