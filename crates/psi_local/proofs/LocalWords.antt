-- What the words of `local` say.
use Rattle.std.proofs.Common.{◌≡◌, ℕ, List, [], ◌∷◌, None}
use Rattle.psi_words.specs.Words.{alone, are_sizes, bad_word, is_name, is_output, is_seed, is_session}
use Rattle.psi_words.proofs.InForm.{bad_from-none}
use Rattle.psi_walk.specs.NamedDeals.{NameDeals}
use Rattle.psi_local.specs.Commands.{local_forms}

-- words in form name a pair of deals
pub local_words : (words : List (List ℕ)) → bad_word local_forms words ≡ None → NameDeals words 3
local_words words fit =
    let name = alone is_name in
    let seed = alone is_seed in
    let session = alone is_session in
    let sizes = alone are_sizes in
    let log = is_output 1 3 ∷ [] in
    let first = bad_from-none name (name ∷ seed ∷ session ∷ sizes ∷ []) log words 1 fit in
    let second = bad_from-none name (seed ∷ session ∷ sizes ∷ []) log words 2 first.1 in
    let third = bad_from-none seed (session ∷ sizes ∷ []) log words 3 second.1 in
    let fourth = bad_from-none session (sizes ∷ []) log words 4 third.1 in
    let fifth = bad_from-none sizes [] log words 5 fourth.1 in
    record { seed = third.0; session = fourth.0; sizes = fifth.0 }
