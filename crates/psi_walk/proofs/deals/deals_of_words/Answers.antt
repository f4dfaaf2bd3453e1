use Rattle.std.proofs.Common.{◌≡◌, ◌+◌, ◌∙◌, ℕ, true, ap, ap₂, rules}
use Rattle.psi_words.specs.Words.{are_sizes, word_at}
use Rattle.psi_deal.specs.BadDeals.{bad_request}
use Rattle.psi_walk.proofs.WordDeals.{sizes_fit}
use Rattle.psi_walk.proofs.deals.deals_of_words.Goals as goal

pub deals_of_seed-requires : goal.deals_of_seed-requires
deals_of_seed-requires c =
    let word = c.word_at-3.result.now in
    let at : c.from-at.result ≡ c.args.at = search rules in
    let place = ap (λ (n : ℕ). are_sizes (word_at c.args.words.now (n + 2))) at in
    let form : are_sizes word ≡ true = ap are_sizes c.word_at-3.ensures ∙ place ∙ c.requires.form.sizes in
    record { fit = ap₂ bad_request c.sizes_of-tag_length.ensures.tag_length c.sizes_of-tag_length.ensures.stash ∙ sizes_fit word form }
