use Rattle.std.proofs.Common.{rules, ◌≡◌, ◌∙◌, ap, List, ℕ, is_lt}
use Rattle.std.proofs.lemmas.Cmp.{nat_list_cmp_total}
use Rattle.std.proofs.lemmas.Fn.{always_returns_same}
use Rattle.std.proofs.lemmas.List.Sorted.{ranks_by}
use Rattle.psi_spec.specs.Frames.{is_below}
use Rattle.psi_spec.specs.Rising.{rising}
use Rattle.psi_spec.proofs.Rising.{rising_from_sort}
use Rattle.psi_sender.proofs.answer.make_list.Goals as goal

pub returns : goal.returns
returns c =
    let sort = c.sort_unstable_by in
    rising_from_sort c.list_tags.new.out sort.new.self sort.ensures.permutation
    (sort.ensures.sorted is_below (ranks_by nat_list_cmp_total (λ (tag : List ℕ). tag))
    (always_returns_same _ (λ a r. is_lt r ≡ is_below a.0.now a.1.0.now) _ (λ a r f k. search rules)))
    ∙ ap rising c.list_tags.ensures
