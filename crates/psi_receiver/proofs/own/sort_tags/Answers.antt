use Rattle.std.proofs.Common.{ℕ, List, map}
use Rattle.std.proofs.lemmas.List.Sorted.{IsPermutation-map}
use Rattle.psi_spec.proofs.Rising.{rising_from_sort}
use Rattle.psi_receiver.proofs.Unmarking.{first_parts_sorted}
use Rattle.psi_receiver.proofs.own.sort_tags.Goals as goal

pub returns-clause-rise : goal.returns-clause-rise
returns-clause-rise c =
    let old = c.args.tags.now in
    let new = c.sort_unstable.new.self in
    let tag : List ℕ × ℕ → List ℕ = λ t. t.0 in
    rising_from_sort (map tag old) (map tag new) (IsPermutation-map tag old new c.sort_unstable.ensures.permutation)
    (first_parts_sorted new c.sort_unstable.ensures.sorted)
