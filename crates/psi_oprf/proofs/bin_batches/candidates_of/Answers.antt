use Rattle.std.proofs.Common.{◌<◌, ◌/◌, ◌*◌, ◌++◌, ◌∙◌, All, List, ℕ, length, map, take, drop, sym, ap, ap₂, subst}
use Rattle.std.proofs.lemmas.List.{map-append, take-append-drop}
use Rattle.psi_oprf.specs.Candidates.{digest_candidates}
use Rattle.psi_oprf.proofs.Bins.{candidates_within}
use Rattle.psi_oprf.proofs.bin_batches.candidates_of.Goals as goal

pub returns-clause-candidates : goal.returns-clause-candidates
returns-clause-candidates c =
    let formula = digest_candidates c.args.key.now c.args.bins in
    let digests = c.args.digests.now in
    let eights = length digests / 8 * 8 in
    ap₂ (λ x y. x ++ y)
    (c.candidates_by_eight.ensures ∙ ap (map formula) c.split_at.ensures.front)
    (c.candidates_by_one.ensures ∙ ap (map formula) c.split_at.ensures.back)
    ∙ (sym (map-append formula (take eights digests) (drop eights digests)) ∙ ap (map formula) (take-append-drop eights digests))

pub returns-clause-below : goal.returns-clause-below
returns-clause-below c =
    subst (λ (cs : List (List ℕ)). All (λ rows. All (λ row. row < c.args.bins) rows) cs) (sym (returns-clause-candidates c))
    (candidates_within c.args.key.now c.args.bins c.args.digests.now c.requires.bins)
