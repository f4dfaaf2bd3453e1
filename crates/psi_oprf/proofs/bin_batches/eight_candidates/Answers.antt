use Rattle.std.proofs.Common.{◌≡◌, ◌<◌, List, ℕ, [], length, map, sym, subst, ◌∙◌, ap, arith, ext_get_or}
use Rattle.std.proofs.lemmas.List.{get_or-map, length-map}
use Rattle.psi_lanes.specs.Digests.{IsTwoBlocks}
use Rattle.psi_spec.specs.Formulas.{bin}
use Rattle.psi_oprf.specs.Candidates.{bins_in, digest_candidates}
use Rattle.psi_oprf.specs.declared.messages.TheConstants.{BINS_END}
use Rattle.psi_oprf.proofs.bin_batches.eight_candidates.Goals as goal

pub returns : goal.returns
unfolding bin
returns c =
    let bins = c.args.bins in
    let digests = c.args.digests.now in
    let formula = digest_candidates c.args.key.now bins in
    let out = c.put_bins.new.out in
    let long : length out ≡ 8 = omega arith in
    let ended = λ (m block : List ℕ) (is : IsTwoBlocks m block BINS_END). subst (λ (end : List ℕ). IsTwoBlocks m block end) (sym c.requires.end) is in
    ext_get_or [] out (map formula digests) (long ∙ sym (length-map digests formula ∙ c.requires.digests))
    (λ j below.
    let lt : j < 8 = omega arith in
    c.put_bins.ensures j lt
    ∙ (ap (bins_in bins) (c.digests.ensures j lt _ (ended _ _ (c.put_blocks.ensures j lt)))
    ∙ sym (get_or-map formula digests j [] [] (omega arith))))
