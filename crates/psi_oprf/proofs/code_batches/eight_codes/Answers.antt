use Rattle.std.proofs.Common.{◌≡◌, ◌<◌, List, ℕ, [], ◌++◌, length, sym, subst, ◌∙◌, ap₂, arith, ext_get_or}
use Rattle.std.specs.Simd.Lanes.{zip2}
use Rattle.std.proofs.lemmas.Simd.{get_or-zip2, length-zip2}
use Rattle.psi_lanes.specs.Digests.{IsTwoBlocks}
use Rattle.psi_spec.specs.Formulas.{code}
use Rattle.psi_oprf.specs.declared.messages.TheConstants.{CODE_END}
use Rattle.psi_oprf.proofs.code_batches.eight_codes.Goals as goal

pub returns : goal.returns
unfolding code
returns c =
    let indices = c.args.indices.now in
    let digests = c.args.digests.now in
    let formula = code c.args.key.now in
    let out = c.put_joined.new.out in
    let as_many = c.requires.indices ∙ sym c.requires.digests in
    let long : length out ≡ 8 = omega arith in
    let ended = λ (m block : List ℕ) (is : IsTwoBlocks m block CODE_END). subst (λ (end : List ℕ). IsTwoBlocks m block end) (sym c.requires.end) is in
    ext_get_or [] out (zip2 formula indices digests) (long ∙ sym (length-zip2 formula indices digests as_many ∙ c.requires.indices))
    (λ j below.
    let lt : j < 8 = omega arith in
    c.put_joined.ensures j lt
    ∙ (ap₂ (λ x y. x ++ y)
    (c.digests-low.ensures j lt _ (ended _ _ (c.put_blocks.ensures j lt)))
    (c.digests.ensures j lt _ (ended _ _ (c.put_blocks-2.ensures j lt)))
    ∙ sym (get_or-zip2 formula indices digests j 0 [] [] (omega arith) (omega arith))))
