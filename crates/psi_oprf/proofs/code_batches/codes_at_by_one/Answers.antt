use Rattle.std.proofs.Common.{◌≡◌, [], ◌∷◌, ◌++◌, length, slice_index, slice_index_or, take, sym, ◌∙◌, ap₂, arith}
use Rattle.std.specs.Simd.Lanes.{zip2}
use Rattle.std.proofs.lemmas.List.{length-take-le, take_more, take_more_set}
use Rattle.psi_spec.specs.Formulas.{code}
use Rattle.psi_spec.proofs.Lists.{zip2-append}
use Rattle.psi_oprf.proofs.code_batches.codes_at_by_one.Goals as goal

pub loop-i-preserved : goal.loop-i-preserved
loop-i-preserved c =
    let i = c.loop-i.i in
    let indices = c.args.indices.now in
    let digests = c.args.digests.now in
    let out = c.loop-i.out in
    let formula = code c.args.key.now in
    let kept = c.loop-i.auto.out in
    let as_many : length (take i indices) ≡ length (take i digests) = length-take-le i indices (omega arith) ∙ sym (length-take-le i digests (omega arith)) in
    take_more_set out i c.code.result (omega arith)
    ∙ (ap₂ (λ l t. l ++ t ∷ []) c.loop-i.invariant c.code.ensures
    ∙ sym (ap₂ (zip2 formula) (take_more indices i 0 (omega arith)) (take_more digests i [] (omega arith))
    ∙ zip2-append formula (take i indices) (slice_index indices i ∷ []) (take i digests) (slice_index_or digests i [] ∷ []) as_many))
