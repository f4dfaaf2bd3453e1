use Rattle.std.proofs.Common.{◌≡◌, ◌+◌, ◌*◌, ◌++◌, length, take, sym, ◌∙◌, ap, ap₂, arith}
use Rattle.std.specs.Simd.Lanes.{zip2}
use Rattle.std.proofs.lemmas.List.{length-take-le}
use Rattle.std.proofs.lemmas.Simd.{length-zip2}
use Rattle.std.proofs.lemmas.Slice.{take-put_mid}
use Rattle.psi_spec.specs.Formulas.{code}
use Rattle.psi_oprf.proofs.Eights.{eight_from, length-eight_from, take_eight}
use Rattle.psi_spec.proofs.Lists.{zip2-append}
use Rattle.psi_oprf.proofs.code_batches.codes_at_by_eight.Goals as goal

pub loop-turn-preserved : goal.loop-turn-preserved
loop-turn-preserved c =
    let at = 8 * c.loop-turn.turn in
    let next = 8 * (c.loop-turn.turn + 1) in
    let indices = c.args.indices.now in
    let digests = c.args.digests.now in
    let out = c.loop-turn.out in
    let formula = code c.args.key.now in
    let some_indices = eight_from indices at in
    let some_digests = eight_from digests at in
    let long_indices = length-eight_from indices at (omega arith) in
    let long_digests = length-eight_from digests at (omega arith) in
    let made = c.eight_codes.ensures in
    let eight : length c.eight_codes.new.out ≡ 8 =
    ap length made ∙ (length-zip2 formula some_indices some_digests (long_indices ∙ sym long_digests) ∙ long_indices) in
    let kept = c.loop-turn.auto.out in
    let as_many : length (take at indices) ≡ length (take at digests) = length-take-le at indices (omega arith) ∙ sym (length-take-le at digests (omega arith)) in
    take-put_mid at _ out c.eight_codes.new.out next (omega arith) (omega arith)
    ∙ (ap₂ (λ x y. x ++ y) c.loop-turn.invariant made
    ∙ sym (ap₂ (zip2 formula) (take_eight indices at next (omega arith)) (take_eight digests at next (omega arith))
    ∙ zip2-append formula (take at indices) some_indices (take at digests) some_digests as_many))
