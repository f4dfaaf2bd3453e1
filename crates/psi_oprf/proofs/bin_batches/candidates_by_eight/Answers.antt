use Rattle.std.proofs.Common.{◌≡◌, ◌+◌, ◌*◌, ◌++◌, length, map, take, sym, ◌∙◌, ap, ap₂, arith}
use Rattle.std.proofs.lemmas.List.{length-map, map-append}
use Rattle.std.proofs.lemmas.Slice.{take-put_mid}
use Rattle.psi_oprf.specs.Candidates.{digest_candidates}
use Rattle.psi_oprf.proofs.Eights.{eight_from, length-eight_from, take_eight}
use Rattle.psi_oprf.proofs.bin_batches.candidates_by_eight.Goals as goal

pub loop-turn-preserved : goal.loop-turn-preserved
loop-turn-preserved c =
    let at = 8 * c.loop-turn.turn in
    let next = 8 * (c.loop-turn.turn + 1) in
    let digests = c.args.digests.now in
    let out = c.loop-turn.out in
    let formula = digest_candidates c.args.key.now c.args.bins in
    let part = eight_from digests at in
    let made = c.eight_candidates.ensures in
    let eight : length c.eight_candidates.new.out ≡ 8 = ap length made ∙ (length-map part formula ∙ length-eight_from digests at (omega arith)) in
    let kept = c.loop-turn.auto.out in
    take-put_mid at _ out c.eight_candidates.new.out next (omega arith) (omega arith)
    ∙ (ap₂ (λ x y. x ++ y) c.loop-turn.invariant made
    ∙ sym (ap (map formula) (take_eight digests at next (omega arith)) ∙ map-append formula (take at digests) part))
