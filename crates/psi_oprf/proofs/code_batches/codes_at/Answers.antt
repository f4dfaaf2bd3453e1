use Rattle.std.proofs.Common.{◌≡◌, ◌/◌, ◌*◌, ◌++◌, length, take, drop, sym, ◌∙◌, ap₂, arith}
use Rattle.std.specs.Simd.Lanes.{zip2}
use Rattle.std.proofs.lemmas.List.{length-take-le, take-append-drop}
use Rattle.psi_spec.specs.Formulas.{code}
use Rattle.psi_spec.proofs.Lists.{zip2-append}
use Rattle.psi_oprf.proofs.code_batches.codes_at.Goals as goal

pub returns : goal.returns
returns c =
    let formula = code c.args.key.now in
    let indices = c.args.indices.now in
    let digests = c.args.digests.now in
    let eights = length c.args.out.now / 8 * 8 in
    let as_many : length (take eights indices) ≡ length (take eights digests) = length-take-le eights indices (omega arith) ∙ sym (length-take-le eights digests (omega arith)) in
    let first = c.codes_at_by_eight.ensures ∙ ap₂ (zip2 formula) c.split_at.ensures.front c.split_at-2.ensures.front in
    let last = c.codes_at_by_one.ensures ∙ ap₂ (zip2 formula) c.split_at.ensures.back c.split_at-2.ensures.back in
    ap₂ (λ x y. x ++ y) first last
    ∙ (sym (zip2-append formula (take eights indices) (drop eights indices) (take eights digests) (drop eights digests) as_many)
    ∙ ap₂ (zip2 formula) (take-append-drop eights indices) (take-append-drop eights digests))
