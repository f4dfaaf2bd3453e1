use Rattle.std.proofs.Common.{◌≡◌, ◌∙◌, ℕ, List, [], length, sym, arith, ext_get_or}
use Rattle.std.specs.Simd.Lanes.{zip2}
use Rattle.std.proofs.lemmas.Simd.{length-zip2, get_or-zip2}
use Rattle.psi_spec.specs.Bits.{xor, both}
use Rattle.psi_lanes.proofs.xors.mask_xor.Goals as goal

pub returns : goal.returns
returns c =
    let old = c.args.out.now in
    let words = c.args.words.now in
    let f : List ℕ → List ℕ → List ℕ = λ word other. xor word (both c.args.mask.now other) in
    let long : length (zip2 f old words) ≡ length old = length-zip2 f old words (sym c.requires) in
    ext_get_or [] c.loop-j.out (zip2 f old words) (omega arith)
    (λ k l. c.loop-j.invariant.done k (omega arith) ∙ sym (get_or-zip2 f old words k [] [] [] (omega arith) (omega arith)))
