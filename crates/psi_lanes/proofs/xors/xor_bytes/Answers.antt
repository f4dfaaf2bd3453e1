use Rattle.std.proofs.Common.{◌≡◌, ◌<◌, ◌≤◌, ◌*◌, ◌/◌, ◌∙◌, length, get_or, bit_xor, sym, arith, ext_get_or, ⊎_elim, ap}
use Rattle.std.proofs.lemmas.Bool.{cases_lt}
use Rattle.std.proofs.lemmas.Simd.{length-zip2, get_or-zip2}
use Rattle.psi_spec.specs.Bits.{xor}
use Rattle.psi_lanes.proofs.xors.xor_bytes.Goals as goal

pub returns : goal.returns
returns c =
    let old = c.args.out.now in
    let bytes = c.args.bytes.now in
    let new = c.xor_rest.new.out in
    let long : length (xor old bytes) ≡ length old = length-zip2 bit_xor old bytes (sym c.requires) in
    ext_get_or 0 new (xor old bytes) (omega arith)
    (λ k l. ⊎_elim
    (λ (p : k < length old / 32 * 32). c.xor_rest.ensures.below k (omega arith) ∙ c.xor_blocks.ensures.inside k p)
    (λ (p : length old / 32 * 32 ≤ k). c.xor_rest.ensures.inside k (omega arith) (omega arith)
    ∙ ap (λ b. bit_xor b (get_or bytes k 0)) (c.xor_blocks.ensures.above k p))
    (cases_lt k (length old / 32 * 32))
    ∙ sym (get_or-zip2 bit_xor old bytes k 0 0 0 (omega arith) (omega arith)))
