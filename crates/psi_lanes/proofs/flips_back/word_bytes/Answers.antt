use Rattle.std.proofs.Common.{◌∙◌, ◌/◌, ◌%◌, [], sym, ap, arith}
use Rattle.std.specs.Int.{bit_at}
use Rattle.std.proofs.lemmas.List.{get_or_past}
use Rattle.std.proofs.lemmas.Simd.{get_or-replicate}
use Rattle.psi_spec.specs.Bits.{bit_of}
use Rattle.psi_lanes.proofs.flips_back.word_bytes.Goals as goal

pub returns-else-j-words : goal.returns-else-j-words
returns-else-j-words c i l =
    ap (λ b. bit_at b (i % 8)) (get_or-replicate 64 (i / 8) 0 0 (omega arith))
    ∙ sym (ap (λ word. bit_of word i) (get_or_past c.args.words.now c.args.j [] (omega arith)))
