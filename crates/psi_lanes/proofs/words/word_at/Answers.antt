use Rattle.std.proofs.Common.{rules, ◌∙◌, ap}
use Rattle.std.specs.Int.{bit_at}
use Rattle.psi_lanes.proofs.WordBytes.{bit_at-read}
use Rattle.psi_lanes.proofs.words.word_at.Goals as goal

pub returns : goal.returns
returns c i l =
    ap (λ n. bit_at n i) c.from_le_bytes.ensures
    ∙ bit_at-read c.args.bytes.now c.bytes_at.result c.args.at (search rules) (search rules) c.bytes_at.ensures i l
