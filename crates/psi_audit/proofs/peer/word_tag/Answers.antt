use Rattle.std.proofs.Common.{◌∙◌, ap, arith}
use Rattle.psi_spec.specs.Bits.{xor, both}
use Rattle.psi_spec.specs.Formulas.{padded_tag}
use Rattle.psi_audit.proofs.Tags.{word_at, words_count}
use Rattle.psi_audit.proofs.peer.word_tag.Goals as goal

pub row-requires-2 : goal.row-requires-2
row-requires-2 c = let all = words_count c.args.inputs.now c.args.rows.now c.requires.rows in let l = c.requires.row in omega arith

pub returns : goal.returns
returns c =
    let i = c.args.inputs.now in
    let row = c.args.row in
    let zero = c.row.ensures ∙ c.requires.rows.zero row c.requires.row in
    let word = c.row-2.ensures ∙ word_at i c.args.rows.now row c.requires.rows c.requires.row in
    let code = c.xor.ensures.word ∙ ap (λ w. xor w c.args.code.now) word in
    c.peer_tag.ensures ∙ (λ j. padded_tag (c.key.ensures j) (c.tag_length.ensures j) row (xor (zero j) (both (c.choice.ensures j) (code j))))
