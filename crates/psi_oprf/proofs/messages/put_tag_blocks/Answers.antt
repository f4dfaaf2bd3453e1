use Rattle.std.proofs.Common.{◌++◌, drop, ◌∙◌, arith, length-drop}
use Rattle.std.proofs.lemmas.List.{take_all}
use Rattle.psi_oprf.proofs.Padding.{tag_blocks}
use Rattle.psi_oprf.proofs.messages.put_tag_blocks.Goals as goal

pub returns : goal.returns
returns c =
    let word = c.args.word.now in
    let rest = take_all 28 (drop 36 word) (omega (arith, length-drop 36 word, c.told-word)) in
    tag_blocks c.args.key.now word _ _ c.args.row c.told-key c.told-word
    (λ i. c.copy_from_slice.ensures.after i ++ (c.copy_from_slice-2.ensures.after i ++ ((c.copy_from_slice-3.ensures.after ∙ c.to_be_bytes.ensures) i ++ c.copy_from_slice-4.ensures.after i)))
    (λ i. (c.copy_from_slice-5.ensures.after ∙ rest) i ++ c.copy_from_slice-6.ensures.after i)
