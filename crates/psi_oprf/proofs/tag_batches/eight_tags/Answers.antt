use Rattle.std.proofs.Common.{◌≡◌, ◌<◌, ℕ, List, [], length, take, sym, ◌∙◌, ap, arith, ext_get_or}
use Rattle.std.specs.Simd.Lanes.{zip2}
use Rattle.std.proofs.lemmas.Simd.{get_or-zip2, length-zip2}
use Rattle.psi_spec.specs.Formulas.{padded, padded_tag, tag}
use Rattle.psi_oprf.proofs.tag_batches.eight_tags.Goals as goal

pub returns : goal.returns
unfolding padded_tag tag
returns c =
    let rows = c.args.rows.now in
    let words = c.args.words.now in
    let width = c.args.tag_length in
    let formula = padded_tag c.args.key.now width in
    let out = c.put_fronts.new.tags in
    let as_many = c.requires.rows ∙ sym c.requires.words in
    let long : length out ≡ 8 = omega arith in
    let shortened = λ (d : List ℕ). padded width (take width d) in
    ext_get_or [] out (zip2 formula rows words) (long ∙ sym (length-zip2 formula rows words as_many ∙ c.requires.rows))
    (λ j below.
    let lt : j < 8 = omega arith in
    c.put_fronts.ensures j lt
    ∙ (ap shortened (c.digests_of_two_blocks.ensures j lt _ (c.put_blocks.ensures j lt))
    ∙ sym (get_or-zip2 formula rows words j 0 [] [] (omega arith) (omega arith))))
