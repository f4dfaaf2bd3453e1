use Rattle.std.proofs.Common.{◌≡◌, ◌∙◌, ℕ, length, map, take, drop, sym, ap}
use Rattle.std.proofs.lemmas.Simd.{map-map}
use Rattle.std.proofs.lemmas.List.{length-take-le}
use Rattle.psi_spec.specs.Formulas.{item_digest, code}
use Rattle.psi_spec.specs.PairedRows.{line_word}
use Rattle.psi_pairs.proofs.words.put_words.Goals as goal

pub returns : goal.returns
returns c =
    let key = c.args.key.now in
    let lines = drop c.args.at c.args.lines.now in
    let digests = c.put_digests.new.out in
    let long : length digests ≡ length c.codes.new.out =
    c.put_digests.auto.out ∙ (length-take-le (length c.args.out.now) _ c.requires.batch ∙ sym c.codes.auto.out) in
    c.codes.ensures
    ∙ (ap (map (code key 0)) c.put_digests.ensures
    ∙ (map-map (code key 0) item_digest (take (length digests) lines)
    ∙ ap (λ (n : ℕ). map (line_word key) (take n lines)) long))
