use Rattle.std.proofs.Common.{◌≡◌, ◌<◌, ℕ, [], All, length, get_or, slice_index, subst, sym, ap, ◌∙◌, arith}
use Rattle.std.proofs.lemmas.List.{get_or_default}
use Rattle.std.proofs.lemmas.List.Elements.{All-map}
use Rattle.psi_sender.proofs.answer.bin_batch.Goals as goal

pub tag_batch-requires-clause-within : goal.tag_batch-requires-clause-within
tag_batch-requires-clause-within c =
    let few : ℕ → Type 0 = λ row. row < length c.args.opened.now in
    let bins = c.args.bins.now in
    subst (All few) (sym c.put_rows.ensures)
    (All-map few (λ three. slice_index three c.from.result) bins
    (λ k d l.
    let three : length (get_or bins k d) ≡ 3 = ap length (get_or_default bins k d [] l) ∙ c.told-bins k l in
    c.requires.within k d l c.from.result 0 (omega arith)))
