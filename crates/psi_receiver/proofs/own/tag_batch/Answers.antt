use Rattle.std.proofs.Common.{◌≡◌, ◌<◌, ◌∙◌, ℕ, List, All, [], length, map, take, drop, get_or, subst, sym, ap}
use Rattle.std.specs.Simd.Lanes.{zip2}
use Rattle.psi_spec.specs.Formulas.{padded_tag}
use Rattle.std.proofs.lemmas.List.{length-take-le}
use Rattle.psi_receiver.specs.Slots.{tag_of_word}
use Rattle.psi_receiver.proofs.Gathering.{rows_within, tags_of_slots}
use Rattle.psi_receiver.proofs.own.tag_batch.Goals as goal

pub put_words-requires-clause-within : goal.put_words-requires-clause-within
put_words-requires-clause-within c =
    let rows = length c.args.rows.now in
    subst (All (λ (row : ℕ). row < rows)) (sym c.put_numbers.ensures)
    (rows_within rows c.args.at (length c.put_numbers.new.numbers) c.args.placement.now c.requires.slots)

pub returns : goal.returns
returns c =
    let deal = c.args.deal.now in
    let rows = c.args.rows.now in
    let numbers = c.put_numbers.new.numbers in
    let formula = padded_tag deal.key deal.tag_length in
    let slots = take (length numbers) (drop c.args.at c.args.placement.now) in
    let long : length numbers ≡ length c.args.out.now = c.put_numbers.auto.numbers ∙ length-take-le (length c.args.out.now) _ c.requires.batch in
    let words : c.put_words.new.words ≡ map (λ (number : ℕ). get_or rows number []) numbers = c.put_words.ensures in
    let made : c.tags.new.out ≡ zip2 formula numbers c.put_words.new.words =
    c.tags.ensures ∙ (λ i. zip2 (padded_tag (c.key.ensures i) (c.tag_length.ensures i)) numbers c.put_words.new.words) in
    made
    ∙ (ap (zip2 formula numbers) words
    ∙ (ap (λ (all : List ℕ). zip2 formula all (map (λ (number : ℕ). get_or rows number []) all)) c.put_numbers.ensures
    ∙ (tags_of_slots deal rows slots
    ∙ ap (λ (n : ℕ). map (tag_of_word deal rows) (take n (drop c.args.at c.args.placement.now))) (long ∙ sym c.tags.auto.out))))
