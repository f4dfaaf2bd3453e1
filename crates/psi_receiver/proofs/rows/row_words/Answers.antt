use Rattle.std.proofs.Common.{◌∙◌, ◌*◌, List, refl, sym, ap, length, arith}
use Rattle.std.proofs.lemmas.List.{take_all}
use Rattle.psi_spec.specs.Meeting.{Placed, placed_of}
use Rattle.psi_spec.specs.Streams.{row_words}
use Rattle.psi_spec.proofs.Placing.{length-placed_of}
use Rattle.psi_spec.proofs.RowWords.{row_words_of_none}
use Rattle.psi_receiver.proofs.rows.row_words.Goals as goal

pub loop-turn-init : goal.loop-turn-init
loop-turn-init c = record {
  count = refl;
  words = c.requires.zero ∙ sym (row_words_of_none c.args.key.now (length c.args.out.now));
}

pub returns-clause-words : goal.returns-clause-words
returns-clause-words c =
    let items = c.args.items.now in
    let slots = c.args.placement.now in
    let long = length-placed_of items slots (sym c.requires.slots.many) in
    c.loop-turn.invariant.words
    ∙ ap (λ (placed : List Placed). row_words c.args.key.now placed (length c.args.out.now))
    (take_all (64 * c.loop-turn.turn) (placed_of items slots) (omega arith))
