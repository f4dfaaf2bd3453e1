use Rattle.std.proofs.Common.{◌<◌, ◌*◌, [], length, slice_index, slice_index_or, sym, ap, ◌∙◌, arith}
use Rattle.std.proofs.lemmas.List.{length-set}
use Rattle.sha2.specs.Sha256.{word_at}
use Rattle.sha2.proofs.Schedule256.{slice_index-schedule_first}
use Rattle.psi_lanes.specs.Rounds.{word_list}
use Rattle.psi_lanes.proofs.Scheduling.{length-word_list, more_words, word_list-set}
use Rattle.psi_lanes.proofs.schedules.write_first_words.Goals as goal

pub loop-i-preserved : goal.loop-i-preserved
loop-i-preserved c =
    let words = c.loop-i.words in
    let i = c.loop-i.i in
    let long = c.loop-i.invariant.long in
    record {
      long = length-set words i _ ∙ long;
      value = λ j k lt below.
          let room : i < length (word_list j words) = omega (arith, length-word_list j words) in
          ap (λ l. slice_index l k) (word_list-set j i words _)
          ∙ more_words (λ n. word_at (slice_index_or c.args.blocks.now j []) (4 * n)) (word_list j words) i _ room (c.words_at.ensures.value j lt) (λ n. c.loop-i.invariant.value j n lt) k below;
    }

pub returns : goal.returns
returns c j lt k below =
    c.loop-i.invariant.value j k lt (omega arith) ∙ sym (slice_index-schedule_first (slice_index_or c.args.blocks.now j []) 48 k below)
