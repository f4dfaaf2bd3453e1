use Rattle.std.proofs.Common.{[], slice_index_or, sym, ap, ◌∙◌}
use Rattle.sha2.specs.Sha256.{compress, digest_bytes}
use Rattle.psi_lanes.proofs.TwoBlocks.{sha256-two_blocks}
use Rattle.psi_lanes.proofs.digests.digests_of_two_blocks.Goals as goal

pub returns : goal.returns
returns c j lt m is =
    let first = slice_index_or c.args.first.now j [] in
    let second = slice_index_or c.args.second.now j [] in
    let once = c.compress-state.ensures.value j lt first (c.write_first_words.ensures j lt) ∙ ap (λ h. compress h first) (c.initial.ensures.value j lt) in
    let twice = c.compress.ensures.value j lt second (c.write_first_words-2.ensures j lt) ∙ ap (λ h. compress h second) once in
    c.digests.ensures j lt ∙ (ap (λ h. digest_bytes h 8) twice ∙ sym (sha256-two_blocks m first second is))
