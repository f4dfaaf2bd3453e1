use Rattle.std.proofs.Common.{[], slice_index_or, sym, subst, ap, ◌∙◌}
use Rattle.sha2.specs.Sha256.{compress, digest_bytes}
use Rattle.psi_lanes.specs.Digests.{IsTwoBlocks}
use Rattle.psi_lanes.proofs.TwoBlocks.{sha256-two_blocks}
use Rattle.psi_lanes.proofs.end_block.EndBlock.digests.Goals as goal

pub returns : goal.returns
returns c j lt m is =
    let first = slice_index_or c.args.first.now j [] in
    let end = c.self.inside.bytes in
    let once = c.compress-state.ensures.value j lt first (c.write_first_words.ensures j lt) ∙ ap (λ h. compress h first) (c.initial.ensures.value j lt) in
    let twice = c.compress_scheduled.ensures.value j lt end (c.self.invariant j lt) ∙ ap (λ h. compress h end) once in
    c.digests.ensures j lt ∙ (ap (λ h. digest_bytes h 8) twice ∙ sym (sha256-two_blocks m first end (subst (λ b. IsTwoBlocks m first b) (sym c.self.view_is) is)))
