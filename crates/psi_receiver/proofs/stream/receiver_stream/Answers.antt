use Rattle.std.proofs.Common.{◌∙◌, ◌++◌, ℕ, List, ap, ap₂}
use Rattle.psi_spec.specs.Frames.{done_frame, layout, receiver_hello}
use Rattle.psi_spec.specs.Matrices.{Matrix}
use Rattle.psi_spec.specs.Streams.{layouts, column_frames, columns_stream}
use Rattle.psi_receiver.proofs.stream.receiver_stream.Goals as goal

pub returns : goal.returns
unfolding columns_stream
returns c =
    let count : ℕ = c.args.count in
    let begun = c.in_ok-add_frame.ensures.added
    ∙ (ap (λ (stream : List ℕ). stream ++ layout (receiver_hello c.id.result.now c.session.result count)) c.in_ok-stream.ensures.items
    ∙ ap₂ (λ (id : List ℕ) (session : ℕ). layout (receiver_hello id session count)) c.id.ensures.id c.session.ensures) in
    let columns = ap (λ (m : Matrix). layouts (column_frames 0 m.columns)) c.mask.ensures.columns in
    c.in_ok-add_frame-2.ensures.added
    ∙ ap (λ (stream : List ℕ). stream ++ layout done_frame)
    (c.in_ok-add_columns.ensures.added ∙ ap₂ (λ (stream frames : List ℕ). stream ++ frames) begun columns)
