use Rattle.std.proofs.Common.{◌≡◌, ◌+◌, ◌∙◌, ◌++◌, ℕ, List, take, sym, ap, ap₂, arith, append_assoc}
use Rattle.psi_spec.specs.Frames.{column_frame, layout}
use Rattle.psi_spec.specs.Matrices.{IsMatrix, column_of}
use Rattle.psi_spec.specs.Streams.{layouts, column_frames}
use Rattle.psi_spec.proofs.StreamSteps.{column_frames-more}
use Rattle.psi_receiver.proofs.stream.add_columns.Goals as goal

pub loop-index-preserved : goal.loop-index-preserved
loop-index-preserved c =
    let i : ℕ = c.loop-index.index in
    let columns : List (List ℕ) = c.args.columns.now.columns in
    let before : List ℕ = c.args.stream.now.items in
    let so_far : List ℕ = layouts (column_frames 0 (take i columns)) in
    let shape : IsMatrix c.args.columns.now = c.column-bytes.ensures.matrix in
    let from_zero : 0 + i ≡ i = omega arith in
    record {
      added =
          c.in_ok-add_frame.ensures.added
          ∙ (ap₂ (λ (stream bytes : List ℕ). stream ++ layout (column_frame i bytes)) c.loop-index.invariant.added c.column-bytes.ensures.bytes
          ∙ (append_assoc before so_far (layout (column_frame i (column_of c.args.columns.now i)))
          ∙ ap (λ (more : List ℕ). before ++ more)
          (ap (λ (k : ℕ). so_far ++ layout (column_frame k (column_of c.args.columns.now i))) (sym from_zero) ∙ sym (column_frames-more 0 columns i (omega (arith, shape.columns.count))))));
      outbox = c.in_ok-add_frame.ensures.outbox ∙ c.loop-index.invariant.outbox;
      matrix = λ _. shape;
    }
