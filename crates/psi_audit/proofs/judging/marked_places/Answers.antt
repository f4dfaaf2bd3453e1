use Rattle.std.proofs.Common.{◌∙◌, ◌++◌, ◌∷◌, [], true, false, append-nil, sym, ap, arith}
use Rattle.psi_audit.proofs.Foreign.{places_more}
use Rattle.psi_audit.proofs.judging.marked_places.Goals as goal
use Rattle.psi_audit.proofs.judging.marked_places.Goals.{then-marks-place+in_ok-push, else-marks-place}

pub loop-place-preserved : goal.loop-place-preserved
loop-place-preserved c =
    let marks = c.args.marks.now in
    let i = c.loop-place.place in
    let so_far = c.loop-place.invariant in
    elim c.if-marks-place.branch [
      | then-marks-place+in_ok-push w ↦
          w.places-is ∙ (w.in_ok-push.ensures.added ∙ (ap (λ ps. ps ++ i ∷ []) so_far ∙ sym (places_more marks i true (omega arith) w.if-marks-place.true)))
      | else-marks-place w ↦
          w.places-is ∙ (so_far ∙ (sym (append-nil _) ∙ sym (places_more marks i false (omega arith) w.if-marks-place.false)))
    ]
