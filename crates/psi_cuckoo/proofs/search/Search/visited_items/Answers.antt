use Rattle.std.proofs.Common.{◌≡◌, ◌+◌, ◌++◌, ◌∷◌, [], ℕ, List, length, sym, ap, ◌∙◌, subst, arith}
use Rattle.std.proofs.lemmas.Bool.{true≢false}
use Rattle.std.proofs.lemmas.List.{length_push}
use Rattle.psi_cuckoo.specs.Search.{AreRising}
use Rattle.psi_cuckoo.proofs.Reached.{rise_more, rise_past}
use Rattle.psi_cuckoo.proofs.search.Search.visited_items.Goals as goal
use Rattle.psi_cuckoo.proofs.search.Search.visited_items.Goals.{then-is_visited+in_ok-push, else-is_visited}

pub loop-item-preserved : goal.loop-item-preserved
loop-item-preserved c =
    let visits = c.args.self.now.visits.items in
    let item = c.loop-item.item in
    let old : List ℕ = c.loop-item.items in
    let new : List ℕ = c.if-is_visited.items in
    let so_far = c.loop-item.invariant in
    let told = c.is_visited.ensures in
    elim c.if-is_visited.branch [
      | then-is_visited+in_ok-push w ↦
          let more : new ≡ old ++ item ∷ [] = w.items-is ∙ w.in_ok-push.ensures.added in
          record {
            rising = subst (AreRising visits (item + 1)) (sym more) (rise_more visits item old (told.0 w.if-is_visited.true) so_far.rising);
            few = omega (arith, ap length more, length_push old item, so_far.few);
          }
      | else-is_visited w ↦
          let same : new ≡ old = w.items-is in
          record {
            rising = subst (AreRising visits (item + 1)) (sym same) (rise_past visits item old (λ h. true≢false (sym (told.1 h) ∙ w.if-is_visited.false)) so_far.rising);
            few = omega (arith, ap length same, so_far.few);
          }
    ]
