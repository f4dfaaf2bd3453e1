use Rattle.std.proofs.Common.{◌≡◌, ℕ, Bool, List, None, length, subst, sym, ◌∙◌, ap, ap₂}
use Rattle.psi_walk.specs.Tree.{End}
use Rattle.psi_local.specs.Trial.{measured, summary_text, trial_set}
use Rattle.psi_walk.specs.Walk.{Runs}
use Rattle.psi_local.proofs.TrialPlayed.{trial_on}
use Rattle.psi_local.proofs.trial.place_and_try.Goals as goal

pub returns : goal.returns
returns g c =
    let known = g.W.World.known in
    let words = c.args.words.now in
    let xs = c.args.x.now in
    let ys = c.args.y.now in
    let deals = c.in_ok-deals.deals in
    let slots = c.in_ok-placement.placement in
    let before = g.W.World.outside c.args.world.now in
    let after = g.W.World.outside c.print_summary-rest.new.world in
    let own : c.len-own.result ≡ length xs = c.len-own.ensures.len in
    let peer : c.len-peer.result ≡ length ys = c.len-peer.ensures.len in
    let marks = c.in_ok-played.played.receiver.shown in
    let summary : c.summary_of-summary.result ≡ measured deals.0 (length xs) (length ys) marks =
    c.summary_of-summary.ensures ∙ ap₂ (λ (n m : ℕ). measured deals.0 n m c.shown.result.now) own peer
    ∙ ap (λ (bs : List Bool). measured deals.0 (length xs) (length ys) bs) c.shown.ensures.shown in
    subst (λ (end : End). Runs known words (trial_set words xs ys) before end) (sym (c.placed_outcome.ensures after))
    (trial_on known words xs slots ys deals.0 deals.1 None c.in_ok-played.played c.deref-3.result.now before after c.print_summary-rest.result c.in_ok-deals.ensures.receiver
    c.in_ok-deals.ensures.sender c.len-own.ensures.items.few c.len-peer.ensures.items.few c.in_ok-placement.ensures.placed c.in_ok-placement.ensures.places
    c.in_ok-played.ensures (c.deref-3.ensures.value ∙ (c.in_ok-text.ensures ∙ ap summary_text summary)) (c.print_summary-rest.ensures words))
