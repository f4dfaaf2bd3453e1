use Rattle.std.proofs.Common.{ℕ, List, Err, subst, sym}
use Rattle.std.specs.declared.result.Result.{Result}
use Rattle.psi_frames.specs.Converse.{Converses}
use Rattle.psi_frames.specs.declared.turns.EndFault.{EndFault}
use Rattle.psi_sender.specs.Laws.{sender_dialogue}
use Rattle.psi_sender.specs.Running.{SenderState}
use Rattle.psi_sender.specs.Script.{sender_script}
use Rattle.psi_walk.specs.Walk.{StepsTalk}
use Rattle.psi_texts.specs.declared.status.Status.{Status}
use Rattle.psi_walk.proofs.Walks.{talks_on, talks_out}
use Rattle.psi_link.proofs.send.serve.Goals as goal

pub returns-in-Ok : goal.returns-in-Ok
unfolding sender_dialogue
returns-in-Ok g c =
    let known = g.W.World.known in
    let before = g.W.World.outside c.args.world.now in
    let after = g.W.World.outside c.run_sender.new.world in
    let whole =
    subst (λ (r : Result (Unit {0}) EndFault). Converses known (sender_script c.args.deal.now c.args.items.now) before r after) c.in-Ok.is
    (subst (λ (s : SenderState). Converses known (sender_script s.deal s.items) before c.run_sender.result after) c.new-core.ensures.state c.run_sender.ensures) in
    λ words. talks_on known words (sender_dialogue c.args.deal.now c.args.items.now) (λ (taken : List ℕ). Unit {0}) before after whole.0 tt whole.1 tt

pub returns : goal.returns
unfolding sender_dialogue
returns g c =
    let known = g.W.World.known in
    let before = g.W.World.outside c.args.world.now in
    let after = g.W.World.outside c.run_sender.new.world in
    λ words. subst (λ (s : Status). StepsTalk known words (sender_dialogue c.args.deal.now c.args.items.now) (λ (taken : List ℕ). Unit {0}) before (Err s) after) (sym c.session_status.ensures)
    (talks_out known words (sender_dialogue c.args.deal.now c.args.items.now) (λ (taken : List ℕ). Unit {0}) before after c.in-Err.fault
    (subst (λ (r : Result (Unit {0}) EndFault). Converses known (sender_script c.args.deal.now c.args.items.now) before r after) c.in-Err.is
    (subst (λ (s : SenderState). Converses known (sender_script s.deal s.items) before c.run_sender.result after) c.new-core.ensures.state c.run_sender.ensures)))
