use Rattle.std.proofs.Common.{List, ℕ, [], None, false, true, subst, sym}
use Rattle.psi_sender.specs.Laws.{sender_dialogue}
use Rattle.psi_walk.specs.Files.{reads_sender}
use Rattle.psi_link.specs.Send.{send_rest}
use Rattle.psi_walk.specs.Tree.{ended, ends, holds, talks}
use Rattle.psi_walk.specs.Walk.{Follows}
use Rattle.psi_walk.specs.declared.outcome.Outcome.{Outcome}
use Rattle.psi_walk.proofs.Walks.{ends_done, held_on, talked_on}
use Rattle.psi_link.proofs.send.send_steps.Goals as goal

pub returns : goal.returns
returns g c =
    let known = g.W.World.known in
    let words = c.args.words.now in
    let items = c.in_ok-items.items in
    let deal = c.in_ok-deal.deal in
    let opened = g.W.World.outside c.open_link.new.world in
    let after = g.W.World.outside c.serve.new.world in
    let end = ended c.of.result after in
    let done : Follows known words true (ends None []) after end =
    subst (λ (o : Outcome). Follows known words true (ends None []) after (ended o after)) (sym c.of.ensures) (ends_done known words true after) in
    c.in_ok-items.ensures.steps (λ ys. reads_sender 3 (λ d. send_rest words ys d)) end
    (c.in_ok-deal.ensures.steps (λ d. send_rest words items d) end
    (c.in_ok-open_link.ensures.steps (talks (sender_dialogue deal items) (λ taken. holds (ends None []))) end
    (talked_on known words (sender_dialogue deal items) (λ (taken : List ℕ). Unit {0}) opened after (λ taken. holds (ends None [])) end
    (c.in_ok-serve.ensures words) (λ taken. held_on known words false (ends None []) after end done))))
