use Rattle.std.proofs.Common.{sym, ap, subst}
use Rattle.std.specs.Prelude.{⊤}
use Rattle.psi_frames.specs.Converse.{Converses, KeepsAll}
use Rattle.psi_frames.specs.Script.{EndState, IsWithin, Keeps, script_of}
use Rattle.psi_sender.specs.Script.{sender_script}
use Rattle.psi_frames.proofs.Scripts.{converses_so}
use Rattle.psi_sender.specs.Running.{SenderState, state_in, state_of}
use Rattle.psi_sender.proofs.Within.{within_script, begun_so}
use Rattle.psi_sender.proofs.run.run_sender.Goals as goal

pub converse-requires-clause-few : goal.converse-requires-clause-few
converse-requires-clause-few g c =
    let core = c.args.core.now in
    let begins = ap (state_in core.deal core.items) c.requires.new in
    subst (λ (state : EndState). IsWithin 514 state.next) (sym begins) (within_script core.deal core.items c.requires.deal)

pub returns : goal.returns
returns g c =
    let core = c.args.core.now in
    let begins = ap (state_in core.deal core.items) c.requires.new in
    let known = g.W.World.known in
    let before = g.W.World.outside c.args.world.now in
    let after = g.W.World.outside c.converse.new.world in
    let kept : Keeps SenderState = λ first frames wire. ⊤ in
    let script = script_of (state_of core) in
    let told = converses_so known script (KeepsAll script kept kept) before c.converse.result after c.converse.ensures.converses in
    begun_so known (sender_script core.deal core.items) before after c.converse.result
    (subst (λ (state : EndState). Converses known (script_of state) before c.converse.result after) begins told)
