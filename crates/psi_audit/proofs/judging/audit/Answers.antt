use Rattle.std.proofs.Common.{◌≡◌, ◌∙◌, length, refl, ap, subst, arith}
use Rattle.std.specs.Prelude.{IfOk, Some, None}
use Rattle.std.proofs.lemmas.List.{length-map}
use Rattle.psi_spec.specs.Limits.{bins_for}
use Rattle.psi_spec.proofs.Dealing.{length-placement}
use Rattle.psi_cuckoo.specs.Table.{slot_of}
use Rattle.psi_audit.specs.Verdicts.{slots_fault, verdict_of}
use Rattle.psi_audit.proofs.Judged.{deals_verdict, frames_verdict, refused_so, slots_verdict}
use Rattle.psi_audit.proofs.judging.audit.Goals as goal

pub returns-in-Some : goal.returns-in-Some
returns-in-Some c = record { verdict = deals_verdict c.args.receiver.now c.args.sender.now c.args.x.now c.args.y.now c.args.log.now c.in-Some.field c.in-Some.ensures.field }

pub replay-requires-clause-inputs : goal.replay-requires-clause-inputs
replay-requires-clause-inputs c =
    let receiver = c.args.receiver.now in
    let x = c.args.x.now in
    let long = length-placement receiver.stash receiver.key (bins_for (length x)) x c.in-Ok.placement c.in-Ok.ensures.placed in
    let kept = ap length c.in-Ok.ensures.kept ∙ length-map c.slots.result.now slot_of in
    record {
      few = omega (arith, long, kept, c.slots.ensures.few);
      stash = c.in-Ok.ensures.stash;
      digests = c.deref-in-Ok.ensures.value ∙ c.in_ok-digests.ensures;
      pair = c.in_default.ensures.pair.0 refl;
      placed = c.in-Ok.ensures.placed;
    }

pub replay-requires-clause-slots : goal.replay-requires-clause-slots
replay-requires-clause-slots c = c.in-Ok.ensures.kept ∙ c.slots.ensures.slots

pub returns-in-Ok : goal.returns-in-Ok
returns-in-Ok c =
    let none = c.in_default.ensures.field in
    let right = subst (λ slots. slots_fault c.args.receiver.now c.args.x.now slots ≡ None) c.slots.ensures.slots c.in-Ok.ensures.right in
    record { verdict = subst (λ v. IfOk c.replay.result (λ verdict. verdict ≡ v)) (frames_verdict c.args.receiver.now c.args.sender.now c.args.x.now c.args.y.now c.args.log.now none right) c.replay.ensures }

pub returns : goal.returns
returns c =
    let receiver = c.args.receiver.now in
    let x = c.args.x.now in
    record {
      verdict = refused_so c.refused.result c.in-Err.fault (verdict_of receiver c.args.sender.now x c.args.y.now c.args.log.now) c.refused.ensures.slots c.refused.ensures.memory
          (λ other. slots_verdict receiver c.args.sender.now x c.args.y.now c.args.log.now c.in-Err.fault c.in_default.ensures.field
          (subst (λ slots. slots_fault receiver x slots ≡ Some c.in-Err.fault) c.slots.ensures.slots (c.in-Err.ensures.wrong other)));
    }
