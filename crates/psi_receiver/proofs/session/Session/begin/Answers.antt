use Rattle.std.proofs.Common.{◌++◌, ℕ, List, length, sym, refl, ap, ◌∙◌}
use Rattle.psi_spec.specs.Frames.{layout, receiver_hello}
use Rattle.psi_spec.specs.Limits.{bins_for}
use Rattle.psi_spec.proofs.Placing.{length-placed_of}
use Rattle.psi_frames.specs.Boxes.{OutboxState}
use Rattle.psi_receiver.proofs.Holding.{as_many_slots}
use Rattle.psi_receiver.proofs.session.Session.begin.Goals as goal

pub returns-clause-new : goal.returns-clause-new
returns-clause-new c =
    let deal = c.args.inputs.now.deal.now in
    let items : List (List ℕ) = c.args.inputs.now.items.now in
    let slots = c.args.inputs.now.placement.now in
    let many = as_many_slots deal.stash (bins_for (length items)) deal.key items slots c.requires.placed in
    let count = c.len-count.ensures.len ∙ sym (length-placed_of items slots (sym many)) in
    record {
      stage = refl;
      pending = ap (λ (box : OutboxState). box.pending) c.put.ensures
          ∙ (λ i. (c.in_ok-memory.ensures.empty i) ++ layout (receiver_hello (c.id.ensures.id i) (c.session.ensures i) (count i)));
      rest = refl;
      marks = c.in_ok-memory.ensures.unmarked;
    }
