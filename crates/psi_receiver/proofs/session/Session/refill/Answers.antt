use Rattle.std.proofs.Common.{◌≡◌, arith, ℕ, List, [], refl, sym, ap, subst, ◌∙◌, inl, inr}
use Rattle.psi_spec.specs.Frames.{column_frame, layout}
use Rattle.psi_spec.specs.Matrices.{column_of}
use Rattle.psi_frames.specs.Boxes.{OutboxState}
use Rattle.psi_receiver.specs.declared.phase.Phase.TheVariants as phase
use Rattle.psi_receiver.specs.Running.{IsSession, ReceiverState, TellsShown, rest_in}
use Rattle.psi_receiver.proofs.Holding.{no_bytes, session_after_column, session_after_end, session_carries, session_tells}
use Rattle.psi_receiver.proofs.Going.{some_in_list}
use Rattle.psi_receiver.proofs.session.Session.refill.Goals as goal

pub returns-then-not-is_empty-clause-tells : goal.returns-then-not-is_empty-clause-tells
returns-then-not-is_empty-clause-tells c =
    let s = c.self.inside in
    subst (λ (r : ReceiverState). TellsShown r) c.self.view_is
    (session_tells s.deal.now s.items.now s.placement.now s.memory s.phase c.self.invariant
    (λ none. absurd (some_in_list c.pending.result.now c.is_empty.result c.if-not-is_empty.true c.is_empty.ensures
    (c.pending.ensures ∙ sym (ap (λ (r : ReceiverState). r.pending) c.self.view_is) ∙ none))))

pub invariant_of-self : goal.invariant_of-self
invariant_of-self c =
    let s = c.self.inside in
    let session = IsSession s.deal.now s.items.now s.placement.now in
    let put = c.put_column-self-inside.ensures in
    subst (session c.put_column-self-inside.new.memory) (sym put.phase)
    (session_after_column s.deal.now s.items.now s.placement.now s.memory c.put_column-self-inside.new.memory c.in-Columns.next c.in-Columns.count _
    (subst (session s.memory) c.in-Columns.is c.self.invariant) put.memory put.outbox)

pub put_done-requires-clause-carriable : goal.put_done-requires-clause-carriable
put_done-requires-clause-carriable c = let s = c.self.inside in session_carries s.deal.now s.items.now s.placement.now s.memory s.phase c.self.invariant

pub invariant_of-self-in-Done : goal.invariant_of-self-in-Done
invariant_of-self-in-Done c =
    let s = c.self.inside in
    let done = c.put_done.ensures in
    session_after_end s.deal.now s.items.now s.placement.now s.memory c.put_done.new.memory
    (subst (IsSession s.deal.now s.items.now s.placement.now s.memory) c.in-Done.is c.self.invariant) done.memory done.outbox done.long done.carried

pub returns-in-Done-clause-tells : goal.returns-in-Done-clause-tells
returns-in-Done-clause-tells c =
    let s = c.self.inside in
    let done = c.put_done.ensures in
    session_tells s.deal.now s.items.now s.placement.now c.put_done.new.memory phase.Over
    (session_after_end s.deal.now s.items.now s.placement.now s.memory c.put_done.new.memory
    (subst (IsSession s.deal.now s.items.now s.placement.now s.memory) c.in-Done.is c.self.invariant) done.memory done.outbox done.long done.carried) (λ none. refl)

pub returns-in-Hello : goal.returns-in-Hello
returns-in-Hello c =
    let s = c.self.inside in
    let columns : List (List ℕ) = s.memory.sent.columns in
    let rest = sym (ap (λ (r : ReceiverState). r.rest) c.self.view_is) in
    let none_left : rest_in columns s.phase ≡ [] =
    elim c.in-Hello.is [
      | inl e ↦ ap (rest_in columns) e
      | inr (inl (m, e)) ↦ ap (rest_in columns) e
      | inr (inr e) ↦ ap (rest_in columns) e
    ] in
    record {
      state = refl;
      ready = λ none. rest ∙ none_left;
      deal = refl;
      placed = refl;
      lists = refl;
      tells = subst (λ (r : ReceiverState). TellsShown r) c.self.view_is
          (session_tells s.deal.now s.items.now s.placement.now s.memory s.phase c.self.invariant (λ none. none_left));
    }

pub returns-in-Columns-clause-tells : goal.returns-in-Columns-clause-tells
returns-in-Columns-clause-tells c =
    let s = c.self.inside in
    let put = c.put_column-self-inside.ensures in
    let column = layout (column_frame c.in-Columns.next (column_of s.memory.sent c.in-Columns.next)) in
    session_tells s.deal.now s.items.now s.placement.now c.put_column-self-inside.new.memory c.put_column-self-inside.result (invariant_of-self c)
    (λ none. absurd (no_bytes s.memory.outbox.pending column (omega arith) (sym (ap (λ (b : OutboxState). b.pending) put.outbox) ∙ none)))
