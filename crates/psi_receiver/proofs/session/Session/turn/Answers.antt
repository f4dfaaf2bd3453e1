use Rattle.std.proofs.Common.{◌≡◌, [], sym, ap, subst, ◌∙◌, arith, inl, inr}
use Rattle.psi_receiver.specs.declared.phase.Phase.{Phase}
use Rattle.psi_receiver.specs.Running.{ReceiverState, Stands, running, state_of, next_of}
use Rattle.psi_receiver.proofs.Going.{sends_while_pending, waits_for_more, block_due, is_empty_list, some_in_list, some_columns, some_end}
use Rattle.psi_receiver.proofs.session.Session.turn.Goals as goal

pub returns-then-not-is_empty : goal.returns-then-not-is_empty
returns-then-not-is_empty c =
    let self : ReceiverState = c.args.self.now in
    sends_while_pending self.pending self.rest (next_of self.deal self.placed self.stage)
    (λ e. some_in_list c.pending.result.now c.is_empty.result c.if-not-is_empty.true c.is_empty.ensures (c.pending.ensures ∙ e))

pub returns-in-Hello : goal.returns-in-Hello
returns-in-Hello c =
    let s = c.self.inside in
    let self : ReceiverState = c.args.self.now in
    let shown : Phase → ReceiverState = running s.deal.now s.items.now s.placement.now s.memory in
    let none : self.pending ≡ [] = sym c.pending.ensures ∙ is_empty_list c.pending.result.now c.is_empty.result c.if-not-is_empty.false c.is_empty.ensures in
    let waits = waits_for_more self.pending self.rest (state_of self).next in
    elim c.in-Hello.is [
      | inl e ↦ waits _ _ none (c.requires none) (ap (λ (r : ReceiverState). (state_of r).next) (sym (sym (ap shown e) ∙ c.self.view_is)))
      | inr (inl (next, count, e)) ↦
          let full = c.self.invariant.holds.columns.columns.count in
          let few = (subst (Stands s.deal.now s.placement.now s.memory) e c.self.invariant.stands).0 in
          absurd (some_columns next count s.memory.sent.columns (omega (arith, full, few)) (ap (λ (r : ReceiverState). r.rest) (sym (ap shown e) ∙ c.self.view_is) ∙ c.requires none))
      | inr (inr (inl (m, e))) ↦
          let awaiting = subst (Stands s.deal.now s.placement.now s.memory) e c.self.invariant.stands in
          waits _ _ none (c.requires none)
          (ap (λ (r : ReceiverState). (state_of r).next) (sym (sym (ap shown e) ∙ c.self.view_is)) ∙ block_due s.deal.now (shown s.phase).placed m.list m.block m.count m.floor awaiting.blocks)
      | inr (inr (inr e)) ↦ absurd (some_end (ap (λ (r : ReceiverState). r.rest) (sym (ap shown e) ∙ c.self.view_is) ∙ c.requires none))
    ]
