use Rattle.std.proofs.Common.{◌≡◌, [], sym, ap, ◌∙◌, inl, inr, arith}
use Rattle.psi_sender.specs.declared.phase.Phase.{Phase}
use Rattle.psi_sender.specs.Running.{Running, running, mid_state, next_of}
use Rattle.psi_sender.proofs.Going.{sends_while_pending, waits_for_more, column_due, is_empty_list, some_in_list}
use Rattle.psi_sender.proofs.session.Session.turn.Goals as goal

pub returns-then-not-is_empty : goal.returns-then-not-is_empty
returns-then-not-is_empty c =
    let self : Running = c.args.self.now in
    sends_while_pending self.pending self.rest (next_of self.deal self.items self.count self.stage)
    (λ e. some_in_list c.pending.result.now c.is_empty.result c.if-not-is_empty.true c.is_empty.ensures (c.pending.ensures ∙ e))

pub returns-in-Columns : goal.returns-in-Columns
returns-in-Columns c =
    let s = c.self.inside in
    let self : Running = c.args.self.now in
    let shown : Phase → Running = running s.deal.now s.items.now s.count s.memory in
    let none : self.pending ≡ [] = sym c.pending.ensures ∙ is_empty_list c.pending.result.now c.is_empty.result c.if-not-is_empty.false c.is_empty.ensures in
    let waits = waits_for_more self.pending self.rest (mid_state self).next in
    elim c.in-Columns.is [
      | inl (next, e) ↦
          let full = c.self.invariant.full in
          let few = c.self.invariant.column next e in
          waits _ _ none (c.requires none)
          (ap (λ (r : Running). (mid_state r).next) (sym (sym (ap shown e) ∙ c.self.view_is)) ∙ column_due s.deal.now s.items.now s.count next s.memory.columns.columns (omega arith))
      | inr (inl (list, block, e)) ↦ waits _ _ none (c.requires none) (ap (λ (r : Running). (mid_state r).next) (sym (sym (ap shown e) ∙ c.self.view_is)))
      | inr (inr e) ↦ waits _ _ none (c.requires none) (ap (λ (r : Running). (mid_state r).next) (sym (sym (ap shown e) ∙ c.self.view_is)))
    ]
