use Rattle.std.proofs.Common.{◌≡◌, ◌++◌, ℕ, List, [], sym, ap, subst, ◌∙◌, arith, inl, inr}
use Rattle.psi_spec.specs.Frames.{layout, done_frame}
use Rattle.psi_frames.specs.Script.{due_after, due_frame, over}
use Rattle.psi_receiver.specs.declared.phase.Phase.{Phase}
use Rattle.psi_receiver.specs.declared.phase.Phase.TheVariants as phase
use Rattle.psi_receiver.specs.Running.{ReceiverState, Stands, running, state_of, next_of, rest_in, answers}
use Rattle.psi_receiver.proofs.Going.{none_while_pending, none_while_owed, is_empty_list, some_in_list, some_columns, some_end}
use Rattle.psi_receiver.proofs.session.Session.expect.Goals as goal

pub returns-then-not-is_empty : goal.returns-then-not-is_empty
returns-then-not-is_empty c =
    let self : ReceiverState = c.args.self.now in
    none_while_pending self.pending self.rest (next_of self.deal self.placed self.stage)
    (λ e. some_in_list c.pending.result.now c.is_empty.result c.if-not-is_empty.true c.is_empty.ensures (c.pending.ensures ∙ e))

pub tags-requires : goal.tags-requires
tags-requires c =
    let s = c.self.inside in
    let awaiting = subst (Stands s.deal.now s.placement.now s.memory) c.in-Tags.is c.self.invariant.stands in awaiting.blocks

pub returns-in-Columns : goal.returns-in-Columns
returns-in-Columns c =
    let s = c.self.inside in
    let self : ReceiverState = c.args.self.now in
    let shown : Phase → ReceiverState = running s.deal.now s.items.now s.placement.now s.memory in
    let pending : List ℕ = s.memory.outbox.pending in
    let columns : List (List ℕ) = s.memory.sent.columns in
    let none : pending ≡ [] =
    ap (λ (r : ReceiverState). r.pending) c.self.view_is ∙ (sym c.pending.ensures ∙ is_empty_list c.pending.result.now c.is_empty.result c.if-not-is_empty.false c.is_empty.ensures) in
    elim c.in-Columns.is [
      | inl (next, count, e) ↦
          let full = c.self.invariant.holds.columns.columns.count in
          let few = (subst (Stands s.deal.now s.placement.now s.memory) e c.self.invariant.stands).0 in
          none_while_owed pending (rest_in columns (phase.Columns next count)) (next_of s.deal.now (shown s.phase).placed (answers count))
          (some_columns next count columns (omega (arith, full, few)))
          ∙ ap (λ (r : ReceiverState). due_frame (state_of r)) (sym (ap shown e) ∙ c.self.view_is)
      | inr (inl e) ↦
          none_while_owed pending (layout done_frame) over some_end
          ∙ ap (λ (r : ReceiverState). due_frame (state_of r)) (sym (ap shown e) ∙ c.self.view_is)
      | inr (inr e) ↦
          ap (λ (bytes : List ℕ). due_after (bytes ++ []) over) (sym none)
          ∙ ap (λ (r : ReceiverState). due_frame (state_of r)) (sym (ap shown e) ∙ c.self.view_is)
    ]
