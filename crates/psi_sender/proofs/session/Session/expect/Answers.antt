use Rattle.std.proofs.Common.{◌≡◌, [], Some, sym, ap, ◌∙◌, arith, inl, inr}
use Rattle.psi_spec.specs.Limits.{rows_for}
use Rattle.psi_frames.specs.Script.{due_frame}
use Rattle.psi_frames.specs.declared.expect.Expect.TheVariants as expect
use Rattle.psi_sender.specs.declared.phase.Phase.{Phase}
use Rattle.psi_sender.specs.Running.{Running, running, mid_state, next_of}
use Rattle.psi_sender.proofs.Going.{none_while_pending, column_is_due, tags_are_not_due, none_is_due, is_empty_list, some_in_list}
use Rattle.psi_sender.proofs.session.Session.expect.Goals as goal

pub returns-then-not-is_empty : goal.returns-then-not-is_empty
returns-then-not-is_empty c =
    let self : Running = c.args.self.now in
    none_while_pending self.pending self.rest (next_of self.deal self.items self.count self.stage)
    (λ e. some_in_list c.pending.result.now c.is_empty.result c.if-not-is_empty.true c.is_empty.ensures (c.pending.ensures ∙ e))

pub returns-in-Columns : goal.returns-in-Columns
returns-in-Columns c =
    let s = c.self.inside in
    let shown : Phase → Running = running s.deal.now s.items.now s.count s.memory in
    let next = c.in-Columns.next in
    let none : s.memory.outbox.pending ≡ [] =
    ap (λ (r : Running). r.pending) c.self.view_is ∙ (sym c.pending.ensures ∙ is_empty_list c.pending.result.now c.is_empty.result c.if-not-is_empty.false c.is_empty.ensures) in
    let due = column_is_due s.deal.now s.items.now s.count s.memory next none (let full = c.self.invariant.full in let few = c.self.invariant.column next c.in-Columns.is in omega arith) in
    (λ i. Some (expect.Column next ((c.rows.ensures ∙ ap (λ stash. rows_for stash s.count) c.stash.ensures.stash) i)))
    ∙ (due ∙ ap (λ (r : Running). due_frame (mid_state r)) (sym (ap shown c.in-Columns.is) ∙ c.self.view_is))

pub returns-in-Tags : goal.returns-in-Tags
returns-in-Tags c =
    let s = c.self.inside in
    let shown : Phase → Running = running s.deal.now s.items.now s.count s.memory in
    let none : s.memory.outbox.pending ≡ [] =
    ap (λ (r : Running). r.pending) c.self.view_is ∙ (sym c.pending.ensures ∙ is_empty_list c.pending.result.now c.is_empty.result c.if-not-is_empty.false c.is_empty.ensures) in
    elim c.in-Tags.is [
      | inl (list, block, e) ↦
          let answering = c.self.invariant.answering list block e in
          tags_are_not_due s.deal.now s.items.now s.count s.memory list block answering.lists answering.blocks
          ∙ ap (λ (r : Running). due_frame (mid_state r)) (sym (ap shown e) ∙ c.self.view_is)
      | inr e ↦ none_is_due s.deal.now s.items.now s.count s.memory none ∙ ap (λ (r : Running). due_frame (mid_state r)) (sym (ap shown e) ∙ c.self.view_is)
    ]
