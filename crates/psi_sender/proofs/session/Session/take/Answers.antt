use Rattle.std.proofs.Common.{◌≡◌, ◌++◌, ℕ, List, [], length, sym, ap, subst, ◌∙◌, arith, inl, inr, false}
use Rattle.psi_spec.specs.Bits.{bit_of}
use Rattle.psi_spec.specs.Columns.{column_bytes}
use Rattle.psi_spec.specs.ColumnSets.{opened_column}
use Rattle.psi_spec.specs.Frames.{Frame}
use Rattle.psi_spec.specs.Limits.{rows_for}
use Rattle.psi_spec.specs.Matrices.{IsClean, Matrix, column_of, with_column}
use Rattle.psi_frames.specs.declared.frame.Frame as lent
use Rattle.psi_frames.specs.Expected.{seen}
use Rattle.psi_frames.specs.Script.{MayCome, due_frame, over}
use Rattle.psi_sender.specs.declared.memory.Memory.{Memory}
use Rattle.psi_sender.specs.declared.phase.Phase.{Phase}
use Rattle.psi_sender.specs.Script.{bytes_in}
use Rattle.psi_sender.specs.Running.{Running, running, mid_state, side_over, rest_in, next_of, stage_in}
use Rattle.psi_sender.proofs.Coming.{column_that_comes, is_column}
use Rattle.psi_sender.proofs.Going.{column_may_come, after_column, tags_are_not_due, none_is_due, empty_before}
use Rattle.psi_sender.proofs.session.Session.take.Goals as goal

pub open_next-self-inside-requires-clause-long : goal.open_next-self-inside-requires-clause-long
open_next-self-inside-requires-clause-long c =
    let s = c.self.inside in
    let f : Frame = seen c.args.frame.now in
    let next = c.in-Columns.next in
    let shown : Phase → Running = running s.deal.now s.items.now s.count s.memory in
    let due = subst (λ (r : Running). MayCome (due_frame (mid_state r)) f) (sym (sym (ap shown c.in-Columns.is) ∙ c.self.view_is)) c.requires in
    let may = column_may_come s.deal.now s.items.now s.count s.memory next f (let full = c.self.invariant.full in let few = c.self.invariant.column next c.in-Columns.is in omega arith) due in
    let column = column_that_comes next (rows_for s.deal.now.stash s.count) f may.1 in
    ap length (sym (ap (λ (g : lent.Frame). bytes_in (seen g)) c.in-Column.is)) ∙ (column.long ∙ ap column_bytes (sym c.self.invariant.holds.rows))

pub open_next-self-inside-requires-clause-clean : goal.open_next-self-inside-requires-clause-clean
open_next-self-inside-requires-clause-clean c =
    let s = c.self.inside in
    let f : Frame = seen c.args.frame.now in
    let next = c.in-Columns.next in
    let shown : Phase → Running = running s.deal.now s.items.now s.count s.memory in
    let due = subst (λ (r : Running). MayCome (due_frame (mid_state r)) f) (sym (sym (ap shown c.in-Columns.is) ∙ c.self.view_is)) c.requires in
    let may = column_may_come s.deal.now s.items.now s.count s.memory next f (let full = c.self.invariant.full in let few = c.self.invariant.column next c.in-Columns.is in omega arith) due in
    let column = column_that_comes next (rows_for s.deal.now.stash s.count) f may.1 in
    let bytes_is = ap (λ (g : lent.Frame). bytes_in (seen g)) c.in-Column.is in
    subst (IsClean s.memory.columns.rows) bytes_is (subst (λ (n : ℕ). IsClean n (bytes_in f)) (sym c.self.invariant.holds.rows) column.clean)

pub returns-in-Column : goal.returns-in-Column
returns-in-Column c =
    let s = c.self.inside in
    let f : Frame = seen c.args.frame.now in
    let next = c.in-Columns.next in
    let deal = s.deal.now in
    let ys = s.items.now in
    let shown : Phase → Running = running deal ys s.count s.memory in
    let view = sym (ap shown c.in-Columns.is) ∙ c.self.view_is in
    let few = c.self.invariant.column next c.in-Columns.is in
    let full = c.self.invariant.full in
    let may = column_may_come deal ys s.count s.memory next f (omega arith) (subst (λ (r : Running). MayCome (due_frame (mid_state r)) f) (sym view) c.requires) in
    let made = c.open_next-self-inside.new.memory in
    let columns : List (List ℕ) = made.columns.columns in
    let bytes_is = ap (λ (g : lent.Frame). bytes_in (seen g)) c.in-Column.is in
    let opened = ap (λ (m : Matrix). m.columns) c.open_next-self-inside.ensures.columns
    ∙ ap (λ (bytes : List ℕ). (with_column s.memory.columns next (opened_column (bit_of deal.choice next) (column_of s.memory.columns next) bytes)).columns) (sym bytes_is) in
    let pending : made.outbox.pending ≡ [] = ap (λ (m : Memory). m.outbox.pending) c.open_next-self-inside.ensures.memory ∙ may.0 in
    let phase = c.open_next-self-inside.ensures.phase in
    (λ i. record {
      owes = pending i ++ rest_in deal.stash (side_over deal s.count columns) ys (phase i);
      next = next_of deal ys s.count (stage_in columns (phase i));
      is_new = false;
    })
    ∙ after_column deal ys s.count next s.memory.columns.columns columns f (mid_state c.args.self.now) full few
    (ap (λ (r : Running). (mid_state r).next) (sym view)) opened

pub returns-in_default : goal.returns-in_default
returns-in_default c =
    let s = c.self.inside in
    let f : Frame = seen c.args.frame.now in
    let next = c.in-Columns.next in
    let shown : Phase → Running = running s.deal.now s.items.now s.count s.memory in
    let due = subst (λ (r : Running). MayCome (due_frame (mid_state r)) f) (sym (sym (ap shown c.in-Columns.is) ∙ c.self.view_is)) c.requires in
    let may = column_may_come s.deal.now s.items.now s.count s.memory next f (let full = c.self.invariant.full in let few = c.self.invariant.column next c.in-Columns.is in omega arith) due in
    let column = column_that_comes next (rows_for s.deal.now.stash s.count) f may.1 in
    absurd (is_column c.args.frame.now next (bytes_in f) c.in_default.not-Column column.is)

pub returns-in-Tags : goal.returns-in-Tags
returns-in-Tags c =
    let s = c.self.inside in
    let f : Frame = seen c.args.frame.now in
    let shown : Phase → Running = running s.deal.now s.items.now s.count s.memory in
    elim c.in-Tags.is [
      | inl (list, block, e) ↦
          let answering = c.self.invariant.answering list block e in
          let due = subst (λ (r : Running). MayCome (due_frame (mid_state r)) f) (sym (sym (ap shown e) ∙ c.self.view_is)) c.requires in
          absurd (subst (λ d. MayCome d f) (sym (tags_are_not_due s.deal.now s.items.now s.count s.memory list block answering.lists answering.blocks)) due)
      | inr e ↦
          let due = subst (λ (r : Running). MayCome (due_frame (mid_state r)) f) (sym (sym (ap shown e) ∙ c.self.view_is)) c.requires in
          let none = empty_before s.memory.outbox.pending [] over f due in
          absurd (subst (λ d. MayCome d f) (sym (none_is_due s.deal.now s.items.now s.count s.memory none)) due)
    ]
