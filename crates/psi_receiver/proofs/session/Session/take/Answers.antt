use Rattle.std.proofs.Common.{◌≤◌, ◌++◌, ◌∷◌, ℕ, List, [], refl, sym, ap, subst, ◌∙◌, arith, inl, inr}
use Rattle.std.proofs.lemmas.List.{length-map}
use Rattle.psi_spec.specs.Frames.{Frame, layout, done_frame}
use Rattle.psi_spec.specs.Limits.{limit_items}
use Rattle.psi_spec.specs.Meeting.{placed_of}
use Rattle.psi_frames.specs.declared.expect.Expect.TheVariants as expect
use Rattle.psi_frames.specs.declared.frame.Frame as lent
use Rattle.psi_frames.specs.Expected.{seen}
use Rattle.psi_frames.specs.Script.{MayCome, after_taking, due_frame}
use Rattle.psi_frames.proofs.FrameAt.{frame_at_layout}
use Rattle.psi_receiver.specs.declared.phase.Phase.{Phase}
use Rattle.psi_receiver.specs.declared.phase.Phase.TheVariants as phase
use Rattle.psi_receiver.specs.Marking.{first_in, last_in}
use Rattle.psi_receiver.specs.Own.{AreMarked, marked_of, marks_of, tags_for}
use Rattle.psi_receiver.specs.Running.{IsSession, ReceiverState, Stands, answers, ends, greets, rest_in, running, stage_in, state_of}
use Rattle.psi_receiver.specs.Script.{bytes_in, count_in}
use Rattle.psi_receiver.proofs.Coming.{count_that_comes, is_hello, is_tags}
use Rattle.psi_receiver.proofs.Going.{after_block, after_hello, hello_may_come, none_comes_after, none_may_come, some_columns, some_end, state_with}
use Rattle.psi_receiver.proofs.Holding.{session_after_block, session_after_hello}
use Rattle.psi_receiver.proofs.Marks.{marked_with_other}
use Rattle.psi_receiver.proofs.Taking.{block_at, marked_with_block, mergeable_with}
use Rattle.psi_receiver.proofs.session.Session.take.Goals as goal

pub invariant_of-self : goal.invariant_of-self
invariant_of-self c =
    let s = c.self.inside in
    let f : Frame = seen c.args.frame.now in
    let deal = s.deal.now in
    let shown : Phase → ReceiverState = running deal s.items.now s.placement.now s.memory in
    let due = subst (λ (r : ReceiverState). MayCome (due_frame (state_of r)) f) (sym (sym (ap shown c.in-Hello.is) ∙ c.self.view_is)) c.requires in
    let may = hello_may_come deal (shown phase.Hello).placed s.memory.outbox.pending f due in
    session_after_hello deal s.items.now s.placement.now s.memory c.in-SenderHello.count (subst (IsSession deal s.items.now s.placement.now s.memory) c.in-Hello.is c.self.invariant)
    (subst (λ (n : ℕ). n ≤ limit_items) (ap (λ (g : lent.Frame). count_in (seen g)) c.in-SenderHello.is) (count_that_comes deal.id deal.session f may.1))

pub merge_block-self-inside-requires-clause-long : goal.merge_block-self-inside-requires-clause-long
merge_block-self-inside-requires-clause-long c =
    let s = c.self.inside in
    let f : Frame = seen c.args.frame.now in
    let m = c.in-Tags.merge in
    let bytes : List ℕ = c.in-Tags-frame.bytes.now in
    let is = subst (IsSession s.deal.now s.items.now s.placement.now s.memory) c.in-Tags.is c.self.invariant in
    let view = sym (ap (running s.deal.now s.items.now s.placement.now s.memory) c.in-Tags.is) ∙ c.self.view_is in
    let at = block_at s.deal.now s.items.now s.placement.now s.memory m c.args.self.now f bytes is view c.requires (ap (λ (g : lent.Frame). bytes_in (seen g)) c.in-Tags-frame.is) in
    at.1.long

pub merge_block-self-inside-requires-clause-tags : goal.merge_block-self-inside-requires-clause-tags
merge_block-self-inside-requires-clause-tags c =
    let s = c.self.inside in
    let f : Frame = seen c.args.frame.now in
    let m = c.in-Tags.merge in
    let bytes : List ℕ = c.in-Tags-frame.bytes.now in
    let is = subst (IsSession s.deal.now s.items.now s.placement.now s.memory) c.in-Tags.is c.self.invariant in
    let view = sym (ap (running s.deal.now s.items.now s.placement.now s.memory) c.in-Tags.is) ∙ c.self.view_is in
    let at = block_at s.deal.now s.items.now s.placement.now s.memory m c.args.self.now f bytes is view c.requires (ap (λ (g : lent.Frame). bytes_in (seen g)) c.in-Tags-frame.is) in
    at.1.block

pub merge_block-self-inside-requires-clause-ready : goal.merge_block-self-inside-requires-clause-ready
merge_block-self-inside-requires-clause-ready c = λ n there.
    let s = c.self.inside in
    let f : Frame = seen c.args.frame.now in
    let m = c.in-Tags.merge in
    let bytes : List ℕ = c.in-Tags-frame.bytes.now in
    let is = subst (IsSession s.deal.now s.items.now s.placement.now s.memory) c.in-Tags.is c.self.invariant in
    let view = sym (ap (running s.deal.now s.items.now s.placement.now s.memory) c.in-Tags.is) ∙ c.self.view_is in
    let at = block_at s.deal.now s.items.now s.placement.now s.memory m c.args.self.now f bytes is view c.requires (ap (λ (g : lent.Frame). bytes_in (seen g)) c.in-Tags-frame.is) in
    mergeable_with m.floor (first_in s.deal.now.tag_length bytes) m.from n at.1.above (is.stands.merging n there)

pub invariant_of-self-in-Tags-frame : goal.invariant_of-self-in-Tags-frame
invariant_of-self-in-Tags-frame c =
    let s = c.self.inside in
    let f : Frame = seen c.args.frame.now in
    let m = c.in-Tags.merge in
    let bytes : List ℕ = c.in-Tags-frame.bytes.now in
    let is = subst (IsSession s.deal.now s.items.now s.placement.now s.memory) c.in-Tags.is c.self.invariant in
    let view = sym (ap (running s.deal.now s.items.now s.placement.now s.memory) c.in-Tags.is) ∙ c.self.view_is in
    let at = block_at s.deal.now s.items.now s.placement.now s.memory m c.args.self.now f bytes is view c.requires (ap (λ (g : lent.Frame). bytes_in (seen g)) c.in-Tags-frame.is) in
    let merged = c.merge_block-self-inside.ensures in
    session_after_block s.deal.now s.items.now s.placement.now s.memory c.merge_block-self-inside.new.own m at.1.tag (last_in s.deal.now.tag_length bytes) merged.phase.0
    c.merge_block-self-inside.result is (merged.own s.placement.now is.holds.own) at.1.tag_long at.1.last merged.phase.1 at.0 merged.phase.2

pub returns-in-SenderHello-clause-state : goal.returns-in-SenderHello-clause-state
returns-in-SenderHello-clause-state c =
    let s = c.self.inside in
    let f : Frame = seen c.args.frame.now in
    let deal = s.deal.now in
    let shown : Phase → ReceiverState = running deal s.items.now s.placement.now s.memory in
    let view = sym (ap shown c.in-Hello.is) ∙ c.self.view_is in
    let placed = (shown phase.Hello).placed in
    let columns : List (List ℕ) = s.memory.sent.columns in
    let due = subst (λ (r : ReceiverState). MayCome (due_frame (state_of r)) f) (sym view) c.requires in
    let none = (hello_may_come deal placed s.memory.outbox.pending f due).0 in
    let count = ap (λ (g : lent.Frame). count_in (seen g)) (sym c.in-SenderHello.is) in
    (λ i. state_with deal placed (none i) (rest_in columns (phase.Columns 0 (count i))) (answers (count i)))
    ∙ (after_hello deal placed f columns (ap (λ sent. sent.columns) c.self.invariant.holds.sent)
    ∙ (ap (λ (pending : List ℕ). after_taking f (state_with deal placed pending [] greets)) (sym none)
    ∙ ap (λ (r : ReceiverState). after_taking f (state_of r)) view))

pub returns-in-SenderHello-clause-marks : goal.returns-in-SenderHello-clause-marks
returns-in-SenderHello-clause-marks c = λ before marked.
    let f : Frame = seen c.args.frame.now in
    let self : ReceiverState = c.args.self.now in
    let width = self.deal.tag_length in
    subst (AreMarked width (before ++ f ∷ [])) (sym (ap (λ (r : ReceiverState). r.lists) c.self.view_is))
    (marked_with_other width before f self.lists (λ list. ap (λ (g : lent.Frame). tags_for width list (seen g ∷ [])) c.in-SenderHello.is) marked)

pub returns-in_default : goal.returns-in_default
returns-in_default c =
    let s = c.self.inside in
    let f : Frame = seen c.args.frame.now in
    let deal = s.deal.now in
    let shown : Phase → ReceiverState = running deal s.items.now s.placement.now s.memory in
    let due = subst (λ (r : ReceiverState). MayCome (due_frame (state_of r)) f) (sym (sym (ap shown c.in-Hello.is) ∙ c.self.view_is)) c.requires in
    let may = hello_may_come deal (shown phase.Hello).placed s.memory.outbox.pending f due in
    absurd (is_hello c.args.frame.now _ _ _ c.in_default.not-SenderHello (sym (frame_at_layout (expect.SenderHello deal.id deal.session) f may.1)))

pub returns-in-Tags-frame-clause-state : goal.returns-in-Tags-frame-clause-state
returns-in-Tags-frame-clause-state c =
    let s = c.self.inside in
    let f : Frame = seen c.args.frame.now in
    let m = c.in-Tags.merge in
    let bytes : List ℕ = c.in-Tags-frame.bytes.now in
    let is = subst (IsSession s.deal.now s.items.now s.placement.now s.memory) c.in-Tags.is c.self.invariant in
    let view = sym (ap (running s.deal.now s.items.now s.placement.now s.memory) c.in-Tags.is) ∙ c.self.view_is in
    let at = block_at s.deal.now s.items.now s.placement.now s.memory m c.args.self.now f bytes is view c.requires (ap (λ (g : lent.Frame). bytes_in (seen g)) c.in-Tags-frame.is) in
    let deal = s.deal.now in
    let placed = placed_of s.items.now s.placement.now in
    let columns : List (List ℕ) = s.memory.sent.columns in
    let merged = c.merge_block-self-inside.ensures in
    (λ i. state_with deal placed (at.0 i) (rest_in columns (merged.phase.1 i)) (stage_in (merged.phase.1 i)))
    ∙ (after_block deal placed m f columns (last_in deal.tag_length bytes) merged.phase.0 is.stands.lists is.stands.blocks at.1.floor
    ∙ (ap (λ (pending : List ℕ). after_taking f (state_with deal placed pending [] (stage_in (phase.Tags m)))) (sym at.0)
    ∙ ap (λ (r : ReceiverState). after_taking f (state_of r)) view))

pub returns-in-Tags-frame-clause-marks : goal.returns-in-Tags-frame-clause-marks
returns-in-Tags-frame-clause-marks c = λ before marked.
    let s = c.self.inside in
    let f : Frame = seen c.args.frame.now in
    let m = c.in-Tags.merge in
    let bytes : List ℕ = c.in-Tags-frame.bytes.now in
    let is = subst (IsSession s.deal.now s.items.now s.placement.now s.memory) c.in-Tags.is c.self.invariant in
    let view = sym (ap (running s.deal.now s.items.now s.placement.now s.memory) c.in-Tags.is) ∙ c.self.view_is in
    let at = block_at s.deal.now s.items.now s.placement.now s.memory m c.args.self.now f bytes is view c.requires (ap (λ (g : lent.Frame). bytes_in (seen g)) c.in-Tags-frame.is) in
    let g : ℕ = s.deal.now.tag_length in
    let own = c.merge_block-self-inside.new.own in
    let many = is.holds.own.many in
    let low = is.stands.lists in
    let was : AreMarked g before (marks_of s.memory.own) =
    subst (λ (r : ReceiverState). AreMarked r.deal.tag_length before r.lists) (sym c.self.view_is) marked in
    subst (λ (w : ℕ). AreMarked w (before ++ f ∷ []) (marks_of own)) (ap (λ (r : ReceiverState). r.deal.tag_length) c.self.view_is)
    (marked_with_block g before f m.list m.block bytes (marks_of s.memory.own) (marks_of own) at.1.is
    (omega (arith, low, many, length-map s.memory.own.lists.items marked_of)) c.merge_block-self-inside.ensures.merged was)

pub returns-in_default-frame : goal.returns-in_default-frame
returns-in_default-frame c =
    let s = c.self.inside in
    let f : Frame = seen c.args.frame.now in
    let m = c.in-Tags.merge in
    let is = subst (IsSession s.deal.now s.items.now s.placement.now s.memory) c.in-Tags.is c.self.invariant in
    let view = sym (ap (running s.deal.now s.items.now s.placement.now s.memory) c.in-Tags.is) ∙ c.self.view_is in
    let at = block_at s.deal.now s.items.now s.placement.now s.memory m c.args.self.now f (bytes_in f) is view c.requires refl in
    absurd (is_tags c.args.frame.now m.list m.block (bytes_in f) c.in_default-frame.not-Tags at.1.is)

pub returns-in-Columns : goal.returns-in-Columns
returns-in-Columns c =
    let s = c.self.inside in
    let f : Frame = seen c.args.frame.now in
    let deal = s.deal.now in
    let shown : Phase → ReceiverState = running deal s.items.now s.placement.now s.memory in
    let placed = (shown s.phase).placed in
    let pending : List ℕ = s.memory.outbox.pending in
    let columns : List (List ℕ) = s.memory.sent.columns in
    elim c.in-Columns.is [
      | inl (next, count, e) ↦
          let full = c.self.invariant.holds.columns.columns.count in
          let few = (subst (Stands deal s.placement.now s.memory) e c.self.invariant.stands).0 in
          let due = subst (λ (r : ReceiverState). MayCome (due_frame (state_of r)) f) (sym (sym (ap shown e) ∙ c.self.view_is)) c.requires in
          absurd (none_may_come deal placed pending (rest_in columns (phase.Columns next count)) (answers count) f (some_columns next count columns (omega (arith, full, few))) due)
      | inr (inl e) ↦
          let due = subst (λ (r : ReceiverState). MayCome (due_frame (state_of r)) f) (sym (sym (ap shown e) ∙ c.self.view_is)) c.requires in
          absurd (none_may_come deal placed pending (layout done_frame) ends f some_end due)
      | inr (inr e) ↦
          let due = subst (λ (r : ReceiverState). MayCome (due_frame (state_of r)) f) (sym (sym (ap shown e) ∙ c.self.view_is)) c.requires in
          absurd (none_comes_after deal placed pending f due)
    ]
