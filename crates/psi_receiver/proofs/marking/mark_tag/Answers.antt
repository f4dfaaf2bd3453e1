use Rattle.std.proofs.Common.{◌≡◌, ◌≤◌, ◌<◌, ◌||◌, ℕ, [], false, true, get_or, Bool, List, is_gt, is_eq, sym, ap, subst, ◌∙◌, ⊎_elim, arith}
use Rattle.std.specs.Str.{bytes_eq}
use Rattle.std.proofs.lemmas.Bool.{cases_lt, cases_eq}
use Rattle.std.proofs.lemmas.List.{get_or-set_same, get_or-set_other}
use Rattle.psi_spec.specs.Frames.{is_below}
use Rattle.psi_receiver.proofs.Merging.{above_differs, above_later, below_by_gt, same_by_eq, or_false, or_true}
use Rattle.psi_receiver.proofs.marking.mark_tag.Goals as goal
use Rattle.psi_receiver.proofs.marking.mark_tag.Goals.{then-is_eq, else-is_eq}

pub returns-then-is_gt-clause-marked : goal.returns-then-is_gt-clause-marked
returns-then-is_gt-clause-marked c = λ j from within.
    let i : ℕ = c.loop-i.i in
    let own = c.args.own.now in
    let tag = c.args.tag.now in
    let above : is_below tag (get_or own i []) ≡ true =
    below_by_gt (get_or own i []) tag ∙ (ap is_gt (sym c.cmp-order.ensures) ∙ (sym c.is_gt.ensures ∙ c.if-is_gt.true)) in
    ⊎_elim (λ (l : j < i). c.loop-i.invariant.marked j from l)
    (λ (l : i ≤ j).
    c.loop-i.invariant.later j l
    ∙ or_false (get_or c.args.hits.now j false) (bytes_eq (get_or own j []) tag)
    (above_differs (get_or own j []) tag (above_later own tag i j c.requires.rises l within above)))
    (cases_lt j i)

pub returns-then-is_gt-clause-place : goal.returns-then-is_gt-clause-place
returns-then-is_gt-clause-place c =
    let i : ℕ = c.loop-i.i in
    let own = c.args.own.now in
    let tag = c.args.tag.now in
    let above : is_below tag (get_or own i []) ≡ true =
    below_by_gt (get_or own i []) tag ∙ (ap is_gt (sym c.cmp-order.ensures) ∙ (sym c.is_gt.ensures ∙ c.if-is_gt.true)) in
    record {
      within = omega arith;
      before = c.loop-i.invariant.below;
      behind = λ j l within. above_later own tag i j c.requires.rises l within above;
    }

pub loop-i-preserved : goal.loop-i-preserved
loop-i-preserved c =
    let i : ℕ = c.loop-i.i in
    let own = c.args.own.now in
    let tag = c.args.tag.now in
    let hits = c.loop-i.hits in
    let old = c.args.hits.now in
    let here : is_below tag (get_or own i []) ≡ false =
    below_by_gt (get_or own i []) tag ∙ (ap is_gt (sym c.cmp-order.ensures) ∙ (sym c.is_gt.ensures ∙ c.if-is_gt.false)) in
    let tie : bytes_eq (get_or own i []) tag ≡ c.is_eq.result =
    same_by_eq (get_or own i []) tag ∙ (ap is_eq (sym c.cmp-order.ensures) ∙ sym c.is_eq.ensures) in
    let others : (j : ℕ) → (j ≡ i → ⊥) → get_or c.if-is_eq.hits j false ≡ get_or hits j false =
    λ j differs. elim c.if-is_eq.branch [
      | then-is_eq w ↦ ap (λ (h : List Bool). get_or h j false) w.hits-is ∙ get_or-set_other hits i j true false differs
      | else-is_eq w ↦ ap (λ (h : List Bool). get_or h j false) w.hits-is
    ] in
    let marked : get_or c.if-is_eq.hits i false ≡ (get_or old i false || bytes_eq (get_or own i []) tag) =
    elim c.if-is_eq.branch [
      | then-is_eq w ↦
          ap (λ (h : List Bool). get_or h i false) w.hits-is
          ∙ (get_or-set_same hits i true false (omega arith)
          ∙ or_true (get_or old i false) (bytes_eq (get_or own i []) tag) (tie ∙ w.if-is_eq.true))
      | else-is_eq w ↦
          ap (λ (h : List Bool). get_or h i false) w.hits-is
          ∙ (c.loop-i.invariant.later i (omega arith)
          ∙ or_false (get_or old i false) (bytes_eq (get_or own i []) tag) (tie ∙ w.if-is_eq.false))
    ] in
    record {
      size = omega arith;
      below = λ j l. ⊎_elim (λ (e : j ≡ i). subst (λ (k : ℕ). is_below tag (get_or own k []) ≡ false) (sym e) here)
          (λ (d : j ≡ i → ⊥). c.loop-i.invariant.below j (omega (arith, d))) (cases_eq j i);
      kept = λ j l. others j (λ e. omega arith) ∙ c.loop-i.invariant.kept j l;
      marked = λ j from l. ⊎_elim
          (λ (e : j ≡ i). subst (λ (k : ℕ). get_or c.if-is_eq.hits k false ≡ (get_or old k false || bytes_eq (get_or own k []) tag)) (sym e) marked)
          (λ (d : j ≡ i → ⊥). others j d ∙ c.loop-i.invariant.marked j from (omega (arith, d))) (cases_eq j i);
      later = λ j l. others j (λ e. omega arith) ∙ c.loop-i.invariant.later j (omega arith);
    }

pub returns-clause-place : goal.returns-clause-place
returns-clause-place c = record {
  within = omega arith;
  before = λ j l. c.loop-i.invariant.below j (omega arith);
  behind = λ j l within. absurd (omega arith);
}
