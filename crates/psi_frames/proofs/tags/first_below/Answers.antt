use Rattle.std.proofs.Common.{◌∙◌, ◌<◌, ◌≤◌, ◌≡◌, ◌-◌, ◌*◌, ℕ, true, false, take, drop, sym, ap, arith}
use Rattle.psi_spec.specs.Frames.{is_below}
use Rattle.psi_frames.proofs.Rising.{long_more, first_start, first_here, first_later, first_end}
use Rattle.psi_frames.proofs.tags.first_below.Goals as goal

pub loop-at-init : goal.loop-at-init
loop-at-init c = record {
  long = let all : c.args.count - 0 ≡ c.args.count = omega arith in c.requires ∙ sym (ap (λ (n : ℕ). n * c.args.tag_length) all);
  first = first_start c.args.count c.args.tag_length c.args.floor.now c.args.tags.now;
}

pub loop-at-preserved : goal.loop-at-preserved
loop-at-preserved c =
    let l = c.loop-at in
    let count = c.args.count in
    let width = c.args.tag_length in
    let more : l.at < count = omega arith in
    let long = long_more count l.at width more in
    let front = c.split_at.ensures.front ∙ ap (λ (n : ℕ). take n l.rest.now) (c.from.ensures ∙ c.get.ensures.same) in
    let back = c.split_at.ensures.back ∙ ap (λ (n : ℕ). drop n l.rest.now) (c.from.ensures ∙ c.get.ensures.same) in
    let later : is_below c.split_at.result.0.now l.before.now ≡ false = sym c.is_below.ensures ∙ c.if-is_below.false in
    record {
      long = omega (arith, long);
      first =
          first_later count l.at width l.before.now l.rest.now _ _ more front back later
          ∙ l.invariant.first;
    }

pub returns-then-is_below : goal.returns-then-is_below
returns-then-is_below c =
    let l = c.loop-at in
    let more : l.at < c.args.count = omega arith in
    let front = c.split_at.ensures.front ∙ ap (λ (n : ℕ). take n l.rest.now) (c.from.ensures ∙ c.get.ensures.same) in
    let falls : is_below c.split_at.result.0.now l.before.now ≡ true = sym c.is_below.ensures ∙ c.if-is_below.true in
    first_here c.args.count l.at c.args.tag_length l.before.now l.rest.now _ more front falls ∙ l.invariant.first

pub returns : goal.returns
returns c =
    let l = c.loop-at in
    let all : c.args.count ≤ l.at = omega arith in
    sym (first_end c.args.count l.at c.args.tag_length l.before.now l.rest.now all) ∙ l.invariant.first
