use Rattle.std.proofs.Common.{◌≡◌, ◌≤◌, ◌<◌, ◌||◌, ◌+◌, ◌-◌, ◌/◌, ℕ, [], false, length, get_or, take, Bool, List, sym, ap, ap₂, ◌∙◌, ⊎_elim, arith}
use Rattle.std.specs.Str.{bytes_eq}
use Rattle.std.proofs.lemmas.Bool.{cases_lt}
use Rattle.std.proofs.lemmas.List.{take_all}
use Rattle.std.proofs.lemmas.List.Folds.{list_any_more}
use Rattle.psi_spec.specs.Frames.{is_below}
use Rattle.psi_spec.proofs.Tags.{bytes_eq-same, same_from_bytes_eq}
use Rattle.psi_receiver.specs.Marking.{is_among, not_above, padded_tags, tags_in}
use Rattle.psi_receiver.proofs.Merging.{get_or-padded_tags, length-padded_tags, padded_tags_rise, one_of_two, or_kept, or_later, or_true, passed_later, place_is_count}
use Rattle.psi_receiver.proofs.marking.mark.Goals as goal

pub mark_tag-at-requires-clause-passed : goal.mark_tag-at-requires-clause-passed
mark_tag-at-requires-clause-passed c = λ j l.
    let count : length c.args.bytes.now / c.from.result ≡ tags_in c.args.tag_length c.args.bytes.now = ap (λ (n : ℕ). length c.args.bytes.now / n) (c.from.ensures ∙ c.get.ensures.same) in
    let low : c.loop-index.index < tags_in c.args.tag_length c.args.bytes.now = omega (arith, count) in
    let here = c.tag_at.ensures ∙ sym (get_or-padded_tags c.args.tag_length c.args.bytes.now c.loop-index.index low) in
    ap (λ (tag : List ℕ). is_below tag (get_or c.args.own.now j [])) here ∙ c.loop-index.invariant.passed j l low

pub loop-index-preserved : goal.loop-index-preserved
loop-index-preserved c =
    let k : ℕ = c.loop-index.index in
    let own = c.args.own.now in
    let tags : List (List ℕ) = padded_tags c.args.tag_length c.args.bytes.now in
    let old = c.args.hits.now in
    let at : ℕ = c.mark_tag-at.result in
    let kept = c.loop-index.invariant in
    let count : length c.args.bytes.now / c.from.result ≡ tags_in c.args.tag_length c.args.bytes.now = ap (λ (n : ℕ). length c.args.bytes.now / n) (c.from.ensures ∙ c.get.ensures.same) in
    let low : k < tags_in c.args.tag_length c.args.bytes.now = omega (arith, count) in
    let many : length tags ≡ tags_in c.args.tag_length c.args.bytes.now = length-padded_tags c.args.tag_length c.args.bytes.now in
    let here : c.tag_at.result ≡ get_or tags k [] = c.tag_at.ensures ∙ sym (get_or-padded_tags c.args.tag_length c.args.bytes.now k low) in
    let before : (j : ℕ) → j < at → is_below (get_or tags k []) (get_or own j []) ≡ false =
    λ j l. ap (λ (tag : List ℕ). is_below tag (get_or own j [])) (sym here) ∙ c.mark_tag-at.ensures.place.before j l in
    let more : (x : List ℕ) → is_among (take (k + 1) tags) x ≡ (is_among (take k tags) x || bytes_eq x (get_or tags k [])) =
    λ x. list_any_more (bytes_eq x) tags k [] (omega (arith, many)) in
    record {
      within = c.mark_tag-at.ensures.place.within;
      from = omega arith;
      passed = λ j l next. passed_later (get_or tags k []) (get_or tags (k + 1) []) (get_or own j []) (before j l)
          (padded_tags_rise c.args.tag_length c.args.bytes.now k c.requires.block next);
      met = λ j from l next tie.
          let same : get_or own j [] ≡ get_or tags (k + 1) [] = same_from_bytes_eq (get_or own j []) (get_or tags (k + 1) []) tie in
          let level : is_below (get_or own j []) (get_or tags k []) ≡ false =
          ap (λ (x : List ℕ). is_below x (get_or tags k [])) same ∙ padded_tags_rise c.args.tag_length c.args.bytes.now k c.requires.block next in
          more (get_or own j [])
          ∙ sym (or_true (is_among (take k tags) (get_or own j [])) (bytes_eq (get_or own j []) (get_or tags k []))
          (bytes_eq-same (get_or own j []) (get_or tags k []) (one_of_two (get_or own j []) (get_or tags k []) level (before j l))));
      kept = λ j l. c.mark_tag-at.ensures.kept j (omega arith) ∙ kept.kept j l;
      marked = λ j from l. ⊎_elim
          (λ (early : j < c.loop-index.at).
          c.mark_tag-at.ensures.kept j early
          ∙ (kept.marked j from l
          ∙ ap (λ (b : Bool). get_or old j false || b)
          (or_kept (is_among (take k tags) (get_or own j [])) (bytes_eq (get_or own j []) (get_or tags k [])) (kept.met j from early low)
          ∙ sym (more (get_or own j [])))))
          (λ (late : c.loop-index.at ≤ j).
          c.mark_tag-at.ensures.marked j late l
          ∙ (ap₂ (λ (a b : Bool). a || b) (kept.marked j from l) (ap (bytes_eq (get_or own j [])) here)
          ∙ (or_later (get_or old j false) (is_among (take k tags) (get_or own j [])) (bytes_eq (get_or own j []) (get_or tags k []))
          ∙ ap (λ (b : Bool). get_or old j false || b) (sym (more (get_or own j []))))))
          (cases_lt j c.loop-index.at);
      count = λ some.
          let last : k ≡ k + 1 - 1 = omega arith in
          place_is_count c.tag_at.result own at c.mark_tag-at.ensures.place
          ∙ ap (λ (tag : List ℕ). not_above tag own) (here ∙ ap (λ (i : ℕ). get_or tags i []) last);
    }

pub returns-clause-marked : goal.returns-clause-marked
returns-clause-marked c = λ j from l.
    let tags : List (List ℕ) = padded_tags c.args.tag_length c.args.bytes.now in
    let count : length c.args.bytes.now / c.from.result ≡ tags_in c.args.tag_length c.args.bytes.now = ap (λ (n : ℕ). length c.args.bytes.now / n) (c.from.ensures ∙ c.get.ensures.same) in
    c.loop-index.invariant.marked j from l
    ∙ ap (λ (ts : List (List ℕ)). get_or c.args.hits.now j false || is_among ts (get_or c.args.own.now j []))
    (take_all c.loop-index.index tags (omega (arith, count, length-padded_tags c.args.tag_length c.args.bytes.now)))
