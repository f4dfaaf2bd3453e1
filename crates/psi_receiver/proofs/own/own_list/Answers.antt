use Rattle.std.proofs.Common.{◌≡◌, ◌∙◌, ℕ, List, length, map, IsPermutation, sym, ap, subst, arith}
use Rattle.std.proofs.lemmas.List.{with_items_is}
use Rattle.std.proofs.lemmas.Result.{IfOk-weaker}
use Rattle.psi_spec.specs.Rising.{rising}
use Rattle.psi_receiver.specs.Unmarked.{IsUnmarked, IsUnmarkedList, tags_for_list}
use Rattle.psi_receiver.proofs.own.own_list.Goals as goal

pub returns : goal.returns
returns c =
    let slots = c.args.placement.now in
    let by_item = c.args.by_item.now in
    let list = c.args.list in
    let found = c.deref_mut.result.now in
    let sorted = c.sort_tags.new.tags in
    let tagged = c.deref.result.now in
    let long : length sorted ≡ c.in_ok-tags.tags.len = omega (arith, c.sort_tags.auto.tags, c.deref_mut.ensures.len) in
    let made : found ≡ tags_for_list slots by_item list = c.deref_mut.ensures.value ∙ c.in_ok-tags.ensures in
    let is : tagged ≡ sorted = c.deref.ensures.value ∙ with_items_is c.in_ok-tags.tags sorted long in
    IfOk-weaker c.unmarked.result (IsUnmarked tagged) (IsUnmarkedList slots by_item list)
    (λ own has. record {
      tagged = tagged;
      moved = subst (λ (from : List (List ℕ × ℕ)). IsPermutation from tagged) made (subst (IsPermutation found) (sym is) c.sort_tags.ensures.moved);
      rise = ap (map (λ (t : List ℕ × ℕ). t.0)) is
          ∙ (c.sort_tags.ensures.rise ∙ ap (λ (from : List (List ℕ × ℕ)). rising (map (λ (t : List ℕ × ℕ). t.0) from)) made);
      has = has;
    })
    c.unmarked.ensures
