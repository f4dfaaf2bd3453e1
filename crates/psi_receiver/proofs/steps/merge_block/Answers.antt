use Rattle.std.proofs.Common.{◌≡◌, ◌+◌, ◌-◌, ◌*◌, ◌/◌, ◌<◌, ◌∙◌, ℕ, zero, suc, List, Some, length, map, take, drop, get_or, refl, sym, ap, ap₂, subst, arith}
use Rattle.std.specs.List.{slice_get, slice_set}
use Rattle.std.proofs.Math.Nat.{div-zero, mul-div_cancel}
use Rattle.std.proofs.lemmas.List.{map-set}
use Rattle.std.proofs.lemmas.Option.{same_Some, slice_get_read}
use Rattle.psi_spec.specs.Formulas.{padded}
use Rattle.psi_receiver.specs.declared.own.OwnList.{OwnList}
use Rattle.psi_receiver.specs.Marking.{IsBlock, first_in, last_in, padded_tags, tags_in}
use Rattle.psi_receiver.specs.Own.{IsMerging, Marked, marked_of, marks_of}
use Rattle.psi_receiver.specs.Phases.{next_phase}
use Rattle.psi_receiver.specs.Running.{GoesOn, IsMergeable}
use Rattle.psi_receiver.specs.Script.{tags_at}
use Rattle.psi_receiver.proofs.Marks.{slice_get-set_same}
use Rattle.psi_receiver.proofs.Merging.{get_or-padded_tags}
use Rattle.psi_receiver.proofs.Shown.{marks_at, own_tags_stay}
use Rattle.psi_receiver.proofs.steps.merge_block.Goals as goal

-- a list of own tags as a call gives it, and its marks
at_list : (lists : List OwnList) (k n : ℕ) (list : OwnList) → k ≡ n → n < length lists → list ≡ get_or lists k list → slice_get (map marked_of lists) n ≡ Some (marked_of list)
at_list lists k n list same l is = ap (slice_get (map marked_of lists)) (sym same) ∙ marks_at lists k list (omega (arith, same, l)) is

-- the tags of a block have bytes
block_has_length : (g : ℕ) (bytes : List ℕ) → IsBlock g bytes → 0 < g
block_has_length zero bytes is = absurd (let some = is.some in let none = div-zero (length bytes) in omega (arith, some, none))
block_has_length (suc g) bytes is = omega arith

pub mark_block-from-requires-clause-rises : goal.mark_block-from-requires-clause-rises
mark_block-from-requires-clause-rises c =
    let list = c.index_mut-list.result.now in
    let within = c.requires.list in
    let many = c.requires.many in
    let ready : IsMergeable _ _ (marked_of list) = c.requires.ready (marked_of list) (at_list c.args.own.now.lists.items c.from.result c.args.merge.now.list list c.from.ensures (omega (arith, within, many)) c.index_mut-list.ensures.value) in
    ready.rises

pub mark_block-from-requires-clause-few : goal.mark_block-from-requires-clause-few
mark_block-from-requires-clause-few c =
    let list = c.index_mut-list.result.now in
    let within = c.requires.list in
    let many = c.requires.many in
    let ready : IsMergeable _ _ (marked_of list) = c.requires.ready (marked_of list) (at_list c.args.own.now.lists.items c.from.result c.args.merge.now.list list c.from.ensures (omega (arith, within, many)) c.index_mut-list.ensures.value) in
    ready.few

pub mark_block-from-requires-clause-hits : goal.mark_block-from-requires-clause-hits
mark_block-from-requires-clause-hits c =
    let list = c.index_mut-list.result.now in
    let within = c.requires.list in
    let many = c.requires.many in
    let ready : IsMergeable _ _ (marked_of list) = c.requires.ready (marked_of list) (at_list c.args.own.now.lists.items c.from.result c.args.merge.now.list list c.from.ensures (omega (arith, within, many)) c.index_mut-list.ensures.value) in
    ready.long

pub mark_block-from-requires-clause-merging : goal.mark_block-from-requires-clause-merging
mark_block-from-requires-clause-merging c =
    let list = c.index_mut-list.result.now in
    let within = c.requires.list in
    let many = c.requires.many in
    let ready : IsMergeable _ _ (marked_of list) = c.requires.ready (marked_of list) (at_list c.args.own.now.lists.items c.from.result c.args.merge.now.list list c.from.ensures (omega (arith, within, many)) c.index_mut-list.ensures.value) in
    subst (λ (g : ℕ). IsMerging (first_in g c.args.bytes.now) c.args.merge.now.from (marked_of list)) (sym c.tag_length-tag_length.ensures) ready.merging

pub returns-clause-own : goal.returns-clause-own
returns-clause-own c = λ slots are.
    let own = c.args.own.now in
    let list = c.index_mut-list.result.now in
    let n = c.args.merge.now.list in
    let within = c.requires.list in
    let many = c.requires.many in
    own_tags_stay c.args.deal.now slots own _ n list c.mark_block-from.new.list are
    (ap (λ (k : ℕ). slice_set own.lists.items k c.mark_block-from.new.list) c.from.ensures)
    (ap (slice_get own.lists.items) (sym c.from.ensures) ∙ slice_get_read own.lists.items (length own.lists.items) c.from.result list refl (omega (arith, within, many, c.from.ensures)) c.index_mut-list.ensures.value)
    c.mark_block-from.ensures.tags c.mark_block-from.ensures.items c.mark_block-from.ensures.hits

pub returns-clause-merged : goal.returns-clause-merged
returns-clause-merged c =
    let own = c.args.own.now in
    let list = c.index_mut-list.result.now in
    let new = c.mark_block-from.new.list in
    let bytes = c.args.bytes.now in
    let n = c.args.merge.now.list in
    let within = c.requires.list in
    let many = c.requires.many in
    let at = at_list own.lists.items c.from.result n list c.from.ensures (omega (arith, within, many)) c.index_mut-list.ensures.value in
    record {
      marked = marked_of new;
      set = map-set marked_of own.lists.items c.from.result new ∙ ap (λ (k : ℕ). slice_set (marks_of own) k (marked_of new)) c.from.ensures;
      on = λ m there.
          subst (λ (old : Marked). GoesOn (padded_tags c.args.deal.now.tag_length bytes) old (marked_of new)) (same_Some (marked_of list) m (sym at ∙ there))
          (subst (λ (g : ℕ). GoesOn (padded_tags g bytes) (marked_of list) (marked_of new)) c.tag_length-tag_length.ensures
          (record { tags = c.mark_block-from.ensures.tags; long = c.mark_block-from.ensures.hits; hits = c.mark_block-from.ensures.marked }));
    }

pub returns-clause-phase : goal.returns-clause-phase
returns-clause-phase c =
    let own = c.args.own.now in
    let list = c.index_mut-list.result.now in
    let new = c.mark_block-from.new.list in
    let bytes = c.args.bytes.now in
    let n = c.args.merge.now.list in
    let g = c.args.deal.now.tag_length in
    let width = c.tag_length-tag_length.ensures in
    let tags = c.tags.ensures.tags in
    let within = c.requires.list in
    let many = c.requires.many in
    let some : 0 < g = block_has_length g bytes c.requires.tags in
    let count : tags_in g bytes ≡ tags_at c.args.merge.now.count c.args.merge.now.block = ap (λ (k : ℕ). k / g) c.requires.long ∙ mul-div_cancel (tags_at c.args.merge.now.count c.args.merge.now.block) some in
    let place : c.tags.result - 1 ≡ tags_in g bytes - 1 = omega (arith, tags, count) in
    let last : c.tag_at-last.result ≡ last_in g bytes =
    c.tag_at-last.ensures
    ∙ (ap (λ (w : ℕ). padded w (take w (drop ((c.tags.result - 1) * w) bytes))) width
    ∙ (ap (λ (k : ℕ). padded g (take g (drop (k * g) bytes))) place
    ∙ sym (get_or-padded_tags g bytes (tags_in g bytes - 1) (let first = c.tags.ensures.some in omega (arith, first, tags, count))))) in
    let at = at_list own.lists.items c.from.result n list c.from.ensures (omega (arith, within, many)) c.index_mut-list.ensures.value in
    let set = map-set marked_of own.lists.items c.from.result new ∙ ap (λ (k : ℕ). slice_set (marks_of own) k (marked_of new)) c.from.ensures in (
      c.mark_block-from.result,
      c.after.ensures ∙ ap₂ (λ (s : ℕ) (x : List ℕ). next_phase (3 + s) c.args.merge.now x c.mark_block-from.result) c.stash.ensures.stash last,
      λ m there.
          subst (IsMerging (last_in g bytes) c.mark_block-from.result)
          (same_Some (marked_of new) m (sym (slice_get-set_same (marks_of own) n (marked_of new) (marked_of list) at) ∙ (ap (λ (ms : List Marked). slice_get ms n) (sym set) ∙ there)))
          (subst (λ (w : ℕ). IsMerging (last_in w bytes) c.mark_block-from.result (marked_of new)) width c.mark_block-from.ensures.merging),
    )
