use Rattle.std.proofs.Common.{◌≡◌, ◌<◌, ◌||◌, ℕ, [], false, length, get_or, Bool, List, subst, sym, ap, ◌∙◌, arith}
use Rattle.std.proofs.lemmas.List.{with_items_is}
use Rattle.psi_receiver.specs.Marking.{is_among, last_in, not_above, padded_tags}
use Rattle.psi_receiver.specs.Own.{IsMerging, marked_of}
use Rattle.psi_receiver.proofs.Marks.{marked_everywhere, merging_after}
use Rattle.psi_receiver.proofs.blocks.mark_block.Goals as goal

-- every own tag is marked by the block
marked : (c : goal.After-list-1) (i : ℕ) → i < length c.args.list.now.tags.items
    → get_or c.mark.new.hits i false
    ≡ (get_or c.args.list.now.hits.items i false
    || is_among (padded_tags c.args.tag_length c.args.bytes.now) (get_or c.args.list.now.tags.items i []))
marked c =
    marked_everywhere c.args.tag_length c.args.from c.args.bytes.now (marked_of c.args.list.now) c.mark.new.hits c.requires.block c.requires.merging
    (rw (← c.deref_mut.ensures.value) c.mark.ensures.kept) (rw (← c.deref_mut.ensures.value, ← c.deref.ensures.value) c.mark.ensures.marked)

pub returns-clause-marked : goal.returns-clause-marked
returns-clause-marked c = λ i l.
    ap (λ (hits : List Bool). get_or hits i false) (with_items_is c.args.list.now.hits c.mark.new.hits (omega arith)) ∙ marked c i l

pub returns-clause-merging : goal.returns-clause-merging
returns-clause-merging c =
    let own = c.args.list.now in
    let last : List ℕ = last_in c.args.tag_length c.args.bytes.now in
    let place : not_above last own.tags.items ≡ c.mark.result =
    sym (c.mark.ensures.passed ∙ ap (not_above last) c.deref.ensures.value) in
    let written = with_items_is own.hits c.mark.new.hits (omega arith) in
    subst (λ (at : ℕ). IsMerging last at (record { tags = own.tags.items; hits = (Rattle.std.specs.Vec.with_items own.hits c.mark.new.hits).items })) place
    (subst (λ (hits : List Bool). IsMerging last (not_above last own.tags.items) (record { tags = own.tags.items; hits = hits })) (sym written)
    (merging_after c.args.tag_length c.args.bytes.now (marked_of own) c.mark.new.hits c.requires.block c.requires.rises (marked c)))
