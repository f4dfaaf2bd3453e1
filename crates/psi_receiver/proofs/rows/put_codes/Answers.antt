use Rattle.std.proofs.Common.{◌≡◌, ◌≤◌, ◌<◌, ◌+◌, ◌-◌, ◌∙◌, ℕ, All, List, length, take, drop, min, subst, sym, ap, arith}
use Rattle.std.proofs.lemmas.List.{length-set, length-take-le, take_min}
use Rattle.std.specs.Simd.Lanes.{zip2}
use Rattle.psi_spec.specs.Formulas.{code}
use Rattle.psi_cuckoo.specs.Table.{slot_of}
use Rattle.psi_spec.specs.Meeting.{Placed, placed_of}
use Rattle.psi_spec.specs.Streams.{row_words}
use Rattle.psi_spec.proofs.Placing.{length-placed_of}
use Rattle.psi_receiver.proofs.Gathering.{indices_within, row_within, slot_there, some_there}
use Rattle.psi_receiver.proofs.RowCodes.{code_made, code_put}
use Rattle.psi_receiver.proofs.rows.put_codes.Goals as goal

pub codes_at-requires-clause-index : goal.codes_at-requires-clause-index
codes_at-requires-clause-index c =
    subst (All (λ (index : ℕ). index ≤ 3)) (sym c.put_indices.ensures)
    (indices_within (length c.args.out.now) c.args.at (length c.put_indices.new.indices) c.args.placement.now c.requires.slots.within)

pub unwrap-slot-requires : goal.unwrap-slot-requires
unwrap-slot-requires c =
    let i = c.args.at + c.loop-i.i in
    let slots = c.args.placement.now in
    some_there slots i c.slot.result (let many = c.requires.slots.many in omega (arith, c.loop-i.auto.i-end)) c.slot.ensures

pub row_mut-requires : goal.row_mut-requires
row_mut-requires c =
    let count = c.loop-i.invariant.count in
    let there = slot_there c.args.placement.now (c.args.at + c.loop-i.i) c.slot.result c.unwrap-slot.result c.slot.ensures c.unwrap-slot.ensures in
    let low = row_within (length c.args.out.now) (c.args.at + c.loop-i.i) c.args.placement.now (slot_of c.unwrap-slot.result) c.requires.slots.within there in
    omega arith

pub loop-i-preserved : goal.loop-i-preserved
loop-i-preserved c =
    let at = c.args.at in
    let i = c.loop-i.i in
    let count = length c.put_indices.new.indices in
    let long : count ≡ c.min-count.result = c.put_indices.auto.indices ∙ length-take-le c.min-count.result _ (omega (arith, c.min-count.ensures)) in
    let part : at + c.min-count.result - at ≡ count = omega arith in
    let digests = c.args.digests.now in
    let words = c.codes_at.ensures ∙ ap (λ (n : ℕ). zip2 (code c.args.key.now) c.put_indices.new.indices (take n (drop at digests))) part in
    let many : length c.codes_at.new.out ≡ c.min-count.result = c.codes_at.auto.out ∙ length-take-le c.min-count.result _ (omega (arith, c.min-count.ensures)) in
    let end : i < c.min-count.result = omega arith in
    let next : at + i + 1 ≡ at + (i + 1) = omega arith in
    let slots = c.args.placement.now in
    let items = c.args.items.now in
    let slot = slot_of c.unwrap-slot.result in
    let rows = length c.args.out.now in
    let there = slot_there slots (at + i) c.slot.result c.unwrap-slot.result c.slot.ensures c.unwrap-slot.ensures in
    let made = code_made c.args.key.now items slots at count i slot c.put_indices.new.indices c.args.digests.now c.codes_at.new.out c.index-words-i.result c.requires.slots.many
    (omega arith) (omega (arith, c.min-count.ensures)) c.requires.digests c.put_indices.ensures words there c.index-words-i.is in
    record {
      count = length-set c.loop-i.out c.unwrap-slot.result.row c.index-words-i.result ∙ c.loop-i.invariant.count;
      words = code_put c.args.key.now items slots rows (at + i) slot c.loop-i.out c.index-words-i.result c.requires.slots there made c.loop-i.invariant.words
          ∙ ap (λ (n : ℕ). row_words c.args.key.now (take n (placed_of items slots)) rows) next;
    }

pub returns : goal.returns
returns c =
    let items = c.args.items.now in
    let slots = c.args.placement.now in
    let at = c.args.at in
    let placed : List Placed = placed_of items slots in
    let long = length-placed_of items slots (sym c.requires.slots.many) in
    let same : min (at + 64) (length placed) ≡ at + c.loop-i.i = omega (arith, c.min-count.ensures, c.loop-i.auto.i-end, c.loop-i-test.false) in
    c.loop-i.invariant.words
    ∙ ap (λ (part : List Placed). row_words c.args.key.now part (length c.args.out.now)) (sym (ap (λ (n : ℕ). take n placed) same) ∙ take_min (at + 64) placed)
