use Rattle.std.proofs.Common.{◌≡◌, ◌<◌, ℕ, Bool, List, false, Some, Contains, length, get_or, refl, ap, subst, ◌∙◌, arith}
use Rattle.std.specs.List.{slice_get}
use Rattle.std.proofs.lemmas.Option.{slice_get_read, slice_get_within}
use Rattle.psi_receiver.specs.Own.{IsShownAmong}
use Rattle.psi_receiver.specs.declared.own.OwnList.{OwnList}
use Rattle.psi_receiver.proofs.Shown.{one_more_carried}
use Rattle.psi_receiver.proofs.carrying.carry_marks.Goals as goal

pub loop-list-preserved : goal.loop-list-preserved
loop-list-preserved c =
    let lists = c.args.own.now.lists.items in
    let n : ℕ = c.loop-list.list-index in
    let next : OwnList = c.list-item.result in
    let items = c.deref.result.now in
    let shown = c.carry_list.new.shown in
    let whole = c.deref-list-items.ensures.value in
    let within : n < length lists = omega (arith, ap (λ (all : List OwnList). length all) whole) in
    let at : slice_get lists n ≡ Some next =
    slice_get_read lists (length lists) n next refl within (c.list-item.is ∙ ap (λ (all : List OwnList). get_or all n next) whole) in
    one_more_carried lists (length c.args.shown.now) n next c.loop-list.shown shown c.requires at
    (subst (λ (items : List ℕ). (item : ℕ) → Contains items item → IsShownAmong items next.hits.items item (get_or shown item false)) c.deref.ensures.value
    (subst (λ (hits : List Bool). (item : ℕ) → Contains items item → IsShownAmong items hits item (get_or shown item false))
    c.deref-in-loop-list.ensures.value c.carry_list.ensures.carried))
    (subst (λ (items : List ℕ). (item : ℕ) → (Contains items item → ⊥) → get_or shown item false ≡ get_or c.loop-list.shown item false) c.deref.ensures.value
    c.carry_list.ensures.kept)
    c.loop-list.invariant

pub returns : goal.returns
returns c = λ list one item at has.
    let within : list < length c.args.own.now.lists.items = slice_get_within c.args.own.now.lists.items list one at in
    let whole = c.deref-list-items.ensures.value in
    c.loop-list.invariant list one item (omega (arith, ap (λ (all : List OwnList). length all) whole)) at has
