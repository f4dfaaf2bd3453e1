use Rattle.std.proofs.Common.{◌≡◌, ◌∙◌, length, map, sym, ap, subst, refl, arith}
use Rattle.std.specs.Prelude.{IfOk}
use Rattle.std.specs.Vec.{vec_len}
use Rattle.std.proofs.lemmas.Bool.{eqb-true}
use Rattle.psi_spec.specs.Limits.{bins_for}
use Rattle.psi_audit.specs.Naming.{setup_in, rows_in, stranger_tag}
use Rattle.psi_audit.specs.Searching.{IsBegun}
use Rattle.psi_audit.proofs.Named.{good_placed, lists_low, nothing_named, pairs_are, strangers_within}
use Rattle.psi_audit.proofs.colliding.collisions.Goals as goal

pub returns-then-is_empty : goal.returns-then-is_empty
returns-then-is_empty c =
    let i = c.args.inputs.now in
    let items = c.in_ok-strangers.strangers in
    let none : vec_len items ≡ 0 = eqb-true (vec_len items) 0 (sym c.if-is_empty.ensures) in
    c.new.ensures ∙ nothing_named (setup_in i) i.peer.now items.items c.in_ok-strangers.ensures (omega (arith, none))

pub own_tags-requires-clause-within : goal.own_tags-requires-clause-within
own_tags-requires-clause-within c =
    let i = c.args.inputs.now in
    let good = good_placed i.receiver.now.stash i.receiver.now.key (bins_for (length i.own.now)) i.own.now i.placement.now (omega arith) c.requires.inputs.placed.each in
    strangers_within i.receiver.now.stash (rows_in i) (setup_in i) i.peer.now c.deref.result.now refl good (c.deref.ensures.value ∙ c.in_ok-strangers.ensures)

pub begin-requires : goal.begin-requires
begin-requires c =
    let i = c.args.inputs.now in
    let good = good_placed i.receiver.now.stash i.receiver.now.key (bins_for (length i.own.now)) i.own.now i.placement.now (omega arith) c.requires.inputs.placed.each in
    lists_low i.receiver.now.stash 19 (setup_in i) i.peer.now c.deref.result.now c.deref-2.result.now (omega (arith, c.requires.inputs.stash)) good (c.deref.ensures.value ∙ c.in_ok-strangers.ensures)
    (c.deref-2.ensures.value ∙ c.in_ok-tags.ensures)

pub returns : goal.returns
returns c =
    let i = c.args.inputs.now in
    let s = setup_in i in
    let good = good_placed i.receiver.now.stash i.receiver.now.key (bins_for (length i.own.now)) i.own.now i.placement.now (omega arith) c.requires.inputs.placed.each in
    let items = c.deref-3.ensures.value ∙ c.in_ok-strangers.ensures in
    let tags = c.deref-4.ensures.value ∙ (c.in_ok-tags.ensures ∙ ap (map (stranger_tag s)) (c.deref.ensures.value ∙ sym c.deref-3.ensures.value)) in
    let same = pairs_are i.receiver.now.stash s i.peer.now c.deref-3.result.now c.deref-4.result.now c.in_ok-search.search c.meet_all.new.self good items tags (subst (λ ts. IsBegun ts c.in_ok-search.search) (c.deref-2.ensures.value ∙ sym c.deref-4.ensures.value) c.in_ok-search.ensures) c.in_ok-meet_all.ensures in
    subst (λ target. IfOk c.pairs.result (λ pairs. pairs ≡ target)) same c.pairs.ensures
