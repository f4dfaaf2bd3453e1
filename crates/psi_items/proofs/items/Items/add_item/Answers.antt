use Rattle.std.proofs.Common.{◌≡◌, ◌∙◌, sym, ap, subst, length, true, false, option_map, rules, refl, cond, ℕ, Vec, Global, [], ◌∷◌, ◌++◌}
use Rattle.std.specs.List.{list_any}
use Rattle.std.specs.Str.{bytes_eq}
use Rattle.psi_spec.specs.Limits.{limit_items}
use Rattle.psi_items.specs.Members.{AreItems}
use Rattle.psi_items.specs.Reading.{refusal_of}
use Rattle.psi_items.proofs.Keys.{items_in, AreItems-push, list_any-keys, added-repeat, added-new, refused-full, length-view, items_in-inserted}
use Rattle.psi_items.proofs.items.Items.add_item.Goals as goal

pub returns-then-contains-clause-added : goal.returns-then-contains-clause-added
returns-then-contains-clause-added c =
    let there : list_any (bytes_eq c.args.item.now) c.args.self.now ≡ true =
    sym (list_any-keys c.self.inside.set.keys c.args.self.now c.args.item.now c.self.view_is) ∙ sym c.contains.ensures ∙ c.if-contains.true in
    added-repeat c.args.self.now c.args.item.now c.requires there

pub returns-then-len-eq-LIMIT_ITEMS-clause-added : goal.returns-then-len-eq-LIMIT_ITEMS-clause-added
returns-then-len-eq-LIMIT_ITEMS-clause-added c =
    let absent : list_any (bytes_eq c.args.item.now) c.args.self.now ≡ false =
    sym (list_any-keys c.self.inside.set.keys c.args.self.now c.args.item.now c.self.view_is) ∙ sym c.contains.ensures ∙ c.if-contains.false in
    let full : length c.args.self.now ≡ limit_items = length-view c.self.inside.set.keys c.args.self.now c.self.view_is ∙ sym c.len.ensures.len ∙ c.if-len-eq-LIMIT_ITEMS.true in
    ap (option_map (refusal_of c.args.number)) (refused-full c.args.self.now c.args.item.now c.requires absent full)

-- the items after the insertion
after : (c : goal.In_ok-map_err) → (list_any (bytes_eq c.args.item.now) c.args.self.now ≡ false) × (items_in c.insert.new.self.keys ≡ c.args.self.now ++ c.args.item.now ∷ [])
after c =
    let keys = c.self.inside.set.keys in
    let item = c.args.item.now in
    let copy = c.in_ok-copy.copy in
    let copied : copy.items ≡ item = search rules in
    let inserted : c.insert.new.self.keys ≡ cond (list_any (λ (v : Vec ℕ Global). bytes_eq copy.items v.items) keys) keys (keys ++ copy ∷ []) = search rules in
    let unseen : list_any (bytes_eq item) (items_in keys) ≡ false = sym (list_any-keys keys (items_in keys) item refl) ∙ sym c.contains.ensures ∙ c.if-contains.false in (
      ap (list_any (bytes_eq item)) (sym c.self.view_is) ∙ unseen,
      ap items_in inserted ∙ items_in-inserted keys copy item copied unseen ∙ ap (λ items. items ++ item ∷ []) c.self.view_is,
    )

-- there was room for the item
room : (c : goal.In_ok-map_err) → length c.args.self.now ≡ limit_items → ⊥
room c full = c.if-len-eq-LIMIT_ITEMS.false (c.len.ensures.len ∙ sym (length-view c.self.inside.set.keys c.args.self.now c.self.view_is) ∙ full)

pub invariant_of-self-2 : goal.invariant_of-self-2
invariant_of-self-2 c = subst AreItems (sym (after c).1) (AreItems-push c.args.self.now c.args.item.now (subst AreItems c.self.view_is c.self.invariant) c.requires (after c).0 (room c))

pub returns-clause-added : goal.returns-clause-added
returns-clause-added c =
    let new = added-new c.args.self.now c.args.item.now c.requires (after c).0 (room c) in
    (new.0, (after c).1 ∙ new.1)
