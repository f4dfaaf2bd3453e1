use Rattle.std.proofs.Common.{◌≡◌, ℕ, Bool, false, get_or, set, sym, ap, subst, ◌∙◌, ⊎_elim, arith}
use Rattle.std.proofs.lemmas.Bool.{cases_eq}
use Rattle.std.proofs.lemmas.List.{get_or_default, get_or-set_same, get_or-set_other}
use Rattle.psi_receiver.specs.Own.{IsShownAmong}
use Rattle.psi_receiver.proofs.carrying.carry_list.Goals as goal

pub loop-place-preserved : goal.loop-place-preserved
loop-place-preserved c =
    let i : ℕ = c.loop-place.place in
    let items = c.args.items.now in
    let hits = c.args.hits.now in
    let shown = c.loop-place.shown in
    let x : ℕ = get_or items i 0 in
    let hit : Bool = get_or hits i false in
    let low = c.requires.low i 0 (omega arith) in
    let here : get_or (set shown x hit) x false ≡ hit = get_or-set_same shown x hit false (omega (arith, low)) in
    let others : (n : ℕ) → (n ≡ x → ⊥) → get_or (set shown x hit) n false ≡ get_or shown n false =
    λ n d. get_or-set_other shown x n hit false d in
    record {
      carried = λ k l. ⊎_elim
          (λ (e : get_or items k 0 ≡ x).
          record { place = i; within = omega arith; same = sym e; as_marked = ap (λ (n : ℕ). get_or (set shown x hit) n false) e ∙ here })
          (λ (d : get_or items k 0 ≡ x → ⊥).
          let differs : k ≡ i → ⊥ = λ e. d (ap (λ (n : ℕ). get_or items n 0) e) in
          subst (IsShownAmong items hits (get_or items k 0)) (sym (others (get_or items k 0) d))
          (c.loop-place.invariant.carried k (omega (arith, differs))))
          (cases_eq (get_or items k 0) x);
      kept = λ item none. others item (λ e. none i (omega arith) (sym e))
          ∙ c.loop-place.invariant.kept item (λ k l is. none k (omega arith) is);
    }

pub returns-clause-carried : goal.returns-clause-carried
returns-clause-carried c = λ item has.
    let items = c.args.items.now in
    let is : get_or items has.0 0 ≡ item = get_or_default items has.0 0 item has.1 ∙ has.2 in
    subst (λ (n : ℕ). IsShownAmong items c.args.hits.now n (get_or c.loop-place.shown n false)) is
    (c.loop-place.invariant.carried has.0 (omega (arith, has.1)))

pub returns-clause-kept : goal.returns-clause-kept
returns-clause-kept c = λ item none.
    c.loop-place.invariant.kept item
    (λ k l is. none (k, omega (arith, l), get_or_default c.args.items.now k item 0 (omega (arith, l)) ∙ is))
