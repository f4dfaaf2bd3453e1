-- What moves along a chain leave: each goes to the row that the move before it left.
use Rattle.std.proofs.Common.{◌≡◌, ◌≢◌, ◌+◌, ◌<◌, ◌⊎◌, ℕ, List, [], ◌∷◌, ◌++◌, length, get_or, set, inl, inr, refl, sym, ap, ◌∙◌, subst, arith, ⊎_elim}
use Rattle.std.proofs.lemmas.Bool.{cases_eq}
use Rattle.std.proofs.lemmas.List.{length-set, get_or-set_same, get_or-set_other, get_or_push, get_or_append_left, length_push}
use Rattle.psi_spec.specs.Placement.{MayHave, Slot}
use Rattle.psi_spec.specs.Picking.{moved}
use Rattle.psi_spec.proofs.Crowding.{nowhere}

-- the row where an item stands
abbrev pub row_of_item : List Slot → ℕ → ℕ
row_of_item slots item = (get_or slots item nowhere).row

-- no item stands in the row
abbrev pub IsVacant : List Slot → ℕ → Type 0
IsVacant slots row = (i : ℕ) → i < length slots → row_of_item slots i ≢ row

-- the item is none that moves
abbrev pub StaysBehind : ℕ → List (ℕ × Slot) → Type 0
StaysBehind item [] = Unit {0}
StaysBehind item (move ∷ moves) = (item ≢ move.0) × StaysBehind item moves

module _ (stash bins : ℕ) (candidates : List (List ℕ)) where
  -- each item has a row of its own, in a slot that it may have or behind the stash
  pub record AreApart (slots : List Slot) : Type 0 where
    pub apart : (i j : ℕ) → i < length slots → j < length slots → row_of_item slots i ≡ row_of_item slots j → i ≡ j
    pub each : (i : ℕ) → i < length slots
        → MayHave stash bins (get_or candidates i []) (get_or slots i nowhere) ⊎ (row_of_item slots i ≡ bins + stash)

  -- the first move goes to this row, each other one to the row that the item before it leaves, and the last leaves the
  -- row behind the stash; no item moves twice, and each may have its new slot
  abbrev pub IsChain : List Slot → ℕ → List (ℕ × Slot) → Type 0
  IsChain slots row [] = row ≡ bins + stash
  IsChain slots row (move ∷ moves) =
      (move.1.row ≡ row) × (move.0 < length slots) × MayHave stash bins (get_or candidates move.0 []) move.1
      × StaysBehind move.0 moves × IsChain slots (row_of_item slots move.0) moves

  module _ (slots : List Slot) (item : ℕ) (slot : Slot) (within : item < length slots) where
    slot_here : get_or (set slots item slot) item nowhere ≡ slot
    slot_here = get_or-set_same slots item slot nowhere within

    slot_there : (i : ℕ) → i ≢ item → get_or (set slots item slot) i nowhere ≡ get_or slots i nowhere
    slot_there i ne = get_or-set_other slots item i slot nowhere ne

    -- an item that goes to a vacant row keeps all apart
    apart_after : AreApart slots → IsVacant slots slot.row → MayHave stash bins (get_or candidates item []) slot
        → AreApart (set slots item slot)
    apart_after t vacant may = record {
      apart = λ i j l m e. by_cases i j (omega (arith, length-set slots item slot))
          (omega (arith, length-set slots item slot)) e (cases_eq i item) (cases_eq j item);
      each = λ i l. ⊎_elim
          (λ same. inl (subst
          (λ (k : ℕ). MayHave stash bins (get_or candidates k []) (get_or (set slots item slot) k nowhere)) (sym same)
          (subst (MayHave stash bins (get_or candidates item [])) (sym slot_here) may)))
          (λ ne. subst (λ (s : Slot). MayHave stash bins (get_or candidates i []) s ⊎ (s.row ≡ bins + stash))
          (sym (slot_there i ne)) (t.each i (omega (arith, length-set slots item slot))))
          (cases_eq i item);
    }
      where
        here : (i : ℕ) → i ≡ item → row_of_item (set slots item slot) i ≡ slot.row
        here i same = ap (row_of_item (set slots item slot)) same ∙ ap (λ (s : Slot). s.row) slot_here

        there : (i : ℕ) → i ≢ item → row_of_item (set slots item slot) i ≡ row_of_item slots i
        there i ne = ap (λ (s : Slot). s.row) (slot_there i ne)

        by_cases : (i j : ℕ) → i < length slots → j < length slots
            → row_of_item (set slots item slot) i ≡ row_of_item (set slots item slot) j → (i ≡ item) ⊎ (i ≢ item)
            → (j ≡ item) ⊎ (j ≢ item) → i ≡ j
        by_cases i j l m e (inl p) (inl q) = p ∙ sym q
        by_cases i j l m e (inl p) (inr q) = absurd (vacant j m (sym (there j q) ∙ (sym e ∙ here i p)))
        by_cases i j l m e (inr p) (inl q) = absurd (vacant i l (sym (there i p) ∙ (e ∙ here j q)))
        by_cases i j l m e (inr p) (inr q) = t.apart i j l m (sym (there i p) ∙ (e ∙ there j q))

    -- the row that it left is vacant
    vacant_after : AreApart slots → IsVacant slots slot.row → IsVacant (set slots item slot) (row_of_item slots item)
    vacant_after t vacant i l e = ⊎_elim
        (λ same. vacant item within
        (sym e ∙ (ap (row_of_item (set slots item slot)) same ∙ ap (λ (s : Slot). s.row) slot_here)))
        (λ ne. ne (t.apart i item (omega (arith, length-set slots item slot)) within
        (sym (ap (λ (s : Slot). s.row) (slot_there i ne)) ∙ e)))
        (cases_eq i item)

    -- the others' chain stays one
    chain_after : (moves : List (ℕ × Slot)) (row : ℕ) → StaysBehind item moves → IsChain slots row moves
        → IsChain (set slots item slot) row moves
    chain_after [] row stays chain = chain
    chain_after (move ∷ moves) row stays chain =
        let ne : move.0 ≢ item = λ e. stays.0 (sym e) in (
          chain.0,
          omega (arith, chain.1, length-set slots item slot),
          chain.2,
          chain.3,
          subst (λ (r : ℕ). IsChain (set slots item slot) r moves)
              (ap (λ (s : Slot). s.row) (sym (slot_there move.0 ne)))
              (chain_after moves (row_of_item slots move.0) stays.1 chain.4),
        )

  pub length-moved : (moves : List (ℕ × Slot)) (slots : List Slot) → length (moved slots moves) ≡ length slots
  length-moved [] slots = refl
  length-moved (move ∷ moves) slots = length-moved moves (set slots move.0 move.1) ∙ length-set slots move.0 move.1

  -- after the moves of a chain to a vacant row all are apart, and the row behind the stash is vacant
  pub chain_seats : (moves : List (ℕ × Slot)) (slots : List Slot) (row : ℕ) → AreApart slots → IsVacant slots row
      → IsChain slots row moves → AreApart (moved slots moves) × IsVacant (moved slots moves) (bins + stash)
  chain_seats [] slots row t vacant chain = (t, subst (IsVacant slots) chain vacant)
  chain_seats (move ∷ moves) slots row t vacant chain =
      let free : IsVacant slots move.1.row = subst (IsVacant slots) (sym chain.0) vacant in
      chain_seats moves (set slots move.0 move.1) (row_of_item slots move.0)
      (apart_after slots move.0 move.1 chain.1 t free chain.2)
      (vacant_after slots move.0 move.1 chain.1 t free)
      (chain_after slots move.0 move.1 chain.1 moves (row_of_item slots move.0) chain.3 chain.4)

  -- where an item waits
  abbrev pub behind_stash : Slot
  behind_stash = record { row = bins + stash; index = 0 }

  -- one more item, in the row behind the stash, where that is vacant
  pub apart_push : (slots : List Slot) → AreApart slots → IsVacant slots (bins + stash)
      → AreApart (slots ++ behind_stash ∷ [])
  apart_push slots t vacant = record {
    apart = λ i j l m e. by_cases i j (omega (arith, length_push slots behind_stash))
        (omega (arith, length_push slots behind_stash)) e (cases_eq i (length slots)) (cases_eq j (length slots));
    each = λ i l. ⊎_elim
        (λ same. inr (behind i same))
        (λ ne. subst (λ (s : Slot). MayHave stash bins (get_or candidates i []) s ⊎ (s.row ≡ bins + stash))
        (sym (get_or_append_left slots (behind_stash ∷ []) nowhere i
        (omega (arith, length_push slots behind_stash))))
        (t.each i (omega (arith, length_push slots behind_stash))))
        (cases_eq i (length slots));
  }
    where
      behind : (i : ℕ) → i ≡ length slots → row_of_item (slots ++ behind_stash ∷ []) i ≡ bins + stash
      behind i same = ap (λ (s : Slot). s.row) (get_or_push slots behind_stash nowhere i (sym same))

      before : (i : ℕ) → i < length slots → row_of_item (slots ++ behind_stash ∷ []) i ≡ row_of_item slots i
      before i l = ap (λ (s : Slot). s.row) (get_or_append_left slots (behind_stash ∷ []) nowhere i l)

      by_cases : (i j : ℕ) → i < length slots + 1 → j < length slots + 1
          → row_of_item (slots ++ behind_stash ∷ []) i ≡ row_of_item (slots ++ behind_stash ∷ []) j
          → (i ≡ length slots) ⊎ (i ≢ length slots) → (j ≡ length slots) ⊎ (j ≢ length slots) → i ≡ j
      by_cases i j l m e (inl p) (inl q) = p ∙ sym q
      by_cases i j l m e (inl p) (inr q) =
          let k : j < length slots = omega arith in
          absurd (vacant j k (sym (before j k) ∙ (sym e ∙ behind i p)))
      by_cases i j l m e (inr p) (inl q) =
          let k : i < length slots = omega arith in
          absurd (vacant i k (sym (before i k) ∙ (e ∙ behind j q)))
      by_cases i j l m e (inr p) (inr q) =
          let k : i < length slots = omega arith in
          let n : j < length slots = omega arith in
          t.apart i j k n (sym (before i k) ∙ (e ∙ before j n))
