-- Worked examples of the picked placement.
use Rattle.std.proofs.Common.{◌≡◌, ℕ, [], ◌∷◌, None, Some, replicate, refl}
use Rattle.psi_spec.specs.Placement.{Slot}
use Rattle.psi_spec.specs.Picking.{picked, room_for, walk, with_next}

slot : ℕ → ℕ → Slot
slot row index = record { row = row; index = index }

-- one item is in the bin that all name, and the stash is filled from its first row on
five_items : picked 4 8 (replicate 5 (0 ∷ 0 ∷ 0 ∷ [])) ≡ Some (slot 0 1 ∷ slot 8 0 ∷ slot 9 0 ∷ slot 10 0 ∷ slot 11 0 ∷ [])
unfolding picked with_next room_for walk slot
five_items = refl

-- a sixth has no row
six_items : picked 4 8 (replicate 6 (0 ∷ 0 ∷ 0 ∷ [])) ≡ None
unfolding picked with_next room_for walk
six_items = refl

-- the first item makes room for the second, and no row of the stash is taken
stash_stays_free : picked 4 2 ((0 ∷ 1 ∷ 1 ∷ []) ∷ (0 ∷ 0 ∷ 0 ∷ []) ∷ []) ≡ Some (slot 1 2 ∷ slot 0 1 ∷ [])
unfolding picked with_next room_for walk slot
stash_stays_free = refl

-- the third item has a path of three moves: the first item goes to the bin 2, the second to the bin 1, and the third to
-- the bin 0; all others are in the stash
a_path : picked 4 3 ((1 ∷ 2 ∷ 2 ∷ []) ∷ (0 ∷ 1 ∷ 1 ∷ []) ∷ replicate 5 (0 ∷ 0 ∷ 0 ∷ [])) ≡ Some (slot 2 2 ∷ slot 1 2 ∷ slot 0 1 ∷ slot 3 0 ∷ slot 4 0 ∷ slot 5 0 ∷ slot 6 0 ∷ [])
unfolding picked with_next room_for walk slot
a_path = refl

-- of two items that could make room, the one of the first candidate does
first_of_two : picked 4 4 ((0 ∷ 2 ∷ 2 ∷ []) ∷ (1 ∷ 3 ∷ 3 ∷ []) ∷ (1 ∷ 0 ∷ 0 ∷ []) ∷ []) ≡ Some (slot 0 1 ∷ slot 3 2 ∷ slot 1 1 ∷ [])
unfolding picked with_next room_for walk slot
first_of_two = refl
