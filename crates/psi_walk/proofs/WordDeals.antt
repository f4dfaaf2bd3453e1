-- Deals that words name.
use Rattle.std.proofs.Common.{◌≡◌, ◌≤◌, ◌+◌, ◌||◌, not, nat_le, ℕ, suc, Bool, true, false, cond, List, [], ◌∷◌, length, take, None, refl, sym, ap, ◌∙◌, subst, arith, if◌then◌else◌}
use Rattle.std.specs.List.{after_first, before_first, list_any, position_or_len}
use Rattle.std.proofs.lemmas.Bool.Decides.{nat_tests}
use Rattle.psi_spec.specs.Deals.{ArePair}
use Rattle.psi_spec.specs.Limits.{usual_stash}
use Rattle.psi_spec.proofs.Dealing.{dealt_are_pairs, dealt_receiver_sizes, dealt_sender_sizes}
use Rattle.psi_words.specs.Words.{are_sizes, is_stroke, is_tag_length, number_of, seed_of, stash_of, tag_length_of, word_at}
use Rattle.psi_words.proofs.WordValues.{sizes_parts, stash_parts, tag_length_parts}
use Rattle.psi_deal.specs.BadDeals.{bad_request}
use Rattle.psi_walk.specs.NamedDeals.{receiver_of_words, sender_of_words}

pub named_pair : (words : List (List ℕ)) (at : ℕ) → ArePair (receiver_of_words words at) (sender_of_words words at)
unfolding receiver_of_words sender_of_words
named_pair words at =
    dealt_are_pairs (seed_of (word_at words at)) (number_of (word_at words (at + 1))) (tag_length_of (word_at words (at + 2))) (stash_of (word_at words (at + 2)))

pub named_seeds : (words : List (List ℕ)) (at : ℕ) → length (receiver_of_words words at).seeds ≡ 512
unfolding receiver_of_words
named_seeds words at =
    (dealt_receiver_sizes (seed_of (word_at words at)) (number_of (word_at words (at + 1))) (tag_length_of (word_at words (at + 2))) (stash_of (word_at words (at + 2)))).count

pub named_choice : (words : List (List ℕ)) (at : ℕ) → length (sender_of_words words at).choice ≡ 64
unfolding sender_of_words
named_choice words at =
    (dealt_sender_sizes (seed_of (word_at words at)) (number_of (word_at words (at + 1))) (tag_length_of (word_at words (at + 2))) (stash_of (word_at words (at + 2)))).choice

-- ---- the sizes

-- a list without a mark is all before the first one
all_before : (p : ℕ → Bool) (xs : List ℕ) → list_any p xs ≡ false → before_first p xs ≡ xs
all_before p [] e = refl
all_before p (x ∷ xs) e = by_test (p x) e (all_before p xs)
  where
    by_test : (b : Bool) → (b || list_any p xs) ≡ false → (list_any p xs ≡ false → before_first p xs ≡ xs)
        → take (cond (not b) (1 + position_or_len p xs) 0) (x ∷ xs) ≡ x ∷ xs
    by_test true e h = cc e
    by_test false e h =
        let next : 1 + position_or_len p xs ≡ suc (position_or_len p xs) = omega arith in
        ap (λ (n : ℕ). take n (x ∷ xs)) next ∙ ap (λ (ys : List ℕ). x ∷ ys) (h e)

fits : (tag_length stash : ℕ) → 1 ≤ tag_length → tag_length ≤ 16 → stash ≤ 16 → bad_request tag_length stash ≡ None
fits tag_length stash low high few =
    let above : nat_le 1 tag_length ≡ true = grind (arith, nat_tests) in
    let within : nat_le tag_length 16 ≡ true = grind (arith, nat_tests) in
    let rows : nat_le stash 16 ≡ true = grind (arith, nat_tests) in
    rw (above, within, rows) refl

-- sizes in form are those that deals can have
pub sizes_fit : (word : List ℕ) → are_sizes word ≡ true → bad_request (tag_length_of word) (stash_of word) ≡ None
unfolding tag_length_of stash_of
sizes_fit word form = by_stroke (list_any is_stroke word) refl
  where
    by_stroke : (b : Bool) → list_any is_stroke word ≡ b
        → bad_request (number_of (before_first is_stroke word)) (if b then number_of (after_first is_stroke word) else usual_stash) ≡ None
    by_stroke true stroke =
        let parts = sizes_parts word form stroke in
        let tag = tag_length_parts (before_first is_stroke word) parts.0 in
        let rows = stash_parts (after_first is_stroke word) parts.1 in
        fits (number_of (before_first is_stroke word)) (number_of (after_first is_stroke word)) tag.1 tag.2 rows.1
    by_stroke false stroke =
        let alone : is_tag_length word ≡ true = rw stroke at form in
        let tag = tag_length_parts word alone in
        subst (λ (w : List ℕ). bad_request (number_of w) usual_stash ≡ None) (sym (all_before is_stroke word stroke))
        (fits (number_of word) usual_stash tag.1 tag.2 (omega arith))
