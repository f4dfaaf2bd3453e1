-- The items that are shown by the marks of all frames are those that are hit in the sender's lists.
use Rattle.std.proofs.Common.{◌≡◌, ◌<◌, ◌≤◌, ◌+◌, ◌*◌, ◌/◌, ℕ, suc, zero, Bool, false, cond, List, [], ◌∷◌, ◌++◌, length, map, take, drop, get_or, Some, option_map, refl, sym, ap, ap₂, subst, ◌∙◌, arith, append_assoc}
use Rattle.std.specs.List.{AllByRecursion, All, concat, list_any, slice_get}
use Rattle.std.specs.Str.{bytes_eq}
use Rattle.std.proofs.lemmas.Bool.{eq-eqb, ne_eqb}
use Rattle.std.proofs.lemmas.Bool.Decides.{nat_tests}
use Rattle.std.proofs.lemmas.List.{append-nil, ext_get_or, get_or-map, length-drop, length-map, map-append, take-append-drop}
use Rattle.std.proofs.lemmas.List.Elements.{recursion_from_All}
use Rattle.std.proofs.lemmas.Nat.{div-mul-add}
use Rattle.std.proofs.lemmas.Option.{slice_get-get_or, slice_get-map}
use Rattle.psi_spec.specs.Deals.{IsReceiverDeal, ReceiverDeal}
use Rattle.psi_spec.specs.Formulas.{padded}
use Rattle.psi_spec.specs.Frames.{Frame, sender_hello, tags_of}
use Rattle.psi_spec.specs.Hits.{is_hit, list_of_slot}
use Rattle.psi_spec.specs.Limits.{bins_for, rows_for}
use Rattle.psi_spec.specs.Meeting.{Placed}
use Rattle.psi_spec.specs.Placement.{Slot}
use Rattle.psi_spec.specs.Streams.{blocks_for}
use Rattle.psi_spec.specs.TagLists.{IsTagList}
use Rattle.psi_spec.proofs.Padding.{is_hit_by_padded_tags}
use Rattle.psi_spec.proofs.StreamSizes.{length-joined}
use Rattle.psi_spec.proofs.StreamSteps.{tags_of-concat}
use Rattle.psi_receiver.specs.Marking.{padded_tags, tags_in}
use Rattle.psi_receiver.specs.Own.{AreMarked, AreShownBy, IsShownBy, Marked, in_list, own_tag_of}
use Rattle.psi_receiver.specs.Receiving.{finder, hits_of}
use Rattle.psi_receiver.proofs.Awaited.{all-drop, all-take, block_list, lists_list}

-- ---- the tags of a list, over its frames

-- the joined tags of a block are read again
pub block_read : (g : ℕ) (tags : List (List ℕ)) → 1 ≤ g → AllByRecursion (λ tag. length tag ≡ g) tags
    → tags_of (tags_in g (concat tags)) g (concat tags) ≡ tags
block_read g tags some all =
    let exact : length tags * g ≡ length tags * g + 0 = omega arith in
    let many : tags_in g (concat tags) ≡ length tags =
    ap (λ (n : ℕ). n / g) (length-joined g tags all ∙ exact) ∙ div-mul-add (length tags) g 0 (omega arith) in
    ap (λ (n : ℕ). tags_of n g (concat tags)) many ∙ tags_of-concat g tags all

-- `of` makes of the joined tags of a block what `each` makes of them one by one
abbrev pub MakesEach : {A : Type 0} → ℕ → (List ℕ → List A) → (List ℕ → A) → Type 0
MakesEach g of each =
    (tags : List (List ℕ)) → AllByRecursion (λ tag. length tag ≡ g) tags → of (concat tags) ≡ map each tags

module _ {A : Type 0} (of : List ℕ → List A) where
  -- the blocks of another list have nothing of a list
  others_not_in : (l list block left : ℕ) (tags : List (List ℕ)) (frames : List Frame) → (list ≡ l → ⊥)
      → in_list of l (block_list list block left tags ++ frames) ≡ in_list of l frames
  others_not_in l list block zero tags frames other = refl
  others_not_in l list block (suc left) tags frames other =
      ap (λ (b : Bool). cond b (of (concat (take 1024 tags))) [] ++ in_list of l (block_list list (block + 1) left (drop 1024 tags) ++ frames)) (ne_eqb list l other)
      ∙ others_not_in l list (block + 1) left (drop 1024 tags) frames other

  -- lists from a number on have nothing of a list before it
  later_not_in : (l list : ℕ) (lists : List (List (List ℕ))) → l < list → in_list of l (lists_list list lists) ≡ []
  later_not_in l list [] low = refl
  later_not_in l list (tags ∷ lists) low =
      others_not_in l list 0 (blocks_for (length tags)) tags (lists_list (list + 1) lists) (λ e. omega arith)
      ∙ later_not_in l (list + 1) lists (omega arith)

  module _ (g : ℕ) (each : List ℕ → A) (makes : MakesEach g of each) where
    -- the blocks of a list have its tags
    blocks_in : (l list block left : ℕ) (tags : List (List ℕ)) (frames : List Frame) → list ≡ l → length tags ≤ 1024 * left
        → AllByRecursion (λ tag. length tag ≡ g) tags
        → in_list of l (block_list list block left tags ++ frames) ≡ map each tags ++ in_list of l frames
    blocks_in l list block zero [] frames same few all = refl
    blocks_in l list block zero (tag ∷ tags) frames same few all = absurd (omega arith)
    blocks_in l list block (suc left) tags frames same few all =
        let front : List (List ℕ) = take 1024 tags in
        let back : List (List ℕ) = drop 1024 tags in
        let later : List Frame = block_list list (block + 1) left back ++ frames in
        let rest : List A = in_list of l frames in
        ap (λ (b : Bool). cond b (of (concat front)) [] ++ in_list of l later) (eq-eqb list l same)
        ∙ ap₂ (λ (a b : List A). a ++ b)
        (makes front (all-take (λ tag. length tag ≡ g) 1024 tags all))
        (blocks_in l list (block + 1) left back frames same (omega (arith, length-drop 1024 tags))
        (all-drop (λ tag. length tag ≡ g) 1024 tags all))
        ∙ sym (append_assoc (map each front) (map each back) rest)
        ∙ ap (λ (ts : List A). ts ++ rest)
        (sym (map-append each front back) ∙ ap (map each) (take-append-drop 1024 tags))

    -- the frames of lists have the tags of each
    pub lists_in : (l list k count : ℕ) (lists : List (List (List ℕ))) → list + k ≡ l
        → AllByRecursion (IsTagList g count) lists → in_list of l (lists_list list lists) ≡ map each (get_or lists k [])
    lists_in l list k count [] at are = refl
    lists_in l list zero count (tags ∷ lists) at are =
        let is : IsTagList g count tags = are.0 in
        blocks_in l list 0 (blocks_for (length tags)) tags (lists_list (list + 1) lists) (omega arith) (omega arith)
        (recursion_from_All (λ tag. length tag ≡ g) tags is.lengths)
        ∙ ap (λ (ts : List A). map each tags ++ ts) (later_not_in l (list + 1) lists (omega arith))
        ∙ append-nil (map each tags)
    lists_in l list (suc k) count (tags ∷ lists) at are =
        others_not_in l list 0 (blocks_for (length tags)) tags (lists_list (list + 1) lists) (λ e. omega arith)
        ∙ lists_in l (list + 1) k count lists (omega arith) are.1

-- ---- what is shown

pub some_width : (deal : ReceiverDeal) → IsReceiverDeal deal → 1 ≤ deal.tag_length
some_width deal is = let fits = is.tag_length in grind (arith, nat_tests)

-- the items that are shown by the marks of a stream's frames are those that are hit in its lists
pub shown_are_hits : (deal : ReceiverDeal) (placed : List Placed) (count : ℕ) (lists : List (List (List ℕ))) (marks : List Marked) (shown : List Bool)
    → IsReceiverDeal deal
    → ((i : ℕ) (slot : Slot) → slice_get (map (λ p. p.slot) placed) i ≡ Some slot
    → list_of_slot (bins_for (length placed)) slot < 3 + deal.stash)
    → All (IsTagList deal.tag_length count) lists
    → AreMarked deal.tag_length (sender_hello deal.id deal.session count ∷ lists_list 0 lists) marks
    → length marks ≡ 3 + deal.stash → AreShownBy deal (map (λ p. p.slot) placed) marks shown → length shown ≡ length placed
    → shown ≡ hits_of deal placed lists
unfolding hits_of
shown_are_hits deal placed count lists marks shown is within each marked many by_marks size =
    ext_get_or false shown (map hit placed) (size ∙ sym (length-map placed hit)) at
  where
    hit : Placed → Bool
    hit = is_hit (finder deal placed) lists

    at : (i : ℕ) → i < length shown → get_or shown i false ≡ get_or (map hit placed) i false
    at i l =
        let nothing : Placed = record { item = []; slot = record { row = 0; index = 0 } } in
        let g : ℕ = deal.tag_length in
        let inside : i < length placed = omega (arith, size) in
        let slots : List Slot = map (λ p. p.slot) placed in
        let long : length slots ≡ length placed = length-map placed (λ p. p.slot) in
        let p : Placed = get_or placed i nothing in
        let slot_at : slice_get slots i ≡ Some p.slot =
        slice_get-map (λ p. p.slot) placed i ∙ ap (option_map (λ p. p.slot)) (slice_get-get_or placed i nothing inside) in
        let list : ℕ = list_of_slot (bins_for (length placed)) p.slot in
        let low : list < 3 + deal.stash = within i p.slot slot_at in
        let m : Marked = get_or marks list (record { tags = []; hits = [] }) in
        let m_at : slice_get marks list ≡ Some m = slice_get-get_or marks list (record { tags = []; hits = [] }) (omega (arith, low, many)) in
        let own : List ℕ = own_tag_of deal (rows_for deal.stash (length placed)) p.slot in
        let by : IsShownBy m own (get_or shown i false) =
        subst (λ (n : ℕ). IsShownBy m (own_tag_of deal (rows_for deal.stash n) p.slot) (get_or shown i false)) long
        (by_marks i p.slot m slot_at (ap (λ (n : ℕ). slice_get marks (list_of_slot (bins_for n) p.slot)) long ∙ m_at)) in
        by.as_marked
        ∙ marked list m m_at by.place by.within
        ∙ ap₂ (λ (ts : List (List ℕ)) (x : List ℕ). list_any (bytes_eq x) ts)
        (lists_in (padded_tags g) g (padded g) (λ tags all. ap (map (padded g)) (block_read g tags (some_width deal is) all)) list 0 list count lists (omega arith)
        (recursion_from_All (IsTagList g count) lists each)) by.same
        ∙ sym (is_hit_by_padded_tags (finder deal placed) lists p)
        ∙ sym (get_or-map hit placed i nothing false inside)
