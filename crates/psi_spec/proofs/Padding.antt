-- Sorting and finding tags that are padded with zeros: the tags sorted and found.
use Rattle.std.proofs.Common.{◌≡◌, ◌-◌, ◌≤◌, ℕ, Bool, true, false, cond, List, [], ◌∷◌, ◌++◌, length, map, take, get_or, replicate, nat_cmp, is_lt, Ordering, IsPermutation, IsSorted, refl, sym, ap, ap₂, ◌∙◌, subst, arith}
use Rattle.std.specs.List.{AllByRecursion, list_any}
use Rattle.std.specs.Ordering.{ordering_then}
use Rattle.std.specs.Str.{bytes_eq}
use Rattle.std.specs.Cmp.Lexicographic.{slice_cmp}
use Rattle.std.proofs.lemmas.Cmp.{nat_list_cmp_total, tied_itself}
use Rattle.std.proofs.lemmas.List.{take-append-le, take_all}
use Rattle.std.proofs.lemmas.Simd.{map-map}
use Rattle.psi_spec.specs.Bits.{xor, both}
use Rattle.psi_spec.specs.Formulas.{item_digest, code, tag, padded, padded_tag}
use Rattle.psi_spec.specs.Columns.{row_of}
use Rattle.psi_spec.specs.Meeting.{Placed}
use Rattle.psi_spec.specs.Frames.{is_below}
use Rattle.psi_spec.specs.Rising.{with_one, rising}
use Rattle.psi_spec.specs.TagLists.{SenderSide, sent_tag, tag_in_list, tag_list}
use Rattle.psi_spec.specs.Hits.{ReceiverSide, list_of_slot, looked_up, is_hit}
use Rattle.psi_spec.proofs.Tags.{bytes_eq-append_right}
use Rattle.psi_spec.proofs.Lists.{list_any-map, list_any_agree}
use Rattle.psi_spec.proofs.Rising.{rising_from_sort, each-rising}
use Rattle.psi_spec.proofs.Forming.{lengths_in_list}

-- ---- byte strings of one length with one end

module _ (end : List ℕ) (g : ℕ) where
  abbrev with_end : List (List ℕ) → List (List ℕ)
  with_end xs = map (λ x. x ++ end) xs

  abbrev Have : List (List ℕ) → Type 0
  Have xs = AllByRecursion (λ x. length x ≡ g) xs

  cmp-end : (x y : List ℕ) → length x ≡ length y → slice_cmp nat_cmp (x ++ end) (y ++ end) ≡ slice_cmp nat_cmp x y
  cmp-end [] [] l = tied_itself nat_list_cmp_total end
  cmp-end [] (b ∷ y) l = absurd (omega arith)
  cmp-end (a ∷ x) [] l = absurd (omega arith)
  cmp-end (a ∷ x) (b ∷ y) l = ap (ordering_then (nat_cmp a b)) (cmp-end x y (omega arith))

  with_one-end : (x : List ℕ) (ys : List (List ℕ)) → length x ≡ g → Have ys
      → with_one (x ++ end) (with_end ys) ≡ with_end (with_one x ys)
  with_one-end x [] l all = refl
  with_one-end x (y ∷ ys) l all =
      let later : List (List ℕ) = (y ++ end) ∷ with_one (x ++ end) (with_end ys) in
      let here : List (List ℕ) = (x ++ end) ∷ (y ++ end) ∷ with_end ys in
      ap (λ (o : Ordering). cond (is_lt o) later here) (cmp-end y x (all.0 ∙ sym l))
      ∙ by_case (is_below y x) (with_one-end x ys l all.1)
    where
      by_case : (b : Bool) → with_one (x ++ end) (with_end ys) ≡ with_end (with_one x ys)
          → cond b ((y ++ end) ∷ with_one (x ++ end) (with_end ys)) ((x ++ end) ∷ (y ++ end) ∷ with_end ys)
          ≡ with_end (cond b (y ∷ with_one x ys) (x ∷ y ∷ ys))
      by_case true rest = ap (λ (zs : List (List ℕ)). (y ++ end) ∷ zs) rest
      by_case false rest = refl

  -- one end for all does not count in the order
  rising-end : (xs : List (List ℕ)) → Have xs → rising (with_end xs) ≡ with_end (rising xs)
  unfolding rising
  rising-end [] all = refl
  rising-end (x ∷ xs) all =
      ap (with_one (x ++ end)) (rising-end xs all.1)
      ∙ with_one-end x (rising xs) all.0 (each-rising (λ y. length y ≡ g) xs all.1)

-- ---- padded tags

-- what a sort leaves of padded tags is the tags in rising order, padded
pub padded_from_sort : (g : ℕ) (tags sorted : List (List ℕ)) → AllByRecursion (λ tag. length tag ≡ g) tags
    → IsPermutation (map (padded g) tags) sorted → IsSorted (slice_cmp nat_cmp) sorted
    → sorted ≡ map (padded g) (rising tags)
padded_from_sort g tags sorted all moved up =
    rising_from_sort (map (padded g) tags) sorted moved up ∙ rising-end (replicate (16 - g) 0) g tags all

-- to find a padded tag among padded tags is to find the tag
pub list_any-padded : (g : ℕ) (tag : List ℕ) (tags : List (List ℕ))
    → list_any (bytes_eq (padded g tag)) (map (padded g) tags) ≡ list_any (bytes_eq tag) tags
list_any-padded g tag tags =
    list_any-map (bytes_eq (padded g tag)) (padded g) tags
    ∙ list_any_agree (λ y. bytes_eq (padded g tag) (padded g y)) (bytes_eq tag) tags
    (λ y. bytes_eq-append_right tag y (replicate (16 - g) 0))

-- padded tags are cut again
pub take-padded : (g : ℕ) (tag : List ℕ) → length tag ≡ g → take g (padded g tag) ≡ tag
take-padded g tag l =
    take-append-le g tag (replicate (16 - g) 0) (omega (arith, l)) ∙ take_all g tag (omega (arith, l))

pub map-take-padded : (g : ℕ) (tags : List (List ℕ)) → AllByRecursion (λ tag. length tag ≡ g) tags
    → map (take g) (map (padded g) tags) ≡ tags
map-take-padded g [] all = refl
map-take-padded g (tag ∷ tags) all =
    ap₂ (λ (x : List ℕ) (xs : List (List ℕ)). x ∷ xs) (take-padded g tag all.0) (map-take-padded g tags all.1)

-- ---- lists of tags

-- what a sort leaves of the padded tags of a list
pub tag_list_from_sort : (s : SenderSide) (ys : List (List ℕ)) (list : ℕ) (sorted : List (List ℕ))
    → s.tag_length ≤ 16 → IsPermutation (map (λ y. padded s.tag_length (tag_in_list s list y)) ys) sorted
    → IsSorted (slice_cmp nat_cmp) sorted → sorted ≡ map (padded s.tag_length) (tag_list s ys list)
unfolding tag_list
tag_list_from_sort s ys list sorted l moved up =
    let fused = map-map (padded s.tag_length) (tag_in_list s list) ys in
    padded_from_sort s.tag_length (map (tag_in_list s list) ys) sorted (lengths_in_list s list ys l)
    (subst (λ (tags : List (List ℕ)). IsPermutation tags sorted) (sym fused) moved) up

-- the tag of an item, padded
pub padded-sent_tag : (s : SenderSide) (index row : ℕ) (y : List ℕ)
    → padded s.tag_length (sent_tag s index row y)
    ≡ padded_tag s.key s.tag_length row (xor (s.opened row) (both s.choice (code s.key index (item_digest y))))
unfolding sent_tag padded_tag
padded-sent_tag s index row y = refl

-- a hit, by padded tags
pub is_hit_by_padded_tags : (r : ReceiverSide) (lists : List (List (List ℕ))) (p : Placed)
    → is_hit r lists p
    ≡ list_any (bytes_eq (padded_tag r.key r.tag_length p.slot.row (row_of r.columns p.slot.row)))
    (map (padded r.tag_length) (get_or lists (list_of_slot r.bins p.slot) []))
unfolding is_hit padded_tag
is_hit_by_padded_tags r lists p =
    sym (list_any-padded r.tag_length (looked_up r p.slot.row) (get_or lists (list_of_slot r.bins p.slot) []))
