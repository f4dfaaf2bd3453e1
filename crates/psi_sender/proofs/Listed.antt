-- A list as it is made is the list of its definition.
use Rattle.std.proofs.Common.{◌≡◌, ◌+◌, ◌-◌, ◌<◌, ◌≤◌, ℕ, zero, suc, Bool, true, false, cond, List, [], length, map, take, get_or, nat_lt, slice_index, refl, sym, ap, ap₂, ◌∙◌, subst, All, arith}
use Rattle.std.specs.Simd.Lanes.{zip2}
use Rattle.std.proofs.lemmas.Bool.{ltb-true, ltb-false}
use Rattle.std.proofs.lemmas.List.{length-map}
use Rattle.std.proofs.lemmas.List.Elements.{All-map}
use Rattle.std.proofs.lemmas.Simd.{map-map}
use Rattle.psi_spec.specs.Bits.{xor, both}
use Rattle.psi_spec.specs.Columns.{row_of}
use Rattle.psi_spec.specs.Deals.{SenderDeal}
use Rattle.psi_spec.specs.Formulas.{item_digest, code, bin, padded, padded_tag}
use Rattle.psi_spec.specs.Limits.{bins_for, rows_for}
use Rattle.psi_spec.specs.Rising.{rising}
use Rattle.psi_spec.specs.TagLists.{SenderSide, sent_tag, tag_in_list, tag_list}
use Rattle.psi_spec.proofs.Forming.{lengths_in_list}
use Rattle.psi_spec.proofs.Padding.{padded-sent_tag, map-take-padded, padded_from_sort}
use Rattle.psi_spec.proofs.Placing.{bin-lt}
use Rattle.psi_spec.proofs.Rising.{each-rising, rising_moves, IsSorted-rising}
use Rattle.psi_sender.specs.declared.hashes.Hashes.{Hashes}
use Rattle.psi_oprf.specs.Candidates.{digest_candidates}
use Rattle.psi_sender.specs.Hashed.{AreHashes}
use Rattle.psi_sender.specs.Answering.{AreFor, word_tag, bin_list, made_list}
use Rattle.psi_sender.specs.Running.{side_over}
use Rattle.psi_sender.proofs.Making.{zip2-maps, map_alike}

pick : (key : List ℕ) (bins list : ℕ) (digest : List ℕ) → list < 3 → slice_index (digest_candidates key bins digest) list ≡ bin key bins (list + 1) digest
pick key bins zero digest l = refl
pick key bins (suc zero) digest l = refl
pick key bins (suc (suc zero)) digest l = refl
pick key bins (suc (suc (suc n))) digest l = absurd (omega arith)

module _ (deal : SenderDeal) (count : ℕ) (opened columns : List (List ℕ))
    (rows : (j : ℕ) → j < rows_for deal.stash count → get_or opened j [] ≡ row_of columns j) where
  abbrev side : SenderSide
  side = side_over deal count columns

  one_tag : (index row : ℕ) (y : List ℕ) → row < rows_for deal.stash count
      → word_tag deal opened row (code deal.key index (item_digest y)) ≡ padded deal.tag_length (sent_tag side index row y)
  one_tag index row y l =
      ap (λ (word : List ℕ). padded_tag deal.key deal.tag_length row (xor word (both deal.choice (code deal.key index (item_digest y))))) (rows row l)
      ∙ sym (padded-sent_tag side index row y)

  in_bins : (list : ℕ) (y : List ℕ) → list < 3
      → word_tag deal opened (slice_index (digest_candidates deal.key (bins_for count) (item_digest y)) list) (code deal.key (list + 1) (item_digest y))
      ≡ padded deal.tag_length (sent_tag side (list + 1) (bin deal.key (bins_for count) (list + 1) (item_digest y)) y)
  in_bins list y l =
      let digest = item_digest y in
      let row : ℕ = bin deal.key (bins_for count) (list + 1) digest in
      let within : row < bins_for count = bin-lt deal.key (bins_for count) (list + 1) digest (omega arith) in
      ap (λ (r : ℕ). word_tag deal opened r (code deal.key (list + 1) digest)) (pick deal.key (bins_for count) list digest l)
      ∙ one_tag (list + 1) row y (omega arith)

  made_by_case : (b : Bool) (ys : List (List ℕ)) (list : ℕ) (hashes : Hashes) → nat_lt list 3 ≡ b → list < 3 + deal.stash → AreHashes deal (bins_for count) ys hashes
      → cond b (bin_list deal opened list hashes.bins.items hashes.digests.items) (map (word_tag deal opened (bins_for count + (list - 3))) hashes.codes.items)
      ≡ map (λ y. padded deal.tag_length (cond b (sent_tag side (list + 1) (bin deal.key (bins_for count) (list + 1) (item_digest y)) y) (sent_tag side 0 (bins_for count + (list - 3)) y))) ys
  made_by_case true ys list hashes e l h =
      let low : list < 3 = ltb-true list 3 e in
      let picked : List ℕ → ℕ = λ three. slice_index three list in
      let binned = digest_candidates deal.key (bins_for count) in
      let coded = code deal.key (list + 1) in
      ap₂ (λ (bins digests : List (List ℕ)). bin_list deal opened list bins digests) (h.candidates ∙ ap (map binned) h.digests) h.digests
      ∙ (ap₂ (zip2 (word_tag deal opened)) (ap (map picked) (map-map binned item_digest ys) ∙ map-map picked (λ y. binned (item_digest y)) ys) (map-map coded item_digest ys)
      ∙ (zip2-maps (word_tag deal opened) (λ y. picked (binned (item_digest y))) (λ y. coded (item_digest y)) ys
      ∙ map_alike _ _ ys (λ y. in_bins list y low)))
  made_by_case false ys list hashes e l h =
      let high : 3 ≤ list = ltb-false list 3 e in
      let tagged = word_tag deal opened (bins_for count + (list - 3)) in
      let coded = code deal.key 0 in
      ap (map tagged) (h.codes (omega arith) ∙ (ap (map coded) h.digests ∙ map-map coded item_digest ys))
      ∙ (map-map tagged (λ y. coded (item_digest y)) ys
      ∙ map_alike _ _ ys (λ y. one_tag 0 (bins_for count + (list - 3)) y (omega arith)))

  -- the tags of a list as they are made are those of its definition, padded
  pub made_list_is : (ys : List (List ℕ)) (list : ℕ) (hashes : Hashes) → list < 3 + deal.stash → AreHashes deal (bins_for count) ys hashes
      → made_list deal opened (bins_for count) hashes list ≡ map (λ y. padded deal.tag_length (tag_in_list side list y)) ys
  made_list_is ys list hashes l h = made_by_case (nat_lt list 3) ys list hashes refl l h

  -- and sorted and cut they are the list
  pub sorted_list_is : (ys : List (List ℕ)) (list : ℕ) (hashes : Hashes) → deal.tag_length ≤ 16 → list < 3 + deal.stash → AreHashes deal (bins_for count) ys hashes
      → map (λ tag. take deal.tag_length tag) (rising (made_list deal opened (bins_for count) hashes list)) ≡ tag_list side ys list
  unfolding tag_list
  sorted_list_is ys list hashes short l h =
      let g = deal.tag_length in
      let tags : List (List ℕ) = map (tag_in_list side list) ys in
      let long = lengths_in_list side list ys short in
      ap (λ (made : List (List ℕ)). map (take g) (rising made)) (made_list_is ys list hashes l h ∙ sym (map-map (padded g) (tag_in_list side list) ys))
      ∙ (ap (map (take g)) (padded_from_sort g tags (rising (map (padded g) tags)) long (rising_moves (map (padded g) tags)) (IsSorted-rising (map (padded g) tags)))
      ∙ map-take-padded g (rising tags) (each-rising (λ tag. length tag ≡ g) tags long))

-- ---- what lists are made of serves for each of them

bins_within : (key : List ℕ) (bins n : ℕ) (digest : List ℕ) → 0 < bins → bins ≤ n → All (λ row. row < n) (digest_candidates key bins digest)
bins_within key bins n digest some le zero d l = let h = bin-lt key bins 1 digest some in omega arith
bins_within key bins n digest some le (suc zero) d l = let h = bin-lt key bins 2 digest some in omega arith
bins_within key bins n digest some le (suc (suc zero)) d l = let h = bin-lt key bins 3 digest some in omega arith
bins_within key bins n digest some le (suc (suc (suc k))) d l = absurd (omega arith)

pub hashes_serve : (deal : SenderDeal) (count : ℕ) (ys opened : List (List ℕ)) (hashes : Hashes) (bins list n : ℕ) → AreHashes deal (bins_for count) ys hashes
    → length opened ≡ rows_for deal.stash count → list < 3 + deal.stash → bins ≡ bins_for count → n ≡ length ys → AreFor hashes opened bins list n
hashes_serve deal count ys opened hashes bins list n h rows l same as_many =
    let few : ℕ → Type 0 = λ row. row < length opened in
    let digests : length hashes.digests.items ≡ n = ap length h.digests ∙ (length-map ys item_digest ∙ sym as_many) in
    record {
      digests = λ low. digests;
      candidates = λ low. ap length h.candidates ∙ (length-map hashes.digests.items (digest_candidates deal.key (bins_for count)) ∙ digests);
      within = λ low.
          subst (All (All few)) (sym h.candidates)
          (All-map (All few) (digest_candidates deal.key (bins_for count)) hashes.digests.items
          (λ k d m. bins_within deal.key (bins_for count) (length opened) (get_or hashes.digests.items k d) (omega arith) (omega arith)));
      codes = λ high. ap length (h.codes (omega arith)) ∙ (length-map hashes.digests.items (code deal.key 0) ∙ digests);
      stash = λ high. omega arith;
    }
