-- The sizes of dealt pairs, and the setup that they make.
use Rattle.std.proofs.Common.{◌≡◌, ◌+◌, ◌*◌, ◌^◌, ◌<◌, ◌≤◌, ℕ, Bool, true, false, suc, zero, cond, All, List, [], ◌∷◌, ◌++◌, length, map, take, drop, nat_eq, get_or, slice_get, Some, refl, sym, ap, ◌∙◌, subst, arith}
use Rattle.std.specs.List.{AllByRecursion}
use Rattle.std.proofs.lemmas.List.{length-drop, length-map, length-take-le, drop-drop, get_or-map}
use Rattle.std.proofs.lemmas.Option.{get_or_from_slice_get}
use Rattle.std.proofs.lemmas.List.Elements.{All-from_recursion}
use Rattle.std.proofs.lemmas.Slice.Zip.{AllZip-long}
use Rattle.psi_spec.specs.Limits.{bins_for, rows_for}
use Rattle.psi_spec.specs.Bits.{bit_of}
use Rattle.psi_spec.specs.Columns.{key_stream, column, row_of}
use Rattle.psi_spec.specs.Deals.{SeedPair, ReceiverDeal, SenderDeal, HasSeeds, chosen_seed, IsReceiverDeal, IsSenderDeal, fits_tag_length, fits_stash, seed_pairs, chosen_from, deal_bytes, dealt_receiver, dealt_sender, zero_columns, one_columns}
use Rattle.psi_spec.specs.Placement.{Slot, MayHave, IsPlacementOf, candidates_of, stash_slots}
use Rattle.psi_spec.specs.Meeting.{IsSetup, placed_of, setup_of}
use Rattle.psi_spec.specs.Laws.{DealtArePairs, DealsShowCommon, StashShowsCommon}
use Rattle.psi_spec.proofs.KeyStream.{length-key_stream, bit_of-column}
use Rattle.psi_spec.proofs.Packing.{bit_of-row_of, row_of_agree}
use Rattle.psi_spec.proofs.Meeting.{shows_common}
use Rattle.psi_spec.proofs.Placing.{items_of-placed_of, slots_of-placed_of, stash_slots_placement}

-- ---- seeds

pub length-seed_pairs : (n : ℕ) (bytes : List ℕ) → length (seed_pairs n bytes) ≡ n
unfolding seed_pairs
length-seed_pairs zero bytes = refl
length-seed_pairs (suc n) bytes = ap suc (length-seed_pairs n (drop 64 bytes))

-- the pair whose seeds begin at a place
abbrev pub pair_from : List ℕ → ℕ → SeedPair
pair_from bytes place = record { zero = take 32 (drop place bytes); one = take 32 (drop (place + 32) bytes) }

pair_from-drop : (bytes : List ℕ) (n place : ℕ) → pair_from (drop n bytes) place ≡ pair_from bytes (n + place)
pair_from-drop bytes n place =
    let zero_seed : List ℕ = take 32 (drop place (drop n bytes)) in
    let first : drop place (drop n bytes) ≡ drop (n + place) bytes = drop-drop place n bytes in
    let second : drop (place + 32) (drop n bytes) ≡ drop (n + place + 32) bytes = let e : n + (place + 32) ≡ n + place + 32 = omega arith in drop-drop (place + 32) n bytes ∙ ap (λ (k : ℕ). drop k bytes) e in
    let left : take 32 (drop place (drop n bytes)) ≡ take 32 (drop (n + place) bytes) = ap (take 32) first in
    let right : take 32 (drop (place + 32) (drop n bytes)) ≡ take 32 (drop (n + place + 32) bytes) = ap (take 32) second in
    cc

-- pair c has the 64 bytes from 64 * c on
pub slice_get-seed_pairs : (n : ℕ) (bytes : List ℕ) (c : ℕ) → c < n → slice_get (seed_pairs n bytes) c ≡ Some (pair_from bytes (64 * c))
unfolding seed_pairs
slice_get-seed_pairs zero bytes c l = absurd (omega arith)
slice_get-seed_pairs (suc n) bytes zero l = refl
slice_get-seed_pairs (suc n) bytes (suc c) l =
    let place : 64 + 64 * c ≡ 64 * suc c = omega arith in
    slice_get-seed_pairs n (drop 64 bytes) c (omega arith) ∙ ap Some (pair_from-drop bytes 64 (64 * c) ∙ ap (pair_from bytes) place)

pub get_or-seed_pairs : (n : ℕ) (bytes : List ℕ) (c : ℕ) (d : SeedPair) → c < n → get_or (seed_pairs n bytes) c d ≡ pair_from bytes (64 * c)
get_or-seed_pairs n bytes c d l = get_or_from_slice_get (seed_pairs n bytes) c (pair_from bytes (64 * c)) d (slice_get-seed_pairs n bytes c l)

-- one more pair, as at a step of a loop
pub seed_pairs-more : (n : ℕ) (bytes : List ℕ) → seed_pairs (n + 1) bytes ≡ seed_pairs n bytes ++ pair_from bytes (64 * n) ∷ []
unfolding seed_pairs
seed_pairs-more zero bytes = refl
seed_pairs-more (suc n) bytes =
    let count : suc n + 1 ≡ suc (n + 1) = omega arith in
    let place : 64 + 64 * n ≡ 64 * suc n = omega arith in
    ap (λ (k : ℕ). seed_pairs k bytes) count
    ∙ (ap (λ (rest : List SeedPair). pair_from bytes 0 ∷ rest) (seed_pairs-more n (drop 64 bytes))
    ∙ ap (λ (pair : SeedPair). pair_from bytes 0 ∷ seed_pairs n (drop 64 bytes) ++ pair ∷ []) (pair_from-drop bytes 64 (64 * n) ∙ ap (pair_from bytes) place))

pub each_has_seeds : (n : ℕ) (bytes : List ℕ) → 64 * n ≤ length bytes → AllByRecursion HasSeeds (seed_pairs n bytes)
unfolding seed_pairs
each_has_seeds zero bytes l = tt
each_has_seeds (suc n) bytes l =
    ((length-take-le 32 bytes (omega arith), length-take-le 32 (drop 32 bytes) (omega (arith, length-drop 32 bytes))), each_has_seeds n (drop 64 bytes) (omega (arith, length-drop 64 bytes)))

pub seed_pairs_have_seeds : (n : ℕ) (bytes : List ℕ) → 64 * n ≤ length bytes → All HasSeeds (seed_pairs n bytes)
seed_pairs_have_seeds n bytes l = All-from_recursion HasSeeds (seed_pairs n bytes) (each_has_seeds n bytes l)

pub length-chosen_from : (choice : List ℕ) (c : ℕ) (pairs : List SeedPair) → length (chosen_from choice c pairs) ≡ length pairs
length-chosen_from choice c [] = refl
length-chosen_from choice c (pair ∷ pairs) = ap suc (length-chosen_from choice (c + 1) pairs)

pub get_or-chosen_from : (choice : List ℕ) (c : ℕ) (pairs : List SeedPair) (i : ℕ) (seed : List ℕ) (pair : SeedPair) → i < length pairs → get_or (chosen_from choice c pairs) i seed ≡ chosen_seed (bit_of choice (c + i)) (get_or pairs i pair)
get_or-chosen_from choice c [] i seed pair l = absurd (omega arith)
get_or-chosen_from choice c (first ∷ pairs) zero seed pair l = let place : c ≡ c + 0 = omega arith in ap (λ (k : ℕ). chosen_seed (bit_of choice k) first) place
get_or-chosen_from choice c (first ∷ pairs) (suc i) seed pair l =
    let place : c + 1 + i ≡ c + suc i = omega arith in
    get_or-chosen_from choice (c + 1) pairs i seed pair (omega arith) ∙ ap (λ (k : ℕ). chosen_seed (bit_of choice k) (get_or pairs i pair)) place

-- one more chosen seed, as at a step of a loop
pub chosen_from-push : (choice : List ℕ) (c : ℕ) (pairs : List SeedPair) (pair : SeedPair) → chosen_from choice c (pairs ++ pair ∷ []) ≡ chosen_from choice c pairs ++ chosen_seed (bit_of choice (c + length pairs)) pair ∷ []
chosen_from-push choice c [] pair = let place : c ≡ c + 0 = omega arith in ap (λ (k : ℕ). chosen_seed (bit_of choice k) pair ∷ []) place
chosen_from-push choice c (first ∷ pairs) pair =
    let place : c + 1 + length pairs ≡ c + suc (length pairs) = omega arith in
    ap (λ (rest : List (List ℕ)). chosen_seed (bit_of choice c) first ∷ rest) (chosen_from-push choice (c + 1) pairs pair)
    ∙ ap (λ (k : ℕ). chosen_seed (bit_of choice c) first ∷ chosen_from choice (c + 1) pairs ++ chosen_seed (bit_of choice k) pair ∷ []) place

-- ---- the dealt pair

pub length-deal_bytes : (seed : List ℕ) → length (deal_bytes seed) ≡ 32864
length-deal_bytes seed = length-key_stream seed 0 32864

-- what a dealt receiver holds has its sizes
pub record IsDealtReceiver (deal : ReceiverDeal) : Type 0 where
  pub id : length deal.id ≡ 16
  pub key : length deal.key ≡ 16
  pub count : length deal.seeds ≡ 512
  pub seeds : All HasSeeds deal.seeds

-- what a dealt sender holds has its sizes
pub record IsDealtSender (deal : SenderDeal) : Type 0 where
  pub id : length deal.id ≡ 16
  pub key : length deal.key ≡ 16
  pub choice : length deal.choice ≡ 64
  pub count : length deal.chosen ≡ 512

length_front : (seed : List ℕ) (at size : ℕ) → at + size ≤ 32864 → length (take size (drop at (deal_bytes seed))) ≡ size
length_front seed at size l = length-take-le size (drop at (deal_bytes seed)) (omega (arith, length-drop at (deal_bytes seed), length-deal_bytes seed))

pub dealt_receiver_sizes : (seed : List ℕ) (session tag_length stash : ℕ) → IsDealtReceiver (dealt_receiver seed session tag_length stash)
unfolding dealt_receiver
dealt_receiver_sizes seed session tag_length stash = record {
  id = length_front seed 0 16 (omega arith);
  key = length_front seed 16 16 (omega arith);
  count = length-seed_pairs 512 (drop 96 (deal_bytes seed));
  seeds = seed_pairs_have_seeds 512 (drop 96 (deal_bytes seed)) (omega (arith, length-drop 96 (deal_bytes seed), length-deal_bytes seed));
}

pub dealt_sender_sizes : (seed : List ℕ) (session tag_length stash : ℕ) → IsDealtSender (dealt_sender seed session tag_length stash)
unfolding dealt_sender
dealt_sender_sizes seed session tag_length stash = record {
  id = length_front seed 0 16 (omega arith);
  key = length_front seed 16 16 (omega arith);
  choice = length_front seed 32 64 (omega arith);
  count = length-chosen_from (take 64 (drop 32 (deal_bytes seed))) 0 (seed_pairs 512 (drop 96 (deal_bytes seed))) ∙ length-seed_pairs 512 (drop 96 (deal_bytes seed));
}

-- with a session, a tag length and stash rows in range, both halves are deals
pub dealt_receiver_is : (seed : List ℕ) (session tag_length stash : ℕ) → session < 2 ^ 64 → fits_tag_length tag_length ≡ true → fits_stash stash ≡ true → IsReceiverDeal (dealt_receiver seed session tag_length stash)
unfolding dealt_receiver
dealt_receiver_is seed session tag_length stash l g s =
    let sizes = dealt_receiver_sizes seed session tag_length stash in
    record { id = sizes.id; session = l; key = sizes.key; tag_length = g; stash = s; count = sizes.count; seeds = sizes.seeds }

chosen_seeds_long : (choice : List ℕ) (c : ℕ) (pairs : List SeedPair) → AllByRecursion HasSeeds pairs → AllByRecursion (λ seed. length seed ≡ 32) (chosen_from choice c pairs)
chosen_seeds_long choice c [] h = tt
chosen_seeds_long choice c (pair ∷ pairs) h = (by_case (nat_eq (bit_of choice c) 0), chosen_seeds_long choice (c + 1) pairs h.1)
  where
    by_case : (b : Bool) → length (cond b pair.zero pair.one) ≡ 32
    by_case true = h.0.0
    by_case false = h.0.1

pub dealt_sender_is : (seed : List ℕ) (session tag_length stash : ℕ) → session < 2 ^ 64 → fits_tag_length tag_length ≡ true → fits_stash stash ≡ true → IsSenderDeal (dealt_sender seed session tag_length stash)
unfolding dealt_sender
dealt_sender_is seed session tag_length stash l g s =
    let sizes = dealt_sender_sizes seed session tag_length stash in
    let choice : List ℕ = take 64 (drop 32 (deal_bytes seed)) in
    let bytes : List ℕ = drop 96 (deal_bytes seed) in
    record {
      id = sizes.id;
      session = l;
      key = sizes.key;
      tag_length = g;
      stash = s;
      choice = sizes.choice;
      count = sizes.count;
      chosen = All-from_recursion (λ seed. length seed ≡ 32) (chosen_from choice 0 (seed_pairs 512 bytes))
          (chosen_seeds_long choice 0 (seed_pairs 512 bytes) (each_has_seeds 512 bytes (omega (arith, length-drop 96 (deal_bytes seed), length-deal_bytes seed))));
    }

-- the two halves of a dealt pair are a pair
pub dealt_are_pairs : DealtArePairs
unfolding dealt_receiver dealt_sender
dealt_are_pairs seed session tag_length stash = record { id = refl; session = refl; key = refl; tag_length = refl; stash = refl; chosen = refl }

-- and the session, the tag length and the stash rows are those that the dealer was given
pub dealt_session : (seed : List ℕ) (session tag_length stash : ℕ) → (dealt_receiver seed session tag_length stash).session ≡ session
unfolding dealt_receiver
dealt_session seed session tag_length stash = refl

pub dealt_tag_length : (seed : List ℕ) (session tag_length stash : ℕ) → (dealt_receiver seed session tag_length stash).tag_length ≡ tag_length
unfolding dealt_receiver
dealt_tag_length seed session tag_length stash = refl

pub dealt_stash : (seed : List ℕ) (session tag_length stash : ℕ) → (dealt_receiver seed session tag_length stash).stash ≡ stash
unfolding dealt_receiver
dealt_stash seed session tag_length stash = refl

-- ---- columns of a deal

pub length-zero_columns : (deal : ReceiverDeal) (rows : ℕ) → length (zero_columns deal rows) ≡ length deal.seeds
length-zero_columns deal rows = length-map deal.seeds (λ pair. column pair.zero deal.session rows)

pub length-one_columns : (deal : ReceiverDeal) (rows : ℕ) → length (one_columns deal rows) ≡ length deal.seeds
length-one_columns deal rows = length-map deal.seeds (λ pair. column pair.one deal.session rows)

pub get_or-zero_columns : (deal : ReceiverDeal) (rows c : ℕ) (pair : SeedPair) (d : List ℕ) → c < length deal.seeds → get_or (zero_columns deal rows) c d ≡ column (get_or deal.seeds c pair).zero deal.session rows
get_or-zero_columns deal rows c pair d l = get_or-map (λ pair. column pair.zero deal.session rows) deal.seeds c pair d l

pub get_or-one_columns : (deal : ReceiverDeal) (rows c : ℕ) (pair : SeedPair) (d : List ℕ) → c < length deal.seeds → get_or (one_columns deal rows) c d ≡ column (get_or deal.seeds c pair).one deal.session rows
get_or-one_columns deal rows c pair d l = get_or-map (λ pair. column pair.one deal.session rows) deal.seeds c pair d l

pub length-dealt_zero_columns : (seed : List ℕ) (session tag_length stash rows : ℕ) → length (zero_columns (dealt_receiver seed session tag_length stash) rows) ≡ 512
length-dealt_zero_columns seed session tag_length stash rows = length-zero_columns (dealt_receiver seed session tag_length stash) rows ∙ (dealt_receiver_sizes seed session tag_length stash).count

-- the first n bytes of the key stream of each zero seed
abbrev pub zero_streams : ReceiverDeal → ℕ → List (List ℕ)
zero_streams deal n = map (λ pair. key_stream pair.zero deal.session n) deal.seeds

-- a row of the zero columns is the row of key streams that are long enough
pub row_of-zero_columns : (deal : ReceiverDeal) (rows n j : ℕ) → j < rows → j < 8 * n → row_of (zero_columns deal rows) j ≡ row_of (zero_streams deal n) j
row_of-zero_columns deal rows n j l within =
    row_of_agree (λ (pair : SeedPair). column pair.zero deal.session rows) (λ (pair : SeedPair). key_stream pair.zero deal.session n) deal.seeds j
    (λ pair. bit_of-column pair.zero deal.session rows n j l within)

-- bit c of row j of the zero columns is bit j of the key stream of zero seed c
pub bit_of-zero_row : (deal : ReceiverDeal) (rows n j c : ℕ) (pair : SeedPair) → c < length deal.seeds → j < rows → j < 8 * n → bit_of (row_of (zero_columns deal rows) j) c ≡ bit_of (key_stream (get_or deal.seeds c pair).zero deal.session n) j
bit_of-zero_row deal rows n j c pair within l low =
    bit_of-row_of (zero_columns deal rows) j c
    ∙ (ap (λ (column : List ℕ). bit_of column j) (get_or-zero_columns deal rows c pair [] within)
    ∙ bit_of-column (get_or deal.seeds c pair).zero deal.session rows n j l low)

-- ---- the setup

-- a placement has a slot for each item
pub length-placement : (stash : ℕ) (key : List ℕ) (bins : ℕ) (items : List (List ℕ)) (slots : List Slot) → IsPlacementOf stash key bins items slots → length items ≡ length slots
length-placement stash key bins items slots placement =
    omega (arith, AllZip-long (MayHave stash bins) (map (candidates_of key bins) items) slots placement.each, length-map items (candidates_of key bins))

-- a placement of the items makes a setup of a pair of deals that have their sizes
pub placed_setup : (stash : ℕ) (receiver : ReceiverDeal) (sender : SenderDeal) (items : List (List ℕ)) (slots : List Slot) → length receiver.seeds ≡ 512 → length sender.choice ≡ 64 → IsPlacementOf stash receiver.key (bins_for (length items)) items slots → IsSetup stash (setup_of stash receiver sender items slots)
placed_setup stash receiver sender items slots seeds choice placement =
    let long : length items ≡ length slots = length-placement stash receiver.key (bins_for (length items)) items slots placement in
    record {
      choice = choice;
      columns = length-zero_columns receiver (rows_for stash (length items)) ∙ seeds;
      placed =
          subst (λ (xs : List (List ℕ)). IsPlacementOf stash receiver.key (bins_for (length items)) xs (map (λ p. p.slot) (placed_of items slots))) (sym (items_of-placed_of items slots long))
          (subst (IsPlacementOf stash receiver.key (bins_for (length items)) items) (sym (slots_of-placed_of items slots long)) placement);
    }

-- a placement of the items makes a setup of a dealt pair
pub dealt_placed_setup : (stash : ℕ) (seed : List ℕ) (session tag_length : ℕ) (items : List (List ℕ)) (slots : List Slot) → IsPlacementOf stash (dealt_receiver seed session tag_length stash).key (bins_for (length items)) items slots → IsSetup stash (setup_of stash (dealt_receiver seed session tag_length stash) (dealt_sender seed session tag_length stash) items slots)
dealt_placed_setup stash seed session tag_length items slots =
    placed_setup stash (dealt_receiver seed session tag_length stash) (dealt_sender seed session tag_length stash) items slots (dealt_receiver_sizes seed session tag_length stash).count (dealt_sender_sizes seed session tag_length stash).choice

-- items that the stash can hold
pub stash_placement : (stash : ℕ) (key : List ℕ) (bins : ℕ) (items : List (List ℕ)) → length items ≤ stash → IsPlacementOf stash key bins items (stash_slots bins (length items))
stash_placement stash key bins items l =
    let long : length (map (candidates_of key bins) items) ≡ length items = length-map items (candidates_of key bins) in
    subst (λ (n : ℕ). IsPlacementOf stash key bins items (stash_slots bins n)) long (stash_slots_placement stash bins (map (candidates_of key bins) items) (omega arith))

pub dealt_setup : (stash : ℕ) (seed : List ℕ) (session tag_length : ℕ) (items : List (List ℕ)) → length items ≤ stash → IsSetup stash (setup_of stash (dealt_receiver seed session tag_length stash) (dealt_sender seed session tag_length stash) items (stash_slots (bins_for (length items)) (length items)))
dealt_setup stash seed session tag_length items l =
    dealt_placed_setup stash seed session tag_length items (stash_slots (bins_for (length items)) (length items))
    (stash_placement stash (dealt_receiver seed session tag_length stash).key (bins_for (length items)) items l)

-- ---- what is shown of a dealt pair

pub deals_show_common : DealsShowCommon
deals_show_common stash seed session tag_length xs ys slots placement =
    shows_common stash (setup_of stash (dealt_receiver seed session tag_length stash) (dealt_sender seed session tag_length stash) xs slots) ys
    (dealt_placed_setup stash seed session tag_length xs slots placement)

pub stash_shows_common : StashShowsCommon
stash_shows_common stash seed session tag_length xs ys l =
    shows_common stash (setup_of stash (dealt_receiver seed session tag_length stash) (dealt_sender seed session tag_length stash) xs (stash_slots (bins_for (length xs)) (length xs))) ys
    (dealt_setup stash seed session tag_length xs l)
