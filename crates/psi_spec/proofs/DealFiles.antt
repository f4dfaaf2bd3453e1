-- Deal files spell their deals, and what they spell is read again.
use Rattle.std.proofs.Common.{◌≡◌, ◌+◌, ◌*◌, ◌^◌, ◌<◌, ◌≤◌, ℕ, true, suc, zero, All, List, [], ◌∷◌, ◌++◌, length, take, drop, get_or, codes, refl, sym, ap, ◌∙◌, subst, arith, append_assoc, length-append, take-append-drop, drop-cons, ⊎_elim}
use Rattle.std.specs.List.{AllByRecursion}
use Rattle.std.specs.Int.{w64, to_be_bytes, from_be_bytes}
use Rattle.std.proofs.lemmas.List.{length-drop, length-take, length-take-le, get_or_past, take-append-le, drop-drop, drop-append-le, get_or-drop, get_or-take, take_all, drop_all}
use lib.Seq.{take-add}
use Rattle.std.proofs.lemmas.List.Elements.{recursion_from_All, All-from_recursion}
use Rattle.std.proofs.lemmas.Bool.{cases_lt}
use Rattle.std.proofs.lemmas.Nat.{be_bytes_8, from_be_bytes-to_be_bytes_8}
use Rattle.sha2.specs.Sha256.{sha256}
use Rattle.sha2.proofs.Facts256.{length-sha256}
use Rattle.psi_spec.specs.Deals.{SeedPair, ReceiverDeal, SenderDeal, HasSeeds, IsReceiverDeal, IsSenderDeal, fits_tag_length, fits_stash, seed_pairs}
use Rattle.psi_spec.specs.DealFiles.{deal_front, pairs_bytes, seeds_bytes, sealed, receiver_bytes, sender_bytes, seeds_of, receiver_of, sender_of}
use Rattle.psi_spec.specs.Laws.{ReceiverFilesReadBack, SenderFilesReadBack}
use Rattle.psi_spec.proofs.Packing.{AreBytes}
use Rattle.psi_spec.proofs.Dealing.{length-seed_pairs, seed_pairs_have_seeds}

-- ---- parts of lists

pub front_of : (n : ℕ) (part rest : List ℕ) → length part ≡ n → take n (part ++ rest) ≡ part
front_of n part rest l = take-append-le n part rest (omega arith) ∙ take_all n part (omega arith)

pub after_front : (n m : ℕ) (part rest : List ℕ) → length part ≡ n → drop (n + m) (part ++ rest) ≡ drop m rest
after_front n m part rest l =
    sym (drop-drop m n (part ++ rest))
    ∙ ap (drop m) (drop-append-le n part rest (omega arith) ∙ ap (λ (none : List ℕ). none ++ rest) (drop_all n part (omega arith)))

-- a part that is cut off the front of another
pub cut : (at n m : ℕ) (bytes : List ℕ) → take (n + m) (drop at bytes) ≡ take n (drop at bytes) ++ take m (drop (at + n) bytes)
cut at n m bytes = take-add n m (drop at bytes) ∙ ap (λ (rest : List ℕ). take n (drop at bytes) ++ take m rest) (drop-drop n at bytes)

pub cut_one : (at m : ℕ) (bytes : List ℕ) → at < length bytes → take (suc m) (drop at bytes) ≡ get_or bytes at 0 ∷ take m (drop (suc at) bytes)
cut_one at m bytes l = ap (take (suc m)) (drop-cons bytes at 0 l)

pub small_part : (at n : ℕ) (bytes : List ℕ) → AreBytes bytes → AreBytes (take n (drop at bytes))
small_part at n bytes small i =
    ⊎_elim
    (λ (l : i < n). subst (λ (b : ℕ). b < 2 ^ 8) (sym (get_or-take n (drop at bytes) i 0 l ∙ get_or-drop at bytes i 0)) (small (at + i)))
    (λ (l : n ≤ i). subst (λ (b : ℕ). b < 2 ^ 8) (sym (get_or_past (take n (drop at bytes)) i 0 (omega (arith, length-take n (drop at bytes))))) (omega arith))
    (cases_lt i n)

-- ---- seeds

pub pairs_again : (n : ℕ) (bytes : List ℕ) → pairs_bytes (seed_pairs n bytes) ≡ take (64 * n) bytes
unfolding seed_pairs
pairs_again zero bytes = refl
pairs_again (suc n) bytes =
    let count : 64 * suc n ≡ 64 + 64 * n = omega arith in
    ap (λ (rest : List ℕ). (take 32 bytes ++ take 32 (drop 32 bytes)) ++ rest) (pairs_again n (drop 64 bytes))
    ∙ (ap (λ (front : List ℕ). front ++ take (64 * n) (drop 64 bytes)) (sym (take-add 32 32 bytes))
    ∙ (sym (take-add 64 (64 * n) bytes) ∙ ap (λ (k : ℕ). take k bytes) (sym count)))

pub seeds_again : (n : ℕ) (bytes : List ℕ) → seeds_bytes (seeds_of n bytes) ≡ take (32 * n) bytes
unfolding seeds_of
seeds_again zero bytes = refl
seeds_again (suc n) bytes =
    let count : 32 * suc n ≡ 32 + 32 * n = omega arith in
    ap (λ (rest : List ℕ). take 32 bytes ++ rest) (seeds_again n (drop 32 bytes))
    ∙ (sym (take-add 32 (32 * n) bytes) ∙ ap (λ (k : ℕ). take k bytes) (sym count))

pub length-pairs_bytes : (pairs : List SeedPair) → AllByRecursion HasSeeds pairs → length (pairs_bytes pairs) ≡ 64 * length pairs
length-pairs_bytes [] h = refl
length-pairs_bytes (pair ∷ pairs) h =
    let here : length (pair.zero ++ pair.one) ≡ 64 = omega (arith, length-append pair.zero pair.one, h.0.0, h.0.1) in
    omega (arith, length-append (pair.zero ++ pair.one) (pairs_bytes pairs), length-pairs_bytes pairs h.1)

pub length-seeds_bytes : (seeds : List (List ℕ)) → AllByRecursion (λ seed. length seed ≡ 32) seeds → length (seeds_bytes seeds) ≡ 32 * length seeds
length-seeds_bytes [] h = refl
length-seeds_bytes (seed ∷ seeds) h = omega (arith, length-append seed (seeds_bytes seeds), length-seeds_bytes seeds h.1, h.0)

pub pairs_back : (pairs : List SeedPair) (rest : List ℕ) → AllByRecursion HasSeeds pairs → seed_pairs (length pairs) (pairs_bytes pairs ++ rest) ≡ pairs
unfolding seed_pairs
pairs_back [] rest h = refl
pairs_back (pair ∷ pairs) rest h =
    let more : List ℕ = pairs_bytes pairs ++ rest in
    let parts : ((pair.zero ++ pair.one) ++ pairs_bytes pairs) ++ rest ≡ pair.zero ++ (pair.one ++ more) = simp append_assoc in
    let first : take 32 (pair.zero ++ (pair.one ++ more)) ≡ pair.zero = front_of 32 pair.zero (pair.one ++ more) h.0.0 in
    let second : take 32 (drop 32 (pair.zero ++ (pair.one ++ more))) ≡ pair.one =
    ap (take 32) (after_front 32 0 pair.zero (pair.one ++ more) h.0.0) ∙ front_of 32 pair.one more h.0.1 in
    let left : drop 64 (pair.zero ++ (pair.one ++ more)) ≡ more = after_front 32 32 pair.zero (pair.one ++ more) h.0.0 ∙ after_front 32 0 pair.one more h.0.1 in
    let last : seed_pairs (length pairs) (drop 64 (pair.zero ++ (pair.one ++ more))) ≡ pairs = ap (seed_pairs (length pairs)) left ∙ pairs_back pairs rest h.1 in
    ap (seed_pairs (suc (length pairs))) parts
    ∙ (ap (λ (seed : List ℕ). record { zero = seed; one = take 32 (drop 32 (pair.zero ++ (pair.one ++ more))) } ∷ seed_pairs (length pairs) (drop 64 (pair.zero ++ (pair.one ++ more)))) first
    ∙ (ap (λ (seed : List ℕ). record { zero = pair.zero; one = seed } ∷ seed_pairs (length pairs) (drop 64 (pair.zero ++ (pair.one ++ more)))) second
    ∙ ap (λ (rest : List SeedPair). pair ∷ rest) last))

pub seeds_back : (seeds : List (List ℕ)) (rest : List ℕ) → AllByRecursion (λ seed. length seed ≡ 32) seeds → seeds_of (length seeds) (seeds_bytes seeds ++ rest) ≡ seeds
unfolding seeds_of
seeds_back [] rest h = refl
seeds_back (seed ∷ seeds) rest h =
    let more : List ℕ = seeds_bytes seeds ++ rest in
    let parts : (seed ++ seeds_bytes seeds) ++ rest ≡ seed ++ more = append_assoc seed (seeds_bytes seeds) rest in
    let left : drop 32 (seed ++ more) ≡ more = after_front 32 0 seed more h.0 in
    ap (seeds_of (suc (length seeds))) parts
    ∙ (ap (λ (first : List ℕ). first ∷ seeds_of (length seeds) (drop 32 (seed ++ more))) (front_of 32 seed more h.0)
    ∙ ap (λ (last : List (List ℕ)). seed ∷ last) (ap (seeds_of (length seeds)) left ∙ seeds_back seeds rest h.1))

-- ---- the front

-- the bytes have these parts at their front, and then the rest
pub record HasFront (r : ℕ) (i : List ℕ) (n : ℕ) (k : List ℕ) (g s : ℕ) (left bytes : List ℕ) : Type 0 where
  pub magic : take 4 bytes ≡ codes "PSID"
  pub version : get_or bytes 4 0 ≡ 2
  pub role : get_or bytes 5 0 ≡ r
  pub id : take 16 (drop 6 bytes) ≡ i
  pub session : from_be_bytes w64 (take 8 (drop 22 bytes)) ≡ n
  pub key : take 16 (drop 30 bytes) ≡ k
  pub tag_length : get_or bytes 46 0 ≡ g
  pub stash : get_or bytes 47 0 ≡ s
  pub rest : drop 48 bytes ≡ left

pub front_reads : (role : ℕ) (id : List ℕ) (session : ℕ) (key : List ℕ) (tag_length stash : ℕ) (rest : List ℕ) → length id ≡ 16 → session < 2 ^ 64 → length key ≡ 16
    → HasFront role id session key tag_length stash rest (deal_front role id session key tag_length stash ++ rest)
front_reads role id session key tag_length stash rest li ls lk =
    let number : List ℕ = to_be_bytes w64 session in
    let ends : List ℕ = tag_length ∷ stash ∷ rest in
    let parts : (id ++ (number ++ (key ++ tag_length ∷ stash ∷ []))) ++ rest ≡ id ++ (number ++ (key ++ ends)) = simp append_assoc in
    let at_number : drop 16 (id ++ (number ++ (key ++ ends))) ≡ number ++ (key ++ ends) = after_front 16 0 id (number ++ (key ++ ends)) li in
    let at_key : drop 24 (id ++ (number ++ (key ++ ends))) ≡ key ++ ends = after_front 16 8 id (number ++ (key ++ ends)) li ∙ after_front 8 0 number (key ++ ends) refl in
    let at_ends : drop 40 (id ++ (number ++ (key ++ ends))) ≡ ends =
    after_front 16 24 id (number ++ (key ++ ends)) li ∙ (after_front 8 16 number (key ++ ends) refl ∙ after_front 16 0 key ends lk) in
    record {
      magic = refl;
      version = refl;
      role = refl;
      id = ap (take 16) parts ∙ front_of 16 id (number ++ (key ++ ends)) li;
      session = ap (λ (bytes : List ℕ). from_be_bytes w64 (take 8 (drop 16 bytes))) parts
          ∙ (ap (λ (bytes : List ℕ). from_be_bytes w64 (take 8 bytes)) at_number
          ∙ (ap (from_be_bytes w64) (front_of 8 number (key ++ ends) refl) ∙ from_be_bytes-to_be_bytes_8 session ls));
      key = ap (λ (bytes : List ℕ). take 16 (drop 24 bytes)) parts ∙ (ap (take 16) at_key ∙ front_of 16 key ends lk);
      tag_length = ap (λ (bytes : List ℕ). get_or bytes 40 0) parts ∙ (sym (get_or-drop 40 (id ++ (number ++ (key ++ ends))) 0 0) ∙ ap (λ (bytes : List ℕ). get_or bytes 0 0) at_ends);
      stash = ap (λ (bytes : List ℕ). get_or bytes 41 0) parts ∙ (sym (get_or-drop 40 (id ++ (number ++ (key ++ ends))) 1 0) ∙ ap (λ (bytes : List ℕ). get_or bytes 1 0) at_ends);
      rest = ap (drop 42) parts ∙ (sym (drop-drop 2 40 (id ++ (number ++ (key ++ ends)))) ∙ ap (drop 2) at_ends);
    }

pub front_again : (role : ℕ) (bytes : List ℕ) → AreBytes bytes → 48 ≤ length bytes → take 4 bytes ≡ codes "PSID" → get_or bytes 4 0 ≡ 2 → get_or bytes 5 0 ≡ role
    → deal_front role (take 16 (drop 6 bytes)) (from_be_bytes w64 (take 8 (drop 22 bytes))) (take 16 (drop 30 bytes)) (get_or bytes 46 0) (get_or bytes 47 0) ≡ take 48 bytes
front_again role bytes small long magic version is_role =
    let id : List ℕ = take 16 (drop 6 bytes) in
    let number : List ℕ = take 8 (drop 22 bytes) in
    let key : List ℕ = take 16 (drop 30 bytes) in
    let ends : take 2 (drop 46 bytes) ≡ get_or bytes 46 0 ∷ get_or bytes 47 0 ∷ [] =
    cut_one 46 1 bytes (omega arith) ∙ ap (λ (rest : List ℕ). get_or bytes 46 0 ∷ rest) (cut_one 47 0 bytes (omega arith)) in
    let spelled : to_be_bytes w64 (from_be_bytes w64 number) ≡ number =
    be_bytes_8 number (from_be_bytes w64 number) (length-take-le 8 (drop 22 bytes) (omega (arith, length-drop 22 bytes))) (small_part 22 8 bytes small) refl in
    let tail : take 42 (drop 6 bytes) ≡ id ++ (number ++ (key ++ take 2 (drop 46 bytes))) =
    cut 6 16 26 bytes ∙ ap (λ (rest : List ℕ). id ++ rest) (cut 22 8 18 bytes ∙ ap (λ (rest : List ℕ). number ++ rest) (cut 30 16 2 bytes)) in
    let middle : take 44 (drop 4 bytes) ≡ get_or bytes 4 0 ∷ get_or bytes 5 0 ∷ take 42 (drop 6 bytes) =
    cut_one 4 43 bytes (omega arith) ∙ ap (λ (rest : List ℕ). get_or bytes 4 0 ∷ rest) (cut_one 5 42 bytes (omega arith)) in
    let whole : take 48 bytes ≡ take 4 bytes ++ take 44 (drop 4 bytes) = take-add 4 44 bytes in
    sym (whole
    ∙ (ap (λ (front : List ℕ). front ++ take 44 (drop 4 bytes)) magic
    ∙ ap (λ (rest : List ℕ). codes "PSID" ++ rest) (middle
    ∙ (ap (λ (v : ℕ). v ∷ get_or bytes 5 0 ∷ take 42 (drop 6 bytes)) version
    ∙ (ap (λ (r : ℕ). 2 ∷ r ∷ take 42 (drop 6 bytes)) is_role
    ∙ ap (λ (rest : List ℕ). 2 ∷ role ∷ rest) (tail
    ∙ (ap (λ (rest : List ℕ). id ++ (number ++ (key ++ rest))) ends
    ∙ ap (λ (part : List ℕ). id ++ (part ++ (key ++ get_or bytes 46 0 ∷ get_or bytes 47 0 ∷ []))) (sym spelled))))))))

pub length-deal_front : (role : ℕ) (id : List ℕ) (session : ℕ) (key : List ℕ) (tag_length stash : ℕ) → length id ≡ 16 → length key ≡ 16 → length (deal_front role id session key tag_length stash) ≡ 48
length-deal_front role id session key tag_length stash li lk =
    let number : List ℕ = to_be_bytes w64 session in
    let ends : List ℕ = tag_length ∷ stash ∷ [] in
    omega (arith, length-append id (number ++ (key ++ ends)), length-append number (key ++ ends), length-append key ends)

-- ---- sealed bytes

-- bytes with their hash behind them end with the hash of those before
pub sealed_parts : (n : ℕ) (bytes : List ℕ) → length bytes ≡ n → (take n (sealed bytes) ≡ bytes) × (drop n (sealed bytes) ≡ sha256 bytes)
sealed_parts n bytes l =
    let same : n + 0 ≡ n = omega arith in
    (front_of n bytes (sha256 bytes) l, ap (λ (k : ℕ). drop k (bytes ++ sha256 bytes)) (sym same) ∙ after_front n 0 bytes (sha256 bytes) l)

pub sealed_again : (n : ℕ) (bytes : List ℕ) → drop n bytes ≡ sha256 (take n bytes) → sealed (take n bytes) ≡ bytes
sealed_again n bytes e = ap (λ (hash : List ℕ). take n bytes ++ hash) (sym e) ∙ take-append-drop n bytes

-- ---- the receiver's file

-- what is sealed in it
abbrev pub receiver_body : ReceiverDeal → List ℕ
receiver_body deal = deal_front 0 deal.id deal.session deal.key deal.tag_length deal.stash ++ pairs_bytes deal.seeds

pub receiver_sealed : (deal : ReceiverDeal) → receiver_bytes deal ≡ sealed (receiver_body deal)
unfolding receiver_bytes
receiver_sealed deal = refl

pub length-receiver_body : (deal : ReceiverDeal) → IsReceiverDeal deal → length (receiver_body deal) ≡ 32816
length-receiver_body deal h =
    omega (arith, length-append (deal_front 0 deal.id deal.session deal.key deal.tag_length deal.stash) (pairs_bytes deal.seeds), length-deal_front 0 deal.id deal.session deal.key deal.tag_length deal.stash h.id h.key, length-pairs_bytes deal.seeds (recursion_from_All HasSeeds deal.seeds h.seeds), h.count)

pub length-receiver_bytes : (deal : ReceiverDeal) → IsReceiverDeal deal → length (receiver_bytes deal) ≡ 32848
length-receiver_bytes deal h =
    ap length (receiver_sealed deal) ∙ omega (arith, length-append (receiver_body deal) (sha256 (receiver_body deal)), length-receiver_body deal h, length-sha256 (receiver_body deal))

pub receiver_front : (deal : ReceiverDeal) → IsReceiverDeal deal → HasFront 0 deal.id deal.session deal.key deal.tag_length deal.stash (pairs_bytes deal.seeds ++ sha256 (receiver_body deal)) (receiver_bytes deal)
receiver_front deal h =
    let front : List ℕ = deal_front 0 deal.id deal.session deal.key deal.tag_length deal.stash in
    let rest : List ℕ = pairs_bytes deal.seeds ++ sha256 (receiver_body deal) in
    subst (HasFront 0 deal.id deal.session deal.key deal.tag_length deal.stash rest)
    (sym (receiver_sealed deal ∙ append_assoc front (pairs_bytes deal.seeds) (sha256 (receiver_body deal))))
    (front_reads 0 deal.id deal.session deal.key deal.tag_length deal.stash rest h.id h.session h.key)

pub same_receiver : (a b : ReceiverDeal) → a.id ≡ b.id → a.session ≡ b.session → a.key ≡ b.key → a.tag_length ≡ b.tag_length → a.stash ≡ b.stash → a.seeds ≡ b.seeds → a ≡ b
same_receiver a b id session key tag_length stash seeds =
    λ i. record { id = id i; session = session i; key = key i; tag_length = tag_length i; stash = stash i; seeds = seeds i }

pub receiver_files_read_back : ReceiverFilesReadBack
unfolding receiver_of
receiver_files_read_back deal h =
    let f = receiver_front deal h in
    let bytes : List ℕ = receiver_bytes deal in
    let seeds : seed_pairs 512 (drop 48 bytes) ≡ deal.seeds =
    ap (seed_pairs 512) f.rest
    ∙ (ap (λ (n : ℕ). seed_pairs n (pairs_bytes deal.seeds ++ sha256 (receiver_body deal))) (sym h.count)
    ∙ pairs_back deal.seeds (sha256 (receiver_body deal)) (recursion_from_All HasSeeds deal.seeds h.seeds)) in
    same_receiver (receiver_of bytes) deal f.id f.session f.key f.tag_length f.stash seeds

pub receiver_again : (bytes : List ℕ) → AreBytes bytes → length bytes ≡ 32848 → take 4 bytes ≡ codes "PSID" → get_or bytes 4 0 ≡ 2 → get_or bytes 5 0 ≡ 0 → drop 32816 bytes ≡ sha256 (take 32816 bytes) → receiver_bytes (receiver_of bytes) ≡ bytes
unfolding receiver_of
receiver_again bytes small long magic version role hash =
    let deal : ReceiverDeal = receiver_of bytes in
    let front : deal_front 0 deal.id deal.session deal.key deal.tag_length deal.stash ≡ take 48 bytes = front_again 0 bytes small (omega arith) magic version role in
    let body : receiver_body deal ≡ take 32816 bytes =
    ap (λ (start : List ℕ). start ++ pairs_bytes (seed_pairs 512 (drop 48 bytes))) front
    ∙ (ap (λ (rest : List ℕ). take 48 bytes ++ rest) (pairs_again 512 (drop 48 bytes)) ∙ sym (take-add 48 32768 bytes)) in
    receiver_sealed deal ∙ (ap sealed body ∙ sealed_again 32816 bytes hash)

-- ---- the sender's file

-- what is sealed in it
abbrev pub sender_body : SenderDeal → List ℕ
sender_body deal = deal_front 1 deal.id deal.session deal.key deal.tag_length deal.stash ++ (deal.choice ++ seeds_bytes deal.chosen)

pub sender_sealed : (deal : SenderDeal) → sender_bytes deal ≡ sealed (sender_body deal)
unfolding sender_bytes
sender_sealed deal = refl

pub length-sender_body : (deal : SenderDeal) → IsSenderDeal deal → length (sender_body deal) ≡ 16496
length-sender_body deal h =
    omega (arith, length-append (deal_front 1 deal.id deal.session deal.key deal.tag_length deal.stash) (deal.choice ++ seeds_bytes deal.chosen), length-deal_front 1 deal.id deal.session deal.key deal.tag_length deal.stash h.id h.key, length-append deal.choice (seeds_bytes deal.chosen), length-seeds_bytes deal.chosen (recursion_from_All (λ seed. length seed ≡ 32) deal.chosen h.chosen), h.count, h.choice)

pub length-sender_bytes : (deal : SenderDeal) → IsSenderDeal deal → length (sender_bytes deal) ≡ 16528
length-sender_bytes deal h =
    ap length (sender_sealed deal) ∙ omega (arith, length-append (sender_body deal) (sha256 (sender_body deal)), length-sender_body deal h, length-sha256 (sender_body deal))

pub sender_front : (deal : SenderDeal) → IsSenderDeal deal → HasFront 1 deal.id deal.session deal.key deal.tag_length deal.stash (deal.choice ++ (seeds_bytes deal.chosen ++ sha256 (sender_body deal))) (sender_bytes deal)
sender_front deal h =
    let front : List ℕ = deal_front 1 deal.id deal.session deal.key deal.tag_length deal.stash in
    let rest : List ℕ = deal.choice ++ (seeds_bytes deal.chosen ++ sha256 (sender_body deal)) in
    subst (HasFront 1 deal.id deal.session deal.key deal.tag_length deal.stash rest)
    (sym (sender_sealed deal
    ∙ (append_assoc front (deal.choice ++ seeds_bytes deal.chosen) (sha256 (sender_body deal))
    ∙ ap (λ (r : List ℕ). front ++ r) (append_assoc deal.choice (seeds_bytes deal.chosen) (sha256 (sender_body deal))))))
    (front_reads 1 deal.id deal.session deal.key deal.tag_length deal.stash rest h.id h.session h.key)

pub same_sender : (a b : SenderDeal) → a.id ≡ b.id → a.session ≡ b.session → a.key ≡ b.key → a.tag_length ≡ b.tag_length → a.stash ≡ b.stash → a.choice ≡ b.choice → a.chosen ≡ b.chosen → a ≡ b
same_sender a b id session key tag_length stash choice chosen =
    λ i. record { id = id i; session = session i; key = key i; tag_length = tag_length i; stash = stash i; choice = choice i; chosen = chosen i }

pub sender_files_read_back : SenderFilesReadBack
unfolding sender_of
sender_files_read_back deal h =
    let f = sender_front deal h in
    let bytes : List ℕ = sender_bytes deal in
    let seeds_and_hash : List ℕ = seeds_bytes deal.chosen ++ sha256 (sender_body deal) in
    let choice : take 64 (drop 48 bytes) ≡ deal.choice = ap (take 64) f.rest ∙ front_of 64 deal.choice seeds_and_hash h.choice in
    let chosen : seeds_of 512 (drop 112 bytes) ≡ deal.chosen =
    ap (seeds_of 512) (sym (drop-drop 64 48 bytes) ∙ (ap (drop 64) f.rest ∙ after_front 64 0 deal.choice seeds_and_hash h.choice))
    ∙ (ap (λ (n : ℕ). seeds_of n seeds_and_hash) (sym h.count)
    ∙ seeds_back deal.chosen (sha256 (sender_body deal)) (recursion_from_All (λ seed. length seed ≡ 32) deal.chosen h.chosen)) in
    same_sender (sender_of bytes) deal f.id f.session f.key f.tag_length f.stash choice chosen

pub sender_again : (bytes : List ℕ) → AreBytes bytes → length bytes ≡ 16528 → take 4 bytes ≡ codes "PSID" → get_or bytes 4 0 ≡ 2 → get_or bytes 5 0 ≡ 1 → drop 16496 bytes ≡ sha256 (take 16496 bytes) → sender_bytes (sender_of bytes) ≡ bytes
unfolding sender_of
sender_again bytes small long magic version role hash =
    let deal : SenderDeal = sender_of bytes in
    let front : deal_front 1 deal.id deal.session deal.key deal.tag_length deal.stash ≡ take 48 bytes = front_again 1 bytes small (omega arith) magic version role in
    let seeds : seeds_bytes (seeds_of 512 (drop 112 bytes)) ≡ take 16384 (drop 112 bytes) = seeds_again 512 (drop 112 bytes) in
    let rest : take 64 (drop 48 bytes) ++ seeds_bytes (seeds_of 512 (drop 112 bytes)) ≡ take 16448 (drop 48 bytes) =
    ap (λ (r : List ℕ). take 64 (drop 48 bytes) ++ r) seeds ∙ sym (cut 48 64 16384 bytes) in
    let body : sender_body deal ≡ take 16496 bytes =
    ap (λ (start : List ℕ). start ++ (take 64 (drop 48 bytes) ++ seeds_bytes (seeds_of 512 (drop 112 bytes)))) front
    ∙ (ap (λ (r : List ℕ). take 48 bytes ++ r) rest ∙ sym (take-add 48 16448 bytes)) in
    sender_sealed deal ∙ (ap sealed body ∙ sealed_again 16496 bytes hash)

-- ---- what a file spells has its sizes

pub length-seeds_of : (n : ℕ) (bytes : List ℕ) → length (seeds_of n bytes) ≡ n
unfolding seeds_of
length-seeds_of zero bytes = refl
length-seeds_of (suc n) bytes = ap suc (length-seeds_of n (drop 32 bytes))

-- one more seed, as at a step of a loop
pub seeds_of-more : (n : ℕ) (bytes : List ℕ) → seeds_of (n + 1) bytes ≡ seeds_of n bytes ++ take 32 (drop (32 * n) bytes) ∷ []
unfolding seeds_of
seeds_of-more zero bytes = refl
seeds_of-more (suc n) bytes =
    let count : suc n + 1 ≡ suc (n + 1) = omega arith in
    let place : 32 + 32 * n ≡ 32 * suc n = omega arith in
    ap (λ (k : ℕ). seeds_of k bytes) count
    ∙ (ap (λ (rest : List (List ℕ)). take 32 bytes ∷ rest) (seeds_of-more n (drop 32 bytes))
    ∙ ap (λ (rest : List ℕ). take 32 bytes ∷ seeds_of n (drop 32 bytes) ++ take 32 rest ∷ []) (drop-drop (32 * n) 32 bytes ∙ ap (λ (k : ℕ). drop k bytes) place))

each_is_long : (n : ℕ) (bytes : List ℕ) → 32 * n ≤ length bytes → AllByRecursion (λ seed. length seed ≡ 32) (seeds_of n bytes)
unfolding seeds_of
each_is_long zero bytes l = tt
each_is_long (suc n) bytes l = (length-take-le 32 bytes (omega arith), each_is_long n (drop 32 bytes) (omega (arith, length-drop 32 bytes)))

pub seeds_of_are_long : (n : ℕ) (bytes : List ℕ) → 32 * n ≤ length bytes → All (λ seed. length seed ≡ 32) (seeds_of n bytes)
seeds_of_are_long n bytes l = All-from_recursion (λ seed. length seed ≡ 32) (seeds_of n bytes) (each_is_long n bytes l)

-- the number of eight bytes
pub session-lt : (at : ℕ) (bytes : List ℕ) → AreBytes bytes → at + 8 ≤ length bytes → from_be_bytes w64 (take 8 (drop at bytes)) < 2 ^ 64
session-lt at bytes small l =
    let part : List ℕ = take 8 (drop at bytes) in
    let fits = small_part at 8 bytes small in
    omega (arith, fits 0, fits 1, fits 2, fits 3, fits 4, fits 5, fits 6, fits 7)

pub length-part : (at n : ℕ) (bytes : List ℕ) → at + n ≤ length bytes → length (take n (drop at bytes)) ≡ n
length-part at n bytes l = length-take-le n (drop at bytes) (omega (arith, length-drop at bytes))

pub receiver_of_sizes : (bytes : List ℕ) → AreBytes bytes → length bytes ≡ 32848 → fits_tag_length (get_or bytes 46 0) ≡ true → fits_stash (get_or bytes 47 0) ≡ true → IsReceiverDeal (receiver_of bytes)
unfolding receiver_of
receiver_of_sizes bytes small long tag_length stash = record {
  id = length-part 6 16 bytes (omega arith);
  session = session-lt 22 bytes small (omega arith);
  key = length-part 30 16 bytes (omega arith);
  tag_length = tag_length;
  stash = stash;
  count = length-seed_pairs 512 (drop 48 bytes);
  seeds = seed_pairs_have_seeds 512 (drop 48 bytes) (omega (arith, length-drop 48 bytes));
}

pub sender_of_sizes : (bytes : List ℕ) → AreBytes bytes → length bytes ≡ 16528 → fits_tag_length (get_or bytes 46 0) ≡ true → fits_stash (get_or bytes 47 0) ≡ true → IsSenderDeal (sender_of bytes)
unfolding sender_of
sender_of_sizes bytes small long tag_length stash = record {
  id = length-part 6 16 bytes (omega arith);
  session = session-lt 22 bytes small (omega arith);
  key = length-part 30 16 bytes (omega arith);
  tag_length = tag_length;
  stash = stash;
  choice = length-part 48 64 bytes (omega arith);
  count = length-seeds_of 512 (drop 112 bytes);
  chosen = seeds_of_are_long 512 (drop 112 bytes) (omega (arith, length-drop 112 bytes));
}
