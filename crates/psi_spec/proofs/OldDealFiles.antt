-- Deal files of version 1 spell their deals, and what they spell is their file.
use Rattle.std.proofs.Common.{◌≡◌, ◌^◌, ◌<◌, ◌≤◌, ◌∙◌, ℕ, true, List, [], ◌∷◌, ◌++◌, length, take, drop, get_or, codes, refl, sym, ap, subst, arith, append_assoc, length-append}
use Rattle.std.specs.Int.{w64, to_be_bytes, from_be_bytes}
use Rattle.std.proofs.lemmas.List.{length-drop, length-take-le, drop-drop, get_or-drop}
use lib.Seq.{take-add}
use Rattle.std.proofs.lemmas.List.Elements.{recursion_from_All}
use Rattle.std.proofs.lemmas.Nat.{be_bytes_8, from_be_bytes-to_be_bytes_8}
use Rattle.sha2.specs.Sha256.{sha256}
use Rattle.sha2.proofs.Facts256.{length-sha256}
use Rattle.psi_spec.specs.Limits.{usual_stash}
use Rattle.psi_spec.specs.Deals.{ReceiverDeal, SenderDeal, HasSeeds, IsReceiverDeal, IsSenderDeal, fits_tag_length, seed_pairs}
use Rattle.psi_spec.specs.DealFiles.{pairs_bytes, seeds_bytes, sealed, seeds_of}
use Rattle.psi_spec.specs.OldDealFiles.{old_front, old_receiver_bytes, old_sender_bytes, old_receiver_of, old_sender_of}
use Rattle.psi_spec.specs.Laws.{OldReceiverFilesReadBack, OldSenderFilesReadBack}
use Rattle.psi_spec.proofs.Packing.{AreBytes}
use Rattle.psi_spec.proofs.Dealing.{length-seed_pairs, seed_pairs_have_seeds}
use Rattle.psi_spec.proofs.DealFiles.{front_of, after_front, cut, cut_one, small_part, length-part, pairs_again, seeds_again, length-pairs_bytes, length-seeds_bytes, pairs_back, seeds_back, sealed_again, same_receiver, same_sender, length-seeds_of, seeds_of_are_long, session-lt}

-- ---- the front

-- the bytes have these parts at their front, and then the rest
pub record HasOldFront (r : ℕ) (i : List ℕ) (n : ℕ) (k : List ℕ) (g : ℕ) (left bytes : List ℕ) : Type 0 where
  pub magic : take 4 bytes ≡ codes "PSID"
  pub version : get_or bytes 4 0 ≡ 1
  pub role : get_or bytes 5 0 ≡ r
  pub id : take 16 (drop 6 bytes) ≡ i
  pub session : from_be_bytes w64 (take 8 (drop 22 bytes)) ≡ n
  pub key : take 16 (drop 30 bytes) ≡ k
  pub tag_length : get_or bytes 46 0 ≡ g
  pub rest : drop 47 bytes ≡ left

old_front_reads : (role : ℕ) (id : List ℕ) (session : ℕ) (key : List ℕ) (tag_length : ℕ) (rest : List ℕ) → length id ≡ 16 → session < 2 ^ 64 → length key ≡ 16
    → HasOldFront role id session key tag_length rest (old_front role id session key tag_length ++ rest)
old_front_reads role id session key tag_length rest li ls lk =
    let number : List ℕ = to_be_bytes w64 session in
    let ends : List ℕ = tag_length ∷ rest in
    let parts : (id ++ (number ++ (key ++ tag_length ∷ []))) ++ rest ≡ id ++ (number ++ (key ++ ends)) = simp append_assoc in
    let at_number : drop 16 (id ++ (number ++ (key ++ ends))) ≡ number ++ (key ++ ends) = after_front 16 0 id (number ++ (key ++ ends)) li in
    let at_key : drop 24 (id ++ (number ++ (key ++ ends))) ≡ key ++ ends = after_front 16 8 id (number ++ (key ++ ends)) li ∙ after_front 8 0 number (key ++ ends) refl in
    let at_ends : drop 40 (id ++ (number ++ (key ++ ends))) ≡ ends =
    after_front 16 24 id (number ++ (key ++ ends)) li ∙ (after_front 8 16 number (key ++ ends) refl ∙ after_front 16 0 key ends lk) in
    record {
      magic = refl;
      version = refl;
      role = refl;
      id = ap (take 16) parts ∙ front_of 16 id (number ++ (key ++ ends)) li;
      session = ap (λ (bytes : List ℕ). from_be_bytes w64 (take 8 (drop 16 bytes))) parts
          ∙ (ap (λ (bytes : List ℕ). from_be_bytes w64 (take 8 bytes)) at_number
          ∙ (ap (from_be_bytes w64) (front_of 8 number (key ++ ends) refl) ∙ from_be_bytes-to_be_bytes_8 session ls));
      key = ap (λ (bytes : List ℕ). take 16 (drop 24 bytes)) parts ∙ (ap (take 16) at_key ∙ front_of 16 key ends lk);
      tag_length = ap (λ (bytes : List ℕ). get_or bytes 40 0) parts ∙ (sym (get_or-drop 40 (id ++ (number ++ (key ++ ends))) 0 0) ∙ ap (λ (bytes : List ℕ). get_or bytes 0 0) at_ends);
      rest = ap (drop 41) parts ∙ (sym (drop-drop 1 40 (id ++ (number ++ (key ++ ends)))) ∙ ap (drop 1) at_ends);
    }

old_front_again : (role : ℕ) (bytes : List ℕ) → AreBytes bytes → 47 ≤ length bytes → take 4 bytes ≡ codes "PSID" → get_or bytes 4 0 ≡ 1 → get_or bytes 5 0 ≡ role
    → old_front role (take 16 (drop 6 bytes)) (from_be_bytes w64 (take 8 (drop 22 bytes))) (take 16 (drop 30 bytes)) (get_or bytes 46 0) ≡ take 47 bytes
old_front_again role bytes small long magic version is_role =
    let id : List ℕ = take 16 (drop 6 bytes) in
    let number : List ℕ = take 8 (drop 22 bytes) in
    let key : List ℕ = take 16 (drop 30 bytes) in
    let ends : take 1 (drop 46 bytes) ≡ get_or bytes 46 0 ∷ [] = cut_one 46 0 bytes (omega arith) in
    let spelled : to_be_bytes w64 (from_be_bytes w64 number) ≡ number =
    be_bytes_8 number (from_be_bytes w64 number) (length-take-le 8 (drop 22 bytes) (omega (arith, length-drop 22 bytes))) (small_part 22 8 bytes small) refl in
    let tail : take 41 (drop 6 bytes) ≡ id ++ (number ++ (key ++ take 1 (drop 46 bytes))) =
    cut 6 16 25 bytes ∙ ap (λ (rest : List ℕ). id ++ rest) (cut 22 8 17 bytes ∙ ap (λ (rest : List ℕ). number ++ rest) (cut 30 16 1 bytes)) in
    let middle : take 43 (drop 4 bytes) ≡ get_or bytes 4 0 ∷ get_or bytes 5 0 ∷ take 41 (drop 6 bytes) =
    cut_one 4 42 bytes (omega arith) ∙ ap (λ (rest : List ℕ). get_or bytes 4 0 ∷ rest) (cut_one 5 41 bytes (omega arith)) in
    let whole : take 47 bytes ≡ take 4 bytes ++ take 43 (drop 4 bytes) = take-add 4 43 bytes in
    sym (whole
    ∙ (ap (λ (front : List ℕ). front ++ take 43 (drop 4 bytes)) magic
    ∙ ap (λ (rest : List ℕ). codes "PSID" ++ rest) (middle
    ∙ (ap (λ (v : ℕ). v ∷ get_or bytes 5 0 ∷ take 41 (drop 6 bytes)) version
    ∙ (ap (λ (r : ℕ). 1 ∷ r ∷ take 41 (drop 6 bytes)) is_role
    ∙ ap (λ (rest : List ℕ). 1 ∷ role ∷ rest) (tail
    ∙ (ap (λ (rest : List ℕ). id ++ (number ++ (key ++ rest))) ends
    ∙ ap (λ (part : List ℕ). id ++ (part ++ (key ++ get_or bytes 46 0 ∷ []))) (sym spelled))))))))

length-old_front : (role : ℕ) (id : List ℕ) (session : ℕ) (key : List ℕ) (tag_length : ℕ) → length id ≡ 16 → length key ≡ 16 → length (old_front role id session key tag_length) ≡ 47
length-old_front role id session key tag_length li lk =
    let number : List ℕ = to_be_bytes w64 session in
    let ends : List ℕ = tag_length ∷ [] in
    omega (arith, length-append id (number ++ (key ++ ends)), length-append number (key ++ ends), length-append key ends)

-- ---- the receiver's file

-- what is sealed in it
abbrev pub old_receiver_body : ReceiverDeal → List ℕ
old_receiver_body deal = old_front 0 deal.id deal.session deal.key deal.tag_length ++ pairs_bytes deal.seeds

pub old_receiver_sealed : (deal : ReceiverDeal) → old_receiver_bytes deal ≡ sealed (old_receiver_body deal)
unfolding old_receiver_bytes
old_receiver_sealed deal = refl

pub length-old_receiver_body : (deal : ReceiverDeal) → IsReceiverDeal deal → length (old_receiver_body deal) ≡ 32815
length-old_receiver_body deal h =
    omega (arith, length-append (old_front 0 deal.id deal.session deal.key deal.tag_length) (pairs_bytes deal.seeds), length-old_front 0 deal.id deal.session deal.key deal.tag_length h.id h.key, length-pairs_bytes deal.seeds (recursion_from_All HasSeeds deal.seeds h.seeds), h.count)

pub length-old_receiver_bytes : (deal : ReceiverDeal) → IsReceiverDeal deal → length (old_receiver_bytes deal) ≡ 32847
length-old_receiver_bytes deal h =
    ap length (old_receiver_sealed deal) ∙ omega (arith, length-append (old_receiver_body deal) (sha256 (old_receiver_body deal)), length-old_receiver_body deal h, length-sha256 (old_receiver_body deal))

pub old_receiver_front : (deal : ReceiverDeal) → IsReceiverDeal deal → HasOldFront 0 deal.id deal.session deal.key deal.tag_length (pairs_bytes deal.seeds ++ sha256 (old_receiver_body deal)) (old_receiver_bytes deal)
old_receiver_front deal h =
    let front : List ℕ = old_front 0 deal.id deal.session deal.key deal.tag_length in
    let rest : List ℕ = pairs_bytes deal.seeds ++ sha256 (old_receiver_body deal) in
    subst (HasOldFront 0 deal.id deal.session deal.key deal.tag_length rest)
    (sym (old_receiver_sealed deal ∙ append_assoc front (pairs_bytes deal.seeds) (sha256 (old_receiver_body deal))))
    (old_front_reads 0 deal.id deal.session deal.key deal.tag_length rest h.id h.session h.key)

pub old_receiver_files_read_back : OldReceiverFilesReadBack
unfolding old_receiver_of
old_receiver_files_read_back deal bytes file =
    let h = file.sizes in
    let f : HasOldFront 0 deal.id deal.session deal.key deal.tag_length (pairs_bytes deal.seeds ++ sha256 (old_receiver_body deal)) bytes =
    subst (HasOldFront 0 deal.id deal.session deal.key deal.tag_length (pairs_bytes deal.seeds ++ sha256 (old_receiver_body deal))) (sym file.is) (old_receiver_front deal h) in
    let seeds : seed_pairs 512 (drop 47 bytes) ≡ deal.seeds =
    ap (seed_pairs 512) f.rest
    ∙ (ap (λ (n : ℕ). seed_pairs n (pairs_bytes deal.seeds ++ sha256 (old_receiver_body deal))) (sym h.count)
    ∙ pairs_back deal.seeds (sha256 (old_receiver_body deal)) (recursion_from_All HasSeeds deal.seeds h.seeds)) in
    same_receiver (old_receiver_of bytes) deal f.id f.session f.key f.tag_length (sym file.stash) seeds

pub old_receiver_again : (bytes : List ℕ) → AreBytes bytes → length bytes ≡ 32847 → take 4 bytes ≡ codes "PSID" → get_or bytes 4 0 ≡ 1 → get_or bytes 5 0 ≡ 0 → drop 32815 bytes ≡ sha256 (take 32815 bytes) → old_receiver_bytes (old_receiver_of bytes) ≡ bytes
unfolding old_receiver_of
old_receiver_again bytes small long magic version role hash =
    let deal : ReceiverDeal = old_receiver_of bytes in
    let front : old_front 0 deal.id deal.session deal.key deal.tag_length ≡ take 47 bytes = old_front_again 0 bytes small (omega arith) magic version role in
    let body : old_receiver_body deal ≡ take 32815 bytes =
    ap (λ (start : List ℕ). start ++ pairs_bytes (seed_pairs 512 (drop 47 bytes))) front
    ∙ (ap (λ (rest : List ℕ). take 47 bytes ++ rest) (pairs_again 512 (drop 47 bytes)) ∙ sym (take-add 47 32768 bytes)) in
    old_receiver_sealed deal ∙ (ap sealed body ∙ sealed_again 32815 bytes hash)

pub old_receiver_of_sizes : (bytes : List ℕ) → AreBytes bytes → length bytes ≡ 32847 → fits_tag_length (get_or bytes 46 0) ≡ true → IsReceiverDeal (old_receiver_of bytes)
unfolding old_receiver_of
old_receiver_of_sizes bytes small long tag_length = record {
  id = length-part 6 16 bytes (omega arith);
  session = session-lt 22 bytes small (omega arith);
  key = length-part 30 16 bytes (omega arith);
  tag_length = tag_length;
  stash = refl;
  count = length-seed_pairs 512 (drop 47 bytes);
  seeds = seed_pairs_have_seeds 512 (drop 47 bytes) (omega (arith, length-drop 47 bytes));
}

pub old_receiver_stash : (bytes : List ℕ) → (old_receiver_of bytes).stash ≡ usual_stash
unfolding old_receiver_of
old_receiver_stash bytes = refl

-- ---- the sender's file

-- what is sealed in it
abbrev pub old_sender_body : SenderDeal → List ℕ
old_sender_body deal = old_front 1 deal.id deal.session deal.key deal.tag_length ++ (deal.choice ++ seeds_bytes deal.chosen)

pub old_sender_sealed : (deal : SenderDeal) → old_sender_bytes deal ≡ sealed (old_sender_body deal)
unfolding old_sender_bytes
old_sender_sealed deal = refl

pub length-old_sender_body : (deal : SenderDeal) → IsSenderDeal deal → length (old_sender_body deal) ≡ 16495
length-old_sender_body deal h =
    omega (arith, length-append (old_front 1 deal.id deal.session deal.key deal.tag_length) (deal.choice ++ seeds_bytes deal.chosen), length-old_front 1 deal.id deal.session deal.key deal.tag_length h.id h.key, length-append deal.choice (seeds_bytes deal.chosen), length-seeds_bytes deal.chosen (recursion_from_All (λ seed. length seed ≡ 32) deal.chosen h.chosen), h.count, h.choice)

pub length-old_sender_bytes : (deal : SenderDeal) → IsSenderDeal deal → length (old_sender_bytes deal) ≡ 16527
length-old_sender_bytes deal h =
    ap length (old_sender_sealed deal) ∙ omega (arith, length-append (old_sender_body deal) (sha256 (old_sender_body deal)), length-old_sender_body deal h, length-sha256 (old_sender_body deal))

pub old_sender_front : (deal : SenderDeal) → IsSenderDeal deal → HasOldFront 1 deal.id deal.session deal.key deal.tag_length (deal.choice ++ (seeds_bytes deal.chosen ++ sha256 (old_sender_body deal))) (old_sender_bytes deal)
old_sender_front deal h =
    let front : List ℕ = old_front 1 deal.id deal.session deal.key deal.tag_length in
    let rest : List ℕ = deal.choice ++ (seeds_bytes deal.chosen ++ sha256 (old_sender_body deal)) in
    subst (HasOldFront 1 deal.id deal.session deal.key deal.tag_length rest)
    (sym (old_sender_sealed deal
    ∙ (append_assoc front (deal.choice ++ seeds_bytes deal.chosen) (sha256 (old_sender_body deal))
    ∙ ap (λ (r : List ℕ). front ++ r) (append_assoc deal.choice (seeds_bytes deal.chosen) (sha256 (old_sender_body deal))))))
    (old_front_reads 1 deal.id deal.session deal.key deal.tag_length rest h.id h.session h.key)

pub old_sender_files_read_back : OldSenderFilesReadBack
unfolding old_sender_of
old_sender_files_read_back deal bytes file =
    let h = file.sizes in
    let seeds_and_hash : List ℕ = seeds_bytes deal.chosen ++ sha256 (old_sender_body deal) in
    let f : HasOldFront 1 deal.id deal.session deal.key deal.tag_length (deal.choice ++ seeds_and_hash) bytes =
    subst (HasOldFront 1 deal.id deal.session deal.key deal.tag_length (deal.choice ++ seeds_and_hash)) (sym file.is) (old_sender_front deal h) in
    let choice : take 64 (drop 47 bytes) ≡ deal.choice = ap (take 64) f.rest ∙ front_of 64 deal.choice seeds_and_hash h.choice in
    let chosen : seeds_of 512 (drop 111 bytes) ≡ deal.chosen =
    ap (seeds_of 512) (sym (drop-drop 64 47 bytes) ∙ (ap (drop 64) f.rest ∙ after_front 64 0 deal.choice seeds_and_hash h.choice))
    ∙ (ap (λ (n : ℕ). seeds_of n seeds_and_hash) (sym h.count)
    ∙ seeds_back deal.chosen (sha256 (old_sender_body deal)) (recursion_from_All (λ seed. length seed ≡ 32) deal.chosen h.chosen)) in
    same_sender (old_sender_of bytes) deal f.id f.session f.key f.tag_length (sym file.stash) choice chosen

pub old_sender_again : (bytes : List ℕ) → AreBytes bytes → length bytes ≡ 16527 → take 4 bytes ≡ codes "PSID" → get_or bytes 4 0 ≡ 1 → get_or bytes 5 0 ≡ 1 → drop 16495 bytes ≡ sha256 (take 16495 bytes) → old_sender_bytes (old_sender_of bytes) ≡ bytes
unfolding old_sender_of
old_sender_again bytes small long magic version role hash =
    let deal : SenderDeal = old_sender_of bytes in
    let front : old_front 1 deal.id deal.session deal.key deal.tag_length ≡ take 47 bytes = old_front_again 1 bytes small (omega arith) magic version role in
    let seeds : seeds_bytes (seeds_of 512 (drop 111 bytes)) ≡ take 16384 (drop 111 bytes) = seeds_again 512 (drop 111 bytes) in
    let rest : take 64 (drop 47 bytes) ++ seeds_bytes (seeds_of 512 (drop 111 bytes)) ≡ take 16448 (drop 47 bytes) =
    ap (λ (r : List ℕ). take 64 (drop 47 bytes) ++ r) seeds ∙ sym (cut 47 64 16384 bytes) in
    let body : old_sender_body deal ≡ take 16495 bytes =
    ap (λ (start : List ℕ). start ++ (take 64 (drop 47 bytes) ++ seeds_bytes (seeds_of 512 (drop 111 bytes)))) front
    ∙ (ap (λ (r : List ℕ). take 47 bytes ++ r) rest ∙ sym (take-add 47 16448 bytes)) in
    old_sender_sealed deal ∙ (ap sealed body ∙ sealed_again 16495 bytes hash)

pub old_sender_of_sizes : (bytes : List ℕ) → AreBytes bytes → length bytes ≡ 16527 → fits_tag_length (get_or bytes 46 0) ≡ true → IsSenderDeal (old_sender_of bytes)
unfolding old_sender_of
old_sender_of_sizes bytes small long tag_length = record {
  id = length-part 6 16 bytes (omega arith);
  session = session-lt 22 bytes small (omega arith);
  key = length-part 30 16 bytes (omega arith);
  tag_length = tag_length;
  stash = refl;
  choice = length-part 47 64 bytes (omega arith);
  count = length-seeds_of 512 (drop 111 bytes);
  chosen = seeds_of_are_long 512 (drop 111 bytes) (omega (arith, length-drop 111 bytes));
}

pub old_sender_stash : (bytes : List ℕ) → (old_sender_of bytes).stash ≡ usual_stash
unfolding old_sender_of
old_sender_stash bytes = refl
