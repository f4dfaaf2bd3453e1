-- A file without a fault spells a deal, and the file of a deal has no fault.
use Rattle.std.proofs.Common.{◌≡◌, ◌-◌, ◌<◌, ◌&&◌, ◌∙◌, ℕ, Bool, true, false, not, cond, List, length, take, drop, get_or, nat_eq, nat_lt, codes, Option, Some, None, Result, Ok, Err, IfOk, refl, sym, ap, subst, arith, eq-eqb}
use Rattle.std.specs.Int.{w64, from_be_bytes}
use Rattle.std.proofs.lemmas.Bool.{eqb-true, lt-ltb}
use Rattle.std.proofs.lemmas.Slice.Eq.{bytes_eq-Decides}
use Rattle.sha2.specs.Sha256.{sha256}
use Rattle.psi_spec.specs.Deals.{ReceiverDeal, SenderDeal, IsReceiverDeal, IsSenderDeal, ArePair, fits_tag_length, fits_stash, seed_pairs, chosen_from, deal_bytes, dealt_receiver, dealt_sender}
use Rattle.psi_spec.specs.DealFiles.{deal_version, has_magic, has_other, is_sealed, sealed, receiver_file_size, sender_file_size, receiver_bytes, sender_bytes, seeds_of, receiver_of, sender_of}
use Rattle.psi_spec.proofs.Packing.{AreBytes}
use Rattle.psi_spec.proofs.DealFiles.{receiver_body, receiver_sealed, receiver_front, length-receiver_body, length-receiver_bytes, receiver_again, receiver_of_sizes, receiver_files_read_back, sender_body, sender_sealed, sender_front, length-sender_body, length-sender_bytes, sender_again, sender_of_sizes, sender_files_read_back, sealed_parts}
use Rattle.psi_deal.specs.declared.errors.BadDeal.{BadDeal}
use Rattle.psi_deal.specs.declared.errors.BadDeal.TheVariants.{Magic, Version, Role, Length, TagBytes, StashRows, Seal}
use Rattle.psi_deal.specs.BadDeals.{bad_deal, bad_request, IsJudged}
use Rattle.psi_deal.specs.declared.head.Head.{Head}
use Rattle.psi_deal.specs.declared.seeds.SeedPair.{SeedPair as Pair}
use Rattle.psi_deal.specs.Pairs.{pairs_of, receiver_view, sender_view}

-- every test of a reader goes well
pub record IsGood (role size : ℕ) (bytes : List ℕ) : Type 0 where
  pub magic : has_magic bytes ≡ true
  pub version : has_other 4 deal_version bytes ≡ false
  pub kind : has_other 5 role bytes ≡ false
  pub long : nat_eq (length bytes) size ≡ true
  pub tag_length : fits_tag_length (get_or bytes 46 0) ≡ true
  pub stash : fits_stash (get_or bytes 47 0) ≡ true
  pub seal : is_sealed bytes ≡ true

chain : Bool → Bool → Bool → Bool → Bool → Bool → Bool → List ℕ → Option BadDeal
chain m v r l t s e bytes =
    cond (not m) (Some Magic)
    (cond v (Some (Version (get_or bytes 4 0)))
    (cond r (Some (Role (get_or bytes 5 0)))
    (cond (not l) (Some (Length (length bytes)))
    (cond (not t) (Some (TagBytes (get_or bytes 46 0)))
    (cond (not s) (Some (StashRows (get_or bytes 47 0)))
    (cond (not e) (Some Seal) None))))))

pub good_from_none : (role size : ℕ) (bytes : List ℕ) → bad_deal role size bytes ≡ None → IsGood role size bytes
unfolding chain
good_from_none role size bytes none =
    by_case (has_magic bytes) (has_other 4 deal_version bytes) (has_other 5 role bytes) (nat_eq (length bytes) size) (fits_tag_length (get_or bytes 46 0)) (fits_stash (get_or bytes 47 0)) (is_sealed bytes) refl refl refl refl refl refl refl none
  where
    by_case : (m v r l t s e : Bool) → has_magic bytes ≡ m → has_other 4 deal_version bytes ≡ v → has_other 5 role bytes ≡ r → nat_eq (length bytes) size ≡ l → fits_tag_length (get_or bytes 46 0) ≡ t → fits_stash (get_or bytes 47 0) ≡ s → is_sealed bytes ≡ e
        → chain m v r l t s e bytes ≡ None → IsGood role size bytes
    by_case false v r l t s e hm hv hr hl ht hs he none = cc
    by_case true true r l t s e hm hv hr hl ht hs he none = cc
    by_case true false true l t s e hm hv hr hl ht hs he none = cc
    by_case true false false false t s e hm hv hr hl ht hs he none = cc
    by_case true false false true false s e hm hv hr hl ht hs he none = cc
    by_case true false false true true false e hm hv hr hl ht hs he none = cc
    by_case true false false true true true false hm hv hr hl ht hs he none = cc
    by_case true false false true true true true hm hv hr hl ht hs he none =
        record { magic = hm; version = hv; kind = hr; long = hl; tag_length = ht; stash = hs; seal = he }

pub none_from_good : (role size : ℕ) (bytes : List ℕ) → IsGood role size bytes → bad_deal role size bytes ≡ None
none_from_good role size bytes g =
    let magic = g.magic in
    let version = g.version in
    let kind = g.kind in
    let long = g.long in
    let tag_length = g.tag_length in
    let stash = g.stash in
    let seal = g.seal in
    rw (magic, version, kind, long, tag_length, stash, seal) refl

-- ---- what a good file has

pub byte_is : (at wanted : ℕ) (bytes : List ℕ) → at < length bytes → has_other at wanted bytes ≡ false → get_or bytes at 0 ≡ wanted
byte_is at wanted bytes l none = by_case (nat_lt at (length bytes)) (nat_eq (get_or bytes at 0) wanted) (lt-ltb at (length bytes) l) refl none
  where
    by_case : (b e : Bool) → b ≡ true → nat_eq (get_or bytes at 0) wanted ≡ e → (b && not e) ≡ false → get_or bytes at 0 ≡ wanted
    by_case true true hb he none = eqb-true (get_or bytes at 0) wanted he
    by_case true false hb he none = cc
    by_case false e hb he none = cc

pub no_other : (at wanted : ℕ) (bytes : List ℕ) → get_or bytes at 0 ≡ wanted → has_other at wanted bytes ≡ false
no_other at wanted bytes e = by_case (nat_lt at (length bytes)) (nat_eq (get_or bytes at 0) wanted) (eq-eqb (get_or bytes at 0) wanted e)
  where
    by_case : (b same : Bool) → same ≡ true → (b && not same) ≡ false
    by_case true true h = refl
    by_case true false h = cc
    by_case false same h = refl

pub is_sealed_by : (n : ℕ) (bytes : List ℕ) → length bytes - 32 ≡ n → is_sealed bytes ≡ true → drop n bytes ≡ sha256 (take n bytes)
unfolding is_sealed
is_sealed_by n bytes size h =
    subst (λ (k : ℕ). drop k bytes ≡ sha256 (take k bytes)) size ((bytes_eq-Decides (drop (length bytes - 32) bytes) (sha256 (take (length bytes - 32) bytes))).0 h)

pub sealed_is : (n : ℕ) (body bytes : List ℕ) → bytes ≡ sealed body → length body ≡ n → length bytes - 32 ≡ n → is_sealed bytes ≡ true
unfolding is_sealed
sealed_is n body bytes e l size =
    let parts = sealed_parts n body l in
    (bytes_eq-Decides (drop (length bytes - 32) bytes) (sha256 (take (length bytes - 32) bytes))).1
    (subst (λ (k : ℕ). drop k bytes ≡ sha256 (take k bytes)) (sym size)
    (subst (λ (b : List ℕ). drop n b ≡ sha256 (take n b)) (sym e) (parts.1 ∙ ap sha256 (sym parts.0))))

-- ---- the receiver's file

pub good_receiver_file : (bytes : List ℕ) → AreBytes bytes → IsGood 0 receiver_file_size bytes → receiver_bytes (receiver_of bytes) ≡ bytes
good_receiver_file bytes small g =
    let long : length bytes ≡ 32848 = eqb-true (length bytes) 32848 g.long in
    receiver_again bytes small long ((bytes_eq-Decides (take 4 bytes) (codes "PSID")).0 g.magic) (byte_is 4 2 bytes (omega arith) g.version) (byte_is 5 0 bytes (omega arith) g.kind) (is_sealed_by 32816 bytes (omega arith) g.seal)

pub good_receiver : (bytes : List ℕ) → AreBytes bytes → IsGood 0 receiver_file_size bytes → IsReceiverDeal (receiver_of bytes)
good_receiver bytes small g = receiver_of_sizes bytes small (eqb-true (length bytes) 32848 g.long) g.tag_length g.stash

pub receiver_file_is_good : (deal : ReceiverDeal) → IsReceiverDeal deal → IsGood 0 receiver_file_size (receiver_bytes deal)
receiver_file_is_good deal h =
    let f = receiver_front deal h in
    let bytes : List ℕ = receiver_bytes deal in
    let long : length bytes ≡ 32848 = length-receiver_bytes deal h in
    record {
      magic = (bytes_eq-Decides (take 4 bytes) (codes "PSID")).1 f.magic;
      version = no_other 4 2 bytes f.version;
      kind = no_other 5 0 bytes f.role;
      long = eq-eqb (length bytes) 32848 long;
      tag_length = ap fits_tag_length f.tag_length ∙ h.tag_length;
      stash = ap fits_stash f.stash ∙ h.stash;
      seal = sealed_is 32816 (receiver_body deal) bytes (receiver_sealed deal) (length-receiver_body deal h) (omega arith);
    }

-- ---- the sender's file

pub good_sender_file : (bytes : List ℕ) → AreBytes bytes → IsGood 1 sender_file_size bytes → sender_bytes (sender_of bytes) ≡ bytes
good_sender_file bytes small g =
    let long : length bytes ≡ 16528 = eqb-true (length bytes) 16528 g.long in
    sender_again bytes small long ((bytes_eq-Decides (take 4 bytes) (codes "PSID")).0 g.magic) (byte_is 4 2 bytes (omega arith) g.version) (byte_is 5 1 bytes (omega arith) g.kind) (is_sealed_by 16496 bytes (omega arith) g.seal)

pub good_sender : (bytes : List ℕ) → AreBytes bytes → IsGood 1 sender_file_size bytes → IsSenderDeal (sender_of bytes)
good_sender bytes small g = sender_of_sizes bytes small (eqb-true (length bytes) 16528 g.long) g.tag_length g.stash

pub sender_file_is_good : (deal : SenderDeal) → IsSenderDeal deal → IsGood 1 sender_file_size (sender_bytes deal)
sender_file_is_good deal h =
    let f = sender_front deal h in
    let bytes : List ℕ = sender_bytes deal in
    let long : length bytes ≡ 16528 = length-sender_bytes deal h in
    record {
      magic = (bytes_eq-Decides (take 4 bytes) (codes "PSID")).1 f.magic;
      version = no_other 4 2 bytes f.version;
      kind = no_other 5 1 bytes f.role;
      long = eq-eqb (length bytes) 16528 long;
      tag_length = ap fits_tag_length f.tag_length ∙ h.tag_length;
      stash = ap fits_stash f.stash ∙ h.stash;
      seal = sealed_is 16496 (sender_body deal) bytes (sender_sealed deal) (length-sender_body deal h) (omega arith);
    }

-- ---- what reading answers

pub receiver_found : (bytes : List ℕ) (result : Result ReceiverDeal BadDeal) → AreBytes bytes → IsJudged (bad_deal 0 receiver_file_size bytes) (receiver_of bytes) result → IfOk result (λ deal. IsReceiverDeal deal × (bytes ≡ receiver_bytes deal))
receiver_found bytes (Ok deal) small h =
    let g : IsGood 0 receiver_file_size bytes = good_from_none 0 receiver_file_size bytes h.0 in
    subst (λ (d : ReceiverDeal). IsReceiverDeal d × (bytes ≡ receiver_bytes d)) (sym h.1) (good_receiver bytes small g, sym (good_receiver_file bytes small g))
receiver_found bytes (Err bad) small h = tt

pub receiver_only : (bytes : List ℕ) (result : Result ReceiverDeal BadDeal) (deal : ReceiverDeal) → IsJudged (bad_deal 0 receiver_file_size bytes) (receiver_of bytes) result → IsReceiverDeal deal → bytes ≡ receiver_bytes deal → IsJudged None deal result
receiver_only bytes result deal h is e =
    let good : IsGood 0 receiver_file_size bytes = subst (IsGood 0 receiver_file_size) (sym e) (receiver_file_is_good deal is) in
    let none : bad_deal 0 receiver_file_size bytes ≡ None = none_from_good 0 receiver_file_size bytes good in
    let same : receiver_of bytes ≡ deal = ap receiver_of e ∙ receiver_files_read_back deal is in
    subst (λ (bad : Option BadDeal). IsJudged bad deal result) none (subst (λ (d : ReceiverDeal). IsJudged (bad_deal 0 receiver_file_size bytes) d result) same h)

pub sender_found : (bytes : List ℕ) (result : Result SenderDeal BadDeal) → AreBytes bytes → IsJudged (bad_deal 1 sender_file_size bytes) (sender_of bytes) result → IfOk result (λ deal. IsSenderDeal deal × (bytes ≡ sender_bytes deal))
sender_found bytes (Ok deal) small h =
    let g : IsGood 1 sender_file_size bytes = good_from_none 1 sender_file_size bytes h.0 in
    subst (λ (d : SenderDeal). IsSenderDeal d × (bytes ≡ sender_bytes d)) (sym h.1) (good_sender bytes small g, sym (good_sender_file bytes small g))
sender_found bytes (Err bad) small h = tt

pub sender_only : (bytes : List ℕ) (result : Result SenderDeal BadDeal) (deal : SenderDeal) → IsJudged (bad_deal 1 sender_file_size bytes) (sender_of bytes) result → IsSenderDeal deal → bytes ≡ sender_bytes deal → IsJudged None deal result
sender_only bytes result deal h is e =
    let good : IsGood 1 sender_file_size bytes = subst (IsGood 1 sender_file_size) (sym e) (sender_file_is_good deal is) in
    let none : bad_deal 1 sender_file_size bytes ≡ None = none_from_good 1 sender_file_size bytes good in
    let same : sender_of bytes ≡ deal = ap sender_of e ∙ sender_files_read_back deal is in
    subst (λ (bad : Option BadDeal). IsJudged bad deal result) none (subst (λ (d : SenderDeal). IsJudged (bad_deal 1 sender_file_size bytes) d result) same h)

-- ---- deals that are made part by part

pub receiver_made : (bytes : List ℕ) (head : Head) (pairs : List Pair) → head.id ≡ take 16 (drop 6 bytes) → head.session ≡ from_be_bytes w64 (take 8 (drop 22 bytes)) → head.key ≡ take 16 (drop 30 bytes) → head.tag_length ≡ get_or bytes 46 0 → head.stash ≡ get_or bytes 47 0 → pairs_of pairs ≡ seed_pairs 512 (drop 48 bytes) → receiver_view head pairs ≡ receiver_of bytes
unfolding receiver_of
receiver_made bytes head pairs id session key tag_length stash seeds =
    λ i. record { id = id i; session = session i; key = key i; tag_length = tag_length i; stash = stash i; seeds = seeds i }

pub sender_made : (bytes : List ℕ) (head : Head) (choice : List ℕ) (seeds : List (List ℕ)) → head.id ≡ take 16 (drop 6 bytes) → head.session ≡ from_be_bytes w64 (take 8 (drop 22 bytes)) → head.key ≡ take 16 (drop 30 bytes) → head.tag_length ≡ get_or bytes 46 0 → head.stash ≡ get_or bytes 47 0 → choice ≡ take 64 (drop 48 bytes) → seeds ≡ seeds_of 512 (drop 112 bytes) → sender_view head choice seeds ≡ sender_of bytes
unfolding sender_of
sender_made bytes head choice seeds id session key tag_length stash word chosen =
    λ i. record { id = id i; session = session i; key = key i; tag_length = tag_length i; stash = stash i; choice = word i; chosen = chosen i }

pub dealt_receiver_made : (seed : List ℕ) (session tag_length stash : ℕ) (head : Head) (pairs : List Pair) → head.id ≡ take 16 (deal_bytes seed) → head.session ≡ session → head.key ≡ take 16 (drop 16 (deal_bytes seed)) → head.tag_length ≡ tag_length → head.stash ≡ stash → pairs_of pairs ≡ seed_pairs 512 (drop 96 (deal_bytes seed)) → receiver_view head pairs ≡ dealt_receiver seed session tag_length stash
unfolding dealt_receiver
dealt_receiver_made seed session tag_length stash head pairs id number key length rows seeds =
    λ i. record { id = id i; session = number i; key = key i; tag_length = length i; stash = rows i; seeds = seeds i }

pub dealt_sender_made : (seed : List ℕ) (session tag_length stash : ℕ) (head : Head) (choice : List ℕ) (seeds : List (List ℕ)) → head.id ≡ take 16 (deal_bytes seed) → head.session ≡ session → head.key ≡ take 16 (drop 16 (deal_bytes seed)) → head.tag_length ≡ tag_length → head.stash ≡ stash → choice ≡ take 64 (drop 32 (deal_bytes seed))
    → seeds ≡ chosen_from (take 64 (drop 32 (deal_bytes seed))) 0 (seed_pairs 512 (drop 96 (deal_bytes seed))) → sender_view head choice seeds ≡ dealt_sender seed session tag_length stash
unfolding dealt_sender
dealt_sender_made seed session tag_length stash head choice seeds id number key length rows word chosen =
    λ i. record { id = id i; session = number i; key = key i; tag_length = length i; stash = rows i; choice = word i; chosen = chosen i }

-- what is answered for a pair is a pair
pub pair_answered : (bad : Option BadDeal) (r : ReceiverDeal) (s : SenderDeal) (result : Result (ReceiverDeal × SenderDeal) BadDeal) → IsJudged bad (r, s) result → ArePair r s → IfOk result (λ deals. ArePair deals.0 deals.1)
pair_answered bad r s (Ok deals) h pair = subst (λ (d : ReceiverDeal × SenderDeal). ArePair d.0 d.1) (sym h.1) pair
pair_answered bad r s (Err refusal) h pair = tt

-- lengths that a deal can have
pub lengths_from_none : (tag_length stash : ℕ) → bad_request tag_length stash ≡ None → (fits_tag_length tag_length ≡ true) × (fits_stash stash ≡ true)
lengths_from_none tag_length stash none = by_case (fits_tag_length tag_length) (fits_stash stash) refl refl none
  where
    by_case : (t s : Bool) → fits_tag_length tag_length ≡ t → fits_stash stash ≡ s → cond (not t) (Some (TagBytes tag_length)) (cond (not s) (Some (StashRows stash)) None) ≡ None → (fits_tag_length tag_length ≡ true) × (fits_stash stash ≡ true)
    by_case false s ht hs none = cc
    by_case true false ht hs none = cc
    by_case true true ht hs none = (ht, hs)
