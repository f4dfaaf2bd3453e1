-- A file of version 1 without a fault spells a deal, and the file of version 1 of a deal has no fault.
use Rattle.std.proofs.Common.{◌≡◌, ◌<◌, ◌≤◌, ◌&&◌, ◌∙◌, ℕ, Bool, true, false, not, cond, List, length, take, drop, get_or, nat_eq, nat_lt, codes, Option, Some, None, Result, Ok, Err, IfOk, refl, sym, ap, subst, arith, eq-eqb}
use Rattle.std.specs.Int.{w64, from_be_bytes}
use Rattle.std.proofs.lemmas.Bool.{eqb-true, eqb-false, ltb-false, lt-ltb, le-ltb}
use Rattle.std.proofs.lemmas.Slice.Eq.{bytes_eq-Decides}
use Rattle.psi_spec.specs.Limits.{usual_stash}
use Rattle.psi_spec.specs.Deals.{ReceiverDeal, SenderDeal, fits_tag_length, seed_pairs}
use Rattle.psi_spec.specs.DealFiles.{has_magic, has_other, is_sealed, seeds_of}
use Rattle.psi_spec.specs.OldDealFiles.{old_version, old_receiver_bytes, old_sender_bytes, IsOldReceiverFile, IsOldSenderFile, old_receiver_of, old_sender_of}
use Rattle.psi_spec.proofs.Packing.{AreBytes}
use Rattle.psi_spec.proofs.OldDealFiles.{old_receiver_body, old_receiver_sealed, old_receiver_front, length-old_receiver_body, length-old_receiver_bytes, old_receiver_again, old_receiver_of_sizes, old_receiver_stash, old_receiver_files_read_back, old_sender_body, old_sender_sealed, old_sender_front, length-old_sender_body, length-old_sender_bytes, old_sender_again, old_sender_of_sizes, old_sender_stash, old_sender_files_read_back}
use Rattle.psi_deal.specs.declared.errors.BadDeal.{BadDeal}
use Rattle.psi_deal.specs.declared.errors.BadDeal.TheVariants.{Magic, Version, Role, Length, TagBytes, Seal}
use Rattle.psi_deal.specs.declared.role.Role.{Role as Kind}
use Rattle.psi_deal.specs.declared.role.Role.TheVariants as kind
use Rattle.psi_deal.specs.declared.old_files.OldDeal.{OldDeal}
use Rattle.psi_deal.specs.declared.old_files.OldDeal.TheVariants.{Receiver, Sender}
use Rattle.psi_deal.specs.Roles.{old_role_size, named_role}
use Rattle.psi_deal.specs.BadDeals.{has_above, bad_old_deal, IsJudged}
use Rattle.psi_deal.specs.OldDeals.{IsOldFile, old_deal_for, old_deal_of}
use Rattle.psi_deal.specs.declared.head.Head.{Head}
use Rattle.psi_deal.specs.declared.seeds.SeedPair.{SeedPair as Pair}
use Rattle.psi_deal.specs.Pairs.{pairs_of, receiver_view, sender_view}
use Rattle.psi_deal.proofs.Faultless.{byte_is, no_other, is_sealed_by, sealed_is}

-- every test of the reader goes well
pub record IsGoodOld (bytes : List ℕ) : Type 0 where
  pub magic : has_magic bytes ≡ true
  pub version : has_other 4 old_version bytes ≡ false
  pub kind : has_above 5 1 bytes ≡ false
  pub long : nat_eq (length bytes) (old_role_size (named_role bytes)) ≡ true
  pub tag_length : fits_tag_length (get_or bytes 46 0) ≡ true
  pub seal : is_sealed bytes ≡ true

chain : Bool → Bool → Bool → Bool → Bool → Bool → List ℕ → Option BadDeal
chain m v r l t e bytes =
    cond (not m) (Some Magic)
    (cond v (Some (Version (get_or bytes 4 0)))
    (cond r (Some (Role (get_or bytes 5 0)))
    (cond (not l) (Some (Length (length bytes)))
    (cond (not t) (Some (TagBytes (get_or bytes 46 0)))
    (cond (not e) (Some Seal) None)))))

pub good_old_from_none : (bytes : List ℕ) → bad_old_deal bytes ≡ None → IsGoodOld bytes
unfolding chain
good_old_from_none bytes none =
    by_case (has_magic bytes) (has_other 4 old_version bytes) (has_above 5 1 bytes) (nat_eq (length bytes) (old_role_size (named_role bytes))) (fits_tag_length (get_or bytes 46 0)) (is_sealed bytes) refl refl refl refl refl refl none
  where
    by_case : (m v r l t e : Bool) → has_magic bytes ≡ m → has_other 4 old_version bytes ≡ v → has_above 5 1 bytes ≡ r → nat_eq (length bytes) (old_role_size (named_role bytes)) ≡ l → fits_tag_length (get_or bytes 46 0) ≡ t → is_sealed bytes ≡ e
        → chain m v r l t e bytes ≡ None → IsGoodOld bytes
    by_case false v r l t e hm hv hr hl ht he none = cc
    by_case true true r l t e hm hv hr hl ht he none = cc
    by_case true false true l t e hm hv hr hl ht he none = cc
    by_case true false false false t e hm hv hr hl ht he none = cc
    by_case true false false true false e hm hv hr hl ht he none = cc
    by_case true false false true true false hm hv hr hl ht he none = cc
    by_case true false false true true true hm hv hr hl ht he none =
        record { magic = hm; version = hv; kind = hr; long = hl; tag_length = ht; seal = he }

none_from_good_old : (bytes : List ℕ) → IsGoodOld bytes → bad_old_deal bytes ≡ None
unfolding chain
none_from_good_old bytes g =
    λ i. chain (g.magic i) (g.version i) (g.kind i) (g.long i) (g.tag_length i) (g.seal i) bytes

-- ---- what a good file has

old_length : (bytes : List ℕ) (kind : Kind) → IsGoodOld bytes → named_role bytes ≡ kind → length bytes ≡ old_role_size kind
old_length bytes kind g e =
    eqb-true (length bytes) (old_role_size (named_role bytes)) g.long ∙ ap old_role_size e

receiver_byte : (bytes : List ℕ) → named_role bytes ≡ kind.Receiver → get_or bytes 5 0 ≡ 0
receiver_byte bytes e = by_case (nat_eq (get_or bytes 5 0) 0) refl e
  where
    by_case : (b : Bool) → nat_eq (get_or bytes 5 0) 0 ≡ b → cond b kind.Receiver kind.Sender ≡ kind.Receiver → get_or bytes 5 0 ≡ 0
    by_case true h e = eqb-true (get_or bytes 5 0) 0 h
    by_case false h e = cc

sender_byte : (bytes : List ℕ) → 5 < length bytes → has_above 5 1 bytes ≡ false → named_role bytes ≡ kind.Sender → get_or bytes 5 0 ≡ 1
sender_byte bytes long few e =
    by_case (nat_eq (get_or bytes 5 0) 0) (nat_lt 5 (length bytes)) (nat_lt 1 (get_or bytes 5 0)) refl (lt-ltb 5 (length bytes) long) refl few e
  where
    by_case : (z b m : Bool) → nat_eq (get_or bytes 5 0) 0 ≡ z → b ≡ true → nat_lt 1 (get_or bytes 5 0) ≡ m → (b && m) ≡ false → cond z kind.Receiver kind.Sender ≡ kind.Sender → get_or bytes 5 0 ≡ 1
    by_case true b m hz hb hm few e = cc
    by_case false true true hz hb hm few e = cc
    by_case false true false hz hb hm few e =
        let other = eqb-false (get_or bytes 5 0) 0 hz in
        omega (arith, other, ltb-false 1 (get_or bytes 5 0) hm)
    by_case false false m hz hb hm few e = cc

names_receiver : (bytes : List ℕ) → get_or bytes 5 0 ≡ 0 → named_role bytes ≡ kind.Receiver
names_receiver bytes e = ap (λ (byte : ℕ). cond (nat_eq byte 0) kind.Receiver kind.Sender) e

names_sender : (bytes : List ℕ) → get_or bytes 5 0 ≡ 1 → named_role bytes ≡ kind.Sender
names_sender bytes e = ap (λ (byte : ℕ). cond (nat_eq byte 0) kind.Receiver kind.Sender) e

none_above : (at most : ℕ) (bytes : List ℕ) → get_or bytes at 0 ≤ most → has_above at most bytes ≡ false
none_above at most bytes few = by_case (nat_lt at (length bytes)) (nat_lt most (get_or bytes at 0)) (le-ltb most (get_or bytes at 0) few)
  where
    by_case : (b m : Bool) → m ≡ false → (b && m) ≡ false
    by_case true m h = h
    by_case false m h = refl

-- ---- the receiver's file

pub good_old_receiver : (bytes : List ℕ) → AreBytes bytes → IsGoodOld bytes → named_role bytes ≡ kind.Receiver → IsOldReceiverFile (old_receiver_of bytes) bytes
good_old_receiver bytes small g e =
    let long : length bytes ≡ 32847 = old_length bytes kind.Receiver g e in
    record {
      sizes = old_receiver_of_sizes bytes small long g.tag_length;
      stash = old_receiver_stash bytes;
      is = sym (old_receiver_again bytes small long ((bytes_eq-Decides (take 4 bytes) (codes "PSID")).0 g.magic) (byte_is 4 1 bytes (omega arith) g.version) (receiver_byte bytes e) (is_sealed_by 32815 bytes (omega arith) g.seal));
    }

old_receiver_file_is_good : (deal : ReceiverDeal) (bytes : List ℕ) → IsOldReceiverFile deal bytes → IsGoodOld bytes × (named_role bytes ≡ kind.Receiver)
old_receiver_file_is_good deal bytes file =
    let h = file.sizes in
    let f = old_receiver_front deal h in
    let old : List ℕ = old_receiver_bytes deal in
    let long : length old ≡ 32847 = length-old_receiver_bytes deal h in
    let named : named_role old ≡ kind.Receiver = names_receiver old f.role in
    let good : IsGoodOld old = record {
      magic = (bytes_eq-Decides (take 4 old) (codes "PSID")).1 f.magic;
      version = no_other 4 1 old f.version;
      kind = none_above 5 1 old (omega (arith, f.role));
      long = eq-eqb (length old) (old_role_size (named_role old)) (long ∙ ap old_role_size (sym named));
      tag_length = ap fits_tag_length f.tag_length ∙ h.tag_length;
      seal = sealed_is 32815 (old_receiver_body deal) old (old_receiver_sealed deal) (length-old_receiver_body deal h) (omega arith);
    } in
    subst (λ (b : List ℕ). IsGoodOld b × (named_role b ≡ kind.Receiver)) (sym file.is) (good, named)

-- ---- the sender's file

pub good_old_sender : (bytes : List ℕ) → AreBytes bytes → IsGoodOld bytes → named_role bytes ≡ kind.Sender → IsOldSenderFile (old_sender_of bytes) bytes
good_old_sender bytes small g e =
    let long : length bytes ≡ 16527 = old_length bytes kind.Sender g e in
    record {
      sizes = old_sender_of_sizes bytes small long g.tag_length;
      stash = old_sender_stash bytes;
      is = sym (old_sender_again bytes small long ((bytes_eq-Decides (take 4 bytes) (codes "PSID")).0 g.magic) (byte_is 4 1 bytes (omega arith) g.version) (sender_byte bytes (omega arith) g.kind e) (is_sealed_by 16495 bytes (omega arith) g.seal));
    }

old_sender_file_is_good : (deal : SenderDeal) (bytes : List ℕ) → IsOldSenderFile deal bytes → IsGoodOld bytes × (named_role bytes ≡ kind.Sender)
old_sender_file_is_good deal bytes file =
    let h = file.sizes in
    let f = old_sender_front deal h in
    let old : List ℕ = old_sender_bytes deal in
    let long : length old ≡ 16527 = length-old_sender_bytes deal h in
    let named : named_role old ≡ kind.Sender = names_sender old f.role in
    let good : IsGoodOld old = record {
      magic = (bytes_eq-Decides (take 4 old) (codes "PSID")).1 f.magic;
      version = no_other 4 1 old f.version;
      kind = none_above 5 1 old (omega (arith, f.role));
      long = eq-eqb (length old) (old_role_size (named_role old)) (long ∙ ap old_role_size (sym named));
      tag_length = ap fits_tag_length f.tag_length ∙ h.tag_length;
      seal = sealed_is 16495 (old_sender_body deal) old (old_sender_sealed deal) (length-old_sender_body deal h) (omega arith);
    } in
    subst (λ (b : List ℕ). IsGoodOld b × (named_role b ≡ kind.Sender)) (sym file.is) (good, named)

-- ---- what is spelled

spelled : (bytes : List ℕ) (k : Kind) → named_role bytes ≡ k → old_deal_of bytes ≡ old_deal_for k bytes
spelled bytes k e = ap (λ (r : Kind). old_deal_for r bytes) e

old_file_for : (bytes : List ℕ) (k : Kind) → AreBytes bytes → IsGoodOld bytes → named_role bytes ≡ k → IsOldFile (old_deal_for k bytes) bytes
old_file_for bytes kind.Receiver small g e = good_old_receiver bytes small g e
old_file_for bytes kind.Sender small g e = good_old_sender bytes small g e

pub good_old_file : (bytes : List ℕ) → AreBytes bytes → bad_old_deal bytes ≡ None → IsOldFile (old_deal_of bytes) bytes
good_old_file bytes small none = old_file_for bytes (named_role bytes) small (good_old_from_none bytes none) refl

pub old_file_spells : (deal : OldDeal) (bytes : List ℕ) → IsOldFile deal bytes → (bad_old_deal bytes ≡ None) × (old_deal_of bytes ≡ deal)
old_file_spells (Receiver deal) bytes file =
    let good = old_receiver_file_is_good deal bytes file in
    (none_from_good_old bytes good.0, spelled bytes kind.Receiver good.1 ∙ ap Receiver (old_receiver_files_read_back deal bytes file))
old_file_spells (Sender deal) bytes file =
    let good = old_sender_file_is_good deal bytes file in
    (none_from_good_old bytes good.0, spelled bytes kind.Sender good.1 ∙ ap Sender (old_sender_files_read_back deal bytes file))

-- ---- what reading answers

pub old_found : (bytes : List ℕ) (result : Result OldDeal BadDeal) → AreBytes bytes → IsJudged (bad_old_deal bytes) (old_deal_of bytes) result → IfOk result (λ deal. IsOldFile deal bytes)
old_found bytes (Ok deal) small h =
    subst (λ (d : OldDeal). IsOldFile d bytes) (sym h.1) (good_old_file bytes small h.0)
old_found bytes (Err bad) small h = tt

pub old_only : (bytes : List ℕ) (result : Result OldDeal BadDeal) (deal : OldDeal) → IsJudged (bad_old_deal bytes) (old_deal_of bytes) result → IsOldFile deal bytes → IsJudged None deal result
old_only bytes result deal h file =
    let spelled = old_file_spells deal bytes file in
    subst (λ (bad : Option BadDeal). IsJudged bad deal result) spelled.0 (subst (λ (d : OldDeal). IsJudged (bad_old_deal bytes) d result) spelled.1 h)

-- ---- deals that are made part by part

pub old_receiver_made : (bytes : List ℕ) (head : Head) (pairs : List Pair) → head.id ≡ take 16 (drop 6 bytes) → head.session ≡ from_be_bytes w64 (take 8 (drop 22 bytes)) → head.key ≡ take 16 (drop 30 bytes) → head.tag_length ≡ get_or bytes 46 0 → head.stash ≡ usual_stash → pairs_of pairs ≡ seed_pairs 512 (drop 47 bytes) → receiver_view head pairs ≡ old_receiver_of bytes
unfolding old_receiver_of
old_receiver_made bytes head pairs id session key tag_length stash seeds =
    λ i. record { id = id i; session = session i; key = key i; tag_length = tag_length i; stash = stash i; seeds = seeds i }

pub old_sender_made : (bytes : List ℕ) (head : Head) (choice : List ℕ) (seeds : List (List ℕ)) → head.id ≡ take 16 (drop 6 bytes) → head.session ≡ from_be_bytes w64 (take 8 (drop 22 bytes)) → head.key ≡ take 16 (drop 30 bytes) → head.tag_length ≡ get_or bytes 46 0 → head.stash ≡ usual_stash → choice ≡ take 64 (drop 47 bytes) → seeds ≡ seeds_of 512 (drop 111 bytes) → sender_view head choice seeds ≡ old_sender_of bytes
unfolding old_sender_of
old_sender_made bytes head choice seeds id session key tag_length stash word chosen =
    λ i. record { id = id i; session = session i; key = key i; tag_length = tag_length i; stash = stash i; choice = word i; chosen = chosen i }
