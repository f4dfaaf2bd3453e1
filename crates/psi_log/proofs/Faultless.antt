-- Bytes that are not refused are a record, and a record is not refused.
use Rattle.std.proofs.Common.{◌≡◌, ◌+◌, ◌-◌, ◌≤◌, ◌∙◌, ℕ, Bool, true, false, not, cond, List, length, take, drop, get_or, nat_eq, nat_lt, codes, Option, Some, None, Result, Ok, Err, IfOk, refl, sym, ap, subst, arith, eq-eqb}
use Rattle.std.proofs.lemmas.Bool.{eqb-true, ltb-false, le-ltb}
use Rattle.std.proofs.lemmas.Slice.Eq.{bytes_eq-Decides}
use Rattle.sha2.specs.Sha256.{sha256}
use Rattle.psi_spec.specs.DealFiles.{is_sealed}
use Rattle.psi_spec.specs.Frames.{AreBytes}
use Rattle.psi_spec.specs.Records.{LoggedSession, IsLogged, has_record_magic, has_frame, frame_size, logged_of, record_file}
use Rattle.psi_spec.proofs.Records.{IsRecord, last_at, record_again, record_found, record_has_parts, wire_at}
use Rattle.psi_log.specs.declared.errors.BadRecord.{BadRecord}
use Rattle.psi_log.specs.declared.errors.BadRecord.TheVariants.{Magic, Version, Short, Seal, Trailing}
use Rattle.psi_log.specs.BadRecords.{IsJudged, bad_frame, bad_record}

-- where the seal is to begin
abbrev end_at : List ℕ → ℕ
end_at bytes = last_at bytes + frame_size (drop (last_at bytes) bytes)

-- every test of a reader goes well
record IsGood (bytes : List ℕ) : Type 0 where
  magic : has_record_magic bytes ≡ true
  versioned : nat_lt (length bytes) 5 ≡ false
  version : nat_eq (get_or bytes 4 0) 1 ≡ true
  counted : nat_lt (length bytes) 9 ≡ false
  slots : nat_lt (length bytes) (wire_at bytes) ≡ false
  last : has_frame (drop (last_at bytes) bytes) ≡ true
  room : nat_lt (length bytes) (end_at bytes + 32) ≡ false
  ended : nat_lt (end_at bytes + 32) (length bytes) ≡ false
  seal : is_sealed bytes ≡ true

chain : Bool → Bool → Bool → Bool → Bool → Bool → Bool → Bool → Bool → List ℕ → Option BadRecord
chain m a v b s l r t e bytes =
    cond (not m) (Some Magic)
    (cond a (Some (Short 4))
    (cond (not v) (Some (Version (get_or bytes 4 0)))
    (cond b (Some (Short 5))
    (cond s (Some (Short 9))
    (cond (not l) (Some (bad_frame (last_at bytes) (drop (last_at bytes) bytes)))
    (cond r (Some (Short (end_at bytes)))
    (cond t (Some (Trailing (end_at bytes + 32)))
    (cond (not e) (Some Seal) None))))))))

good_from_none : (bytes : List ℕ) → bad_record bytes ≡ None → IsGood bytes
unfolding chain
good_from_none bytes none =
    by_case (has_record_magic bytes) (nat_lt (length bytes) 5) (nat_eq (get_or bytes 4 0) 1) (nat_lt (length bytes) 9) (nat_lt (length bytes) (wire_at bytes)) (has_frame (drop (last_at bytes) bytes)) (nat_lt (length bytes) (end_at bytes + 32)) (nat_lt (end_at bytes + 32) (length bytes)) (is_sealed bytes)
    refl refl refl refl refl refl refl refl refl none
  where
    by_case : (m a v b s l r t e : Bool) → has_record_magic bytes ≡ m → nat_lt (length bytes) 5 ≡ a → nat_eq (get_or bytes 4 0) 1 ≡ v → nat_lt (length bytes) 9 ≡ b → nat_lt (length bytes) (wire_at bytes) ≡ s → has_frame (drop (last_at bytes) bytes) ≡ l → nat_lt (length bytes) (end_at bytes + 32) ≡ r → nat_lt (end_at bytes + 32) (length bytes) ≡ t → is_sealed bytes ≡ e
        → chain m a v b s l r t e bytes ≡ None → IsGood bytes
    by_case false a v b s l r t e hm ha hv hb hs hl hr ht he none = cc
    by_case true true v b s l r t e hm ha hv hb hs hl hr ht he none = cc
    by_case true false false b s l r t e hm ha hv hb hs hl hr ht he none = cc
    by_case true false true true s l r t e hm ha hv hb hs hl hr ht he none = cc
    by_case true false true false true l r t e hm ha hv hb hs hl hr ht he none = cc
    by_case true false true false false false r t e hm ha hv hb hs hl hr ht he none = cc
    by_case true false true false false true true t e hm ha hv hb hs hl hr ht he none = cc
    by_case true false true false false true false true e hm ha hv hb hs hl hr ht he none = cc
    by_case true false true false false true false false false hm ha hv hb hs hl hr ht he none = cc
    by_case true false true false false true false false true hm ha hv hb hs hl hr ht he none =
        record { magic = hm; versioned = ha; version = hv; counted = hb; slots = hs; last = hl; room = hr; ended = ht; seal = he }

none_from_good : (bytes : List ℕ) → IsGood bytes → bad_record bytes ≡ None
none_from_good bytes g =
    let magic = g.magic in
    let versioned = g.versioned in
    let version = g.version in
    let counted = g.counted in
    let slots = g.slots in
    let last = g.last in
    let room = g.room in
    let ended = g.ended in
    let seal = g.seal in
    rw (magic, versioned, version, counted, slots, last, room, ended, seal) refl

sealed_by_hash : (bytes : List ℕ) → is_sealed bytes ≡ true → drop (length bytes - 32) bytes ≡ sha256 (take (length bytes - 32) bytes)
unfolding is_sealed
sealed_by_hash bytes h = (bytes_eq-Decides (drop (length bytes - 32) bytes) (sha256 (take (length bytes - 32) bytes))).0 h

hash_seals : (bytes : List ℕ) → drop (length bytes - 32) bytes ≡ sha256 (take (length bytes - 32) bytes) → is_sealed bytes ≡ true
unfolding is_sealed
hash_seals bytes h = (bytes_eq-Decides (drop (length bytes - 32) bytes) (sha256 (take (length bytes - 32) bytes))).1 h

-- bytes that are not refused have each part of a record
pub parts_from_none : (bytes : List ℕ) → bad_record bytes ≡ None → IsRecord bytes
parts_from_none bytes none =
    let g = good_from_none bytes none in
    let room = ltb-false (length bytes) (end_at bytes + 32) g.room in
    let ended = ltb-false (end_at bytes + 32) (length bytes) g.ended in
    record {
      magic = (bytes_eq-Decides (take 4 bytes) (codes "PSIR")).0 g.magic;
      version = eqb-true (get_or bytes 4 0) 1 g.version;
      slots = ltb-false (length bytes) (wire_at bytes) g.slots;
      last = g.last;
      whole = omega (arith, room, ended);
      seal = sealed_by_hash bytes g.seal;
    }

-- bytes with each part of a record are not refused
pub none_from_parts : (bytes : List ℕ) → IsRecord bytes → bad_record bytes ≡ None
none_from_parts bytes h =
    let long : 9 ≤ length bytes = omega (arith, h.slots) in
    none_from_good bytes (record {
      magic = (bytes_eq-Decides (take 4 bytes) (codes "PSIR")).1 h.magic;
      versioned = le-ltb (length bytes) 5 (omega arith);
      version = eq-eqb (get_or bytes 4 0) 1 h.version;
      counted = le-ltb (length bytes) 9 long;
      slots = le-ltb (length bytes) (wire_at bytes) h.slots;
      last = h.last;
      room = le-ltb (length bytes) (end_at bytes + 32) (omega (arith, h.whole));
      ended = le-ltb (end_at bytes + 32) (length bytes) (omega (arith, h.whole));
      seal = hash_seals bytes h.seal;
    })

-- ---- what a reader answers

pub answer_is_found : (bytes : List ℕ) (result : Result LoggedSession BadRecord) → AreBytes bytes → IsJudged (bad_record bytes) (logged_of bytes) result
    → IfOk result (λ session. IsLogged session × (bytes ≡ record_file session.slots session.wire))
answer_is_found bytes (Ok session) small h =
    subst (λ (s : LoggedSession). IsLogged s × (bytes ≡ record_file s.slots s.wire)) (sym h.1) (record_found bytes small (parts_from_none bytes h.0))
answer_is_found bytes (Err bad) small h = tt

pub answer_is_only : (bytes : List ℕ) (result : Result LoggedSession BadRecord) (session : LoggedSession) → IsJudged (bad_record bytes) (logged_of bytes) result
    → IsLogged session → bytes ≡ record_file session.slots session.wire → IsJudged None session result
answer_is_only bytes result session h is e =
    let none : bad_record bytes ≡ None = ap bad_record e ∙ none_from_parts (record_file session.slots session.wire) (record_has_parts session is) in
    let same : logged_of bytes ≡ session = ap logged_of e ∙ record_again session is in
    subst (λ (bad : Option BadRecord). IsJudged bad session result) none (subst (λ (s : LoggedSession). IsJudged (bad_record bytes) s result) same h)
