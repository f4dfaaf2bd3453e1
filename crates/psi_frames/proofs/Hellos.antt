-- Hellos: what their bytes spell, and which are right.
use Rattle.std.proofs.Common.{◌≡◌, ◌≤◌, ◌∙◌, ℕ, suc, Bool, true, false, cond, List, [], ◌∷◌, ◌++◌, length, take, drop, nat_lt, Some, None, refl, subst, sym, ap, ap₂, arith, length-drop, length-append, append_assoc}
use Rattle.std.specs.Int.{w32, w64, to_be_bytes, from_be_bytes}
use Rattle.std.specs.Str.{bytes_eq}
use Rattle.std.proofs.lemmas.Bool.{le-ltb, ltb-false}
use Rattle.std.proofs.lemmas.List.{take-append-drop, length-take-le, drop-drop, drop_at, take_all, take_at}
use Rattle.std.proofs.lemmas.Nat.{be_bytes_4, be_bytes_8, from_be_bytes-to_be_bytes_4, from_be_bytes-to_be_bytes_8}
use Rattle.std.proofs.lemmas.Slice.Eq.{bytes_eq-Decides}
use Rattle.psi_spec.specs.Limits.{limit_items}
use Rattle.psi_spec.specs.Frames.{AreBytes, FitsHello, first_wrong, hello_payload}
use Rattle.psi_spec.proofs.Frames.{AreBytes-take, AreBytes-drop, first_right, first_wrong-more}
use Rattle.psi_frames.specs.declared.reasons.Reason.TheVariants as reason
use Rattle.psi_frames.specs.Hello.{IsHelloOf, version_field, deal_field, session_field, count_field, hello_fields, number_fields}
use Rattle.psi_frames.proofs.Headers.{chosen, failed, number_right, right_number, small_4, small_8}

-- the payload of a hello in which nothing is wrong
pub spelled_hello : (id : List ℕ) (session : ℕ) (bytes : List ℕ) → AreBytes bytes → length bytes ≡ 29 → first_wrong (hello_fields id session) bytes ≡ None
    → (hello_payload id session (from_be_bytes w32 (drop 25 bytes)) ≡ bytes) × FitsHello id session (from_be_bytes w32 (drop 25 bytes)) × IsHelloOf id session id session (from_be_bytes w32 (drop 25 bytes))
spelled_hello id session [] small long right = absurd (omega arith)
spelled_hello id session (first ∷ rest) small long right =
    let at_version = first_right version_field (deal_field id ∷ number_fields session) (first ∷ rest) (omega arith) right in
    let is_version : first ≡ 1 = right_number (λ found. reason.Version found) 1 first at_version.0 in
    let small_rest : AreBytes rest = λ i. small (suc i) in
    let sixteen : 16 ≤ length rest = omega (arith, long) in
    let at_deal = first_right (deal_field id) (number_fields session) rest sixteen at_version.1 in
    let is_deal : take 16 rest ≡ id = (bytes_eq-Decides (take 16 rest) id).0 (chosen (bytes_eq (take 16 rest) id) (reason.Deal (take 16 rest)) at_deal.0) in
    let numbers : List ℕ = drop 16 rest in
    let small_numbers : AreBytes numbers = AreBytes-drop 16 rest small_rest in
    let twelve : length numbers ≡ 12 = omega (arith, long, length-drop 16 rest) in
    let eight : 8 ≤ length numbers = omega (arith, twelve) in
    let at_session = first_right (session_field session) (count_field ∷ []) numbers eight at_deal.1 in
    let is_session : from_be_bytes w64 (take 8 numbers) ≡ session = right_number (λ found. reason.Session found) session (from_be_bytes w64 (take 8 numbers)) at_session.0 in
    let last : drop 8 numbers ≡ drop 24 rest = drop-drop 8 16 rest in
    let four : length (drop 24 rest) ≡ 4 = omega (arith, long, length-drop 24 rest) in
    let at_count = first_right count_field [] (drop 8 numbers) (omega (arith, twelve, length-drop 8 numbers)) at_session.1 in
    let counted : nat_lt limit_items (from_be_bytes w32 (take 4 (drop 8 numbers))) ≡ false = failed (nat_lt limit_items (from_be_bytes w32 (take 4 (drop 8 numbers)))) (reason.Count (from_be_bytes w32 (take 4 (drop 8 numbers)))) at_count.0 in
    let is_count : take 4 (drop 8 numbers) ≡ drop 24 rest = ap (take 4) last ∙ take_all 4 (drop 24 rest) (omega (arith, four)) in
    let small_last : AreBytes (drop 24 rest) = AreBytes-drop 24 rest small_rest in (
      ap₂ (λ (v : ℕ) (xs : List ℕ). v ∷ xs) (sym is_version)
          (ap₂ (λ (i s : List ℕ). i ++ s ++ to_be_bytes w32 (from_be_bytes w32 (drop 24 rest))) (sym is_deal)
          (be_bytes_8 (take 8 numbers) session (length-take-le 8 numbers eight) (AreBytes-take 8 numbers small_numbers) (sym is_session))
          ∙ ap (λ (c : List ℕ). take 16 rest ++ take 8 numbers ++ c) (be_bytes_4 (drop 24 rest) _ four small_last refl ∙ sym last)
          ∙ append_assoc (take 16 rest) (take 8 numbers) (drop 8 numbers)
          ∙ ap (λ (n : List ℕ). take 16 rest ++ n) (take-append-drop 8 numbers)
          ∙ take-append-drop 16 rest),
      record {
        id = ap length (sym is_deal) ∙ length-take-le 16 rest sixteen;
        session = let bound = small_8 (take 8 numbers) (AreBytes-take 8 numbers small_numbers) in omega (arith, bound, is_session);
        count = small_4 (drop 24 rest) small_last;
      },
      record {
        deal_is = refl;
        session_is = refl;
        few = subst (λ (xs : List ℕ). from_be_bytes w32 xs ≤ limit_items) is_count (ltb-false limit_items (from_be_bytes w32 (take 4 (drop 8 numbers))) counted);
      },
    )

-- a hello with the expected parts is right
pub hello_right : (id : List ℕ) (session : ℕ) (deal : List ℕ) (number items : ℕ) → FitsHello deal number items → IsHelloOf id session deal number items
    → first_wrong (hello_fields id session) (hello_payload deal number items) ≡ None
hello_right id session deal number items fits parts =
    let numbers : List ℕ = to_be_bytes w64 number ++ to_be_bytes w32 items in
    let split : hello_payload deal number items ≡ 1 ∷ deal ++ numbers = ap (λ (xs : List ℕ). 1 ∷ xs) (append_assoc deal (to_be_bytes w64 number) (to_be_bytes w32 items)) in
    let same_deal : bytes_eq deal id ≡ true = (bytes_eq-Decides deal id).1 parts.deal_is in
    let deal_right : (deal_field id).refuse deal ≡ None = ap (λ (b : Bool). cond b None (Some (reason.Deal deal))) same_deal in
    let same_session : from_be_bytes w64 (to_be_bytes w64 number) ≡ session = from_be_bytes-to_be_bytes_8 number fits.session ∙ parts.session_is in
    let same_count : from_be_bytes w32 (to_be_bytes w32 items) ≡ items = from_be_bytes-to_be_bytes_4 items fits.count in
    let few : nat_lt limit_items (from_be_bytes w32 (to_be_bytes w32 items)) ≡ false = ap (nat_lt limit_items) same_count ∙ le-ltb limit_items items parts.few in
    let count_right : count_field.refuse (to_be_bytes w32 items) ≡ None = ap (λ (b : Bool). cond b (Some (reason.Count (from_be_bytes w32 (to_be_bytes w32 items)))) None) few in
    ap (first_wrong (hello_fields id session)) split
    ∙ first_wrong-more version_field (deal_field id ∷ number_fields session) (1 ∷ []) (deal ++ numbers) refl refl
    (first_wrong-more (deal_field id) (number_fields session) deal numbers fits.id deal_right
    (first_wrong-more (session_field session) (count_field ∷ []) (to_be_bytes w64 number) (to_be_bytes w32 items) refl (number_right (λ found. reason.Session found) session _ same_session)
    (first_wrong-more count_field [] (to_be_bytes w32 items) [] refl count_right refl)))

pub length-hello : (deal : List ℕ) (number items : ℕ) → length deal ≡ 16 → length (hello_payload deal number items) ≡ 29
length-hello deal number items long =
    let front = length-append deal (to_be_bytes w64 number) in
    let whole = length-append (deal ++ to_be_bytes w64 number) (to_be_bytes w32 items) in
    omega (arith, long, front, whole)

-- what the payload of a hello says
pub hello_of : (id : List ℕ) (session : ℕ) (deal : List ℕ) (number items : ℕ) → FitsHello deal number items → first_wrong (hello_fields id session) (hello_payload deal number items) ≡ None
    → (id ≡ deal) × (session ≡ number) × (from_be_bytes w32 (drop 25 (hello_payload deal number items)) ≡ items)
hello_of id session deal number items fits right =
    let numbers : List ℕ = to_be_bytes w64 number ++ to_be_bytes w32 items in
    let rest : List ℕ = deal ++ to_be_bytes w64 number ++ to_be_bytes w32 items in
    let split : rest ≡ deal ++ numbers = append_assoc deal (to_be_bytes w64 number) (to_be_bytes w32 items) in
    let front : take 16 rest ≡ deal = ap (take 16) split ∙ take_at deal numbers 16 fits.id in
    let back : drop 16 rest ≡ numbers = ap (drop 16) split ∙ drop_at deal numbers 16 fits.id in
    let at_version = first_right version_field (deal_field id ∷ number_fields session) (1 ∷ rest) (omega arith) right in
    let long : length rest ≡ 28 = omega (arith, fits.id, ap length split, length-append deal numbers) in
    let at_deal = first_right (deal_field id) (number_fields session) rest (omega (arith, long)) at_version.1 in
    let is_deal : take 16 rest ≡ id = (bytes_eq-Decides (take 16 rest) id).0 (chosen (bytes_eq (take 16 rest) id) (reason.Deal (take 16 rest)) at_deal.0) in
    let right_numbers : first_wrong (number_fields session) numbers ≡ None = ap (first_wrong (number_fields session)) (sym back) ∙ at_deal.1 in
    let at_session = first_right (session_field session) (count_field ∷ []) numbers (omega arith) right_numbers in
    let is_session : from_be_bytes w64 (to_be_bytes w64 number) ≡ session = right_number (λ found. reason.Session found) session _ at_session.0 in
    let last : drop 24 rest ≡ to_be_bytes w32 items = sym (drop-drop 8 16 rest) ∙ ap (drop 8) back in (
      sym is_deal ∙ front,
      sym is_session ∙ from_be_bytes-to_be_bytes_8 number fits.session,
      ap (from_be_bytes w32) last ∙ from_be_bytes-to_be_bytes_4 items fits.count,
    )
