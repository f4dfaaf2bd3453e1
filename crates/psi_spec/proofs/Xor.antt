-- The laws of the exclusive or of byte lists, and of masks over them.
use Rattle.std.proofs.Common.{◌≡◌, ◌+◌, ◌/◌, ◌%◌, ◌<◌, ◌≤◌, ℕ, suc, zero, List, [], ◌∷◌, length, replicate, get_or, min, refl, sym, ap, ◌∙◌, arith, bit_and}
use Rattle.std.specs.Int.{bit_at}
use Rattle.std.specs.Int.Bits.{bit_xor, xor_self, xor_zero_r, xor_assoc}
use Rattle.std.specs.Simd.Lanes.{zip2}
use Rattle.std.proofs.lemmas.Nat.{xor_comm, and_comm}
use Rattle.std.proofs.lemmas.Nat.Bits.{bit_at-lt, bit_at_and, bit_at_xor, same_from_bits}
use Rattle.psi_spec.specs.Bits.{bit_of, xor, both}

-- ---- lengths and elements

pub length-zip2_min : (f : ℕ → ℕ → ℕ) (a b : List ℕ) → length (zip2 f a b) ≡ min (length a) (length b)
length-zip2_min f [] b = omega arith
length-zip2_min f (x ∷ a) [] = omega arith
length-zip2_min f (x ∷ a) (y ∷ b) = omega (arith, length-zip2_min f a b)

pub length-xor : (n : ℕ) (a b : List ℕ) → length a ≡ n → length b ≡ n → length (xor a b) ≡ n
length-xor n a b ha hb = omega (arith, length-zip2_min bit_xor a b)

pub length-both : (n : ℕ) (a b : List ℕ) → length a ≡ n → length b ≡ n → length (both a b) ≡ n
length-both n a b ha hb = omega (arith, length-zip2_min bit_and a b)

-- ---- exclusive or

pub xor-assoc : (a b c : List ℕ) → xor (xor a b) c ≡ xor a (xor b c)
xor-assoc [] b c = refl
xor-assoc (x ∷ a) [] c = refl
xor-assoc (x ∷ a) (y ∷ b) [] = refl
xor-assoc (x ∷ a) (y ∷ b) (z ∷ c) = let t = xor_assoc x y z in let ts : xor (xor a b) c ≡ xor a (xor b c) = xor-assoc a b c in cc

pub xor-comm : (a b : List ℕ) → xor a b ≡ xor b a
xor-comm [] [] = refl
xor-comm [] (y ∷ b) = refl
xor-comm (x ∷ a) [] = refl
xor-comm (x ∷ a) (y ∷ b) = let t = xor_comm x y in let ts : xor a b ≡ xor b a = xor-comm a b in cc

pub xor-self : (a : List ℕ) → xor a a ≡ replicate (length a) 0
xor-self [] = refl
xor-self (x ∷ a) = let t = xor_self x in let ts : xor a a ≡ replicate (length a) 0 = xor-self a in cc

pub xor-zeros : (n : ℕ) (a : List ℕ) → length a ≤ n → xor a (replicate n 0) ≡ a
xor-zeros n [] l = refl
xor-zeros zero (x ∷ a) l = absurd (omega arith)
xor-zeros (suc n) (x ∷ a) l = let t = xor_zero_r x in let ts : xor a (replicate n 0) ≡ a = xor-zeros n a (omega arith) in cc

pub zeros-xor : (n : ℕ) (a : List ℕ) → length a ≤ n → xor (replicate n 0) a ≡ a
zeros-xor n a l = xor-comm (replicate n 0) a ∙ xor-zeros n a l

-- what is put in twice is out again
pub xor-twice : (a b : List ℕ) → length a ≤ length b → xor (xor a b) b ≡ a
xor-twice a b l = xor-assoc a b b ∙ (ap (xor a) (xor-self b) ∙ xor-zeros (length b) a l)

-- ---- masks

pub both-comm : (a b : List ℕ) → both a b ≡ both b a
both-comm [] [] = refl
both-comm [] (y ∷ b) = refl
both-comm (x ∷ a) [] = refl
both-comm (x ∷ a) (y ∷ b) = let t = and_comm x y in let ts : both a b ≡ both b a = both-comm a b in cc

and_zero : (x : ℕ) → bit_and x 0 ≡ 0
and_zero x = and_comm x 0

pub both-zeros : (n : ℕ) (s : List ℕ) → length s ≡ n → both s (replicate n 0) ≡ replicate n 0
both-zeros zero [] l = refl
both-zeros (suc n) [] l = absurd (omega arith)
both-zeros zero (x ∷ s) l = absurd (omega arith)
both-zeros (suc n) (x ∷ s) l = let t = and_zero x in let ts : both s (replicate n 0) ≡ replicate n 0 = both-zeros n s (omega arith) in cc

pub zeros-both : (n : ℕ) (s : List ℕ) → length s ≡ n → both (replicate n 0) s ≡ replicate n 0
zeros-both n s l = both-comm (replicate n 0) s ∙ both-zeros n s l

bit_shared : (s x y : ℕ) → s < 2 → x < 2 → y < 2 → min s ((x + y) % 2) ≡ (min s x + min s y) % 2
bit_shared s x y ls lx ly = omega arith

-- the bits shared with an exclusive or
pub and_xor : (s x y : ℕ) → bit_and s (bit_xor x y) ≡ bit_xor (bit_and s x) (bit_and s y)
and_xor s x y = same_from_bits (bit_and s (bit_xor x y)) (bit_xor (bit_and s x) (bit_and s y)) (λ i.
    let whole = bit_at_and s (bit_xor x y) i in
    let inner = bit_at_xor x y i in
    let outer = bit_at_xor (bit_and s x) (bit_and s y) i in
    let left = bit_at_and s x i in
    let right = bit_at_and s y i in
    let shared = bit_shared (bit_at s i) (bit_at x i) (bit_at y i) (bit_at-lt s i) (bit_at-lt x i) (bit_at-lt y i) in cc)

pub both-xor : (s a b : List ℕ) → both s (xor a b) ≡ xor (both s a) (both s b)
both-xor [] a b = refl
both-xor (z ∷ s) [] b = refl
both-xor (z ∷ s) (x ∷ a) [] = refl
both-xor (z ∷ s) (x ∷ a) (y ∷ b) = let t = and_xor z x y in let ts : both s (xor a b) ≡ xor (both s a) (both s b) = both-xor s a b in cc

-- what is put in under a mask joins what is there under it
pub opened : (t s r c : List ℕ) → xor (xor t (both s r)) (both s c) ≡ xor t (both s (xor r c))
opened t s r c = xor-assoc t (both s r) (both s c) ∙ ap (xor t) (sym (both-xor s r c))

-- what is put in under a mask cancels with itself
pub xor_masked_self : (n : ℕ) (t s c : List ℕ) → length t ≡ n → length s ≡ n → length c ≡ n → xor t (both s (xor c c)) ≡ t
xor_masked_self n t s c lt ls lc =
    let zeros : xor c c ≡ replicate n 0 = xor-self c ∙ ap (λ (k : ℕ). replicate k 0) lc in
    ap (λ (x : List ℕ). xor t (both s x)) zeros ∙ (ap (xor t) (both-zeros n s ls) ∙ xor-zeros n t (omega arith))

-- ---- bits

get_or-zip2 : (f : ℕ → ℕ → ℕ) (a b : List ℕ) (i : ℕ) → f 0 0 ≡ 0 → length a ≡ length b → get_or (zip2 f a b) i 0 ≡ f (get_or a i 0) (get_or b i 0)
get_or-zip2 f [] [] i e l = sym e
get_or-zip2 f [] (y ∷ b) i e l = absurd (omega arith)
get_or-zip2 f (x ∷ a) [] i e l = absurd (omega arith)
get_or-zip2 f (x ∷ a) (y ∷ b) zero e l = refl
get_or-zip2 f (x ∷ a) (y ∷ b) (suc i) e l = get_or-zip2 f a b i e (omega arith)

-- byte i of an exclusive or, and of a masked list
pub get_or-xor : (a b : List ℕ) (i : ℕ) → length a ≡ length b → get_or (xor a b) i 0 ≡ bit_xor (get_or a i 0) (get_or b i 0)
get_or-xor a b i l = get_or-zip2 bit_xor a b i (xor_self 0) l

pub get_or-both : (a b : List ℕ) (i : ℕ) → get_or (both a b) i 0 ≡ bit_and (get_or a i 0) (get_or b i 0)
get_or-both [] b i = refl
get_or-both (x ∷ a) [] i = sym (and_zero (get_or (x ∷ a) i 0))
get_or-both (x ∷ a) (y ∷ b) zero = refl
get_or-both (x ∷ a) (y ∷ b) (suc i) = get_or-both a b i

-- bit j of an exclusive or, and of a masked list
pub bit_of-xor : (a b : List ℕ) (j : ℕ) → length a ≡ length b → bit_of (xor a b) j ≡ (bit_of a j + bit_of b j) % 2
bit_of-xor a b j l = ap (λ (x : ℕ). bit_at x (j % 8)) (get_or-xor a b (j / 8) l) ∙ bit_at_xor (get_or a (j / 8) 0) (get_or b (j / 8) 0) (j % 8)

pub bit_of-both : (a b : List ℕ) (j : ℕ) → bit_of (both a b) j ≡ min (bit_of a j) (bit_of b j)
bit_of-both a b j = ap (λ (x : ℕ). bit_at x (j % 8)) (get_or-both a b (j / 8)) ∙ bit_at_and (get_or a (j / 8) 0) (get_or b (j / 8) 0) (j % 8)
