-- An operator on vectors, lane by lane.
use Rattle.std.proofs.Common.{◌≡◌, ◌<◌, ℕ, zero, suc, List, [], ◌∷◌, length, map, slice_index, slice_index_or, replicate, refl, sym, ◌∙◌, ap, ap₂, arith}
use Rattle.std.specs.Simd.Lanes.{zip2}
use Rattle.std.proofs.lemmas.Simd.{length-zip2, get_or-zip2, get_or-replicate}
use Rattle.std.proofs.lemmas.List.{length-map, get_or-map}
use Rattle.psi_lanes.specs.Lanes.{IsEach1, IsEach2, lane}

-- an operator on two vectors
pub each2 : (f : ℕ → ℕ → ℕ) (x y : List ℕ) → length x ≡ 8 → length y ≡ 8 → IsEach2 f x y (zip2 f x y)
each2 f x y lx ly = (
  length-zip2 f x y (lx ∙ sym ly) ∙ lx,
  λ k lt. get_or-zip2 f x y k 0 0 0 (rw lx lt) (rw ly lt),
)

-- an operator on one vector
pub each1 : (f : ℕ → ℕ) (x : List ℕ) → length x ≡ 8 → IsEach1 f x (map f x)
each1 f x lx = (length-map x f ∙ lx, λ k lt. get_or-map f x k 0 0 (rw lx lt))

-- with the same word in each lane of the second
pub splat2 : (f : ℕ → ℕ → ℕ) (x : List ℕ) (n : ℕ) → length x ≡ 8 → IsEach1 (λ a. f a n) x (zip2 f x (replicate 8 n))
splat2 f x n lx =
    let both = each2 f x (replicate 8 n) lx refl in
    (both.0, λ k lt. both.1 k lt ∙ ap (f (slice_index x k)) (get_or-replicate 8 k n 0 lt))

-- an operator on two vectors, each made of one
pub joined : (f : ℕ → ℕ → ℕ) (g h : ℕ → ℕ) (x y z : List ℕ) → IsEach1 g x y → IsEach1 h x z → IsEach1 (λ a. f (g a) (h a)) x (zip2 f y z)
joined f g h x y z ey ez =
    let both = each2 f y z ey.0 ez.0 in
    (both.0, λ k lt. both.1 k lt ∙ ap₂ f (ey.1 k lt) (ez.1 k lt))

-- a word of a lane
pub lane-at : (j i : ℕ) (vs : List (List ℕ)) → i < length vs → slice_index (lane j vs) i ≡ slice_index (slice_index_or vs i []) j
lane-at j i vs lt = get_or-map (λ v. slice_index v j) vs i [] 0 lt

-- eight words that are written out
pub eight : (f : ℕ → ℕ) (a b c d e g h k : ℕ) → a ≡ f 0 → b ≡ f 1 → c ≡ f 2 → d ≡ f 3 → e ≡ f 4 → g ≡ f 5 → h ≡ f 6 → k ≡ f 7
    → (j : ℕ) → j < 8 → slice_index (a ∷ b ∷ c ∷ d ∷ e ∷ g ∷ h ∷ k ∷ []) j ≡ f j
eight f a b c d e g h k p0 p1 p2 p3 p4 p5 p6 p7 zero lt = p0
eight f a b c d e g h k p0 p1 p2 p3 p4 p5 p6 p7 (suc zero) lt = p1
eight f a b c d e g h k p0 p1 p2 p3 p4 p5 p6 p7 (suc (suc zero)) lt = p2
eight f a b c d e g h k p0 p1 p2 p3 p4 p5 p6 p7 (suc (suc (suc zero))) lt = p3
eight f a b c d e g h k p0 p1 p2 p3 p4 p5 p6 p7 (suc (suc (suc (suc zero)))) lt = p4
eight f a b c d e g h k p0 p1 p2 p3 p4 p5 p6 p7 (suc (suc (suc (suc (suc zero))))) lt = p5
eight f a b c d e g h k p0 p1 p2 p3 p4 p5 p6 p7 (suc (suc (suc (suc (suc (suc zero)))))) lt = p6
eight f a b c d e g h k p0 p1 p2 p3 p4 p5 p6 p7 (suc (suc (suc (suc (suc (suc (suc zero))))))) lt = p7
eight f a b c d e g h k p0 p1 p2 p3 p4 p5 p6 p7 (suc (suc (suc (suc (suc (suc (suc (suc n)))))))) lt = absurd (omega arith)
