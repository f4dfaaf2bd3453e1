-- What a contract sees of vectors that hold a word of each of eight messages.
use Rattle.std.specs.Prelude.{◌≡◌, ◌<◌, ℕ, List, length, slice_index, map}
use Rattle.std.specs.Simd.Lanes.{Each1}

-- a vector of eight lanes, made of one by f
abbrev pub IsEach1 : (ℕ → ℕ) → List ℕ → List ℕ → Type 0
IsEach1 f x out = (length out ≡ 8) × ((k : ℕ) → k < 8 → slice_index out k ≡ f (slice_index x k))

-- a vector of eight lanes, made of two by f
abbrev pub IsEach2 : (ℕ → ℕ → ℕ) → List ℕ → List ℕ → List ℕ → Type 0
IsEach2 f x y out = (length out ≡ 8) × ((k : ℕ) → k < 8 → slice_index out k ≡ f (slice_index x k) (slice_index y k))

-- a vector of eight lanes, made of three by f
abbrev pub IsEach3 : (ℕ → ℕ → ℕ → ℕ) → List ℕ → List ℕ → List ℕ → List ℕ → Type 0
IsEach3 f x y z out = (length out ≡ 8)
    × ((k : ℕ) → k < 8 → slice_index out k ≡ f (slice_index x k) (slice_index y k) (slice_index z k))

-- a list of n vectors of eight lanes
abbrev pub AreLanes : ℕ → List (List ℕ) → Type 0
AreLanes n vs = (length vs ≡ n) × Each1 (λ v. length v ≡ 8) vs

-- lane k of a list of vectors
abbrev pub lane : ℕ → List (List ℕ) → List ℕ
lane k vs = map (λ v. slice_index v k) vs
