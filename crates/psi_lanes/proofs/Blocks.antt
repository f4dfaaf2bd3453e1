-- A block that is written over by a function of two blocks, lane by lane.
use Rattle.std.proofs.Common.{◌≡◌, ◌<◌, ◌≤◌, ℕ, ◌+◌, ◌-◌, List, length, slice_index, sym, ◌∙◌, ap₂, subst, arith}
use Rattle.std.specs.Simd.Lanes.{zip2, chunk, put_chunk}
use Rattle.std.proofs.Math.ListN.{get_or}
use Rattle.std.proofs.lemmas.Simd.{length-zip2, length-chunk, get_or-chunk, get_or-zip2, get_or-put_chunk_below, get_or-put_chunk_at, get_or-put_chunk_above}

module _ (f : ℕ → ℕ → ℕ) (at n : ℕ) (xs ys : List ℕ) (x_room : at + n ≤ length xs) (y_room : at + n ≤ length ys) where
  long : length (zip2 f (chunk at n xs) (chunk at n ys)) ≡ n
  long =
      let a = length-chunk at n xs x_room in
      let b = length-chunk at n ys y_room in
      length-zip2 f (chunk at n xs) (chunk at n ys) (a ∙ sym b) ∙ a

  pub inside : (k : ℕ) → at ≤ k → k < at + n
      → slice_index (put_chunk at xs (zip2 f (chunk at n xs) (chunk at n ys))) k ≡ f (slice_index xs k) (slice_index ys k)
  inside k low high =
      let zs = zip2 f (chunk at n xs) (chunk at n ys) in
      let j = k - at in
      let here : at + j ≡ k = omega arith in
      let small : j < n = omega arith in
      let a = length-chunk at n xs x_room in
      let b = length-chunk at n ys y_room in
      let P : ℕ → Type 0 = λ m. get_or (put_chunk at xs zs) m 0 ≡ f (get_or xs m 0) (get_or ys m 0) in
      subst P here (
      get_or-put_chunk_at at xs zs j 0 (rw long small) (rw long x_room)
      ∙ get_or-zip2 f (chunk at n xs) (chunk at n ys) j 0 0 0 (rw a small) (rw b small)
      ∙ ap₂ f (get_or-chunk at n xs j 0 small) (get_or-chunk at n ys j 0 small)
      )

  pub below : (k : ℕ) → k < at → slice_index (put_chunk at xs (zip2 f (chunk at n xs) (chunk at n ys))) k ≡ slice_index xs k
  below k low = get_or-put_chunk_below at xs (zip2 f (chunk at n xs) (chunk at n ys)) k 0 low

  pub above : (k : ℕ) → at + n ≤ k → slice_index (put_chunk at xs (zip2 f (chunk at n xs) (chunk at n ys))) k ≡ slice_index xs k
  above k high = get_or-put_chunk_above at xs (zip2 f (chunk at n xs) (chunk at n ys)) k 0 (rw long high)
