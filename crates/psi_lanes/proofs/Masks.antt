-- The masks of the six exchanges, place by place.
use Rattle.std.proofs.Common.{◌≡◌, ◌<◌, ◌≤◌, ℕ, ◌-◌, ◌/◌, ◌%◌, suc, zero, Bool, true, false, cond, eqb, eqb-true, refl, subst, arith, ⊎_elim}
use Rattle.std.specs.Int.{bit_at}
use Rattle.std.proofs.lemmas.Bool.{cases_lt}
use Rattle.psi_lanes.specs.Tile.{IsMask}

-- whether the places below n are as a mask has them
fits_below : ℕ → ℕ → ℕ → Bool
fits_below shift mask zero = true
fits_below shift mask (suc n) = cond (eqb (bit_at mask n) (1 - n / shift % 2)) (fits_below shift mask n) false

split : (b c : Bool) → cond b c false ≡ true → (b ≡ true) × (c ≡ true)
split true c e = (refl, e)
split false c e = cc

fits_at : (shift mask n : ℕ) → fits_below shift mask n ≡ true → (j : ℕ) → j < n → bit_at mask j ≡ 1 - j / shift % 2
unfolding fits_below
fits_at shift mask zero e j l = absurd (omega arith)
fits_at shift mask (suc n) e j l =
    let both = split (eqb (bit_at mask n) (1 - n / shift % 2)) (fits_below shift mask n) e in
    ⊎_elim (λ (p : j < n). fits_at shift mask n both.1 j p)
    (λ (p : n ≤ j). let same : n ≡ j = omega arith in
    let P : ℕ → Type 0 = λ i. bit_at mask i ≡ 1 - i / shift % 2 in
    subst P same (eqb-true (bit_at mask n) (1 - n / shift % 2) both.0))
    (cases_lt j n)

pub mask32 : IsMask 32 0x00000000ffffffff
unfolding fits_below
mask32 = fits_at 32 0x00000000ffffffff 64 refl

pub mask16 : IsMask 16 0x0000ffff0000ffff
unfolding fits_below
mask16 = fits_at 16 0x0000ffff0000ffff 64 refl

pub mask8 : IsMask 8 0x00ff00ff00ff00ff
unfolding fits_below
mask8 = fits_at 8 0x00ff00ff00ff00ff 64 refl

pub mask4 : IsMask 4 0x0f0f0f0f0f0f0f0f
unfolding fits_below
mask4 = fits_at 4 0x0f0f0f0f0f0f0f0f 64 refl

pub mask2 : IsMask 2 0x3333333333333333
unfolding fits_below
mask2 = fits_at 2 0x3333333333333333 64 refl

pub mask1 : IsMask 1 0x5555555555555555
unfolding fits_below
mask1 = fits_at 1 0x5555555555555555 64 refl
