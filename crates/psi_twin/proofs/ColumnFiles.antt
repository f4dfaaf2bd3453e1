-- The file of columns, column by column.
use Rattle.std.proofs.Common.{◌≡◌, ◌+◌, ◌<◌, ◌≤◌, ◌∙◌, ℕ, suc, List, [], ◌∷◌, ◌++◌, length, drop, get_or, sym, ap, ap₂, arith, append_assoc, drop-cons}
use Rattle.std.proofs.lemmas.List.{drop_all}
use Rattle.psi_spec.specs.Changes.{joined_columns}

-- two columns more
pub joined-more : (bytes : List ℕ) (zeros ones : List (List ℕ)) (c : ℕ) → c < length zeros → c < length ones
    → ((bytes ++ get_or zeros c []) ++ get_or ones c []) ++ joined_columns (drop (c + 1) zeros) (drop (c + 1) ones)
    ≡ bytes ++ joined_columns (drop c zeros) (drop c ones)
joined-more bytes zeros ones c lz lo =
    let zero : List ℕ = get_or zeros c [] in
    let one : List ℕ = get_or ones c [] in
    let rest : List ℕ = joined_columns (drop (c + 1) zeros) (drop (c + 1) ones) in
    let next : suc c ≡ c + 1 = omega arith in
    let here : joined_columns (drop c zeros) (drop c ones) ≡ zero ++ one ++ rest =
    ap₂ joined_columns (drop-cons zeros c [] lz ∙ ap (λ (k : ℕ). zero ∷ drop k zeros) next) (drop-cons ones c [] lo ∙ ap (λ (k : ℕ). one ∷ drop k ones) next) in
    ap (λ (front : List ℕ). front ++ rest) (append_assoc bytes zero one) ∙ (append_assoc bytes (zero ++ one) rest ∙ ap (λ (more : List ℕ). bytes ++ more) (sym here))

-- no columns are left past the last
pub joined-past : (zeros ones : List (List ℕ)) (n : ℕ) → length zeros ≤ n → length ones ≤ n → joined_columns (drop n zeros) (drop n ones) ≡ []
joined-past zeros ones n lz lo = ap₂ joined_columns (drop_all n zeros lz) (drop_all n ones lo)
