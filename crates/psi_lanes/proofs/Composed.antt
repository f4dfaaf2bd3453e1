-- Six exchanges are the transposition.
use Rattle.std.proofs.Common.{◌≡◌, ◌<◌, ◌∙◌, ℕ, ◌+◌, ◌*◌, ◌/◌, ◌%◌, List, get_or, ap₂, arith}
use Rattle.std.specs.Int.{bit_at}
use Rattle.psi_lanes.specs.Tile.{IsTransposed, IsExchanged}

-- after the exchanges down to this shift: the high parts of the two indices are exchanged
abbrev IsTurned : ℕ → ℕ → List ℕ → List ℕ → Type 0
IsTurned shift runs old new = (v c : ℕ) → v < 64 → c < 64
    → bit_at (get_or new v 0) c ≡ bit_at (get_or old (c / shift * shift + v / runs) 0) (v % runs * shift + c % shift)

at : (old : List ℕ) (i i' j j' : ℕ) → i ≡ i' → j ≡ j' → bit_at (get_or old i 0) j ≡ bit_at (get_or old i' 0) j'
at old i i' j j' e f = ap₂ (λ n m. bit_at (get_or old n 0) m) e f

turn32 : (a b : List ℕ) → IsExchanged 32 a b → IsTurned 32 2 a b
turn32 a b e v c p q = e v c p q ∙ at a _ _ _ _ (omega arith) (omega arith)

turn16 : (a b d : List ℕ) → IsTurned 32 2 a b → IsExchanged 16 b d → IsTurned 16 4 a d
turn16 a b d t e v c p q = e v c p q ∙ t _ _ (omega arith) (omega arith) ∙ at a _ _ _ _ (omega arith) (omega arith)

turn8 : (a b d : List ℕ) → IsTurned 16 4 a b → IsExchanged 8 b d → IsTurned 8 8 a d
turn8 a b d t e v c p q = e v c p q ∙ t _ _ (omega arith) (omega arith) ∙ at a _ _ _ _ (omega arith) (omega arith)

turn4 : (a b d : List ℕ) → IsTurned 8 8 a b → IsExchanged 4 b d → IsTurned 4 16 a d
turn4 a b d t e v c p q = e v c p q ∙ t _ _ (omega arith) (omega arith) ∙ at a _ _ _ _ (omega arith) (omega arith)

turn2 : (a b d : List ℕ) → IsTurned 4 16 a b → IsExchanged 2 b d → IsTurned 2 32 a d
turn2 a b d t e v c p q = e v c p q ∙ t _ _ (omega arith) (omega arith) ∙ at a _ _ _ _ (omega arith) (omega arith)

turn1 : (a b d : List ℕ) → IsTurned 2 32 a b → IsExchanged 1 b d → IsTransposed a d
turn1 a b d t e v c p q = e v c p q ∙ t _ _ (omega arith) (omega arith) ∙ at a _ _ _ _ (omega arith) (omega arith)

pub transposed : (a b c d e f g : List ℕ)
    → IsExchanged 32 a b → IsExchanged 16 b c → IsExchanged 8 c d → IsExchanged 4 d e → IsExchanged 2 e f → IsExchanged 1 f g
    → IsTransposed a g
transposed a b c d e f g by32 by16 by8 by4 by2 by1 =
    turn1 a f g (turn2 a e f (turn4 a d e (turn8 a c d (turn16 a b c (turn32 a b by32) by16) by8) by4) by2) by1
