-- Lists joined in another grouping.
use Rattle.std.proofs.Common.{◌≡◌, List, ◌++◌, sym, ◌∙◌, ap, append_assoc}

pub joined_four : {X : Type 0} (a b c d : List X) → a ++ b ++ c ++ d ≡ a ++ (b ++ (c ++ d))
joined_four a b c d = append_assoc (a ++ b) c d ∙ append_assoc a b (c ++ d)

pub joined_five : {X : Type 0} (a b c d e : List X) → a ++ b ++ c ++ d ++ e ≡ a ++ (b ++ (c ++ (d ++ e)))
joined_five a b c d e = append_assoc (a ++ b ++ c) d e ∙ joined_four a b c (d ++ e)

pub joined_halves : {X : Type 0} (a b c d : List X) → a ++ (b ++ c) ++ d ≡ a ++ b ++ (c ++ d)
joined_halves a b c d = ap (λ l. l ++ d) (sym (append_assoc a b c)) ∙ append_assoc (a ++ b) c d
