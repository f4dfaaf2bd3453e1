-- The lines of collisions, printed one after another.
use Rattle.std.proofs.Common.{◌≡◌, ◌+◌, ◌≤◌, ◌∙◌, ℕ, zero, suc, List, [], ◌∷◌, ◌++◌, length, take, drop, Err, refl, sym, ap, subst, append_assoc}
use Rattle.std.proofs.lemmas.List.{append-nil, take_all}
use Rattle.psi_base.specs.Outside.{Outside, PrintsAll, printed_too}
use Rattle.psi_base.specs.declared.faults.Fault.{Fault}
use Rattle.psi_base.proofs.Printing.{printed_twice, refused_first, then_second}
use Rattle.psi_auditor.specs.Audit.{collision_line, collision_lines}
use Rattle.psi_walk.proofs.Elements.{StandsAt}

-- the lines of both parts are those of the whole
lines_join : (xs ys : List (ℕ × ℕ)) → collision_lines (xs ++ ys) ≡ collision_lines xs ++ collision_lines ys
lines_join [] ys = refl
lines_join (x ∷ xs) ys = ap (λ (rest : List ℕ). collision_line x ++ rest) (lines_join xs ys) ∙ sym (append_assoc (collision_line x) (collision_lines xs) (collision_lines ys))

-- one more line
one_line : (xs : List (ℕ × ℕ)) (i : ℕ) (x : ℕ × ℕ) → StandsAt xs i x → collision_lines (take (i + 1) xs) ≡ collision_lines (take i xs) ++ collision_line x
one_line xs i x at =
    ap collision_lines at.more ∙ lines_join (take i xs) (x ∷ []) ∙ ap (λ (line : List ℕ). collision_lines (take i xs) ++ line) (append-nil (collision_line x))

-- a front and the others are all
parts : {A : Type 0} (n : ℕ) (xs : List A) → xs ≡ take n xs ++ drop n xs
parts zero xs = refl
parts (suc n) [] = refl
parts {A = A} (suc n) (x ∷ xs) = ap (λ (rest : List A). x ∷ rest) (parts n xs)

-- a line was printed behind the ones so far
pub line_printed : (old now new : Outside) (xs : List (ℕ × ℕ)) (i : ℕ) (x : ℕ × ℕ) → StandsAt xs i x
    → now ≡ printed_too old (collision_lines (take i xs)) → new ≡ printed_too now (collision_line x) → new ≡ printed_too old (collision_lines (take (i + 1) xs))
line_printed old now new xs i x at so_far line =
    line ∙ ap (λ (o : Outside). printed_too o (collision_line x)) so_far ∙ printed_twice old (collision_lines (take i xs)) (collision_line x)
    ∙ ap (printed_too old) (sym (one_line xs i x at))

-- a line was refused
pub line_refused : (old now new : Outside) (xs : List (ℕ × ℕ)) (i : ℕ) (x : ℕ × ℕ) (why : Fault) → StandsAt xs i x
    → now ≡ printed_too old (collision_lines (take i xs)) → PrintsAll now (collision_line x) (Err why) new → PrintsAll old (collision_lines xs) (Err why) new
line_refused old now new xs i x why at so_far h =
    let front : List ℕ = collision_lines (take i xs) in
    let others : List ℕ = collision_lines (drop (i + 1) xs) in
    let whole : collision_lines xs ≡ front ++ (collision_line x ++ others) =
    ap collision_lines (parts (i + 1) xs) ∙ lines_join (take (i + 1) xs) (drop (i + 1) xs)
    ∙ ap (λ (lines : List ℕ). lines ++ others) (one_line xs i x at) ∙ append_assoc front (collision_line x) others in
    subst (λ (text : List ℕ). PrintsAll old text (Err why) new) (sym whole)
    (then_second old front (collision_line x ++ others) (Err why) new
    (subst (λ (o : Outside). PrintsAll o (collision_line x ++ others) (Err why) new) so_far (refused_first now (collision_line x) others why new h)))

-- all lines were printed
pub all_printed : (old now : Outside) (xs : List (ℕ × ℕ)) (i : ℕ) → length xs ≤ i → now ≡ printed_too old (collision_lines (take i xs)) → now ≡ printed_too old (collision_lines xs)
all_printed old now xs i past so_far = so_far ∙ ap (λ (all : List (ℕ × ℕ)). printed_too old (collision_lines all)) (take_all i xs past)
