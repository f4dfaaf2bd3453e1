-- The lines of marked items, one after another.
use Rattle.std.proofs.Common.{◌≡◌, ◌+◌, ◌<◌, ◌≤◌, ℕ, zero, suc, Bool, true, false, cond, List, [], ◌∷◌, ◌++◌, length, take, drop, get_or, Err, refl, sym, ap, ap₂, ◌∙◌, subst, arith, append_assoc}
use Rattle.std.proofs.lemmas.List.{append-nil, length-take-le, take_all}
use Rattle.psi_spec.specs.Hits.{marked}
use Rattle.psi_spec.specs.Texts.{lines_text}
use Rattle.psi_base.specs.Outside.{Outside, PrintsAll, printed_too}
use Rattle.psi_base.specs.declared.faults.Fault.{Fault}
use Rattle.psi_base.proofs.Printing.{printed_twice, refused_first, then_second}
use Rattle.psi_walk.proofs.Elements.{StandsAt, line_if}

-- the lines of the first so many items
abbrev pub lines_to : ℕ → List Bool → List (List ℕ) → List ℕ
lines_to i marks xs = lines_text (marked (take i marks) (take i xs))

mark_push : (marks : List Bool) (b : Bool) (xs : List (List ℕ)) (x : List ℕ) → length marks ≡ length xs
    → lines_text (marked (marks ++ b ∷ []) (xs ++ x ∷ [])) ≡ lines_text (marked marks xs) ++ line_if b x
mark_push [] b [] x l = one b
  where
    one : (b : Bool) → lines_text (cond b (x ∷ []) []) ≡ line_if b x
    one true = append-nil (x ++ 10 ∷ [])
    one false = refl
mark_push [] b (y ∷ ys) x l = absurd (omega arith)
mark_push (a ∷ marks) b [] x l = absurd (omega arith)
mark_push (a ∷ marks) b (y ∷ ys) x l = first a (mark_push marks b ys x (omega arith))
  where
    more : List (List ℕ)
    more = marked (marks ++ b ∷ []) (ys ++ x ∷ [])

    first : (a : Bool) → lines_text more ≡ lines_text (marked marks ys) ++ line_if b x
        → lines_text (cond a (y ∷ more) more) ≡ lines_text (cond a (y ∷ marked marks ys) (marked marks ys)) ++ line_if b x
    first true later =
        ap (λ (rest : List ℕ). (y ++ 10 ∷ []) ++ rest) later ∙ sym (append_assoc (y ++ 10 ∷ []) (lines_text (marked marks ys)) (line_if b x))
    first false later = later

-- one more item has its line, or none
one_mark : (marks : List Bool) (xs : List (List ℕ)) (i : ℕ) (b : Bool) (x : List ℕ) → StandsAt marks i b → StandsAt xs i x
    → lines_to (i + 1) marks xs ≡ lines_to i marks xs ++ line_if b x
one_mark marks xs i b x at there =
    let long : length (take i marks) ≡ length (take i xs) =
    let l = at.within in let m = there.within in length-take-le i marks (omega arith) ∙ sym (length-take-le i xs (omega arith)) in
    ap₂ (λ (bs : List Bool) (ys : List (List ℕ)). lines_text (marked bs ys)) at.more there.more ∙ mark_push (take i marks) b (take i xs) x long

-- all lines are the first ones and then the others
lines_on : (n : ℕ) (marks : List Bool) (xs : List (List ℕ)) → lines_text (marked marks xs) ≡ lines_to n marks xs ++ lines_text (marked (drop n marks) (drop n xs))
lines_on zero [] xs = refl
lines_on zero (a ∷ marks) [] = refl
lines_on zero (a ∷ marks) (y ∷ ys) = refl
lines_on (suc n) [] xs = refl
lines_on (suc n) (a ∷ marks) [] = no_items (drop n marks)
  where
    no_items : (bs : List Bool) → [] ≡ lines_text (marked bs [])
    no_items [] = refl
    no_items (b ∷ bs) = refl
lines_on (suc n) (a ∷ marks) (y ∷ ys) = first a (lines_on n marks ys)
  where
    others : List ℕ
    others = lines_text (marked (drop n marks) (drop n ys))

    first : (a : Bool) → lines_text (marked marks ys) ≡ lines_to n marks ys ++ others
        → lines_text (cond a (y ∷ marked marks ys) (marked marks ys)) ≡ lines_text (cond a (y ∷ marked (take n marks) (take n ys)) (marked (take n marks) (take n ys))) ++ others
    first true later = ap (λ (rest : List ℕ). (y ++ 10 ∷ []) ++ rest) later ∙ sym (append_assoc (y ++ 10 ∷ []) (lines_to n marks ys) others)
    first false later = later

-- the mark at a place
pub mark_stands : (marks : List Bool) (i : ℕ) (b : Bool) → i < length marks → get_or marks i false ≡ b → StandsAt marks i b
mark_stands [] i b within e = absurd (omega arith)
mark_stands (a ∷ marks) zero b within e = record { within = omega arith; more = ap (λ (c : Bool). c ∷ []) e }
mark_stands (a ∷ marks) (suc i) b within e =
    let later = mark_stands marks i b (omega arith) e in
    let count : suc i + 1 ≡ suc (i + 1) = omega arith in
    record {
      within = let l = later.within in omega arith;
      more = ap (λ (n : ℕ). take n (a ∷ marks)) count ∙ ap (λ (rest : List Bool). a ∷ rest) later.more;
    }

-- ---- at a step of the loop that prints them

-- the line of a marked item was printed
pub printed_line : (old now new : Outside) (marks : List Bool) (xs : List (List ℕ)) (i : ℕ) (b : Bool) (x : List ℕ) → StandsAt marks i b → StandsAt xs i x → b ≡ true
    → now ≡ printed_too old (lines_to i marks xs) → new ≡ printed_too now (x ++ 10 ∷ []) → new ≡ printed_too old (lines_to (i + 1) marks xs)
printed_line old now new marks xs i b x at there is so_far line =
    line ∙ ap (λ (o : Outside). printed_too o (x ++ 10 ∷ [])) so_far ∙ printed_twice old (lines_to i marks xs) (x ++ 10 ∷ [])
    ∙ ap (printed_too old) (ap (λ (c : Bool). lines_to i marks xs ++ line_if c x) (sym is) ∙ sym (one_mark marks xs i b x at there))

-- an item that is not marked has no line
pub no_line : (old now : Outside) (marks : List Bool) (xs : List (List ℕ)) (i : ℕ) (b : Bool) (x : List ℕ) → StandsAt marks i b → StandsAt xs i x → b ≡ false
    → now ≡ printed_too old (lines_to i marks xs) → now ≡ printed_too old (lines_to (i + 1) marks xs)
no_line old now marks xs i b x at there is so_far =
    so_far
    ∙ ap (printed_too old)
    (sym (append-nil (lines_to i marks xs)) ∙ ap (λ (c : Bool). lines_to i marks xs ++ line_if c x) (sym is) ∙ sym (one_mark marks xs i b x at there))

-- the line of a marked item was refused
pub refused_line : (old now new : Outside) (marks : List Bool) (xs : List (List ℕ)) (i : ℕ) (b : Bool) (x : List ℕ) (why : Fault) → StandsAt marks i b → StandsAt xs i x → b ≡ true
    → now ≡ printed_too old (lines_to i marks xs) → PrintsAll now (x ++ 10 ∷ []) (Err why) new → PrintsAll old (lines_text (marked marks xs)) (Err why) new
refused_line old now new marks xs i b x why at there is so_far h =
    let line : List ℕ = x ++ 10 ∷ [] in
    let others : List ℕ = lines_text (marked (drop (i + 1) marks) (drop (i + 1) xs)) in
    let whole : lines_text (marked marks xs) ≡ lines_to i marks xs ++ (line ++ others) =
    lines_on (i + 1) marks xs ∙ ap (λ (front : List ℕ). front ++ others) (one_mark marks xs i b x at there ∙ ap (λ (c : Bool). lines_to i marks xs ++ line_if c x) is)
    ∙ append_assoc (lines_to i marks xs) line others in
    subst (λ (text : List ℕ). PrintsAll old text (Err why) new) (sym whole)
    (then_second old (lines_to i marks xs) (line ++ others) (Err why) new
    (subst (λ (o : Outside). PrintsAll o (line ++ others) (Err why) new) so_far (refused_first now line others why new h)))

-- all lines were printed
pub all_lines : (old now : Outside) (marks : List Bool) (xs : List (List ℕ)) (i : ℕ) → length marks ≡ length xs → length xs ≤ i
    → now ≡ printed_too old (lines_to i marks xs) → now ≡ printed_too old (lines_text (marked marks xs))
all_lines old now marks xs i long past so_far =
    so_far
    ∙ ap (printed_too old)
    (ap₂ (λ (bs : List Bool) (ys : List (List ℕ)). lines_text (marked bs ys)) (take_all i marks (omega arith)) (take_all i xs past))
