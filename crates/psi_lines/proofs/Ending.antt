-- The lines of a file by the bytes before the line feed that ends it, where one does.
use Rattle.std.proofs.Common.{◌≡◌, ◌∙◌, ◌<◌, ◌==◌, ℕ, Bool, true, false, cond, ◌&&◌, nat_eq, List, [], ◌∷◌, ◌++◌, length, refl, sym, ap, arith}
use Rattle.std.specs.List.{onto_first}
use Rattle.std.proofs.lemmas.Bool.{ne_eqb}
use Rattle.std.proofs.lemmas.List.{length_push}
use Rattle.std.proofs.lemmas.List.Splits.{length-slice_split}
use Rattle.psi_spec.specs.Items.{lines_of}
use Rattle.psi_spec.specs.PairedLines.{without_empty_end, ended_lines}

and_false : (a b : Bool) → b ≡ false → (a && b) ≡ false
and_false true b e = e
and_false false b e = refl

-- a file has a line
some_line : (bytes : List ℕ) → 0 < length (lines_of bytes)
some_line bytes = omega (arith, length-slice_split (λ b. b == 10) bytes)

-- ---- a line feed at the end

onto_first-append : (x : ℕ) (lines more : List (List ℕ)) → 0 < length lines → onto_first x (lines ++ more) ≡ onto_first x lines ++ more
onto_first-append x [] more l = absurd (omega arith)
onto_first-append x (line ∷ lines) more l = refl

lines_of-feed : (bytes : List ℕ) → lines_of (bytes ++ 10 ∷ []) ≡ lines_of bytes ++ [] ∷ []
lines_of-feed [] = refl
lines_of-feed (b ∷ bytes) = by_case (lines_of-feed bytes) (b == 10)
  where
    by_case : lines_of (bytes ++ 10 ∷ []) ≡ lines_of bytes ++ [] ∷ [] → (feed : Bool)
        → cond feed ([] ∷ lines_of (bytes ++ 10 ∷ [])) (onto_first b (lines_of (bytes ++ 10 ∷ [])))
        ≡ cond feed ([] ∷ lines_of bytes) (onto_first b (lines_of bytes)) ++ [] ∷ []
    by_case e true = ap (λ (lines : List (List ℕ)). [] ∷ lines) e
    by_case e false = ap (onto_first b) e ∙ onto_first-append b (lines_of bytes) ([] ∷ []) (some_line bytes)

without_empty_end-push : (lines : List (List ℕ)) → without_empty_end (lines ++ [] ∷ []) ≡ lines
without_empty_end-push [] = refl
without_empty_end-push (line ∷ lines) =
    let more : nat_eq (length (lines ++ [] ∷ [])) 0 ≡ false = ne_eqb (length (lines ++ [] ∷ [])) 0 (λ e. absurd (omega (arith, e, length_push lines []))) in
    ap (λ (b : Bool). cond b [] (line ∷ without_empty_end (lines ++ [] ∷ []))) (and_false (nat_eq (length line) 0) _ more)
    ∙ ap (λ (rest : List (List ℕ)). line ∷ rest) (without_empty_end-push lines)

pub ended_with_feed : (bytes : List ℕ) → lines_of bytes ≡ ended_lines (bytes ++ 10 ∷ [])
ended_with_feed bytes = sym (ap without_empty_end (lines_of-feed bytes) ∙ without_empty_end-push (lines_of bytes))

-- ---- another byte at the end

-- the last line has a byte
abbrev EndsInByte : List (List ℕ) → Type 0
EndsInByte [] = ⊥
EndsInByte (line ∷ []) = 0 < length line
EndsInByte (line ∷ next ∷ lines) = EndsInByte (next ∷ lines)

nothing_left_out : (lines : List (List ℕ)) → EndsInByte lines → without_empty_end lines ≡ lines
nothing_left_out [] h = absurd h
nothing_left_out (line ∷ []) h =
    let some : nat_eq (length line) 0 ≡ false = ne_eqb (length line) 0 (λ e. absurd (omega (arith, e, h))) in
    ap (λ (b : Bool). cond (b && true) [] (line ∷ [])) some
nothing_left_out (line ∷ next ∷ lines) h =
    let more : nat_eq (length (next ∷ lines)) 0 ≡ false = ne_eqb (length (next ∷ lines)) 0 (λ e. absurd (omega (arith, e))) in
    ap (λ (b : Bool). cond b [] (line ∷ without_empty_end (next ∷ lines))) (and_false (nat_eq (length line) 0) _ more)
    ∙ ap (λ (rest : List (List ℕ)). line ∷ rest) (nothing_left_out (next ∷ lines) h)

ends_after_feed : (lines : List (List ℕ)) → EndsInByte lines → EndsInByte ([] ∷ lines)
ends_after_feed [] h = absurd h
ends_after_feed (line ∷ lines) h = h

ends_with_more : (b : ℕ) (lines : List (List ℕ)) → EndsInByte lines → EndsInByte (onto_first b lines)
ends_with_more b [] h = absurd h
ends_with_more b (line ∷ []) h = omega arith
ends_with_more b (line ∷ next ∷ lines) h = h

ends_in_byte : (bytes : List ℕ) (last : ℕ) → (last == 10) ≡ false → EndsInByte (lines_of (bytes ++ last ∷ []))
ends_in_byte [] last other = by_case (last == 10) other
  where
    by_case : (feed : Bool) → feed ≡ false → EndsInByte (cond feed ([] ∷ [] ∷ []) ((last ∷ []) ∷ []))
    by_case true e = absurd (cc e)
    by_case false e = omega arith
ends_in_byte (b ∷ bytes) last other = by_case (b == 10) (ends_in_byte bytes last other)
  where
    by_case : (feed : Bool) → EndsInByte (lines_of (bytes ++ last ∷ []))
        → EndsInByte (cond feed ([] ∷ lines_of (bytes ++ last ∷ [])) (onto_first b (lines_of (bytes ++ last ∷ []))))
    by_case true h = ends_after_feed (lines_of (bytes ++ last ∷ [])) h
    by_case false h = ends_with_more b (lines_of (bytes ++ last ∷ [])) h

pub ended_with_byte : (bytes : List ℕ) (last : ℕ) → (last == 10) ≡ false → lines_of (bytes ++ last ∷ []) ≡ ended_lines (bytes ++ last ∷ [])
ended_with_byte bytes last other = sym (nothing_left_out (lines_of (bytes ++ last ∷ [])) (ends_in_byte bytes last other))
