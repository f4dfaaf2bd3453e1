use Rattle.std.proofs.Common.{◌≡◌, ◌≢◌, ◌∙◌, ℕ, List, [], get_or, set, sym, ap, subst, arith, ⊎_elim}
use Rattle.std.proofs.lemmas.Bool.{cases_eq}
use Rattle.std.proofs.lemmas.List.{get_or-set_same, get_or-set_other}
use Rattle.psi_spec.specs.Bits.{bit_of}
use Rattle.psi_lanes.proofs.flips_back.load_strip.Goals as goal

pub loop-j-preserved : goal.loop-j-preserved
loop-j-preserved c k i p l =
    let strip = c.loop-j.strip in
    let words = c.args.words.now in
    let j = c.loop-j.j in
    let bytes = c.word_bytes.result in
    ⊎_elim
    (λ (e : k ≡ j). subst (λ (n : ℕ). bit_of (get_or (set strip j bytes) n []) i ≡ bit_of (get_or words n []) i) (sym e)
    (ap (λ (row : List ℕ). bit_of row i) (get_or-set_same strip j bytes [] (omega arith)) ∙ c.word_bytes.ensures i l))
    (λ (ne : k ≢ j). ap (λ (row : List ℕ). bit_of row i) (get_or-set_other strip j k bytes [] ne) ∙ c.loop-j.invariant k i (omega arith) l)
    (cases_eq k j)
