use Rattle.std.proofs.Common.{◌≡◌, ◌∙◌, List, ℕ, length, map, IfOk, sym, ap, subst, arith}
use Rattle.std.proofs.lemmas.List.{take_at, length-map}
use Rattle.psi_spec.specs.PairedRows.{line_word}
use Rattle.psi_pairs.proofs.LineWords.{paired_words_of_none, paired_words_of_some}
use Rattle.psi_pairs.proofs.words.pair_words.Goals as goal

pub returns-then-len-eq0 : goal.returns-then-len-eq0
returns-then-len-eq0 c =
    let key = c.args.key.now in
    let lines = c.args.lines.now in
    let none : length lines ≡ 0 = sym c.len.ensures.len ∙ c.if-len-eq0.true in
    subst (λ (words : List (List ℕ)). IfOk c.with_rows.result (λ rows. rows ≡ words)) (sym (paired_words_of_none key lines none)) c.with_rows.ensures.zero

pub returns : goal.returns
returns c =
    let key = c.args.key.now in
    let lines = c.args.lines.now in
    let out = c.put_all_words.new.out in
    let made : out ≡ map (line_word key) lines = c.put_all_words.ensures in
    take_at out _ (length c.in_ok-rows.rows) (ap length made ∙ (length-map lines (line_word key) ∙ (sym c.len-2.ensures.len ∙ sym c.in_ok-rows.ensures.rows)))
    ∙ (made ∙ sym (paired_words_of_some key lines (omega arith)))
