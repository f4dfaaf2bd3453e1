use Rattle.std.proofs.Common.{◌≡◌, ◌∙◌, ◌-◌, ap, take, length, reverse, rules, tests}
use Rattle.std.specs.List.{suffix_len}
use Rattle.std.proofs.lemmas.List.Folds.{length-prefix_len}
use Rattle.std.proofs.lemmas.Iterator.Adapters.{YieldsList-from_rev_slice}
use Rattle.std.proofs.lemmas.Iterator.Consumers.{count_from_yields_List}
use Rattle.std.proofs.lemmas.Iterator.Search.{YieldsList-from_take_while}
use Rattle.psi_spec.specs.Items.{is_blank}
use Rattle.psi_items.proofs.lines.without_trailing_blanks.Goals as goal

pub returns : goal.returns
returns c =
    let line = c.args.line.now in
    let blanks : c.count-blanks.result ≡ suffix_len is_blank line =
    count_from_yields_List c.take_while.result _ c.count-blanks.ensures.ran (YieldsList-from_take_while _ is_blank (YieldsList-from_rev_slice line cc) c.take_while.ensures.closure c.take_while.ensures.done (λ x b q k. search (rules, tests)))
    ∙ length-prefix_len is_blank (reverse line) in
    ap (λ n. take (length line - n) line) blanks
