use Rattle.std.proofs.Common.{◌≡◌, ◌∙◌, ◌+◌, ◌++◌, ◌∷◌, [], List, ℕ, sym, ap, subst, length, Err, Some, option_map, rules, arith}
use Rattle.std.proofs.lemmas.Result.{err_from_is_err_and}
use Rattle.psi_spec.specs.Limits.{limit_items}
use Rattle.psi_spec.specs.Items.{normal}
use Rattle.psi_items.specs.Reading.{refusal_of, own_fault}
use Rattle.psi_items.specs.declared.errors.BadItems.TheVariants.{Many}
use Rattle.psi_lines.specs.Reading.{PacksLine}
use Rattle.psi_lines.proofs.Reading.{PacksLine-refused, one_too_many, no_fault}
use Rattle.psi_lines.proofs.lines.add_line.Goals as goal

pub returns-in_err-read : goal.returns-in_err-read
returns-in_err-read c =
    let ends = c.args.ends.now.items in
    let bytes = c.args.bytes.now.items in
    let line = c.args.line.now in
    let bad = c.in_err-read.field-0.0 in
    let count : c.len.result ≡ length ends = omega arith in
    let failed = err_from_is_err_and c.from_residual.result c.from_residual.ensures.1 in
    let same : c.from_residual.result ≡ Err bad = failed.1 ∙ ap Err failed.2 in
    subst (λ result. PacksLine ends bytes line result ends bytes) (sym same)
    (PacksLine-refused ends bytes line bad ends bytes (ap (λ (n : ℕ). option_map (refusal_of (n + 1)) (own_fault line)) (sym count) ∙ c.in_err-read.ensures))

pub returns-then-len-eq-LIMIT_ITEMS : goal.returns-then-len-eq-LIMIT_ITEMS
returns-then-len-eq-LIMIT_ITEMS c =
    let ends = c.args.ends.now.items in
    let count : c.len.result ≡ length ends = omega arith in
    let full : length ends ≡ limit_items = omega arith in
    ap (option_map (refusal_of (length ends + 1))) (one_too_many (length ends) c.args.line.now c.in_ok-read.ensures.0 full)
    ∙ ap (λ (n : ℕ). Some (Many (n + 1))) (sym count)

pub returns : goal.returns
returns c =
    let ends = c.args.ends.now.items in
    let bytes = c.args.bytes.now.items in
    let put : c.push_line.new.bytes.items ≡ bytes ++ c.text.result.now = search rules in
    let ended : c.push_line.new.ends.items ≡ ends ++ length c.push_line.new.bytes.items ∷ [] = search rules in
    let text : c.text.result.now ≡ normal c.args.line.now = c.text.ensures.text ∙ c.in_ok-read.ensures.1 in (
      no_fault (length ends) c.args.line.now c.in_ok-read.ensures.0 (λ full. c.if-len-eq-LIMIT_ITEMS.false (omega (arith, full))),
      put ∙ ap (λ (x : List ℕ). bytes ++ x) text,
      ended,
    )
