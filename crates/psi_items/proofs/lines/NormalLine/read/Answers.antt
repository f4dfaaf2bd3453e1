use Rattle.std.proofs.Common.{◌≡◌, ◌<◌, ◌∙◌, ap, sym, length, map, find, Some, None, option_map, arith}
use Rattle.std.specs.Char.{to_ascii_lowercase}
use Rattle.std.specs.Str.Lines.{strip_carriage_return}
use Rattle.std.proofs.lemmas.List.{take_at, length-map}
use Rattle.psi_spec.specs.Items.{is_control, normal, trimmed}
use Rattle.psi_spec.specs.Limits.{line_limit}
use Rattle.psi_items.specs.declared.errors.BadItems.TheVariants.{Long}
use Rattle.psi_items.specs.Reading.{refusal_of}
use Rattle.psi_items.proofs.Reading.{own_fault-long, own_fault-none, normal-text, length-normal}
use Rattle.psi_items.proofs.lines.NormalLine.read.Goals as goal

pub returns-then-text-gt-LINE_LIMIT : goal.returns-then-text-gt-LINE_LIMIT
returns-then-text-gt-LINE_LIMIT c =
    let text : c.trimmed-text.result.now ≡ trimmed (strip_carriage_return c.args.line.now) = c.trimmed-text.ensures ∙ ap trimmed c.without_carriage_return-line.ensures in
    let clean : None ≡ find is_control (strip_carriage_return c.args.line.now) = c.in_default.ensures ∙ ap (find is_control) c.without_carriage_return-line.ensures in
    let count : length (normal c.args.line.now) ≡ length c.trimmed-text.result.now = length-normal c.args.line.now c.trimmed-text.result.now text in
    let long : line_limit < length (normal c.args.line.now) = omega (arith, count) in
    ap (option_map (refusal_of c.args.number)) (own_fault-long c.args.line.now clean long)
    ∙ ap (λ n. Some (Long c.args.number n)) count

pub returns : goal.returns
returns c =
    let line = c.args.line.now in
    let shown = c.trimmed-text.result.now in
    let text : shown ≡ trimmed (strip_carriage_return line) = c.trimmed-text.ensures ∙ ap trimmed c.without_carriage_return-line.ensures in
    let clean : None ≡ find is_control (strip_carriage_return line) = c.in_default.ensures ∙ ap (find is_control) c.without_carriage_return-line.ensures in
    let count : length (normal line) ≡ length shown = length-normal line shown text in
    let put : c.put_lowercase.new.out ≡ map to_ascii_lowercase shown = c.put_lowercase.ensures in (
      own_fault-none line clean (omega (arith, count)),
      take_at c.put_lowercase.new.out _ (length shown) (ap length put ∙ length-map shown to_ascii_lowercase)
          ∙ (put ∙ sym (normal-text line shown text)),
    )
