use Rattle.std.proofs.Common.{◌≡◌, ◌∙◌, ◌<◌, sym, ap, subst, length, Err, None, List, [], ℕ, arith}
use Rattle.std.specs.List.{find}
use Rattle.std.specs.Str.Lines.{strip_carriage_return}
use Rattle.std.proofs.lemmas.Bool.{eqb-true, eqb-false}
use Rattle.std.proofs.lemmas.List.{nil_from_length}
use Rattle.std.proofs.lemmas.Result.{err_from_is_err_and}
use Rattle.psi_spec.specs.Items.{is_control, normal, fault_of}
use Rattle.psi_items.specs.Reading.{with_line, AddsItem, AddsLine}
use Rattle.psi_items.proofs.Reading.{clean_line, AddsLine-refused, adds-nothing, adds-nothing-nil, AddsLine-item}
use Rattle.psi_items.proofs.items.Items.add_line.Goals as goal

pub returns-then-is_empty-clause-added : goal.returns-then-is_empty-clause-added
returns-then-is_empty-clause-added c =
    let nil : c.args.line.now ≡ [] = nil_from_length c.args.line.now (eqb-true (length c.args.line.now) 0 (sym c.is_empty.ensures ∙ c.if-is_empty.true)) in
    subst (λ (line : List ℕ). (fault_of c.args.self.now line ≡ None) × (c.args.self.now ≡ with_line c.args.self.now line)) (sym nil) (adds-nothing-nil c.args.self.now)

pub returns-in_err-read-clause-added : goal.returns-in_err-read-clause-added
returns-in_err-read-clause-added c =
    let bad = c.in_err-read.field-0.0 in
    let failed = err_from_is_err_and c.from_residual.result c.from_residual.ensures.1 in
    let same : c.from_residual.result ≡ Err bad = failed.1 ∙ ap Err failed.2 in
    subst (λ result. AddsLine c.args.self.now c.args.number c.args.line.now result c.args.self.now) (sym same)
    (AddsLine-refused c.args.self.now c.args.number c.args.line.now bad c.args.self.now c.in_err-read.ensures)

pub returns-then-is_empty-2-clause-added : goal.returns-then-is_empty-2-clause-added
returns-then-is_empty-2-clause-added c =
    let clean : None ≡ find is_control (strip_carriage_return c.args.line.now) = clean_line c.args.line.now c.in_ok-read.ensures.0 in
    adds-nothing c.args.self.now c.args.line.now clean
    (ap length (sym c.in_ok-read.ensures.1) ∙ (ap length (sym c.text.ensures.text) ∙ eqb-true (length c.text.result.now) 0 (sym c.is_empty-2.ensures ∙ c.if-is_empty-2.true)))

pub returns-clause-added : goal.returns-clause-added
returns-clause-added c =
    let clean : None ≡ find is_control (strip_carriage_return c.args.line.now) = clean_line c.args.line.now c.in_ok-read.ensures.0 in
    let shown : c.text.result.now ≡ normal c.args.line.now = c.text.ensures.text ∙ c.in_ok-read.ensures.1 in
    let item : c.text-2.result.now ≡ normal c.args.line.now = c.text-2.ensures.text ∙ c.in_ok-read.ensures.1 in
    let not_empty : length c.text.result.now ≡ 0 → ⊥ = eqb-false (length c.text.result.now) 0 (sym c.is_empty-2.ensures ∙ c.if-is_empty-2.false) in
    let count : length c.text.result.now ≡ length (normal c.args.line.now) = ap length shown in
    let some : 0 < length (normal c.args.line.now) = omega (arith, count, not_empty) in
    AddsLine-item c.args.self.now c.args.number c.args.line.now c.add_item.result c.add_item.new.self clean some
    (subst (λ (x : List ℕ). AddsItem c.args.self.now c.args.number x c.add_item.result c.add_item.new.self) item c.add_item.ensures.added)
