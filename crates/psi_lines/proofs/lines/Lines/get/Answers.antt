use Rattle.std.proofs.Common.{◌≡◌, ◌≤◌, ◌<◌, ◌∙◌, ◌+◌, ◌-◌, [], List, ℕ, take, drop, length, get_or, Some, sym, ap, ap₂, subst, arith}
use Rattle.std.proofs.lemmas.Option.{slice_get-get_or}
use Rattle.psi_lines.specs.Cutting.{start_in, IsShort}
use Rattle.psi_lines.proofs.Cutting.{length-cut_at, get_or-cut_at, start_in-next, starts_before, ends_within, IsShort-cut_at}
use Rattle.psi_lines.proofs.lines.Lines.get.Goals as goal

pub start_of-start-requires : goal.start_of-start-requires
start_of-start-requires c =
    let ends = c.self.inside.ends.items in
    let bytes = c.self.inside.bytes.items in
    let i = c.args.i in
    let count : length c.args.self.now ≡ length ends = ap length (sym c.self.view_is) ∙ length-cut_at 0 ends bytes in
    let within : i < length ends = omega (arith, c.if-i-len.false, c.len.ensures.len, count) in
    let same : length c.deref.result.now ≡ length ends = ap length c.deref.ensures.value in
    omega (arith, within, same)

pub start_of-end-requires : goal.start_of-end-requires
start_of-end-requires c =
    let ends = c.self.inside.ends.items in
    let bytes = c.self.inside.bytes.items in
    let i = c.args.i in
    let count : length c.args.self.now ≡ length ends = ap length (sym c.self.view_is) ∙ length-cut_at 0 ends bytes in
    let within : i < length ends = omega (arith, c.if-i-len.false, c.len.ensures.len, count) in
    let same : length c.deref-2.result.now ≡ length ends = ap length c.deref-2.ensures.value in
    omega (arith, within, same)

pub between-requires-clause-start : goal.between-requires-clause-start
between-requires-clause-start c =
    let ends = c.self.inside.ends.items in
    let bytes = c.self.inside.bytes.items in
    let i = c.args.i in
    let count : length c.args.self.now ≡ length ends = ap length (sym c.self.view_is) ∙ length-cut_at 0 ends bytes in
    let within : i < length ends = omega (arith, c.if-i-len.false, c.len.ensures.len, count) in
    let start : c.start_of-start.result ≡ start_in 0 ends i = c.start_of-start.ensures ∙ ap (λ (e : List ℕ). start_in 0 e i) c.deref.ensures.value in
    let end : c.start_of-end.result ≡ get_or ends i 0 = c.start_of-end.ensures ∙ (ap (λ (e : List ℕ). start_in 0 e (i + 1)) c.deref-2.ensures.value ∙ start_in-next 0 ends i) in
    let order : start_in 0 ends i ≤ get_or ends i 0 = starts_before (length bytes) 0 ends i c.self.invariant.rise within in
    omega (arith, start, end, order)

pub between-requires-clause-end : goal.between-requires-clause-end
between-requires-clause-end c =
    let ends = c.self.inside.ends.items in
    let bytes = c.self.inside.bytes.items in
    let i = c.args.i in
    let count : length c.args.self.now ≡ length ends = ap length (sym c.self.view_is) ∙ length-cut_at 0 ends bytes in
    let within : i < length ends = omega (arith, c.if-i-len.false, c.len.ensures.len, count) in
    let start : c.start_of-start.result ≡ start_in 0 ends i = c.start_of-start.ensures ∙ ap (λ (e : List ℕ). start_in 0 e i) c.deref.ensures.value in
    let end : c.start_of-end.result ≡ get_or ends i 0 = c.start_of-end.ensures ∙ (ap (λ (e : List ℕ). start_in 0 e (i + 1)) c.deref-2.ensures.value ∙ start_in-next 0 ends i) in
    let order : get_or ends i 0 ≤ length bytes = ends_within (length bytes) 0 ends i c.self.invariant.rise within in
    let same : length c.deref-3.result.now ≡ length bytes = ap length c.deref-3.ensures.value in
    omega (arith, end, order, same)

pub returns-clause-line : goal.returns-clause-line
returns-clause-line c =
    let ends = c.self.inside.ends.items in
    let bytes = c.self.inside.bytes.items in
    let i = c.args.i in
    let count : length c.args.self.now ≡ length ends = ap length (sym c.self.view_is) ∙ length-cut_at 0 ends bytes in
    let within : i < length ends = omega (arith, c.if-i-len.false, c.len.ensures.len, count) in
    let start : c.start_of-start.result ≡ start_in 0 ends i = c.start_of-start.ensures ∙ ap (λ (e : List ℕ). start_in 0 e i) c.deref.ensures.value in
    let end : c.start_of-end.result ≡ get_or ends i 0 = c.start_of-end.ensures ∙ (ap (λ (e : List ℕ). start_in 0 e (i + 1)) c.deref-2.ensures.value ∙ start_in-next 0 ends i) in
    let cut : c.between.result.now ≡ take (get_or ends i 0 - start_in 0 ends i) (drop (start_in 0 ends i) bytes) =
    c.between.ensures ∙ (ap₂ (λ (a b : ℕ). take (b - a) (drop a c.deref-3.result.now)) start end
    ∙ ap (λ (x : List ℕ). take (get_or ends i 0 - start_in 0 ends i) (drop (start_in 0 ends i) x)) c.deref-3.ensures.value) in
    let line : get_or c.args.self.now i [] ≡ c.between.result.now =
    ap (λ (lines : List (List ℕ)). get_or lines i []) (sym c.self.view_is) ∙ (get_or-cut_at 0 ends bytes i within ∙ sym cut) in
    sym (slice_get-get_or c.args.self.now i [] (omega (arith, within, count)) ∙ ap Some line)

pub returns-clause-short : goal.returns-clause-short
returns-clause-short c =
    let ends = c.self.inside.ends.items in
    let bytes = c.self.inside.bytes.items in
    let i = c.args.i in
    let count : length c.args.self.now ≡ length ends = ap length (sym c.self.view_is) ∙ length-cut_at 0 ends bytes in
    let within : i < length ends = omega (arith, c.if-i-len.false, c.len.ensures.len, count) in
    let start : c.start_of-start.result ≡ start_in 0 ends i = c.start_of-start.ensures ∙ ap (λ (e : List ℕ). start_in 0 e i) c.deref.ensures.value in
    let end : c.start_of-end.result ≡ get_or ends i 0 = c.start_of-end.ensures ∙ (ap (λ (e : List ℕ). start_in 0 e (i + 1)) c.deref-2.ensures.value ∙ start_in-next 0 ends i) in
    let cut : c.between.result.now ≡ take (get_or ends i 0 - start_in 0 ends i) (drop (start_in 0 ends i) bytes) =
    c.between.ensures ∙ (ap₂ (λ (a b : ℕ). take (b - a) (drop a c.deref-3.result.now)) start end
    ∙ ap (λ (x : List ℕ). take (get_or ends i 0 - start_in 0 ends i) (drop (start_in 0 ends i) x)) c.deref-3.ensures.value) in
    subst IsShort (sym cut) (IsShort-cut_at ends bytes i c.self.invariant within)
