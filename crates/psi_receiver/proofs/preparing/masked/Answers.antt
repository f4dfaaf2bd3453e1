use Rattle.std.proofs.Common.{◌≡◌, ◌∙◌, ℕ, List, [], get_or, length, sym, ap, ap₂, arith}
use Rattle.psi_spec.specs.Bits.{xor}
use Rattle.psi_spec.specs.ColumnSets.{ColumnSets, masked_columns}
use Rattle.psi_spec.specs.Deals.{zero_columns, one_columns}
use Rattle.psi_spec.specs.Matrices.{Matrix}
use Rattle.psi_spec.specs.Streams.{dealt_sets}
use Rattle.psi_oprf.proofs.Masks.{all_masked}
use Rattle.psi_receiver.proofs.preparing.masked.Goals as goal

pub returns-clause-sent : goal.returns-clause-sent
returns-clause-sent c =
    let deal = c.args.deal.now in
    let words = c.args.words in
    let sets : ColumnSets = dealt_sets deal (length words) in
    let dealt : c.in_ok-dealt.dealt.rows ≡ length words = c.in_ok-dealt.ensures.rows ∙ c.rows-2.ensures.rows in
    let again : c.zero_columns.new.out.rows ≡ length words = ap (λ (m : Matrix). m.rows) c.zero_columns.ensures.columns ∙ dealt in
    let zeros : c.zero_columns.new.out.columns ≡ zero_columns deal (length words) =
    ap (λ (m : Matrix). m.columns) c.zero_columns.ensures.columns ∙ ap (zero_columns deal) dealt in
    let ones : c.one_columns.new.out.columns ≡ one_columns deal (length words) =
    ap (λ (m : Matrix). m.columns) c.one_columns.ensures.columns ∙ ap (one_columns deal) again in
    let sent : c.xor_columns-2.new.columns.columns ≡ masked_columns words sets =
    all_masked words c.xor_columns-2.new.columns.columns sets c.xor_columns-2.ensures.count
    (ap length (sym zeros) ∙ c.xor_columns.ensures.matrix.1.columns.count) (ap length (sym ones) ∙ c.xor_columns-2.ensures.matrix.1.columns.count)
    (λ k l. c.xor_columns-2.ensures.each k (omega arith)
    ∙ ap₂ xor
    (c.xor_columns.ensures.each k (omega arith)
    ∙ ap₂ xor (c.flip_back.ensures.columns k (omega arith)) (ap (λ (columns : List (List ℕ)). get_or columns k []) zeros))
    (ap (λ (columns : List (List ℕ)). get_or columns k []) ones)) in
    let rows = c.xor_columns-2.ensures.rows ∙ (c.xor_columns.ensures.rows ∙ (c.flip_back.ensures.count ∙ (c.in_ok-sent.ensures.rows ∙ c.rows.ensures.rows))) in
    λ i. record { rows = rows i; columns = sent i }
