use Rattle.std.proofs.Common.{◌≡◌, ◌-◌, slice_index, subst, sym}
use Rattle.psi_spec.specs.MadeFiles.{made_order}
use Rattle.psi_items.specs.Making.{is_second}
use Rattle.psi_items.proofs.MadeLines.{rising_line, falling_line}
use Rattle.psi_items.proofs.making.MadeFile.line_at.Goals as goal

pub returns-in-First : goal.returns-in-First
returns-in-First c =
    subst (λ file. c.args.place ≡ slice_index (made_order (is_second file) c.args.count) c.args.place) (sym c.in-First.is) (rising_line c.args.count c.args.place c.requires)

pub returns-in-Second : goal.returns-in-Second
returns-in-Second c =
    subst (λ file. c.args.count - 1 - c.args.place ≡ slice_index (made_order (is_second file) c.args.count) c.args.place) (sym c.in-Second.is) (falling_line c.args.count c.args.place c.requires)
