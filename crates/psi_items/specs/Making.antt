-- Which of two files is made.
use Rattle.std.specs.Prelude.{Bool, true, false}
use Rattle.psi_items.specs.declared.making.MadeFile.{MadeFile}
use Rattle.psi_items.specs.declared.making.MadeFile.TheVariants.{First, Second}

-- whether it is the second
abbrev pub is_second : MadeFile → Bool
is_second First = false
is_second Second = true
