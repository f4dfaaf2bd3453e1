-- The files that a run has used.
use Rattle.std.specs.Prelude.{Contains, List}
use Rattle.psi_cli.specs.declared.used.FileId.{FileId}

-- a file that was used is still counted as used
abbrev pub StillUsed : List FileId → List FileId → Type 0
StillUsed old new = (file : FileId) → Contains old file → Contains new file
