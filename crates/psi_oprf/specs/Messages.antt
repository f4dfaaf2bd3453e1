-- The messages whose digests codes, bins and tags are made of.
use Rattle.std.specs.Prelude.{ℕ, List, [], ◌∷◌, ◌++◌, codes}
use Rattle.std.specs.Int.{w32, to_be_bytes}

-- the message of one half of a code
abbrev pub code_message : List ℕ → ℕ → ℕ → List ℕ → List ℕ
code_message key index half digest = codes "psi-code" ++ key ++ index ∷ half ∷ [] ++ digest

-- the message of the bins of a digest
abbrev pub bins_message : List ℕ → List ℕ → List ℕ
bins_message key digest = codes "psi-bins" ++ key ++ digest

-- the message of a tag
abbrev pub tag_message : List ℕ → ℕ → List ℕ → List ℕ
tag_message key row word = codes "psi-tags" ++ key ++ to_be_bytes w32 row ++ word
