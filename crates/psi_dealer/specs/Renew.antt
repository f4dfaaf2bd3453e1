-- What `renew` does: it writes the deal of a file of version 1 as a file of version 2.
use Rattle.std.specs.Prelude.{[], ◌∷◌, None}
use Rattle.psi_deal.specs.OldDeals.{renewed}
use Rattle.psi_walk.specs.Files.{reads_old}
use Rattle.psi_walk.specs.Tree.{puts, Tree, ends}

-- the old file is read, and the new one is written
abbrev pub renew_tree : Tree
renew_tree = reads_old 1 (λ deal. ends None (puts 2 (renewed deal) ∷ []))
