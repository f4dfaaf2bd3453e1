use Rattle.std.proofs.Common.{◌≡◌, take, length}
use Rattle.psi_audit.specs.Searching.{IsBegun}
use Rattle.psi_audit.proofs.naming.Search.begin.Given as goal

-- the first tags are wanted
abbrev pub invariant-loop-tag : goal.invariant-loop-tag
invariant-loop-tag l = record {
  begun : IsBegun (take l.tag-index l.tags) l.search;
  lists : length l.search.lists ≡ 19;
}
