-- What a reader of `run` looks for first, spelled out of the promises of the commands.
use Rattle.std.specs.Prelude.{◌≡◌, ℕ, List, None, codes}
use Rattle.psi_words.specs.Words.{word_at}
use Rattle.psi_base.specs.Outside.{Known, Outside}
use Rattle.psi_link.specs.HidingPromises.{SendsHidden}
use Rattle.psi_link.specs.ReceivePromises.{FoundCommon}
use Rattle.psi_local.specs.LocalPromises.{PrintedShown}
use Rattle.psi_texts.specs.declared.status.Status.TheVariants.{Done}
use Rattle.psi_top.specs.Commands.{bad_place}
use Rattle.psi_twin.specs.TwinPromises.{HidTwins}
use Rattle.psi_walk.specs.Tree.{End}

-- where `local` is done it printed the common items, and others only with the tag of a sender's item
abbrev pub LocalShows : Known → List (List ℕ) → Outside → End → Type 0
LocalShows known words before end =
    word_at words 0 ≡ codes "local" → end.status ≡ Done → PrintedShown known words before end

-- where `receive` is done it printed the common items of an honest peer, and others only with the tag of a sender's
-- item
abbrev pub ReceiveFinds : Known → List (List ℕ) → Outside → End → Type 0
ReceiveFinds known words before end =
    word_at words 0 ≡ codes "receive" → end.status ≡ Done → FoundCommon known words before end.placed end.left

-- however `receive` ends, it sent nothing, or a front of the one stream of its list, which hides the list
abbrev pub ReceiveHides : Known → List (List ℕ) → Outside → End → Type 0
ReceiveHides known words before end =
    bad_place words ≡ None → word_at words 0 ≡ codes "receive" → SendsHidden known words before end.left

-- where `twin` is done it wrote one stream of two lists, and what hides which of them the receiver has
abbrev pub TwinHides : Known → List (List ℕ) → Outside → End → Type 0
TwinHides known words before end =
    word_at words 0 ≡ codes "twin" → end.status ≡ Done → HidTwins known words before end
