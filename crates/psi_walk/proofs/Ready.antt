-- What makes a tree ready.
use Rattle.std.proofs.Common.{◌≡◌, ◌≤◌, ℕ, List, length, Option, Some, None, Ok, refl, sym, subst, arith}
use Rattle.std.specs.declared.result.Result.{Result}
use Rattle.psi_spec.specs.Items.{first_bad, items_of}
use Rattle.psi_words.specs.Words.{word_at}
use Rattle.psi_base.specs.Outside.{Outside, Files}
use Rattle.psi_walk.specs.Due.{Contents, told}
use Rattle.psi_walk.specs.Files.{items_in, receiver_in, sender_in}
use Rattle.psi_walk.specs.Promises.{HasBytes, IsReady}
use Rattle.psi_walk.specs.Tree.{Tree, decides}
use Rattle.psi_texts.specs.declared.status.Status.{Status}
use Rattle.psi_spec.specs.DealFiles.{receiver_bytes, receiver_file_size, sender_bytes, sender_file_size}
use Rattle.psi_spec.specs.Deals.{IsReceiverDeal, IsSenderDeal, ReceiverDeal, SenderDeal}
use Rattle.psi_spec.specs.Limits.{file_limit}
use Rattle.psi_spec.proofs.DealFiles.{length-receiver_bytes, length-sender_bytes, receiver_files_read_back, sender_files_read_back}
use Rattle.psi_deal.specs.BadDeals.{bad_deal}
use Rattle.psi_deal.proofs.Faultless.{none_from_good, receiver_file_is_good, sender_file_is_good}

-- a file that is there
pub is_there : (files : Files) (words : List (List ℕ)) (word : ℕ) (bytes : List ℕ) → files (word_at words word) ≡ Some bytes → HasBytes (told (Some files) words) word bytes
is_there files words word bytes e = (λ at. files (word_at words at), refl, e)

-- a value that was judged
pub ready_on : {A : Type 0} (contents : Option Contents) (before : Outside) (due : Result A Status) (x : A) (next : A → Tree) → due ≡ Ok x
    → IsReady contents before (next x) → IsReady contents before (decides due next)
unfolding decides
ready_on contents before due x next e r = subst (λ (d : Result _ Status). IsReady contents before (decides d next)) (sym e) r

-- an item file without a bad line
pub items_ready : (words : List (List ℕ)) (bytes : List ℕ) (word : ℕ) → first_bad bytes ≡ None → items_in word bytes ≡ Ok (items_of bytes)
unfolding items_in
items_ready words bytes word none = rw none refl

-- the same where the files are told so
pub ready_told : (files : Files) (words : List (List ℕ)) (before : Outside) (tree : Tree) → before.files ≡ Some files → IsReady (told (Some files) words) before tree
    → IsReady (told before.files words) before tree
ready_told files words before tree is r = subst (λ (o : Option Files). IsReady (told o words) before tree) (sym is) r

-- the file of a deal
pub sender_ready : (word : ℕ) (deal : SenderDeal) → IsSenderDeal deal → sender_in word (sender_bytes deal) ≡ Ok deal
unfolding sender_in
sender_ready word deal is =
    let none : bad_deal 1 sender_file_size (sender_bytes deal) ≡ None = none_from_good 1 sender_file_size (sender_bytes deal) (sender_file_is_good deal is) in
    rw (none, sender_files_read_back deal is) refl

pub sender_file_is_short : (deal : SenderDeal) → IsSenderDeal deal → length (sender_bytes deal) ≤ file_limit
sender_file_is_short deal is = omega (arith, length-sender_bytes deal is)

pub receiver_ready : (word : ℕ) (deal : ReceiverDeal) → IsReceiverDeal deal → receiver_in word (receiver_bytes deal) ≡ Ok deal
unfolding receiver_in
receiver_ready word deal is =
    let none : bad_deal 0 receiver_file_size (receiver_bytes deal) ≡ None = none_from_good 0 receiver_file_size (receiver_bytes deal) (receiver_file_is_good deal is) in
    rw (none, receiver_files_read_back deal is) refl

pub receiver_file_is_short : (deal : ReceiverDeal) → IsReceiverDeal deal → length (receiver_bytes deal) ≤ file_limit
receiver_file_is_short deal is = omega (arith, length-receiver_bytes deal is)
