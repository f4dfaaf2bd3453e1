-- The lists that a sender's stream tells.
use Rattle.std.proofs.Common.{◌≡◌, ◌+◌, ◌<◌, ℕ, List, [], length, map, get_or, refl, sym, ap, ◌∙◌, arith}
use Rattle.std.specs.List.{AllByRecursion, concat, range_with_len}
use Rattle.std.proofs.lemmas.List.{ext_get_or, get_or-map, length-map, map-id}
use Rattle.std.proofs.lemmas.List.Elements.{recursion_from_All}
use Rattle.std.proofs.lemmas.List.FromFn.{get_or-range_with_len, length-range_with_len}
use Rattle.psi_spec.specs.Deals.{ReceiverDeal, IsReceiverDeal}
use Rattle.psi_spec.specs.Meeting.{Placed}
use Rattle.psi_spec.specs.TagLists.{IsTagList}
use Rattle.psi_frames.specs.Script.{frames_of}
use Rattle.psi_receiver.specs.Laws.{IsStreamFor}
use Rattle.psi_receiver.specs.Own.{in_list}
use Rattle.psi_receiver.specs.Script.{receiver_script}
use Rattle.psi_receiver.proofs.Hearing.{frames_heard}
use Rattle.psi_receiver.proofs.Hits.{block_read, lists_in, some_width}
use Rattle.psi_link.specs.Receive.{block_tags_in, lists_of}

-- the lists of a sender's stream are those that it was made of
pub lists_of_stream : (deal : ReceiverDeal) (placed : List Placed) (count : ℕ) (lists : List (List (List ℕ))) (bytes : List ℕ) → IsReceiverDeal deal
    → IsStreamFor deal count lists bytes → lists_of deal placed bytes ≡ lists
unfolding lists_of
lists_of_stream deal placed count lists bytes is stream =
    ext_get_or [] (map list_in (range_with_len 0 n)) lists
    (length-map (range_with_len 0 n) list_in ∙ length-range_with_len 0 n ∙ sym stream.size) at
  where
    g : ℕ
    g = deal.tag_length

    n : ℕ
    n = 3 + deal.stash

    list_in : ℕ → List (List ℕ)
    list_in list = in_list (block_tags_in g) list (frames_of (receiver_script deal placed) bytes)

    makes : (tags : List (List ℕ)) → AllByRecursion (λ tag. length tag ≡ g) tags → block_tags_in g (concat tags) ≡ map (λ tag. tag) tags
    makes tags all = block_read g tags (some_width deal is) all ∙ sym (map-id tags)

    at : (i : ℕ) → i < length (map list_in (range_with_len 0 n)) → get_or (map list_in (range_with_len 0 n)) i [] ≡ get_or lists i []
    at i low =
        let small : i < n = omega (arith, low, length-map (range_with_len 0 n) list_in, length-range_with_len 0 n) in
        get_or-map list_in (range_with_len 0 n) i 0 [] (omega (arith, small, length-range_with_len 0 n))
        ∙ ap list_in (get_or-range_with_len 0 n i 0 small)
        ∙ ap (in_list (block_tags_in g) (0 + i)) (frames_heard deal placed count lists bytes is stream)
        ∙ lists_in (block_tags_in g) g (λ tag. tag) makes (0 + i) 0 i count lists refl (recursion_from_All (IsTagList g count) lists stream.each)
        ∙ map-id (get_or lists i [])
