-- Bytes that are taken from a link and sent over it, piece by piece.
use Rattle.std.proofs.Common.{◌≡◌, ◌<◌, ◌≤◌, ◌∙◌, ℕ, List, [], ◌∷◌, ◌++◌, length, take, drop, Option, Some, None, IfSome, option_map, refl, sym, ap, ap₂, subst, arith, append_assoc, length-append}
use Rattle.std.specs.List.{flat_map}
use Rattle.std.proofs.Math.Seq.{take-add}
use Rattle.std.proofs.lemmas.Grind.{flat_map-append}
use Rattle.std.proofs.lemmas.List.{append-nil, drop-drop, length-take-le}
use Rattle.std.proofs.lemmas.List.Elements.{All-append, All-nil, All-push}
use Rattle.psi_spec.specs.Frames.{AreBytes}
use Rattle.psi_spec.proofs.CodeBytes.{AreBytes-append}
use Rattle.psi_base.specs.Outside.{Known, Outside, Received, sent_too}
use Rattle.psi_frames.specs.declared.expect.Expect.{Expect}
use Rattle.psi_frames.specs.Converse.{Took, without_front}
use Rattle.psi_frames.specs.Dialogue.{AreInTurn, WereTaken, talked}
use Rattle.psi_frames.specs.Script.{wanted_of}

abbrev joined : List (List ℕ) → List ℕ
joined pieces = flat_map (λ piece. piece) pieces

front_joined : (incoming : Option (List ℕ)) (a b : List ℕ) → IfSome incoming (λ bytes. take (length a) bytes ≡ a)
    → IfSome (option_map (λ bytes. drop (length a) bytes) incoming) (λ bytes. take (length b) bytes ≡ b) → IfSome incoming (λ bytes. take (length (a ++ b)) bytes ≡ a ++ b)
front_joined None a b first second = tt
front_joined (Some bytes) a b first second =
    ap (λ (n : ℕ). take n bytes) (length-append a b) ∙ take-add (length a) (length b) bytes ∙ ap₂ (λ (xs ys : List ℕ). xs ++ ys) first second

-- pieces that were taken in turn, and then more
in_turn-append : (wants : List ℕ → ℕ) (held : List ℕ) (pieces more : List (List ℕ)) → AreInTurn wants held pieces → AreInTurn wants (held ++ joined pieces) more → AreInTurn wants held (pieces ++ more)
in_turn-append wants held [] more first second = subst (λ (xs : List ℕ). AreInTurn wants xs more) (append-nil held) second
in_turn-append wants held (piece ∷ pieces) more first second =
    (first.0, in_turn-append wants (held ++ piece) pieces more first.1 (subst (λ (xs : List ℕ). AreInTurn wants xs more) (sym (append_assoc held piece (joined pieces))) second))

-- behind bytes that came before, where no less is wanted
pub in_turn-past : (wants wants' : List ℕ → ℕ) (before held : List ℕ) (pieces : List (List ℕ)) → ((bytes : List ℕ) → wants bytes ≤ wants' (before ++ bytes)) → AreInTurn wants held pieces
    → AreInTurn wants' (before ++ held) pieces
in_turn-past wants wants' before held [] more turn = tt
in_turn-past wants wants' before held (piece ∷ pieces) more turn = (
  (let one = more held in let fits = turn.0 in omega (arith, one, fits)),
  subst (λ (xs : List ℕ). AreInTurn wants' xs pieces) (sym (append_assoc before held piece)) (in_turn-past wants wants' before (held ++ piece) pieces more turn.1),
)

-- bytes that were taken in turn, and then more of the rest
pub were_taken-more : (known : Known) (incoming : Option (List ℕ)) (wants : List ℕ → ℕ) (held a b : List ℕ) (first : WereTaken known incoming a)
    (second : WereTaken known (option_map (λ bytes. drop (length a) bytes) incoming) b) → AreInTurn wants held first.pieces → AreInTurn wants (held ++ a) second.pieces
    → (both : WereTaken known incoming (a ++ b)) × AreInTurn wants held both.pieces
were_taken-more known incoming wants held a b first second turn turn' = (
  record {
    pieces = first.pieces ++ second.pieces;
    joined =
        ap₂ (λ (xs ys : List ℕ). xs ++ ys) first.joined second.joined
        ∙ sym (flat_map-append (λ (piece : List ℕ). piece) first.pieces second.pieces);
    came = All-append known.comes first.pieces second.pieces first.came second.came;
    are_bytes = AreBytes-append a b first.are_bytes second.are_bytes;
    next = front_joined incoming a b first.next second.next;
  },
  in_turn-append wants held first.pieces second.pieces turn (subst (λ (xs : List ℕ). AreInTurn wants (held ++ xs) second.pieces) first.joined turn'),
)

no_front : (incoming : Option (List ℕ)) → IfSome incoming (λ bytes. take 0 bytes ≡ [])
no_front None = tt
no_front (Some bytes) = refl

pub were_taken-none : (known : Known) (incoming : Option (List ℕ)) (wants : List ℕ → ℕ) (held : List ℕ) → (none : WereTaken known incoming []) × AreInTurn wants held none.pieces
were_taken-none known incoming wants held =
    (record { pieces = []; joined = refl; came = All-nil known.comes; are_bytes = λ i. omega arith; next = no_front incoming }, tt)

dropped : (incoming : Option (List ℕ)) (a b : List ℕ)
    → option_map (λ (bytes : List ℕ). drop (length b) bytes) (option_map (λ bytes. drop (length a) bytes) incoming) ≡ option_map (λ bytes. drop (length (a ++ b)) bytes) incoming
dropped None a b = refl
dropped (Some bytes) a b = ap (λ (xs : List ℕ). Some xs) (drop-drop (length b) (length a) bytes ∙ ap (λ (n : ℕ). drop n bytes) (sym (length-append a b)))

all_left : (incoming : Option (List ℕ)) → option_map (λ (bytes : List ℕ). drop 0 bytes) incoming ≡ incoming
all_left None = refl
all_left (Some bytes) = refl

-- no bytes were taken
pub took_none : (known : Known) (e : Expect) (held : List ℕ) (o : Outside) → Took known e held o [] o
took_none known e held o = record {
  were_taken = (were_taken-none known o.incoming (wanted_of e) held).0;
  in_turn = (were_taken-none known o.incoming (wanted_of e) held).1;
  left = ap (λ (incoming : Option (List ℕ)). record o { incoming = incoming }) (sym (all_left o.incoming));
}

-- bytes were taken, and then more
pub took_more : (known : Known) (e : Expect) (old mid new : Outside) (held a b : List ℕ) → Took known e held old a mid → Took known e (held ++ a) mid b new → Took known e held old (a ++ b) new
took_more known e old mid new held a b first second =
    let next : Took known e (held ++ a) (without_front old a) b new = subst (λ (o : Outside). Took known e (held ++ a) o b new) first.left second in
    let both = were_taken-more known old.incoming (wanted_of e) held a b first.were_taken next.were_taken first.in_turn next.in_turn in
    record {
      were_taken = both.0;
      in_turn = both.1;
      left =
          second.left ∙ ap (λ (o : Outside). without_front o b) first.left
          ∙ ap (λ (incoming : Option (List ℕ)). record old { incoming = incoming }) (dropped old.incoming a b);
    }

-- what one receive took, where as much was wanted
pub received : (known : Known) (e : Expect) (held : List ℕ) (old new : Outside) (count : ℕ) (buffer : List ℕ) → 0 < count → count ≤ wanted_of e held → AreBytes (take count buffer) → Received known old count buffer new
    → Took known e held old (take count buffer) new
received known e held old new count buffer some few small h =
    let long : length (take count buffer) ≡ count = length-take-le count buffer h.within in
    record {
      were_taken = record {
        pieces = take count buffer ∷ [];
        joined = sym (append-nil (take count buffer));
        came = All-push known.comes [] (take count buffer) (All-nil known.comes) h.came;
        are_bytes = small;
        next = subst (λ (n : ℕ). IfSome old.incoming (λ bytes. take n bytes ≡ take count buffer)) (sym long) (turned old.incoming h.next);
      };
      in_turn = (omega (arith, long, few), tt);
      left =
          h.left
          ∙ ap₂ (λ (n ends : ℕ). record old { incoming = option_map (λ bytes. drop n bytes) old.incoming; ends = ends }) (sym long) (h.some some);
    }
  where
    turned : (incoming : Option (List ℕ)) → IfSome incoming (λ bytes. take count buffer ≡ take count bytes) → IfSome incoming (λ bytes. take count bytes ≡ take count buffer)
    turned None next = tt
    turned (Some bytes) next = sym next

-- ---- what is sent

sent_on : (outgoing : Option (List ℕ)) (a b : List ℕ) → option_map (λ (gone : List ℕ). gone ++ b) (option_map (λ gone. gone ++ a) outgoing) ≡ option_map (λ gone. gone ++ (a ++ b)) outgoing
sent_on None a b = refl
sent_on (Some gone) a b = ap (λ (xs : List ℕ). Some xs) (append_assoc gone a b)

unsent : (outgoing : Option (List ℕ)) → option_map (λ (gone : List ℕ). gone ++ []) outgoing ≡ outgoing
unsent None = refl
unsent (Some gone) = ap (λ (xs : List ℕ). Some xs) (append-nil gone)

pub sent_twice : (o : Outside) (a b : List ℕ) → sent_too (sent_too o a) b ≡ sent_too o (a ++ b)
sent_twice o a b = ap (λ (outgoing : Option (List ℕ)). record o { outgoing = outgoing }) (sent_on o.outgoing a b)

-- nothing was sent or taken
pub talked_none : (o : Outside) → talked o [] [] ≡ o
talked_none o = ap₂ (λ (outgoing incoming : Option (List ℕ)). record o { outgoing = outgoing; incoming = incoming }) (unsent o.outgoing) (all_left o.incoming)

-- more was sent
pub talked_sent : (o : Outside) (sent taken more : List ℕ) → sent_too (talked o sent taken) more ≡ talked o (sent ++ more) taken
talked_sent o sent taken more = ap (λ (outgoing : Option (List ℕ)). record (talked o sent taken) { outgoing = outgoing }) (sent_on o.outgoing sent more)

-- more was taken
pub talked_took : (o : Outside) (sent taken more : List ℕ) → without_front (talked o sent taken) more ≡ talked o sent (taken ++ more)
talked_took o sent taken more = ap (λ (incoming : Option (List ℕ)). record (talked o sent taken) { incoming = incoming }) (dropped o.incoming taken more)
