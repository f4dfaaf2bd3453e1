-- The laws of records.
use Rattle.std.proofs.Common.{◌≡◌, ◌∙◌, ℕ, List, [], ◌∷◌, ◌++◌, sym, ap, append_assoc, append-nil}
use Rattle.std.specs.Prelude.{fold}
use Rattle.std.specs.List.{flat_map}
use Rattle.psi_spec.specs.DealFiles.{sealed}
use Rattle.psi_spec.specs.Records.{record_file, record_front}
use Rattle.psi_spec.proofs.Records.{record_again, record_has_parts}
use Rattle.psi_log.specs.Laws.{RecordsReadBack, WrittenInPieces}
use Rattle.psi_log.proofs.Faultless.{none_from_parts}

-- pieces that are added one by one are added as one
added : (start : List ℕ) (pieces : List (List ℕ)) → fold (λ bytes piece. bytes ++ piece) start pieces ≡ start ++ flat_map (λ piece. piece) pieces
added start [] = sym (append-nil start)
added start (piece ∷ pieces) = added (start ++ piece) pieces ∙ append_assoc start piece (flat_map (λ piece. piece) pieces)

pub written_in_pieces : WrittenInPieces
written_in_pieces slots pieces = ap sealed (added (record_front slots) pieces)

pub records_read_back : RecordsReadBack
records_read_back session h = (none_from_parts (record_file session.slots session.wire) (record_has_parts session h), record_again session h)
