-- How many bytes the record of a session has.
use Rattle.std.proofs.Common.{◌≡◌, ◌+◌, ◌*◌, ◌∙◌, ℕ, List, ◌++◌, length, sym, ap, ap₂, arith, length-append}
use Rattle.sha2.specs.Sha256.{sha256}
use Rattle.sha2.proofs.Facts256.{length-sha256}
use Rattle.psi_spec.specs.Placement.{Slot}
use Rattle.psi_spec.specs.Records.{record_file, record_front}
use Rattle.psi_spec.specs.Frames.{receiver_hello, sender_hello}
use Rattle.psi_spec.specs.Sessions.{moves_with, wire_bytes}
use Rattle.psi_spec.proofs.Records.{length-record_front}
use Rattle.psi_spec.proofs.SessionMoves.{wires_join_streams}
use Rattle.psi_log.specs.Laws.{RecordsHaveSizes}

length-record : (slots : List Slot) (wire : List ℕ) → length (record_file slots wire) ≡ 9 + 5 * length slots + length wire + 32
length-record slots wire =
    let body : List ℕ = record_front slots ++ wire in
    omega (arith, length-append body (sha256 body), length-append (record_front slots) wire, length-record_front slots, length-sha256 body)

pub records_have_sizes : RecordsHaveSizes
records_have_sizes stash id session tag_length m n columns lists own peer slots receiver sender =
    let wire : List ℕ = wire_bytes (moves_with (receiver_hello id session m) (sender_hello id session n) columns lists) in
    let joined : length wire ≡ length own + length peer =
    wires_join_streams id id session session m n columns lists
    ∙ ap₂ (λ (a b : ℕ). a + b) (ap length (sym receiver.is)) (ap length (sym sender.is)) in
    omega (arith, length-record slots wire, joined)
