-- Why there is no deal.
use Rattle.std.specs.Prelude.{◌≡◌, ℕ, ◌==◌, ◌&&◌, Bool, not, nat_lt, List, length, slice_index, Option, Some, None, Result, Ok, Err, if◌then◌else◌}
use Rattle.psi_spec.specs.Deals.{fits_tag_length, fits_stash}
use Rattle.psi_spec.specs.DealFiles.{deal_version, has_magic, has_other, is_sealed}
use Rattle.psi_spec.specs.OldDealFiles.{old_version}
use Rattle.psi_deal.specs.Roles.{old_role_size, named_role}
use Rattle.psi_deal.specs.declared.errors.BadDeal.{BadDeal}
use Rattle.psi_deal.specs.declared.errors.BadDeal.TheVariants.{Magic, Version, Role, Length, TagBytes, StashRows, Seal, NoMemory}

-- the first refusal of bytes as a deal file of a role, all of whose files have this size
abbrev pub bad_deal : ℕ → ℕ → List ℕ → Option BadDeal
bad_deal role size bytes =
    if not (has_magic bytes) then Some Magic
    else if has_other 4 deal_version bytes then Some (Version (slice_index bytes 4))
    else if has_other 5 role bytes then Some (Role (slice_index bytes 5))
    else if not (length bytes == size) then Some (Length (length bytes))
    else if not (fits_tag_length (slice_index bytes 46)) then Some (TagBytes (slice_index bytes 46))
    else if not (fits_stash (slice_index bytes 47)) then Some (StashRows (slice_index bytes 47))
    else if not (is_sealed bytes) then Some Seal
    else None

-- there is a byte at that place, and it is above that number
abbrev pub has_above : ℕ → ℕ → List ℕ → Bool
has_above at most bytes = nat_lt at (length bytes) && nat_lt most (slice_index bytes at)

-- the first refusal of bytes as a deal file of version 1, of either role
abbrev pub bad_old_deal : List ℕ → Option BadDeal
bad_old_deal bytes =
    if not (has_magic bytes) then Some Magic
    else if has_other 4 old_version bytes then Some (Version (slice_index bytes 4))
    else if has_above 5 1 bytes then Some (Role (slice_index bytes 5))
    else if not (length bytes == old_role_size (named_role bytes)) then Some (Length (length bytes))
    else if not (fits_tag_length (slice_index bytes 46)) then Some (TagBytes (slice_index bytes 46))
    else if not (is_sealed bytes) then Some Seal
    else None

-- the first refusal of a deal with these lengths
abbrev pub bad_request : ℕ → ℕ → Option BadDeal
bad_request tag_length stash =
    if not (fits_tag_length tag_length) then Some (TagBytes tag_length)
    else if not (fits_stash stash) then Some (StashRows stash)
    else None

-- what is answered: the value where nothing is bad, and else what is bad first; want of memory may come only where
-- nothing is bad
abbrev pub IsJudged : {V : Type 0} → Option BadDeal → V → Result V BadDeal → Type 0
IsJudged bad value (Ok answered) = (bad ≡ None) × (answered ≡ value)
IsJudged bad value (Err NoMemory) = bad ≡ None
IsJudged bad value (Err refusal) = bad ≡ Some refusal
