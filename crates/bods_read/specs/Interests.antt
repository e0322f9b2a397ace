-- The interests of a relationship (BODS 0.4, interests; this register's profile).
use Rattle.std.specs.Prelude.{List, [], ◌∷◌, Bool, true, false, map, Option, Some, None}
use Rattle.std.specs.Prelude.{option_and_then, is_some, codes, if◌then◌else◌, ℤ}
use Rattle.serde_json.specs.Data.{Data}
use Rattle.bor_terms.specs.Period.{end_of, start_of}
use Rattle.bor_terms.specs.Span.{Range}
use Rattle.bods_read.specs.declared.fault.Field.TheVariants.{Interests, Share as TheShare}
use Rattle.bods_read.specs.declared.fault.Fault.{Fault}
use Rattle.bods_read.specs.declared.fault.Fault.TheVariants.{Bad}
use Rattle.bods_read.specs.declared.interest.Interest.{Interest}
use Rattle.bods_read.specs.declared.interest.InterestKind.{InterestKind}
use Rattle.bods_read.specs.declared.interest.InterestKind.TheVariants as kinds
use Rattle.bods_read.specs.declared.interest.Directness.{Directness}
use Rattle.bods_read.specs.Words.{field_word, interest_worded, directness_worded}
use Rattle.bods_read.specs.Outcome.{table, lines_from}
use Rattle.bods_read.specs.Member.{member, object_in, member_text, array, array_items}
use Rattle.bods_read.specs.Share.{range_lines, range_of}

-- ---- an interest

-- the first day on which it counts (BODS 0.4, startDate); what is no text, or names no day, month
-- or year, counts as absent (this register's profile)
abbrev pub starts_in : Data → Option ℤ
starts_in d = option_and_then start_of (member_text (codes "startDate") d)

-- the last day on which it counts (BODS 0.4, endDate)
abbrev pub ends_in : Data → Option ℤ
ends_in d = option_and_then end_of (member_text (codes "endDate") d)

-- the kind is the type (BODS 0.4)
abbrev pub interest_kind : Data → InterestKind
interest_kind d = interest_worded (member_text (codes "type") d)

-- a kind whose share is read
abbrev pub is_share_read : InterestKind → Bool
is_share_read kinds.Shareholding = true
is_share_read kinds.VotingRights = true
is_share_read kinds.AppointmentOfBoard = true
is_share_read kinds.Other = false

-- whether it is held directly (BODS 0.4, directOrIndirect)
abbrev pub directness_of : Data → Directness
directness_of d = directness_worded (member_text (codes "directOrIndirect") d)

-- the share has to be an object
abbrev pub share_object_lines : Option Data → List Fault
share_object_lines None = []
share_object_lines (Some d) = if is_some (object_in d) then range_lines d else Bad TheShare ∷ []

-- the lines about the share, where there is one; it is looked at where the kind is named (this
-- register's profile)
unfoldable pub share_lines : InterestKind → Data → List Fault
share_lines kind d =
    if is_share_read kind then share_object_lines (member (field_word TheShare) d) else []

-- the range that the share gives, where there is one and the kind is named
unfoldable pub share_of : InterestKind → Data → Option Range
share_of kind d =
    if is_share_read kind then option_and_then range_of (member (field_word TheShare) d) else None

-- the lines about an object
unfoldable pub interest_object_lines : Data → List Fault
interest_object_lines d = table (share_lines (interest_kind d) d ∷ [])

-- an interest has to be an object
unfoldable pub interest_lines : Data → List Fault
interest_lines d = if is_some (object_in d) then interest_object_lines d else Bad Interests ∷ []

-- the interest
unfoldable pub interest_of : Data → Interest
interest_of d = record {
  kind = interest_kind d;
  directness = directness_of d;
  share = share_of (interest_kind d) d;
  starts = starts_in d;
  ends = ends_in d;
}

-- ---- the interests

-- the lines about each of these interests, in order
abbrev pub each_lines : List Data → List Fault
each_lines ds = lines_from (λ _. interest_lines) 1 ds

-- the line about the array, then those about its items
unfoldable pub interests_lines : Data → List Fault
interests_lines d = table (array Interests d ∷ each_lines (array_items Interests d) ∷ [])

-- the interests, in order
unfoldable pub interests_of : Data → List Interest
interests_of d = map interest_of (array_items Interests d)
