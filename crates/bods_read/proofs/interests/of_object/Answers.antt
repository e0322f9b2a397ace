use Rattle.std.proofs.Common.{ap, ◌∙◌}
use Rattle.bods_read.specs.Words.{interest_worded, directness_worded}
use Rattle.bods_read.proofs.MembersRead.{interest_read}
use Rattle.bods_read.proofs.interests.of_object.Goals as goal

pub returns : goal.returns
unfolding interest_worded directness_worded
returns c =
    interest_read _ _ _ _ _ _ c.starts-starts.ensures c.ends-ends.ensures (c.worded_or-kind.ensures ∙ ap interest_worded c.text_at.ensures)
    (c.worded_or-directness.ensures ∙ ap directness_worded c.text_at-2.ensures) c.in_ok-share.ensures
