use Rattle.std.proofs.Common.{sym, ◌∙◌}
use Rattle.std.proofs.lemmas.List.{length-take-le}
use Rattle.bor_http.proofs.OnIncoming.HeadLemmas.{head_len-le}
use Rattle.bor_http.proofs.OnIncoming.ProgressLemmas.{bad_head_comes, bad_length_comes, head_comes}
use Rattle.bor_http.proofs.incoming.progress.taken_apart.Goals as goal

pub slice_bounds-head-end : goal.slice_bounds-head-end
slice_bounds-head-end c = sym (length-take-le c.args.len c.args.front.now (head_len-le c.args.front.now c.args.len c.requires.head))

pub returns-in-Err-Refused-clause-known : goal.returns-in-Err-Refused-clause-known
returns-in-Err-Refused-clause-known c =
    rw c.in-Err-Refused.field-0-is (bad_head_comes c.args.front.now c.args.len c.in-Err-Refused.why c.requires.within c.requires.head (sym c.has_few_lines.ensures ∙ c.if-not-has_few_lines.false)
    (rw c.in-Err-Refused.field-0-is at c.in-Err-Refused.ensures.parts))

pub returns-in-Ok-body_length-clause-known : goal.returns-in-Ok-body_length-clause-known
returns-in-Ok-body_length-clause-known c =
    head_comes c.args.front.now c.args.len c.in-Ok-body_length.body c.in-Ok.spans c.requires.within c.requires.head (sym c.has_few_lines.ensures ∙ c.if-not-has_few_lines.false)
    c.in-Ok.ensures.within c.in-Ok.ensures.parts (rw c.deref.ensures.value at (sym c.in-Ok-body_length.ensures))

pub returns-in-Err-body_length-clause-known : goal.returns-in-Err-body_length-clause-known
returns-in-Err-body_length-clause-known c =
    bad_length_comes c.args.front.now c.args.len _ c.in-Err-body_length.why c.requires.within c.requires.head (sym c.has_few_lines.ensures ∙ c.if-not-has_few_lines.false)
    c.in-Ok.ensures.parts (rw c.deref.ensures.value at (sym c.in-Err-body_length.ensures))
