use Rattle.std.proofs.Common.{rules, ◌∙◌}
use Rattle.std.proofs.lemmas.Fn.{always_returns_same}
use Rattle.std.specs.Ordering.{nat_cmp}
use Rattle.std.specs.Cmp.Lexicographic.{slice_cmp}
use Rattle.bor_register.specs.declared.member.Member.{Member}
use Rattle.bor_register.proofs.OnMemory.Searched.{found_at, found_none}
use Rattle.bor_register.proofs.member.find_filings.Goals as goal

pub returns-in-Ok : goal.returns-in-Ok
returns-in-Ok c =
    c.as_slice.ensures
    ∙ found_at c.args.name.now c.args.members.now c.in-Ok.place c.requires c.in-Ok.ensures.bound (c.in-Ok.ensures.position (λ (m : Member). slice_cmp nat_cmp m.name c.args.name.now) (always_returns_same _ _ _ (λ a r f' k. search rules))) c.index-members-place.result

pub returns-in-Err : goal.returns-in-Err
returns-in-Err c = found_none c.args.name.now c.args.members.now c.in-Err.field-0 c.requires (c.in-Err.ensures.position (λ (m : Member). slice_cmp nat_cmp m.name c.args.name.now) (always_returns_same _ _ _ (λ a r f' k. search rules)))
