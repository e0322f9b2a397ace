use Rattle.bor_store_sql.specs.declared.rows.typed.Part.TheVariants.{Relationship}
use Rattle.bor_store_sql.proofs.OnRows.Lists.{not_read}
use Rattle.bor_store_sql.proofs.OnRows.Utf8.{ident_if_any}
use Rattle.bor_store_sql.proofs.rows.parts.relationship.Goals as goal

pub returns-in_err-subject-clause-reads : goal.returns-in_err-subject-clause-reads
returns-in_err-subject-clause-reads c subject party four own other = not_read _ (Relationship subject party) c.from_residual-in_err-subject.ensures.1 (c.in_err-subject.ensures.reads subject four.2 (ident_if_any subject own))

pub returns-in_err-party-clause-reads : goal.returns-in_err-party-clause-reads
returns-in_err-party-clause-reads c subject party four own other = not_read _ (Relationship subject party) c.from_residual-in_err-party.ensures.1 (c.in_err-party.ensures.reads party four.3 (ident_if_any party other))
