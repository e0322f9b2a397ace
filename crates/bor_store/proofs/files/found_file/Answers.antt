use Rattle.std.proofs.Common.{◌≡◌, ap, map, sym, ◌∙◌, slice_get, ◌==◌}
use Rattle.std.proofs.lemmas.Option.{slice_get-map}
use Rattle.std.proofs.lemmas.Simd.{map-map}
use Rattle.std.proofs.lemmas.List.Elements.{All-filter}
use Rattle.sqlite.specs.Held.{state}
use Rattle.bor_register.proofs.Forms.{formed-filings_of}
use Rattle.bor_register.specs.Forms.{IsFormedFiling}
use Rattle.bor_register.specs.Publication.{filing_shown}
use Rattle.bor_register.specs.Register.{Register, filings_of}
use Rattle.bor_register.specs.declared.filing.AcceptedFiling.{AcceptedFiling}
use Rattle.bor_store_sql.specs.Rows.Encoding.{shown_columns}
use Rattle.bor_store_sql.specs.Rows.RowForms.{IsFormedShown}
use Rattle.bor_store_sql.specs.Selected.{numbered}
use Rattle.bor_store_reads.proofs.FoundFilings.{shown_formed}
use Rattle.bor_store.proofs.Either.{in_words, told_either}
use Rattle.bor_store.proofs.files.found_file.Goals as goal

pub returns-clause-answer : goal.returns-clause-answer
returns-clause-answer g c =
    let own = λ (r : Register). filings_of c.args.agent.now r.members in
    in_words (state g.S.Store c.file_by_number.new.conn) c.first_value.result {P = λ r file. file ≡ slice_get (map filing_shown (numbered c.args.number (own r))) 0}
    (λ r file is. is ∙ slice_get-map filing_shown (numbered c.args.number (own r)) 0)
    (told_either shown_columns IsFormedShown c.first_value.result (λ xs x. x ≡ slice_get xs 0) (λ r. map filing_shown (numbered c.args.number (own r))) c.file_by_number.ensures
    (λ r. ap (λ a. map (λ f. shown_columns (filing_shown f)) (numbered c.args.number (filings_of a r.members))) c.as_str.ensures.value ∙ sym (map-map shown_columns filing_shown (numbered c.args.number (own r))))
    (λ r stored. shown_formed (numbered c.args.number (own r)) (All-filter (λ (f : AcceptedFiling). f.number == c.args.number) IsFormedFiling (own r) (formed-filings_of c.args.agent.now r.members stored.formed.members)))
    c.first_value.ensures.value)
