-- Facts that follow on a run from the output of the command that it performed.
use Rattle.bor_records.specs.Promises.{Meaning}
use Rattle.std.proofs.Common.{◌≡◌, ℕ, List, Bool, IsTrue, ◌∙◌, arith, inl, inr, refl, sym, subst, true, false, if◌then◌else◌, Bor}
use Rattle.clap.specs.Words.{Text as Words}
use Rattle.std.specs.List.{list_any}
use Rattle.bor_http.specs.Incoming.Message.{request_limit}
use Rattle.bor_register.specs.Register.{Register}
use Rattle.bor_register.specs.declared.fault.StoreFault.{StoreFault}
use Rattle.bor_program.specs.Courses.{Course}
use Rattle.bor_program.specs.Deeds.{Deed}
use Rattle.bor_program.specs.Connections.Serving.{has_failed}
use Rattle.bor_desk.specs.declared.text.Text.{Text}
use Rattle.bor_words.specs.declared.command.Command.{Command}
use Rattle.bor_words.specs.declared.command.Command.TheVariants.{Check, Init, Exchange, Serve, Report, Migrate}
use Rattle.bor_words.specs.declared.init.Init.{Init as AskedInit}
use Rattle.bor_words.specs.declared.serve.Serve.{Serve as Asked}
use Rattle.bor_program.specs.Performing.{EndsSettingUp, Exchanges, InitsOnceTold, IsDoneOrFailed, Performs, Serves, PrintsRefusal, System, migrated}
use Rattle.bor_program.specs.declared.host.opened.Origin.{Origin}
use Rattle.bor_program.specs.declared.host.opened.Origin.TheVariants.{Found, New}
use Rattle.bor_program.specs.declared.registrar.Exchanging.{Exchanging}
use Rattle.bor_program.specs.Program.{IsWrittenOrCutOff, report_status}
use Rattle.bor_program.specs.Streams.{Known, Streams, TakesAtMostPart}
use Rattle.bor_program.proofs.KnownBytes.{took_none}
use Rattle.bor_program.proofs.Replies.{no_usage, replies_end}

pub took : {M K Left : Type 0} (system : System K Left) (files : Course M (Deed K)) (asked : Command) (input rest : Known) (streams : Streams)
    → Performs system files asked input rest streams → TakesAtMostPart input rest
took system files (Check source) input rest streams p = p.1.at_most
took system files asked input rest streams p = took_none input rest p.0

-- status 1 stands for a refusal, and no command ends with 2
abbrev Says : Known → Known → ℕ → Type 0
Says output printed status = (status ≡ 1 → PrintsRefusal output printed) × (status ≡ 2 → ⊥)

refuses : (refused : Bool) → 1 ≡ report_status refused → IsTrue refused
refuses true e = refl
refuses false e = absurd (omega (arith, e))

unusual : (refused : Bool) → 2 ≡ report_status refused → ⊥
unusual true e = absurd (omega (arith, e))
unusual false e = absurd (omega (arith, e))

text_says : (text : Text) (output printed : Known) (status : ℕ) → IsWrittenOrCutOff text output printed status → Says output printed status
text_says text output printed status (inl h) = (λ one. inl (text, refuses text.refused (sym one ∙ h.told), h.text), λ two. unusual text.refused (sym two ∙ h.told))
text_says text output printed status (inr h) = (λ one. absurd (omega (arith, h.told, one)), λ two. absurd (omega (arith, h.told, two)))

flag_end : (failed : Bool) → IsDoneOrFailed (if failed then 3 else 0)
flag_end true = inr refl
flag_end false = inl refl

serves_end : {M K Left : Type 0} (Hosts : Asked → K → K → ℕ → Type 0) (meaning : Meaning K Register Left StoreFault) (files : Course M (Deed K)) (asked : Asked) (streams : Streams)
    → Serves Hosts meaning files asked streams → IsDoneOrFailed streams.status
serves_end Hosts meaning files asked streams (inl h) = inr h.status_is
serves_end Hosts meaning files asked streams (inr (_, _, _, inl h)) = inr h.1.status_is
serves_end Hosts meaning files asked streams (inr (_, _, _, inr h)) =
    let served = h.served.served in subst IsDoneOrFailed (sym served.status) (flag_end (list_any has_failed served.ended))

end_of : (path : Bor Words) (origin : Origin) (errors told : Known) (status : ℕ) → EndsSettingUp path origin errors told status → IsDoneOrFailed status
end_of path Found errors told status h = inr h.0
end_of path New errors told status h = h.0

inits_end : {M K W : Type 0} (Reads : ℕ → Bor Words → List ℕ → Type 0) (meaning : Meaning K Register W StoreFault) (files : Course M (Deed K)) (asked : AskedInit) (streams : Streams)
    → InitsOnceTold Reads meaning files asked streams → IsDoneOrFailed streams.status
inits_end Reads meaning files asked streams (inl h) = inr h.status_is
inits_end Reads meaning files asked streams (inr h) = elim h.2.done [
  | inl k ↦ inr k.status_is
  | inr k ↦ end_of asked.db k.1 streams.errors streams.told streams.status k.3
]

done_says : (output printed : Known) (status : ℕ) → IsDoneOrFailed status → Says output printed status
done_says output printed status (inl h) = (λ one. absurd (omega (arith, h, one)), λ two. absurd (omega (arith, h, two)))
done_says output printed status (inr h) = (λ one. absurd (omega (arith, h, one)), λ two. absurd (omega (arith, h, two)))

sent_says : {M K Left : Type 0} (Reads : Bor Words → List ℕ → Type 0) (meaning : Meaning K Register Left StoreFault) (files : Course M (Deed K)) (asked : Exchanging) (streams : Streams)
    → Exchanges Reads meaning files asked streams → Says streams.output streams.printed streams.status
sent_says Reads meaning files asked streams p = elim p.sent.1 [
  | inl h ↦ (λ one. inr (p.sent.0, sym h.1 ∙ one, h.0), λ two. no_usage _ (replies_end p.sent.0) (sym h.1 ∙ two))
  | inr h ↦ (λ one. absurd (omega (arith, h.1, one)), λ two. absurd (omega (arith, h.1, two)))
]

pub says : {M K Left : Type 0} (system : System K Left) (files : Course M (Deed K)) (asked : Command) (input rest : Known) (streams : Streams)
    → Performs system files asked input rest streams → Says streams.output streams.printed streams.status
says system files (Check source) input rest streams p = text_says _ _ _ _ p.1.report.1
says system files (Init asked) input rest streams p = done_says _ _ _ (inits_end system.reads system.meaning files asked streams p.1)
says system files (Exchange asked) input rest streams p = elim p.1 [
  | inl h ↦ done_says _ _ _ (inr h.status_is)
  | inr h ↦ sent_says (system.reads request_limit) system.meaning files h.0 streams h.2
]
says system files (Serve asked) input rest streams p = done_says _ _ _ (serves_end system.hosts system.meaning files asked streams p.1)
says system files (Report asked) input rest streams p = text_says _ _ _ _ p.1.text.1
says system files (Migrate asked) input rest streams p = text_says migrated _ _ _ p.1.text
