-- Texts part by part are those of values of JSON, and words are short.
use Rattle.std.proofs.Common.{◌≡◌, ◌≤◌, ℕ, List, ◌++◌, length, Bool, true, Option, Some, None, append_assoc, refl, ap, ◌∙◌, arith}
use Rattle.std.specs.Prelude.{codes, decimal, nat_le, ◌&&◌}
use Rattle.std.specs.List.{list_all}
use Rattle.std.proofs.lemmas.Bool.Decides.{nat_tests}
use Rattle.json.specs.Print.{escape_byte, quoted}
use Rattle.bor_terms.specs.Texts.{is_agent_name, is_name_byte}
use Rattle.bor_register.specs.declared.filing.State.{State}
use Rattle.bor_register.specs.declared.filing.State.TheVariants.{Draft}
use Rattle.bor_register.specs.Publication.{state_word}
use Rattle.bods_read.specs.declared.fault.Field.{Field}
use Rattle.bods_read.specs.declared.fault.Field.TheVariants as fields
use Rattle.bods_read.specs.declared.fault.Fault.{Fault}
use Rattle.bods_read.specs.declared.fault.Fault.TheVariants as faults
use Rattle.bods_read.specs.declared.fault.FileFault.{FileFault}
use Rattle.bods_read.specs.declared.fault.FileFault.TheVariants as files
use Rattle.bods_read.specs.Words.{field_word}
use Rattle.bods_read.specs.Faults.{fault_word, file_fault_word}
use Rattle.bor_records.specs.declared.fault.RecordFault.{RecordFault}
use Rattle.bor_records.specs.declared.fault.RecordFault.TheVariants as records
use Rattle.bor_records.specs.Words.{fault_name}
use Rattle.bor_desk.specs.declared.refusal.Refusal as desk
use Rattle.bor_desk.specs.declared.refusal.Refusal.TheVariants as refuse
use Rattle.bor_desk.specs.Refusals.{refusal_name}
use Rattle.bor_http.specs.declared.incoming.fault.Name.{Name}
use Rattle.bor_http.specs.declared.incoming.fault.Name.TheVariants as names
use Rattle.bor_http.specs.declared.incoming.fault.Refusal as wire
use Rattle.bor_http.specs.declared.incoming.fault.Refusal.TheVariants.{HeadTooLarge}
use Rattle.bor_http.specs.Incoming.Words.{name_word, refusal_word}
use Rattle.bor_http.specs.declared.incoming.fault.Path.{Path}
use Rattle.bor_http.specs.declared.incoming.fault.Path.TheVariants as paths
use Rattle.bor_http.specs.Routes.Routes.{allow}
use Rattle.bor_wire.specs.Rendering.Bodies.{refusal_text}
use Rattle.bor_wire.specs.Rendering.Parts.{field_member, place_member}

-- a refusal part by part, as it is written
unfoldable pub refusal_parts : List ℕ → Option ℕ → Option (List ℕ) → List ℕ
refusal_parts name place field =
    codes "{"
    ++ (field_member field
    ++ (place_member place ++ (codes "\"refusal\":" ++ (quoted name ++ codes "}"))))

-- what stands last in a refusal
tail : List ℕ → List ℕ
tail name = codes "\"refusal\":" ++ (quoted name ++ codes "}")

pub refusal_is : (name : List ℕ) (place : Option ℕ) (field : Option (List ℕ)) → refusal_parts name place field ≡ refusal_text name place field
unfolding refusal_parts refusal_text escape_byte tail
refusal_is name None None = refl
refusal_is name (Some place) None = ap (λ t. codes "{\"place\":" ++ t) (append_assoc (decimal place) (codes ",") (tail name))
refusal_is name None (Some field) = ap (λ t. codes "{\"field\":" ++ t) (append_assoc (quoted field) (codes ",") (tail name))
refusal_is name (Some place) (Some field) =
    ap (λ t. codes "{\"field\":" ++ t) (append_assoc (quoted field) (codes ",") (codes "\"place\":" ++ ((decimal place ++ codes ",") ++ tail name)))
    ∙ ap (λ t. codes "{\"field\":" ++ (quoted field ++ (codes ",\"place\":" ++ t))) (append_assoc (decimal place) (codes ",") (tail name))

pub state_short : (state : State) → length (state_word state) ≤ 9
unfolding state_word
state_short Draft = omega arith
state_short state = omega arith

within : (n : ℕ) (rest : Bool) → ((nat_le 1 n && nat_le n 32) && rest) ≡ true → n ≤ 32
within n rest h = grind (arith, nat_tests)

pub name_short : (name : List ℕ) → is_agent_name name ≡ true → length name ≤ 32
unfolding is_agent_name
name_short name fits = within (length name) (list_all is_name_byte name) fits

pub field_short : (field : Field) → length (field_word field) ≤ 18
unfolding field_word
field_short fields.Statement = omega arith
field_short field = omega arith

pub query_short : (name : Name) → length (name_word name) ≤ 18
unfolding name_word
query_short names.Key = omega arith
query_short name = omega arith

fault_short : (fault : Fault) → length (fault_word fault) ≤ 15
unfolding fault_word
fault_short (faults.Missing field) = omega arith
fault_short fault = omega arith

file_fault_short : (fault : FileFault) → length (file_fault_word fault) ≤ 15
unfolding file_fault_word
file_fault_short (files.At place fault) = fault_short fault
file_fault_short fault = omega arith

record_fault_short : (fault : RecordFault) → length (fault_name fault) ≤ 15
unfolding fault_name
record_fault_short records.TypeChanged = omega arith
record_fault_short fault = omega arith

pub refusal_short : (why : desk.Refusal) → length (refusal_name why) ≤ 15
unfolding refusal_name
refusal_short (refuse.Read fault) = file_fault_short fault
refusal_short (refuse.Record place fault) = record_fault_short fault
refusal_short why = omega arith

pub wire_refusal_short : (why : wire.Refusal) → length (refusal_word why) ≤ 15
unfolding refusal_word
wire_refusal_short HeadTooLarge = omega arith
wire_refusal_short why = omega arith

pub allow_short : (path : Path) → length (allow path) ≤ 11
unfolding allow
allow_short paths.Filing = omega arith
allow_short path = omega arith
