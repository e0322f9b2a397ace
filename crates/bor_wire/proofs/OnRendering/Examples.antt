-- Replies of worked instances, byte for byte.
use Rattle.std.proofs.Common.{◌≡◌, [], ◌∷◌, true, false, Some, None, pos, refl}
use Rattle.std.specs.Prelude.{codes}
use Rattle.std.specs.Fmt.{digits}
use Rattle.json.specs.Print.{escape_byte}
use Rattle.serde_json.specs.Written.{compact_text}
use Rattle.bor_terms.specs.Day.{day_text, year_at, month_at}
use Rattle.bor_terms.proofs.Examples.{calendar}
use Rattle.bods_read.specs.declared.details.Details.TheVariants as details
use Rattle.bods_read.specs.declared.details.EntityKind.TheVariants as entities
use Rattle.bods_read.specs.declared.fault.Fault.TheVariants as faults
use Rattle.bods_read.specs.declared.fault.Field.TheVariants as fields
use Rattle.bods_read.specs.declared.fault.FileFault.TheVariants as files
use Rattle.bods_read.specs.declared.interest.Directness.TheVariants as directness
use Rattle.bods_read.specs.declared.interest.InterestKind.TheVariants as interests
use Rattle.bods_read.specs.Faults.{file_fault_word, fault_word}
use Rattle.bods_read.specs.Words.{field_word, interest_word, directness_word, entity_word}
use Rattle.bor_terms.specs.Span.{range}
use Rattle.bor_records.specs.Links.Rows.{person_named}
use Rattle.bor_register.specs.declared.filing.State.TheVariants.{Published, Withdrawn}
use Rattle.bor_register.specs.Publication.{state_word}
use Rattle.bor_desk.specs.declared.refusal.Refusal.TheVariants as refuse
use Rattle.bor_desk.specs.declared.reply.DeskReply.TheVariants as tell
use Rattle.bor_desk.specs.Refusals.{refusal_name}
use Rattle.bor_http.specs.declared.incoming.fault.Name.TheVariants as names
use Rattle.bor_http.specs.declared.incoming.fault.Path.TheVariants as paths
use Rattle.bor_http.specs.declared.incoming.fault.Refusal.TheVariants.{WrongMethod, BadQuery}
use Rattle.bor_http.specs.Incoming.Words.{name_word, refusal_word}
use Rattle.bor_http.specs.Routes.Routes.{allow}
use Rattle.bor_wire.specs.Rendering.Values.{interest_data, details_data}
use Rattle.bor_wire.specs.Rendering.Bodies.{filing_text, refusal_text, lines_text, chains_text}
use Rattle.bor_wire.specs.Rendering.Heads.{phrase, status_line, field_line, own_line, head_bytes}
use Rattle.bor_wire.specs.Rendering.Replies.{refused, answered, bytes_of}

-- the first lodging, of 2024-02-01
pub first_lodging : bytes_of (answered (tell.Lodged (record { number = 1; due = pos 19754; state = Published; fresh = true })))
    ≡ codes "HTTP/1.1 201 Created\r\nContent-Type: application/json\r\nContent-Length: 51\r\nConnection: close\r\n\r\n{\"due\":\"2024-02-01\",\"filing\":1,\"state\":\"published\"}"
unfolding head_bytes status_line field_line own_line phrase digits filing_text escape_byte state_word day_text year_at month_at calendar
first_lodging = refl

-- the same lodging again
pub repeat : bytes_of (answered (tell.Lodged (record { number = 1; due = pos 19754; state = Withdrawn; fresh = false })))
    ≡ codes "HTTP/1.1 200 OK\r\nContent-Type: application/json\r\nContent-Length: 51\r\nConnection: close\r\n\r\n{\"due\":\"2024-02-01\",\"filing\":1,\"state\":\"withdrawn\"}"
unfolding head_bytes status_line field_line own_line phrase digits filing_text escape_byte state_word day_text year_at month_at calendar
repeat = refl

-- nobody has the token
pub no_agent : bytes_of (answered (tell.Refused refuse.NoAgent))
    ≡ codes "HTTP/1.1 401 Unauthorized\r\nContent-Type: application/json\r\nContent-Length: 21\r\nWWW-Authenticate: Bearer\r\nConnection: close\r\n\r\n{\"refusal\":\"NoAgent\"}"
unfolding head_bytes status_line field_line own_line phrase digits refusal_text escape_byte refusal_name
no_agent = refl

-- a member of the third statement isn't of its form
pub bad_exact : bytes_of (answered (tell.Refused (refuse.Read (files.At 3 (faults.Bad fields.Exact)))))
    ≡ codes "HTTP/1.1 422 Unprocessable Entity\r\nContent-Type: application/json\r\nContent-Length: 43\r\nConnection: close\r\n\r\n{\"field\":\"exact\",\"place\":3,\"refusal\":\"Bad\"}"
unfolding head_bytes status_line field_line own_line phrase digits refusal_text escape_byte refusal_name file_fault_word fault_word field_word
bad_exact = refl

-- the path of a filing has another method
pub wrong_method : bytes_of (refused (WrongMethod paths.Filing))
    ≡ codes "HTTP/1.1 405 Method Not Allowed\r\nContent-Type: application/json\r\nContent-Length: 25\r\nAllow: DELETE, PUT\r\nConnection: close\r\n\r\n{\"refusal\":\"WrongMethod\"}"
unfolding head_bytes status_line field_line own_line phrase digits refusal_text escape_byte refusal_word allow
wrong_method = refl

-- no due day is asked for
pub bad_query : bytes_of (refused (BadQuery names.Due))
    ≡ codes "HTTP/1.1 400 Bad Request\r\nContent-Type: application/json\r\nContent-Length: 36\r\nConnection: close\r\n\r\n{\"field\":\"due\",\"refusal\":\"BadQuery\"}"
unfolding head_bytes status_line field_line own_line phrase digits refusal_text escape_byte refusal_word name_word
bad_query = refl

-- nobody has lodged anything
pub no_filings : bytes_of (answered (tell.Filings []))
    ≡ codes "HTTP/1.1 200 OK\r\nContent-Type: application/json\r\nContent-Length: 2\r\nConnection: close\r\n\r\n[]"
unfolding head_bytes status_line field_line own_line phrase digits lines_text
no_filings = refl

-- a person without a name
pub one_person : chains_text (record { agent = codes "alder"; declaration = codes "c1"; rec = codes "e1" }) (pos 19754)
    (record { node = record { agent = codes "birch"; declaration = codes "c9"; rec = codes "bp" }; info = person_named None; links = 2 } ∷ [])
    ≡ codes "{\"agent\":\"alder\",\"date\":\"2024-02-01\",\"declaration\":\"c1\",\"persons\":[{\"agent\":\"birch\",\"declaration\":\"c9\",\"links\":2,\"name\":null,\"record\":\"bp\"}],\"record\":\"e1\"}"
unfolding digits chains_text escape_byte day_text year_at month_at calendar
one_person = refl

-- more than a quarter of the votes, and at most half; the days aren't told
pub some_votes : compact_text (interest_data (record { kind = interests.VotingRights; directness = directness.Direct; share = Some (range 25 true 50 false); starts = Some (pos 19754); ends = None }))
    ≡ codes "{\"directness\":\"direct\",\"share\":{\"high\":50,\"highOpen\":false,\"low\":25,\"lowOpen\":true},\"type\":\"votingRights\"}"
unfolding escape_byte digits interest_word directness_word
some_votes = refl

-- a name with a quotation mark, and an identifier
pub an_entity : compact_text (details_data (details.Entity entities.LegalEntity (Some (codes "A \"B\"")) (record { scheme = codes "GB-COH"; id = codes "1" } ∷ [])))
    ≡ codes "{\"identifiers\":[{\"id\":\"1\",\"scheme\":\"GB-COH\"}],\"kind\":\"legalEntity\",\"name\":\"A \\\"B\\\"\"}"
unfolding escape_byte entity_word
an_entity = refl

-- a relationship whose party is no record
pub no_party : compact_text (details_data (details.Relationship (Some (codes "e1")) None []))
    ≡ codes "{\"interestedParty\":null,\"interests\":[],\"subject\":\"e1\"}"
unfolding escape_byte
no_party = refl
