-- The words of paths, names and refusals.
use Rattle.std.specs.Prelude.{ℕ, List, Option, Some, None, codes}
use Rattle.bor_http.specs.declared.incoming.fault.Path.{Path}
use Rattle.bor_http.specs.declared.incoming.fault.Path.TheVariants as paths
use Rattle.bor_http.specs.declared.incoming.fault.Name.{Name}
use Rattle.bor_http.specs.declared.incoming.fault.Name.TheVariants as names
use Rattle.bor_http.specs.declared.incoming.fault.Refusal.{Refusal}
use Rattle.bor_http.specs.declared.incoming.fault.Refusal.TheVariants.{HeadTooLarge, CutShort}
use Rattle.bor_http.specs.declared.incoming.fault.Refusal.TheVariants.{BadHead, BadLength}
use Rattle.bor_http.specs.declared.incoming.fault.Refusal.TheVariants.{BodyTooLarge, NoPath}
use Rattle.bor_http.specs.declared.incoming.fault.Refusal.TheVariants.{WrongMethod, NoToken}
use Rattle.bor_http.specs.declared.incoming.fault.Refusal.TheVariants.{BadQuery}

-- how a path is written; {key} and {name} stand for one segment each
abbrev pub path_word : Path → List ℕ
path_word paths.Filing = codes "/filings/{key}"
path_word paths.Filings = codes "/filings"
path_word paths.File = codes "/filings/{key}/file"
path_word paths.Published = codes "/published"
path_word paths.Snapshot = codes "/snapshot"
path_word paths.Chains = codes "/chains"
path_word paths.Evidence = codes "/evidence"
path_word paths.Entities = codes "/entities"
path_word paths.Day = codes "/day"
path_word paths.Agents = codes "/agents"
path_word paths.Agent = codes "/agents/{name}"
path_word paths.Register = codes "/register"

-- the name as it stands in a query
unfoldable pub name_word : Name → List ℕ
name_word names.Key = codes "key"
name_word names.Due = codes "due"
name_word names.Agent = codes "agent"
name_word names.Declaration = codes "declaration"
name_word names.Record = codes "record"
name_word names.Scheme = codes "scheme"
name_word names.Id = codes "id"
name_word names.Date = codes "date"
name_word names.Name = codes "name"
name_word names.Token = codes "token"

unfoldable pub refusal_word : Refusal → List ℕ
refusal_word HeadTooLarge = codes "HeadTooLarge"
refusal_word CutShort = codes "CutShort"
refusal_word BadHead = codes "BadHead"
refusal_word BadLength = codes "BadLength"
refusal_word BodyTooLarge = codes "BodyTooLarge"
refusal_word NoPath = codes "NoPath"
refusal_word (WrongMethod _) = codes "WrongMethod"
refusal_word NoToken = codes "NoToken"
refusal_word (BadQuery _) = codes "BadQuery"

-- the name in a query that a refusal is about
abbrev pub refused_name : Refusal → Option Name
refused_name (BadQuery asked) = Some asked
refused_name refusal = None
