-- The table of routes computed: the path of a text, what it asks for by a method, and its methods.
use Rattle.std.proofs.Common.{◌≡◌, ℕ, List, [], ◌∷◌, ◌++◌, Option, Some, None, true, false, codes, map, refl}
use Rattle.bor_http.specs.declared.incoming.fault.Path.{Path}
use Rattle.bor_http.specs.declared.incoming.fault.Path.TheVariants as paths
use Rattle.bor_http.specs.declared.routes.route.Route.{Route}
use Rattle.bor_http.specs.declared.routes.route.Route.TheVariants as asks
use Rattle.bor_http.specs.Routes.Routes.{route_at, allow}
use Rattle.bor_http.specs.Routes.Paths.{segments, is_written_as, path_of}

-- ---- one text, segment by segment

-- what stands before the first slash is a segment too
four_segments : segments (codes "/filings/f1/file") ≡ [] ∷ codes "filings" ∷ codes "f1" ∷ codes "file" ∷ []
four_segments = refl

empty_segment : segments (codes "/filings//file") ≡ [] ∷ codes "filings" ∷ [] ∷ codes "file" ∷ []
empty_segment = refl

no_slash : segments (codes "day") ≡ codes "day" ∷ []
no_slash = refl

-- f1 stands for {key}, and the other words for themselves
each_stands : is_written_as (codes "/filings/f1/file") paths.File ≡ true
each_stands = refl

-- of a path of three words the fourth segment is left over
one_left_over : is_written_as (codes "/filings/f1/file") paths.Filing ≡ false
one_left_over = refl

no_key : is_written_as (codes "/filings//file") paths.File ≡ false
no_key = refl

-- ---- texts beside their paths

abbrev Cases : Type 0
Cases = List (List ℕ × Option Path)

abbrev found : Cases → List (Option Path)
found cases = map path_of (map (λ t. t.0) cases)

abbrev expected : Cases → List (Option Path)
expected cases = map (λ t. t.1) cases

-- each path of the table
abbrev each_path : Cases
each_path =
    (codes "/filings", Some paths.Filings)
    ∷ (codes "/filings/f1", Some paths.Filing)
    ∷ (codes "/filings/f1/file", Some paths.File)
    ∷ (codes "/published", Some paths.Published)
    ∷ (codes "/snapshot", Some paths.Snapshot)
    ∷ (codes "/chains", Some paths.Chains)
    ∷ (codes "/evidence", Some paths.Evidence)
    ∷ (codes "/entities", Some paths.Entities)
    ∷ (codes "/day", Some paths.Day)
    ∷ (codes "/agents", Some paths.Agents)
    ∷ (codes "/agents/cedar", Some paths.Agent)
    ∷ (codes "/register", Some paths.Register)
    ∷ []

-- any segment stands for a key, whatever its bytes are; nothing is decoded
abbrev as_it_stands : Cases
as_it_stands =
    (codes "/filings/file", Some paths.Filing)
    ∷ (codes "/filings/file/file", Some paths.File)
    ∷ (codes "/filings/f%31", Some paths.Filing)
    ∷ (codes "/filings/f1%2Ffile", Some paths.Filing)
    ∷ (codes "/filings/{key}", Some paths.Filing)
    ∷ (codes "/agents/cedar%20", Some paths.Agent)
    ∷ (codes "/agents/{name}", Some paths.Agent)
    ∷ (codes "/filin%67s", None)
    ∷ []

-- no segment is empty
abbrev empty_segments : Cases
empty_segments =
    (codes "/filings/", None)
    ∷ (codes "/filings//file", None)
    ∷ (codes "/filings/f1/", None)
    ∷ (codes "//day", None)
    ∷ (codes "/agents/", None)
    ∷ []

-- none is left over
abbrev further_segments : Cases
further_segments =
    (codes "/filings/f/file/", None)
    ∷ (codes "/filings/f/files", None)
    ∷ (codes "/filings/f/g", None)
    ∷ (codes "/filings/f/file/g", None)
    ∷ (codes "/agents/cedar/", None)
    ∷ (codes "/agents/cedar/file", None)
    ∷ []

-- a path is neither longer nor shorter, and letters are compared as they stand
abbrev other_texts : Cases
other_texts =
    (codes "/day/", None)
    ∷ (codes "/Day", None)
    ∷ (codes "/days", None)
    ∷ (codes "/da", None)
    ∷ (codes "/e", None)
    ∷ (codes "/entity", None)
    ∷ (codes "/registers", None)
    ∷ (codes "/agent", None)
    ∷ (codes "day", None)
    ∷ (codes "/", None)
    ∷ ([], None)
    ∷ []

abbrev every_text : Cases
every_text = each_path ++ as_it_stands ++ empty_segments ++ further_segments ++ other_texts

every_text_found : found every_text ≡ expected every_text
unfolding path_of
every_text_found = refl

-- ---- what a path asks for by a method

abbrev asked : List ((Path × List ℕ) × Option Route)
asked =
    ((paths.Filing, codes "PUT"), Some asks.Lodge)
    ∷ ((paths.Filing, codes "DELETE"), Some asks.Withdraw)
    ∷ ((paths.Filings, codes "GET"), Some asks.Filings)
    ∷ ((paths.File, codes "GET"), Some asks.File)
    ∷ ((paths.Published, codes "GET"), Some asks.Published)
    ∷ ((paths.Snapshot, codes "GET"), Some asks.Snapshot)
    ∷ ((paths.Chains, codes "GET"), Some asks.Chains)
    ∷ ((paths.Evidence, codes "GET"), Some asks.Evidence)
    ∷ ((paths.Entities, codes "GET"), Some asks.Entities)
    ∷ ((paths.Day, codes "POST"), Some asks.Day)
    ∷ ((paths.Agents, codes "POST"), Some asks.Enrol)
    ∷ ((paths.Agent, codes "PUT"), Some asks.Renew)
    ∷ ((paths.Register, codes "GET"), Some asks.Register)
    ∷ ((paths.Filings, codes "HEAD"), None)
    ∷ ((paths.Filings, codes "get"), None)
    ∷ ((paths.Filings, codes "GETS"), None)
    ∷ ((paths.Filings, codes "POST"), None)
    ∷ ((paths.Filings, codes "PUT"), None)
    ∷ ((paths.Filing, codes "GET"), None)
    ∷ ((paths.Filing, codes "PATCH"), None)
    ∷ ((paths.Filing, []), None)
    ∷ ((paths.File, codes "DELETE"), None)
    ∷ ((paths.Evidence, codes "POST"), None)
    ∷ ((paths.Entities, codes "POST"), None)
    ∷ ((paths.Day, codes "GET"), None)
    ∷ ((paths.Agents, codes "PUT"), None)
    ∷ ((paths.Agent, codes "POST"), None)
    ∷ ((paths.Register, codes "PUT"), None)
    ∷ []

asked_found : map (λ a. route_at a.0.0 a.0.1) asked ≡ map (λ a. a.1) asked
unfolding route_at
asked_found = refl

-- ---- the methods of a path

abbrev every_path : List Path
every_path = paths.Filing ∷ paths.Filings ∷ paths.File ∷ paths.Published ∷ paths.Snapshot ∷ paths.Chains ∷ paths.Evidence ∷ paths.Entities ∷ paths.Day ∷ paths.Agents ∷ paths.Agent ∷ paths.Register ∷ []

methods : map allow every_path
    ≡ codes "DELETE, PUT" ∷ codes "GET" ∷ codes "GET" ∷ codes "GET" ∷ codes "GET" ∷ codes "GET" ∷ codes "GET" ∷ codes "GET" ∷ codes "POST" ∷ codes "POST" ∷ codes "PUT" ∷ codes "GET" ∷ []
unfolding allow
methods = refl
