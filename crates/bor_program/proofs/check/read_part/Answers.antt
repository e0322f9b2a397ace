use Rattle.std.proofs.Common.{rules, ◌≡◌, ◌∙◌, ap, sym, subst, ◌<◌, ◌≤◌, ◌+◌, [], ◌++◌, append-nil, length, length-append, take, arith}
use Rattle.std.specs.Io.KnownBytes.{Consumes, IsAtEnd}
use Rattle.std.proofs.lemmas.List.{length-take-le, take-append-le}
use Rattle.std.proofs.KnownBytes.{Consumes-kept, Consumes-trans}
use Rattle.bor_program.proofs.KnownBytes.{IsPartOf, read_nothing, read_to_end, read_to_limit, took_more}
use Rattle.bor_program.proofs.check.read_part.Given.{Over}
use Rattle.bor_program.proofs.check.read_part.Goals as goal
use Rattle.bor_program.proofs.check.read_part.Goals.{In-Ok-eq0, Then-room-eq0, in-Ok+in_ok-extend_from_slice-in-Ok, in-Err}

at_limit : (g : Over) (c : Then-room-eq0 g) → IsPartOf (g.I.Read.remaining c.args.input.now) (g.I.Read.remaining c.turns.input) c.turns.bytes.items
at_limit g c =
    let above : 1_048_576 < length c.turns.bytes.items = search rules in
    read_to_limit _ _ _ above c.turns.invariant.0 c.turns.invariant.1

found_end : (g : Over) (c : In-Ok-eq0 g) → Consumes (g.I.Read.remaining c.turns.input) (g.I.Read.remaining c.read.new.self) [] × IsAtEnd (g.I.Read.remaining c.read.new.self)
found_end g c =
    let room : 0 < length c.read.new.buf = search rules in
    read_nothing _ _ c.read.result c.in-Ok-eq0.field-0 c.read.new.buf c.read.ensures.bytes c.in-Ok-eq0.is c.in-Ok-eq0.field-0-test room

at_end : (g : Over) (c : In-Ok-eq0 g) → IsPartOf (g.I.Read.remaining c.args.input.now) (g.I.Read.remaining c.read.new.self) c.turns.bytes.items
at_end g c = read_to_end _ _ _ _ c.turns.invariant.0 c.turns.invariant.1 (found_end g c).0 (found_end g c).1

pub returns-then-room-eq0-clause-read : goal.returns-then-room-eq0-clause-read
returns-then-room-eq0-clause-read g c = (at_limit g c).is_part

pub returns-then-room-eq0-clause-taken : goal.returns-then-room-eq0-clause-taken
returns-then-room-eq0-clause-taken g c = (at_limit g c).taken

pub returns-in-Ok-eq0-clause-read : goal.returns-in-Ok-eq0-clause-read
returns-in-Ok-eq0-clause-read g c = (at_end g c).is_part

pub returns-in-Ok-eq0-clause-taken : goal.returns-in-Ok-eq0-clause-taken
returns-in-Ok-eq0-clause-taken g c = (at_end g c).taken

pub turns-preserved : goal.turns-preserved
turns-preserved g c =
    elim c.match-read.branch [
      | in-Ok+in_ok-extend_from_slice-in-Ok w ↦
          let fits : w.in-Ok.count ≤ length c.read.new.buf = search rules in
          let grown : c.match-read.bytes.items ≡ c.turns.bytes.items ++ take w.in-Ok.count c.read.new.buf =
          ap (λ v. v.items) w.bytes-is ∙ w.in_ok-extend_from_slice-in-Ok.ensures.items
          ∙ ap (λ l. c.turns.bytes.items ++ l) (take-append-le w.in-Ok.count c.read.new.buf _ fits) in
          let within : length c.match-read.bytes.items ≤ 1_048_577 = search rules in
          (within, subst (Consumes (g.I.Read.remaining c.args.input.now) (g.I.Read.remaining c.read.new.self)) (sym grown) (Consumes-trans _ _ _ _ _ c.turns.invariant.1 w.in-Ok.ensures.bytes.0))
      | in-Err w ↦ search rules
    ]

pub returns-in_err-extend_from_slice-in-Ok-clause-at_most : goal.returns-in_err-extend_from_slice-in-Ok-clause-at_most
returns-in_err-extend_from_slice-in-Ok-clause-at_most g c =
    let fits : c.in-Ok.count ≤ length c.read.new.buf = search rules in
    let small : length c.turns.bytes.items + c.in-Ok.count ≤ 1_048_577 = search rules in
    let short : length (take c.in-Ok.count c.read.new.buf) ≡ c.in-Ok.count = length-take-le c.in-Ok.count c.read.new.buf fits in
    let within : length (c.turns.bytes.items ++ take c.in-Ok.count c.read.new.buf) ≤ 1_048_577 =
    omega (arith, length-append c.turns.bytes.items (take c.in-Ok.count c.read.new.buf)) in
    took_more _ _ _ c.turns.bytes.items (take c.in-Ok.count c.read.new.buf) within c.turns.invariant.1 c.in-Ok.ensures.bytes.0

pub returns-then-room-eq0-clause-at_most : goal.returns-then-room-eq0-clause-at_most
returns-then-room-eq0-clause-at_most g c = (c.turns.bytes.items, c.turns.invariant.0, c.turns.invariant.1)

pub returns-in-Ok-eq0-clause-at_most : goal.returns-in-Ok-eq0-clause-at_most
returns-in-Ok-eq0-clause-at_most g c =
    took_more _ _ _ c.turns.bytes.items [] (rw (append-nil c.turns.bytes.items) c.turns.invariant.0) c.turns.invariant.1 (found_end g c).0

pub returns-in-Err-2-clause-at_most : goal.returns-in-Err-2-clause-at_most
returns-in-Err-2-clause-at_most g c = (c.turns.bytes.items, c.turns.invariant.0, Consumes-kept _ _ _ _ c.turns.invariant.1 c.in-Err-2.ensures.bytes)

pub returns-clause-at_most : goal.returns-clause-at_most
returns-clause-at_most g c = (c.turns.bytes.items, c.turns.invariant.0, c.turns.invariant.1)
