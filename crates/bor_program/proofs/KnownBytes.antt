-- The known bytes that a loop of reads has taken, and that a loop of writes has given.
use Rattle.std.proofs.Common.{◌≡◌, ◌∙◌, ◌≤◌, ◌<◌, ◌-◌, ℕ, List, [], ◌++◌, Option, Some, None, IfSome, Result, Ok, Err, ap, arith, sym, length, take, drop, append-nil, append_assoc, take-append-drop, subst, lit≤}
use Rattle.std.specs.Io.KnownBytes.{Appends, Consumes, IsAtEnd, Keeps, ReadConsumes}
use Rattle.std.proofs.KnownBytes.{Appends-trans, Consumes-kept, Consumes-nil, Consumes-trans}
use Rattle.std.proofs.lemmas.List.{length-drop, take-append-le, take_all}
use Rattle.bor_program.specs.Streams.{TakesAtMostPart, TakesPart, part_read}

-- what was read is what is to be read of a file, and no more was taken
pub record IsPartOf (before after : Option (List ℕ)) (read : List ℕ) : Type 0 where
  pub is_part : IfSome before (λ bytes. read ≡ part_read bytes)
  pub taken : TakesPart before after

whole_part : (bytes read rest : List ℕ) → read ≡ part_read bytes → bytes ≡ read ++ rest → IsPartOf (Some bytes) (Some rest) read
whole_part bytes read rest same e = record { is_part = same; taken = e ∙ ap (λ l. l ++ rest) same }

-- as much was read as may be
pub read_to_limit : (before after : Option (List ℕ)) (read : List ℕ) → 1_048_576 < length read → length read ≤ 1_048_577
    → Consumes before after read → IsPartOf before after read
read_to_limit None after read above within e = record { is_part = tt; taken = tt }
read_to_limit (Some bytes) None read above within e = absurd e
read_to_limit (Some bytes) (Some rest) read above within e =
    let all : 1_048_577 ≤ length read = omega arith in
    whole_part bytes read rest (sym (ap (take 1_048_577) e ∙ take-append-le 1_048_577 read rest all ∙ take_all 1_048_577 read within)) e

-- the reader is at its end
pub read_to_end : (before middle after : Option (List ℕ)) (read : List ℕ) → length read ≤ 1_048_577
    → Consumes before middle read → Consumes middle after [] → IsAtEnd after → IsPartOf before after read
read_to_end None middle after read within e f end = record { is_part = tt; taken = tt }
read_to_end (Some bytes) None after read within e f end = absurd e
read_to_end (Some bytes) (Some rest) None read within e f end = absurd f
read_to_end (Some bytes) (Some rest) (Some last) read within e f end =
    let left : rest ≡ last = f in
    let whole : bytes ≡ read ++ last = e ∙ ap (λ l. read ++ l) left in
    let all : bytes ≡ read = whole ∙ ap (λ l. read ++ l) end ∙ append-nil read in
    whole_part bytes read last (sym (ap (take 1_048_577) all ∙ take_all 1_048_577 read within)) whole

-- some was read, and then some more
pub took_more : (before middle after : Option (List ℕ)) (read more : List ℕ) → length (read ++ more) ≤ 1_048_577 → Consumes before middle read
    → Consumes middle after more → TakesAtMostPart before after
took_more before middle after read more within e f = (read ++ more, within, Consumes-trans before middle after read more e f)

-- nothing was read
pub took_none : (before after : Option (List ℕ)) → Keeps before after → TakesAtMostPart before after
took_none before after h = ([], lit≤ tt, Consumes-kept before before after [] (Consumes-nil before) h)

-- the front of these bytes was written, and these are left
abbrev pub IsWritten : Option (List ℕ) → Option (List ℕ) → List ℕ → List ℕ → Type 0
IsWritten before after bytes rest = (front : List ℕ) × (bytes ≡ front ++ rest) × Appends before after front

-- a write took some of what was left
pub written_more : (before middle after : Option (List ℕ)) (bytes rest : List ℕ) (count : ℕ) → IsWritten before middle bytes rest
    → Appends middle after (take count rest) → IsWritten before after bytes (drop count rest)
written_more before middle after bytes rest count h e =
    let split : bytes ≡ (h.0 ++ take count rest) ++ drop count rest =
    h.1 ∙ ap (λ l. h.0 ++ l) (sym (take-append-drop count rest)) ∙ sym (append_assoc h.0 (take count rest) (drop count rest)) in
    (h.0 ++ take count rest, split, Appends-trans before middle after h.0 (take count rest) h.2 e)

-- a read into some room that gave nothing found the end
pub read_nothing : {E : Type 0} (before after : Option (List ℕ)) (result : Result ℕ E) (count : ℕ) (buf : List ℕ)
    → ReadConsumes before after result buf → result ≡ Ok count → count ≡ 0 → 0 < length buf → Consumes before after [] × IsAtEnd after
read_nothing before after (Ok n) count buf h e none room =
    let zero : n ≡ 0 = cc in
    (subst (λ k. Consumes before after (take k buf)) zero h.0, h.1 zero room)
read_nothing before after (Err error) count buf h e none room = cc

-- a list from a place on is what is left of it there
pub rest_from : (place : ℕ) (xs : List ℕ) → take (length xs - place) (drop place xs) ≡ drop place xs
rest_from place xs =
    let e : length (drop place xs) ≡ length xs - place = length-drop place xs in
    take_all (length xs - place) (drop place xs) (omega arith)
