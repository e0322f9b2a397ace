-- One read after another, and what is made of what was read.
use Rattle.std.proofs.Common.{◌≡◌, sym, subst, Result, Ok, Err, IfOk, MatchResult, IsErrAnd}
use Rattle.std.proofs.lemmas.Result.{IfOk-weaker}
use Rattle.sqlite.specs.State.{State, HasCleanDisk}
use Rattle.bor_register.specs.Register.{Register}
use Rattle.bor_store_sql.specs.Rows.Stored.{IsStored}
use Rattle.bor_store_sql.specs.Shown.{IsClean, ShowsIn, StaysUp}
use Rattle.bor_store_reads.specs.declared.fault.ReadError.{ReadError}
use Rattle.bor_store_reads.specs.declared.fault.ReadError.TheVariants as errors
use Rattle.bor_store_reads.specs.Answering.{IsNoDamage, ReadsAs}
use Rattle.bor_store_sql.proofs.Finding.{nothing_read, read_on}
use Rattle.bor_store_sql.specs.Found.{ReadsOnly}
use Rattle.bor_store_reads.proofs.Found.{answered, still_shows}

pub same_up : (s : State) → StaysUp s s
same_up s clean was = was

pub both_up : (old mid new : State) → StaysUp old mid → (HasCleanDisk new → HasCleanDisk mid) → StaysUp mid new → StaysUp old new
both_up old mid new first began second clean was = second clean (first (began clean) was)

-- an error says nothing of it
not_answered : {X Y : Type 0} (P : Type 0) (Q : Y → Type 0) (result : Result X Y) → IsErrAnd result Q → IfOk result (λ x. P)
not_answered P Q (Ok x) told = absurd told
not_answered P Q (Err e) told = tt

-- without a read
pub unread : {X : Type 0} {s : State} {x : X} {P : Register → X → Type 0} → ((r : Register) → IsStored r → P r x) → ReadsAs s s (Ok x) P
unread {X} {s} so = record { reads = nothing_read; up = same_up s; answer = λ clean r shows. so r shows.stored }

-- what was found before
pub read_before : {X : Type 0} {s : State} {x : X} {P : Register → X → Type 0} → (IsClean s → (r : Register) → ShowsIn r s → P r x) → ReadsAs s s (Ok x) P
read_before {X} {s} found = record { reads = nothing_read; up = same_up s; answer = found }

handed_on : {X : Type 0} (error : ReadError) (result : Result X ReadError) (Q : X → Type 0) → IsErrAnd result (λ e. e ≡ error) → IsNoDamage error → MatchResult result Q IsNoDamage
handed_on error (Ok x) Q told whole = absurd told
handed_on error (Err e) Q told whole = subst IsNoDamage (sym told) whole

-- memory is wanting
pub read_wants : {X : Type 0} {old new : State} {result : Result X ReadError} {P : Register → X → Type 0} → IsErrAnd result (λ e. e ≡ errors.Memory) → ReadsOnly old new → ReadsAs old new result P
read_wants {X} {old} {new} {result} {P} told reads = record { reads = reads; up = not_answered _ _ result told; answer = λ clean r shows. handed_on errors.Memory result (P r) told (λ same. (let no = same in cc)) }

-- a read that is asked for after another
pub read_after : {X : Type 0} {old mid new : State} {result : Result X ReadError} {P : Register → X → Type 0} → ReadsOnly old mid → StaysUp old mid → ReadsAs mid new result P → ReadsAs old new result P
read_after {X} {old} {mid} {new} {result} first up second = record {
  reads = read_on first second.reads;
  up = IfOk-weaker result (λ x. StaysUp mid new) (λ x. StaysUp old new) (λ x. both_up old mid new up second.reads.clean) second.up;
  answer = λ clean r shows. second.answer clean r (still_shows r old mid (first.kept (second.reads.began clean)) shows);
}

-- an answer in other words
pub read_as : {X : Type 0} {old new : State} {result : Result X ReadError} {P Q : Register → X → Type 0} → ReadsAs old new result P → ((r : Register) (x : X) → IsStored r → P r x → Q r x) → ReadsAs old new result Q
read_as {X} {old} {new} {result} {P} {Q} was so = record {
  reads = was.reads;
  up = was.up;
  answer = λ clean r shows. answered result (P r) (Q r) (λ x. so r x shows.stored) (was.answer clean r shows);
}

module _ {X Y : Type 0} {P : Register → X → Type 0} {Q : Register → Y → Type 0} {old : State} where
  -- the fault of a read is handed on
  pub read_fails : {new : State} {error : ReadError} {result : Result Y ReadError} → IsErrAnd result (λ e. e ≡ error) → ReadsAs old new (Err error) P → ReadsAs old new result Q
  read_fails {new} {error} {result} told was = record { reads = was.reads; up = not_answered _ _ result told; answer = λ clean r shows. handed_on error result (Q r) told (was.answer clean r shows) }

  module _ {x : X} where
    -- what was read first is so too
    pub read_next : {mid new : State} {result : Result Y ReadError} → ReadsAs old mid (Ok x) P → ReadsAs mid new result Q → ReadsAs old new result (λ r y. P r x × Q r y)
    read_next {mid} {new} {result} first second = record {
      reads = read_on first.reads second.reads;
      up = IfOk-weaker result (λ y. StaysUp mid new) (λ y. StaysUp old new) (λ y. both_up old mid new first.up second.reads.clean) second.up;
      answer = λ clean r shows.
          (let began = second.reads.began clean in
          let was = first.answer began r shows in
          answered result (Q r) (λ y. P r x × Q r y) (λ y is. (was, is)) (second.answer clean r (still_shows r old mid (first.reads.kept began) shows)));
    }

    -- another value is made of what was read
    pub read_so : {new : State} {y : Y} → ReadsAs old new (Ok x) P → ((r : Register) → IsStored r → P r x → Q r y) → ReadsAs old new (Ok y) Q
    read_so was so = record { reads = was.reads; up = was.up; answer = λ clean r shows. so r shows.stored (was.answer clean r shows) }

    -- no register has what was read
    pub read_never : {new : State} {error : ReadError} → ReadsAs old new (Ok x) P → ((r : Register) → IsStored r → P r x → ⊥) → ReadsAs old new (Err error) Q
    read_never was never = record { reads = was.reads; up = tt; answer = λ clean r shows. absurd (never r shows.stored (was.answer clean r shows)) }
