-- An agent's live statements, one filing after the other.
use Rattle.std.proofs.Common.{◌≡◌, ℕ, ℤ, List, [], ◌∷◌, ◌++◌, map, refl, ◌∙◌, sym, ap, append_assoc}
use Rattle.std.specs.Prelude.{◌||◌}
use Rattle.std.specs.List.{list_any}
use Rattle.std.proofs.lemmas.List.Folds.{list_any-append}
use Rattle.bor_terms.specs.Texts.{is_same}
use Rattle.bods_read.specs.declared.statement.Statement.{Statement}
use Rattle.bor_records.specs.Settling.{as_live, has_id}
use Rattle.bor_register.specs.declared.filing.AcceptedFiling.{AcceptedFiling}
use Rattle.bor_register.specs.Live.{live_of}

pub live_of-append : (fs gs : List AcceptedFiling) → live_of (fs ++ gs) ≡ live_of fs ++ live_of gs
live_of-append [] gs = refl
live_of-append (f ∷ fs) gs = ap (λ ls. map (as_live f.due) f.statements ++ ls) (live_of-append fs gs) ∙ sym (append_assoc (map (as_live f.due) f.statements) (live_of fs) (live_of gs))

pub has_id-live : (id : List ℕ) (due : ℤ) (ss : List Statement) → has_id id (map (as_live due) ss) ≡ list_any (λ s. is_same s.id id) ss
has_id-live id due [] = refl
has_id-live id due (s ∷ ss) = ap (λ b. is_same s.id id || b) (has_id-live id due ss)

pub has_id-live_of : (id : List ℕ) (fs : List AcceptedFiling) → has_id id (live_of fs) ≡ list_any (λ f. list_any (λ s. is_same s.id id) f.statements) fs
has_id-live_of id [] = refl
has_id-live_of id (f ∷ fs) =
    rw (list_any-append (λ l. is_same l.statement.id id) (map (as_live f.due) f.statements) (live_of fs), has_id-live id f.due f.statements, has_id-live_of id fs) refl
