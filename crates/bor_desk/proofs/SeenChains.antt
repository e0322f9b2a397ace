-- Who stands behind an entity, and why, by the nodes and links that a viewer sees.
use Rattle.std.proofs.Common.{◌≡◌, ℕ, ℤ, Bool, arith, cond, inl, inr, Option, Some, None, List, Result, Ok, Err, IsErr, IsErrAnd, refl, sym, ap, subst}
use Rattle.bor_records.specs.declared.links.node.Node.{Node}
use Rattle.bor_records.specs.declared.links.node.NodeInfo.{NodeInfo}
use Rattle.bor_records.specs.declared.links.node.NodeInfo.TheVariants.{Entity}
use Rattle.bor_records.specs.Promises.{Kept, Meaning, Promised, StaysClean}
use Rattle.bor_chains.specs.declared.fault.ChainFault.{ChainFault}
use Rattle.bor_chains.specs.declared.fault.ChainFault.TheVariants as chains
use Rattle.bor_records.specs.Links.Shown.{Shown, info_of, IsEntity}
use Rattle.bor_records.specs.Links.Rows.{is_entity_info, shown_of}
use Rattle.bor_chains.specs.Promises.{OnNoEntity, ReportAccounts}
use Rattle.bor_register.specs.declared.fault.StoreFault.{StoreFault}
use Rattle.bor_register.specs.Register.{Register}
use Rattle.bor_register.specs.Seen.{seen_at}
use Rattle.bor_desk.specs.declared.operations.keep_source.KeepSource.{KeepSource}
use Rattle.bor_desk.specs.Operations.Sight.{seen_by}
use Rattle.bor_desk.specs.Operations.Outlook.{Outlook}
use Rattle.bor_desk.specs.Operations.Outcomes.{Accounts, store_fault}
use Rattle.bor_desk.proofs.OnOperations.Outcomes.{unless_store}
use Rattle.bor_desk.proofs.OnOperations.SeenLinks.{numbers_make_no_links}
use Rattle.bor_desk.specs.declared.refusal.Refusal.TheVariants.{NoEntity}
use Rattle.bor_desk.specs.declared.refusal.DeskFault.{DeskFault}
use Rattle.bor_desk.specs.Refusals.{IsOfChains, failed}
use Rattle.bor_desk.specs.Step.{report, refused, report_on}
use Rattle.bor_desk.specs.Outcomes.{IsFoundOf}

-- ---- the report

pub entity-report : (s : Shown) (n : Node) (day : ℤ) → IsEntity s n → report_on s n day ≡ report n day s
entity-report s n day h = ap (λ (info : Option NodeInfo). cond (is_entity_info info) (report n day s) (refused NoEntity)) h.1

pub no_entity-refused : (s : Shown) (n : Node) (day : ℤ) → (IsEntity s n → ⊥) → report_on s n day ≡ refused NoEntity
no_entity-refused s n day none = at (info_of s n) (λ legal e. none (legal, e))
  where
    at : (info : Option NodeInfo) → ((legal : Bool) → info ≡ Some (Entity legal) → ⊥) → cond (is_entity_info info) (report n day s) (refused NoEntity) ≡ refused NoEntity
    at info never = grind arith

-- what is right by the nodes and links that a viewer sees
pub chains-found : (right : Shown → Type 0) (day : ℤ) (viewer : List ℕ) (r : Register) (n : Node) → IsEntity (seen_at viewer day r) n → right (seen_at viewer day r) →
    (report_on (shown_of day (seen_by viewer r)) n day ≡ report n day (shown_of day (seen_by viewer r))) × right (shown_of day (seen_by viewer r))
chains-found right day viewer r n entity is =
    subst (λ (s : Shown). (report_on s n day ≡ report n day s) × right s) (sym (numbers_make_no_links day viewer r)) (entity-report (seen_at viewer day r) n day entity, is)

-- why nothing was found
refusal-found : {P F : Type 0} (into : F → StoreFault → Type 0) (right : Shown → P → Type 0) (day : ℤ) (viewer : List ℕ) (r : Register) (n : Node) (fault : ChainFault F) (given : DeskFault) → OnNoEntity fault (IsEntity (seen_at viewer day r) n → ⊥) → IsOfChains into fault given →
    IsFoundOf right (Err given) (shown_of day (seen_by viewer r)) n day
refusal-found into right day viewer r n chains.NoEntity given none is =
    subst (λ (g : DeskFault). IsFoundOf right (Err g) (shown_of day (seen_by viewer r)) n day) (sym is)
    (subst (λ (s : Shown). report_on s n day ≡ refused NoEntity) (sym (numbers_make_no_links day viewer r)) (no_entity-refused (seen_at viewer day r) n day none))
refusal-found into right day viewer r n (chains.Source f) given none is =
    subst (λ (g : DeskFault). IsFoundOf right (Err g) (shown_of day (seen_by viewer r)) n day) (sym is.2) tt
refusal-found into right day viewer r n chains.Memory given none is =
    subst (λ (g : DeskFault). IsFoundOf right (Err g) (shown_of day (seen_by viewer r)) n day) (sym is) tt

pub chains-refused : {P F : Type 0} (into : F → StoreFault → Type 0) (right : Shown → P → Type 0) (day : ℤ) (viewer : List ℕ) (r : Register) (n : Node) (fault : ChainFault F) (made : Result P DeskFault) → OnNoEntity fault (IsEntity (seen_at viewer day r) n → ⊥) →
    IsErr made → IsErrAnd made (IsOfChains into fault) → IsFoundOf right made (shown_of day (seen_by viewer r)) n day
chains-refused into right day viewer r n fault (Ok found) none is_err gives = absurd cc
chains-refused into right day viewer r n fault (Err given) none is_err gives = refusal-found into right day viewer r n fault given none gives

-- ---- a source that borrows a keep

-- the meaning of such a source, by that of the keep
abbrev pub lent : {K W : Type 0} → Meaning K Register W StoreFault → Meaning (KeepSource K) Outlook W StoreFault
lent meaning = record {
  shows = λ x m. (x.viewer.now ≡ m.viewer) × (x.day ≡ m.day) × meaning.shows x.keep.now m.register;
  is_clean = λ x. meaning.is_clean x.keep.now;
  is_sound = λ x. meaning.is_sound x.keep.now;
  may_leave = λ x left. meaning.may_leave x.keep.now left;
  left_shows = λ left m. meaning.left_shows left m.register;
  fault_count = λ x. meaning.fault_count x.keep.now;
  may_tell = meaning.may_tell;
}

-- where the source is kept from x to y, so is the keep that it borrows
pub keep-kept : {K W : Type 0} (meaning : Meaning K Register W StoreFault) (old new : K) (x y : KeepSource K) → x.keep.now ≡ old → new ≡ y.keep.now → Kept (lent meaning) x y → Kept meaning old new
keep-kept {K} meaning old new x y begins ends kept =
    subst (λ (k : K). Kept meaning old k) (sym ends) (subst (λ (k : K). Kept meaning k y.keep.now) begins (record {
      began = kept.began;
      same = λ clean r. (
        (λ h. ((kept.same clean (record { viewer = x.viewer.now; day = x.day; register = r })).0 (refl, refl, h)).2),
        (λ h. ((kept.same clean (record { viewer = y.viewer.now; day = y.day; register = r })).1 (refl, refl, h)).2),
      );
      sound = kept.sound;
      stops = kept.stops;
    }))

-- what is promised of the outlook of the source's viewer and day is promised of the register
pub keep-promised : {K W : Type 0} (meaning : Meaning K Register W StoreFault) (old new : K) (x y : KeepSource K) (viewer : List ℕ) (day : ℤ) (P : Register → Type 0) → x.viewer.now ≡ viewer → x.day ≡ day → x.keep.now ≡ old → new ≡ y.keep.now →
    ((r : Register) → (lent meaning).shows x (record { viewer = viewer; day = day; register = r }) → meaning.is_clean y.keep.now → P r) → Promised meaning old new P
keep-promised {K} meaning old new x y viewer day P is_viewer is_day begins ends told =
    λ r h clean. told r (is_viewer, is_day, subst (λ (k : K). meaning.shows k r) (sym begins) h) (subst meaning.is_clean ends clean)

-- ---- whose fault it is

-- the source's account is the keep's
keep-accounts : {K W : Type 0} (meaning : Meaning K Register W StoreFault) (old new : K) (x y : KeepSource K) (fault : Option StoreFault) → x.keep.now ≡ old → new ≡ y.keep.now → Accounts (lent meaning) x y fault → Accounts meaning old new fault
keep-accounts {K} meaning old new x y fault begins ends a =
    subst (λ (k : K). Accounts meaning old k fault) (sym ends) (subst (λ (k : K). Accounts meaning k y.keep.now fault) begins (record {
      counted = a.counted;
      told = λ r h clean. a.told (record { viewer = x.viewer.now; day = x.day; register = r }) (refl, refl, h) clean;
      lasts = unless_store fault (StaysClean (lent meaning) x y) (StaysClean meaning x.keep.now y.keep.now) (λ h. record { sound = h.sound; clean = h.clean }) a.lasts;
    }))

-- what was found leaves the count, and a clean keep clean
pub found-accounts : {K W T : Type 0} {found : T} (meaning : Meaning K Register W StoreFault) (old new : K) (x y : KeepSource K) → x.keep.now ≡ old → new ≡ y.keep.now → ReportAccounts (lent meaning) x y (Ok found) → Accounts meaning old new None
found-accounts meaning old new x y begins ends walk = keep-accounts meaning old new x y None begins ends (record { counted = walk.counts; told = λ m h clean. tt; lasts = walk.lasts })

-- a fault of the source is the keep's, counted, and one that it may answer; any other leaves the count, and is want of memory or a refusal
refusal-accounts : {K W T : Type 0} (meaning : Meaning K Register W StoreFault) (x y : KeepSource K) (fault : ChainFault StoreFault) (given : DeskFault) → IsOfChains (λ f s. s ≡ f) fault given → ReportAccounts {T = T} (lent meaning) x y (Err fault) →
    Accounts (lent meaning) x y (failed given)
refusal-accounts meaning x y chains.NoEntity given is walk = subst (λ (g : DeskFault). Accounts (lent meaning) x y (failed g)) (sym is) (record { counted = walk.counts; told = λ m h clean. tt; lasts = walk.lasts })
refusal-accounts meaning x y (chains.Source f) given is walk =
    subst (λ (g : DeskFault). Accounts (lent meaning) x y (failed g)) (sym is.2) (record { counted = inr walk.honest; told = λ m h clean. inr (subst meaning.may_tell (sym is.1) (walk.told m h clean), walk.honest); lasts = tt })
refusal-accounts meaning x y chains.Memory given is walk =
    subst (λ (g : DeskFault). Accounts (lent meaning) x y (failed g)) (sym is) (record { counted = inl (refl, walk.counts); told = λ m h clean. inl (refl, walk.counts); lasts = tt })

pub refused-accounts : {K W T P : Type 0} (meaning : Meaning K Register W StoreFault) (old new : K) (x y : KeepSource K) (fault : ChainFault StoreFault) (made : Result P DeskFault) → x.keep.now ≡ old → new ≡ y.keep.now → IsErr made → IsErrAnd made (IsOfChains (λ f s. s ≡ f) fault) →
    ReportAccounts {T = T} (lent meaning) x y (Err fault) → Accounts meaning old new (store_fault failed made)
refused-accounts meaning old new x y fault (Ok found) begins ends is_err is walk = absurd cc
refused-accounts meaning old new x y fault (Err given) begins ends is_err is walk = keep-accounts meaning old new x y (failed given) begins ends (refusal-accounts meaning x y fault given is walk)
