-- What an agent is told as of a date is told by the statements that it sees dated by then.
use Rattle.std.proofs.Common.{◌≡◌, ℕ, ℤ, Bool, true, false, cond, Option, Some, None, option_map, List, refl, sym, ap, ◌∙◌, subst}
use Rattle.std.specs.Prelude.{unwrap_or}
use Rattle.bods_read.specs.declared.details.Identifier.{Identifier}
use Rattle.bor_records.specs.declared.row.Row.{Row}
use Rattle.bor_records.specs.declared.row.Entry.{Entry}
use Rattle.bor_records.specs.Snapshot.{IsSnapshot, entry_of, open_row, snapshot}
use Rattle.bor_records.specs.declared.links.node.Node.{Node}
use Rattle.bor_records.specs.Links.ByKey.{rows_by}
use Rattle.bor_records.specs.Links.Series.{open_at}
use Rattle.bor_records.specs.Links.Answers.{Identified}
use Rattle.bor_records.specs.Links.Shown.{Shown, info_of}
use Rattle.bor_records.specs.Links.Rows.{is_entity_info, shown_of}
use Rattle.bor_records.proofs.OpenRecords.{determined}
use Rattle.bor_records.proofs.OnLinks.ByKey.{shown_by_snapshots}
use Rattle.bor_chains.specs.Laws.{dated_by}
use Rattle.bor_chains.specs.Evidence.{AreEvidenced}
use Rattle.bor_chains.proofs.Past.{later_statements_change_no_past as of_rows}
use Rattle.bor_desk.specs.declared.evidence.lines.EntityEvidence.{EntityEvidence}
use Rattle.bor_desk.specs.declared.evidence.lines.RecordEvidence.{RecordEvidence}
use Rattle.bor_desk.specs.declared.request.AgentRequest.TheVariants as ask
use Rattle.bor_desk.specs.declared.reply.DeskReply.{DeskReply}
use Rattle.bor_desk.specs.declared.reply.DeskReply.TheVariants as tell
use Rattle.bor_desk.specs.declared.refusal.Refusal.TheVariants.{NoEntity}
use Rattle.bor_desk.specs.Operations.Sight.{seen_by}
use Rattle.bor_desk.specs.Evidence.{AreLinkEvidence, AreRecords, IsEntityEvidence, IsMentioned, record_node}
use Rattle.bor_desk.specs.Outcomes.{IsTold}
use Rattle.bor_desk.specs.Step.{Answer, exactly, entities, evidence, refused, report_on, chains_answer, evidence_answer, snapshot_answer}
use Rattle.bor_desk.specs.Laws as laws

-- ---- snapshots

-- where each record is open with the same row, there is one snapshot
one_snapshot : (declaration : List ℕ) (day : ℤ) (rows others : List Row) → ((rec : List ℕ) → open_row declaration day rows rec ≡ open_row declaration day others rec) → snapshot declaration day rows ≡ snapshot declaration day others
one_snapshot declaration day rows others same = (determined declaration day others (snapshot declaration day rows)).0 (record {
  each = λ e on. ap (λ (o : Option Row). option_map entry_of o) (sym (same e.statement.rec)) ∙ is.each e on;
  every = λ rec r at. is.every rec r (same rec ∙ at);
  sorted = is.sorted;
})
  where
    is : IsSnapshot declaration day rows (snapshot declaration day rows)
    is = (determined declaration day rows (snapshot declaration day rows)).1 refl

module _ (day : ℤ) (rows others : List Row) (same : dated_by day rows ≡ dated_by day others) where
  open_same : (n : Node) → open_at day n rows ≡ open_at day n others
  open_same n = of_rows.records day n rows others same

  shown_same : shown_of day rows ≡ shown_of day others
  shown_same = of_rows.shown day rows others same

  snapshot_same : (agent declaration : List ℕ) → snapshot declaration day (rows_by agent rows) ≡ snapshot declaration day (rows_by agent others)
  snapshot_same agent declaration = one_snapshot declaration day (rows_by agent rows) (rows_by agent others) (λ rec. by (record { agent = agent; declaration = declaration; rec = rec }))
    where
      by : (n : Node) → open_row n.declaration day (rows_by n.agent rows) n.rec ≡ open_row n.declaration day (rows_by n.agent others) n.rec
      by n = shown_by_snapshots day n rows ∙ open_same n ∙ sym (shown_by_snapshots day n others)

  -- ---- evidence

  records_same : (mentioned : Node → Type 0) (records : List RecordEvidence) → AreRecords day rows mentioned records → AreRecords day others mentioned records
  records_same mentioned records h = record {
    each = λ x on. let e = h.each x on in (e.0, ((e.1).0, sym (open_same (record_node x)) ∙ (e.1).1, (e.1).2));
    every = λ n m. let e = h.every n m in (e.0, sym (open_same n) ∙ e.1, e.2);
    sorted = h.sorted;
  }

  evidence_same : (entity : Node) (told : EntityEvidence) → IsEntityEvidence rows entity day told → IsEntityEvidence others entity day told
  evidence_same entity told h = record {
    tree = h.tree;
    evidenced = subst (λ (s : Shown). AreEvidenced s entity h.tree) shown_same h.evidenced;
    persons = h.persons;
    links = subst (λ (s : Shown). AreLinkEvidence s entity (h.tree).links told.links) shown_same h.links;
    records = records_same (IsMentioned entity h.tree told.links) told.records h.records;
  }

  evidence_told : (entity : Node) (reply : DeskReply) → IsTold (evidence_answer rows entity day) reply → IsTold (evidence_answer others entity day) reply
  evidence_told entity reply h =
      subst (λ (s : Shown). IsTold (cond (is_entity_info (info_of s entity)) (evidence entity day others) (refused NoEntity)) reply) shown_same (at (is_entity_info (info_of (shown_of day rows) entity)) h)
    where
      at : (b : Bool) → IsTold (cond b (evidence entity day rows) (refused NoEntity)) reply → IsTold (cond b (evidence entity day others) (refused NoEntity)) reply
      at true k = (k.0, evidence_same entity k.0 k.1, k.2)
      at false k = k

  -- ---- entities

  entities_told : (identifier : Identifier) (reply : DeskReply) → IsTold (entities identifier day rows) reply → IsTold (entities identifier day others) reply
  entities_told identifier reply h =
      (h.0, records_same (Identified (shown_of day others) identifier) h.0 (subst (λ (s : Shown). AreRecords day rows (Identified s identifier) h.0) shown_same h.1), h.2)

-- ---- what is told

none_named : (day : ℤ) → None ≡ Some day → ⊥
none_named day h = cc

pub later_statements_change_no_past : laws.LaterStatementsChangeNoAnswer
later_statements_change_no_past name day r q (ask.Snapshot agent declaration date) reply is same told =
    subst (λ (a : Answer). IsTold a reply)
    (ap (λ (d : Option ℤ). snapshot_answer (seen_by name r) agent declaration (unwrap_or d r.day)) is
    ∙ ap (λ (entries : List Entry). exactly (tell.Snapshot day entries)) (snapshot_same day (seen_by name r) (seen_by name q) same agent declaration)
    ∙ ap (λ (d : Option ℤ). snapshot_answer (seen_by name q) agent declaration (unwrap_or d q.day)) (sym is))
    told
later_statements_change_no_past name day r q (ask.Chains entity date) reply is same told =
    subst (λ (a : Answer). IsTold a reply)
    (ap (λ (d : Option ℤ). chains_answer (seen_by name r) entity (unwrap_or d r.day)) is
    ∙ ap (λ (s : Shown). report_on s entity day) (shown_same day (seen_by name r) (seen_by name q) same)
    ∙ ap (λ (d : Option ℤ). chains_answer (seen_by name q) entity (unwrap_or d q.day)) (sym is))
    told
later_statements_change_no_past name day r q (ask.Evidence entity date) reply is same told =
    subst (λ (d : Option ℤ). IsTold (evidence_answer (seen_by name q) entity (unwrap_or d q.day)) reply) (sym is)
    (evidence_told day (seen_by name r) (seen_by name q) same entity reply
    (subst (λ (d : Option ℤ). IsTold (evidence_answer (seen_by name r) entity (unwrap_or d r.day)) reply) is told))
later_statements_change_no_past name day r q (ask.Entities identifier date) reply is same told =
    subst (λ (d : Option ℤ). IsTold (entities identifier (unwrap_or d q.day) (seen_by name q)) reply) (sym is)
    (entities_told day (seen_by name r) (seen_by name q) same identifier reply
    (subst (λ (d : Option ℤ). IsTold (entities identifier (unwrap_or d r.day) (seen_by name r)) reply) is told))
later_statements_change_no_past name day r q request reply is same told = absurd (none_named day is)
