-- An ingest that is opened, and is there: it goes on, with the later end.
use Rattle.std.proofs.Common.{◌≡◌, Bool, not, List, [], ◌∷◌, Option, Some, refl, sym, ap, subst}
use Rattle.std.specs.Prelude.{Result, Ok, Err, is_some, option_map}
use Rattle.std.specs.Option.{option_map_or}
use Rattle.std.specs.Result.{IsErrAnd}
use Rattle.meta_types.specs.Keys.{row_at, change_row}
use Rattle.meta_types.specs.Rows.{State, ingest_key}
use Rattle.meta_types.specs.Text.{is_short_name, is_name, is_digest}
use Rattle.meta_types.specs.Time.{instant_of}
use Rattle.meta_types.specs.Data.{is_data}
use Rattle.meta_types.specs.Changes.{all_of, is_allowed_if, holding, with_ingests}
use Rattle.meta_types.specs.Ops.{Outcome, name_key}
use Rattle.meta_types.specs.Ops.Ingests.{opens_ingest, later_end, own_end, reopened}
use Rattle.meta_types.specs.declared.instant.Instant.{Instant}
use Rattle.meta_types.specs.declared.rows.IngestRow.{IngestRow}
use Rattle.meta_types.specs.declared.resource.Resource.TheVariants.{Ingest}
use Rattle.meta_types.specs.declared.reply.Reply.{Reply}
use Rattle.meta_types.specs.declared.request.IngestBegin.{IngestBegin}
use Rattle.meta_types.specs.declared.request.Request.TheVariants as R
use Rattle.object_tables.specs.Edits.{ingest_until}
use Rattle.request_core.specs.Follows.{Store, AnswersExactly, FollowsExactly, ReadsTexts}
use Rattle.request_core.specs.declared.refusal.Refusal.{Refusal}
use Rattle.request_core.specs.declared.refusal.Refusal.TheVariants.{Reading, By}
use Rattle.request_core.proofs.Refusals.{first_unread}
use Rattle.request_core.proofs.SetRows.{set_is}

-- ---- what isn't read

-- a request whose texts weren't read is refused as they were
module _ {X : Type 0} (old : Store) (o : Outcome) (allowed : Bool) (x : X) where
  refused_by : (refusal : Refusal) → ReadsTexts {X = X} (Err refusal) allowed x
      → o.invalid ≡ not allowed → FollowsExactly old o (Err refusal) old
  refused_by Reading h invalid = refl
  refused_by (By fault) h invalid = rw (h.0, invalid, h.1) (refl, refl)

  pub unread : (r : Result Reply Refusal) (refusal : Refusal)
      → IsErrAnd r (λ other. other ≡ refusal) → ReadsTexts {X = X} (Err refusal) allowed x
      → o.invalid ≡ not allowed → FollowsExactly old o r old
  unread (Ok reply) refusal same h invalid = absurd same
  unread (Err other) refusal same h invalid =
      subst (λ (y : Refusal). FollowsExactly old o (Err y) old) (sym same)
      (refused_by refusal h invalid)

-- nothing was read
abbrev unread_of : Refusal → Result (Unit {0}) Refusal
unread_of refusal = Err refusal

-- the tests of its texts, but for the first two
abbrev later_tests : IngestBegin → List Bool
later_tests asked =
    is_some (instant_of asked.at) ∷ is_allowed_if is_digest asked.expected
    ∷ is_allowed_if is_name asked.lease ∷ is_allowed_if is_data asked.extra ∷ []

-- so is one whose namespace and name alone were read
pub name_unread : {X : Type 0} (old : Store) (asked : IngestBegin) (r : Result Reply Refusal)
    (refusal : Refusal) (x : X) → IsErrAnd r (λ other. other ≡ refusal)
    → ReadsTexts {X = X} (Err refusal)
    (all_of (is_short_name asked.ingest.ns ∷ is_name asked.ingest.name ∷ [])) x
    → AnswersExactly old (R.IngestOpen asked) r old
unfolding AnswersExactly
name_unread {X = X} old asked r refusal x same h =
    let ns = is_short_name asked.ingest.ns in
    let name = is_name asked.ingest.name in
    let rest = later_tests asked in
    unread old (opens_ingest old.state asked) (all_of (ns ∷ name ∷ rest)) tt r refusal same
    (first_unread {X = X} (unread_of refusal) refusal ns name rest x tt refl h) refl

-- when one ends that is opened again: at the later of both ends
abbrev pub end_again : IngestBegin → IngestRow → Option Instant
end_again asked row =
    option_map (λ (expiry : Instant). option_map_or (later_end expiry)
    (own_end asked.lease asked.at) expiry) row.expires

-- these are the ingests, and its lease holds it
abbrev pub held_on : State → IngestBegin → List IngestRow → State
held_on state asked rows =
    holding asked.ingest.ns asked.lease (Ingest asked.ingest.name) (with_ingests state rows)

-- it has this end, and its lease holds it
abbrev pub gone_on : State → IngestBegin → Option Instant → State
gone_on state asked expires =
    held_on state asked (change_row ingest_key (name_key asked.ingest) (ingest_until expires)
    state.records.tables.ingests)

-- the row that exists has the new end
pub goes_on : (state : State) (asked : IngestBegin) (row : IngestRow) (expires : Option Instant)
    → row_at ingest_key (name_key asked.ingest) state.records.tables.ingests ≡ Some row
    → expires ≡ end_again asked row
    → (opens_ingest state asked).after ≡ gone_on state asked expires
goes_on state asked row expires is end =
    rw (ap is_some is)
    (ap (λ (rows : List IngestRow). held_on state asked rows)
    (sym (set_is ingest_key (name_key asked.ingest) (ingest_until expires) (reopened asked) row
    state.records.tables.ingests is (ap (λ (e : Option Instant). ingest_until e row) end))))
