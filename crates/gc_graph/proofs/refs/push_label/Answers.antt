use Rattle.std.proofs.Common.{◌≡◌, ◌∙◌, ℕ, List, sym, Option, Some, None, arith}
use Rattle.std.specs.Prelude.{slice_get}
use Rattle.gc_graph.specs.Targets.{content_target, snapshot_target}
use Rattle.gc_graph.proofs.LabelKinds.{no_content, no_snapshot, content_alone, snapshot_alone, neither, not_that}
use Rattle.gc_graph.proofs.refs.push_label.Goals as goal

pub returns-in_default-clause-ok : goal.returns-in_default-clause-ok
returns-in_default-clause-ok c =
    let ns = c.args.lookup.now.ns.now in
    let key = c.args.key.now in
    let value = c.args.value.now in
    neither c.args.lookup.now.book.now c.args.numbers.now.items (content_target ns (key, value))
    (snapshot_target ns (key, value))
    (no_content ns key value (λ is. c.in_default.not-Some 99 (c.kind_of.ensures ∙ is)))
    (no_snapshot ns key value (λ is. c.in_default.not-Some 115 (c.kind_of.ensures ∙ is)))

pub returns-then-kind-eq99-clause-ok : goal.returns-then-kind-eq99-clause-ok
returns-then-kind-eq99-clause-ok c =
    let ns = c.args.lookup.now.ns.now in
    let key = c.args.key.now in
    let value = c.args.value.now in
    let same = c.if-kind-eq99.true in
    content_alone c.args.lookup.now.book.now c.args.numbers.now.items
    c.push_label_content.new.numbers.items (content_target ns (key, value))
    (snapshot_target ns (key, value)) c.in_ok-push_label_content.ensures.ok
    (no_snapshot ns key value
    (not_that c.in-Some.kind 115 (slice_get key 21) (sym c.kind_of.ensures ∙ c.in-Some.is)
    (λ is. absurd (omega (arith, is, same)))))

pub returns-then-kind-eq115-clause-ok : goal.returns-then-kind-eq115-clause-ok
returns-then-kind-eq115-clause-ok c =
    let ns = c.args.lookup.now.ns.now in
    let key = c.args.key.now in
    let value = c.args.value.now in
    snapshot_alone c.args.lookup.now.book.now c.args.numbers.now.items
    c.push_label_snapshot.new.numbers.items (content_target ns (key, value))
    (snapshot_target ns (key, value)) c.in_ok-push_label_snapshot.ensures.ok
    (no_content ns key value
    (not_that c.in-Some.kind 99 (slice_get key 21) (sym c.kind_of.ensures ∙ c.in-Some.is)
    c.if-kind-eq99.false))

pub returns-clause-ok : goal.returns-clause-ok
returns-clause-ok c =
    let ns = c.args.lookup.now.ns.now in
    let key = c.args.key.now in
    let value = c.args.value.now in
    neither c.args.lookup.now.book.now c.args.numbers.now.items (content_target ns (key, value))
    (snapshot_target ns (key, value))
    (no_content ns key value
    (not_that c.in-Some.kind 99 (slice_get key 21) (sym c.kind_of.ensures ∙ c.in-Some.is)
    c.if-kind-eq99.false))
    (no_snapshot ns key value
    (not_that c.in-Some.kind 115 (slice_get key 21) (sym c.kind_of.ensures ∙ c.in-Some.is)
    c.if-kind-eq115.false))
