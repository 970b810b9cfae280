use Rattle.std.proofs.Common.{◌≡◌, ◌++◌, ◌∷◌, [], take, ap, sym, ◌∙◌, string_bytes}
use Rattle.std.proofs.lemmas.List.{map-append}
use Rattle.meta_types.specs.Text.{Text, texts_of}
use Rattle.gc_graph.specs.Targets.{content_target, snapshot_target, label_targets}
use Rattle.gc_graph.specs.Built.{numbers_in}
use Rattle.gc_graph.proofs.BookNumbers.{take_next}
use Rattle.gc_graph.proofs.LabelKinds.{label_step}
use Rattle.gc_graph.proofs.refs.push_labels.Goals as goal

pub loop-entry-preserved : goal.loop-entry-preserved
loop-entry-preserved c =
    let book = c.args.lookup.now.book.now in
    let ns = c.args.lookup.now.ns.now in
    let item = c.entry-item.result in
    let label : Text × Text = (string_bytes item.0, string_bytes item.1) in
    let more : c.push_label.new.numbers.items ≡ c.loop-entry.numbers.items
    ++ numbers_in book (content_target ns label ++ snapshot_target ns label)
    = c.in_ok-push_label.ensures.ok ∙ (λ i. c.loop-entry.numbers.items
    ++ numbers_in book (content_target ns (c.deref.ensures i, c.deref-in-loop-entry.ensures i)
    ++ snapshot_target ns (c.deref.ensures i, c.deref-in-loop-entry.ensures i))) in
    label_step book ns c.args.numbers.now.items c.loop-entry.numbers.items
    c.push_label.new.numbers.items
    (texts_of (take c.loop-entry.entry-index c.entries-entries.result.now)) label
    c.loop-entry.invariant more
    ∙ ap (λ es. c.args.numbers.now.items ++ numbers_in book (label_targets ns es))
    (sym (ap texts_of (take_next c.entries-entries.result.now c.loop-entry.entry-index item c.loop-entry-test.true c.entry-item.is)
    ∙ map-append (λ e. (string_bytes e.0, string_bytes e.1)) (take c.loop-entry.entry-index c.entries-entries.result.now) (item ∷ [])))
