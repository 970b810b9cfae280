use Rattle.std.proofs.Common.{◌≡◌, ◌∙◌, sym, ap, true, false, bytes_eq, string_bytes, Some}
use Rattle.gc_labels.proofs.PassedLabels.{value_here, value_past, value_nowhere}
use Rattle.gc_labels.proofs.keys.value_among.Goals as goal

-- the entry has the key
pub returns-then-eq : goal.returns-then-eq
returns-then-eq c =
    let l = c.loop-entry in
    let entry = c.entry-item.result in
    let key = c.args.key.now in
    let same : bytes_eq key (string_bytes entry.0) ≡ true
    = ap (bytes_eq key) (sym c.as_str.ensures.value) ∙ sym c.eq.ensures ∙ c.if-eq.true in
    ap Some c.as_str-then-eq.ensures.value
    ∙ sym (value_here key c.args.entries.now l.entry-index entry c.loop-entry-test.true
    c.entry-item.is same)
    ∙ l.invariant

-- the entry has another key
pub loop-entry-preserved : goal.loop-entry-preserved
loop-entry-preserved c =
    let l = c.loop-entry in
    let entry = c.entry-item.result in
    let key = c.args.key.now in
    let other : bytes_eq key (string_bytes entry.0) ≡ false
    = ap (bytes_eq key) (sym c.as_str.ensures.value) ∙ sym c.eq.ensures ∙ c.if-eq.false in
    sym (value_past key c.args.entries.now l.entry-index entry c.loop-entry-test.true
    c.entry-item.is other)
    ∙ l.invariant

-- no entry has the key
pub returns : goal.returns
returns c =
    let l = c.loop-entry in
    sym (value_nowhere c.args.key.now c.args.entries.now l.entry-index c.loop-entry-test.false)
    ∙ l.invariant
