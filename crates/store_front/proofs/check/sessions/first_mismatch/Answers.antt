use Rattle.std.proofs.Common.{rules, ◌≡◌, ◌≢◌, ◌∙◌, ◌<◌, ℕ, length, slice_index_or, sym, ap, subst}
use Rattle.std.specs.Prelude.{count_by, ◌==◌, slice_get, Some}
use Rattle.std.proofs.lemmas.Option.{slice_get_within}
use Rattle.meta_types.specs.Histories.{Entry}
use Rattle.store_front.specs.SessionEntries.{Seat}
use Rattle.store_front.specs.Parts.{session_entry_of}
use Rattle.store_front.proofs.Comparing.{entry_counted, reads_on, reads_another, at_end}
use Rattle.store_front.proofs.check.sessions.first_mismatch.Goals as goal

-- the entry is of one of the sessions
pub place_of-place-requires : goal.place_of-place-requires
place_of-place-requires g c =
    let e : Entry = c.entry-item.result in
    let session = ap (λ (x : Entry). x.session) (sym c.entry-item.is) ∙ sym (ap (λ (x : Entry). x.session) c.entry.view_is) in
    subst (λ (k : ℕ). 0 < count_by (λ (s : Seat). s.number == k) c.args.sessions.now) session
    (entry_counted c.requires.0 c.args.log.now c.args.sessions.now c.loop-entry.entry-index e c.requires.1 c.requires.2 c.loop-entry-test.true)

-- the list has another there
pub returns-then-not-stands_at-clause-ok : goal.returns-then-not-stands_at-clause-ok
returns-then-not-stands_at-clause-ok g c =
    let e : Entry = c.entry-item.result in
    let s : Seat = c.index-sessions-place.result in
    let at : ℕ = c.index-at.result.now in
    let place = c.place_of-place.result in
    let number : (d : Seat) → (slice_index_or c.args.sessions.now place d).number ≡ e.session = λ d. c.place_of-place.ensures.number d ∙ ap (λ (x : Entry). x.session) c.entry.view_is in
    let at_is : at ≡ slice_index_or c.loop-entry.next.items place at = search rules in
    let another : slice_get s.list at ≢ Some (session_entry_of e) = search rules in
    reads_another c.requires.0 c.args.log.now c.args.sessions.now c.loop-entry.next.items c.loop-entry.entry-index e place c.requires.1 c.loop-entry-test.true (sym c.entry-item.is)
    c.place_of-place.ensures.inside c.loop-entry.invariant.long number c.loop-entry.invariant.each s at c.index-sessions-place.is at_is another

pub overflow_add-at : goal.overflow_add-at
overflow_add-at g c =
    let e : Entry = c.entry-item.result in
    let s : Seat = c.index-sessions-place.result in
    let at : ℕ = c.index-at.result.now in
    let stands : slice_get s.list at ≡ Some (session_entry_of e) = search rules in
    let within : at < length s.list = slice_get_within s.list at (session_entry_of e) stands in
    search rules

-- the entry stands in its session's list
pub loop-entry-preserved : goal.loop-entry-preserved
loop-entry-preserved g c =
    let e : Entry = c.entry-item.result in
    let s : Seat = c.index-sessions-place.result in
    let at : ℕ = c.index-at.result.now in
    let place = c.place_of-place.result in
    let number : (d : Seat) → (slice_index_or c.args.sessions.now place d).number ≡ e.session = λ d. c.place_of-place.ensures.number d ∙ ap (λ (x : Entry). x.session) c.entry.view_is in
    let at_is : at ≡ slice_index_or c.loop-entry.next.items place at = search rules in
    let stands : slice_get s.list at ≡ Some (session_entry_of e) = search rules in
    record {
      long = search rules;
      each = reads_on c.requires.0 c.args.log.now c.args.sessions.now c.loop-entry.next.items c.loop-entry.entry-index e place c.requires.1 c.loop-entry-test.true (sym c.entry-item.is)
          c.place_of-place.ensures.inside c.loop-entry.invariant.long number c.loop-entry.invariant.each s at c.index-sessions-place.is at_is stands;
    }

-- all lists end with the log, or one is longer
pub returns-clause-ok : goal.returns-clause-ok
returns-clause-ok g c =
    at_end c.args.log.now c.args.sessions.now c.loop-entry.next.items c.deref.result.now c.loop-entry.entry-index c.first_longer.result c.loop-entry.invariant.each c.loop-entry-test.false c.deref.ensures.value c.first_longer.ensures
