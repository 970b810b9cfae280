use Rattle.std.proofs.Common.{◌≡◌, ◌∙◌, sym, ◌+◌, ◌-◌, ◌*◌, ◌<◌, inl, inr, arith}
use Rattle.std.proofs.lemmas.Bool.{false≢true}
use Rattle.journal.proofs.Selectors.{follows_selector, zeros_selector}
use Rattle.journal.proofs.Texts.{behind, unmarked_text, more_headed, more_long, grown_text, grown_left, longer_same, at_any_error, rests_from}
use Rattle.journal.proofs.journal_file.file.JournalFileLog.grow.Goals as goal

pub returns-then-not-self-clause-crash : goal.returns-then-not-self-clause-crash
returns-then-not-self-clause-crash g c clean only out left =
    longer_same _ out (only out left)

pub returns-then-self-ge-STEPS-clause-crash : goal.returns-then-self-ge-STEPS-clause-crash
returns-then-self-ge-STEPS-clause-crash g c clean only out left =
    longer_same _ out (only out left)

pub invariant_of-self : goal.invariant_of-self
invariant_of-self g c =
    let it = c.args.self.now in
    let is_open = c.if-not-self.false in
    record {
      headed = λ now still.
          let head = it.headed is_open (sym c.add_zeros.ensures.calm ∙ still) in
          (behind _ it.steps c.end_of-from.result _ head c.end_of-from.ensures
          _ c.add_zeros.ensures.torn).0;
      sized = λ now. it.sized is_open;
      selected = λ still.
          let end = c.end_of-from.ensures in
          zeros_selector g.C.Selector.IS_STANDBY c.end_of-from.result _ _ _ _
          (g.met.D.Disk.seen_may_stay it.disk) (inl (omega (arith, end)))
          c.add_zeros.ensures.crash (it.selected (sym c.add_zeros.ensures.calm ∙ still));
    }

pub returns-in_err-add_zeros-clause-calm : goal.returns-in_err-add_zeros-clause-calm
returns-in_err-add_zeros-clause-calm g c =
    c.add_zeros.ensures.calm

pub returns-in_err-add_zeros-clause-refused : goal.returns-in_err-add_zeros-clause-refused
returns-in_err-add_zeros-clause-refused g c =
    at_any_error c.from_residual.result (λ error other both.
    let it = c.args.self.now in
    let clean = both in
    let is_open = c.if-not-self.false in
    let head = it.headed is_open clean in (
      (behind _ it.steps c.end_of-from.result _ head c.end_of-from.ensures
          _ c.add_zeros.ensures.torn).1,
      unmarked_text _ it.steps c.end_of-from.result _ head c.end_of-from.ensures
          _ _ (g.met.D.Disk.seen_may_stay it.disk) c.add_zeros.ensures.crash,
    ))

pub returns-in_err-add_zeros-clause-crash : goal.returns-in_err-add_zeros-clause-crash
returns-in_err-add_zeros-clause-crash g c both only out left =
    let it = c.args.self.now in
    let clean = both in
    let is_open = c.if-not-self.false in
    let head = it.headed is_open clean in
    longer_same _ out (only out
    (unmarked_text _ it.steps c.end_of-from.result _ head c.end_of-from.ensures
    _ _ (g.met.D.Disk.seen_may_stay it.disk) c.add_zeros.ensures.crash out left))

pub returns-in-Err-clause-crash : goal.returns-in-Err-clause-crash
returns-in-Err-clause-crash g c both only out left =
    let it = c.args.self.now in
    let clean = both in
    let is_open = c.if-not-self.false in
    let head = it.headed is_open clean in
    let from = c.end_of-from.result in
    let till = c.end_of-till.result in
    let step : till - from ≡ 1048576 =
    omega (arith, c.end_of-from.ensures, c.end_of-till.ensures) in
    let less : from < till = omega (arith, step) in
    grown_left _ it.steps from _ head c.end_of-from.ensures step
    _ c.add_zeros.ensures.torn (c.in_ok-add_zeros.ensures.holds less)
    _ _ c.in_ok-add_zeros.ensures.durable c.put_marks.ensures.crash out left

pub invariant_of-self-2-clause-headed : goal.invariant_of-self-2-clause-headed
invariant_of-self-2-clause-headed g c now still =
    let clean = sym c.add_zeros.ensures.calm ∙ sym c.put_marks.ensures.calm ∙ still in
    let it = c.args.self.now in
    let is_open = c.if-not-self.false in
    let head = it.headed is_open clean in
    let from = c.end_of-from.result in
    let till = c.end_of-till.result in
    let step : till - from ≡ 1048576 =
    omega (arith, c.end_of-from.ensures, c.end_of-till.ensures) in
    let less : from < till = omega (arith, step) in
    let done = c.in-Ok.ensures.ok
    (more_headed _ it.steps from _ head c.end_of-from.ensures step
    _ c.add_zeros.ensures.torn (c.in_ok-add_zeros.ensures.holds less))
    (more_long _ it.steps from _ head c.end_of-from.ensures step
    _ c.add_zeros.ensures.torn (c.in_ok-add_zeros.ensures.holds less)) in
    done.0

pub invariant_of-self-2-clause-sized : goal.invariant_of-self-2-clause-sized
invariant_of-self-2-clause-sized g c now =
    let sized = c.args.self.now.sized c.if-not-self.false in
    (omega (arith, sized.0), omega (arith, c.if-self-ge-STEPS.false))

pub returns-clause-ok : goal.returns-clause-ok
returns-clause-ok g c both =
    let it = c.args.self.now in
    let clean = both in
    let is_open = c.if-not-self.false in
    let head = it.headed is_open clean in
    let from = c.end_of-from.result in
    let till = c.end_of-till.result in
    let step : till - from ≡ 1048576 =
    omega (arith, c.end_of-from.ensures, c.end_of-till.ensures) in
    let less : from < till = omega (arith, step) in
    let done = c.in-Ok.ensures.ok
    (more_headed _ it.steps from _ head c.end_of-from.ensures step
    _ c.add_zeros.ensures.torn (c.in_ok-add_zeros.ensures.holds less))
    (more_long _ it.steps from _ head c.end_of-from.ensures step
    _ c.add_zeros.ensures.torn (c.in_ok-add_zeros.ensures.holds less)) in (
      till - from,
      omega (arith, step),
      grown_text _ it.steps from _ head c.end_of-from.ensures step
          _ c.add_zeros.ensures.torn (c.in_ok-add_zeros.ensures.holds less) _ done.0 done.1,
    )

pub returns-clause-crash : goal.returns-clause-crash
returns-clause-crash g c both only out left =
    let it = c.args.self.now in
    let clean = both in
    let is_open = c.if-not-self.false in
    let head = it.headed is_open clean in
    let from = c.end_of-from.result in
    let till = c.end_of-till.result in
    let step : till - from ≡ 1048576 =
    omega (arith, c.end_of-from.ensures, c.end_of-till.ensures) in
    let less : from < till = omega (arith, step) in
    grown_left _ it.steps from _ head c.end_of-from.ensures step
    _ c.add_zeros.ensures.torn (c.in_ok-add_zeros.ensures.holds less)
    _ _ c.in_ok-add_zeros.ensures.durable c.put_marks.ensures.crash out left

pub invariant_of-self-2-clause-selected : goal.invariant_of-self-2-clause-selected
invariant_of-self-2-clause-selected g c still =
    let clean = sym c.add_zeros.ensures.calm ∙ sym c.put_marks.ensures.calm ∙ still in
    let it = c.args.self.now in
    let end = c.end_of-from.ensures in
    let room = c.if-self-ge-STEPS.false in
    follows_selector g.C.Selector.IS_STANDBY (17 + 2 * it.steps) 2 _ _ (inr (omega (arith, room)))
    c.put_marks.ensures.torn
    (zeros_selector g.C.Selector.IS_STANDBY c.end_of-from.result _ _ _ _
    (g.met.D.Disk.seen_may_stay it.disk) (inl (omega (arith, end)))
    c.add_zeros.ensures.crash (it.selected clean))

pub returns-clause-durable : goal.returns-clause-durable
returns-clause-durable g c both = rests_from _ _ c.in-Ok.ensures.durable

pub returns-in-Err-clause-calm : goal.returns-in-Err-clause-calm
returns-in-Err-clause-calm g c =
    (c.put_marks.ensures.calm ∙ c.add_zeros.ensures.calm)

pub returns-clause-calm : goal.returns-clause-calm
returns-clause-calm g c =
    (c.put_marks.ensures.calm ∙ c.add_zeros.ensures.calm)

-- the marks were put, or a part of them
pub invariant_of-self-in-Err : goal.invariant_of-self-in-Err
invariant_of-self-in-Err g c =
    let it = c.args.self.now in
    let end = c.end_of-from.ensures in
    let room = c.if-self-ge-STEPS.false in
    record {
      headed = λ now. absurd (false≢true now);
      sized = λ now. absurd (false≢true now);
      selected = λ still.
          let clean = sym c.add_zeros.ensures.calm ∙ sym c.put_marks.ensures.calm ∙ still in
          follows_selector g.C.Selector.IS_STANDBY (17 + 2 * it.steps) 2 _ _
          (inr (omega (arith, room))) c.put_marks.ensures.torn
          (zeros_selector g.C.Selector.IS_STANDBY c.end_of-from.result _ _ _ _
          (g.met.D.Disk.seen_may_stay it.disk) (inl (omega (arith, end)))
          c.add_zeros.ensures.crash (it.selected clean));
    }
