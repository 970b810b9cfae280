use Rattle.std.proofs.Common.{◌≡◌, ◌≢◌, ◌<◌, ◌≤◌, ℕ, arith, Bool, true, false, ◌∙◌, sym, below_more}
use Rattle.std.specs.Prelude.{MatchBool, count_by, ◌==◌, All}
use Rattle.store_front.specs.SessionEntries.{Seat}
use Rattle.store_front.specs.Finish.{AreEach}
use Rattle.store_front.proofs.SessionCounts.{are_each, not_each, one_above}
use Rattle.store_front.proofs.check.numbers.are_each.Goals as goal

pub returns-then-count_of-ne1 : goal.returns-then-count_of-ne1
returns-then-count_of-ne1 g c =
    let other : count_by (λ (s : Seat). s.number == c.loop-number.number) c.args.sessions.now ≢ 1 = λ e. c.if-count_of-ne1.true (c.count_of.ensures ∙ e) in
    not_each c.args.opened c.args.sessions.now c.loop-number.number c.loop-number-test.true other

pub loop-number-preserved : goal.loop-number-preserved
loop-number-preserved g c = below_more (λ (k : ℕ). count_by (λ (s : Seat). s.number == k) c.args.sessions.now ≡ 1) _ c.loop-number.invariant (sym c.count_of.ensures ∙ c.if-count_of-ne1.false)

whole : (opened n : ℕ) (seats : _) (b : Bool) → ((k : ℕ) → k < n
    → count_by (λ (s : Seat). s.number == k) seats ≡ 1) → opened ≤ n
    → MatchBool b (All (λ (s : Seat). s.number < opened) seats) ((k : ℕ) × (opened ≤ k) × (0 < count_by (λ (s : Seat). s.number == k) seats))
    → MatchBool b (AreEach opened seats) (¬ (AreEach opened seats))
whole opened n seats true once all h = are_each opened seats (λ k l. once k (omega arith)) h
whole opened n seats false once all h = one_above opened seats h.0 h.1 h.2

pub returns : goal.returns
returns g c = whole c.args.opened c.loop-number.number c.args.sessions.now c.all_below.result c.loop-number.invariant c.loop-number-test.false c.all_below.ensures
