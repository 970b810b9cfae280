use Rattle.std.proofs.Common.{◌≡◌, ◌<◌, ◌≤◌, ℕ, ◌+◌, List, take, length, get_or, subst, rules}
use Rattle.std.specs.Prelude.{All}
use Rattle.std.proofs.lemmas.List.{take_all}
use Rattle.std.proofs.lemmas.List.Elements.{All-more}
use Rattle.store_front.specs.SessionEntries.{Seat}
use Rattle.store_front.proofs.check.numbers.all_below.Goals as goal

all : (opened n : ℕ) (seats : List Seat) → All (λ (s : Seat). s.number < opened) (take n seats)
    → length seats ≤ n → All (λ (s : Seat). s.number < opened) seats
all opened n seats h end = subst (λ (l : List Seat). All (λ (s : Seat). s.number < opened) l) (take_all n seats end) h

more : (opened n : ℕ) (seats : List Seat) (x : Seat)
    → All (λ (s : Seat). s.number < opened) (take n seats) → n < length seats
    → x ≡ get_or seats n x → x.number < opened
    → All (λ (s : Seat). s.number < opened) (take (n + 1) seats)
more opened n seats x h inside is below = All-more (λ (s : Seat). s.number < opened) seats n x inside h (subst (λ (s : Seat). s.number < opened) is below)

pub returns : goal.returns
returns g c = all c.args.opened c.loop-session.session-index c.args.sessions.now c.loop-session.invariant c.loop-session-test.false

pub loop-session-preserved : goal.loop-session-preserved
loop-session-preserved g c = more c.args.opened c.loop-session.session-index c.args.sessions.now c.session-item.result c.loop-session.invariant c.loop-session-test.true c.session-item.is (search rules)
