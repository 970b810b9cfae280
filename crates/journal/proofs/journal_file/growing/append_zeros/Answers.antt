use Rattle.std.proofs.Common.{◌≡◌, ◌∙◌, refl, subst, ℕ, ◌+◌, ◌-◌, replicate, arith}
use Rattle.sqlite_disk.specs.Disk.{Holds, Torn, Follows}
use Rattle.journal.proofs.Growth.{torn_same}
use Rattle.journal.proofs.Pieces.{follows_none, torn_wider, follows_wider, torn_more, follows_more, holds_more}
use Rattle.journal.proofs.journal_file.growing.append_zeros.Goals as goal

-- nothing was written yet
pub appending-init : goal.appending-init
appending-init g c =
    let none : 0 ≡ c.args.from - c.args.from = omega arith in
    record {
      begins = omega arith;
      within = omega arith;
      calm = refl;
      usable = c.requires;
      torn = torn_same c.args.from (c.args.from - c.args.from) _ _ refl;
      holds = λ less. absurd (omega (arith, less));
      crash = subst (λ (n : ℕ). Follows (Torn c.args.from n) (g.D.Disk.may_leave c.args.disk.now)
          (g.D.Disk.may_leave c.args.disk.now)) none (follows_none c.args.from _);
    }

-- a piece more
pub appending-preserved : goal.appending-preserved
appending-preserved g c =
    let i = c.appending.invariant in
    let at = c.appending.at in
    let from = c.args.from in
    let count = c.min-count.result in
    let place : at ≡ from + (at - from) = omega (arith, i.begins) in
    let both : at + count - from ≡ (at - from) + count = omega (arith, i.begins) in
    let test = c.appending-test.true in
    let least = c.min-count.ensures in
    record {
      begins = omega (arith, i.begins);
      within = omega (arith, i.begins, i.within, test, least);
      calm = c.append_piece.ensures.calm ∙ i.calm;
      usable = c.append_piece.ensures.usable;
      torn = torn_more from at (at - from) count (at + count - from) place both _ _ _ i.torn
          c.append_piece.ensures.torn;
      holds = λ less.
          holds_more from at (at - from) count (at + count - from) place both _ _ i.holds
          c.append_piece.ensures.torn
          (c.in_ok-append_piece.ensures.holds (omega (arith, test, least)));
      crash = follows_more from at (at - from) count (at + count - from) place both _ _ _ i.crash
          c.append_piece.ensures.crash;
    }

-- a piece that isn't written, or a part of it
pub returns-in_err-append_piece-clause-torn : goal.returns-in_err-append_piece-clause-torn
returns-in_err-append_piece-clause-torn g c =
    let i = c.appending.invariant in
    let at = c.appending.at in
    let from = c.args.from in
    let count = c.min-count.result in
    let place : at ≡ from + (at - from) = omega (arith, i.begins) in
    let both : at + count - from ≡ (at - from) + count = omega (arith, i.begins) in
    torn_wider from (at + count - from) (c.args.till - from) _ _
    (omega (arith, i.begins, i.within, c.appending-test.true, c.min-count.ensures))
    (torn_more from at (at - from) count (at + count - from) place both _ _ _ i.torn
    c.append_piece.ensures.torn)

pub returns-in_err-append_piece-clause-crash : goal.returns-in_err-append_piece-clause-crash
returns-in_err-append_piece-clause-crash g c =
    let i = c.appending.invariant in
    let at = c.appending.at in
    let from = c.args.from in
    let count = c.min-count.result in
    let place : at ≡ from + (at - from) = omega (arith, i.begins) in
    let both : at + count - from ≡ (at - from) + count = omega (arith, i.begins) in
    follows_wider from (at + count - from) (c.args.till - from) _ _
    (omega (arith, i.begins, i.within, c.appending-test.true, c.min-count.ensures))
    (follows_more from at (at - from) count (at + count - from) place both _ _ _ i.crash
    c.append_piece.ensures.crash)

-- all are written
pub returns-clause-torn : goal.returns-clause-torn
returns-clause-torn g c =
    let i = c.appending.invariant in
    torn_wider c.args.from (c.appending.at - c.args.from) (c.args.till - c.args.from) _ _ i.within
    i.torn

pub returns-clause-holds : goal.returns-clause-holds
returns-clause-holds g c less =
    let i = c.appending.invariant in
    let done = c.appending-test.false in
    let all : c.appending.at - c.args.from ≡ c.args.till - c.args.from =
    omega (arith, i.begins, i.within, done) in
    subst (λ (n : ℕ). Holds (g.D.Disk.seen c.appending.disk) c.args.from (replicate n 0)) all
    (i.holds (omega (arith, less, done)))

pub returns-clause-crash : goal.returns-clause-crash
returns-clause-crash g c =
    let i = c.appending.invariant in
    follows_wider c.args.from (c.appending.at - c.args.from) (c.args.till - c.args.from) _ _
    i.within i.crash
