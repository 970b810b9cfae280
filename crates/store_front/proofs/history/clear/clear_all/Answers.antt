use Rattle.std.proofs.Common.{rules, ◌≡◌, ◌∙◌, ◌<◌, ◌≤◌, List, length, slice_index_or, slice_set, arith, ap}
use Rattle.store_front.specs.SessionEntries.{Seat}
use Rattle.store_front.specs.Finish.{fresh}
use Rattle.store_front.proofs.Emptied.{next_is, one_more, one_counted, all_cleared, all_told}
use Rattle.store_front.proofs.history.clear.clear_all.Goals as goal

-- one more is emptied, and counted out
pub loop-i-preserved : goal.loop-i-preserved
loop-i-preserved g c =
    let i = c.loop-i.i in
    let v = c.loop-i.invariant in
    let seats = c.args.sessions.now in
    let d : Seat = c.index-sessions-i.result in
    let inside : i < length seats = search rules in
    let was : slice_index_or c.loop-i.sessions i d ≡ slice_index_or seats i d = ap (λ (l : List Seat). slice_index_or l i d) v.sessions ∙ next_is seats i d inside in
    let new : c.clear.new.session ≡ fresh (slice_index_or seats i d) = c.clear.ensures.session ∙ ap fresh was in
    let told : length (slice_index_or c.loop-i.sessions i d).list ≡ length (slice_index_or seats i d).list = ap (λ (s : Seat). length s.list) was in
    let counted = one_counted seats i d inside in
    record {
      sessions = (λ j. slice_set (v.sessions j) i (new j)) ∙ one_more seats i d inside;
      total = omega (arith, counted, told, v.total, c.clear.ensures.total);
    }

pub returns-clause-sessions : goal.returns-clause-sessions
returns-clause-sessions g c =
    let end : length c.args.sessions.now ≤ c.loop-i.i = search rules in
    c.loop-i.invariant.sessions ∙ all_cleared c.args.sessions.now c.loop-i.i end

pub returns-clause-total : goal.returns-clause-total
returns-clause-total g c =
    let end : length c.args.sessions.now ≤ c.loop-i.i = search rules in
    let all = all_told c.args.sessions.now c.loop-i.i end in
    omega (arith, all, c.loop-i.invariant.total)
