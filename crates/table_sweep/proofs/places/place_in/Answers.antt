use Rattle.std.proofs.Common.{◌≡◌, ◌<◌, ◌-◌, ℕ, get_or, take, drop, rules, of_calls, arith}
use Rattle.std.specs.Ordering.{nat_cmp}
use Rattle.std.specs.declared.cmp.Ordering.TheVariants.{Equal}
use Rattle.std.proofs.lemmas.Fn.{always_returns_same}
use Rattle.table_sweep.specs.Depths.{Listed}
use Rattle.table_sweep.proofs.Runs.{in_part, found}
use Rattle.table_sweep.proofs.places.place_in.Goals as goal

-- what is found in the run stands as far behind its start in the list
pub returns-in-Ok : goal.returns-in-Ok
returns-in-Ok c =
    let xs = c.args.snapshots.now in
    let start : ℕ = c.min-start.result in
    let count : ℕ = c.args.run.end - start in
    let at : ℕ = c.in-Ok.at in
    let lt : at < count = in_part xs start count at c.in-Ok.ensures.bound in
    let here : (d : Listed) → nat_cmp (get_or (take count (drop start xs)) at d).1 c.args.number ≡
    Equal =
    c.in-Ok.ensures.position (λ (s : Listed). nat_cmp s.1 c.args.number)
    (always_returns_same _ _ _ (λ a r f called. search (rules, of_calls))) in
    let least = c.min-start.ensures in (
      omega (arith, least, lt),
      omega (arith, least, lt),
      found xs start count at c.args.number lt here,
    )
