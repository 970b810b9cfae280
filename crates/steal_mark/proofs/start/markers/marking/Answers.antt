use Rattle.std.proofs.Common.{◌≡◌, ◌++◌, ◌<◌, ℕ, Bool, true, take, drop, length, refl, sym, ap, ◌∙◌, subst, arith}
use Rattle.std.specs.Prelude.{All}
use Rattle.std.proofs.lemmas.Bool.Decides.{nat_tests}
use Rattle.meta_types.specs.Limits.{is_worker_count}
use Rattle.std.proofs.lemmas.List.{length-map, with_items_is}
use Rattle.crossbeam_deque.specs.Handles.{worker_deque}
use Rattle.mark_core.specs.Bits.{times}
use Rattle.steal_mark.specs.declared.shared.claims.Claims.{Claims}
use Rattle.atomic_table.specs.Table.{Me}
use Rattle.steal_mark.specs.declared.start.roots.Rest.{Rest}
use Rattle.steal_mark.specs.Claiming.{Knows}
use Rattle.steal_mark.specs.Closing.{ids_of}
use Rattle.steal_mark.specs.Growing.{MayClaim}
use Rattle.steal_mark.specs.Starting.{AreNewRows, IsFresh, Deals, pushes_of}
use Rattle.steal_mark.proofs.Begins.{all_pushed, begins, claim_roots}
use Rattle.steal_mark.proofs.start.markers.marking.Goals as goal
use Rattle.steal_mark.specs.Parts.{Deque}

-- 16 is less than the parts
few_workers : (allowed : Bool) (workers : ℕ) → allowed ≡ true → allowed ≡ is_worker_count workers → workers < 1024
few_workers allowed workers ok is = grind (arith, nat_tests)

-- roots are reached, and in range
pub deal-requires-clause-roots : goal.deal-requires-clause-roots
deal-requires-clause-roots c =
    let key : c.deref.result.now.shared.key ≡ c.args.graph.now = ap (λ b. b.shared.key) c.deref.ensures ∙ c.in_ok-claim_table.ensures.key in
    subst (λ g. MayClaim g c.as_slice.result.now) (sym key) (subst (MayClaim c.args.graph.now) (sym c.as_slice.ensures.value) (claim_roots c.args.graph.now c.requires.range))

-- the rows that were spread
pub assemble-requires-clause-rows : goal.assemble-requires-clause-rows
assemble-requires-clause-rows c =
    let many = c.in_ok-opened.ensures.many in
    let is : take c.in_ok-rows.rows.len (c.spread_all.new.rows ++ drop (length c.spread_all.new.rows) c.in_ok-rows.rows.items) ≡ c.spread_all.new.rows = with_items_is c.in_ok-rows.rows c.spread_all.new.rows (omega arith) in (
      subst (AreNewRows c.args.graph.now (ids_of c.in_ok-opened.opened.items)) (sym is) c.in_ok-opened.ensures.rows,
      ap length is ∙ many.0 ∙ sym many.1,
    )

-- what was pushed is what was claimed
pub assemble-requires-clause-all : goal.assemble-requires-clause-all
assemble-requires-clause-all c = λ n.
    let is : take c.in_ok-deques.deques.len (c.deal.new.deques ++ drop (length c.deal.new.deques) c.in_ok-deques.deques.items) ≡ c.deal.new.deques = with_items_is c.in_ok-deques.deques c.deal.new.deques (omega arith) in
    all_pushed c.deref.result.now.shared.key n c.as_slice.result.now c.in_ok-claim_table.seat.me.0 c.deal.new.seat.me.0 c.as_mut_slice.result.now c.deal.new.deques c.in_ok-opened.opened.items
    (subst (λ g. All (IsFresh g) c.as_mut_slice.result.now) (sym (ap (λ b. b.shared.key) c.deref.ensures ∙ c.in_ok-claim_table.ensures.key)) (subst (All (IsFresh c.args.graph.now)) (sym c.as_mut_slice.ensures.value) c.in_ok-deques.ensures.fresh))
    c.in_ok-deal.ensures.deals
    (c.in_ok-opened.ensures.pushed ∙ ap pushes_of is)
    (ap (λ (x : Me (Unit {0}) Claims). x.0.claimed) c.in_ok-claim_table.ensures.view)
    ∙ ap (λ (x : Me (Unit {0}) Claims). times n x.0.claimed) (sym c.learn.ensures.same.1)

-- all that was made, put together
pub returns-clause-begins : goal.returns-clause-begins
returns-clause-begins c =
    let rest : Rest = record { claim_table = c.in_ok-claim_table.claim_table; seat = c.assemble.new.seat; workers = c.args.workers } in
    let l = length-map c.in_ok-opened.opened.items (λ (d : Deque). worker_deque d) in
    let many = c.in_ok-opened.ensures.many in
    let n_rows = c.in_ok-rows.ensures.many in let n_mut = ap length c.as_mut_slice-2.ensures.value in
    let key : c.deref.result.now.shared.key ≡ c.args.graph.now = ap (λ b. b.shared.key) c.deref.ensures ∙ c.in_ok-claim_table.ensures.key in
    let key2 : c.deref-2.result.now.shared.key ≡ c.args.graph.now = ap (λ b. b.shared.key) c.deref-2.ensures ∙ c.in_ok-claim_table.ensures.key in
    begins c.args.graph.now c.args.workers rest (ids_of c.in_ok-opened.opened.items) c.as_slice.result.now c.in_ok-claim_table.seat.me.0 c.deal.new.seat.me.0 c.learn.new.seat.me.0 c.as_mut_slice.result.now c.deal.new.deques _ c.in_ok-markers.markers.items
    c.in_ok-claim_table.ensures.key
    (c.assemble.ensures.same.0 ∙ (c.learn.ensures.same.0 ∙ (c.deal.ensures.same.0 ∙ c.in_ok-claim_table.ensures.seat.0)), c.in_ok-claim_table.ensures.seat.1)
    (c.assemble.ensures.same.1 ∙ (ap (λ (x : Me (Unit {0}) Claims). x.1) c.learn.ensures.same.1 ∙ (c.deal.ensures.same.1 ∙ ap (λ (x : Me (Unit {0}) Claims). x.1) c.in_ok-claim_table.ensures.view)))
    refl (omega arith) (few_workers c.is_worker_count.result c.args.workers c.if-not-is_worker_count.false c.is_worker_count.ensures)
    c.as_slice.ensures.value
    (ap (λ (x : Me (Unit {0}) Claims). x.0) c.in_ok-claim_table.ensures.view)
    (subst (λ g. Deals g c.as_slice.result.now c.in_ok-claim_table.seat.me.0 c.deal.new.seat.me.0 c.as_mut_slice.result.now c.deal.new.deques) key c.in_ok-deal.ensures.deals)
    (subst (λ g. Knows g c.deal.new.seat.me.0) key2 c.learn.ensures.knows)
    (ap (λ (x : Me (Unit {0}) Claims). x.0) c.learn.ensures.same.1)
    c.in_ok-markers.ensures.starts
