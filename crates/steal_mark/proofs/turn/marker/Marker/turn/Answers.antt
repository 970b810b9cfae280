use Rattle.std.proofs.Common.{◌≡◌, [], ◌∷◌, ◌++◌, sym, ap, ◌∙◌, subst}
use Rattle.std.specs.Arc.{arc_value}
use Rattle.crossbeam_deque.specs.Handles.{worker_view}
use Rattle.mark_core.specs.Reach.{Reached, targets}
use Rattle.steal_mark.specs.Growing.{MayClaim, Grows}
use Rattle.steal_mark.specs.Working.{graph_of}
use Rattle.steal_mark.proofs.Worked.{sound_like, sound_scanned, graph_kept, grows_from, may_claim, ok_fact}
use Rattle.steal_mark.proofs.turn.marker.Marker.turn.Goals as goal

-- a turn that found nothing changed nothing
pub returns-in_default-clause-sound : goal.returns-in_default-clause-sound
returns-in_default-clause-sound g c =
    let b = c.in_default.ensures.same in
    let f = c.in_default.ensures.none in
    sound_like c.args.self.now c.find.new.self b.number b.parts (ap arc_value b.claim_table) b.seat b.deque.1 b.stealers f.own f.passes (ap (λ x. x.items) b.scanned ∙ c.reserve.ensures.items) b.others b.refused c.requires.sound

-- its targets are reached
pub scan-requires-clause-targets : goal.scan-requires-clause-targets
scan-requires-clause-targets g c =
    let here : Reached c.args.graph.now c.in-Some.node = c.in-Some.ensures.some.0 in
    let is : c.targets-targets.result.now ≡ targets c.args.graph.now c.in-Some.node = c.targets-targets.ensures in
    let key : c.deref.result.now.shared.key ≡ c.args.graph.now = ap (λ b. b.shared.key) c.deref.ensures ∙ graph_kept c.args.self.now c.find.new.self (ap arc_value c.in-Some.ensures.same.claim_table) ∙ sym c.requires.graph in
    subst (λ x. MayClaim x c.targets-targets.result.now) (sym key) (subst (MayClaim c.args.graph.now) (sym is) (may_claim c.args.graph.now c.in-Some.node c.requires.range here))

-- the node was taken, scanned and noted
pub returns-clause-turn : goal.returns-clause-turn
returns-clause-turn g c =
    let b = c.in-Some.ensures.same in
    let old = c.args.self.now in
    let here : Reached c.args.graph.now c.in-Some.node = c.in-Some.ensures.some.0 in
    let is : c.targets-targets.result.now ≡ targets c.args.graph.now c.in-Some.node = c.targets-targets.ensures in
    let is' : c.targets-targets.result.now ≡ targets (graph_of old) c.in-Some.node = is ∙ ap (λ x. targets x c.in-Some.node) c.requires.graph in
    let grown : Grows c.targets-targets.result.now c.find.new.self.seat.me.0 c.scan.new.seat.me.0 (worker_view c.find.new.self.deque) (worker_view c.scan.new.deque) = ok_fact c.scan.result _ (sym c.is_err-2.ensures.value ∙ c.if-is_err-2.false) c.scan.ensures.grows in
    record {
      mid = worker_view c.find.new.self.deque;
      taken = c.in-Some.ensures.some.1;
      grows = subst (λ ts. Grows ts old.seat.me.0 c.scan.new.seat.me.0 (worker_view c.find.new.self.deque) (worker_view c.scan.new.deque)) is'
          (grows_from c.targets-targets.result.now old.seat c.find.new.self.seat c.scan.new.seat.me.0 (worker_view c.find.new.self.deque) (worker_view c.scan.new.deque) b.seat grown);
      noted = c.push_reserved.ensures.items ∙ ap (λ x. x.items ++ c.in-Some.node ∷ []) b.scanned ∙ ap (λ x. x ++ c.in-Some.node ∷ []) c.reserve.ensures.items;
    }

-- so the worker keeps its promise
pub returns-clause-sound : goal.returns-clause-sound
returns-clause-sound g c =
    let b = c.in-Some.ensures.same in
    sound_scanned c.in-Some.node c.args.self.now _ b.number b.parts (ap arc_value b.claim_table) (c.scan.ensures.same.0 ∙ ap (λ x. x.table_id) b.seat) (c.scan.ensures.same.1 ∙ ap (λ x. x.me.1) b.seat) (c.scan.ensures.same.2.1 ∙ b.deque.1) b.stealers b.others b.refused (returns-clause-turn g c) c.requires.sound
