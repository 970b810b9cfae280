use Rattle.std.proofs.Common.{◌≡◌, ◌+◌, ◌<◌, ◌%◌, ◌∷◌, [], ◌++◌, ℕ, List, length, get_or, take, set, ap, ◌∙◌, arith}
use Rattle.std.proofs.Math.Nat.{mod-lt}
use Rattle.std.proofs.lemmas.List.{length-set, get_or_default}
use Rattle.mark_core.specs.Machine.{Worker, idle, worker_at, enqueued, deal}
use Rattle.mark_core.proofs.Dealing.{deal-take}
use Rattle.mark_core.proofs.machine_state.deal_out.Goals as goal

-- the node goes behind the queue whose turn it is
put_is : (c : goal.In_ok-put)
    → let w = c.loop-node.turn % length c.args.worker_states.now in
    let n = get_or c.args.nodes.now c.loop-node.node-index 0 in
    set c.loop-node.worker_states w c.put.new.self ≡ enqueued c.loop-node.worker_states w n
put_is c =
    let ws : List Worker = c.args.worker_states.now in
    let now : List Worker = c.loop-node.worker_states in
    let n : ℕ = get_or c.args.nodes.now c.loop-node.node-index 0 in
    let w : ℕ = c.loop-node.turn % length ws in
    let m : w < length ws = mod-lt c.loop-node.turn {m = length ws} c.requires in
    let l = c.loop-node.invariant.count in
    let at : get_or now w c.index-worker_states-turn.result ≡ worker_at now w =
    get_or_default now w c.index-worker_states-turn.result idle (omega arith) in
    ap (set now w)
    (c.in_ok-put.ensures.ok ∙ ap (λ (x : Worker). record x { queue = x.queue ++ n ∷ [] }) at)

-- one more node is dealt out
pub loop-node-preserved : goal.loop-node-preserved
loop-node-preserved c =
    let ws : List Worker = c.args.worker_states.now in
    let ns : List ℕ = c.args.nodes.now in
    let k : ℕ = c.loop-node.node-index in
    let w : ℕ = c.loop-node.turn % length ws in
    let n : ℕ = get_or ns k 0 in
    record {
      turn = ap (λ i. i + 1) c.loop-node.invariant.turn;
      count = length-set c.loop-node.worker_states w c.put.new.self ∙ c.loop-node.invariant.count;
      dealt = put_is c
          ∙ ap (λ l. enqueued l w n) c.loop-node.invariant.dealt
          ∙ ap (λ j. enqueued (deal ws 0 (take k ns)) (j % length ws) n) c.loop-node.invariant.turn
          ∙ deal-take ws ns k c.loop-node-test.true;
    }
