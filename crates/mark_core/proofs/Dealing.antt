-- One more node is dealt out.
use Rattle.std.proofs.Common.{◌≡◌, ℕ, suc, ◌+◌, ◌%◌, ◌<◌, List, [], ◌∷◌, ◌++◌, length, take, get_or, sym, ap, ◌∙◌, arith}
use Rattle.std.proofs.lemmas.List.{length-set, length-take, take_more}
use Rattle.mark_core.specs.Machine.{Worker, worker_at, enqueued, deal}

-- a worker changes, and none is added
pub length-enqueued : (ws : List Worker) (w n : ℕ) → length (enqueued ws w n) ≡ length ws
length-enqueued ws w n =
    length-set ws w (record (worker_at ws w) { queue = (worker_at ws w).queue ++ n ∷ [] })

-- the node behind the others goes to the queue whose turn it is then
deal-push : (ws : List Worker) (turn : ℕ) (ns : List ℕ) (n : ℕ)
    → deal ws turn (ns ++ n ∷ []) ≡ enqueued (deal ws turn ns) ((turn + length ns) % length ws) n
deal-push ws turn [] n =
    ap (λ k. enqueued ws (k % length ws) n) (let e : turn ≡ turn + 0 = omega arith in e)
deal-push ws turn (x ∷ ns) n =
    let next : List Worker = enqueued ws (turn % length ws) x in
    let e : turn + 1 + length ns ≡ turn + suc (length ns) = omega arith in
    deal-push next (turn + 1) ns n
    ∙ ap (λ l. enqueued (deal next (turn + 1) ns) ((turn + 1 + length ns) % l) n)
    (length-enqueued ws (turn % length ws) x)
    ∙ ap (λ k. enqueued (deal next (turn + 1) ns) (k % length ws) n) e

-- dealing as far as a place, and then the node there, is dealing one place farther
pub deal-take : (ws : List Worker) (ns : List ℕ) (k : ℕ) → k < length ns
    → enqueued (deal ws 0 (take k ns)) (k % length ws) (get_or ns k 0) ≡ deal ws 0 (take (k + 1) ns)
deal-take ws ns k inside =
    let l = length-take k ns in
    let turn : k ≡ 0 + length (take k ns) = omega arith in
    ap (λ j. enqueued (deal ws 0 (take k ns)) (j % length ws) (get_or ns k 0)) turn
    ∙ sym (deal-push ws 0 (take k ns) (get_or ns k 0))
    ∙ ap (deal ws 0) (sym (take_more ns k 0 inside))
