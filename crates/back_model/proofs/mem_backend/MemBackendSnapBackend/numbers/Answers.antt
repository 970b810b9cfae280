use Rattle.std.proofs.Common.{rules, ◌≡◌, ◌∙◌, ap, sym, ◌++◌}
use Rattle.std.specs.Prelude.{map}
use Rattle.std.specs.Map.{keys_of}
use Rattle.back_model.specs.Nodes.{parents_of}
use Rattle.back_model.proofs.Counts.{same_keys, parents_in_order}
use Rattle.back_model.proofs.Entries.{entries_of, Parents}
use Rattle.back_model.proofs.mem_backend.MemBackendSnapBackend.numbers.Goals as goal

-- the map's keys are those of the finite map
pub loop-number-init : goal.loop-number-init
loop-number-init c =
    let nodes = c.self.inside.nodes in
    let first : c.in_ok-numbers.numbers.items ++ c.into_iter-number-iterator.result ≡ keys_of nodes.entries = search rules in
    first ∙ sym (same_keys nodes.entries)
    ∙ ap (λ (es : Parents). map (λ e. e.0) es) (sym (entries_of (parents_of nodes.entries) c.args.self.now c.self.view_is (parents_in_order nodes c.self.invariant.order)))
