use Rattle.std.proofs.Common.{◌≡◌, ◌∷◌, [], take, if◌then◌else◌}
use Rattle.std.specs.List.{flat_map}
use Rattle.table_sweep.specs.Owned.{is_begun_removed}
use Rattle.table_sweep.proofs.objects.removed_ingests.Given as goal

-- those so far that go are there
abbrev pub invariant-loop-number : goal.invariant-loop-number
invariant-loop-number l = l.gone.items ≡ flat_map (λ number. if is_begun_removed l.owned number then
    number ∷ [] else []) (take l.number-index l.numbers)
