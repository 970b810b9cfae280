-- A store keeps its lines, and so does a service before it.
use Rattle.std.proofs.Common.{◌≡◌, sym, ap, ℕ, List, Bool, true, false, inl, inr}
use Rattle.std.proofs.lemmas.Bool.{false≢true}
use Rattle.meta_types.specs.Rows.{State}
use Rattle.line_loop.specs.Numbered.{NumberedSteps}
use Rattle.scripts.specs.Changes.{Changes}
use Rattle.scripts.specs.StoreSteps.{LineSteps}
use Rattle.kept_store.specs.Replays.{KeepsLines, StepsOf}
use Rattle.kept_store.specs.Clocked.{ClockedSteps}

-- a store itself does
pub store_keeps : KeepsLines LineSteps (λ state. state)
store_keeps old new line reply changes goes = goes.1

-- what isn't logged and leaves the store as it was
unlogged_keeps : (old new : State) (line : List ℕ) (changes : Bool) → changes ≡ false → new ≡ old
    → Changes old line changes new
unlogged_keeps old new line true is same = absurd (false≢true (sym is))
unlogged_keeps old new line false is same = same

module _ {S : Type 0} (steps : StepsOf S) (store_of : S → State)
    (keeps : KeepsLines steps store_of) where
  -- a service that numbers its replies does
  pub numbered_keeps : (old new : S) (lines next : ℕ) (line reply : List ℕ) (changes : Bool)
      → NumberedSteps steps old lines line reply changes new next
      → Changes (store_of old) line changes (store_of new)
  numbered_keeps old new lines next line reply changes goes =
      keeps old new line goes.0 changes goes.1

  -- so does one behind a clock
  pub clocked_keeps : (most : ℕ) (old new : S) (line reply : List ℕ) (changes : Bool)
      → ClockedSteps steps most old line reply changes new
      → Changes (store_of old) line changes (store_of new)
  clocked_keeps most old new line reply changes goes = elim goes [
    | inl done ↦ keeps old new line reply changes done.1
    | inr out ↦ unlogged_keeps (store_of old) (store_of new) line changes out.2.1
        (ap store_of out.2.2)
  ]
