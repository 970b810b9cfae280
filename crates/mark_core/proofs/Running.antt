-- A run that goes on by one event.
use Rattle.std.proofs.Common.{ℕ, ◌+◌, ◌<◌, List, [], ◌∷◌, ◌++◌, take, length, get_or, refl, sym, subst}
use Rattle.std.proofs.lemmas.List.{take_more}
use Rattle.std.proofs.lemmas.Option.{slice_get-get_or}
use Rattle.mark_core.specs.declared.graph.Graph.{Graph}
use Rattle.mark_core.specs.declared.event.MarkEvent.{MarkEvent}
use Rattle.mark_core.specs.declared.event.MarkEvent.TheVariants.{Look, Put, Take, Finish}
use Rattle.mark_core.specs.Machine.{Machine, Step, IsForbidden, Run, IsFirstBad}
use Rattle.mark_core.proofs.Keeping.{Keeps}
use Rattle.mark_core.proofs.Looking.{looks_keeps}
use Rattle.mark_core.proofs.Moving.{puts_keeps, takes_keeps, finishes_keeps}

-- each of the four events keeps a state sound
step_keeps : (g : Graph) (old : Machine) (event : MarkEvent) (new : Machine)
    → Keeps g old → Step g old event new → Keeps g new
step_keeps g old (Look w t) new k s = looks_keeps g old w t new k s
step_keeps g old (Put w) new k s = puts_keeps g old w new k s
step_keeps g old (Take w from) new k s = takes_keeps g old w from new k s
step_keeps g old (Finish w) new k s = finishes_keeps g old w new k s

-- and so does a run, by its first event
pub run_keeps : (g : Graph) (old : Machine) (events : List MarkEvent) (new : Machine)
    → Keeps g old → Run g old events new → Keeps g new
run_keeps g old [] new k r = subst (Keeps g) (sym r) k
run_keeps g old (event ∷ events) new k r =
    run_keeps g r.0 events new (step_keeps g old event r.0 k r.1) r.2

-- a run that goes on by one event
Run-push : (g : Graph) (old : Machine) (events : List MarkEvent) (mid : Machine)
    (event : MarkEvent) (new : Machine)
    → Run g old events mid → Step g mid event new → Run g old (events ++ event ∷ []) new
Run-push g old [] mid event new r s = (new, subst (λ m. Step g m event new) r s, refl)
Run-push g old (x ∷ events) mid event new r s =
    (r.0, r.1, Run-push g r.0 events mid event new r.2 s)

-- the event at a place of the list, after the run of those before it
module _ (g : Graph) (old : Machine) (events : List MarkEvent) (k : ℕ) (other : MarkEvent)
    (inside : k < length events) (mid : Machine) (run : Run g old (take k events) mid) where
  -- it is allowed, and the run goes on
  pub run_more : (new : Machine) → Step g mid (get_or events k other) new
      → Run g old (take (k + 1) events) new
  run_more new s =
      subst (λ es. Run g old es new) (sym (take_more events k other inside))
      (Run-push g old (take k events) mid (get_or events k other) new run s)

  -- it isn't, and is the first such
  pub first_bad : IsForbidden g mid (get_or events k other) → IsFirstBad g old events k
  first_bad bad = (get_or events k other, mid, slice_get-get_or events k other inside, run, bad)
