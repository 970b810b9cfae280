-- A list of which all goes, since no device of the kind ever fails.
use Rattle.std.proofs.Common.{◌≡◌, ◌+◌, ◌<◌, ℕ, List, length, take, drop, get_or, true, false, refl, sym, subst, arith}
use Rattle.std.specs.Prelude.{None}
use Rattle.std.proofs.lemmas.List.{take_more}
use Rattle.back_model.specs.Answers.{NeverFails}
use Rattle.back_model.specs.Snaps.{Snaps}
use Rattle.backend_sweep.specs.Shards.{IsHeld, IsChild}
use Rattle.backend_sweep.specs.Sweep.{Childfirst, Sweeps, Tries}
use Rattle.backend_sweep.specs.ShardOutcomes.{all_gone}
use Rattle.backend_sweep.specs.declared.outcomes.Outcome.{Outcome}
use Rattle.backend_sweep.specs.declared.outcomes.Outcome.TheVariants as R
use Rattle.backend_sweep.proofs.Blocking.{Blocks, none_blocked}
use Rattle.backend_sweep.proofs.NextNumber.{at}
use Rattle.backend_sweep.proofs.Sweeping.{is_held, no_child_left, one_more}

-- what is tried goes
pub goes : {B : Type 0} (fails : B → ℕ) → NeverFails fails → (old new : B) (what : Outcome) (n : ℕ)
    (m now : Snaps)
    → Tries what false n m now (fails old) (fails new)
    → Tries R.Removed false n m now (fails old) (fails new)
goes fails never old new R.Removed n m now t = t
goes fails never old new R.Failed n m now t =
    let more : fails new ≡ fails old + 1 = t.2 in
    let none : fails new ≡ 0 = never new in
    absurd (omega (arith, more, none))
goes fails never old new R.Kept n m now t = (let e : false ≡ true = t.0 in absurd cc)

module _ (list : List ℕ) (i : ℕ) (m0 m : Snaps) (f0 f : ℕ) (here : i < length list)
    (first : Childfirst list m0)
    (so_far : Sweeps (take i list) m0 m f0 f (all_gone (take i list))) where
  blocks : Blocks m0 (all_gone (take i list))
  blocks = none_blocked m0 (all_gone (take i list)) refl refl refl

  pub held : IsHeld m (get_or list i 0)
  held = is_held list (take i list) (drop (i + 1) list) (get_or list i 0) m0 m f0 f
      (all_gone (take i list))
      (at list i m0 m f0 f (all_gone (take i list)) here first so_far)

  pub no_child : (c : ℕ) → IsChild m (get_or list i 0) c → ⊥
  no_child = no_child_left list (take i list) (drop (i + 1) list) (get_or list i 0) m0 m f0 f
      (all_gone (take i list))
      (at list i m0 m f0 f (all_gone (take i list)) here first so_far) blocks refl

  -- one number more
  pub next_gone : (now : Snaps) (after : ℕ) → Tries R.Removed false (get_or list i 0) m now f after
      → Sweeps (take (i + 1) list) m0 now f0 after (all_gone (take (i + 1) list))
  next_gone now after t =
      subst (λ (l : List ℕ). Sweeps l m0 now f0 after (all_gone l)) (sym (take_more list i 0 here))
      (one_more list (take i list) (drop (i + 1) list) (get_or list i 0) m0 m f0 f
      (all_gone (take i list))
      (at list i m0 m f0 f (all_gone (take i list)) here first so_far) blocks None false R.Removed
      now after refl t)
