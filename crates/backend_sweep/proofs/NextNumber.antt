-- The number of a list that is swept next, by its place.
use Rattle.std.proofs.Common.{◌≡◌, ◌+◌, ◌<◌, ◌≤◌, ℕ, List, ◌∷◌, ◌++◌, length, take, drop, get_or, add-one, sym, ◌∙◌, ap, subst}
use Rattle.std.proofs.lemmas.List.{take-append-drop, take_all}
use Rattle.std.proofs.Math.Seq.{drop-cons}
use Rattle.back_model.specs.Snaps.{Snaps}
use Rattle.backend_sweep.specs.Sweep.{Childfirst, Sweeps, Swept}
use Rattle.backend_sweep.proofs.Sweeping.{At}

parts : (list : List ℕ) (i : ℕ) → i < length list → list ≡ take i list ++ get_or list i 0 ∷ drop (i + 1) list
parts list i here = sym (take-append-drop i list) ∙ ap (λ (l : List ℕ). take i list ++ l) (drop-cons list i 0 here ∙ ap (λ (k : ℕ). get_or list i 0 ∷ drop k list) (sym (add-one i)))

-- the list, split at a place
pub at : (list : List ℕ) (i : ℕ) (m0 m : Snaps) (f0 f : ℕ) (r : Swept) → i < length list → Childfirst list m0 → Sweeps (take i list) m0 m f0 f r → At list (take i list) (drop (i + 1) list) (get_or list i 0) m0 m f0 f r
at list i m0 m f0 f r here first so_far = record { split = parts list i here; first = first; so_far = so_far }

-- all numbers are swept
pub whole : (list : List ℕ) (i : ℕ) (m now : Snaps) (before after : ℕ) (r : Swept) → length list ≤ i → Sweeps (take i list) m now before after r → Sweeps list m now before after r
whole list i m now before after r end s = subst (λ (l : List ℕ). Sweeps l m now before after r) (take_all i list end) s
