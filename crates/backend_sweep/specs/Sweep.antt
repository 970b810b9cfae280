-- What sweeping one shard does. Ours, unless a source stands beside.
use Rattle.std.specs.Prelude.{ℕ, ◌≡◌, ◌+◌, ◌-◌, ◌≤◌, Bool, true, false, ◌||◌, List, [], ◌∷◌, ◌++◌, length, Option, None, Some, cond, if◌then◌else◌, filter, ◌⊎◌}
use Rattle.std.specs.FinMap as map
use Rattle.backend_sweep.specs.Shards.{IsHeld, IsChild, has}
use Rattle.back_model.specs.Snaps.{Snaps}
use Rattle.backend_sweep.specs.declared.outcomes.Outcome.{Outcome}
use Rattle.backend_sweep.specs.declared.outcomes.Outcome.TheVariants as R

-- numbers, and for how many more there is room
pub record Roomy : Type 0 where
  pub numbers : List ℕ
  pub room : ℕ

-- what was removed, what the device failed, what was kept above a failed one, and the parents of the last two; and for how many more each list has room
pub record Swept : Type 0 where
  pub removed : List ℕ
  pub failed : List ℕ
  pub kept : List ℕ
  pub parents : List ℕ
  pub room : ℕ

-- each snapshot of the list is held and stands once, after all its children, which are all in the list (containerd snapshots service: a parent isn't removed before its children)
pub record Childfirst (list : List ℕ) (m : Snaps) : Type 0 where
  pub held : (n : ℕ) → has list n ≡ true → IsHeld m n
  pub once : (xs ys : List ℕ) (n : ℕ) → list ≡ xs ++ n ∷ ys → has xs n ≡ false
  pub children : (xs ys : List ℕ) (n c : ℕ) → list ≡ xs ++ n ∷ ys → IsChild m n c → has xs c ≡ true

-- a chain of parents from f through these numbers (containerd snapshots service)
abbrev pub Climbs : Snaps → ℕ → List ℕ → Type 0
Climbs m f [] = Unit {0}
Climbs m f (p ∷ ps) = IsChild m p f × Climbs m p ps

-- a is an ancestor of f (containerd snapshots service)
abbrev pub IsAncestor : Snaps → ℕ → ℕ → Type 0
IsAncestor m a f = (ps : List ℕ) × Climbs m f (ps ++ a ∷ [])

-- the number is among the removed, the failed or the kept
abbrev pub is_told : Swept → ℕ → Bool
is_told r n = has r.removed n || (has r.failed n || has r.kept n)

-- the members of the list that are these, in the list's order
abbrev pub IsInOrderOf : List ℕ → List ℕ → Type 0
IsInOrderOf list xs = xs ≡ filter (λ n. has xs n) list

-- what was swept of the list: all is removed but what the device failed and the ancestors of that, which are kept; each told once, in the list's order
pub record Sweeps (list : List ℕ) (m now : Snaps) (before after : ℕ) (r : Swept) : Type 0 where
  pub contents : (n : ℕ) → map.get now n ≡ cond (has r.removed n) None (map.get m n)
  pub sorted : (n : ℕ) → has list n ≡ is_told r n
  pub apart : (n : ℕ) → has r.removed n ≡ true → (has r.failed n ≡ false) × (has r.kept n ≡ false)
  pub tried : (n : ℕ) → has r.failed n ≡ true → has r.kept n ≡ false
  pub why : (n : ℕ) → has r.kept n ≡ true → (f : ℕ) × (has r.failed f ≡ true) × IsAncestor m n f
  pub all : (n p : ℕ) → (has r.failed n || has r.kept n) ≡ true → IsChild m p n → has list p ≡ true → has r.kept p ≡ true
  pub count : after ≡ before + length r.failed
  pub removed_in_order : IsInOrderOf list r.removed
  pub failed_in_order : IsInOrderOf list r.failed
  pub kept_in_order : IsInOrderOf list r.kept

-- one removal: it isn't tried where a child is left
abbrev pub Tries : Outcome → Bool → ℕ → Snaps → Snaps → ℕ → ℕ → Type 0
Tries R.Removed above n m now before after = (above ≡ false) × (now ≡ map.remove m n) × (after ≡ before)
Tries R.Failed above n m now before after = (above ≡ false) × (now ≡ m) × (after ≡ before + 1)
Tries R.Kept above n m now before after = (above ≡ true) × (now ≡ m) × (after ≡ before)

-- the number is among these, last where it wasn't
abbrev pub with_number : List ℕ → ℕ → List ℕ
with_number xs n = if has xs n then xs else xs ++ n ∷ []

-- the parent, if one, is among these
abbrev pub with_parent : List ℕ → Option ℕ → List ℕ
with_parent xs None = xs
with_parent xs (Some p) = with_number xs p

-- one number more, with its parent
abbrev pub put_of : Swept → ℕ → Option ℕ → Outcome → Swept
put_of s n parent R.Removed = record s { removed = s.removed ++ n ∷ []; room = s.room - 1 }
put_of s n parent R.Failed = record s { failed = with_number s.failed n; parents = with_parent s.parents parent; room = s.room - 1 }
put_of s n parent R.Kept = record s { kept = with_number s.kept n; parents = with_parent s.parents parent; room = s.room - 1 }

-- empty lists, with room for the whole list in each
abbrev pub IsRoomFor : List ℕ → Swept → Type 0
IsRoomFor list s = (s.removed ≡ []) × (s.failed ≡ []) × (s.kept ≡ []) × (s.parents ≡ []) × (length list ≤ s.room)

-- it is one of these, or an ancestor of one
abbrev pub IsAtOrAbove : Snaps → List ℕ → ℕ → Type 0
IsAtOrAbove m failed n = (has failed n ≡ true) ⊎ ((f : ℕ) × (has failed f ≡ true) × IsAncestor m n f)

-- of the list, just the failed ones and their ancestors stay, and no failed one is an ancestor of another; what isn't in the list stays as it was
pub record Leaves (list : List ℕ) (m now : Snaps) (failed : List ℕ) : Type 0 where
  pub stays : (n : ℕ) → has list n ≡ true → IsAtOrAbove m failed n → map.get now n ≡ map.get m n
  pub goes : (n : ℕ) → has list n ≡ true → ¬ (IsAtOrAbove m failed n) → map.get now n ≡ None
  pub others : (n : ℕ) → has list n ≡ false → map.get now n ≡ map.get m n
  pub failed_listed : (f : ℕ) → has failed f ≡ true → has list f ≡ true
  pub apart : (f g : ℕ) → has failed f ≡ true → has failed g ≡ true → ¬ (IsAncestor m f g)
