-- A number that was chosen already is chosen once more without a change.
use Rattle.std.proofs.Common.{◌≡◌, Bool, true, false, refl, ap, Option, Some, None}
use Rattle.std.specs.Prelude.{◌&&◌, ◌||◌, if◌then◌else◌}
use Rattle.explaining.specs.Firsts.{chosen}

module _ {X : Type 0} (before : X → X → Bool) (n : X) where
  pub not_chosen : (o : Option X) → chosen before false n o ≡ o
  not_chosen None = refl
  not_chosen (Some m) = refl

  -- it stays where it is
  stays : (c : Bool) → chosen before c n (Some n) ≡ Some n
  stays c = go (c && before n n)
    where
      go : (b : Bool) → (if b then Some n else Some n) ≡ Some n
      go true = refl
      go false = refl

  pub chosen_twice : (b c : Bool) (o : Option X) → chosen before c n (chosen before b n o) ≡ chosen before (b || c) n o
  chosen_twice false c o = ap (chosen before c n) (not_chosen o)
  chosen_twice true c None = stays c
  chosen_twice true c (Some m) = go (before n m) refl
    where
      again : (d : Bool) → before n m ≡ false → (if d && before n m then Some n else Some m) ≡ Some m
      again true e = ap (λ b. if b then Some n else Some m) e
      again false e = refl

      go : (b : Bool) → before n m ≡ b → chosen before c n (if b then Some n else Some m) ≡ (if b then Some n else Some m)
      go true e = stays c
      go false e = again c e
