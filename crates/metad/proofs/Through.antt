-- On bytes that aren't kept back.
use Rattle.std.proofs.Common.{◌≡◌, ◌∙◌, sym, ap, ℕ, List, [], ◌++◌, take, Option, Some, None, Result, Ok, Err, append-nil}
use Rattle.std.specs.Io.KnownBytes.{Keeps, Appends, WriteAppends, append_known}

module _ (kept : List ℕ) (none : kept ≡ []) where
  -- nothing was kept back, and more was handed on
  more_handed_on : (a b c : Option (List ℕ)) (bytes : List ℕ) → Keeps a (append_known b kept)
      → Appends b c bytes → Appends a (append_known c kept) bytes
  more_handed_on None b c bytes p q = tt
  more_handed_on (Some x) None c bytes p q = absurd p
  more_handed_on (Some x) (Some y) None bytes p q = absurd q
  more_handed_on (Some x) (Some y) (Some z) bytes p q =
      ap (λ k. z ++ k) none ∙ append-nil z ∙ q
      ∙ ap (λ w. w ++ bytes) (sym (append-nil y) ∙ ap (λ k. y ++ k) (sym none) ∙ p)

  no_more_handed_on : (a b c : Option (List ℕ)) → Keeps a (append_known b kept) → Keeps b c
      → Keeps a (append_known c kept)
  no_more_handed_on None b c p q = tt
  no_more_handed_on (Some x) None c p q = absurd p
  no_more_handed_on (Some x) (Some y) None p q = absurd q
  no_more_handed_on (Some x) (Some y) (Some z) p q = ap (λ w. w ++ kept) q ∙ p

  -- what a write takes then stands behind all bytes before it
  pub written_through : {E : Type 0} (a b c : Option (List ℕ)) (result : Result ℕ E)
      (buf : List ℕ) → Keeps a (append_known b kept) → WriteAppends b c result buf
      → WriteAppends a (append_known c kept) result buf
  written_through a b c (Ok n) buf p q = more_handed_on a b c (take n buf) p q
  written_through a b c (Err e) buf p q = no_more_handed_on a b c p q
