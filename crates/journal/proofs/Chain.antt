-- The last sum tells all that stands before it.
use Rattle.std.proofs.Common.{◌≡◌, ◌⊎◌, ◌∙◌, ap, sym, refl, ℕ, List, [], ◌∷◌, ◌++◌, length, take, inl, inr, bytes_eq, arith}
use Rattle.std.proofs.lemmas.Bool.{cases_Bool, false≢true}
use Rattle.std.proofs.lemmas.List.{take_at, append_cancel_left}
use Rattle.std.proofs.lemmas.Slice.Eq.{bytes_eq-Decides}
use Rattle.journal.specs.Text.{lines_text, sum_of, group_sum, sum_after, AreLines, AreGroups}
use Rattle.journal.specs.Reading.{whole_lines}
use Rattle.journal.specs.Laws.{Collision}
use Rattle.journal.proofs.TextLines.{whole_lines-text}
use Rattle.journal.proofs.Groups.{whole_each}
use Rattle.journal.proofs.Sums.{length-sum_of}

-- two texts with one sum are one, or here they are
pub one_text : (a b : List ℕ) → sum_of a ≡ sum_of b → (a ≡ b) ⊎ Collision
one_text a b same = elim (cases_Bool (bytes_eq a b)) [
  | inl is ↦ inl ((bytes_eq-Decides a b).0 is)
  | inr other ↦ inr (a, b, (λ is. false≢true (sym other ∙ (bytes_eq-Decides a b).1 is)), same)
]

front : (a b x y : List ℕ) → length a ≡ length b → a ++ x ≡ b ++ y → a ≡ b
front a b x y size same = sym (take_at a x (length b) size)
    ∙ ap (λ (text : List ℕ). take (length b) text) same ∙ take_at b y (length b) refl

same_lines : (group other : List (List ℕ)) → AreLines group → AreLines other
    → lines_text group ≡ lines_text other → group ≡ other
same_lines group other all each same =
    sym (whole_lines-text group (whole_each group all)) ∙ ap whole_lines same
    ∙ whole_lines-text other (whole_each other each)

-- sums before two groups with one sum are one, and so are the groups
one_group : (before second : List ℕ) (group other : List (List ℕ)) → length before ≡ length second
    → AreLines group → AreLines other
    → group_sum before group ≡ group_sum second other
    → ((before ≡ second) × (group ≡ other)) ⊎ Collision
one_group before second group other size all each same =
    elim (one_text (before ++ lines_text group) (second ++ lines_text other) same) [
      | inl is ↦
          let fronts : before ≡ second =
          front before second (lines_text group) (lines_text other) size is in
          let backs : lines_text group ≡ lines_text other =
          append_cancel_left second (lines_text group) (lines_text other)
          (ap (λ (b : List ℕ). b ++ lines_text group) (sym fronts) ∙ is) in
          inl (fronts, same_lines group other all each backs)
      | inr collision ↦ inr collision
    ]

one_journal : (first second : List ℕ) (groups others : List (List (List ℕ)))
    → length first ≡ length second → AreGroups groups → AreGroups others
    → length groups ≡ length others
    → sum_after first groups ≡ sum_after second others
    → ((first ≡ second) × (groups ≡ others)) ⊎ Collision
one_journal first second [] [] size all each count same = inl (same, refl)
one_journal first second [] (h ∷ hs) size all each count same = absurd (omega (arith, count))
one_journal first second (g ∷ gs) [] size all each count same = absurd (omega (arith, count))
one_journal first second (g ∷ gs) (h ∷ hs) size all each count same =
    elim (one_journal (group_sum first g) (group_sum second h) gs hs
    (length-sum_of (first ++ lines_text g)
    ∙ sym (length-sum_of (second ++ lines_text h))) all.1 each.1 (omega (arith, count)) same) [
      | inl later ↦ elim (one_group first second g h size all.0 each.0 later.0) [
        | inl both ↦ inl (
          both.0,
          ap (λ (group : List (List ℕ)). group ∷ gs) both.1
              ∙ ap (λ (rest : List (List (List ℕ))). h ∷ rest) later.1,
        )
        | inr collision ↦ inr collision
      ]
      | inr collision ↦ inr collision
    ]

-- two journals of as many groups with one last sum have the same groups, or two texts have one
-- SHA-256
pub the_last_sum_tells_all : (first : List ℕ) (groups others : List (List (List ℕ)))
    → AreGroups groups → AreGroups others → length groups ≡ length others
    → sum_after first groups ≡ sum_after first others → (groups ≡ others) ⊎ Collision
the_last_sum_tells_all first groups others all each count same =
    elim (one_journal first first groups others refl all each count same) [
      | inl both ↦ inl both.1
      | inr collision ↦ inr collision
    ]
