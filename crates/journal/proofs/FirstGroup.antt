-- Whether a reader has met a group.
use Rattle.std.proofs.Common.{◌≡◌, ◌∙◌, ap, sym, refl, ℕ, ◌<◌, List, [], ◌∷◌, ◌++◌, take, drop, length, Bool, true, false, arith, length-append}
use Rattle.std.proofs.lemmas.List.{take-append-drop}
use Rattle.sha2.specs.declared.Sha256.{Sha256}
use Rattle.journal.specs.Text.{lines_text, group_lines, group_sum, group_end, group_text, lines_from, journal_end}
use Rattle.journal.specs.Reading.{Found, parsed, found}
use Rattle.journal.specs.Reads.{Going, Over, ReadSo, HasRead}
use Rattle.journal.specs.declared.reader.Reader.{Reader}
use Rattle.journal.proofs.TextLines.{lines_text-append}
use Rattle.journal.proofs.Told.{length-group}
use Rattle.journal.proofs.ReadOn.{over_groups, going_groups}

-- the first of two parts
front_none : {X : Type 0} (a b : List X) → a ++ b ≡ [] → a ≡ []
front_none [] b none = refl
front_none (x ∷ a) b none = absurd (cc none)

-- groups have a length
some_end : (first : List ℕ) (groups : List (List (List ℕ))) (end : ℕ)
    → end ≡ journal_end first groups → 0 < end → groups ≡ [] → ⊥
some_end first groups end is some none =
    let zero = is ∙ ap (journal_end first) none in absurd (omega (arith, zero, some))

no_end : (first : List ℕ) (groups : List (List (List ℕ))) (end : ℕ)
    → end ≡ journal_end first groups → end ≡ 0 → groups ≡ []
no_end first [] end is zero = refl
no_end first (group ∷ groups) end is zero =
    let rest = lines_from (group_sum first group) (group_end first 0 group) groups in
    let size = length-group first 0 group in
    let both = ap length (lines_text-append (group_lines first 0 group) rest)
    ∙ length-append (group_text first 0 group) (lines_text rest) in
    absurd (omega (arith, is, zero, size, both))

module _ (first text last : List ℕ) (end : ℕ) (sum : List ℕ) (at : ℕ) (head : List ℕ) (torn : Bool)
    (hasher : Sha256) where
  -- what follows only adds groups
  still_some : (once over : Bool) (r : ReadSo first text last end sum once over at head torn hasher)
      (rest : List ℕ) → (parsed first (text ++ rest)).groups ≡ [] → r.groups ≡ []
  still_some once false r rest none =
      let g : Going first text last end sum once r.piece hasher r.groups = r.stage in
      front_none r.groups _ (sym (ap (λ (f : Found). f.groups) (g.holds rest)) ∙ none)
  still_some once true r rest none =
      let o : Over first text end r.piece r.groups = r.stage in
      front_none r.groups _ (sym (ap (λ (f : Found). f.groups) (o.holds rest)) ∙ none)

  all_groups : (once over : Bool) (r : ReadSo first text last end sum once over at head torn hasher)
      → (parsed first text).groups ≡ r.groups
  all_groups once false r = going_groups first text last end sum once at head torn hasher r
  all_groups once true r = over_groups first text last end sum once at head torn hasher r

  pub some_read : (once over : Bool) → 0 < end
      → ReadSo first text last end sum once over at head torn hasher
      → (rest : List ℕ) → (found first (text ++ rest)).groups ≡ [] → ⊥
  some_read once over some r rest none =
      some_end first r.groups end r.ends some (still_some once over r rest none)

  pub none_read : (once over : Bool) → end ≡ 0
      → ReadSo first text last end sum once over at head torn hasher
      → (found first text).groups ≡ []
  none_read once over zero r =
      all_groups once over r ∙ no_end first r.groups end r.ends zero

-- in the front of a file
pub some_in : (first text : List ℕ) (at : ℕ) (reader : Reader) (has : Bool)
    → (has ≡ true → (first text rest : List ℕ) → HasRead first text reader
    → (found first (text ++ rest)).groups ≡ [] → ⊥)
    → has ≡ true → HasRead first (take at text) reader → (found first text).groups ≡ [] → ⊥
some_in first text at reader has some is read none =
    some is first (take at text) (drop at text) read
    (ap (λ (t : List ℕ). (found first t).groups) (take-append-drop at text) ∙ none)
