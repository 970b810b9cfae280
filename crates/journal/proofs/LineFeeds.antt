-- Each line feed that a reader meets, by what its tests say.
use Rattle.std.proofs.Common.{◌≡◌, ◌∙◌, ap, sym, ℕ, ◌+◌, List, [], ◌∷◌, ◌++◌, drop, Bool, true, false, ◌&&◌, not, bytes_eq}
use Rattle.sha2.specs.Hashers.{Holds256}
use Rattle.sha2.specs.declared.Sha256.{Sha256}
use Rattle.journal.specs.Text.{is_commit, sum_of, commit_of, place_text}
use Rattle.journal.specs.Reading.{is_overlong, found}
use Rattle.journal.specs.Reads.{ReadSo}
use Rattle.journal.proofs.Clear.{damage_is_found, sound_is_found}
use Rattle.journal.proofs.ReadOn.{over_damage, over_passes, stop_damage, stops, waits_on, commit_damage, commits_once, twice_damage, group_ends, Rests, over_ends, going_ends, long_end}

-- whether the head of a line commits a group elsewhere
abbrev is_there : List ℕ → ℕ → Bool
is_there head end = is_commit head && not (bytes_eq (drop 65 head) (place_text end))

module _ (first text last : List ℕ) (end : ℕ) (sum : List ℕ) where
  pub damage_over : (once over : Bool) (at : ℕ) (head : List ℕ) (torn : Bool) (hasher : Sha256)
      → over ≡ true
      → (told : Bool) (front : List ℕ) → told ≡ is_there front end → front ≡ head
      → (not torn && told) ≡ true
      → ReadSo first text last end sum once over at head torn hasher → (rest : List ℕ)
      → (found first (text ++ 10 ∷ rest)).is_damaged ≡ true
  damage_over once false at head torn hasher is told front tells same stray r rest = absurd (cc is)
  damage_over once true at head torn hasher is told front tells same stray r rest =
      damage_is_found first (text ++ 10 ∷ rest)
      (over_damage first text last end sum once at head torn hasher r
      (ap (λ (b : Bool). not torn && b) (ap (λ (h : List ℕ). is_there h end) (sym same) ∙ sym tells)
      ∙ stray) rest)

  pub feed_over : (once over : Bool) (at : ℕ) (head : List ℕ) (torn : Bool) (hasher : Sha256)
      → over ≡ true
      → (told : Bool) (front : List ℕ) → told ≡ is_there front end → front ≡ head
      → (not torn && told) ≡ false
      → ReadSo first text last end sum once over at head torn hasher
      → ReadSo first (text ++ 10 ∷ []) last end sum once over (at + 1) [] false hasher
  feed_over once false at head torn hasher is told front tells same calm r = absurd (cc is)
  feed_over once true at head torn hasher is told front tells same calm r =
      over_passes first text last end sum once at head torn hasher r
      (ap (λ (b : Bool). not torn && b) (ap (λ (h : List ℕ). is_there h end) (sym same) ∙ sym tells)
      ∙ calm)

  pub damage_stops : (once over : Bool) (at : ℕ) (head : List ℕ) (torn : Bool) (hasher : Sha256)
      → over ≡ false → torn ≡ true → is_overlong head ≡ true
      → ReadSo first text last end sum once over at head torn hasher → (rest : List ℕ)
      → (found first (text ++ 10 ∷ rest)).is_damaged ≡ true
  damage_stops once true at head torn hasher is lost long r rest = absurd (cc is)
  damage_stops once false at head torn hasher is lost long r rest =
      damage_is_found first (text ++ 10 ∷ rest)
      (stop_damage first text last end sum once at head torn hasher r lost long rest)

  -- the reader is over from then on
  pub feed_stops : (once over : Bool) (at : ℕ) (head : List ℕ) (torn : Bool) (hasher : Sha256)
      → over ≡ false → torn ≡ true → is_overlong head ≡ false
      → ReadSo first text last end sum once over at head torn hasher
      → ReadSo first (text ++ 10 ∷ []) last end sum once true (at + 1) [] false hasher
  feed_stops once true at head torn hasher is lost short r = absurd (cc is)
  feed_stops once false at head torn hasher is lost short r =
      stops first text last end sum once at head torn hasher r lost short

  pub feed_waits : (once over : Bool) (at : ℕ) (head : List ℕ) (torn : Bool) (hasher : Sha256)
      → over ≡ false → once ≡ false → torn ≡ false → is_commit head ≡ false
      → ReadSo first text last end sum once over at head torn hasher
      → (new : Sha256) → ((m : List ℕ) → Holds256 hasher m → Holds256 new (m ++ 10 ∷ []))
      → ReadSo first (text ++ 10 ∷ []) last end sum once over (at + 1) [] false new
  feed_waits once true at head torn hasher is fresh stands plain r new hashes = absurd (cc is)
  feed_waits true false at head torn hasher is fresh stands plain r new hashes = absurd (cc fresh)
  feed_waits false false at head torn hasher is fresh stands plain r new hashes =
      waits_on first text last end sum at head torn hasher r stands plain new hashes

  pub damage_commits : (once over : Bool) (at : ℕ) (head : List ℕ) (torn : Bool) (hasher : Sha256)
      → over ≡ false → once ≡ false → torn ≡ false → is_commit head ≡ true
      → ReadSo first text last end sum once over at head torn hasher
      → (told : List ℕ) → ((m : List ℕ) → Holds256 hasher m → told ≡ sum_of m)
      → bytes_eq head (commit_of told end) ≡ false
      → (rest : List ℕ) → (found first (text ++ 10 ∷ rest)).is_damaged ≡ true
  damage_commits once true at head torn hasher is fresh stands commits r told sums differs rest =
      absurd (cc is)
  damage_commits true false at head torn hasher is fresh stands commits r told sums differs rest =
      absurd (cc fresh)
  damage_commits false false at head torn hasher is fresh stands commits r told sums differs rest =
      damage_is_found first (text ++ 10 ∷ rest)
      (commit_damage first text last end sum at head torn hasher r stands told sums commits differs
      rest)

  pub feed_commits : (once over : Bool) (at : ℕ) (head : List ℕ) (torn : Bool) (hasher : Sha256)
      → over ≡ false → once ≡ false → torn ≡ false → is_commit head ≡ true
      → ReadSo first text last end sum once over at head torn hasher
      → (told : List ℕ) → ((m : List ℕ) → Holds256 hasher m → told ≡ sum_of m)
      → bytes_eq head (commit_of told end) ≡ true
      → (new : Sha256) → Holds256 new []
      → ReadSo first (text ++ 10 ∷ []) last end told true over (at + 1) [] false new
  feed_commits once true at head torn hasher is fresh stands commits r told sums equal new empty =
      absurd (cc is)
  feed_commits true false at head torn hasher is fresh stands commits r told sums equal new empty =
      absurd (cc fresh)
  feed_commits false false at head torn hasher is fresh stands commits r told sums equal new empty =
      commits_once first text last end sum at head torn hasher r stands told sums commits equal new
      empty

  pub damage_ends : (once over : Bool) (at : ℕ) (head : List ℕ) (torn : Bool) (hasher : Sha256)
      → over ≡ false → once ≡ true → torn ≡ false
      → ReadSo first text last end sum once over at head torn hasher
      → bytes_eq head (commit_of sum end) ≡ false
      → (rest : List ℕ) → (found first (text ++ 10 ∷ rest)).is_damaged ≡ true
  damage_ends once true at head torn hasher is twice stands r differs rest = absurd (cc is)
  damage_ends false false at head torn hasher is twice stands r differs rest = absurd (cc twice)
  damage_ends true false at head torn hasher is twice stands r differs rest =
      damage_is_found first (text ++ 10 ∷ rest)
      (twice_damage first text last end sum at head torn hasher r stands differs rest)

  pub feed_ends : (once over : Bool) (at : ℕ) (head : List ℕ) (torn : Bool) (hasher : Sha256)
      → over ≡ false → once ≡ true → torn ≡ false
      → ReadSo first text last end sum once over at head torn hasher
      → bytes_eq head (commit_of sum end) ≡ true
      → (new : Sha256) → ((m : List ℕ) → Holds256 hasher m → Holds256 new (m ++ sum))
      → ReadSo first (text ++ 10 ∷ []) sum (at + 1) sum false over (at + 1) [] false new
  feed_ends once true at head torn hasher is twice stands r equal new hashes = absurd (cc is)
  feed_ends false false at head torn hasher is twice stands r equal new hashes = absurd (cc twice)
  feed_ends true false at head torn hasher is twice stands r equal new hashes =
      group_ends first text last end sum at head torn hasher r stands equal new hashes

  -- ---- at the end of the file

  pub damage_at_end : (once over : Bool) (at : ℕ) (head : List ℕ) (torn : Bool) (hasher : Sha256)
      → (told : Bool) (front : List ℕ) → told ≡ is_overlong front → front ≡ head
      → (not over && told) ≡ true
      → ReadSo first text last end sum once over at head torn hasher
      → (found first text).is_damaged ≡ true
  damage_at_end once true at head torn hasher told front tells same long r = absurd (cc long)
  damage_at_end once false at head torn hasher told front tells same long r =
      damage_is_found first text
      (long_end first text last end sum once at head torn hasher
      (ap is_overlong (sym same) ∙ sym tells ∙ long) r)

  pub sound_at_end : (once over : Bool) (at : ℕ) (head : List ℕ) (torn : Bool) (hasher : Sha256)
      → (told : Bool) (front : List ℕ) → told ≡ is_overlong front → front ≡ head
      → (not over && told) ≡ false
      → ReadSo first text last end sum once over at head torn hasher
      → ((found first text).is_damaged ≡ false) × Rests first text last end
  sound_at_end once true at head torn hasher told front tells same short r =
      let ends = over_ends first text last end sum once at head torn hasher r in
      (sound_is_found first text r.clear ends.0, ends.1)
  sound_at_end once false at head torn hasher told front tells same short r =
      let ends = going_ends first text last end sum once at head torn hasher
      (ap is_overlong (sym same) ∙ sym tells ∙ short) r in
      (sound_is_found first text r.clear ends.0, ends.1)
