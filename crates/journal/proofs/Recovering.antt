-- What a cut behind the groups leaves.
use Rattle.std.proofs.Common.{◌≡◌, ◌⊎◌, ◌∙◌, ap, sym, refl, subst, ℕ, suc, ◌+◌, ◌-◌, ◌≤◌, List, [], ◌∷◌, ◌++◌, take, drop, replicate, length, Bool, true, false, ◌||◌, inl, inr, bytes_eq, arith, append_assoc}
use Rattle.std.proofs.lemmas.Bool.{cases_Bool, false≢true}
use Rattle.std.proofs.lemmas.List.{append-nil, append_cancel_left, take-append-drop, length-take-le, drop-drop, length-replicate, drop-replicate, replicate-append-replicate}
use Rattle.std.proofs.lemmas.Slice.Eq.{bytes_eq-Decides}
use Rattle.std.specs.List.{list_any}
use Rattle.journal.specs.Text.{is_torn, is_commit, has_noise, lines_text, commit_line, sum_after, journal_text, journal_end, AreGroups}
use Rattle.journal.specs.Reading.{whole_lines, last_piece, is_overlong, is_stray, Found, found_none, with_group, with_groups, found_in, found_from, parsed, found, sound}
use Rattle.journal.specs.Crashes.{Holes, Only, Mixes, written}
use Rattle.journal.specs.Groups.{HasGroups}
use Rattle.journal.specs.Reads.{ZerosFrom}
use Rattle.journal.proofs.TextLines.{HasNoFeed, AreWhole, or_false, parts, each_whole, piece_has_none, whole_lines-none, last_piece-none}
use Rattle.journal.proofs.Clear.{clear_both, clear_parts, left_is_clear, sound_parts, found_alike}
use Rattle.journal.proofs.Tearing.{cut_holes, whole_or_torn, left_has_none, torn_is_not_stray, not_overlong, ends_here}
use Rattle.journal.proofs.Groups.{Read, read_text, found_behind, line_is_not_stray, commit_is_not_stray, commit_is_short, line_is_short}

-- ---- what is read as nothing stays so where bytes are lost

record Goes (before : List ℕ) (start : ℕ) (pending : List (List ℕ)) (once : Bool) (line : List ℕ)
    (lines : List (List ℕ)) (last : List ℕ) : Type 0 where
  pub held : List (List ℕ)
  pub again : Bool
  pub on : (more : List (List ℕ)) (piece : List ℕ)
      → found_in before start pending once (line ∷ more) piece
      ≡ found_in before start held again more piece
  pub rest : found_in before start held again lines last ≡ sound []

record Steps (before : List ℕ) (start : ℕ) (pending : List (List ℕ)) (once : Bool) (line : List ℕ)
    (lines : List (List ℕ)) (last : List ℕ) : Type 0 where
  pub short : is_overlong line ≡ false
  pub same : is_stray start line ≡ false
  pub goes : ((is_torn line ≡ true) × (list_any (is_stray start) lines ≡ false))
      ⊎ Goes before start pending once line lines last

no_damage : (damage : Bool) → found_none damage ≡ sound [] → damage ≡ false
no_damage damage is = ap (λ (f : Found). f.is_damaged) is

no_group : (group : List (List ℕ)) (f : Found) → with_group group f ≡ sound [] → ⊥
no_group group f is = cc (ap (λ (g : Found). g.groups) is)

is_damage : found_none true ≡ sound [] → ⊥
is_damage is = false≢true (sym (ap (λ (f : Found). f.is_damaged) is))

torn_steps : (before : List ℕ) (start : ℕ) (pending : List (List ℕ)) (once : Bool) (line : List ℕ)
    (lines : List (List ℕ)) (last : List ℕ) → is_torn line ≡ true
    → (is_overlong line || list_any (is_stray start) lines) ≡ false
    → Steps before start pending once line lines last
torn_steps before start pending once line lines last torn calm =
    let both = or_false (is_overlong line) (list_any (is_stray start) lines) calm in
    record { short = both.0; same = torn_is_not_stray start line torn; goes = inl (torn, both.1) }

commit_steps : (before : List ℕ) (start : ℕ) (pending : List (List ℕ)) (line : List ℕ)
    (lines : List (List ℕ)) (last : List ℕ) → line ≡ commit_line before start pending
    → Goes before start pending false line lines last
    → Steps before start pending false line lines last
commit_steps before start pending line lines last is goes = record {
  short = ap is_overlong is ∙ commit_is_short (before ++ lines_text pending) start;
  same = ap (is_stray start) is ∙ commit_is_not_stray (before ++ lines_text pending) start;
  goes = inr goes;
}

steps : (before : List ℕ) (start : ℕ) (pending : List (List ℕ)) (once : Bool) (line : List ℕ)
    (lines : List (List ℕ)) (last : List ℕ)
    → found_in before start pending once (line ∷ lines) last ≡ sound []
    → Steps before start pending once line lines last
steps before start pending false line lines last is = elim (cases_Bool (is_torn line)) [
  | inl torn ↦ torn_steps before start pending false line lines last torn
      (no_damage _ (rw torn at is))
  | inr stands ↦ elim (cases_Bool (is_commit line)) [
    | inl commits ↦ elim (cases_Bool (bytes_eq line (commit_line before start pending))) [
      | inl same ↦
          commit_steps before start pending line lines last
          ((bytes_eq-Decides line (commit_line before start pending)).0 same) (record {
            held = pending;
            again = true;
            on = λ more piece. rw (stands, commits, same) refl;
            rest = rw (stands, commits, same) at is;
          })
      | inr other ↦ absurd (is_damage (rw (stands, commits, other) at is))
    ]
    | inr plain ↦ record {
      short = line_is_short line plain;
      same = line_is_not_stray start line plain;
      goes = inr (record {
        held = pending ++ line ∷ [];
        again = false;
        on =
            λ more piece. rw (stands, plain) refl;
        rest = rw (stands, plain) at is;
      });
    }
  ]
]
steps before start pending true line lines last is = elim (cases_Bool (is_torn line)) [
  | inl torn ↦ torn_steps before start pending true line lines last torn
      (no_damage _ (rw torn at is))
  | inr stands ↦ elim (cases_Bool (bytes_eq line (commit_line before start pending))) [
    | inl same ↦ absurd (no_group pending _ (rw (stands, same) at is))
    | inr other ↦ absurd (is_damage (rw (stands, other) at is))
  ]
]

calm_lines : (before : List ℕ) (start : ℕ) (pending : List (List ℕ)) (once : Bool)
    (lines : List (List ℕ)) (last : List ℕ)
    → found_in before start pending once lines last ≡ sound []
    → list_any (is_stray start) lines ≡ false
calm_lines before start pending once [] last is = refl
calm_lines before start pending once (line ∷ lines) last is =
    let step = steps before start pending once line lines last is in
    elim step.goes [
      | inl torn ↦ rw (step.same, torn.1) refl
      | inr goes ↦ rw (step.same, calm_lines before start goes.held goes.again lines last goes.rest)
          refl
    ]

at_feed : (before : List ℕ) (start : ℕ) (pending : List (List ℕ)) (once : Bool) (line : List ℕ)
    (lines : List (List ℕ)) (last : List ℕ) → HasNoFeed line → AreWhole lines → HasNoFeed last
    → Steps before start pending once line lines last → list_any (is_stray start) lines ≡ false
    → ((held : List (List ℕ)) (again : Bool) (back : List ℕ)
    → found_in before start held again lines last ≡ sound []
    → Holes (lines_text lines ++ last) back → Read before start held again back ≡ sound [])
    → (front back : List ℕ) → Holes line front → Holes (10 ∷ (lines_text lines ++ last)) back
    → Read before start pending once (front ++ back) ≡ sound []
at_feed before start pending once line lines last whole all none step calm later front [] fronts
    backs = absurd backs
at_feed before start pending once line lines last whole all none step calm later front
    (c ∷ back) fronts backs =
    let end : (c ≡ 0) ⊎ ((c ≡ 10) × (is_torn front ≡ true))
    → Read before start pending once (front ++ c ∷ back) ≡ sound [] =
    λ which. ends_here before start pending once line lines last front back whole all none
    step.short calm fronts backs.1 c which in
    elim backs.0 [
      | inl lost ↦ end (inl lost)
      | inr feed ↦ elim (whole_or_torn line front fronts) [
        | inl same ↦ elim step.goes [
          | inl torn ↦ end (inr (feed, ap is_torn same ∙ torn.0))
          | inr goes ↦
              let texts : front ++ c ∷ back ≡ line ++ 10 ∷ back =
              ap (λ (t : List ℕ). t ++ c ∷ back) same ∙ ap (λ (b : ℕ). line ++ b ∷ back) feed in
              ap (Read before start pending once) texts
              ∙ read_text before start pending once line back whole
              ∙ goes.on (whole_lines back) (last_piece back)
              ∙ later goes.held goes.again back goes.rest backs.1
        ]
        | inr torn ↦ end (inr (feed, torn))
      ]
    ]

still : (before : List ℕ) (start : ℕ) (pending : List (List ℕ)) (once : Bool)
    (lines : List (List ℕ)) (last left : List ℕ) → AreWhole lines → HasNoFeed last
    → found_in before start pending once lines last ≡ sound []
    → Holes (lines_text lines ++ last) left → Read before start pending once left ≡ sound []
still before start pending once [] last left all none is holes =
    let feeds = left_has_none last left none holes in
    let short : is_overlong left ≡ false = ap is_overlong (sym (append-nil left))
    ∙ not_overlong last left [] holes refl (no_damage (is_overlong last) is) in
    ap (λ (ls : List (List ℕ)). found_in before start pending once ls (last_piece left))
    (whole_lines-none left feeds)
    ∙ ap (λ (p : List ℕ). found_none (is_overlong p)) (last_piece-none left feeds)
    ∙ ap found_none short
still before start pending once (line ∷ lines) last left all none is holes =
    let step = steps before start pending once line lines last is in
    let cut = cut_holes line (10 ∷ (lines_text lines ++ last)) left
    (subst (λ (t : List ℕ). Holes t left)
    (append_assoc line (10 ∷ lines_text lines) last) holes) in
    let calm : list_any (is_stray start) lines ≡ false =
    (or_false (is_stray start line) (list_any (is_stray start) lines)
    (calm_lines before start pending once (line ∷ lines) last is)).1 in
    subst (λ (t : List ℕ). Read before start pending once t ≡ sound []) (sym cut.is)
    (at_feed before start pending once line lines last all.0 all.1 none step calm
    (λ held again back rest more. still before start held again lines last back all.1 none rest
    more) cut.front cut.back cut.fronts cut.backs)

-- ---- the file

module _ (first text : List ℕ) (end : ℕ) (all : AreGroups (parsed first text).groups)
    (within : end ≤ length text)
    (is : take end text ≡ journal_text first (parsed first text).groups)
    (whole : (parsed first text).is_damaged ≡ false) where
  abbrev groups : List (List (List ℕ))
  groups = (parsed first text).groups

  abbrev rest : List ℕ
  rest = drop end text

  file_parts : text ≡ journal_text first groups ++ rest
  file_parts = sym (take-append-drop end text) ∙ ap (λ (t : List ℕ). t ++ rest) is

  pub size : end ≡ journal_end first groups
  size = sym (length-take-le end text within) ∙ ap length is

  rest_found : found_from (sum_after first groups) (journal_end first groups) rest ≡ sound []
  rest_found =
      let read = found_from (sum_after first groups) (journal_end first groups) rest in
      let both : parsed first text ≡ with_groups groups read = ap (parsed first) file_parts
      ∙ found_behind first groups rest all in
      let none : read.groups ≡ [] =
      append_cancel_left groups read.groups []
      (sym (ap (λ (f : Found). f.groups) both) ∙ sym (append-nil groups)) in
      let calm : read.is_damaged ≡ false = sym (ap (λ (f : Found). f.is_damaged) both) ∙ whole in
      λ i. record { groups = none i; is_damaged = calm i }

  -- a file of which bytes behind the groups are lost is read as it was
  pub lost_behind : (left : List ℕ) → Holes rest left
      → parsed first (take end text ++ left) ≡ parsed first text
  lost_behind left holes =
      let read = found_from (sum_after first groups) (journal_end first groups) in
      let texts : Holes (lines_text (whole_lines rest) ++ last_piece rest) left =
      subst (λ (t : List ℕ). Holes t left) (parts rest) holes in
      let now = still (sum_after first groups) (journal_end first groups) [] false
      (whole_lines rest) (last_piece rest) left (each_whole rest)
      (piece_has_none rest) rest_found texts in
      ap (λ (t : List ℕ). parsed first (t ++ left)) is ∙ found_behind first groups left all
      ∙ ap (with_groups groups) now
      ∙ sym (ap (parsed first) file_parts ∙ found_behind first groups rest all
      ∙ ap (with_groups groups) rest_found)

pub mixed_zeros : (old mixed : List ℕ) → Mixes old (replicate (length old) 0) mixed
    → Holes old mixed
mixed_zeros [] [] mixes = tt
mixed_zeros [] (c ∷ mixed) mixes = absurd mixes
mixed_zeros (b ∷ old) [] mixes = absurd mixes
mixed_zeros (b ∷ old) (c ∷ mixed) mixes = (
  elim mixes.0 [
    | inl same ↦ inr same
    | inr lost ↦ inl lost
  ],
  mixed_zeros old mixed mixes.1,
)

pub mixes_length : (old new mixed : List ℕ) → Mixes old new mixed → length old ≡ length new
mixes_length [] [] [] mixes = refl
mixes_length [] [] (c ∷ mixed) mixes = absurd mixes
mixes_length [] (b ∷ new) mixed mixes = absurd mixes
mixes_length (a ∷ old) [] mixed mixes = absurd mixes
mixes_length (a ∷ old) (b ∷ new) [] mixes = absurd mixes
mixes_length (a ∷ old) (b ∷ new) (c ∷ mixed) mixes = ap suc (mixes_length old new mixed mixes.1)

pub holes_length : (old left : List ℕ) → Holes old left → length left ≡ length old
holes_length [] [] holes = refl
holes_length [] (c ∷ left) holes = absurd holes
holes_length (b ∷ old) [] holes = absurd holes
holes_length (b ∷ old) (c ∷ left) holes = ap suc (holes_length old left holes.1)

-- behind the last byte
zeros_behind : (text : List ℕ) (till at : ℕ) → till ≤ at
    → drop till text ≡ replicate (length text - till) 0
    → drop at text ≡ replicate (length text - till - (at - till)) 0
zeros_behind text till at le is =
    let n : till + (at - till) ≡ at = omega (arith, le) in
    ap (λ (k : ℕ). drop k text) (sym n) ∙ sym (drop-drop (at - till) till text)
    ∙ ap (drop (at - till)) is ∙ drop-replicate (at - till) (length text - till) 0

module _ (first text zeros : List ℕ) (end till : ℕ) (last : List ℕ)
    (all : AreGroups (parsed first text).groups) (within : end ≤ length text)
    (is : take end text ≡ journal_text first (parsed first text).groups)
    (last_is : last ≡ sum_after first (parsed first text).groups)
    (whole : (parsed first text).is_damaged ≡ false)
    (behind : drop till text ≡ replicate (length text - till) 0)
    (are : zeros ≡ replicate (till - end) 0) where
  long : length zeros ≡ till - end
  long = ap length are ∙ length-replicate (till - end) 0

  pub blanked : (new : List ℕ) (left : List ℕ → Type 0) → new ≡ written end zeros text
      → Only new left → HasGroups new left last end first (parsed first text).groups
  blanked new left put only =
      let at = end + length zeros in
      let room = length text - till - (at - till) in
      record {
        room = till - end + room;
        each = all;
        file = put
            ∙ ap (λ (t : List ℕ). t ++ (zeros ++ drop at text)) is
            ∙ ap (λ (t : List ℕ). journal_text first (parsed first text).groups ++
            (t ++ drop at text)) are
            ∙ ap (λ (t : List ℕ). journal_text first (parsed first text).groups ++
            (replicate (till - end) 0 ++ t))
            (zeros_behind text till at (omega (arith, long)) behind)
            ∙ ap (λ (t : List ℕ). journal_text first (parsed first text).groups ++ t)
            (replicate-append-replicate (till - end) room 0);
        sum = last_is;
        ends = size first text end all within is whole;
        durable = only;
      }

-- what was read of a file
abbrev pub IsRead : List ℕ → List ℕ → List ℕ → ℕ → Type 0
IsRead first text last end = AreGroups (found first text).groups × (end ≤ length text)
    × (take end text ≡ journal_text first (found first text).groups)
    × (last ≡ sum_after first (found first text).groups)

pub recovered : (first text here last new : List ℕ) (end till : ℕ) (left : List ℕ → Type 0)
    → here ≡ text → IsRead first text last end
    → (found first text).is_damaged ≡ false → ZerosFrom till text
    → (new ≡ written end (replicate (till - end) 0) here) × Only new left
    → HasGroups new left last end first (found first text).groups
recovered first text here last new end till left same read whole zeros put =
    blanked first text (replicate
    (till - end) 0) end till last read.0 read.1 read.2 read.3
    (sound_parts first text whole).1 zeros.1 refl new left
    (put.0 ∙ ap (written end (replicate (till - end) 0)) same) put.1

-- what a crash leaves of it is read so too
pub read_left : (first text here last c : List ℕ) (end : ℕ) → here ≡ text
    → IsRead first text last end → (found first text).is_damaged ≡ false
    → ((left : List ℕ) × Holes (drop end here) left × (c ≡ take end here ++ left))
    → found first c ≡ found first text
read_left first text here last c end same read whole out =
    let behind : Holes (drop end text) out.0 =
    subst (λ (t : List ℕ). Holes (drop end t) out.0) same out.1 in
    let sound = sound_parts first text whole in
    let parts = clear_parts (take end text) (drop end text)
    (ap has_noise (take-append-drop end text) ∙ sound.0) in
    let left = clear_both (take end text) out.0 parts.0
    (left_is_clear (drop end text) out.0 parts.1 behind) in
    ap (found first) (out.2 ∙ ap (λ (t : List ℕ). take end t ++ out.0) same)
    ∙ found_alike first (take end text ++ out.0) text (left ∙ sym sound.0)
    (lost_behind first text end read.0 read.1 read.2 sound.1 out.0 behind)
