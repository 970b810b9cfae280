-- A file is read on by bytes of a line, or by its line feed.
use Rattle.std.proofs.Common.{◌≡◌, ◌∙◌, ap, sym, refl, subst, ℕ, ◌+◌, ◌-◌, ◌≤◌, List, [], ◌∷◌, ◌++◌, take, drop, length, Bool, true, false, ◌||◌, ◌&&◌, not, if◌then◌else◌, inl, inr, bytes_eq, arith, append_assoc, length-append}
use Rattle.std.proofs.lemmas.Bool.{cases_Bool}
use Rattle.std.proofs.lemmas.List.{append-nil, take_at}
use Rattle.std.proofs.lemmas.List.Folds.{list_any-append}
use Rattle.std.proofs.lemmas.Slice.Eq.{bytes_eq-Decides}
use Rattle.std.specs.List.{list_any}
use Rattle.sha2.specs.Hashers.{Holds256}
use Rattle.sha2.specs.declared.Sha256.{Sha256}
use Rattle.journal.specs.Text.{is_zero, is_torn, is_commit, has_noise, lines_text, sum_of, group_sum, group_text, commit_of, commit_line, sum_after, journal_text, journal_end, place_text, IsLine, AreLines, AreGroups}
use Rattle.journal.specs.Reading.{whole_lines, last_piece, is_overlong, is_stray, Found, found_none, with_group, with_groups, found_in, parsed}
use Rattle.journal.specs.Reads.{held, summed, summed_of, Going, Over, ReadSo}
use Rattle.journal.proofs.TextLines.{HasNoFeed, none_of_both, whole_lines-line, last_piece-line, whole_lines-none, last_piece-none, lines_text-append}
use Rattle.journal.proofs.Clear.{clear_both, clear_feed, clear_last}
use Rattle.journal.proofs.Pushing.{journal_text-push, sum_after-push, are_pushed}
use Rattle.journal.proofs.Heads.{front_more, head_commit, head_overlong, head_equals, head_place}

-- ---- at the front

pub reads_nothing : (first sum : List ℕ) (hasher : Sha256) → Holds256 hasher first
    → ReadSo first [] first 0 sum false false 0 [] false hasher
reads_nothing first sum hasher holds = record {
  groups = [];
  piece = [];
  each = tt;
  whole = refl;
  place = refl;
  starts = refl;
  zeros = refl;
  clear = refl;
  ends = refl;
  last_is = refl;
  stage = record {
    waiting = [];
    waits = tt;
    is = refl;
    sums = λ once. absurd (cc once);
    hashes = λ all. subst (λ (m : List ℕ). Holds256 hasher m)
        (sym (append-nil (first ++ []) ∙ append-nil first)) holds;
    holds = λ rest. refl;
  };
}

-- ---- bytes of a line

still_none : (a b : Bool) → (a || b) ≡ false → a ≡ false
still_none false b e = refl
still_none true b e = e

starts_so : (piece bytes : List ℕ) → is_commit (piece ++ bytes) ≡ false
    → summed_of piece ++ bytes ≡ summed_of (piece ++ bytes)
starts_so [] bytes plain = rw plain refl
starts_so (b ∷ piece) bytes plain = rw plain refl

starts_no : (piece bytes : List ℕ) → is_commit (piece ++ bytes) ≡ true
    → summed_of piece ++ [] ≡ summed_of (piece ++ bytes)
starts_no [] bytes commits = rw commits refl
starts_no (b ∷ piece) bytes commits = rw commits refl

-- what is summed of a line, one part further on
summed_more : (piece bytes head : List ℕ) → is_commit head ≡ is_commit (piece ++ bytes)
    → summed_of piece ++ (if is_commit head then [] else bytes) ≡ summed_of (piece ++ bytes)
summed_more piece bytes head same = elim (cases_Bool (is_commit (piece ++ bytes))) [
  | inl commits ↦ ap (λ (b : Bool). summed_of piece ++ (if b then [] else bytes)) (same ∙ commits)
      ∙ starts_no piece bytes commits
  | inr plain ↦ ap (λ (b : Bool). summed_of piece ++ (if b then [] else bytes)) (same ∙ plain)
      ∙ starts_so piece bytes plain
]

module _ (first text last : List ℕ) (end : ℕ) (sum : List ℕ) (once : Bool) (at : ℕ) (head : List ℕ)
    (torn : Bool) (hasher new : Sha256)
    (bytes front : List ℕ) (none : HasNoFeed bytes) (none_noise : has_noise bytes ≡ false)
    (starts : front ≡ head ++ take (83 - length head) bytes) where
  front_is : (piece : List ℕ) → head ≡ take 83 piece → front ≡ take 83 (piece ++ bytes)
  front_is piece is = starts ∙ ap (λ (h : List ℕ). h ++ take (83 - length h) bytes) is
      ∙ front_more 83 piece bytes

  torn_is : (piece : List ℕ) → torn ≡ is_torn piece
      → (torn || is_torn bytes) ≡ is_torn (piece ++ bytes)
  torn_is piece is = ap (λ (b : Bool). b || is_torn bytes) is
      ∙ sym (list_any-append is_zero piece bytes)

  more_place : (place : ℕ) → at ≡ length text → place ≡ at + length bytes
      → place ≡ length (text ++ bytes)
  more_place place here is = let both = length-append text bytes in omega (arith, here, is, both)

  going_on : (place : ℕ) → place ≡ at + length bytes
      → ((torn || is_torn bytes) ≡ false → (m : List ℕ) → Holds256 hasher m
      → Holds256 new (m ++ (if is_commit front then [] else bytes)))
      → ReadSo first text last end sum once false at head torn hasher
      → ReadSo first (text ++ bytes) last end sum once false place front (torn || is_torn bytes) new
  going_on place is hashes r =
      let g : Going first text last end sum once r.piece hasher r.groups = r.stage in
      let waits = lines_text (held last end g.waiting once) in
      record {
        groups = r.groups;
        piece = r.piece ++ bytes;
        each = r.each;
        whole = none_of_both r.piece bytes r.whole none;
        place = more_place place r.place is;
        starts = front_is r.piece r.starts;
        zeros = torn_is r.piece r.zeros;
        clear = clear_both text bytes r.clear none_noise;
        ends = r.ends;
        last_is = r.last_is;
        stage = record {
          waiting = g.waiting;
          waits = g.waits;
          is = ap (λ (t : List ℕ). t ++ bytes) g.is
              ∙ append_assoc (journal_text first r.groups) (waits ++ r.piece) bytes
              ∙ ap (λ (t : List ℕ). journal_text first r.groups ++ t)
              (append_assoc waits r.piece bytes);
          sums = g.sums;
          hashes = λ all.
              let both : (torn || is_torn bytes) ≡ false = torn_is r.piece r.zeros ∙ all in
              let before : is_torn r.piece ≡ false = sym r.zeros
              ∙ still_none torn (is_torn bytes) both in
              subst (λ (m : List ℕ). Holds256 new m)
              (append_assoc (summed last g.waiting once) (summed_of r.piece)
              (if is_commit front then [] else bytes)
              ∙ ap (λ (t : List ℕ). summed last g.waiting once ++ t)
              (summed_more r.piece bytes front
              (head_commit front (r.piece ++ bytes) (front_is r.piece r.starts))))
              (hashes both (summed last g.waiting once ++ summed_of r.piece) (g.hashes before));
          holds = λ rest. ap (parsed first) (append_assoc text bytes rest) ∙ g.holds (bytes ++ rest)
              ∙ ap (λ (t : List ℕ). with_groups r.groups
              (found_in last end g.waiting once (whole_lines t) (last_piece t)))
              (sym (append_assoc r.piece bytes rest));
        };
      }

  over_on : (place : ℕ) → place ≡ at + length bytes
      → ReadSo first text last end sum once true at head torn hasher
      → ReadSo first (text ++ bytes) last end sum once true place front (torn || is_torn bytes) new
  over_on place is r =
      let o : Over first text end r.piece r.groups = r.stage in
      record {
        groups = r.groups;
        piece = r.piece ++ bytes;
        each = r.each;
        whole = none_of_both r.piece bytes r.whole none;
        place = more_place place r.place is;
        starts = front_is r.piece r.starts;
        zeros = torn_is r.piece r.zeros;
        clear = clear_both text bytes r.clear none_noise;
        ends = r.ends;
        last_is = r.last_is;
        stage = record {
          behind = o.behind ++ bytes;
          is = ap (λ (t : List ℕ). t ++ bytes) o.is
              ∙ append_assoc (journal_text first r.groups) o.behind bytes;
          holds = λ rest. ap (parsed first) (append_assoc text bytes rest) ∙ o.holds (bytes ++ rest)
              ∙ ap (λ (t : List ℕ). with_groups r.groups
              (found_none (list_any (is_stray end) (whole_lines t))))
              (sym (append_assoc r.piece bytes rest));
        };
      }

  pub reads_bytes : (over : Bool) (place : ℕ) → place ≡ at + length bytes
      → ((torn || is_torn bytes) ≡ false → (m : List ℕ) → Holds256 hasher m
      → Holds256 new (m ++ (if is_commit front then [] else bytes)))
      → ReadSo first text last end sum once over at head torn hasher
      → ReadSo first (text ++ bytes) last end sum once over place front (torn || is_torn bytes) new
  reads_bytes false place is hashes r = going_on place is hashes r
  reads_bytes true place is hashes r = over_on place is r

-- ---- a line feed

one_more : (text : List ℕ) (at : ℕ) → at ≡ length text → at + 1 ≡ length (text ++ 10 ∷ [])
one_more text at is = let both = length-append text (10 ∷ []) in omega (arith, is, both)

with_damage : (groups : List (List (List ℕ))) (read f : Found) → read ≡ with_groups groups f
    → f.is_damaged ≡ true → read.is_damaged ≡ true
with_damage groups read f is damaged = ap (λ (g : Found). g.is_damaged) is ∙ damaged

module _ (first text last : List ℕ) (end : ℕ) (sum : List ℕ) (once : Bool) (at : ℕ) (head : List ℕ)
    (torn : Bool) (hasher : Sha256)
    (r : ReadSo first text last end sum once true at head torn hasher) where
  abbrev over : Over first text end r.piece r.groups
  over = r.stage

  over_feed : (rest : List ℕ)
      → parsed first (text ++ 10 ∷ rest)
      ≡ with_groups r.groups (found_none (list_any (is_stray end) (r.piece ∷ whole_lines rest)))
  over_feed rest =
      over.holds (10 ∷ rest)
      ∙ ap (λ (ls : List (List ℕ)). with_groups r.groups
      (found_none (list_any (is_stray end) ls))) (whole_lines-line r.piece rest r.whole)

  elsewhere : (is_commit head && not (bytes_eq (drop 65 head) (place_text end)))
      ≡ (is_commit r.piece && not (bytes_eq (drop 65 r.piece) (place_text end)))
  elsewhere = rw (head_commit head r.piece r.starts, head_place head r.piece r.starts end) refl

  stray_is : (not torn && (is_commit head && not (bytes_eq (drop 65 head) (place_text end))))
      ≡ is_stray end r.piece
  stray_is =
      ap (λ (b : Bool). not b &&
      (is_commit head && not (bytes_eq (drop 65 head) (place_text end)))) r.zeros
      ∙ ap (λ (b : Bool). not (is_torn r.piece) && b) elsewhere

  pub over_damage : (not torn && (is_commit head && not (bytes_eq (drop 65 head) (place_text end))))
      ≡ true → (rest : List ℕ)
      → (parsed first (text ++ 10 ∷ rest)).is_damaged ≡ true
  over_damage stray rest =
      with_damage r.groups (parsed first (text ++ 10 ∷ rest)) _ (over_feed rest)
      (rw (sym stray_is ∙ stray) refl)

  passes : is_stray end r.piece ≡ false
      → ReadSo first (text ++ 10 ∷ []) last end sum once true (at + 1) [] false hasher
  passes calm = record {
    groups = r.groups;
    piece = [];
    each = r.each;
    whole = refl;
    place = one_more text at r.place;
    starts = refl;
    zeros = refl;
    clear = clear_feed text r.clear;
    ends = r.ends;
    last_is = r.last_is;
    stage = record {
      behind = over.behind ++ 10 ∷ [];
      is = ap (λ (t : List ℕ). t ++ 10 ∷ []) over.is
          ∙ append_assoc (journal_text first r.groups) over.behind (10 ∷ []);
      holds = λ rest. ap (parsed first) (append_assoc text (10 ∷ []) rest) ∙ over_feed rest
          ∙ rw calm refl;
    };
  }

  pub over_passes : (not torn && (is_commit head && not (bytes_eq (drop 65 head) (place_text end))))
      ≡ false
      → ReadSo first (text ++ 10 ∷ []) last end sum once true (at + 1) [] false hasher
  over_passes other = passes (sym stray_is ∙ other)

module _ (first text last : List ℕ) (end : ℕ) (sum : List ℕ) (once : Bool) (at : ℕ) (head : List ℕ)
    (torn : Bool) (hasher : Sha256)
    (r : ReadSo first text last end sum once false at head torn hasher) where
  abbrev going : Going first text last end sum once r.piece hasher r.groups
  going = r.stage

  feed : (rest : List ℕ)
      → parsed first (text ++ 10 ∷ rest)
      ≡ with_groups r.groups
      (found_in last end going.waiting once (r.piece ∷ whole_lines rest) (last_piece rest))
  feed rest =
      going.holds (10 ∷ rest)
      ∙ ap (λ (ls : List (List ℕ)). with_groups r.groups
      (found_in last end going.waiting once ls (last_piece (r.piece ++ 10 ∷ rest))))
      (whole_lines-line r.piece rest r.whole)
      ∙ ap (λ (p : List ℕ). with_groups r.groups
      (found_in last end going.waiting once (r.piece ∷ whole_lines rest) p))
      (last_piece-line r.piece rest)

  fed : (rest : List ℕ)
      → parsed first ((text ++ 10 ∷ []) ++ rest)
      ≡ with_groups r.groups
      (found_in last end going.waiting once (r.piece ∷ whole_lines rest) (last_piece rest))
  fed rest = ap (parsed first) (append_assoc text (10 ∷ []) rest) ∙ feed rest

  pub stop_damage : torn ≡ true → is_overlong head ≡ true → (rest : List ℕ)
      → (parsed first (text ++ 10 ∷ rest)).is_damaged ≡ true
  stop_damage lost long rest =
      with_damage r.groups (parsed first (text ++ 10 ∷ rest)) _ (feed rest)
      (rw (sym r.zeros ∙ lost, sym (head_overlong head r.piece r.starts) ∙ long) refl)

  pub stops : torn ≡ true → is_overlong head ≡ false
      → ReadSo first (text ++ 10 ∷ []) last end sum once true (at + 1) [] false hasher
  stops lost short =
      let waits = lines_text (held last end going.waiting once) in
      record {
        groups = r.groups;
        piece = [];
        each = r.each;
        whole = refl;
        place = one_more text at r.place;
        starts = refl;
        zeros = refl;
        clear = clear_feed text r.clear;
        ends = r.ends;
        last_is = r.last_is;
        stage = record {
          behind = (waits ++ r.piece) ++ 10 ∷ [];
          is = ap (λ (t : List ℕ). t ++ 10 ∷ []) going.is
              ∙ append_assoc (journal_text first r.groups) (waits ++ r.piece) (10 ∷ []);
          holds = λ rest. fed rest
              ∙ ap (with_groups r.groups)
              (rw (sym r.zeros ∙ lost, sym (head_overlong head r.piece r.starts) ∙ short) refl);
        };
      }

-- one line more is held
more_text : (lines : List (List ℕ)) (line : List ℕ)
    → lines_text lines ++ (line ++ 10 ∷ []) ≡ lines_text (lines ++ line ∷ [])
more_text lines line = sym (lines_text-append lines (line ∷ []))

-- behind the groups
more_held : (text front : List ℕ) (lines : List (List ℕ)) (line : List ℕ)
    → text ≡ front ++ (lines_text lines ++ line)
    → text ++ 10 ∷ [] ≡ front ++ lines_text (lines ++ line ∷ [])
more_held text front lines line is =
    ap (λ (t : List ℕ). t ++ 10 ∷ []) is ∙ append_assoc front (lines_text lines ++ line) (10 ∷ [])
    ∙ ap (λ (t : List ℕ). front ++ t)
    (append_assoc (lines_text lines) line (10 ∷ []) ∙ more_text lines line)

held_is : (text front held : List ℕ) → text ≡ front ++ held → text ≡ front ++ (held ++ [])
held_is text front held is = is ∙ ap (λ (t : List ℕ). front ++ t) (sym (append-nil held))

lines_more : (lines : List (List ℕ)) (line : List ℕ) → AreLines lines → IsLine line
    → AreLines (lines ++ line ∷ [])
lines_more [] line all one = (one, tt)
lines_more (l ∷ lines) line all one = (all.0, lines_more lines line all.1 one)

-- a commit line isn't summed
summed_none : (piece : List ℕ) → is_commit piece ≡ true → summed_of piece ≡ []
summed_none piece commits = rw commits refl

summed_all : (piece : List ℕ) → is_commit piece ≡ false → summed_of piece ≡ piece
summed_all piece plain = rw plain refl

module _ (first text last : List ℕ) (end : ℕ) (sum : List ℕ) (at : ℕ) (head : List ℕ) (torn : Bool)
    (hasher : Sha256)
    (r : ReadSo first text last end sum false false at head torn hasher)
    (stands : torn ≡ false) where
  abbrev open_group : Going first text last end sum false r.piece hasher r.groups
  open_group = r.stage

  abbrev lines : List (List ℕ)
  lines = open_group.waiting

  unmarked : is_torn r.piece ≡ false
  unmarked = sym r.zeros ∙ stands

  pub waits_on : is_commit head ≡ false → (new : Sha256)
      → ((m : List ℕ) → Holds256 hasher m → Holds256 new (m ++ 10 ∷ []))
      → ReadSo first (text ++ 10 ∷ []) last end sum false false (at + 1) [] false new
  waits_on other new hashes =
      let plain : is_commit r.piece ≡ false = sym (head_commit head r.piece r.starts) ∙ other in
      record {
        groups = r.groups;
        piece = [];
        each = r.each;
        whole = refl;
        place = one_more text at r.place;
        starts = refl;
        zeros = refl;
        clear = clear_feed text r.clear;
        ends = r.ends;
        last_is = r.last_is;
        stage = record {
          waiting = lines ++ r.piece ∷ [];
          waits = lines_more lines r.piece open_group.waits
              (record {
                whole = r.whole;
                marked = unmarked;
                plain = plain;
                clear = clear_last text (journal_text first r.groups) (lines_text lines) r.piece
                    open_group.is r.clear;
              });
          is = held_is (text ++ 10 ∷ []) (journal_text first r.groups) _
              (more_held text (journal_text first r.groups) lines r.piece open_group.is);
          sums = λ once. absurd (cc once);
          hashes = λ all. subst (λ (m : List ℕ). Holds256 new m)
              (ap (λ (t : List ℕ). ((last ++ lines_text lines) ++ t) ++ 10 ∷ [])
              (summed_all r.piece plain)
              ∙ append_assoc (last ++ lines_text lines) r.piece (10 ∷ [])
              ∙ append_assoc last (lines_text lines) (r.piece ++ 10 ∷ [])
              ∙ ap (λ (t : List ℕ). last ++ t) (more_text lines r.piece)
              ∙ sym (append-nil (last ++ lines_text (lines ++ r.piece ∷ []))))
              (hashes ((last ++ lines_text lines) ++ summed_of r.piece)
              (open_group.hashes unmarked));
          holds = λ rest. fed first text last end sum false at head torn hasher r rest
              ∙ ap (with_groups r.groups) (rw (unmarked, plain) refl);
        };
      }

  module _ (sum' : List ℕ) (sums : (m : List ℕ) → Holds256 hasher m → sum' ≡ sum_of m)
      (commits : is_commit head ≡ true) where
    marked : is_commit r.piece ≡ true
    marked = sym (head_commit head r.piece r.starts) ∙ commits

    sum_is : sum' ≡ group_sum last lines
    sum_is =
        sums ((last ++ lines_text lines) ++ summed_of r.piece) (open_group.hashes unmarked)
        ∙ ap (λ (t : List ℕ). sum_of ((last ++ lines_text lines) ++ t)) (summed_none r.piece marked)
        ∙ ap sum_of (append-nil (last ++ lines_text lines))

    test_is : bytes_eq head (commit_of sum' end) ≡ bytes_eq r.piece (commit_line last end lines)
    test_is = ap (λ (s : List ℕ). bytes_eq head (commit_of s end)) sum_is
        ∙ head_equals head r.piece r.starts (last ++ lines_text lines) end

    pub commit_damage : bytes_eq head (commit_of sum' end) ≡ false → (rest : List ℕ)
        → (parsed first (text ++ 10 ∷ rest)).is_damaged ≡ true
    commit_damage differs rest =
        with_damage r.groups (parsed first (text ++ 10 ∷ rest)) _
        (feed first text last end sum false at head torn hasher r rest)
        (rw (unmarked, marked, sym test_is ∙ differs) refl)

    pub commits_once : bytes_eq head (commit_of sum' end) ≡ true → (new : Sha256) → Holds256 new []
        → ReadSo first (text ++ 10 ∷ []) last end sum' true false (at + 1) [] false new
    commits_once equal new empty =
        let equals : bytes_eq r.piece (commit_line last end lines) ≡ true = sym test_is ∙ equal in
        let same : r.piece ≡ commit_line last end lines =
        (bytes_eq-Decides r.piece (commit_line last end lines)).0 equals in
        record {
          groups = r.groups;
          piece = [];
          each = r.each;
          whole = refl;
          place = one_more text at r.place;
          starts = refl;
          zeros = refl;
          clear = clear_feed text r.clear;
          ends = r.ends;
          last_is = r.last_is;
          stage = record {
            waiting = lines;
            waits = open_group.waits;
            is = held_is (text ++ 10 ∷ []) (journal_text first r.groups) _
                (more_held text (journal_text first r.groups) lines r.piece open_group.is
                ∙ ap (λ (l : List ℕ). journal_text first r.groups ++ lines_text
                (lines ++ l ∷ [])) same);
            sums = λ once. sum_is;
            hashes = λ all. empty;
            holds = λ rest. fed first text last end sum false at head torn hasher r rest
                ∙ ap (with_groups r.groups) (rw (unmarked, marked, equals) refl);
          };
        }

module _ (first text last : List ℕ) (end : ℕ) (sum : List ℕ) (at : ℕ) (head : List ℕ) (torn : Bool)
    (hasher : Sha256)
    (r : ReadSo first text last end sum true false at head torn hasher)
    (stands : torn ≡ false) where
  abbrev once_read : Going first text last end sum true r.piece hasher r.groups
  once_read = r.stage

  abbrev group : List (List ℕ)
  group = once_read.waiting

  abbrev commit : List ℕ
  commit = commit_line last end group

  whole_piece : is_torn r.piece ≡ false
  whole_piece = sym r.zeros ∙ stands

  twice_is : bytes_eq head (commit_of sum end) ≡ bytes_eq r.piece commit
  twice_is = ap (λ (s : List ℕ). bytes_eq head (commit_of s end)) (once_read.sums refl)
      ∙ head_equals head r.piece r.starts (last ++ lines_text group) end

  pub twice_damage : bytes_eq head (commit_of sum end) ≡ false → (rest : List ℕ)
      → (parsed first (text ++ 10 ∷ rest)).is_damaged ≡ true
  twice_damage differs rest =
      with_damage r.groups (parsed first (text ++ 10 ∷ rest)) _
      (feed first text last end sum true at head torn hasher r rest)
      (rw (whole_piece, sym twice_is ∙ differs) refl)

  module _ (equal : bytes_eq head (commit_of sum end) ≡ true) where
    equals : bytes_eq r.piece commit ≡ true
    equals = sym twice_is ∙ equal

    same : r.piece ≡ commit
    same = (bytes_eq-Decides r.piece commit).0 equals

    text_is : text ++ 10 ∷ [] ≡ journal_text first r.groups ++ group_text last end group
    text_is =
        more_held text (journal_text first r.groups) (group ++ commit ∷ []) r.piece once_read.is
        ∙ ap (λ (ls : List (List ℕ)). journal_text first r.groups ++ lines_text ls)
        (append_assoc group (commit ∷ []) (r.piece ∷ []))
        ∙ ap (λ (l : List ℕ). journal_text first r.groups ++ lines_text
        (group ++ commit ∷ l ∷ [])) same

    all_is : text ++ 10 ∷ [] ≡ journal_text first (r.groups ++ group ∷ [])
    all_is =
        text_is
        ∙ ap (λ (l : List ℕ). journal_text first r.groups ++ group_text l end group) r.last_is
        ∙ ap (λ (n : ℕ). journal_text first r.groups ++ group_text
        (sum_after first r.groups) n group) r.ends
        ∙ journal_text-push first r.groups group

    end_is : at + 1 ≡ end + length (group_text last end group)
    end_is =
        let size = ap length text_is in
        let both = length-append (journal_text first r.groups) (group_text last end group) in
        let here = one_more text at r.place in
        omega (arith, size, both, here, r.ends)

    grouped : (f : Found)
        → with_groups r.groups (with_group group f) ≡ with_groups (r.groups ++ group ∷ []) f
    grouped f = ap (λ (gs : List (List (List ℕ))). record {
      groups = gs;
      is_damaged =
          f.is_damaged;
    }) (sym (append_assoc r.groups (group ∷ []) f.groups))

    pub group_ends : (new : Sha256) → ((m : List ℕ) → Holds256 hasher m → Holds256 new (m ++ sum))
        → ReadSo first (text ++ 10 ∷ []) sum (at + 1) sum false false (at + 1) [] false new
    group_ends new hashes = record {
      groups = r.groups ++ group ∷ [];
      piece = [];
      each = are_pushed r.groups group r.each once_read.waits;
      whole = refl;
      place = one_more text at r.place;
      starts = refl;
      zeros = refl;
      clear = clear_feed text r.clear;
      ends = one_more text at r.place ∙ ap length all_is;
      last_is = once_read.sums refl ∙ ap (λ (l : List ℕ). group_sum l group) r.last_is
          ∙ sym (sum_after-push first r.groups group);
      stage = record {
        waiting = [];
        waits = tt;
        is = all_is ∙ sym (append-nil (journal_text first (r.groups ++ group ∷ [])));
        sums = λ once. absurd (cc once);
        hashes = λ all. subst (λ (m : List ℕ). Holds256 new m)
            (ap (λ (t : List ℕ). t ++ sum) (summed_none r.piece (ap is_commit same))
            ∙ sym (append-nil sum) ∙ sym (append-nil (sum ++ [])))
            (hashes (summed_of r.piece) (once_read.hashes whole_piece));
        holds = λ rest. fed first text last end sum true at head torn hasher r rest
            ∙ ap (with_groups r.groups) (rw (whole_piece, equals) refl)
            ∙ grouped (found_in (group_sum last group)
            (end + length (group_text last end group)) [] false (whole_lines rest)
            (last_piece rest))
            ∙ ap (λ (s : List ℕ). with_groups (r.groups ++ group ∷ [])
            (found_in s (end + length (group_text last end group)) [] false (whole_lines rest)
            (last_piece rest))) (sym (once_read.sums refl))
            ∙ ap (λ (n : ℕ). with_groups (r.groups ++ group ∷ [])
            (found_in sum n [] false (whole_lines rest) (last_piece rest))) (sym end_is);
      };
    }

-- ---- at the end of the file

-- what stands behind the groups isn't damage
abbrev pub Rests : List ℕ → List ℕ → List ℕ → ℕ → Type 0
Rests first text last end = AreGroups (parsed first text).groups × (end ≤ length text)
    × (take end text ≡ journal_text first (parsed first text).groups)
    × (last ≡ sum_after first (parsed first text).groups)

rests_so : (first text last behind : List ℕ) (end : ℕ) (groups : List (List (List ℕ)))
    → AreGroups groups → text ≡ journal_text first groups ++ behind
    → end ≡ journal_end first groups → last ≡ sum_after first groups
    → (parsed first text).groups ≡ groups → Rests first text last end
rests_so first text last behind end groups each is ends last_is found_is =
    rw found_is (
      each,
      (let size = ap length is
          ∙ length-append (journal_text first groups) behind in omega (arith, size, ends)),
      ap (take end) is ∙ take_at (journal_text first groups) behind end (sym ends),
      last_is,
    )

found_so : (groups : List (List (List ℕ))) (read : Found) (damage : Bool)
    → read ≡ with_groups groups (found_none damage) → read.groups ≡ groups
found_so groups read damage is = ap (λ (f : Found). f.groups) is ∙ append-nil groups

whole_text : (first text : List ℕ) → parsed first text ≡ parsed first (text ++ [])
whole_text first text = ap (parsed first) (sym (append-nil text))

module _ (first text last : List ℕ) (end : ℕ) (sum : List ℕ) (once : Bool) (at : ℕ) (head : List ℕ)
    (torn : Bool) (hasher : Sha256) where
  over_all : (r : ReadSo first text last end sum once true at head torn hasher)
      → parsed first text ≡ with_groups r.groups (found_none false)
  over_all r =
      let o : Over first text end r.piece r.groups = r.stage in
      whole_text first text ∙ o.holds []
      ∙ ap (λ (ls : List (List ℕ)). with_groups r.groups (found_none (list_any (is_stray end) ls)))
      (ap whole_lines (append-nil r.piece) ∙ whole_lines-none r.piece r.whole)

  going_all : (r : ReadSo first text last end sum once false at head torn hasher)
      → parsed first text ≡ with_groups r.groups (found_none (is_overlong head))
  going_all r =
      let g : Going first text last end sum once r.piece hasher r.groups = r.stage in
      whole_text first text ∙ g.holds []
      ∙ ap (λ (t : List ℕ). with_groups r.groups
      (found_in last end g.waiting once (whole_lines t) (last_piece t))) (append-nil r.piece)
      ∙ ap (λ (ls : List (List ℕ)). with_groups r.groups
      (found_in last end g.waiting once ls (last_piece r.piece)))
      (whole_lines-none r.piece r.whole)
      ∙ ap (λ (p : List ℕ). with_groups r.groups (found_none (is_overlong p)))
      (last_piece-none r.piece r.whole)
      ∙ ap (λ (d : Bool). with_groups r.groups (found_none d))
      (sym (head_overlong head r.piece r.starts))

  pub over_groups : (r : ReadSo first text last end sum once true at head torn hasher)
      → (parsed first text).groups ≡ r.groups
  over_groups r = found_so r.groups (parsed first text) false (over_all r)

  pub going_groups : (r : ReadSo first text last end sum once false at head torn hasher)
      → (parsed first text).groups ≡ r.groups
  going_groups r = found_so r.groups (parsed first text) (is_overlong head) (going_all r)

  pub over_ends : ReadSo first text last end sum once true at head torn hasher
      → ((parsed first text).is_damaged ≡ false) × Rests first text last end
  over_ends r =
      let o : Over first text end r.piece r.groups = r.stage in (
        ap (λ (f : Found). f.is_damaged)
            (over_all r),
        rests_so first text last o.behind end r.groups r.each o.is r.ends r.last_is
            (found_so r.groups (parsed first text) false (over_all r)),
      )

  pub going_ends : is_overlong head ≡ false
      → ReadSo first text last end sum once false at head torn hasher
      → ((parsed first text).is_damaged ≡ false) × Rests first text last end
  going_ends short r =
      let g : Going first text last end sum once r.piece hasher r.groups = r.stage in
      let is : parsed first text ≡ with_groups r.groups (found_none false) = going_all r
      ∙ ap (λ (d : Bool). with_groups r.groups (found_none d)) short in (
        ap (λ (f : Found). f.is_damaged) is,
        rests_so first text last
            (lines_text (held last end g.waiting once) ++ r.piece) end r.groups r.each g.is r.ends
            r.last_is (found_so r.groups (parsed first text) false is),
      )

  pub long_end : is_overlong head ≡ true
      → ReadSo first text last end sum once false at head torn hasher
      → (parsed first text).is_damaged ≡ true
  long_end long r = ap (λ (f : Found). f.is_damaged) (going_all r) ∙ long
