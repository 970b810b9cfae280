-- On the members of a line, and on the grammar's loop over members.
use Rattle.std.proofs.Common.{◌≡◌, refl, sym, ap, ◌∙◌, ℕ, ◌+◌, ◌-◌, ◌<◌, ◌≤◌, ◌&&◌, List, [], ◌∷◌, ◌++◌, length, map, take, get_or, arith, Bor, Bool, true, false, true≢false, Option, Some, None, option_map, option_and_then, IfSome, IfOk, Result, Ok, Err, if◌then◌else◌, Ordering, Less, Equal, Greater, nat_cmp, is_eq, bytes_eq, string_bytes}
use Rattle.std.specs.Cmp.Lexicographic.{slice_cmp}
use Rattle.std.specs.Ordering.{match_ordering, ordering_reverse, is_gt}
use Rattle.std.specs.List.{list_all}
use Rattle.std.proofs.lemmas.Cmp.{nat_list_cmp_total}
use Rattle.std.proofs.lemmas.Map.Text.{is_eq-slice_cmp}
use Rattle.std.proofs.lemmas.List.{take_more}
use Rattle.std.proofs.lemmas.Slice.Eq.{bytes_eq-Decides}
use Rattle.json.specs.Token.{Token}
use Rattle.json.specs.Json as json
use Rattle.json.specs.Json.{Parse, parse_map, read_key, members, value, if_last}
use Rattle.json.proofs.Grammar.{left, members_end, members_more, value_is, value-begin_object, skip_value-shorter}
use Rattle.serde_json.specs.Data.{Data, object, Members, no_members, member, string, put}
use Rattle.serde_json.specs.Find.{get_member}
use Rattle.serde_json.specs.Read.{of_json, of_members, converted}
use Rattle.serde_json.specs.View.{view, members_view}
use Rattle.serde_json.proofs.Views.{Entry, get_member-put, get_member-put_other}
use Rattle.meta_types.specs.Text.{Text}
use Rattle.meta_types.specs.declared.fault.Fault.{Fault}
use Rattle.request_line.specs.Members.{pairs_from}
use Rattle.request_line.specs.Table.{Members as OpRow, members_of, command_of}
use Rattle.request_line.specs.Lines.{are_texts, is_listed, has_kind, are_listed, has_required, op_in, command_with, command_by, command_in}
use Rattle.request_line.specs.LineMembers.{LineMember, texts_object, value_of, put_all, object_of, is_behind, AllBelow, IsRising, fits, command_as, command_by_all}
use Rattle.request_line.specs.declared.command.Command.{Command}
use Rattle.request_line.specs.declared.op.Op.{Op}

and-left : (a b : Bool) → (a && b) ≡ true → a ≡ true
and-left true b e = refl
and-left false b e = absurd (true≢false (sym e))

and-right : (a b : Bool) → (a && b) ≡ true → b ≡ true
and-right true b e = e
and-right false b e = absurd (true≢false (sym e))

-- one more
pub put_all-push : (found : Members) (ms : List LineMember) (m : LineMember)
    → put_all found (ms ++ m ∷ []) ≡ put m.0.now (value_of m.1) (put_all found ms)
put_all-push found [] m = refl
put_all-push found (n ∷ ms) m = put_all-push (put n.0.now (value_of n.1) found) ms m

-- ---- the grammar's loop, a turn at a time, under the conversion to data

abbrev pick : {A : Type 0} → A → Option A → A
pick d None = d
pick d (Some a) = a

found : {A B : Type 0} (a : A) (r s : List Token) (x : Option B) (b : B)
    → option_map {U = B × List Token} (λ y. (y, r)) x ≡ Some (b, s) → (r ≡ s) × (x ≡ Some b)
found a r s None b e = absurd (cc)
found a r s (Some y) b e =
    let same = ap (pick (y, r)) e in (ap (λ p. p.1) same, ap (λ p. Some p.0) same)

pub converted_some : {A B : Type 0} (f : A → Option B) (o : Option (A × List Token)) (b : B) (r : List Token)
    → converted f o ≡ Some (b, r) → (a : A) × (o ≡ Some (a, r)) × (f a ≡ Some b)
converted_some f None b r e = absurd (cc)
converted_some f (Some p) b r e =
    let both = found p.0 p.1 r (f p.0) b e in (p.0, ap (λ s. Some (p.0, s)) both.0, both.1)

with_member : (k : List ℕ) (j : json.Json) (d : Data) (old : Members) → of_json j ≡ Some d
    → (o : Option (json.Members × List Token))
    → converted (λ ms. of_members ms old) (parse_map (json.member k j) o)
    ≡ converted (λ ms. of_members ms (put k d old)) o
with_member k j d old e None = refl
with_member k j d old e (Some p) = rw e

module _ (p : Parse json.Json) where
  -- the members that are left, over those that were found
  abbrev pub over_members : ℕ → List Token → Members → Option (Members × List Token)
  over_members n ts found = converted (λ ms. of_members ms found) (members p n ts)

  pub member_read : (old : Members) (n : ℕ) (k : List ℕ) (ts s r : List Token) (d : Data) → 0 < n
      → read_key ts ≡ Some (Some k, s) → converted of_json (p s) ≡ Some (d, r)
      → converted (λ ms. of_members ms old) (members p n ts)
      ≡ converted (λ ms. of_members ms (put k d old)) (members p (n - 1) r)
  member_read old n k ts s r d some key e =
      let j = converted_some of_json (p s) d r e in
      ap (converted (λ ms. of_members ms old)) (members_more p n k ts s r j.0 some key j.1)
      ∙ with_member k j.0 d old j.2 _

  pub members_over : (old : Members) (n : ℕ) (ts r : List Token) → length ts ≤ n
      → read_key ts ≡ Some (None, r)
      → converted (λ ms. of_members ms old) (members p n ts) ≡ Some (old, r)
  members_over old n ts r enough e =
      ap (converted (λ ms. of_members ms old)) (members_end p n ts r enough e)

twice : {A B : Type 0} (g : A → B) (r : List Token) (x : Option A)
    → option_map (λ b. (b, r)) (option_map g x) ≡ parse_map g (option_map (λ a. (a, r)) x)
twice g r None = refl
twice g r (Some a) = refl

converted-object : (o : Option (json.Members × List Token))
    → converted of_json (parse_map json.object o)
    ≡ parse_map object (converted (λ ms. of_members ms no_members) o)
converted-object None = refl
converted-object (Some p) = twice object p.1 (of_members p.0 no_members)

-- a text is read as one
pub text_read : (depth : ℕ) (text : Text) (s r : List Token) → s ≡ Token.string text ∷ r
    → converted of_json (value depth s) ≡ Some (string text, r)
text_read depth text s r is = ap (converted of_json) (ap (value depth) is ∙ value_is depth _)

-- an object is read as its members are
pub object_read : (depth : ℕ) (ms : Members) (s ts r : List Token) → 0 < depth
    → s ≡ Token.begin_object ∷ ts
    → converted (λ ms. of_members ms no_members) (members (value (depth - 1)) (length ts) ts)
    ≡ Some (ms, r)
    → converted of_json (value depth s) ≡ Some (object ms, r)
object_read depth ms s ts r some is read =
    ap (converted of_json) (ap (value depth) is ∙ value-begin_object depth ts some)
    ∙ converted-object (members (value (depth - 1)) (length ts) ts) ∙ ap (parse_map object) read

-- a value that was read took a token
pub read_shorter : (depth : ℕ) (s r : List Token) (d : Data)
    → converted of_json (value depth s) ≡ Some (d, r) → length r < length s
read_shorter depth s r d e =
    let j = converted_some of_json (value depth s) d r e in skip_value-shorter depth s r (ap left j.1)

abbrev whole : Option (json.Json × List Token) → Option Data
whole o = option_and_then of_json (option_and_then (λ p. if_last p.0 p.1) o)

pub whole_read : (o : Option (json.Json × List Token)) (d : Data)
    → converted of_json o ≡ Some (d, []) → whole o ≡ Some d
whole_read o d e = let j = converted_some of_json o d [] e in ap whole j.1 ∙ j.2

-- ---- names that rise

-- what stands behind all names goes last
pub put_behind : (ts : List (Bor Text × Bor Text)) (t : Bor Text × Bor Text) → AllBelow t.0.now ts
    → put t.0.now (string t.1.now) (texts_object ts) ≡ texts_object (ts ++ t ∷ [])
put_behind [] t below = refl
put_behind (u ∷ ts) t below =
    rw below.0 (ap (member u.0.now (string u.1.now)) (put_behind ts t below.1))

AllBelow-push : (name : Text) (ts : List (Bor Text × Bor Text)) (t : Bor Text × Bor Text)
    → AllBelow name ts → slice_cmp nat_cmp name t.0.now ≡ Greater → AllBelow name (ts ++ t ∷ [])
AllBelow-push name [] t below above = (above, tt)
AllBelow-push name (u ∷ ts) t below above = (below.0, AllBelow-push name ts t below.1 above)

-- what is_gt tells
pub greater : (o : Ordering) → is_gt o ≡ true → o ≡ Greater
greater Less e = absurd (true≢false (sym e))
greater Equal e = absurd (true≢false (sym e))
greater Greater e = refl

-- what stands behind a name that stands behind a third
pub behind_both : (x y z : Text) → slice_cmp nat_cmp x y ≡ Greater → slice_cmp nat_cmp y z ≡ Greater
    → slice_cmp nat_cmp x z ≡ Greater
behind_both x y z first second =
    let below_first : slice_cmp nat_cmp y x ≡ Less =
    nat_list_cmp_total.antisymm y x ∙ ap ordering_reverse first in
    let below_second : slice_cmp nat_cmp z y ≡ Less =
    nat_list_cmp_total.antisymm z y ∙ ap ordering_reverse second in
    nat_list_cmp_total.antisymm x z
    ∙ ap ordering_reverse (nat_list_cmp_total.trans z y x below_second below_first)

still_behind : (last : Option (Bor Text)) (k name : Text) → is_behind last k ≡ true
    → slice_cmp nat_cmp name k ≡ Greater → is_behind last name ≡ true
still_behind None k name behind above = refl
still_behind (Some l) k name behind above =
    ap is_gt (behind_both name k l.now above (greater _ behind))

-- one more name, behind the last
pub rises : (last : Option (Bor Text)) (ts : List (Bor Text × Bor Text)) (t : Bor Text × Bor Text)
    → IsRising last ts → is_behind last t.0.now ≡ true → IsRising (Some t.0) (ts ++ t ∷ [])
rises last ts t rising behind = λ name above.
    let over = greater (slice_cmp nat_cmp name t.0.now) above in
    AllBelow-push name ts t (rising name (still_behind last t.0.now name behind over)) over

-- the pairs of an object of texts are the texts
pub pairs_from-texts : (ts : List (Bor Text × Bor Text))
    → pairs_from (texts_object ts) ≡ map (λ t. (t.0.now, t.1.now)) ts
pairs_from-texts [] = refl
pairs_from-texts (t ∷ ts) = ap (λ ps. (t.0.now, t.1.now) ∷ ps) (pairs_from-texts ts)

-- an object of texts has texts alone
pub are_texts-texts : (ts : List (Bor Text × Bor Text)) → are_texts (texts_object ts) ≡ true
are_texts-texts [] = refl
are_texts-texts (t ∷ ts) = are_texts-texts ts

-- ---- look-ups

other_name : (k q : Text) → bytes_eq k q ≡ false → q ≡ k → ⊥
other_name k q differ same = true≢false (sym ((bytes_eq-Decides k q).1 (sym same)) ∙ differ)

found_at : (b : Bool) (k q : Text) (d : Data) (ms : Members) → bytes_eq k q ≡ b
    → get_member q (put k d ms) ≡ (if b then Some d else get_member q ms)
found_at true k q d ms is = rw (← (bytes_eq-Decides k q).0 is) (get_member-put k d ms)
found_at false k q d ms is = get_member-put_other q k d ms (other_name k q is)

-- what is found at a name, where one more is put
get_member-put_any : (k q : Text) (d : Data) (ms : Members)
    → get_member q (put k d ms) ≡ (if bytes_eq k q then Some d else get_member q ms)
get_member-put_any k q d ms = found_at _ k q d ms refl

-- what the members say at a name
abbrev pub found_in : Text → List LineMember → Option Data
found_in q ms = get_member q (object_of ms)

-- the last of the first members
last_of : (ms : List LineMember) (left : ℕ) (m : LineMember) → 0 < left → left ≤ length ms
    → m ≡ get_or ms (left - 1) m → take left ms ≡ take (left - 1) ms ++ m ∷ []
last_of ms left m some within is =
    let next : left ≡ left - 1 + 1 = omega (arith, some) in
    let inside : left - 1 < length ms = omega (arith, some, within) in
    ap (λ n. take n ms) next ∙ take_more ms (left - 1) m inside
    ∙ ap (λ x. take (left - 1) ms ++ x ∷ []) (sym is)

-- what is found among the first members, by the last of them
pub found_at_last : (q : Text) (ms : List LineMember) (left : ℕ) (m : LineMember) → 0 < left
    → left ≤ length ms → m ≡ get_or ms (left - 1) m
    → found_in q (take left ms)
    ≡ (if bytes_eq m.0.now q then Some (value_of m.1) else found_in q (take (left - 1) ms))
found_at_last q ms left m some within is =
    let before = take (left - 1) ms in
    ap (found_in q) (last_of ms left m some within is)
    ∙ ap (get_member q) (put_all-push no_members before m)
    ∙ get_member-put_any m.0.now q (value_of m.1) (object_of before)

-- ---- members that fit

fits_at : (o : Ordering) (row : OpRow) (k l : Text) (d e : Data) (ms : Members)
    → slice_cmp nat_cmp k l ≡ o → (is_listed row k && has_kind k d) ≡ true
    → are_listed row (member l e ms) ≡ true → are_listed row (put k d ms) ≡ true
    → are_listed row (match_ordering o (member k d (member l e ms)) (member l d ms) (member l e (put k d ms)))
    ≡ true
fits_at Less row k l d e ms is one all later = rw (one, all) refl
fits_at Equal row k l d e ms is one all later =
    let same : k ≡ l = (bytes_eq-Decides k l).0 (sym (is_eq-slice_cmp k l) ∙ ap is_eq is) in
    rw (← same, one) (and-right _ _ all)
fits_at Greater row k l d e ms is one all later = rw later (ap (λ b. b && true) (and-left _ _ all))

are_listed-put : (row : OpRow) (k : Text) (d : Data) (ms : Members)
    → (is_listed row k && has_kind k d) ≡ true → are_listed row ms ≡ true
    → are_listed row (put k d ms) ≡ true
are_listed-put row k d no_members one all = rw one refl
are_listed-put row k d (member l e ms) one all =
    fits_at _ row k l d e ms refl one all (are_listed-put row k d ms one (and-right _ _ all))

-- members that all fit make an object whose members do
are_listed-all : (row : OpRow) (before : Members) (ms : List LineMember)
    → are_listed row before ≡ true → list_all (fits row) ms ≡ true
    → are_listed row (put_all before ms) ≡ true
are_listed-all row before [] first all = first
are_listed-all row before (m ∷ ms) first all =
    are_listed-all row (put m.0.now (value_of m.1) before) ms (are_listed-put row m.0.now (value_of m.1) before (and-left _ _ all) first) (and-right _ _ all)

push_and : (b c d e : Bool) → c ≡ (d && e) → (b && c) ≡ ((b && d) && e)
push_and true c d e is = is
push_and false c d e is = refl

and_true : (b : Bool) → (b && true) ≡ b
and_true true = refl
and_true false = refl

all_push : (row : OpRow) (ms : List LineMember) (m : LineMember)
    → list_all (fits row) (ms ++ m ∷ []) ≡ (list_all (fits row) ms && fits row m)
all_push row [] m = and_true (fits row m)
all_push row (n ∷ ms) m = push_and (fits row n) _ _ _ (all_push row ms m)

listed_push : (row : OpRow) (es : List Entry) (e : Entry)
    → are_listed row (members_view (es ++ e ∷ []))
    ≡ (are_listed row (members_view es) && (is_listed row (string_bytes e.0) && has_kind (string_bytes e.0) (view e.1)))
listed_push row [] e =
    and_true (is_listed row (string_bytes e.0) && has_kind (string_bytes e.0) (view e.1))
listed_push row (x ∷ es) e =
    push_and (is_listed row (string_bytes x.0) && has_kind (string_bytes x.0) (view x.1)) _ _ _ (listed_push row es e)

-- one more member of a map
pub fits_push : (row : OpRow) (ms : List LineMember) (m : LineMember) (es : List Entry) (e : Entry)
    → m.0.now ≡ string_bytes e.0 → value_of m.1 ≡ view e.1
    → list_all (fits row) ms ≡ are_listed row (members_view es)
    → list_all (fits row) (ms ++ m ∷ []) ≡ are_listed row (members_view (es ++ e ∷ []))
fits_push row ms m es e named is before =
    all_push row ms m ∙ ap (λ b. b && fits row m) before
    ∙ ap (λ k. are_listed row (members_view es) && (is_listed row k && has_kind k (value_of m.1))) named
    ∙ ap (λ d. are_listed row (members_view es) && (is_listed row (string_bytes e.0) && has_kind (string_bytes e.0) d)) is
    ∙ sym (listed_push row es e)

-- ---- what they ask for

pub command_by_all-no_op : (ms : List LineMember) → op_in (object_of ms) ≡ None
    → command_by_all ms ≡ None
unfolding command_by_all
command_by_all-no_op ms named = ap (option_and_then (command_as ms)) named

pub command_by_all-misfit : (ms : List LineMember) (op : Op) → op_in (object_of ms) ≡ Some op
    → (list_all (fits (members_of op)) ms && has_required (members_of op) (object_of ms)) ≡ false
    → command_by_all ms ≡ None
unfolding command_by_all
command_by_all-misfit ms op named misfit = ap (option_and_then (command_as ms)) named
    ∙ rw misfit refl

pub command_by_all-op : (ms : List LineMember) (op : Op) → op_in (object_of ms) ≡ Some op
    → (list_all (fits (members_of op)) ms && has_required (members_of op) (object_of ms)) ≡ true
    → command_by_all ms ≡ Some (command_of op (object_of ms))
unfolding command_by_all
command_by_all-op ms op named fit = ap (option_and_then (command_as ms)) named ∙ rw fit refl

still_some : (b c r : Bool) (x a : Command) → (b ≡ true → c ≡ true)
    → (if b && r then Some x else None) ≡ Some a → (if c && r then Some x else None) ≡ Some a
still_some true c r x a both e = rw (both refl) e
still_some false c r x a both e = absurd (cc)

right_of : (ms : List LineMember) (o : Option Op) (a : Command)
    → option_and_then (command_as ms) o ≡ Some a
    → option_and_then (command_with (object_of ms)) o ≡ Some a
right_of ms None a e = e
right_of ms (Some op) a e =
    still_some _ _ _ _ a (are_listed-all (members_of op) no_members ms refl) e

-- what members ask for that all fit, their object asks for
command_by_all-right : (ms : List LineMember) (a : Command) → command_by_all ms ≡ Some a
    → command_by (object_of ms) ≡ Some a
unfolding command_by_all command_by
command_by_all-right ms a e = right_of ms (op_in (object_of ms)) a e

module _ (ms : List LineMember) (object : Members) (is : object_of ms ≡ object) (listed : (row : OpRow) → list_all (fits row) ms ≡ are_listed row object) where
  same_of : (o : Option Op)
      → option_and_then (command_as ms) o ≡ option_and_then (command_with object) o
  same_of None = refl
  same_of (Some op) = rw (listed (members_of op), is) refl

  -- members that fit as those of the object do ask for what it asks for
  pub command_by_all-same : command_by_all ms ≡ command_by object
  unfolding command_by_all command_by
  command_by_all-same =
      same_of (op_in (object_of ms)) ∙ ap (λ d. option_and_then (command_with object) (op_in d)) is

pub plain_asks : (r : Result (Option Command) Fault) (line : List ℕ) (ms : List LineMember)
    → command_in line ≡ command_by (object_of ms) → IfOk r (λ found. found ≡ command_by_all ms)
    → IfOk r (λ found. IfSome found (λ command. command_in line ≡ Some command))
plain_asks (Ok (Some command)) line ms is found = is ∙ command_by_all-right ms command (sym found)
plain_asks (Ok None) line ms is found = tt
plain_asks (Err fault) line ms is found = tt
