use Rattle.std.proofs.Common.{◌≡◌, ◌∙◌, ◌+◌, ◌/◌, ◌==◌, true, false, List, length, map, sym, subst, arith, rules, ℤ, pos, to_z, of_z, get_or}
use Rattle.std.specs.Int.{w128}
use Rattle.std.proofs.lemmas.List.{take_rest}
use Rattle.meta_types.specs.Explanations.{Explains}
use Rattle.gc_graph.specs.Stored.{records_of}
use Rattle.explaining.specs.declared.thing_row.ThingRow.{ThingRow}
use Rattle.explaining.specs.ThingRows.{thing_of}
use Rattle.explaining.specs.LastPaths.{AreRising, IsLastOf}
use Rattle.explaining.specs.Questions.{asked_by}
use Rattle.explaining.proofs.LastPaths.{is_none, is_within, itself_there, rising_front, rising_back, of_no_end, front_is, middle_is, back_is}
use Rattle.explaining.proofs.TellPaths.{none_there, some_there}
use Rattle.explaining.proofs.explain_rows.+last_path.Goals as goal

-- there is no moment
pub returns-then-is_empty-clause-ok : goal.returns-then-is_empty-clause-ok
returns-then-is_empty-clause-ok n c =
    let records = records_of c.args.rows.now in
    let asked = asked_by c.args.question in
    let empty : (length c.args.ends.now == 0) ≡ true = search rules in
    subst (λ (l : List ThingRow). IsLastOf records asked c.args.ends.now (map thing_of l))
    (sym c.new.ensures.items) (of_no_end records asked c.args.ends.now (is_none _ empty))

-- the front rises, and the back
pub last_path-requires : goal.last_path-requires
last_path-requires n c = (
  search rules,
  (
    c.requires.graph,
    (
      c.requires.small,
      rising_front c.args.ends.now (length c.args.ends.now / 2) (omega arith) c.requires.order,
    ),
  ),
)

pub last_path-requires-2 : goal.last_path-requires-2
last_path-requires-2 n c = (
  search rules,
  (
    c.requires.graph,
    (
      c.requires.small,
      subst AreRising (sym (take_rest c.args.ends.now (length c.args.ends.now / 2 + 1)))
          (rising_back c.args.ends.now (length c.args.ends.now / 2 + 1) c.requires.order),
    ),
  ),
)

-- the path is that of the front
pub returns-then-has_none-clause-ok : goal.returns-then-has_none-clause-ok
returns-then-has_none-clause-ok n c =
    let records = records_of c.args.rows.now in
    let asked = asked_by c.args.question in
    let ends = c.args.ends.now in
    let middle = length ends / 2 in
    let moment = get_or ends middle (pos 0) in
    let read : to_z w128 (of_z w128 moment) ≡ moment = search rules in
    let filled : (length ends == 0) ≡ false = search rules in
    let within = is_within (length ends) filled in
    front_is records asked ends c.requires.order middle within moment
    (itself_there ends middle within) (map thing_of c.in_ok-path.path.items)
    (map thing_of c.in_ok-earlier.earlier.items)
    (none_there c.in_ok-path.path.items (sym c.has_none.ensures ∙ c.if-has_none.true))
    (subst (λ (at : ℤ). Explains records at asked (map thing_of c.in_ok-path.path.items)) read
    c.in_ok-path.ensures.ok) c.in_ok-earlier.ensures.ok

-- it is that of the middle
pub returns-then-has_none-2-clause-ok : goal.returns-then-has_none-2-clause-ok
returns-then-has_none-2-clause-ok n c =
    let records = records_of c.args.rows.now in
    let asked = asked_by c.args.question in
    let ends = c.args.ends.now in
    let middle = length ends / 2 in
    let moment = get_or ends middle (pos 0) in
    let read : to_z w128 (of_z w128 moment) ≡ moment = search rules in
    let filled : (length ends == 0) ≡ false = search rules in
    let within = is_within (length ends) filled in
    middle_is records asked ends c.requires.order middle within moment
    (itself_there ends middle within) (map thing_of c.in_ok-path.path.items)
    (map thing_of c.in_ok-later.later.items)
    (some_there c.in_ok-path.path.items (sym c.has_none.ensures ∙ c.if-has_none.false))
    (subst (λ (at : ℤ). Explains records at asked (map thing_of c.in_ok-path.path.items)) read
    c.in_ok-path.ensures.ok)
    (none_there c.in_ok-later.later.items (sym c.has_none-2.ensures ∙ c.if-has_none-2.true))
    (subst (λ (l : List ℤ). IsLastOf records asked l (map thing_of c.in_ok-later.later.items))
    (take_rest ends (middle + 1)) c.in_ok-later.ensures.ok)

-- it is that of the back
pub returns-clause-ok : goal.returns-clause-ok
returns-clause-ok n c =
    let records = records_of c.args.rows.now in
    let asked = asked_by c.args.question in
    let ends = c.args.ends.now in
    let middle = length ends / 2 in
    let moment = get_or ends middle (pos 0) in
    let read : to_z w128 (of_z w128 moment) ≡ moment = search rules in
    let filled : (length ends == 0) ≡ false = search rules in
    let within = is_within (length ends) filled in
    back_is records asked ends c.requires.order middle within moment
    (itself_there ends middle within) (map thing_of c.in_ok-path.path.items)
    (map thing_of c.in_ok-later.later.items)
    (some_there c.in_ok-path.path.items (sym c.has_none.ensures ∙ c.if-has_none.false))
    (subst (λ (at : ℤ). Explains records at asked (map thing_of c.in_ok-path.path.items)) read
    c.in_ok-path.ensures.ok)
    (some_there c.in_ok-later.later.items (sym c.has_none-2.ensures ∙ c.if-has_none-2.false))
    (subst (λ (l : List ℤ). IsLastOf records asked l (map thing_of c.in_ok-later.later.items))
    (take_rest ends (middle + 1)) c.in_ok-later.ensures.ok)
