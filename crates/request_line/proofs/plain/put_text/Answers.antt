use Rattle.std.proofs.Common.{◌≡◌, ◌∙◌, ◌<◌, sym, ap, subst, length, take, get_or, true, arith, bytes_eq}
use Rattle.request_line.specs.LineMembers.{texts_object, AllBelow}
use Rattle.request_line.proofs.Places.{Pair, Stops, put_over, put_new, is_same, compares_same, stands_before, rises_set, rises_insert}
use Rattle.request_line.proofs.plain.put_text.Goals as goal
use Rattle.request_line.proofs.plain.put_text.Goals.{else-place-len-via-then-place-len+else-eq, else-place-len-via-else-place-len}

-- the text is put over that of the same name
pub returns-then-eq-clause-ok : goal.returns-then-eq-clause-ok
returns-then-eq-clause-ok c =
    let ts = c.args.texts.now.items in
    let n = c.place_of-place.result in
    let u = c.index.result.now in
    let k = c.args.name.now in
    let l = (get_or ts n u).0.now in
    let found = ap (λ p. bytes_eq p.0.now k) (sym c.index.ensures) in
    let there : bytes_eq l k ≡ true = found ∙ sym c.eq.ensures ∙ c.if-eq.true in
    let within : n < length ts = omega (arith, c.if-place-len.true, c.len.ensures) in
    let value = c.as_slice.ensures.value in
    let before = subst (λ ts. AllBelow k (take n ts)) value c.place_of-place.ensures.below in
    let equal = compares_same k l there in
    put_over ts n (c.args.name, c.args.text) u before within (is_same k l there) equal

-- the names are the same as before
pub returns-then-eq-clause-rising : goal.returns-then-eq-clause-rising
returns-then-eq-clause-rising c =
    let ts = c.args.texts.now.items in
    let t : Pair = (c.args.name, c.args.text) in
    λ last inside rising. rises_set last ts c.place_of-place.result t inside rising

-- the text is put before the first name above it
pub returns-clause-ok : goal.returns-clause-ok
returns-clause-ok c =
    let ts = c.args.texts.now.items in
    let n = c.place_of-place.result in
    let k = c.args.name.now in
    let t : Pair = (c.args.name, c.args.text) in
    let value = c.as_slice.ensures.value in
    let stops = subst (Stops k n) value c.place_of-place.ensures.stops in
    let before = subst (λ ts. AllBelow k (take n ts)) value c.place_of-place.ensures.below in
    ap texts_object c.in_ok-insert.ensures.items
    ∙ elim c.else-place-len.branch [
      | else-place-len-via-then-place-len+else-eq w ↦
          let u = w.index.result.now in
          let found = ap (λ p. bytes_eq p.0.now k) (sym w.index.ensures) in
          let other = found ∙ sym w.eq.ensures ∙ w.if-eq.false in
          let less = stands_before k (get_or ts n u).0.now in
          put_new ts n t u before (λ within. less (stops u within) other)
      | else-place-len-via-else-place-len w ↦
          let outside = w.if-place-len.false in
          put_new ts n t t before (λ within. absurd (omega (arith, within, outside, c.len.ensures)))
    ]

-- the name that is put stands before the last one
pub returns-clause-rising : goal.returns-clause-rising
returns-clause-rising c =
    let ts = c.args.texts.now.items in
    let t : Pair = (c.args.name, c.args.text) in
    let n = c.place_of-place.result in
    λ last inside rising.
    rw c.in_ok-insert.ensures.items (rises_insert last ts n t inside rising)
