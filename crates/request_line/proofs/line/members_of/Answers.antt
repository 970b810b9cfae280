use Rattle.std.proofs.Common.{◌≡◌, refl, [], ◌∷◌, ◌++◌, string_bytes, sym, ap, ◌∙◌, subst, append_assoc}
use Rattle.std.specs.List.Sorted.{IsStrictlySortedBy}
use Rattle.std.specs.Map.{keys_of}
use Rattle.std.specs.String.{string_cmp}
use Rattle.std.specs.List.{list_all}
use Rattle.serde_json.specs.Data.{no_members, put}
use Rattle.serde_json.specs.View.{view}
use Rattle.serde_json.proofs.Views.{Entry, put_last}
use Rattle.request_line.specs.LineMembers.{LineMember, object_of, fits}
use Rattle.request_line.specs.declared.members.LineValue.TheVariants.{Any}
use Rattle.request_line.proofs.LineMembers.{put_all-push, fits_push}
use Rattle.request_line.proofs.line.members_of.Goals as goal

-- each turn puts one member behind those before
pub loop-name-preserved : goal.loop-name-preserved
loop-name-preserved c =
    let l = c.loop-name in
    let done = l.invariant.0 in
    let e : Entry = (c.in-Some.name.now, c.in-Some.value.now) in
    let m : LineMember = (c.as_str.result, Any c.in-Some.value) in
    let left = c.next.new.self in
    let all : c.args.members.now.entries ≡ done ++ e ∷ left =
    l.invariant.1 ∙ ap (λ es. done ++ es) c.in-Some.ensures.steps in
    let last =
    put_last done e left (subst (λ es. IsStrictlySortedBy string_cmp (keys_of es)) all c.iter-name-items.ensures.ordered) in
    let named : c.as_str.result.now ≡ string_bytes e.0 = c.as_str.ensures.value in (
      done ++ e ∷ [],
      all ∙ sym (append_assoc done (e ∷ []) left),
      ap object_of c.in_ok-push.ensures.items ∙ put_all-push no_members l.listed.items m
          ∙ ap (λ k. put k (view e.1) (object_of l.listed.items)) named
          ∙ ap (put (string_bytes e.0) (view e.1)) l.invariant.2 ∙ last,
      λ row. ap (list_all (fits row)) c.in_ok-push.ensures.items
          ∙ fits_push row l.listed.items m done e named refl (l.invariant.3 row),
    )
