-- A refusal of a layer below is the request's own.
use Rattle.std.proofs.Common.{◌≡◌, Bool, true, false, not, ◌&&◌, List, [], ◌∷◌, Option, refl, sym, subst, true≢false}
use Rattle.std.specs.Prelude.{Result, Ok, Err, is_none, ◌||◌}
use Rattle.std.specs.Result.{IsErrAnd}
use Rattle.meta_types.specs.Text.{Text}
use Rattle.meta_types.specs.Labels.{LabelList}
use Rattle.meta_types.specs.Rows.{State}
use Rattle.meta_types.specs.Changes.{all_of}
use Rattle.meta_types.specs.Faults.{Refuses, OnlyRefuses, least_of, unless}
use Rattle.meta_types.specs.Ops.{Outcome, least_fault, labelled, done}
use Rattle.meta_types.specs.declared.reply.Reply.{Reply}
use Rattle.meta_types.specs.declared.fault.Fault.{Fault}
use Rattle.meta_types.specs.declared.fault.Fault.TheVariants.{InvalidArgument, NotFound, AlreadyExists, FailedPrecondition, OutOfMemory}
use Rattle.request_core.specs.Follows.{Store, FailsExactly, FollowsExactly, ReadsTexts, left_by, reading}
use Rattle.request_core.specs.declared.refusal.Refusal.{Refusal}
use Rattle.request_core.specs.declared.refusal.Refusal.TheVariants.{Reading, By}

abbrev pub err_of : (X : Type 0) → Fault → Result X Fault
err_of X f = Err f

-- a text that isn't allowed, or memory ran out
pub not_read : (X Y : Type 0) (fault : Fault) (allowed : Bool) (value : Y) (r : Refusal) → r ≡ reading fault → Refuses (err_of X fault) (unless allowed InvalidArgument) → ReadsTexts {X = Y} (Err r) allowed value
not_read X Y fault true value r is h =
    let same : fault ≡ OutOfMemory = h in
    rw (is, same) tt
not_read X Y fault false value r is h =
    let same : fault ≡ InvalidArgument = h in
    rw (is, same) (refl, refl)

both_false : (a b rest : Bool) → (a && (b && true)) ≡ false → (a && (b && rest)) ≡ false
both_false true true rest e = absurd (true≢false e)
both_false true false rest e = refl
both_false false b rest e = refl

less_read : {X Y : Type 0} (r : Refusal) (a b : Bool) (rest : List Bool) (x : X) (y : Y)
    → ReadsTexts {X = X} (Err r) (all_of (a ∷ b ∷ [])) x
    → ReadsTexts {X = Y} (Err r) (all_of (a ∷ b ∷ rest)) y
less_read Reading a b rest x y h = tt
less_read (By fault) a b rest x y h = (h.0, both_false a b (all_of rest) h.1)

-- where the first two texts aren't read, none of the others is
pub first_unread : {X Y : Type 0} (result : Result Y Refusal) (r : Refusal) (a b : Bool)
    (rest : List Bool) (x : X) (y : Y) → IsErrAnd result (λ other. other ≡ r)
    → ReadsTexts {X = X} (Err r) (all_of (a ∷ b ∷ [])) x
    → ReadsTexts result (all_of (a ∷ b ∷ rest)) y
first_unread (Ok z) r a b rest x y same h = absurd same
first_unread {X = X} {Y = Y} (Err other) r a b rest x y same h =
    subst (λ (o : Refusal). ReadsTexts {X = Y} (Err o) (all_of (a ∷ b ∷ rest)) y) (sym same)
    (less_read {X = X} {Y = Y} r a b rest x y h)

-- what a layer below refuses by these tests
pub refused_exactly : (old new : Store) (f : Fault) (invalid missing there forbidden : Bool) → Refuses (err_of (Unit {0}) f) (least_of invalid missing there forbidden) → new ≡ old
    → FailsExactly f (least_of invalid missing there forbidden) × (new ≡ left_by f old)
refused_exactly old new f true m t d r same = rw r (refl, same)
refused_exactly old new f false true t d r same = rw r (refl, same)
refused_exactly old new f false false true d r same = rw r (refl, same)
refused_exactly old new f false false false true r same = rw r (refl, same)
refused_exactly old new f false false false false r same = rw r (refl, same)

-- the same of a call that takes no memory
pub only_exactly : (old new : Store) (f : Fault) (invalid missing there forbidden : Bool) → OnlyRefuses (err_of (Unit {0}) f) (least_of invalid missing there forbidden) → new ≡ old
    → FailsExactly f (least_of invalid missing there forbidden) × (new ≡ left_by f old)
only_exactly old new f true m t d r same = let e : InvalidArgument ≡ f = cc in rw (← e) (refl, same)
only_exactly old new f false true t d r same = let e : NotFound ≡ f = cc in rw (← e) (refl, same)
only_exactly old new f false false true d r same = let e : AlreadyExists ≡ f = cc in rw (← e) (refl, same)
only_exactly old new f false false false true r same = let e : FailedPrecondition ≡ f = cc in rw (← e) (refl, same)
only_exactly old new f false false false false r same = absurd cc

-- a request is refused as a layer below refused it
pub refused_as : (old : Store) (o : Outcome) (r : Result Reply Refusal) (new : Store) (f : Fault) → r ≡ Err (By f) → Refuses (err_of (Unit {0}) f) (least_fault o) → new ≡ old → FollowsExactly old o r new
refused_as old o r new f is h same = rw is (refused_exactly old new f o.invalid o.missing o.there o.forbidden h same)

-- the same of a layer below that takes no memory
pub only_refused_as : (old : Store) (o : Outcome) (r : Result Reply Refusal) (new : Store) (f : Fault) → r ≡ Err (By f) → OnlyRefuses (err_of (Unit {0}) f) (least_fault o) → new ≡ old → FollowsExactly old o r new
only_refused_as old o r new f is h same = rw is (only_exactly old new f o.invalid o.missing o.there o.forbidden h same)

-- a request that puts a label is refused as the layer below refused it
pub label_refused : {A : Type 0} (labels_in : A → LabelList) (old : Store) (allowed : List Bool) (key value : Text) (found : Option A) (after : State) (r : Result Reply Refusal) (new : Store) (f : Fault) → r ≡ Err (By f) → all_of allowed ≡ true
    → Refuses (err_of (Unit {0}) f) (least_of (not (all_of (labelled labels_in key value found))) (is_none found) false false) → new ≡ old → FollowsExactly old (record (done after) { invalid = not (all_of allowed) || not (all_of (labelled labels_in key value found)); missing = is_none found }) r new
label_refused labels_in old allowed key value found after r new f is a h same =
    rw (is, a) (refused_exactly old new f (not (all_of (labelled labels_in key value found))) (is_none found) false false h same)
