-- Roots end and none begins as time goes on.
use Rattle.std.proofs.Common.{◌≡◌, ℕ, Bool, true, false, List, [], ◌∷◌, refl, ℤ, pos, negsuc, arith, Some, None, Option}
use Rattle.std.specs.Prelude.{◌&&◌, not, int_lt, int_le}
use Rattle.std.specs.Option.{option_map_or}
use Rattle.std.proofs.lemmas.Bool.{false≢true}
use Rattle.std.proofs.lemmas.Bool.Decides.{nat_tests}
use Rattle.meta_types.specs.CollectorLabels.{is_expired, expiry_of}
use Rattle.meta_types.specs.Rows.{Records}
use Rattle.meta_types.specs.Paths.{Thing, image, container, lease, ingest, content, snapshot, images_expire, is_root, IsPath}
use Rattle.meta_types.specs.declared.instant.Instant.{Instant}
use Rattle.meta_types.specs.declared.resource.Mode.TheVariants.{Full, Flat}

pub lt_le : (a b c : ℤ) → int_lt a b ≡ true → int_le b c ≡ true → int_lt a c ≡ true
lt_le (pos a) (pos b) (pos c) h k = grind (arith, nat_tests)
lt_le (pos a) (pos b) (negsuc c) h k = absurd (false≢true k)
lt_le (pos a) (negsuc b) c h k = absurd (false≢true h)
lt_le (negsuc a) (pos b) (pos c) h k = refl
lt_le (negsuc a) (pos b) (negsuc c) h k = absurd (false≢true k)
lt_le (negsuc a) (negsuc b) (pos c) h k = refl
lt_le (negsuc a) (negsuc b) (negsuc c) h k = grind (arith, nat_tests)

pub le_le : (a b c : ℤ) → int_le a b ≡ true → int_le b c ≡ true → int_le a c ≡ true
le_le (pos a) (pos b) (pos c) h k = grind (arith, nat_tests)
le_le (pos a) (pos b) (negsuc c) h k = absurd (false≢true k)
le_le (pos a) (negsuc b) c h k = absurd (false≢true h)
le_le (negsuc a) (pos b) (pos c) h k = refl
le_le (negsuc a) (pos b) (negsuc c) h k = absurd (false≢true k)
le_le (negsuc a) (negsuc b) (pos c) h k = refl
le_le (negsuc a) (negsuc b) (negsuc c) h k = grind (arith, nat_tests)

module _ (at later : ℤ) (after : int_le at later ≡ true) where
  expired_later : (end : Option ℤ) → option_map_or (λ expiry. int_lt expiry at) end false ≡ true → option_map_or (λ expiry. int_lt expiry later) end false ≡ true
  expired_later None h = h
  expired_later (Some expiry) h = lt_le expiry at later h after

  stays_earlier : (now then : Bool) → (now ≡ true → then ≡ true) → not then ≡ true → not now ≡ true
  stays_earlier true true up h = h
  stays_earlier true false up h = absurd (false≢true (up refl))
  stays_earlier false then up h = refl

  up_and : (p now then : Bool) → (now ≡ true → then ≡ true) → (p && now) ≡ true → (p && then) ≡ true
  up_and true now then up h = up h
  up_and false now then up h = h

  pub root_earlier : (profile : ℕ) (thing : Thing) → is_root profile later thing ≡ true → is_root profile at thing ≡ true
  root_earlier profile (image row) h =
      stays_earlier (images_expire profile && is_expired row.labels at) (images_expire profile && is_expired row.labels later)
      (up_and (images_expire profile) (is_expired row.labels at) (is_expired row.labels later) (expired_later (expiry_of row.labels))) h
  root_earlier profile (container row) h = h
  root_earlier profile (lease row) h = stays_earlier (is_expired row.labels at) (is_expired row.labels later) (expired_later (expiry_of row.labels)) h
  root_earlier profile (ingest row) h = own row.expires h
    where
      own : (end : Option Instant) → option_map_or (λ expiry. int_le later expiry.0) end false ≡ true → option_map_or (λ expiry. int_le at expiry.0) end false ≡ true
      own None h = h
      own (Some expiry) h = le_le at later expiry.0 after h
  root_earlier profile (content Full row) h = h
  root_earlier profile (content Flat row) h = h
  root_earlier profile (snapshot Full row) h = h
  root_earlier profile (snapshot Flat row) h = h

  -- a path at the later moment is a path at the earlier one too
  pub path_earlier : (records : Records) (last : Thing) (path : List Thing) → IsPath records later last path → IsPath records at last path
  path_earlier records last [] p = (p.0, root_earlier records.profile last p.1)
  path_earlier records last (before ∷ path) p = (p.0, p.1, path_earlier records before path p.2)
