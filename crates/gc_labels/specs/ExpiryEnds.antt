-- What an answer says of an object's end. Ours, unless a source stands beside.
use Rattle.std.specs.Prelude.{Bool, true, false, Option, Some, None, ℤ}
use Rattle.gc_labels.specs.declared.ends.Expiry.{Expiry}
use Rattle.gc_labels.specs.declared.ends.Expiry.TheVariants.{Never, At, Unreadable}

-- the moment after which the object ends, if it does (containerd garbage-collection.md)
abbrev pub end_of : Expiry → Option ℤ
end_of Never = None
end_of (At instant) = Some instant.0
end_of Unreadable = None

-- there is an end that can't be read
abbrev pub is_unread : Expiry → Bool
is_unread Never = false
is_unread (At instant) = false
is_unread Unreadable = true
