-- What a session wants to be told of.
use Rattle.std.specs.Prelude.{ℕ, ◌==◌, Bool, true, List, [], ◌∷◌, filter_map, Option, Some, None, if◌then◌else◌}
use Rattle.std.specs.List.{list_any}
use Rattle.smi_tree.specs.Hierarchy.{Hierarchy}
use Rattle.smi_tree.specs.Lookups.{object_named}
use Rattle.smi_session.specs.declared.tag.Tag.{Tag}

-- the tag of the line that asked for it, the objects: all, or these; and whether the numbers of commands are told
pub record SubscriptionState : Type 0 where
  pub tag : Option Tag
  pub objects : Option (List ℕ)
  pub has_numbers : Bool

abbrev pub includes_object : Option (List ℕ) → ℕ → Bool
includes_object None object = true
includes_object (Some objects) object = list_any (λ o. o == object) objects

abbrev pub includes : SubscriptionState → ℕ → Bool
includes s object = includes_object s.objects object

-- the tag after which a session is told of an object, if it wants to be
abbrev pub tag_for : Option SubscriptionState → ℕ → Option (Option Tag)
tag_for None object = None
tag_for (Some s) object = if includes s object then Some s.tag else None

-- the objects that these words name
abbrev pub objects_in : Hierarchy → List (List ℕ) → List ℕ
objects_in h names = filter_map (object_named h) names

-- all objects are meant if none is named
abbrev pub listed : List ℕ → Option (List ℕ)
listed [] = None
listed (object ∷ objects) = Some (object ∷ objects)

abbrev pub subscription_of : Hierarchy → Option Tag → Bool → List (List ℕ) → SubscriptionState
subscription_of h tag has_numbers names =
    record { tag = tag; objects = listed (objects_in h names); has_numbers = has_numbers }
