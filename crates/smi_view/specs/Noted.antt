-- What is had after notes.
use Rattle.std.specs.Prelude.{ℕ, ◌≡◌, ◌≤◌, ◌⊎◌, ◌==◌, if◌then◌else◌, List, [], ◌∷◌, length, Option}
use Rattle.smi_grant.specs.Record as grants
use Rattle.smi_grant.specs.declared.state.Shown.{Shown}
use Rattle.smi_view.specs.Newest.{ShowsAtLeast, StandsAtLeast, shown_after, sight, told_after}
use Rattle.smi_view.specs.Pictured.{Pictured, domain_of, object_of}
use Rattle.smi_view.specs.declared.sight.Hearing.{Hearing}
use Rattle.smi_view.specs.declared.sight.Sight.{Sight}

-- a state was shown, or a record of a domain told, at this time
pub data Note : Type 0 where
  Showed : Shown → ℕ → Note
  Told : ℕ → grants.Standing → ℕ → Note

-- what one note makes of what is had of an object: one that is not about it, nothing
abbrev pub object_with : ℕ → Option Sight → Note → Option Sight
object_with object had (Showed shown now) = if object == shown.object then shown_after had shown now else had
object_with object had (Told domain told now) = had

abbrev pub domain_with : ℕ → Option Hearing → Note → Option Hearing
domain_with domain had (Showed shown now) = had
domain_with domain had (Told about told now) = if domain == about then told_after had told now else had

-- what all notes make of it, the first of them first
abbrev pub object_after : ℕ → Option Sight → List Note → Option Sight
object_after object had [] = had
object_after object had (note ∷ notes) = object_after object (object_with object had note) notes

abbrev pub domain_after : ℕ → Option Hearing → List Note → Option Hearing
domain_after domain had [] = had
domain_after domain had (note ∷ notes) = domain_after domain (domain_with domain had note) notes

-- All these notes are taken into a picture, the first of them first; such about what the picture does not have, not.
pub record TakesIn (notes : List Note) (before after : Pictured) : Type 0 where
  pub objects : (object : ℕ) → 1 ≤ object → object ≤ length before.objects
      → object_of after object ≡ object_after object (object_of before object) notes
  pub domains : (domain : ℕ) → 1 ≤ domain → domain ≤ length before.domains
      → domain_of after domain ≡ domain_after domain (domain_of before domain) notes
  pub object_count : length after.objects ≡ length before.objects
  pub domain_count : length after.domains ≡ length before.domains

-- what is had of an object is no older than each of its states in these notes
abbrev pub HasNewest : ℕ → List Note → Option Sight → Type 0
HasNewest object [] had = Unit {0}
HasNewest object (Showed shown now ∷ notes) had =
    (object ≡ shown.object → ShowsAtLeast shown.version had) × HasNewest object notes had
HasNewest object (Told domain told now ∷ notes) had = HasNewest object notes had

-- it is a state of this object in these notes, with its time
abbrev pub IsShownIn : ℕ → Sight → List Note → Type 0
IsShownIn object seen [] = ⊥
IsShownIn object seen (Showed shown now ∷ notes) =
    ((object ≡ shown.object) × (seen ≡ sight shown now)) ⊎ IsShownIn object seen notes
IsShownIn object seen (Told domain told now ∷ notes) = IsShownIn object seen notes

-- the record that is had of a domain has come as far as each of its records in these notes
abbrev pub HasFurthest : ℕ → List Note → Option Hearing → Type 0
HasFurthest domain [] had = Unit {0}
HasFurthest domain (Showed shown now ∷ notes) had = HasFurthest domain notes had
HasFurthest domain (Told about told now ∷ notes) had =
    (domain ≡ about → StandsAtLeast told had) × HasFurthest domain notes had

-- it is a record of this domain in these notes
abbrev pub IsToldIn : ℕ → grants.Standing → List Note → Type 0
IsToldIn domain r [] = ⊥
IsToldIn domain r (Showed shown now ∷ notes) = IsToldIn domain r notes
IsToldIn domain r (Told about told now ∷ notes) = ((domain ≡ about) × (r ≡ told)) ⊎ IsToldIn domain r notes
