-- What contracts see of a picture.
use Rattle.std.specs.Prelude.{ℕ, ◌-◌, ◌==◌, if◌then◌else◌, List, slice_get, Option, None, option_and_then}
use Rattle.smi_view.specs.declared.sight.Hearing.{Hearing}
use Rattle.smi_view.specs.declared.sight.Sight.{Sight}

-- what is had of each object and of each domain, in tables by number from 1
pub record Pictured : Type 0 where
  pub objects : List (Option Sight)
  pub domains : List (Option Hearing)

abbrev pub at_number : {A : Type 0} → List (Option A) → ℕ → Option A
at_number table number = if number == 0 then None else option_and_then (λ x. x) (slice_get table (number - 1))

abbrev pub object_of : Pictured → ℕ → Option Sight
object_of p object = at_number p.objects object

abbrev pub domain_of : Pictured → ℕ → Option Hearing
domain_of p domain = at_number p.domains domain
