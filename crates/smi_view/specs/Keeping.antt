-- Nothing in a picture goes back.
use Rattle.std.specs.Prelude.{ℕ}
use Rattle.smi_grant.specs.Record as grants
use Rattle.smi_grant.specs.declared.state.Version.{Version}
use Rattle.smi_view.specs.Newest.{ShowsAtLeast, StandsAtLeast}
use Rattle.smi_view.specs.Pictured.{Pictured, domain_of, object_of}

-- Of each object and of each domain at least that is had which was had before.
pub record KeepsUp (before after : Pictured) : Type 0 where
  pub objects : (object : ℕ) (version : Version) → ShowsAtLeast version (object_of before object)
      → ShowsAtLeast version (object_of after object)
  pub domains : (domain : ℕ) (told : grants.Standing) → StandsAtLeast told (domain_of before domain)
      → StandsAtLeast told (domain_of after domain)
