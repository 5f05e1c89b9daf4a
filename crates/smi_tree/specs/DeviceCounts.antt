-- How many devices lie in each domain.
use Rattle.std.specs.Prelude.{ℕ, ◌≡◌, ◌+◌, ◌==◌, if◌then◌else◌, List, count_by}
use Rattle.std.specs.List.{slice_index_or}
use Rattle.smi_tree.specs.Hierarchy.{is_device_of}
use Rattle.smi_tree.specs.declared.row.Device.{Device}

-- what is counted for a domain
abbrev pub count_at : List ℕ → ℕ → ℕ
count_at counts domain = slice_index_or counts domain 0

-- one more is counted for a domain, and all else is as before
abbrev pub IsCountedUp : List ℕ → ℕ → List ℕ → Type 0
IsCountedUp old domain new = (other : ℕ) → count_at new other
    ≡ (if domain == other then count_at old other + 1 else count_at old other)

-- for each domain as many are counted as lie in it
pub record AreCounts (rows : List Device) (counts : List ℕ) : Type 0 where
  pub each : (domain : ℕ) → count_at counts domain ≡ count_by (is_device_of domain) rows
