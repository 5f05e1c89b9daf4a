-- Where a version stands among the states that an object has passed.
use Rattle.std.specs.Prelude.{ℕ, ◌≡◌, ◌<◌, ◌≤◌, true, false, List, length, Some, slice_get}
use Rattle.smi_grant.specs.declared.Shown.{Shown}
use Rattle.smi_grant.specs.declared.Version.{Version}
use Rattle.smi_view.specs.Accepting.{is_newer}

-- all states before this place are newer
abbrev pub AreNewer : List Shown → Version → ℕ → Type 0
AreNewer xs v low = (k : ℕ) (x : Shown) → slice_get xs k ≡ Some x → k < low → is_newer x.version v ≡ true

-- none from this place on is newer
abbrev pub AreNotNewer : List Shown → Version → ℕ → Type 0
AreNotNewer xs v high = (k : ℕ) (x : Shown) → slice_get xs k ≡ Some x → high ≤ k → is_newer x.version v ≡ false

pub record IsPlaceOf (xs : List Shown) (v : Version) (place : ℕ) : Type 0 where
  pub within : place ≤ length xs
  pub before : AreNewer xs v place
  pub behind : AreNotNewer xs v place
