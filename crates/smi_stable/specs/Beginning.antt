-- What a new file begins with, and what it may hold before.
use Rattle.std.specs.Prelude.{ℕ, ◌≡◌, ◌≢◌, ◌⊎◌, ◌≤◌, ◌<◌, max, Bool, true, false, ◌==◌, ◌&&◌, ◌||◌}
use Rattle.std.specs.Prelude.{List, [], ◌∷◌, length, slice_index}
use Rattle.sqlite_pool.specs.Header.{first_page}

-- the first page of a new file whose pages have 512 bytes
abbrev pub first_bytes : List ℕ
first_bytes = first_page 512

-- each byte of a file is zero or that of a page at its place
abbrev pub is_part_of : List ℕ → List ℕ → Bool
is_part_of [] page = true
is_part_of (b ∷ more) [] = false
is_part_of (b ∷ more) (p ∷ rest) = (b == 0 || b == p) && is_part_of more rest

-- a file holds nothing yet, or what a stop left of its first page
abbrev pub is_unbegun : List ℕ → Bool
is_unbegun file = is_part_of file first_bytes

-- a file may hold rows: it holds more than a part of its first page, or something stands in its log
abbrev pub MayHoldRows : List ℕ → List ℕ → Type 0
MayHoldRows log file = (log ≢ []) ⊎ (is_unbegun file ≡ false)

-- a file is unchanged, and a stop leaves of it nothing that it could not have left before
pub record LeftAlone {D : Type 0} (seen : D → List ℕ) (may_leave : D → List ℕ → Type 0) (old new : D) : Type 0 where
  pub same : seen new ≡ seen old
  pub no_more : (c : List ℕ) → may_leave new c → may_leave old c

-- a stop leaves a file that was to be begun no longer than it was, or than a page
abbrev pub BegunFrom : List ℕ → List ℕ → Type 0
BegunFrom old new = length new ≤ max (length old) (length first_bytes)

-- each byte that the file had and has, and a page has too, is the one it had or the page's
abbrev pub PartlyBegun : List ℕ → List ℕ → Type 0
PartlyBegun old new = (i : ℕ) → i < length old → i < length new → i < length first_bytes
    → (slice_index new i ≡ slice_index old i) ⊎ (slice_index new i ≡ slice_index first_bytes i)
