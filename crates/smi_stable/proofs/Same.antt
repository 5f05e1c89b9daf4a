-- Bytes that a file holds.
use Rattle.std.proofs.Common.{◌≡◌, ◌<◌, List, [], ◌∷◌, ℕ, false, length, refl, arith}
use Rattle.std.proofs.lemmas.List.{ext_get_or}
use Rattle.sqlite_disk.specs.Disk.{Holds}
use Rattle.smi_stable.specs.Beginning.{is_part_of}

-- a file that begins with as many bytes as it has is these bytes
pub held : (file bytes : List ℕ) → (0 < length bytes → Holds file 0 bytes) → length file ≡ length bytes → file ≡ bytes
held file bytes holds same =
    ext_get_or 0 file bytes same
    (λ i there. let h = holds (omega (arith, there, same)) in
    let each = h.each i (omega (arith, there, same)) in grind (arith, each))

-- a file longer than a page has more than bytes of the page
pub longer : (file page : List ℕ) → length page < length file → is_part_of file page ≡ false
longer [] page more = absurd (omega (arith, more))
longer (b ∷ file) [] more = refl
longer (b ∷ file) (p ∷ page) more =
    let rest = longer file page (omega (arith, more)) in grind (arith, rest)
