-- The table of the bytes of names.
use Rattle.std.proofs.Common.{◌≡◌, ℕ, suc, zero, ◌+◌, ◌<◌, Bool, true, false, not, List, [], ◌∷◌, length, replicate}
use Rattle.std.proofs.Common.{◌++◌, get_or, refl, ap, ◌∙◌, arith}
use Rattle.std.specs.Prelude.{◌&&◌}
use Rattle.smi_tree.specs.Name.{is_name_byte}
use Rattle.smi_tree.proofs.Kept.{both-left, both-right}

abbrev pub is_same : Bool → Bool → Bool
is_same true b = b
is_same false b = not b

same-true : (a b : Bool) → is_same a b ≡ true → a ≡ b
same-true true true h = refl
same-true true false h = cc
same-true false true h = cc
same-true false false h = refl

-- the entries of a table are those of the bytes from this number on
abbrev pub tells : ℕ → List Bool → Bool
tells byte [] = true
tells byte (b ∷ bs) = is_same b (is_name_byte byte) && tells (byte + 1) bs

tells-at : (table : List Bool) (from k : ℕ) → tells from table ≡ true → k < length table
    → get_or table k false ≡ is_name_byte (from + k)
tells-at [] from k all within = absurd (omega arith)
tells-at (b ∷ bs) from zero all within =
    let first : from ≡ from + 0 = omega arith in
    same-true b (is_name_byte from) (both-left (is_same b (is_name_byte from)) (tells (from + 1) bs) all)
    ∙ ap is_name_byte first
tells-at (b ∷ bs) from (suc k) all within =
    let later : from + 1 + k ≡ from + suc k = omega arith in
    tells-at bs (from + 1) k (both-right (is_same b (is_name_byte from)) (tells (from + 1) bs) all) (omega arith)
    ∙ ap is_name_byte later

-- whether each byte is one of a name's: digits, letters and the underline are
abbrev pub name_bytes : List Bool
name_bytes =
    replicate 48 false
    ++ (replicate 10 true ++ (replicate 7 false
    ++ (replicate 26 true ++ (replicate 4 false ++ (true ∷ replicate 160 false)))))

-- a table of all bytes tells of each
pub tells-each : (table : List Bool) (byte : ℕ) → tells 0 table ≡ true → length table ≡ 256 → byte < 256 →
    get_or table byte false ≡ is_name_byte byte
tells-each table byte all whole within =
    let same : 0 + byte ≡ byte = omega arith in
    tells-at table 0 byte all (omega (arith, whole, within)) ∙ ap is_name_byte same
