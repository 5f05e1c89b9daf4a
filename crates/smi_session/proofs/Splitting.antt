-- Bytes are cut into the same lines, however they come in blocks.
use Rattle.std.proofs.Common.{◌≡◌, ℕ, suc, ◌+◌, ◌-◌, Bool, true, false, not, cond, nat_lt, if◌then◌else◌}
use Rattle.std.proofs.Common.{List, [], ◌∷◌, ◌++◌, length, take, drop, Option, Some, None}
use Rattle.std.specs.List.{concat}
use Rattle.std.proofs.Common.{refl, sym, ap, ◌∙◌, arith, true≢false, append-nil, append_assoc, take_all}
use Rattle.std.proofs.lemmas.Bool.Decides.{nat_tests}
use Rattle.std.proofs.lemmas.List.{length-append}
use Rattle.smi_tree.specs.Text.{is_line_feed}
use Rattle.smi_session.specs.LineSplitter.{SplitterState, TakesLine, behind_first, first_line, kept, left_of}
use Rattle.smi_session.specs.LineSplitter.{line_end}
use Rattle.smi_session.specs.LineSplitter.{lines_of, lines_of_blocks, trimmed, with_byte}

-- one more byte of a line
step_by : (line : List ℕ) (byte : ℕ) (bytes : List ℕ) (c : Bool) → nat_lt (length line) 202 ≡ c
    → (if c then line ++ byte ∷ [] else line) ++ take (202 - length (if c then line ++ byte ∷ [] else line)) bytes
    ≡ line ++ take (202 - length line) (byte ∷ bytes)
step_by line byte bytes true e =
    let room : 202 - length line ≡ suc (202 - length (line ++ byte ∷ []))
    = grind (arith, nat_tests, e, length-append line (byte ∷ [])) in
    rw room (append_assoc line (byte ∷ []) (take (202 - length (line ++ byte ∷ [])) bytes))
step_by line byte bytes false e =
    let room : 202 - length line ≡ 0 = grind (arith, nat_tests, e) in
    rw room refl

step : (line : List ℕ) (byte : ℕ) (bytes : List ℕ) (n : ℕ)
    → kept (with_byte line byte) bytes n ≡ kept line (byte ∷ bytes) (1 + n)
step line byte bytes n =
    let on : 1 + n ≡ suc n = omega arith in
    rw on (step_by line byte (take n bytes) (nat_lt (length line) 202) refl)

-- a line that goes on with no bytes
kept_none : (line : List ℕ) → line ++ take (202 - length line) [] ≡ line
kept_none line = rw (take_all {A = ℕ} (202 - length line) [] (omega arith)) (append-nil line)

-- the first line feed ends the line
found_lines : (bytes line : List ℕ) → nat_lt (line_end bytes) (length bytes) ≡ true
    → lines_of line bytes ≡ trimmed (kept line bytes (line_end bytes)) ∷ lines_of [] (drop (line_end bytes + 1) bytes)
found_lines [] line h = absurd (true≢false (sym h))
found_lines (byte ∷ bytes) line h = by (is_line_feed byte) (found_lines bytes (with_byte line byte)) h
  where
    by : (c : Bool)
        → (nat_lt (line_end bytes) (length bytes) ≡ true → lines_of (with_byte line byte) bytes
        ≡ trimmed (kept (with_byte line byte) bytes (line_end bytes)) ∷ lines_of [] (drop (line_end bytes + 1) bytes))
        → nat_lt (cond (not c) (1 + line_end bytes) 0) (length (byte ∷ bytes)) ≡ true
        → (if c then trimmed line ∷ lines_of [] bytes else lines_of (with_byte line byte) bytes)
        ≡ trimmed (kept line (byte ∷ bytes) (cond (not c) (1 + line_end bytes) 0))
        ∷ lines_of [] (drop (cond (not c) (1 + line_end bytes) 0 + 1) (byte ∷ bytes))
    by true rest e = ap (λ l. trimmed l ∷ lines_of [] bytes) (sym (kept_none line))
    by false rest e =
        let within : nat_lt (line_end bytes) (length bytes) ≡ true = grind (arith, nat_tests, e) in
        let on : 1 + line_end bytes + 1 ≡ suc (line_end bytes + 1) = omega arith in
        rw (on, ← step line byte bytes (line_end bytes)) (rest within)

found_left : (bytes line : List ℕ) → nat_lt (line_end bytes) (length bytes) ≡ true
    → left_of [] (drop (line_end bytes + 1) bytes) ≡ left_of line bytes
found_left [] line h = absurd (true≢false (sym h))
found_left (byte ∷ bytes) line h = by (is_line_feed byte) (found_left bytes (with_byte line byte)) h
  where
    by : (c : Bool)
        → (nat_lt (line_end bytes) (length bytes) ≡ true
        → left_of [] (drop (line_end bytes + 1) bytes) ≡ left_of (with_byte line byte) bytes)
        → nat_lt (cond (not c) (1 + line_end bytes) 0) (length (byte ∷ bytes)) ≡ true
        → left_of [] (drop (cond (not c) (1 + line_end bytes) 0 + 1) (byte ∷ bytes))
        ≡ (if c then left_of [] bytes else left_of (with_byte line byte) bytes)
    by true rest e = refl
    by false rest e =
        let within : nat_lt (line_end bytes) (length bytes) ≡ true = grind (arith, nat_tests, e) in
        let on : 1 + line_end bytes + 1 ≡ suc (line_end bytes + 1) = omega arith in
        rw on (rest within)

-- without one the line goes on
none_lines : (bytes line : List ℕ) → nat_lt (line_end bytes) (length bytes) ≡ false → lines_of line bytes ≡ []
none_lines [] line h = refl
none_lines (byte ∷ bytes) line h = by (is_line_feed byte) (none_lines bytes (with_byte line byte)) h
  where
    by : (c : Bool)
        → (nat_lt (line_end bytes) (length bytes) ≡ false → lines_of (with_byte line byte) bytes ≡ [])
        → nat_lt (cond (not c) (1 + line_end bytes) 0) (length (byte ∷ bytes)) ≡ false
        → (if c then trimmed line ∷ lines_of [] bytes else lines_of (with_byte line byte) bytes) ≡ []
    by true rest e = grind (arith, nat_tests, e)
    by false rest e = rest (grind (arith, nat_tests, e))

none_left : (bytes line : List ℕ) → nat_lt (line_end bytes) (length bytes) ≡ false
    → kept line bytes (line_end bytes) ≡ left_of line bytes
none_left [] line h = kept_none line
none_left (byte ∷ bytes) line h = by (is_line_feed byte) (none_left bytes (with_byte line byte)) h
  where
    by : (c : Bool)
        → (nat_lt (line_end bytes) (length bytes) ≡ false
        → kept (with_byte line byte) bytes (line_end bytes) ≡ left_of (with_byte line byte) bytes)
        → nat_lt (cond (not c) (1 + line_end bytes) 0) (length (byte ∷ bytes)) ≡ false
        → kept line (byte ∷ bytes) (cond (not c) (1 + line_end bytes) 0)
        ≡ (if c then left_of [] bytes else left_of (with_byte line byte) bytes)
    by true rest e = grind (arith, nat_tests, e)
    by false rest e = sym (step line byte bytes (line_end bytes)) ∙ rest (grind (arith, nat_tests, e))

-- a cut at the first line feed takes the first line
takes_by : (s : SplitterState) (c : Bool) → nat_lt (line_end s.unread) (length s.unread) ≡ c
    → TakesLine (if c then Some (trimmed (kept s.line s.unread (line_end s.unread))) else None) s
    (if c then record { line = []; unread = drop (line_end s.unread + 1) s.unread }
    else record { line = kept s.line s.unread (line_end s.unread); unread = [] })
takes_by s true e = (found_lines s.unread s.line e, found_left s.unread s.line e)
takes_by s false e = (none_lines s.unread s.line e, refl, none_left s.unread s.line e)

pub cut_takes : (line : Option (List ℕ)) (a b : SplitterState) → line ≡ first_line a → b ≡ behind_first a
    → TakesLine line a b
cut_takes line a b e f = rw (e, f) (takes_by a (nat_lt (line_end a.unread) (length a.unread)) refl)

-- the lines of bytes that are followed by others
lines_append : (bytes more line : List ℕ)
    → lines_of line (bytes ++ more) ≡ lines_of line bytes ++ lines_of (left_of line bytes) more
lines_append [] more line = refl
lines_append (byte ∷ bytes) more line =
    by (is_line_feed byte) (lines_append bytes more []) (lines_append bytes more (with_byte line byte))
  where
    by : (c : Bool) → lines_of [] (bytes ++ more) ≡ lines_of [] bytes ++ lines_of (left_of [] bytes) more
        → lines_of (with_byte line byte) (bytes ++ more)
        ≡ lines_of (with_byte line byte) bytes ++ lines_of (left_of (with_byte line byte) bytes) more
        → (if c then trimmed line ∷ lines_of [] (bytes ++ more) else lines_of (with_byte line byte) (bytes ++ more))
        ≡ (if c then trimmed line ∷ lines_of [] bytes else lines_of (with_byte line byte) bytes)
        ++ lines_of (if c then left_of [] bytes else left_of (with_byte line byte) bytes) more
    by true ended on = ap (λ l. trimmed line ∷ l) ended
    by false ended on = on

pub blocks : (line : List ℕ) (bs : List (List ℕ)) → lines_of_blocks line bs ≡ lines_of line (concat bs)
blocks line [] = refl
blocks line (block ∷ bs) =
    ap (λ l. lines_of line block ++ l) (blocks (left_of line block) bs) ∙ sym (lines_append block (concat bs) line)
