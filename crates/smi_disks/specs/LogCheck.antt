-- Whether the log of a store lost something in its middle.
use Rattle.std.specs.Prelude.{ℕ, zero, suc, ◌+◌, ◌/◌, ◌==◌, ◌&&◌, ◌||◌, not, nat_le, nat_lt, Bool, true, false, List}
use Rattle.std.specs.Prelude.{length, take, drop, slice_range, Option, Some, None, if◌then◌else◌}
use Rattle.sqlite_wal.specs.Format.{checksum}
use Rattle.smi_base.specs.Bytes.{u32_at}
use Rattle.smi_disks.specs.declared.log_check.LogWalk.{LogWalk}
use Rattle.smi_disks.specs.declared.log_check.LogWalk.TheVariants.{Sound, Torn, Ended, Damaged}

abbrev pub sum_at : List ℕ → ℕ → ℕ × ℕ
sum_at bytes at = if nat_lt (length bytes) (at + 8) then (0, 0) else (u32_at bytes at, u32_at bytes (at + 4))

abbrev pub same_sum : ℕ × ℕ → ℕ × ℕ → Bool
same_sum one other = one.0 == other.0 && one.1 == other.1

-- the sum of a frame goes on from the one before: over the first eight bytes of its header, and over its content
abbrev pub frame_sum : Bool → ℕ × ℕ → List ℕ → ℕ × ℕ
frame_sum is_high_first before frame =
    checksum is_high_first (checksum is_high_first before (take 8 frame)) (drop 24 frame)

abbrev pub is_high_first : List ℕ → Bool
is_high_first head = u32_at head 0 == 0x377f_0683

abbrev pub is_header : List ℕ → Bool
is_header head =
    (u32_at head 0 == 0x377f_0682 || u32_at head 0 == 0x377f_0683)
    && same_sum (checksum (is_high_first head) (0, 0) (take 24 head)) (sum_at head 24)

-- a frame goes on from the one before: it has a page, the salts of the header, and the sum
abbrev pub is_linked : List ℕ → ℕ × ℕ → List ℕ → Bool
is_linked head before frame =
    nat_le 24 (length frame) && (not (u32_at frame 0 == 0) && (same_sum (sum_at frame 8) (sum_at head 16)
    && same_sum (frame_sum (is_high_first head) before frame) (sum_at frame 16)))

-- a save ends with a frame
abbrev pub ends_save : List ℕ → Bool
ends_save frame = nat_le 24 (length frame) && not (u32_at frame 4 == 0)

-- what is known after another frame, of which it is seen whether it goes on from the one before, and whether a save
-- ends with it
abbrev pub known_after : LogWalk → Bool → Bool → LogWalk
known_after Sound is_linked ends = if is_linked then Sound else Torn
known_after Torn is_linked ends = if is_linked && ends then Ended else Torn
known_after Ended is_linked ends = if is_linked then Damaged else Ended
known_after Damaged is_linked ends = Damaged

pub record LogReadingState : Type 0 where
  pub known : LogWalk
  pub before : ℕ × ℕ
  pub rest : List ℕ

abbrev pub frame_read : List ℕ → ℕ → LogReadingState → LogReadingState
frame_read head size r =
    record {
      known = known_after r.known (is_linked head r.before (take size r.rest)) (ends_save (take size r.rest));
      before = sum_at (take size r.rest) 16;
      rest = drop size r.rest;
    }

-- after this many frames
abbrev pub frames_read : List ℕ → ℕ → LogReadingState → ℕ → LogReadingState
frames_read head size r zero = r
frames_read head size r (suc n) = frame_read head size (frames_read head size r n)

abbrev pub frame_size : List ℕ → ℕ
frame_size head = u32_at head 8 + 24

-- what is known by all frames
abbrev pub walk : List ℕ → List ℕ → LogWalk
walk head frames =
    (frames_read head (frame_size head) (record { known = Sound; before = sum_at head 24; rest = frames })
    (length frames / frame_size head)).known

abbrev pub salts_in : List ℕ → List ℕ
salts_in head = slice_range head 16 24

-- the salts of a log whose header is followed by no frame
abbrev pub salts_of_empty : List ℕ → Option (List ℕ)
salts_of_empty log =
    if nat_lt (length log) 32 then None
    else if is_header (take 32 log) && not (is_linked (take 32 log) (sum_at (take 32 log) 24)
    (take (frame_size (take 32 log)) (drop 32 log)))
    then Some (salts_in (take 32 log))
    else None

abbrev pub is_damage : LogWalk → Bool
is_damage Damaged = true
is_damage _ = false

-- a frame does not go on from the one before, and a save follows that began after its own had ended
abbrev pub is_damaged : List ℕ → Bool
is_damaged log =
    if nat_lt (length log) 32 then false
    else (is_header (take 32 log) && is_damage (walk (take 32 log) (drop 32 log)))
