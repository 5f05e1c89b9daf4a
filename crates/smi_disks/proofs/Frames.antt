-- One more frame is read.
use Rattle.std.proofs.Common.{◌≡◌, ◌+◌, ℕ, suc, List, refl, subst, arith}
use Rattle.smi_disks.specs.LogCheck.{LogReadingState, frame_read, frames_read}

pub frames_next : (head : List ℕ) (size : ℕ) (r : LogReadingState) (n : ℕ)
    → frames_read head size r (n + 1) ≡ frame_read head size (frames_read head size r n)
frames_next head size r n =
    subst (λ m. frames_read head size r m ≡ frame_read head size (frames_read head size r n)) (later n) refl
  where
    later : (n : ℕ) → suc n ≡ n + 1
    later n = omega arith
