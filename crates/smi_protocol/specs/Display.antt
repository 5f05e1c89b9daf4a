-- What a station keeps of states and of watching. It is lost at a restart.
use Rattle.std.specs.Prelude.{ℕ, Bool, List, Option}
use Rattle.smi_grant.specs.declared.Shown.{Shown}
use Rattle.smi_publish.specs.declared.condition.Condition.{Condition}
use Rattle.smi_watchers.specs.declared.Watcher.{Watcher}
use Rattle.smi_protocol.specs.Grants.{Grants}
use Rattle.smi_protocol.specs.declared.resend_cursor.ResendCursor.{ResendCursor}

-- Tables by number: the states of its objects; what it was shown last of each object; which objects its
-- operators watch; the greatest echo of each station; who watches its objects; where the next tick begins;
-- and the domain that each operator has asked about.
pub record Display : Type 0 where
  pub conditions : ℕ → Option Condition
  pub shown : ℕ → Option Shown
  pub named : ℕ → Bool
  pub echoes : ℕ → ℕ
  pub watchers : List (List Watcher)
  pub place : ResendCursor
  pub asks : ℕ → Option ℕ

-- a station: its grants, its display, and whether it has stopped
pub record Station : Type 0 where
  pub grants : Grants
  pub display : Display
  pub is_stopped : Bool
