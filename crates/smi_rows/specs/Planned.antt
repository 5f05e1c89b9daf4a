-- Saves that are planned to fail.
use Rattle.std.specs.Prelude.{ℕ, ◌==◌, ◌-◌, if◌then◌else◌, Option, Some, None}
use Rattle.smi_rows.specs.declared.planned.Plan.{Plan}
use Rattle.smi_rows.specs.declared.planned.Planned.{Planned}

-- this many saves from now, one fails so
abbrev pub planned : ℕ → Plan → Planned
planned nth plan = record { nth = nth; plan = plan }

-- the plan that strikes at the next save
abbrev pub due_of : Option Planned → Option Plan
due_of None = None
due_of (Some p) = if p.nth == 1 then Some p.plan else None

-- what is planned after a save
abbrev pub left_of : Option Planned → Option Planned
left_of None = None
left_of (Some p) = if p.nth == 1 then None else Some (planned (p.nth - 1) p.plan)
