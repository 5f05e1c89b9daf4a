-- What an audit has taken is a safe trace, and what it keeps describes it.
use Rattle.std.specs.Prelude.{◌≡◌, ◌&&◌, Bool, true, false, List, ◌∷◌}
use Rattle.smi_protocol.specs.declared.Entry.{Entry}
use Rattle.smi_law.specs.Safe.{Safe}
use Rattle.smi_audit.specs.Described.{IsDescribed, BootedAtMost, BootsRise}
use Rattle.smi_audit.specs.Kept.{DomainTable, StateTable, accounts_of, passed_of, shown_of, boots_of}
use Rattle.smi_audit.specs.Tables.{Tables, is_known, takes, kept}

pub record AuditState : Type 0 where
  pub domains : DomainTable
  pub states : StateTable

abbrev pub tables_of : AuditState → Tables
tables_of b = record {
  domains = accounts_of b.domains;
  passed = passed_of b.states;
  shown = shown_of b.states;
  boots = boots_of b.states;
}

-- this entry fits what was taken, and the tree has what it is about
abbrev pub fits : AuditState → Entry → Bool
fits b x = is_known b.domains.tree x && takes b.domains.tree (tables_of b) x

-- this trace, the newest entry first, was taken: it is safe, and the boots of each station rise
pub record IsAudited (b : AuditState) (past : List Entry) : Type 0 where
  pub described : IsDescribed past (tables_of b)
  pub safe : Safe b.domains.tree past
  pub booted : BootedAtMost past (boots_of b.states)
  pub boots : BootsRise past

-- an entry that fits is taken; or nothing changes, and it does not fit
abbrev pub Accepts : Bool → AuditState → AuditState → Entry → Type 0
Accepts true before after x = (fits before x ≡ true) × (tables_of after ≡ kept (tables_of before) x)
    × (after.domains.tree ≡ before.domains.tree)
Accepts false before after x = (fits before x ≡ false) × (after ≡ before)

-- what was audited before an entry that is taken is so with it
abbrev pub GoesOn : Bool → AuditState → AuditState → Entry → Type 0
GoesOn true before after x = (past : List Entry) → IsAudited before past → IsAudited after (x ∷ past)
GoesOn false before after x = Unit {0}

-- tables are set to these, if the tree has what they are about; or nothing changes
abbrev pub Assumes : Bool → Bool → AuditState → AuditState → Tables → Type 0
Assumes true known before after tables =
    (known ≡ true) × (tables_of after ≡ tables) × (after.domains.tree ≡ before.domains.tree)
Assumes false known before after tables = (known ≡ false) × (after ≡ before)
