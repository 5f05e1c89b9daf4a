-- What an audit keeps in tables by number.
use Rattle.std.specs.Prelude.{ℕ, ◌≡◌, ◌+◌, ◌&&◌, nat_lt, Bool, true, false, List, [], ◌∷◌, length, None}
use Rattle.smi_grant.specs.declared.Command.{Command}
use Rattle.smi_grant.specs.declared.Holder.TheVariants.{Free}
use Rattle.smi_rows.specs.declared.Mode.TheVariants as mode
use Rattle.smi_tree.specs.Hierarchy.{Hierarchy}
use Rattle.smi_tree.specs.Lookups.{domain_count, device_count, station_count}
use Rattle.smi_tree.specs.Roles.{has_object}
use Rattle.smi_protocol.specs.Grants.{put}
use Rattle.smi_station_grants.specs.Entries.{entry_or}
use Rattle.smi_audit.specs.declared.grant_state.GrantState.{GrantState}
use Rattle.smi_audit.specs.declared.stage.GrantStage.TheVariants.{Given}
use Rattle.smi_grant.specs.declared.Shown.{Shown}
use Rattle.smi_audit.specs.declared.last_shown.LastShown.{LastShown}
use Rattle.smi_audit.specs.Teller.{has_station}
use Rattle.smi_audit.specs.Tables.{Account, unseen, passes_next, has_passed, comes_next, showed_now, started}

-- what a state says, with what was ordered
abbrev pub account_of : GrantState → List Command → Account
account_of r orders = record {
  epoch = r.epoch;
  holder = r.holder;
  stage = r.stage;
  orders = orders;
  ran = r.ran;
  work = r.work;
  mode = r.mode;
}

-- the state of a domain of which nothing was told
abbrev pub fresh_state : GrantState
fresh_state = record {
  epoch = 0;
  holder = Free;
  stage = Given;
  ran = 0;
  work = None;
  mode = mode.Included;
}

-- the grants of a tree's domains, and what was ordered at each
pub record DomainTable : Type 0 where
  pub tree : Hierarchy
  pub grants : List GrantState
  pub orders : List (List Command)

-- there is a state for every domain
pub record IsDomainTable (l : DomainTable) : Type 0 where
  pub grants : length l.grants ≡ domain_count l.tree
  pub orders : length l.orders ≡ domain_count l.tree

-- what is kept of each domain
abbrev pub accounts_of : DomainTable → ℕ → Account
accounts_of l d = account_of (entry_or l.grants d fresh_state) (entry_or l.orders d [])

-- an entry about a domain that passes a test is taken, and its account is replaced; or nothing changes
abbrev pub Writes : Bool → Bool → DomainTable → DomainTable → ℕ → Account → Type 0
Writes true test before after d new = (test ≡ true) × (accounts_of after ≡ put (accounts_of before) d new)
    × (after.tree ≡ before.tree)
Writes false test before after d new = (test ≡ false) × (after ≡ before)

-- the states that objects passed, what stations were shown of them, and the last boot of each station
pub record StateTable : Type 0 where
  pub tree : Hierarchy
  pub passed : List (List Shown)
  pub shown : List (List LastShown)
  pub boots : List ℕ

abbrev pub passed_of : StateTable → ℕ → List Shown
passed_of k x = entry_or k.passed x []

abbrev pub shown_to : StateTable → ℕ → List LastShown
shown_to k s = entry_or k.shown s []

abbrev pub shown_of : StateTable → ℕ → ℕ → LastShown
shown_of k s x = entry_or (shown_to k s) x unseen

abbrev pub boots_of : StateTable → ℕ → ℕ
boots_of k s = entry_or k.boots s 0

abbrev pub object_count : Hierarchy → ℕ
object_count h = domain_count h + device_count h

-- there is a place for each object, for each station, and for each object at each station
pub record IsStateTable (k : StateTable) : Type 0 where
  pub passed : length k.passed ≡ object_count k.tree
  pub shown : length k.shown ≡ station_count k.tree
  pub each : (s : ℕ) → has_station k.tree s ≡ true → length (shown_to k s) ≡ object_count k.tree
  pub boots : length k.boots ≡ station_count k.tree

-- a state that an object may pass next
abbrev pub fits_passed : StateTable → Shown → Bool
fits_passed k z = has_object k.tree z.object && passes_next (passed_of k z.object) z.version

-- a state that a station may be shown next
abbrev pub fits_shown : StateTable → ℕ → Shown → Bool
fits_shown k s z = (has_station k.tree s && has_object k.tree z.object)
    && (has_passed (passed_of k z.object) z && comes_next (shown_of k s z.object) z.version)

-- a boot with which a station may start next
abbrev pub fits_boot : StateTable → ℕ → ℕ → Bool
fits_boot k s b = has_station k.tree s && nat_lt (boots_of k s) b

-- a state that passes is taken, or nothing changes and it does not fit
abbrev pub Passes : Bool → StateTable → StateTable → Shown → Type 0
Passes true before after z = (fits_passed before z ≡ true)
    × (passed_of after ≡ put (passed_of before) z.object (z ∷ passed_of before z.object))
    × (shown_of after ≡ shown_of before) × (boots_of after ≡ boots_of before) × (after.tree ≡ before.tree)
Passes false before after z = (fits_passed before z ≡ false) × (after ≡ before)

-- what a station is shown is written, if a test says so
abbrev pub ShowsIf : Bool → Bool → StateTable → StateTable → ℕ → Shown → Type 0
ShowsIf true test before after s z = (test ≡ true) × (passed_of after ≡ passed_of before)
    × (shown_of after ≡ showed_now (shown_of before) s z) × (boots_of after ≡ boots_of before)
    × (after.tree ≡ before.tree)
ShowsIf false test before after s z = (test ≡ false) × (after ≡ before)

-- a state that is shown is taken, or nothing changes and it does not fit
abbrev pub Shows : Bool → StateTable → StateTable → ℕ → Shown → Type 0
Shows taken before after s z = ShowsIf taken (fits_shown before s z) before after s z

-- a start is taken, or nothing changes and it does not fit
abbrev pub Starts : Bool → StateTable → StateTable → ℕ → ℕ → Type 0
Starts true before after s b = (fits_boot before s b ≡ true) × (passed_of after ≡ passed_of before)
    × (shown_of after ≡ started (shown_of before) s) × (boots_of after ≡ put (boots_of before) s b)
    × (after.tree ≡ before.tree)
Starts false before after s b = (fits_boot before s b ≡ false) × (after ≡ before)

-- what is there at the beginning is set, if the tree has it

abbrev pub SetsShown : Bool → StateTable → StateTable → ℕ → Shown → Type 0
SetsShown done before after s z =
    ShowsIf done (has_station before.tree s && has_object before.tree z.object) before after s z

abbrev pub SetsBoot : Bool → StateTable → StateTable → ℕ → ℕ → Type 0
SetsBoot true before after s b = (has_station before.tree s ≡ true) × (passed_of after ≡ passed_of before)
    × (shown_of after ≡ shown_of before) × (boots_of after ≡ put (boots_of before) s b) × (after.tree ≡ before.tree)
SetsBoot false before after s b = (has_station before.tree s ≡ false) × (after ≡ before)
