-- When nothing is under way in the world, and which lists of items may lead there.
use Rattle.std.specs.Prelude.{ℕ, ◌≡◌, ◌≢◌, ◌≤◌, ◌<◌, ◌+◌, Bool, true, false, List, [], ◌∷◌, length}
use Rattle.std.specs.Prelude.{Option, Some}
use Rattle.smi_grant.specs.declared.Holder.{Holder}
use Rattle.smi_grant.specs.Record.{is_settled}
use Rattle.smi_base.specs.Between.{is_between}
use Rattle.smi_message.specs.Message.{last_boot}
use Rattle.smi_publish.specs.declared.condition.Condition.{Condition}
use Rattle.smi_publish.specs.Published.{last_sequence}
use Rattle.smi_tree.specs.Hierarchy.{Hierarchy}
use Rattle.smi_tree.specs.Lookups.{station_count}
use Rattle.smi_command.specs.Link.{is_unsettled}
use Rattle.smi_protocol.specs.declared.item.Deed.TheVariants as deed
use Rattle.smi_protocol.specs.declared.item.Item.{Item}
use Rattle.smi_protocol.specs.declared.item.Item.TheVariants as item
use Rattle.smi_protocol.specs.Schedule.{World, turn}
use Rattle.smi_law.specs.Known.{record_in, link_in}

-- the tree has the station
abbrev pub IsStation : Hierarchy → ℕ → Type 0
IsStation h number = is_between 1 (station_count h) number ≡ true

-- every station of the tree is in service
abbrev pub AllRun : Hierarchy → World → Type 0
AllRun h w = (number : ℕ) → IsStation h number → (w.stations number).is_stopped ≡ false

-- no station of the tree has used its last boot
abbrev pub HaveBoots : Hierarchy → World → Type 0
HaveBoots h w = (number : ℕ) → IsStation h number → (w.stations number).grants.boot ≢ last_boot

-- each object of a table may change this many times more
abbrev pub HasChanges : ℕ → (ℕ → Option Condition) → Type 0
HasChanges n table = (x : ℕ) (c : Condition) → table x ≡ Some c → c.sequence + n < last_sequence

-- and so may each object of the tree
abbrev pub AllChange : Hierarchy → ℕ → World → Type 0
AllChange h n w = (number : ℕ) → IsStation h number → HasChanges n (w.stations number).display.conditions

-- nothing is under way: no holder waits for anything, no domain is at work, and every station is in service
pub record IsAtRest (h : Hierarchy) (w : World) : Type 0 where
  pub links : (who : Holder) (d : ℕ) → is_unsettled (link_in h w who d) ≡ false
  pub records : (d : ℕ) → is_settled (record_in h w d).phase ≡ true
  pub running : AllRun h w

-- where a list of items leads
abbrev pub led : Hierarchy → World → List Item → World
led h w [] = w
led h w (x ∷ more) = led h (turn h w x).world more

-- time passes at a station, or a datagram that was sent comes
abbrev pub Goes : Hierarchy → World → Item → Type 0
Goes h w (item.Do (deed.Tick number)) = IsStation h number
Goes h w (item.Do (deed.Deliver k)) = (1 ≤ k) × (k ≤ length w.sent)
Goes h w _ = ⊥

-- one of these, or a station that has stopped starts again
abbrev pub GoesOrStarts : Hierarchy → World → Item → Type 0
GoesOrStarts h w (item.Restart number) = IsStation h number × ((w.stations number).is_stopped ≡ true)
GoesOrStarts h w x = Goes h w x

-- starts are among them, or not
abbrev pub Fits : Bool → Hierarchy → World → Item → Type 0
Fits true = GoesOrStarts
Fits false = Goes

-- each item of a list is such at its place
abbrev pub Each : Bool → Hierarchy → World → List Item → Type 0
Each starts h w [] = Unit {0}
Each starts h w (x ∷ more) = Fits starts h w x × Each starts h (turn h w x).world more

-- a list of such items that leads to rest
pub record Settling (starts : Bool) (h : Hierarchy) (w : World) : Type 0 where
  pub items : List Item
  pub each : Each starts h w items
  pub rest : IsAtRest h (led h w items)
