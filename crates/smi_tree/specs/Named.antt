-- Names and numbers tell each other: no name occurs twice.
use Rattle.std.specs.Prelude.{ℕ, ◌≡◌, true, false, List, Some}
use Rattle.smi_tree.specs.Name.{number_of, is_declared}
use Rattle.smi_tree.specs.Hierarchy.{Hierarchy, entry}

-- the name of a number has that number
abbrev pub AreOnce : List (List ℕ) → Type 0
AreOnce names = (number : ℕ) (name : List ℕ) → entry names number ≡ Some name → number_of names name ≡ Some number

-- no name of the one list is one of the other
abbrev pub AreApart : List (List ℕ) → List (List ℕ) → Type 0
AreApart names others = (name : List ℕ) → is_declared names name ≡ true → is_declared others name ≡ false

pub record HaveNames (states actions stations classes operators domains devices : List (List ℕ)) : Type 0 where
  pub states_once : AreOnce states
  pub actions_once : AreOnce actions
  pub stations_once : AreOnce stations
  pub classes_once : AreOnce classes
  pub operators_once : AreOnce operators
  pub domains_once : AreOnce domains
  pub devices_once : AreOnce devices
  pub operators_and_domains : AreApart operators domains
  pub operators_and_devices : AreApart operators devices
  pub domains_and_devices : AreApart domains devices

-- no name occurs twice; operators, domains and devices share one set of names
abbrev pub IsNamed : Hierarchy → Type 0
IsNamed h = HaveNames h.state_names h.action_names h.station_names h.class_names h.operator_names h.domain_names
    h.device_names
