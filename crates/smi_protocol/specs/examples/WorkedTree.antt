-- The tree of examples/worked.tree.
use Rattle.std.specs.Prelude.{ℕ, List, [], ◌∷◌, ◌++◌, Option, Some, None, codes}
use Rattle.std.specs.List.{flat_map}
use Rattle.smi_tree.specs.Hierarchy.{Hierarchy}
use Rattle.smi_tree.specs.ClassTable.{ClassTable}
use Rattle.smi_tree.specs.declared.declaration.ClassKind.TheVariants as class
use Rattle.smi_tree.specs.declared.declaration.Quantifier.{Quantifier}
use Rattle.smi_tree.specs.declared.declaration.Quantifier.TheVariants.{Any, All}
use Rattle.smi_tree.specs.declared.number.Address.{Address}
use Rattle.smi_tree.specs.declared.row.Domain.{Domain}
use Rattle.smi_tree.specs.declared.row.Move.{Move}
use Rattle.smi_tree.specs.declared.row.Rule.{Rule}

-- a port of the local host
abbrev pub address : ℕ → Address
address port = record { host = 127 ∷ 0 ∷ 0 ∷ 1 ∷ []; port = port }

-- a rule: the quantifier, the state, the target
abbrev pub rule : Quantifier → ℕ → ℕ → Rule
rule quantifier state target = record { quantifier = quantifier; state = state; target = target }

-- a row of a device class
abbrev pub move : ℕ → ℕ → ℕ → ℕ → Move
move class from action to = record { class = class; from = from; action = action; to = to }

-- a domain: its station, its class, its parent
abbrev pub domain : ℕ → ℕ → Option ℕ → Domain
domain station class parent = record { station = station; class = class; parent = parent }

-- Devices: `DEV`.
abbrev pub dev : ClassTable
dev = record { kind = class.Device; first = 1; accepted = []; rules = [] }

-- Units: `UNIT`.
abbrev pub unit : ClassTable
unit = record {
  kind = class.Unit;
  first = 1;
  accepted = 1 ∷ 2 ∷ [];
  rules = rule Any 4 4 ∷ rule All 3 3 ∷ rule All 2 2 ∷ rule All 1 1 ∷ [];
}

-- States `OFF` 1, `READY` 2, `RUNNING` 3, `ERROR` 4. Actions `CONFIGURE` 1, `START` 2, `STOP` 3. Stations A 1 and B 2.
-- Operators ANN 1 and BOB 2. Domains DCS 1 and, under it, TPC 2. HV, in TPC, is device 1 and object 3.
abbrev pub worked_tree : Hierarchy
worked_tree = record {
  number = 17;
  state_names = codes "OFF" ∷ codes "READY" ∷ codes "RUNNING" ∷ codes "ERROR" ∷ [];
  action_names = codes "CONFIGURE" ∷ codes "START" ∷ codes "STOP" ∷ [];
  station_names = codes "A" ∷ codes "B" ∷ [];
  addresses = address 9001 ∷ address 9002 ∷ [];
  operator_names = codes "ANN" ∷ codes "BOB" ∷ [];
  homes = 1 ∷ 2 ∷ [];
  class_names = codes "DEV" ∷ codes "UNIT" ∷ [];
  classes = dev ∷ unit ∷ [];
  moves = move 1 1 1 2 ∷ move 1 2 2 3 ∷ [];
  domain_names = codes "DCS" ∷ codes "TPC" ∷ [];
  domains = domain 1 2 None ∷ domain 2 2 (Some 1) ∷ [];
  device_names = codes "HV" ∷ [];
  devices = record { domain = 2; class = 1 } ∷ [];
}

-- The lines of the file.
abbrev pub worked_lines : List (List ℕ)
worked_lines =
    codes "tree 17"
    ∷ codes "state OFF"
    ∷ codes "state READY"
    ∷ codes "state RUNNING"
    ∷ codes "state ERROR"
    ∷ codes "action CONFIGURE"
    ∷ codes "action START"
    ∷ codes "action STOP"
    ∷ codes "station A 127.0.0.1:9001"
    ∷ codes "station B 127.0.0.1:9002"
    ∷ codes "operator ANN A"
    ∷ codes "operator BOB B"
    ∷ codes "devclass DEV OFF"
    ∷ codes "move DEV OFF CONFIGURE READY"
    ∷ codes "move DEV READY START RUNNING"
    ∷ codes "unitclass UNIT OFF"
    ∷ codes "accept UNIT CONFIGURE"
    ∷ codes "accept UNIT START"
    ∷ codes "any UNIT ERROR ERROR"
    ∷ codes "all UNIT RUNNING RUNNING"
    ∷ codes "all UNIT READY READY"
    ∷ codes "all UNIT OFF OFF"
    ∷ codes "domain DCS A UNIT -"
    ∷ codes "domain TPC B UNIT DCS"
    ∷ codes "device HV TPC DEV"
    ∷ []

-- the file: a line feed ends each line
abbrev pub worked_file : List ℕ
worked_file = flat_map (λ line. line ++ 10 ∷ []) worked_lines

-- Stations.
abbrev pub A : ℕ
A = 1

abbrev pub B : ℕ
B = 2

-- Operators.
abbrev pub ANN : ℕ
ANN = 1

abbrev pub BOB : ℕ
BOB = 2

-- Domains, and the device as an object.
abbrev pub DCS : ℕ
DCS = 1

abbrev pub TPC : ℕ
TPC = 2

abbrev pub HV : ℕ
HV = 3

-- States.
abbrev pub OFF : ℕ
OFF = 1

abbrev pub READY : ℕ
READY = 2

abbrev pub RUNNING : ℕ
RUNNING = 3

-- Actions.
abbrev pub CONFIGURE : ℕ
CONFIGURE = 1

abbrev pub START : ℕ
START = 2

abbrev pub STOP : ℕ
STOP = 3
