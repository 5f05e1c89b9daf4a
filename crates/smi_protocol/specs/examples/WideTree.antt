-- Trees for what the worked tree is too small for.
use Rattle.std.specs.Prelude.{ℕ, ◌+◌, ◌/◌, ◌%◌, List, [], ◌∷◌, ◌++◌, map, replicate, Some, None, codes}
use Rattle.std.specs.List.{range_with_len}
use Rattle.smi_tree.specs.Hierarchy.{Hierarchy}
use Rattle.smi_tree.specs.declared.row.Device.{Device}
use Rattle.smi_protocol.specs.examples.WorkedTree.{worked_tree, address, domain}

-- the worked tree, with a domain SEC under TPC at station B
abbrev pub deep_tree : Hierarchy
deep_tree = record worked_tree {
  domain_names = codes "DCS" ∷ codes "TPC" ∷ codes "SEC" ∷ [];
  domains = domain 1 2 None ∷ domain 2 2 (Some 1) ∷ domain 2 2 (Some 2) ∷ [];
}

-- its third domain
abbrev pub SEC : ℕ
SEC = 3

-- a letter and two further ones that tell a number below 256
abbrev pub named : ℕ → ℕ → List ℕ
named letter n = letter ∷ (65 + n / 16) ∷ (65 + n % 16) ∷ []

-- this many different names
abbrev pub names : ℕ → ℕ → List (List ℕ)
names letter count = map (named letter) (range_with_len 1 count)

-- a device in that domain
abbrev pub device_in : ℕ → Device
device_in d = record { domain = d; class = 1 }

-- 65 stations; the first keeps seventeen domains without parents, the first three of which have sixteen devices
-- each: 65 objects
abbrev pub wide_tree : Hierarchy
wide_tree = record worked_tree {
  station_names = names 83 65;
  addresses = map address (range_with_len 9001 65);
  domain_names = names 68 17;
  domains = replicate 17 (domain 1 2 None);
  device_names = names 86 48;
  devices = replicate 16 (device_in 1) ++ replicate 16 (device_in 2) ++ replicate 16 (device_in 3);
}
