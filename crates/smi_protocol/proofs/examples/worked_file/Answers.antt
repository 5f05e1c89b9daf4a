use Rattle.std.proofs.Common.{◌≡◌, Ok, refl}
use Rattle.std.specs.Str.Lines.{lines}
use Rattle.smi_tree.specs.Additions.{known_class, with_state, with_action, with_station, with_operator, with_class}
use Rattle.smi_tree.specs.Additions.{with_move, with_accepted, with_rule, known_parent, has_room, with_domain}
use Rattle.smi_tree.specs.Additions.{with_device}
use Rattle.smi_tree.specs.Declaration.{one_name, two_names, three_names, four_names, tree_line, station_line, parent}
use Rattle.smi_tree.specs.Declaration.{domain_line}
use Rattle.smi_tree.specs.File.{tree_of, with_line, with_lines, with_words}
use Rattle.smi_tree.specs.Hierarchy.{ancestors, undeclared}
use Rattle.smi_tree.specs.Number.{address_of}
use Rattle.smi_tree.proofs.TreeLemmas.{IsTree-read}
use Rattle.smi_protocol.specs.examples.WorkedTree.{worked_file, worked_tree}
use Rattle.smi_protocol.proofs.examples.worked_file.Goals as goal

-- what its lines make, one after the other
of_lines : with_lines 1 undeclared (lines worked_file) ≡ Ok worked_tree
unfolding with_lines with_line with_words tree_line one_name two_names three_names four_names station_line parent
    domain_line address_of known_class with_state with_action with_station with_operator with_class with_move
    with_accepted with_rule known_parent has_room with_domain with_device ancestors
of_lines = refl

pub returns-clause-read : goal.returns-clause-read
unfolding tree_of
returns-clause-read c = rw of_lines refl

pub returns-clause-tree : goal.returns-clause-tree
returns-clause-tree c = IsTree-read (lines worked_file) worked_tree of_lines refl
