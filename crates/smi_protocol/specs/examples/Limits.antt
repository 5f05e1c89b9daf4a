-- Stations at their limits.
use Rattle.std.specs.Prelude.{ℕ, ◌^◌, nat_le, true, if◌then◌else◌, List, [], ◌∷◌, map}
use Rattle.std.specs.List.{range_with_len}
use Rattle.smi_grant.specs.declared.Holder.TheVariants.{Free, Operator, Domain}
use Rattle.smi_grant.specs.declared.Phase.TheVariants.{Settled, Busy}
use Rattle.smi_grant.specs.Record.{standing}
use Rattle.smi_message.specs.declared.Body.{Body}
use Rattle.smi_message.specs.declared.Body.TheVariants as body
use Rattle.smi_tree.specs.Hierarchy.{Hierarchy}
use Rattle.smi_command.specs.declared.Link.TheVariants.{Out, Taking}
use Rattle.smi_watchers.specs.Watching.{watcher}
use Rattle.smi_protocol.specs.Display.{Station}
use Rattle.smi_protocol.specs.Grants.{with_record, with_link}
use Rattle.smi_protocol.specs.Happening.{Comes, Ticks}
use Rattle.smi_protocol.specs.Messages.{says}
use Rattle.smi_protocol.specs.Opening.{first_opened}
use Rattle.smi_protocol.specs.Played.{Sending, sending_of, subject_of}
use Rattle.smi_protocol.specs.Step.{Outcome, after}
use Rattle.smi_protocol.specs.examples.WorkedTree.{worked_tree, A, ANN, DCS, TPC}
use Rattle.smi_protocol.specs.examples.WideTree.{wide_tree}

-- what a datagram with this body brings about at station A, sent by that station
abbrev pub comes : Hierarchy → Station → ℕ → Body → Outcome
comes h s from what = after h A s (Comes (says h from A what))

-- what was sent, as the examples show it
abbrev pub sendings : Outcome → List Sending
sendings o = map sending_of o.out.datagrams

-- Station A of the wide tree, where ANN asks for the first sixteen domains.
abbrev pub sixteen_taken : Station
sixteen_taken =
    let s = first_opened wide_tree A in
    record s { grants = record s.grants { links = λ who d. if nat_le d 16 then Taking 0 else Out 0 } }

-- Station A of the wide tree, where an operator watches each of the 65 objects.
abbrev pub all_named : Station
all_named = let s = first_opened wide_tree A in record s { display = record s.display { named = λ x. true } }

-- a tick of station A of the wide tree
abbrev pub tick : Station → Outcome
tick s = after wide_tree A s Ticks

-- the objects that datagrams are about
abbrev pub subjects : Outcome → List ℕ
subjects o = map (λ m. subject_of m.body) o.out.datagrams

-- Station A of the wide tree, where stations 2 to 65 have watched object 1 since their first boot.
abbrev pub crowded : Station
crowded =
    let s = first_opened wide_tree A in
    record s {
      display = record s.display {
        watchers = map (λ station. watcher station 1) (range_with_len 2 64) ∷ [];
        echoes = λ station. 1;
      };
    }

-- Station A, where DCS is busy with ANN's first command, to include TPC, at the last epoch of TPC.
abbrev pub last_epoch_taken : Station
last_epoch_taken =
    let s = first_opened worked_tree A in
    record s {
      grants = with_link (with_record s.grants DCS (standing 1 (Operator ANN) 1 Busy 0)) (Domain DCS) TPC
          (Taking (2 ^ 62));
    }

-- TPC is free at the last epoch
abbrev pub free_at_last_epoch : Body
free_at_last_epoch = body.Tell TPC (standing (2 ^ 62) Free 0 Settled 0)
