-- Stations in states of which the examples of refusals and outcomes begin.
use Rattle.std.specs.Prelude.{ℕ, List, [], ◌∷◌, map, replicate}
use Rattle.smi_grant.specs.declared.Command.{Command}
use Rattle.smi_grant.specs.declared.Command.TheVariants.{Do}
use Rattle.smi_grant.specs.declared.Holder.TheVariants.{Operator, Domain}
use Rattle.smi_grant.specs.declared.Phase.TheVariants.{Settled}
use Rattle.smi_grant.specs.Record.{standing}
use Rattle.smi_message.specs.declared.Body.TheVariants as body
use Rattle.smi_tree.specs.Hierarchy.{Hierarchy}
use Rattle.smi_command.specs.declared.Link.{Link}
use Rattle.smi_rows.specs.declared.Mode.{Mode}
use Rattle.smi_protocol.specs.Grants.{put, with_record, with_link}
use Rattle.smi_protocol.specs.Display.{Station}
use Rattle.smi_protocol.specs.Happening.{Comes, Orders}
use Rattle.smi_protocol.specs.Opening.{first_opened}
use Rattle.smi_protocol.specs.Step.{Outcome, after}
use Rattle.smi_protocol.specs.declared.order.Order.{Order}
use Rattle.smi_protocol.specs.declared.entry.Entry.{Entry}
use Rattle.smi_protocol.specs.declared.entry.Entry.TheVariants as entry
use Rattle.smi_protocol.specs.examples.WorkedTree.{A, ANN, DCS}

-- Station A, of which ANN's link to DCS is this.
abbrev pub linked : Hierarchy → Link → Station
linked h l = let s = first_opened h A in record s { grants = with_link s.grants (Operator ANN) DCS l }

-- the codes that ANN is told at once where she orders
abbrev pub told_at_once : Hierarchy → Station → Order → List ℕ
told_at_once h s what = map (λ a. a.told.code) (after h A s (Orders ANN what)).out.answers

-- Station A, where ANN holds DCS at epoch 1 and DCS has this link, in this mode, to domain 2.
abbrev pub with_child : Hierarchy → Link → Mode → Station
with_child h l m =
    let s = first_opened h A in
    record s {
      grants = record (with_link (with_record s.grants DCS (standing 1 (Operator ANN) 0 Settled 0)) (Domain DCS) 2
          l) { modes = put s.grants.modes 2 m };
    }

-- ANN's first command reaches DCS
abbrev pub runs : Hierarchy → Station → Command → Outcome
runs h s c = after h A s (Comes (record { from = A; to = A; tree = 17; body = body.Run DCS (Operator ANN) 1 1 c }))

-- how commands have ended
abbrev pub outcomes_in : List Entry → List ℕ
outcomes_in [] = []
outcomes_in (entry.Settled d e n x ∷ more) = x ∷ outcomes_in more
outcomes_in (other ∷ more) = outcomes_in more

-- the command ends at once, with these outcomes
abbrev pub outcomes : Hierarchy → Link → Mode → Command → List ℕ
outcomes h l m c = outcomes_in (runs h (with_child h l m) c).kept

-- commands DO 1 that are pending
abbrev pub pending : ℕ → List Command
pending n = replicate n (Do 1)
