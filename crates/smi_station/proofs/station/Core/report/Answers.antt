use Rattle.std.proofs.Common.{◌≡◌, ◌∙◌, Ok, Some, None, Bool, true, false, refl, ap, sym}
use Rattle.std.specs.Prelude.{if◌then◌else◌}
use Rattle.smi_tree.specs.Hierarchy.{Hierarchy}
use Rattle.smi_protocol.specs.Happening.{Reports}
use Rattle.smi_protocol.specs.Refusals.{is_report_here}
use Rattle.smi_protocol.specs.Step.{after}
use Rattle.smi_protocol.specs.declared.event.Heard.TheVariants.{Same}
use Rattle.smi_station.specs.Core.{Core, Steps, core_with, number_of, station_of, tree_of}
use Rattle.smi_station.proofs.Steps.{made_tidy, running, stands}
use Rattle.smi_station.proofs.Steps.{taken_steps}
use Rattle.smi_station.proofs.station.Core.report.Goals as goal

pub invariant_of-self : goal.invariant_of-self
invariant_of-self c =
    let i = c.self.inside in
    let d2 = c.report-self-inside.new.display in
    record {
      halves = c.report-self-inside.ensures.halves;
      tidy = made_tidy i.kept i.kept i.display d2 c.report-self-inside.result (Reports c.args.device c.args.state)
          (Ok Same) c.report-self-inside.ensures.station (refl, refl) tt c.self.invariant.tidy;
      room = c.report-self-inside.ensures.room;
    }

pub report-self-inside-requires-clause-room : goal.report-self-inside-requires-clause-room
report-self-inside-requires-clause-room c =
    let i = c.self.inside in
    c.self.invariant.room (running i.kept i.display i.is_stopped c.args.self.now c.self.view_is c.requires.runs)

pub returns-clause-step : goal.returns-clause-step
returns-clause-step c =
    let i = c.self.inside in
    let here : is_report_here i.kept.tree i.kept.number c.args.device c.args.state ≡ true =
    sym (ap (λ (h : Hierarchy). is_report_here h c.number.result c.args.device c.args.state) c.tree.ensures.value
    ∙ ap (λ n. is_report_here i.kept.tree n c.args.device c.args.state) c.number.ensures.value)
    ∙ sym c.is_report_here.ensures ∙ c.if-not-is_report_here.false in
    stands i.kept i.display i.is_stopped c.args.self.now c.self.view_is c.requires.runs
    (λ (before : Core). Steps before (core_with i.kept c.report-self-inside.new.display c.report-self-inside.result)
    (after (tree_of before) (number_of before) (station_of before) (Reports c.args.device c.args.state))
    c.report-self-inside.new.out (Ok Same))
    (taken_steps (core_with i.kept i.display false)
    (core_with i.kept c.report-self-inside.new.display c.report-self-inside.result)
    (Reports c.args.device c.args.state) c.report-self-inside.new.out (Ok Same)
    (ap (λ (b : Bool). if b then None else Some 26) here)
    (record {
      station = c.report-self-inside.ensures.station;
      heard = refl;
      out = c.report-self-inside.ensures.out;
      cleared = tt;
      tree = refl;
      number = refl;
    }))
